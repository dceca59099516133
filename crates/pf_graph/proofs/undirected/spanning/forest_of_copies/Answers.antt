use Rattle.std.proofs.Common.{nat_eq}
use Rattle.std.proofs.lemmas.Result.{IfOk-weaker}
use Rattle.pf_graph.specs.Internal.Spanning.SpanningSteps.{placed}
use Rattle.pf_graph.proofs.Spanning.CopyLemmas.{below_copies, least_of_copies, chosen_of_copies}
use Rattle.pf_graph.proofs.undirected.spanning.forest_of_copies.Goals as goal

pub spanning_forest-requires : goal.spanning_forest-requires
spanning_forest-requires g c = record {
  fit = c.requires.fit;
  below = below_copies g.C.Clone.is_clone c.args.number_of_nodes c.args.edges.now (placed g.V.VertexNumber.stands_for c.in_ok-copies.copies.items) c.in_ok-copies.ensures.copies c.requires.below;
}

pub returns-clause-least : goal.returns-clause-least
returns-clause-least g c = IfOk-weaker c.spanning_forest.result _ _ (λ chosen h. least_of_copies g.C.Clone.is_clone g.met.C.Ord.total g.met.C.Ord.matches_eq c.requires.clones nat_eq c.args.edges.now (placed g.V.VertexNumber.stands_for c.in_ok-copies.copies.items) chosen.items c.in_ok-copies.ensures.copies h) c.spanning_forest.ensures.least

pub returns-clause-as_written : goal.returns-clause-as_written
returns-clause-as_written g c = IfOk-weaker c.spanning_forest.result _ _ (λ chosen h. chosen_of_copies g.C.Clone.is_clone c.args.edges.now (placed g.V.VertexNumber.stands_for c.in_ok-copies.copies.items) chosen.items c.in_ok-copies.ensures.copies h) c.spanning_forest.ensures.given
