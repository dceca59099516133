use Rattle.std.proofs.Common.{ℕ, ◌<◌, ◌∙◌, sym, ap, subst, rules, length, map}
use Rattle.std.specs.Ordering.{is_lt}
use Rattle.std.proofs.lemmas.List.Sorted.{All-permutation, Contains-permutation, IsPermutation-sym, ranks_by, answers_always}
use Rattle.pf_graph.specs.Spanning.{AreBelow}
use Rattle.pf_union_find.specs.UnionFind.{IsSound, IsLabelling}
use Rattle.pf_graph.proofs.Spanning.CopyLemmas.{least_of_permutation}
use Rattle.std.proofs.lemmas.List.Sorted.{IsPermutation-map}
use Rattle.pf_graph.specs.Internal.Spanning.SpanningSteps.{placed}
use Rattle.pf_graph.proofs.Spanning.PlacedLemmas.{place, placed-sorted}
use Rattle.pf_base.proofs.Outcomes.{if_refused, refused_as}
use Rattle.std.proofs.lemmas.Result.{IfOk-weaker}
use Rattle.pf_graph.proofs.undirected.spanning.spanning_forest.Goals as goal

pub choose_edges-requires-clause-below : goal.choose_edges-requires-clause-below
choose_edges-requires-clause-below g c =
    let vertex = g.V.VertexNumber.stands_for in
    let len = ap length c.deref_mut.ensures.value ∙ c.in_ok-parents.ensures.len in
    subst (λ n. AreBelow n (placed vertex c.sort_unstable_by.new.self.items)) (sym len)
    (All-permutation (λ (e : ℕ × ℕ × g.row.C.Denot). (e.0 < c.args.number_of_nodes) × (e.1 < c.args.number_of_nodes)) (placed vertex c.args.edges.items) (placed vertex c.sort_unstable_by.new.self.items) (IsPermutation-map (place g.V.VertexNumber.stands_for) c.args.edges.items c.sort_unstable_by.new.self.items c.sort_unstable_by.ensures.permutation) c.requires.below)

pub choose_edges-requires-clause-sorted : goal.choose_edges-requires-clause-sorted
choose_edges-requires-clause-sorted g c =
    placed-sorted g.V.VertexNumber.stands_for g.C.Ord.cmp c.sort_unstable_by.new.self.items
    (c.sort_unstable_by.ensures.sorted (λ e f. is_lt (g.C.Ord.cmp e.2 f.2)) (ranks_by g.met.C.Ord.total (λ e. e.2)) (answers_always _ _ _ (λ f a r f' k. search rules)))

pub choose_edges-requires-clause-sound : goal.choose_edges-requires-clause-sound
choose_edges-requires-clause-sound g c = subst (λ ps. IsSound (map g.V.VertexNumber.stands_for ps)) (sym c.deref_mut.ensures.value) c.in_ok-parents.ensures.sound

pub choose_edges-requires-clause-singletons : goal.choose_edges-requires-clause-singletons
choose_edges-requires-clause-singletons g c = subst (λ ps. IsLabelling (λ x. x) (map g.V.VertexNumber.stands_for ps)) (sym c.deref_mut.ensures.value) c.in_ok-parents.ensures.labels

pub returns : goal.returns
returns g c =
    let permutation = IsPermutation-map (place g.V.VertexNumber.stands_for) c.args.edges.items c.sort_unstable_by.new.self.items c.sort_unstable_by.ensures.permutation in
    let edges = placed g.V.VertexNumber.stands_for c.args.edges.items in
    let sorted = placed g.V.VertexNumber.stands_for c.sort_unstable_by.new.self.items in
    record {
      forest = c.choose_edges.ensures.forest;
      least = IfOk-weaker c.choose_edges.result _ _ (λ chosen h. least_of_permutation edges sorted chosen.items permutation h) c.choose_edges.ensures.least;
      given = IfOk-weaker c.choose_edges.result _ _ (λ chosen h e m. Contains-permutation sorted edges e (IsPermutation-sym edges sorted permutation) (h e m)) c.choose_edges.ensures.given;
      sorted = c.choose_edges.ensures.sorted;
      refused = c.choose_edges.ensures.refused;
    }

pub returns-in_err-parents : goal.returns-in_err-parents
returns-in_err-parents g c = record {
  forest = if_refused _ c.from_residual.result _ c.from_residual.ensures.1;
  least = if_refused _ c.from_residual.result _ c.from_residual.ensures.1;
  given = if_refused _ c.from_residual.result _ c.from_residual.ensures.1;
  sorted = if_refused _ c.from_residual.result _ c.from_residual.ensures.1;
  refused = refused_as _ c.from_residual.result _ c.from_residual.ensures.1 c.in_err-parents.ensures.refused;
}
