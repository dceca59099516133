use Rattle.std.proofs.Common.{subst}
use Rattle.std.specs.Prelude.{MatchOption}
use Rattle.pf_base.specs.Walks.{HasNode}
use Rattle.pf_core.specs.Nodes.{StandsFor}
use Rattle.pf_edge_lists.specs.EdgeLists.{names_of}
use Rattle.pf_edge_lists.proofs.EdgeListLemmas.{found_name}
use Rattle.pf_edge_lists.proofs.edge_list.EdgeList.number_of.Goals as goal

pub returns : goal.returns
returns g c =
    let eq = g.N.PartialEq.eq in
    subst (λ es. MatchOption c.get_index_of.result (¬ (HasNode eq (names_of eq es) c.args.name.now)) (λ node. StandsFor eq (names_of eq es) node c.args.name.now)) c.self.view_is
    (subst (λ ns. MatchOption c.get_index_of.result (¬ (HasNode eq ns c.args.name.now)) (λ node. StandsFor eq ns node c.args.name.now)) c.self.invariant.named
    (found_name g.met.N.Eq.laws c.self.inside.names.keys c.args.name.now c.get_index_of.result c.get_index_of.ensures.index))
