use Rattle.std.proofs.Common.{◌≡◌, ◌∷◌, [], List, Bool, false}
use Rattle.std.specs.Prelude.{Contains}
use Rattle.pf_base.specs.Orders.{last_nodes}
use Rattle.pf_base.specs.Successors.{HasSuccessor}
use Rattle.pf_base.specs.Walks.{IsReachable}
use Rattle.pf_search.specs.Internal.Descents.{IsBegunSearch, StandsBefore}
use Rattle.pf_search.proofs.directed.dfs.path_to_first.Given as goal

abbrev pub invariant-nodes : goal.invariant-nodes
invariant-nodes g l =
    let eq = g.N.PartialEq.eq in
    (next : g.row.N.Denot → List g.row.N.Denot) (start : g.row.N.Denot) (test : g.row.N.Denot → Bool)
    → IsBegunSearch eq g.F.SuccessorFunction.answers g.T.NodeTest.answers next start test (g.M.Numbering.keys l.fn.descent.visited) l.fn.descent.path.items l.fn.descent.waiting.items l.fn.successors l.fn.success
    → (paths : List (List g.row.N.Denot)) × StandsBefore eq next start paths (g.M.Numbering.keys l.descent.visited) l.descent.path.items l.descent.waiting.items
    × g.F.SuccessorFunction.answers l.successors (IsReachable eq (HasSuccessor eq next) (start ∷ [])) next × g.T.NodeTest.answers l.success (IsReachable eq (HasSuccessor eq next) (start ∷ [])) test
    × ((x : g.row.N.Denot) → Contains (last_nodes paths) x → test x ≡ false)
