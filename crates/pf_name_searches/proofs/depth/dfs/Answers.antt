use Rattle.std.proofs.Common.{◌∷◌, []}
use Rattle.std.proofs.lemmas.Result.{IfOk-weaker}
use Rattle.pf_base.specs.Successors.{HasSuccessor}
use Rattle.pf_base.specs.Walks.{IsGoalPath}
use Rattle.pf_edge_lists.specs.EdgeLists.{targets_from}
use Rattle.pf_name_numbers.proofs.NamedNumbers.{name_at}
use Rattle.pf_name_numbers.proofs.AnswersByName.{answered, no_way_by_name}
use Rattle.pf_name_searches.proofs.PathByName.{path_by_name, tree_by_name}
use Rattle.pf_search.specs.Preorder.{IsFirstTreePath}
use Rattle.pf_name_searches.proofs.depth.dfs.Goals as goal

pub returns-clause-first : goal.returns-clause-first
returns-clause-first g c =
    let laws = g.met.N.Eq.laws in
    let list = c.args.list.now in
    let from = c.args.from.now in
    let start = c.number_or_next-start.result in
    let begins = c.number_or_next-start.ensures in
    let next = targets_from g.N.PartialEq.eq list in
    IfOk-weaker c.named_path.result _ _ (λ answer e. answered (name_at g.N.PartialEq.eq list from) answer c.in_ok-path.path e _ _ _
    (λ v. IsGoalPath g.N.PartialEq.eq (HasSuccessor g.N.PartialEq.eq next) (from ∷ []) (λ x. g.N.PartialEq.eq x c.args.to.now) v × IsFirstTreePath g.N.PartialEq.eq next from (λ x. g.N.PartialEq.eq x c.args.to.now) v)
    (no_way_by_name laws g.C.Number.value list from start begins _ _ c.goal_of-goal.ensures)
    (λ w b. (path_by_name laws g.C.Number.value list from start begins _ _ c.goal_of-goal.ensures w.items b.0, tree_by_name laws g.C.Number.value list from start begins _ _ c.goal_of-goal.ensures w.items b.0 b.1))
    c.in_ok-path.ensures.first) c.named_path.ensures.names
