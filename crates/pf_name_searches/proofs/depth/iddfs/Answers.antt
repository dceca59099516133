use Rattle.std.proofs.Common.{◌∷◌, []}
use Rattle.std.proofs.lemmas.Result.{IfOk-weaker}
use Rattle.pf_base.specs.Successors.{IsFewestEdgesGoalPath}
use Rattle.pf_edge_lists.specs.EdgeLists.{targets_from}
use Rattle.pf_name_numbers.proofs.NamedNumbers.{name_at}
use Rattle.pf_name_numbers.proofs.AnswersByName.{answered, fewest_by_name, no_way_by_name}
use Rattle.pf_name_searches.proofs.depth.iddfs.Goals as goal

pub returns-clause-best : goal.returns-clause-best
returns-clause-best g c =
    let laws = g.met.N.Eq.laws in
    let list = c.args.list.now in
    let from = c.args.from.now in
    let start = c.number_or_next-start.result in
    let begins = c.number_or_next-start.ensures in
    IfOk-weaker c.named_path.result _ _ (λ answer e. answered (name_at g.N.PartialEq.eq list from) answer c.in_ok-path.path e _ _ _ (IsFewestEdgesGoalPath g.N.PartialEq.eq (targets_from g.N.PartialEq.eq list) (from ∷ []) (λ x. g.N.PartialEq.eq x c.args.to.now))
    (no_way_by_name laws g.C.Number.value list from start begins _ _ c.goal_of-goal.ensures) (λ w b. fewest_by_name laws g.C.Number.value list from start begins _ _ c.goal_of-goal.ensures w.items b) c.in_ok-path.ensures.best) c.named_path.ensures.names
