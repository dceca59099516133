use Rattle.std.proofs.Common.{◌≡◌, ℕ, subst, map, [], ◌∷◌}
use Rattle.std.specs.Prelude.{IfOk}
use Rattle.std.specs.Option.{option_map}
use Rattle.std.proofs.lemmas.Result.{IfOk-weaker}
use Rattle.pf_base.specs.NodeRefs.{nodes_of}
use Rattle.pf_base.specs.Successors.{IsFewestEdgesGoalPath}
use Rattle.pf_edge_lists.specs.EdgeLists.{NamesAndEdges, targets_from}
use Rattle.pf_name_numbers.specs.Numbered.{is_numbered}
use Rattle.pf_name_numbers.proofs.AnswersByName.{answered, fewest_by_name, no_way_by_name, no_way_nowhere}
use Rattle.pf_name_numbers.proofs.NamedNumbers.{With, name_at}
use Rattle.pf_name_both_ends.proofs.fewest_edges.bfs_bidirectional.Goals as goal

pub returns-in_default-clause-best : goal.returns-in_default-clause-best
returns-in_default-clause-best g c =
    let laws = g.met.N.Eq.laws in
    let from = c.args.from.now in
    let start = c.number_or_next-start.result in
    let begins = subst (λ (l : NamesAndEdges g.row.N.Denot g.row.C.Denot). With laws l from start from) c.forth-list.ensures c.number_or_next-start.ensures in
    let tests = subst (λ (l : NamesAndEdges g.row.N.Denot g.row.C.Denot). (k : ℕ) (x : g.row.N.Denot) → With laws l from k x → is_numbered c.goal_of.result.number k ≡ g.N.PartialEq.eq x c.args.to.now) c.forth-list.ensures c.goal_of.ensures in
    no_way_nowhere laws g.C.Number.value c.args.graph.now.forth from start begins c.args.to.now c.goal_of.result.number tests c.in_default.is

pub returns-clause-best : goal.returns-clause-best
returns-clause-best g c =
    let laws = g.met.N.Eq.laws in
    let eq = g.N.PartialEq.eq in
    let list = c.args.graph.now.forth in
    let from = c.args.from.now in
    let start = c.number_or_next-start.result in
    let begins = subst (λ (l : NamesAndEdges g.row.N.Denot g.row.C.Denot). With laws l from start from) c.forth-list.ensures c.number_or_next-start.ensures in
    let tests = subst (λ (l : NamesAndEdges g.row.N.Denot g.row.C.Denot). (k : ℕ) (x : g.row.N.Denot) → With laws l from k x → is_numbered c.goal_of.result.number k ≡ eq x c.args.to.now) c.forth-list.ensures c.goal_of.ensures in
    let at_goal = rw c.in-Some.is at tests in
    let named = subst (λ (l : NamesAndEdges g.row.N.Denot g.row.C.Denot). IfOk c.named_path.result (λ answer. option_map (λ names. nodes_of names.items) answer ≡ option_map (λ numbers. map (name_at eq l from) numbers.items) c.in_ok-path.path)) c.forth-list.ensures c.named_path.ensures.names in
    IfOk-weaker c.named_path.result _ _ (λ answer e. answered (name_at eq list from) answer c.in_ok-path.path e _ _ _ (IsFewestEdgesGoalPath eq (targets_from eq list) (from ∷ []) (λ x. eq x c.args.to.now))
    (no_way_by_name laws g.C.Number.value list from start begins _ _ at_goal) (λ w b. fewest_by_name laws g.C.Number.value list from start begins _ _ at_goal w.items b) c.in_ok-path.ensures.best) named
