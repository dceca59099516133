use Rattle.std.proofs.Common.{◌≡◌, ℕ, Err, ap, subst, ◌==◌, [], ◌∷◌, nat_eq, length}
use Rattle.std.proofs.lemmas.Result.{IfOk-weaker}
use Rattle.pf_base.proofs.Outcomes.{error_of}
use Rattle.pf_base.specs.Edges.{IsCheapestGoalPath}
use Rattle.pf_tables.specs.Graphs.{graph_of}
use Rattle.pf_edge_lists.specs.EdgeLists.{NamesAndEdges, edges_from, names_of, places_of}
use Rattle.pf_name_numbers.specs.Numbered.{found_by, found_in, is_numbered}
use Rattle.pf_name_numbers.proofs.AnswersByName.{cheapest_by_name, found_answered, no_walk_by_name, no_walk_nowhere, overflow_by_name}
use Rattle.pf_name_numbers.proofs.NamedNumbers.{With, name_at}
use Rattle.pf_name_both_ends.proofs.cheapest.dijkstra_bidirectional.Goals as goal

pub returns-in_default-clause-best : goal.returns-in_default-clause-best
returns-in_default-clause-best g c =
    let laws = g.met.N.Eq.laws in
    let from = c.args.from.now in
    let start = c.number_or_next-start.result in
    let begins = subst (λ (l : NamesAndEdges g.row.N.Denot g.row.C.Denot). With laws l from start from) c.forth-list.ensures c.number_or_next-start.ensures in
    let tests = subst (λ (l : NamesAndEdges g.row.N.Denot g.row.C.Denot). (k : ℕ) (x : g.row.N.Denot) → With laws l from k x → is_numbered c.goal_of.result.number k ≡ g.N.PartialEq.eq x c.args.to.now) c.forth-list.ensures c.goal_of.ensures in
    no_walk_nowhere laws g.C.Number.value c.args.graph.now.forth from start begins c.args.to.now c.goal_of.result.number tests c.in_default.is

pub returns-in_err-found-clause-overflow : goal.returns-in_err-found-clause-overflow
returns-in_err-found-clause-overflow g c = λ e.
    let laws = g.met.N.Eq.laws in
    let from = c.args.from.now in
    let start = c.number_or_next-start.result in
    let begins = subst (λ (l : NamesAndEdges g.row.N.Denot g.row.C.Denot). With laws l from start from) c.forth-list.ensures c.number_or_next-start.ensures in
    let tests = subst (λ (l : NamesAndEdges g.row.N.Denot g.row.C.Denot). (k : ℕ) (x : g.row.N.Denot) → With laws l from k x → is_numbered c.goal_of.result.number k ≡ g.N.PartialEq.eq x c.args.to.now) c.forth-list.ensures c.goal_of.ensures in
    let f = error_of c.from_residual.result _ _ c.from_residual.ensures.1 e in
    overflow_by_name laws g.C.Number.value c.args.graph.now.forth from start begins _ _ (rw c.in-Some.is at tests) g.C.Number.fits (c.in_err-found.ensures.overflow (ap Err f))

pub returns-clause-best : goal.returns-clause-best
returns-clause-best g c =
    let laws = g.met.N.Eq.laws in
    let eq = g.N.PartialEq.eq in
    let value = g.C.Number.value in
    let list = c.args.graph.now.forth in
    let from = c.args.from.now in
    let start = c.number_or_next-start.result in
    let begins = subst (λ (l : NamesAndEdges g.row.N.Denot g.row.C.Denot). With laws l from start from) c.forth-list.ensures c.number_or_next-start.ensures in
    let tests = subst (λ (l : NamesAndEdges g.row.N.Denot g.row.C.Denot). (k : ℕ) (x : g.row.N.Denot) → With laws l from k x → is_numbered c.goal_of.result.number k ≡ eq x c.args.to.now) c.forth-list.ensures c.goal_of.ensures in
    let at_goal = rw c.in-Some.is at tests in
    IfOk-weaker c.named_found.result _ _ (λ answer e. found_answered (name_at eq list from) answer c.in_ok-found.found (subst (λ (l : NamesAndEdges g.row.N.Denot g.row.C.Denot). found_in answer ≡ found_by (name_at eq l from) c.in_ok-found.found) c.forth-list.ensures e) _ _
    (λ w t. IsCheapestGoalPath nat_eq (graph_of value (length (names_of eq list)) (places_of eq list)) (start ∷ []) (λ n. n == c.in-Some.goal) w (value t))
    (λ v t. IsCheapestGoalPath eq (edges_from eq value list) (from ∷ []) (λ x. eq x c.args.to.now) v (value t))
    (no_walk_by_name laws value list from start begins _ _ at_goal) (λ w t b. cheapest_by_name laws value list from start begins _ _ at_goal w (value t) b) c.in_ok-found.ensures.best) c.named_found.ensures.names
