use Rattle.std.specs.HashMap.{get}
use Rattle.std.proofs.Common.{◌≡◌, ◌∙◌, Err, ap, sym, subst, nat_eq, map}
use Rattle.std.specs.Prelude.{Some}
use Rattle.std.specs.Option.{option_map}
use Rattle.pf_base.proofs.Outcomes.{error_of}
use Rattle.pf_base.specs.Walks.{NoRepeats}
use Rattle.pf_edge_lists.specs.EdgeLists.{edges_from}
use Rattle.pf_edge_lists.proofs.NameWalks.{past_out}
use Rattle.pf_name_numbers.specs.Numbered.{names_with}
use Rattle.pf_name_numbers.proofs.NamedNumbers.{edges_with, name_at, with_apart}
use Rattle.pf_name_searches.specs.NameParents.{entries_in, entry_of}
use Rattle.pf_name_searches.proofs.MapByName.{once_by_name, partial_by_name}
use Rattle.pf_search.specs.Parents.{IsPartialMap}
use Rattle.pf_name_searches.proofs.parents.dijkstra_partial.Goals.{in-Some, in-None}
use Rattle.pf_name_searches.proofs.parents.dijkstra_partial.Goals as goal

pub returns-in_err-parents-clause-overflow : goal.returns-in_err-parents-clause-overflow
returns-in_err-parents-clause-overflow g c = λ e.
    let laws = g.met.N.Eq.laws in
    let list = c.args.list.now in
    let from = c.args.from.now in
    let f = error_of c.from_residual.result _ _ c.from_residual.ensures.1 e in
    past_out laws (names_with g.N.PartialEq.eq list from) (with_apart laws list from) _ _ (edges_with laws list from g.C.Number.value)
    c.number_or_next-start.result from c.number_or_next-start.ensures _ _ c.goal_of-goal.ensures g.C.Number.fits (c.in_err-parents.ensures.overflow (ap Err f))

pub returns-clause-partial : goal.returns-clause-partial
returns-clause-partial g c =
    let eq = g.N.PartialEq.eq in
    let list = c.args.list.now in
    let from = c.args.from.now in
    let edges = edges_from eq g.C.Number.value list in
    let m = partial_by_name g.met.N.Eq.laws list from g.C.Number.value (get nat_eq c.in_ok-parents.parents) c.number_or_next-start.result c.number_or_next-start.ensures _ _ c.goal_of-goal.ensures c.in_ok-parents.stop c.in_ok-parents.ensures.partial in
    let stop : option_map (λ name. name.now) c.match-stop.stop ≡ option_map (name_at eq list from) c.in_ok-parents.stop =
    elim c.match-stop.branch as (λ _. option_map (λ name. name.now) c.match-stop.stop ≡ option_map (name_at eq list from) c.in_ok-parents.stop) [
      | in-Some w ↦ ap (option_map (λ name. name.now)) w.stop-is ∙ ap (λ x. Some x) w.name_or.ensures ∙ sym (ap (option_map (name_at eq list from)) w.in-Some.is)
      | in-None w ↦ ap (option_map (λ name. name.now)) w.stop-is ∙ sym (ap (option_map (name_at eq list from)) w.in-None.is)
    ] in
    subst (IsPartialMap eq edges from g.C.Number.value (entry_of eq (entries_in c.in_ok-named.named.items)) (λ x. eq x c.args.to.now)) (sym stop)
    (subst (λ es. IsPartialMap eq edges from g.C.Number.value (entry_of eq es) (λ x. eq x c.args.to.now) (option_map (name_at eq list from) c.in_ok-parents.stop)) (sym c.in_ok-named.ensures.names) m)

pub returns-clause-once : goal.returns-clause-once
returns-clause-once g c =
    let once = once_by_name g.met.N.Eq.laws c.args.list.now c.args.from.now (get nat_eq c.in_ok-parents.parents) in
    subst (λ es. NoRepeats g.N.PartialEq.eq (map (λ entry. entry.0) es)) (sym c.in_ok-named.ensures.names) once
