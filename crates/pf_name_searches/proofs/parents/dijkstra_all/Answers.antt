use Rattle.std.specs.HashMap.{get}
use Rattle.std.proofs.Common.{Err, ap, sym, subst, nat_eq, map, refl, false}
use Rattle.std.proofs.lemmas.Result.{IfOk-weaker}
use Rattle.pf_base.proofs.Outcomes.{error_of}
use Rattle.pf_base.specs.Walks.{NoRepeats}
use Rattle.pf_edge_lists.specs.EdgeLists.{edges_from}
use Rattle.pf_edge_lists.proofs.NameWalks.{past_out}
use Rattle.pf_name_numbers.specs.Numbered.{names_with}
use Rattle.pf_name_numbers.proofs.NamedNumbers.{edges_with, with_apart}
use Rattle.pf_name_searches.specs.NameParents.{entry_of}
use Rattle.pf_name_searches.proofs.MapByName.{map_by_name, once_by_name}
use Rattle.pf_search.specs.Parents.{IsCheapestMap}
use Rattle.pf_name_searches.proofs.parents.dijkstra_all.Goals as goal

pub returns-in_err-parents-clause-overflow : goal.returns-in_err-parents-clause-overflow
returns-in_err-parents-clause-overflow g c = λ e.
    let laws = g.met.N.Eq.laws in
    let list = c.args.list.now in
    let from = c.args.from.now in
    let f = error_of c.from_residual.result _ _ c.from_residual.ensures.1 e in
    past_out laws (names_with g.N.PartialEq.eq list from) (with_apart laws list from) _ _ (edges_with laws list from g.C.Number.value)
    c.number_or_next-start.result from c.number_or_next-start.ensures (λ _. false) (λ _. false) (λ k x s. refl) g.C.Number.fits (c.in_err-parents.ensures.overflow (ap Err f))

pub returns-clause-cheapest : goal.returns-clause-cheapest
returns-clause-cheapest g c =
    let list = c.args.list.now in
    let from = c.args.from.now in
    let m = map_by_name g.met.N.Eq.laws list from g.C.Number.value (get nat_eq c.in_ok-parents.parents) c.number_or_next-start.result c.number_or_next-start.ensures c.in_ok-parents.ensures.cheapest in
    IfOk-weaker c.named.result _ _ (λ named e. subst (λ es. IsCheapestMap g.N.PartialEq.eq (edges_from g.N.PartialEq.eq g.C.Number.value list) from g.C.Number.value (entry_of g.N.PartialEq.eq es)) (sym e) m) c.named.ensures.names

pub returns-clause-once : goal.returns-clause-once
returns-clause-once g c =
    let once = once_by_name g.met.N.Eq.laws c.args.list.now c.args.from.now (get nat_eq c.in_ok-parents.parents) in
    IfOk-weaker c.named.result _ _ (λ named e. subst (λ es. NoRepeats g.N.PartialEq.eq (map (λ entry. entry.0) es)) (sym e) once) c.named.ensures.names
