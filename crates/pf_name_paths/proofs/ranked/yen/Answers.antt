use Rattle.std.proofs.Common.{Err, ap, subst, sym}
use Rattle.std.proofs.lemmas.Result.{IfOk-weaker}
use Rattle.pf_base.proofs.Outcomes.{error_of}
use Rattle.pf_edge_lists.specs.EdgeLists.{edges_from}
use Rattle.pf_name_numbers.specs.Numbered.{names_with}
use Rattle.pf_name_numbers.proofs.NamedNumbers.{edges_with, name_at, with_apart, zip_named}
use Rattle.pf_edge_lists.proofs.NameWalks.{past_out}
use Rattle.pf_yen.specs.KCheapest.{IsKCheapest}
use Rattle.pf_name_paths.proofs.CleanNames.{path_past_out}
use Rattle.pf_name_paths.proofs.RankedNames.{ranked_out}
use Rattle.pf_name_paths.proofs.ranked.yen.Goals as goal

pub returns-in_err-paths-clause-overflow : goal.returns-in_err-paths-clause-overflow
returns-in_err-paths-clause-overflow g c = λ e.
    let laws = g.met.N.Eq.laws in
    let list = c.args.list.now in
    let from = c.args.from.now in
    let f = error_of c.from_residual.result _ _ c.from_residual.ensures.1 e in
    path_past_out laws (names_with g.N.PartialEq.eq list from) (with_apart laws list from) _ _ (edges_with laws list from g.C.Number.value)
    c.number_or_next-start.result from c.number_or_next-start.ensures _ _ c.goal_of-goal.ensures g.C.Number.fits (c.in_err-paths.ensures.overflow (ap Err f))

pub returns-in_err-paths-clause-first_overflow : goal.returns-in_err-paths-clause-first_overflow
returns-in_err-paths-clause-first_overflow g c = λ e one.
    let laws = g.met.N.Eq.laws in
    let list = c.args.list.now in
    let from = c.args.from.now in
    let f = error_of c.from_residual.result _ _ c.from_residual.ensures.1 e in
    past_out laws (names_with g.N.PartialEq.eq list from) (with_apart laws list from) _ _ (edges_with laws list from g.C.Number.value)
    c.number_or_next-start.result from c.number_or_next-start.ensures _ _ c.goal_of-goal.ensures g.C.Number.fits (c.in_err-paths.ensures.first_overflow (ap Err f) one)

pub returns-clause-cheapest : goal.returns-clause-cheapest
returns-clause-cheapest g c =
    let laws = g.met.N.Eq.laws in
    let list = c.args.list.now in
    let from = c.args.from.now in
    let ranked = ranked_out laws (names_with g.N.PartialEq.eq list from) (with_apart laws list from) (name_at g.N.PartialEq.eq list from) (zip_named laws list from) _ _ (edges_with laws list from g.C.Number.value)
    c.number_or_next-start.result from c.number_or_next-start.ensures _ _ c.goal_of-goal.ensures g.C.Number.value c.args.k _ c.in_ok-paths.ensures.cheapest in
    IfOk-weaker c.named.result _ _ (λ named e. subst (λ ps. IsKCheapest g.N.PartialEq.eq (edges_from g.N.PartialEq.eq g.C.Number.value list) from (λ x. g.N.PartialEq.eq x c.args.to.now) g.C.Number.value c.args.k ps) (sym e) ranked)
    (rw c.deref.ensures.value at c.named.ensures.names)
