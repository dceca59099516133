use Rattle.std.proofs.Common.{◌≡◌, ◌+◌, arith, sym, ◌∙◌, refl, ap, subst, length}
use Rattle.std.specs.Prelude.{Some, None}
use Rattle.std.proofs.lemmas.Option.{slice_get_read}
use Rattle.pf_estimated_graphs.proofs.BoardEstimateLemmas.{IsLeastSoFar, blocked_more, first_open, least_of_all, lower_open, none_open}
use Rattle.pf_estimated_graphs.proofs.board_estimates.least_cost.Goals as goal
use Rattle.pf_estimated_graphs.proofs.board_estimates.least_cost.Goals.{in-Some, in-Some-least, in-None, in_default}

pub loop-number-init : goal.loop-number-init
loop-number-init g c = λ k cost l e. absurd (omega (arith, l))

pub loop-number-preserved : goal.loop-number-preserved
loop-number-preserved g c =
    let value = g.C.Number.value in
    let cells = c.args.cells.now in
    let n = c.loop-number.number in
    let at = slice_get_read cells (length cells) n _ refl (omega arith) c.index-cells-number.is in
    let so = c.loop-number.invariant in
    elim c.match-cell.branch as (λ _. IsLeastSoFar value cells (n + 1) c.match-cell.least) [
      | in-Some w ↦
          let here = at ∙ ap Some w.in-Some.is in
          subst (IsLeastSoFar value cells (n + 1)) (sym w.least-is) (elim w.match-least.branch as (λ _. IsLeastSoFar value cells (n + 1) (Some w.match-least.least)) [
            | in-Some-least v ↦ subst (λ x. IsLeastSoFar value cells (n + 1) (Some x)) (sym v.least-is)
                (lower_open value cells n v.in-Some-least.other w.in-Some.cost v.lesser.result here v.lesser.ensures.lower v.lesser.ensures.also v.lesser.ensures.either (subst (IsLeastSoFar value cells n) v.in-Some-least.is so))
            | in-None v ↦ subst (λ x. IsLeastSoFar value cells (n + 1) (Some x)) (sym v.least-is) (first_open value cells n w.in-Some.cost here (subst (IsLeastSoFar value cells n) v.in-None.is so))
          ])
      | in_default w ↦ subst (IsLeastSoFar value cells (n + 1)) (sym w.least-is) (blocked_more value cells n c.loop-number.least (at ∙ ap Some w.in_default.is) so)
    ]

pub returns-in-Some-least-2 : goal.returns-in-Some-least-2
returns-in-Some-least-2 g c =
    let value = g.C.Number.value in
    let cells = c.args.cells.now in
    let all : c.loop-number.number ≡ length cells = omega arith in
    least_of_all value cells c.in-Some-least-2.cost (subst (λ n. IsLeastSoFar value cells n (Some c.in-Some-least-2.cost)) all (subst (IsLeastSoFar value cells c.loop-number.number) c.in-Some-least-2.is c.loop-number.invariant))

pub returns-in-None-least : goal.returns-in-None-least
returns-in-None-least g c =
    let value = g.C.Number.value in
    let cells = c.args.cells.now in
    let all : c.loop-number.number ≡ length cells = omega arith in
    none_open value cells c.zero.result (ap value c.zero.ensures ∙ g.met.C.Zero.zero_law g.met.C.Integral.exact_law) (subst (λ n. IsLeastSoFar value cells n None) all (subst (IsLeastSoFar value cells c.loop-number.number) c.in-None-least.is c.loop-number.invariant))
