use Rattle.std.proofs.Common.{◌≡◌, ◌∙◌, ◌<◌, ◌+◌, ◌+ℤ◌, ℤ, Some, arith, length, refl, sym, ap, subst}
use Rattle.std.specs.Prelude.{slice_get}
use Rattle.std.proofs.lemmas.Option.{slice_get_read}
use Rattle.pf_base.specs.Sums.{sum_to}
use Rattle.pf_residual.specs.Listings.{ListsNumbers}
use Rattle.pf_residual.specs.Internal.PartSums.{IsPartSum}
use Rattle.pf_residual.proofs.ChangeSums.{residual_sum}
use Rattle.pf_residual.proofs.NetworkLemmas.{balanced_of}
use Rattle.pf_residual.proofs.PartSums.{part_begin, part_next, part_end, part_sum_fits}
use Rattle.std.proofs.lemmas.Result.{IfOk-from_err}
use Rattle.pf_base.proofs.Outcomes.{refused_as}
use Rattle.pf_residual.proofs.listed_sums.sum_by_lists.Goals as goal

pub ends-init : goal.ends-init
ends-init g c =
    let N = g.S.FlowStore.network c.args.store.now in
    let from = c.rows.from in
    let l : from < N.vertices = omega (arith, c.size-from-end.ensures, c.rows-test.true) in
    let ends = c.deref-end-items.result.now in
    let listed = subst (ListsNumbers g.C.Number.value N.vertices (N.residual from)) (sym c.deref-end-items.ensures.value) c.in_ok-ends.ensures.listed in
    part_begin g.C.Number.value N from ends (λ a m. (balanced_of c.requires).left.at from a l m) listed (g.C.Number.value c.rows.sum) c.rows.invariant

pub plus-sum-requires : goal.plus-sum-requires
plus-sum-requires g c =
    let between = λ (x y z : ℤ). g.C.Number.between_law x y z g.met.C.Integral.exact_law in
    let N = g.S.FlowStore.network c.args.store.now in
    let from = c.rows.from in
    let l : from < N.vertices = omega (arith, c.size-from-end.ensures, c.rows-test.true) in
    let ends = c.deref-end-items.result.now in
    let listed = subst (ListsNumbers g.C.Number.value N.vertices (N.residual from)) (sym c.deref-end-items.ensures.value) c.in_ok-ends.ensures.listed in
    let there : slice_get ends c.ends.end-index ≡ Some c.end-item.result = slice_get_read ends (length ends) c.ends.end-index c.end-item.result refl c.ends-test.true c.end-item.is in
    part_sum_fits (balanced_of c.requires) between g.met.C.SignedCost.negation_law from (c.ends.end-index + 1) ends (g.C.Number.value c.ends.sum +ℤ g.C.Number.value c.end-item.result.1) l
    (part_next g.C.Number.value N from ends (λ a m. (balanced_of c.requires).left.at from a l m) listed c.ends.end-index (g.C.Number.value c.ends.sum) c.ends.invariant c.end-item.result there)

pub ends-preserved : goal.ends-preserved
ends-preserved g c =
    let N = g.S.FlowStore.network c.args.store.now in
    let from = c.rows.from in
    let l : from < N.vertices = omega (arith, c.size-from-end.ensures, c.rows-test.true) in
    let ends = c.deref-end-items.result.now in
    let listed = subst (ListsNumbers g.C.Number.value N.vertices (N.residual from)) (sym c.deref-end-items.ensures.value) c.in_ok-ends.ensures.listed in
    let there : slice_get ends c.ends.end-index ≡ Some c.end-item.result = slice_get_read ends (length ends) c.ends.end-index c.end-item.result refl c.ends-test.true c.end-item.is in
    subst (IsPartSum N from ends (c.ends.end-index + 1)) (sym c.plus-sum.ensures)
    (part_next g.C.Number.value N from ends (λ a m. (balanced_of c.requires).left.at from a l m) listed c.ends.end-index (g.C.Number.value c.ends.sum) c.ends.invariant c.end-item.result there)

pub rows-preserved : goal.rows-preserved
rows-preserved g c =
    let N = g.S.FlowStore.network c.args.store.now in
    let from = c.rows.from in
    let l : from < N.vertices = omega (arith, c.size-from-end.ensures, c.rows-test.true) in
    let ends = c.deref-end-items.result.now in
    let listed = subst (ListsNumbers g.C.Number.value N.vertices (N.residual from)) (sym c.deref-end-items.ensures.value) c.in_ok-ends.ensures.listed in
    part_end g.C.Number.value N from ends (λ a m. (balanced_of c.requires).left.at from a l m) listed c.ends.end-index (g.C.Number.value c.ends.sum) c.ends.invariant (omega (arith, c.ends-test.false))

pub returns-clause-sum : goal.returns-clause-sum
returns-clause-sum g c =
    let N = g.S.FlowStore.network c.args.store.now in
    let all : c.rows.from ≡ N.vertices = omega (arith, c.size-from-end.ensures, c.rows-test.false, c.rows.auto.from-end) in
    c.rows.invariant ∙ ap (sum_to (λ a. sum_to (N.residual a) N.vertices)) all ∙ residual_sum (balanced_of c.requires)

pub returns-in_err-ends-clause-sum : goal.returns-in_err-ends-clause-sum
returns-in_err-ends-clause-sum g c = IfOk-from_err _ _ c.from_residual.ensures.0

pub returns-in_err-ends-clause-refused : goal.returns-in_err-ends-clause-refused
returns-in_err-ends-clause-refused g c = refused_as _ c.from_residual.result _ c.from_residual.ensures.1 c.in_err-ends.ensures.refused
