use Rattle.std.proofs.Common.{◌≡◌, ap, ◌∙◌, Bool, true, false, arith, refl, Some}
use Rattle.std.specs.Prelude.{◌<ℤ◌, ◌≤ℤ◌, ℤ, MatchBool}
use Rattle.std.specs.Ordering.{is_some_and, is_lt}
use Rattle.std.proofs.lemmas.Int.{ints}
use Rattle.pf_base.proofs.ListLemmas.{lt_means}
use Rattle.pf_deepening.proofs.cut_off.is_below.Goals as goal

pub returns-in-Some : goal.returns-in-Some
returns-in-Some g c =
    let value = g.C.Number.value in
    let o = g.met.C.Number.order_law c.args.sum c.in-Some.least g.met.C.Integral.exact_law in
    rw c.in-Some.is (below value c.in-Some.least (value c.args.sum) c.lt.result (lt_means (value c.args.sum) (value c.in-Some.least) c.lt.result (c.lt.ensures ∙ ap (is_some_and is_lt) o)))
  where
    below : {C : Type 0} (value : C → ℤ) (m : C) (s : ℤ) (r : Bool) → MatchBool r (s <ℤ value m) (value m ≤ℤ s) → MatchBool r ((n : C) → Some m ≡ Some n → s ≤ℤ value n) ((n : C) × (Some m ≡ Some n) × (value n ≤ℤ s))
    below value m s true h = λ n e. let one : m ≡ n = cc in omega (arith, ints, h, ap value one)
    below value m s false h = (m, refl, h)
