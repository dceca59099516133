use Rattle.std.proofs.Common.{◌≡◌, ℤ, Bool, true, false, Some, ap, subst, ◌∙◌}
use Rattle.std.specs.Prelude.{◌<ℤ◌, ◌≤ℤ◌, Option, MatchBool, ⊤}
use Rattle.std.specs.Ordering.{is_some_and, is_lt}
use Rattle.pf_base.proofs.ListLemmas.{lt_means}
use Rattle.pf_informed.proofs.cheapest_labels.is_past.Goals as goal

past : {C : Type 0} (value : C → ℤ) (known : Option C) (best : C) (sum : ℤ) (r : Bool) → known ≡ Some best → MatchBool r (value best <ℤ sum) (sum ≤ℤ value best) → MatchBool r ((b : C) × (known ≡ Some b) × (value b <ℤ sum)) ⊤
past value known best sum true is h = (best, is, h)
past value known best sum false is h = tt

pub returns : goal.returns
returns g c =
    let value = g.C.Number.value in
    let best = c.in-Some.best in
    let sum = c.in-Some-checked_add.sum in
    let is = g.met.C.CheckedAdd.checked_add_law c.args.cost c.args.estimate (Some sum) c.in-Some-checked_add.ensures in
    let o = g.met.C.Number.order_law best sum g.met.C.Integral.exact_law in
    subst (λ (z : ℤ). MatchBool c.lt.result ((b : g.row.C.Denot) × (c.args.best ≡ Some b) × (value b <ℤ z)) ⊤) is.1
    (past value c.args.best best (value sum) c.lt.result c.in-Some.is (lt_means (value best) (value sum) c.lt.result (c.lt.ensures ∙ ap (is_some_and is_lt) o)))

pub returns-in_default : goal.returns-in_default
returns-in_default g c = tt

pub returns-in_default-checked_add : goal.returns-in_default-checked_add
returns-in_default-checked_add g c = tt
