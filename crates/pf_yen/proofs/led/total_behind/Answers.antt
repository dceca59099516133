use Rattle.std.proofs.Common.{◌≡◌, ◌+ℤ◌, Some, IfSome, ◌∙◌, ℤ, ap, Option, None}
use Rattle.pf_yen.proofs.led.total_behind.Goals as goal

total : {C : Type 0} (value : C → ℤ) (fits : ℤ → Type 0) (spent rest : Option C) (s x t more : C) (r : Option C) → spent ≡ Some s → rest ≡ Some x → value t ≡ value s +ℤ value x → (elim r as (λ _. Type 0) [ None ↦ ¬ (fits (value t +ℤ value more)) | Some u ↦ fits (value t +ℤ value more) × (value u ≡ value t +ℤ value more) ]) → IfSome r (λ u. (s : C) × (x : C) × (spent ≡ Some s) × (rest ≡ Some x) × (value u ≡ (value s +ℤ value x) +ℤ value more))
total value fits spent rest s x t more None a b e m = tt
total value fits spent rest s x t more (Some u) a b e m = (s, x, a, b, m.1 ∙ ap (λ (z : ℤ). z +ℤ value more) e)

pub returns-in_err-spent : goal.returns-in_err-spent
returns-in_err-spent g c = rw c.from_residual.ensures tt

pub returns-in_err-rest : goal.returns-in_err-rest
returns-in_err-rest g c = rw c.from_residual-in_err-rest.ensures tt

pub returns-in_err-checked_add : goal.returns-in_err-checked_add
returns-in_err-checked_add g c = rw c.from_residual-in_err-checked_add.ensures tt

pub returns : goal.returns
returns g c =
    let law = g.met.C.CheckedAdd.checked_add_law in
    let sum = c.in_ok-checked_add.field-0 in
    let adds = law c.in_ok-spent.field-0 c.in_ok-rest.field-0 (Some sum) c.in_ok-checked_add.ensures in
    total g.C.Number.value g.C.Number.fits c.args.spent c.args.rest c.in_ok-spent.field-0 c.in_ok-rest.field-0 sum c.args.more c.checked_add-2.result c.in_ok-spent.was c.in_ok-rest.was adds.1 (law sum c.args.more c.checked_add-2.result c.checked_add-2.ensures)
