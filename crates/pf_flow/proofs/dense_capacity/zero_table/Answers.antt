use Rattle.std.proofs.Common.{◌≡◌, ℕ, ◌∙◌, ap, refl, rules}
use Rattle.pf_matrix.proofs.CallLemmas.{callable_at_positions, given_at_positions}
use Rattle.pf_residual.proofs.DenseLemmas.{zeros}
use Rattle.pf_flow.proofs.dense_capacity.zero_table.Goals as goal

pub from_fn-requires-clause-callable : goal.from_fn-requires-clause-callable
from_fn-requires-clause-callable g c = callable_at_positions _ _ _ (λ p y f k. search rules) (λ r k a b. search rules)

pub returns-in-Ok-clause-zero : goal.returns-in-Ok-clause-zero
returns-in-Ok-clause-zero g c =
    let e = c.in-Ok.ensures in
    zeros g.C.Number.value c.args.size c.in-Ok.table (record { rows = e.rows; columns = e.columns; matrix = e.matrix })
    (λ r k d p q. ap g.C.Number.value (given_at_positions (λ (p : ℕ × ℕ) (y : g.row.C.Denot). y ≡ g.C.Zero.zero) e.values (λ p y f s. search rules) r k d p q)
    ∙ g.met.C.Zero.zero_law g.met.C.Integral.exact_law) g.C.Zero.zero

pub from_fn-requires-clause-fits : goal.from_fn-requires-clause-fits
from_fn-requires-clause-fits g c = c.requires

pub from_fn-requires-clause-filled : goal.from_fn-requires-clause-filled
from_fn-requires-clause-filled g c = λ l. l

pub returns-in-Ok-clause-square : goal.returns-in-Ok-clause-square
returns-in-Ok-clause-square g c =
    let e = c.in-Ok.ensures in
    record { rows = e.rows; columns = e.columns; matrix = e.matrix }

pub returns-in-Err-clause-refused : goal.returns-in-Err-clause-refused
returns-in-Err-clause-refused g c = refl
