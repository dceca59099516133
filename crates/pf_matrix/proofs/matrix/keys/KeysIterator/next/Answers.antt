use Rattle.std.proofs.Common.{◌≡◌, ℕ, ◌+◌, ◌*◌, ◌<◌, ap, sym, ◌∙◌, arith, ◌∷◌, drop, length}
use Rattle.pf_matrix.specs.Positions.{positions}
use Rattle.pf_matrix.proofs.Ends.{progress_one}
use Rattle.pf_matrix.proofs.PositionLemmas.{positions_more, positions_none}
use Rattle.pf_matrix.proofs.matrix.keys.KeysIterator.next.Goals as goal

-- at the last column the next position is the first of the next row
next_row : (rows columns r c : ℕ) → r < rows → c < columns → c + 1 ≡ columns → drop (r * columns + c) (positions rows columns) ≡ (r, c) ∷ drop ((r + 1) * columns + 0) (positions rows columns)
next_row rows columns r c h k e =
    let at : (r + 1) * columns + 0 ≡ r * columns + c + 1 = omega arith in
    rw at (positions_more rows columns r c h k)

next_column : (rows columns r c : ℕ) → r < rows → c < columns → drop (r * columns + c) (positions rows columns) ≡ (r, c) ∷ drop (r * columns + (c + 1)) (positions rows columns)
next_column rows columns r c h k =
    let at : r * columns + (c + 1) ≡ r * columns + c + 1 = omega arith in
    rw at (positions_more rows columns r c h k)

pub returns-then-self-clause-steps : goal.returns-then-self-clause-steps
returns-then-self-clause-steps c =
    let s = c.self.inside in
    let z = sym c.self.view_is ∙ positions_none s.rows s.columns (s.row * s.columns + s.column) (rw (← c.if-self.true) (omega arith)) in
    (z, z)

pub returns-then-self-2-clause-steps : goal.returns-then-self-2-clause-steps
returns-then-self-2-clause-steps c =
    let s = c.self.inside in
    sym c.self.view_is ∙ next_row s.rows s.columns s.row s.column (omega arith) (c.self.invariant.inside (omega arith)) (omega arith)

pub returns-then-self-2-clause-goes : goal.returns-then-self-2-clause-goes
returns-then-self-2-clause-goes c =
    let e = returns-then-self-2-clause-steps c in
    progress_one (λ keys. keys) _ _ _ tt (omega (arith, ap length e))

pub returns-else-self-2-clause-steps : goal.returns-else-self-2-clause-steps
returns-else-self-2-clause-steps c =
    let s = c.self.inside in
    sym c.self.view_is ∙ next_column s.rows s.columns s.row s.column (omega arith) (c.self.invariant.inside (omega arith))

pub returns-else-self-2-clause-goes : goal.returns-else-self-2-clause-goes
returns-else-self-2-clause-goes c =
    let e = returns-else-self-2-clause-steps c in
    progress_one (λ keys. keys) _ _ _ tt (omega (arith, ap length e))
