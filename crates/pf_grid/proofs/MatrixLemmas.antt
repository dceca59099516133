-- A table of truth values as a grid, one position after another.
use Rattle.std.proofs.Common.{◌≡◌, ◌∙◌, ap, sym, arith, ℕ, ◌+◌, ◌<◌, ◌≤◌, Bool, true, false, ◌&&◌, ◌||◌, nat_eq, nat_lt, refl}
use Rattle.std.specs.Prelude.{if◌then◌else◌}
use Rattle.std.proofs.lemmas.Bool.Decides.{nat_tests}
use Rattle.std.proofs.lemmas.Bool.{eqb-true}
use Rattle.pf_matrix.specs.Tables.{Table, value_at}
use Rattle.pf_grid.specs.GridPositions.{is_position}
use Rattle.pf_grid.proofs.CellLemmas.{and_first, and_second}

-- whether (x, y) comes before (at, row) by rows
abbrev pub is_before : ℕ → ℕ → ℕ → ℕ → Bool
is_before at row x y = nat_lt y row || (nat_eq y row && nat_lt x at)

-- the values at the positions before (at, row)
abbrev pub table_to : Table Bool → ℕ → ℕ → ℕ → ℕ → Bool
table_to m at row x y = is_before at row x y && value_at m y x false

pub none_before : (x y : ℕ) → is_before 0 0 x y ≡ false
none_before x y = grind (arith, nat_tests)

before_more : (at row x y : ℕ) → is_before (at + 1) row x y ≡ (is_position (at, row) x y || is_before at row x y)
before_more at row x y = grind (arith, nat_tests)

pub row_before : (w at row x y : ℕ) → w ≤ at → x < w → is_before at row x y ≡ is_before 0 (row + 1) x y
row_before w at row x y p q = grind (arith, nat_tests)

pub all_before : (h row x y : ℕ) → h ≤ row → y < h → is_before 0 row x y ≡ true
all_before h row x y p q = grind (arith, nat_tests)

if_there : (p b v r : Bool) → (p ≡ true → v ≡ r) → (if p then v else (b && r)) ≡ ((p || b) && r)
if_there true b v r h = h refl
if_there false b v r h = refl

-- one position more
pub table_more : (m : Table Bool) (at row : ℕ) (v : Bool) → v ≡ value_at m row at false → (x y : ℕ)
    → (if is_position (at, row) x y then v else table_to m at row x y) ≡ table_to m (at + 1) row x y
table_more m at row v e x y =
    if_there (is_position (at, row) x y) (is_before at row x y) v (value_at m y x false)
    (λ i. e ∙ sym (λ j. value_at m (eqb-true y row (and_second (nat_eq x at) _ i) j) (eqb-true x at (and_first _ _ i) j) false))
    ∙ ap (λ b. b && value_at m y x false) (sym (before_more at row x y))
