-- The numbers of a square, added up by rows.
use Rattle.std.proofs.Common.{◌≡◌, ◌∙◌, sym, ap, subst, ◌<◌, ◌≤◌, ◌+◌, ◌*◌, ◌+ℤ◌, ℕ, ℤ, zero, suc, pos, arith, true, List, length}
use Rattle.std.specs.Prelude.{◌≤ℤ◌, ◌<ℤ◌}
use Rattle.std.proofs.Math.Nat.{suc-mul}
use Rattle.std.proofs.lemmas.Int.{ints}
use Rattle.pf_matrix.specs.Tables.{Table, IsMatrix}
use Rattle.pf_base.specs.Places.{number}
use Rattle.pf_residual.specs.Capacities.{square_table, HasNegative}
use Rattle.pf_residual.specs.Flows.{PairTable, pair_sum, IsNonNegative}
use Rattle.pf_base.specs.Sums.{sum_to}
use Rattle.pf_residual.specs.Networks.{capacity, HasCapacities}
use Rattle.pf_residual.specs.DenseStores.{table_number, tables_network}
use Rattle.pf_residual.specs.Internal.DenseTables.{table_sum, IsSquare, IsZeroTable}
use Rattle.pf_residual.specs.Internal.Filling.{IsUnused}
use Rattle.pf_residual.proofs.ChangeSums.{sum_prefix}
use Rattle.pf_residual.proofs.DenseLemmas.{number_inside}
use Rattle.pf_residual.proofs.FillLemmas.{square_above, square_negative}
use Rattle.pf_residual.proofs.SumLemmas.{sum_above, sum_ext}

-- the numbers from k on, after those before
sum_on : (u : ℕ → ℤ) (k n : ℕ) → sum_to u (k + n) ≡ sum_to u k +ℤ sum_to (λ b. u (k + b)) n
sum_on u k zero =
    let e : k + zero ≡ k = omega arith in
    let same : sum_to u (k + zero) ≡ sum_to u k = ap (sum_to u) e in
    omega (arith, ints, same)
sum_on u k (suc n) =
    let e : k + suc n ≡ suc (k + n) = omega arith in
    let next : sum_to u (k + suc n) ≡ sum_to u (k + n) +ℤ u (k + n) = ap (sum_to u) e in
    let rest = sum_on u k n in
    omega (arith, ints, next, rest)

-- k rows of n numbers
sum_rows : (u : ℕ → ℤ) (n k : ℕ) → sum_to (λ a. sum_to (λ b. u (a * n + b)) n) k ≡ sum_to u (k * n)
sum_rows u n zero = let e : zero ≡ zero * n = omega arith in ap (sum_to u) e
sum_rows u n (suc k) =
    let next : sum_to u (suc k * n) ≡ sum_to u (k * n + n) = ap (sum_to u) (suc-mul k n) in
    let row = sum_on u (k * n) n in
    let rest = sum_rows u n k in
    omega (arith, ints, next, row, rest)

square_sum : {C : Type 0} (value : C → ℤ) (n : ℕ) (xs : List C) → length xs ≡ n * n → sum_to (number value xs) (length xs) ≡ pair_sum n (square_table value n xs)
square_sum value n xs e = ap (sum_to (number value xs)) e ∙ sym (sum_rows (number value xs) n n)

-- where the sum of some of the numbers from 0 up does not fit, that of all does not
pub part_unfit : {fits : ℤ → Type 0} → ((x y z : ℤ) → fits x → fits z → x ≤ℤ y → y ≤ℤ z → fits y) → fits (pos 0) → (u : ℕ → ℤ) (k n : ℕ) → k ≤ n → ((a : ℕ) → a < n → pos 0 ≤ℤ u a) → (¬ (fits (sum_to u k))) → ¬ (fits (sum_to u n))
part_unfit between zero_fits u k n l h not = λ f. not (between (pos 0) (sum_to u k) (sum_to u n) zero_fits f (sum_above u k (λ a m. h a (omega (arith, l, m)))) (sum_prefix u k n l h))

-- a table that is taken as what is left of the capacities, where there is no flow
module _ {C : Type 0} (value : C → ℤ) (residuals flows : Table C) (source sink : ℕ) (square : IsSquare residuals.rows residuals) (nought : IsZeroTable value residuals.rows flows) where
  given : (a b : ℕ) → a < residuals.rows → b < residuals.rows → table_number value residuals.rows residuals a b ≡ square_table value residuals.rows residuals.values a b
  given a b l m = number_inside value residuals.rows residuals a b l m ∙ ap (λ n. number value residuals.values (a * n + b)) square.columns

  pub taken_capacities : (total : ℤ) → HasCapacities (square_table value residuals.rows residuals.values) (tables_network value residuals flows source sink total true)
  taken_capacities total = record { at = λ a b l m. let r = given a b l m in let f = nought.at a b in omega (arith, ints, r, f) }

  same_sum : (t : PairTable) → ((a b : ℕ) → a < residuals.rows → b < residuals.rows → t a b ≡ square_table value residuals.rows residuals.values a b)
      → pair_sum residuals.rows t ≡ pair_sum residuals.rows (square_table value residuals.rows residuals.values)
  same_sum t h = sum_ext (λ a. sum_to (t a) residuals.rows) (λ a. sum_to (square_table value residuals.rows residuals.values a) residuals.rows) residuals.rows
      (λ a l. sum_ext (t a) (square_table value residuals.rows residuals.values a) residuals.rows (λ b m. h a b l m))

  pub taken_sum : table_sum value residuals ≡ pair_sum residuals.rows (square_table value residuals.rows residuals.values)
  taken_sum = same_sum (table_number value residuals.rows residuals) given

  pub taken_unused : {fits : ℤ → Type 0} (total : ℤ) → total ≡ pos 0 → IsNonNegative residuals.rows (square_table value residuals.rows residuals.values)
      → fits (pair_sum residuals.rows (square_table value residuals.rows residuals.values)) → IsUnused fits (tables_network value residuals flows source sink total true)
  taken_unused {fits} total none above f = record {
    flow = nought.at;
    total = none;
    capacities = record { at = λ a b l m. subst (λ z. pos 0 ≤ℤ z) (sym ((taken_capacities total).at a b l m)) (above.at a b l m) };
    sum = subst fits (sym (same_sum (capacity (tables_network value residuals flows source sink total true)) (taken_capacities total).at)) f;
  }

is_some_row : (n k : ℕ) → k < n * n → 0 < n
is_some_row zero k l = absurd (omega (arith, l))
is_some_row (suc n) k l = omega arith

-- the numbers of a square table, as they were read
module _ {C : Type 0} (value : C → ℤ) (m : Table C) (matrix : IsMatrix m) (square : m.rows ≡ m.columns) (xs : List C) (same : xs ≡ m.values) where
  sized : length m.values ≡ m.rows * m.rows
  sized = matrix.sized ∙ ap (λ n. m.rows * n) (sym square)

  pub read_negative : (k : ℕ) × (k < length xs) × (number value xs k <ℤ pos 0) → HasNegative m.rows (square_table value m.rows m.values)
  read_negative h =
      let k = subst (λ (ys : List C). (k : ℕ) × (k < length ys) × (number value ys k <ℤ pos 0)) same h in
      square_negative value m.values m.rows sized (is_some_row m.rows k.0 (subst (λ n. k.0 < n) sized k.1)) k

  pub read_above : ((k : ℕ) → k < length xs → pos 0 ≤ℤ number value xs k) → IsNonNegative m.rows (square_table value m.rows m.values)
  read_above h = square_above value m.values m.rows sized (subst (λ (ys : List C). (k : ℕ) → k < length ys → pos 0 ≤ℤ number value ys k) same h)

  pub read_sum : sum_to (number value xs) (length xs) ≡ pair_sum m.rows (square_table value m.rows m.values)
  read_sum = ap (λ (ys : List C). sum_to (number value ys) (length ys)) same ∙ square_sum value m.rows m.values sized
