-- The positions of a table, one after another.
use Rattle.std.proofs.Common.{◌≡◌, ℕ, zero, suc, ◌+◌, ◌*◌, ◌/◌, ◌%◌, ◌<◌, ◌≤◌, ap, sym, ◌∙◌, arith, true, false, List, [], ◌∷◌, length, drop, get_or, Option, Some, None}
use Rattle.std.specs.Option.{is_some}
use Rattle.std.specs.List.{cons_option, filter_map}
use Rattle.std.specs.Iterator.{MakesProgress, YieldsFirst, item_count}
use Rattle.std.specs.Prelude.{⊤}
use Rattle.std.proofs.lemmas.Bool.{false≢true}
use Rattle.std.proofs.lemmas.List.{at_drop_more, drop_more, drop_all}
use Rattle.std.proofs.lemmas.List.FromFn.{length-map-range_with_len, get_or-map-range_with_len}
use Rattle.std.proofs.lemmas.Nat.{mul-add-lt, div-mul-add, mod-mul-add}
use Rattle.pf_matrix.specs.Positions.{positions}

pub length-positions : (rows columns : ℕ) → length (positions rows columns) ≡ rows * columns
unfolding positions
length-positions rows columns = length-map-range_with_len (λ k. (k / columns, k % columns)) 0 (rows * columns)

-- the position at place k
pub position_at : (rows columns k : ℕ) (d : ℕ × ℕ) → k < rows * columns → get_or (positions rows columns) k d ≡ (k / columns, k % columns)
unfolding positions
position_at rows columns k d h = get_or-map-range_with_len (λ n. (n / columns, n % columns)) 0 (rows * columns) k k d h (omega arith)

-- the position at the place of row r and column c
pub get_or-positions : (rows columns r c : ℕ) (d : ℕ × ℕ) → r < rows → c < columns → get_or (positions rows columns) (r * columns + c) d ≡ (r, c)
get_or-positions rows columns r c d h k =
    position_at rows columns (r * columns + c) d (omega (arith, mul-add-lt r columns c rows h k)) ∙ (λ i. (div-mul-add r columns c k i, mod-mul-add r columns c k i))

-- where there is a place, there are columns
pub wide_at : (rows columns k : ℕ) → k < rows * columns → 0 < columns
wide_at rows zero k h = absurd (omega (arith, h))
wide_at rows (suc w) k h = omega arith

pub positions_more : (rows columns r c : ℕ) → r < rows → c < columns → drop (r * columns + c) (positions rows columns) ≡ (r, c) ∷ drop (r * columns + c + 1) (positions rows columns)
positions_more rows columns r c h k =
    drop_more (positions rows columns) (r * columns + c) (r, c) (omega (arith, length-positions rows columns, mul-add-lt r columns c rows h k))
    ∙ ap (λ p. p ∷ drop (r * columns + c + 1) (positions rows columns)) (get_or-positions rows columns r c (r, c) h k)

pub positions_none : (rows columns k : ℕ) → rows * columns ≤ k → drop k (positions rows columns) ≡ []
positions_none rows columns k h = drop_all k (positions rows columns) (omega (arith, length-positions rows columns))

-- ---- the first of those that are left which leads somewhere

module _ {X Y : Type 0} (f : X → Option Y) (xs : List X) (n : ℕ) (x : X) (inside : n < length xs) where
  next_step : filter_map f (drop n xs) ≡ cons_option (f (get_or xs n x)) (filter_map f (drop (n + 1) xs))
  next_step = at_drop_more (filter_map f) xs n x inside

  pub steps_some : (whole : List Y) (r : Option Y) → r ≡ f (get_or xs n x) → true ≡ is_some r → filter_map f (drop n xs) ≡ whole → YieldsFirst (λ (ys : List Y). ys) whole r (filter_map f (drop (n + 1) xs))
  steps_some whole None e t left = absurd (false≢true (sym t))
  steps_some whole (Some y) e t left = sym left ∙ next_step ∙ ap (λ o. cons_option o (filter_map f (drop (n + 1) xs))) (sym e)

  pub steps_none : (whole : List Y) (r : Option Y) → r ≡ f (get_or xs n x) → false ≡ is_some r → filter_map f (drop n xs) ≡ whole → filter_map f (drop (n + 1) xs) ≡ whole
  steps_none whole None e t left = ap (λ o. cons_option o (filter_map f (drop (n + 1) xs))) e ∙ sym next_step ∙ left
  steps_none whole (Some y) e t left = absurd (false≢true t)

pub progress_some : {Y : Type 0} (whole rest : List Y) (r : Option Y) → true ≡ is_some r → YieldsFirst (λ (ys : List Y). ys) whole r rest → MakesProgress (λ _. ⊤) (item_count (λ (ys : List Y). ys)) whole r rest
progress_some whole rest None t e = absurd (false≢true (sym t))
progress_some whole rest (Some y) t e = let n = ap length e in record { on = λ f. (tt, tt, omega (arith, n)); keeps = tt; rests = λ f. tt }
