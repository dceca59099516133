-- Values that are taken out of a list by columns.
use Rattle.std.proofs.Common.{◌≡◌, ℕ, ◌+◌, ◌*◌, ◌<◌, ◌≤◌, refl, sym, ap, subst, ◌∙◌, arith, rules, List, [], ◌∷◌, ◌++◌, length, length-set, get_or, set, Option, Some, None, map, zero, suc}
use Rattle.std.specs.Prelude.{IsSome}
use Rattle.std.proofs.lemmas.List.{get_or-set_other, get_or_default}
use Rattle.std.proofs.lemmas.Nat.{same_from_place}
use Rattle.pf_row_major.proofs.FillLemmas.{Filling, fill_begin, fill_one}

-- the first `at` places of the columns are taken, in order, and the others wait
pub record Taking {C : Type 0} (rows columns : ℕ) (xs ws : List (Option C)) (ys : List C) (at : ℕ) : Type 0 where
  pub done : Filling (λ (o : Option C) y. Some y ≡ o) rows (λ r c. c * columns + r) xs ys at
  pub size : length ws ≡ length xs
  pub left : (r c : ℕ) → r < columns → c < rows → at ≤ r * rows + c → get_or ws (c * columns + r) None ≡ get_or xs (c * columns + r) None

-- nothing is taken so far
pub take_none : {C : Type 0} (rows columns : ℕ) (xs : List (Option C)) (ys : List C) → ys ≡ [] → Taking rows columns xs xs ys (0 * rows)
take_none rows columns xs ys e = record { done = fill_begin (λ o y. Some y ≡ o) rows (λ r c. c * columns + r) xs ys e; size = refl; left = λ r c p q b. refl }

module _ {C : Type 0} (rows columns : ℕ) (xs ws : List (Option C)) (ys : List C) (row column : ℕ) (row_in : row < rows) (column_in : column < columns) where
  pub take_one : (value : C) → get_or ws (row * columns + column) None ≡ Some value → row * columns + column < length xs
      → Taking rows columns xs ws ys (column * rows + row) → Taking rows columns xs (set ws (row * columns + column) None) (ys ++ value ∷ []) (column * rows + row + 1)
  take_one value e h t = record {
    done = fill_one (λ (o : Option C) y. Some y ≡ o) rows (λ r c. c * columns + r) xs ys column row value row_in
        (λ d. sym e ∙ t.left column row column_in row_in (omega arith) ∙ get_or_default xs (row * columns + column) None d h) t.done;
    size = length-set ws (row * columns + column) None ∙ t.size;
    left = λ r c p q b.
        get_or-set_other ws (row * columns + column) (c * columns + r) None None
        (λ s. let same = same_from_place c r row column columns p column_in s in omega (arith, b, ap (λ x. x * rows) same.1, same.0))
        ∙ t.left r c p q (omega arith);
  }

  -- the value at the next place still waits
  pub next_waits : row * columns + column < length xs → ((k : ℕ) → k < length xs → IsSome (get_or xs k None)) → Taking rows columns xs ws ys (column * rows + row) → IsSome (get_or ws (row * columns + column) None)
  next_waits h all t = subst IsSome (sym (t.left column row column_in row_in (omega arith))) (all (row * columns + column) h)

pub all_some : {C : Type 0} (xs : List C) (k : ℕ) → k < length xs → IsSome (get_or (map Some xs) k None)
all_some [] k h = absurd (omega arith)
all_some (x ∷ xs) zero h = search rules
all_some (x ∷ xs) (suc k) h = all_some xs k (omega arith)

pub all_read : {C : Type 0} (xs : List C) (k : ℕ) (d : C) → k < length xs → get_or (map Some xs) k None ≡ Some (get_or xs k d)
all_read [] k d h = absurd (omega arith)
all_read (x ∷ xs) zero d h = refl
all_read (x ∷ xs) (suc k) d h = all_read xs k d (omega arith)
