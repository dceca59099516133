-- What a row lists, edge by edge.
use Rattle.std.proofs.Common.{◌≡◌, ◌∙◌, sym, ap, subst, ◌<◌, ◌≤◌, ◌+◌, ℕ, ℤ, suc, pos, arith, add-one, List, [], ◌∷◌, ◌++◌, length}
use Rattle.std.specs.Prelude.{◌<ℤ◌, ◌≤ℤ◌, slice_index_or}
use Rattle.std.proofs.lemmas.Int.{ints}
use Rattle.pf_residual.specs.Internal.SparseLaws.{amount_none}
use Rattle.pf_residual.specs.Listings.{ListsVertices, ListsNumbers}
use Rattle.pf_residual.specs.SparseRows.{ends, amount_to}
use Rattle.pf_residual.specs.Internal.RowChanges.{Rises, end_after, AreBelow}
use Rattle.pf_residual.specs.declared.sparse_row.Edge.{Edge}
use Rattle.pf_residual.proofs.SparseRowLemmas.{amount_read, end_after_at, end_after_next, end_gap, end_behind, end_after_below, all_below}
use Rattle.pf_residual.proofs.StoreListings.{numbers_passed, numbers_pushed, vertices_passed, vertices_pushed}

not_above : (z : ℤ) → z ≡ pos 0 → z ≤ℤ pos 0
not_above z e = omega (arith, ints, e)

none_above : (z : ℤ) → z ≤ℤ pos 0 → pos 0 <ℤ z → ⊥
none_above z l m = absurd (omega (arith, ints, l, m))

module _ {C : Type 0} (row : List (Edge C)) (r : Rises 0 (ends row)) (i : ℕ) (y : Edge C) (l : i < length row) (here : y ≡ slice_index_or row i y) where
  to_next : end_after 0 row (i + 1) ≡ suc y.to
  to_next = subst (λ k. end_after 0 row k ≡ suc y.to) (sym (add-one i)) (end_after_next 0 row i y l ∙ ap (λ (e : Edge C). suc e.to) (sym here))

  from_here : end_after 0 row i ≤ y.to
  from_here = subst (λ (e : Edge C). end_after 0 row i ≤ e.to) (sym here) (end_after_at 0 row i y r l)

  gap : (f : Edge C → ℤ) (a : ℕ) → end_after 0 row i ≤ a → a < y.to → amount_to f row a ≡ pos 0
  gap f a m n = amount_none f row a (end_gap 0 row i y a r l m (subst (λ (e : Edge C). a < e.to) here n))

  at_here : (f : Edge C → ℤ) → amount_to f row y.to ≡ f y
  at_here f = amount_read f row y.to i y r l here (ap (λ (e : Edge C). e.to) (sym here))

  module _ (value : C → ℤ) (num : Edge C → C) (list : List (ℕ × C)) (h : ListsNumbers value (end_after 0 row i) (amount_to (λ e. value (num e)) row) list) where
    up_to : ListsNumbers value y.to (amount_to (λ e. value (num e)) row) list
    up_to = numbers_passed value (amount_to (λ e. value (num e)) row) (end_after 0 row i) y.to list from_here (λ a m n. not_above _ (gap (λ e. value (num e)) a m n)) h

    pub numbers_listed : pos 0 <ℤ value (num y) → ListsNumbers value (end_after 0 row (i + 1)) (amount_to (λ e. value (num e)) row) (list ++ (y.to, num y) ∷ [])
    numbers_listed above = subst (λ k. ListsNumbers value k (amount_to (λ e. value (num e)) row) (list ++ (y.to, num y) ∷ [])) (sym to_next)
        (numbers_pushed value (amount_to (λ e. value (num e)) row) y.to (num y) list (sym (at_here (λ e. value (num e)))) above up_to)

    pub numbers_skipped : value (num y) ≤ℤ pos 0 → ListsNumbers value (end_after 0 row (i + 1)) (amount_to (λ e. value (num e)) row) list
    numbers_skipped low = subst (λ k. ListsNumbers value k (amount_to (λ e. value (num e)) row) list) (sym to_next)
        (numbers_passed value (amount_to (λ e. value (num e)) row) y.to (suc y.to) list (omega arith) (λ a m n.
        let same : a ≡ y.to = omega (arith, m, n) in
        let at = ap (λ k. amount_to (λ e. value (num e)) row k) same ∙ at_here (λ e. value (num e)) in
        omega (arith, ints, at, low)) up_to)

  module _ (f : Edge C → ℤ) (list : List ℕ) (h : ListsVertices (end_after 0 row i) (λ to. pos 0 <ℤ amount_to f row to) list) where
    up_to_vertex : ListsVertices y.to (λ to. pos 0 <ℤ amount_to f row to) list
    up_to_vertex = vertices_passed (λ to. pos 0 <ℤ amount_to f row to) (end_after 0 row i) y.to list from_here (λ a m n k. none_above _ (not_above _ (gap f a m n)) k) h

    pub vertices_listed : pos 0 <ℤ f y → ListsVertices (end_after 0 row (i + 1)) (λ to. pos 0 <ℤ amount_to f row to) (list ++ y.to ∷ [])
    vertices_listed above = subst (λ k. ListsVertices k (λ to. pos 0 <ℤ amount_to f row to) (list ++ y.to ∷ [])) (sym to_next)
        (vertices_pushed (λ to. pos 0 <ℤ amount_to f row to) y.to list (subst (λ z. pos 0 <ℤ z) (sym (at_here f)) above) up_to_vertex)

    pub vertices_skipped : f y ≤ℤ pos 0 → ListsVertices (end_after 0 row (i + 1)) (λ to. pos 0 <ℤ amount_to f row to) list
    vertices_skipped low = subst (λ k. ListsVertices k (λ to. pos 0 <ℤ amount_to f row to) list) (sym to_next)
        (vertices_passed (λ to. pos 0 <ℤ amount_to f row to) y.to (suc y.to) list (omega arith) (λ a m n k.
        let same : a ≡ y.to = omega (arith, m, n) in
        let at = ap (λ k. amount_to f row k) same ∙ at_here f in
        none_above _ (subst (λ z. z ≤ℤ pos 0) (sym at) low) k) up_to_vertex)

module _ {C : Type 0} (row : List (Edge C)) (r : Rises 0 (ends row)) (i : ℕ) (l : length row ≤ i) (n : ℕ) (b : AreBelow n row) where
  pub numbers_done : (value : C → ℤ) (num : Edge C → C) (list : List (ℕ × C)) → ListsNumbers value (end_after 0 row i) (amount_to (λ e. value (num e)) row) list
      → ListsNumbers value n (amount_to (λ e. value (num e)) row) list
  numbers_done value num list h = numbers_passed value (amount_to (λ e. value (num e)) row) (end_after 0 row i) n list (end_after_below n 0 row i (omega arith) (all_below n row b))
      (λ a m o. not_above _ (amount_none (λ e. value (num e)) row a (end_behind 0 row i a r l m))) h

  pub vertices_done : (f : Edge C → ℤ) (list : List ℕ) → ListsVertices (end_after 0 row i) (λ to. pos 0 <ℤ amount_to f row to) list
      → ListsVertices n (λ to. pos 0 <ℤ amount_to f row to) list
  vertices_done f list h = vertices_passed (λ to. pos 0 <ℤ amount_to f row to) (end_after 0 row i) n list (end_after_below n 0 row i (omega arith) (all_below n row b))
      (λ a m o k. none_above _ (not_above _ (amount_none f row a (end_behind 0 row i a r l m))) k) h
