-- The parts of a list, and edges that stand at each place.
use Rattle.std.proofs.Common.{◌≡◌, ℕ, zero, suc, ◌+◌, ◌-◌, ◌<◌, ◌≤◌, refl, sym, ◌∙◌, arith, ap, List, [], ◌∷◌, take, drop, length}
use Rattle.std.specs.Prelude.{Option, Some, None, slice_get}
use Rattle.std.specs.Option.{option_map, option_map_or}
use Rattle.std.proofs.lemmas.List.{length-take, length-drop}
use Rattle.std.proofs.lemmas.Option.{slice_get-map}
use Rattle.pf_tables.specs.Graphs.{filled, part, row_of, HasEdgeAt}

get_take : {X : Type 0} (n k : ℕ) (xs : List X) → k < n → slice_get (take n xs) k ≡ slice_get xs k
get_take zero k xs h = absurd (omega arith)
get_take (suc n) k [] h = refl
get_take (suc n) zero (x ∷ xs) h = refl
get_take (suc n) (suc k) (x ∷ xs) h = get_take n k xs (omega arith)

get_drop : {X : Type 0} (n k : ℕ) (xs : List X) → slice_get (drop n xs) k ≡ slice_get xs (n + k)
get_drop zero k xs = ap (slice_get xs) (omega arith)
get_drop (suc n) k [] = refl
get_drop (suc n) k (x ∷ xs) = get_drop n k xs ∙ ap (slice_get (x ∷ xs)) (let e : suc (n + k) ≡ suc n + k = omega arith in e)

pub part_at : {X : Type 0} (first end k : ℕ) (xs : List X) → first + k < end → slice_get (part first end xs) k ≡ slice_get xs (first + k)
part_at first end k xs h = get_take (end - first) k (drop first xs) (omega arith) ∙ get_drop first k xs

pub part_length : {X : Type 0} (first end : ℕ) (xs : List X) → first ≤ end → end ≤ length xs → length (part first end xs) ≡ end - first
part_length first end xs f e = omega (arith, length-take (end - first) (drop first xs), length-drop first xs)

-- the whole list is a part of itself
pub part_whole : {X : Type 0} (xs : List X) → part 0 (length xs) xs ≡ xs
part_whole xs = whole (length xs - 0) xs (omega arith)
  where
    whole : {X : Type 0} (n : ℕ) (ys : List X) → n ≡ length ys → take n ys ≡ ys
    whole zero [] e = refl
    whole zero (y ∷ ys) e = absurd (omega arith)
    whole (suc n) [] e = refl
    whole (suc n) (y ∷ ys) e = ap (λ zs. y ∷ zs) (whole n ys (omega arith))

pub filled_at : {C : Type 0} (edges : List (ℕ × C)) (place : ℕ) (edge : ℕ × C) → slice_get edges place ≡ Some edge → slice_get (filled edges) place ≡ Some (Some edge)
filled_at edges place edge e = slice_get-map _ edges place ∙ ap (option_map (λ x. Some x)) e

pub filled_from : {C : Type 0} (edges : List (ℕ × C)) (place : ℕ) (edge : ℕ × C) → HasEdgeAt (filled edges) place edge → slice_get edges place ≡ Some edge
filled_from edges place edge h = at (slice_get edges place) (sym (slice_get-map _ edges place) ∙ h)
  where
    at : {E : Type 0} {edge : E} (o : Option E) → option_map (λ x. Some x) o ≡ Some (Some edge) → o ≡ Some edge
    at None e = cc
    at (Some x) e = cc

-- the row of a node is that of the slice
pub row_is : {X E : Type 0} (items : X → List E) (rows : List X) (node : ℕ) (row : X) → slice_get rows node ≡ Some row → row_of items rows node ≡ items row
row_is items rows node row e = ap (λ o. option_map_or items o []) e
