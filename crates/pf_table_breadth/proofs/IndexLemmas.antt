-- The order in which nodes are found, and the number of each.
use Rattle.std.proofs.Common.{ℕ, zero, ◌+◌, ◌<◌, ◌≡◌, sym, ◌∙◌, ap, subst, arith, false, List, [], ◌∷◌, ◌++◌, length, inl, inr, Some, None, take, replicate, nat_eq, map, Option}
use Rattle.std.specs.Prelude.{slice_get, slice_set}
use Rattle.std.proofs.lemmas.List.{map-append, length-replicate, get_or-replicate}
use Rattle.std.proofs.lemmas.Option.{slice_get_within, slice_get-get_or}
use borrow.Author.Tests.{eqb-true}
use Rattle.pf_base.proofs.ListLemmas.{bool_dec, get_set, get-append, none_in, get_at_end, get_push}
use Rattle.pf_table_breadth.specs.Internal.Numbering.{IsIndex, steps_at}
use Rattle.pf_tables.specs.Graphs.{present}
use Rattle.pf_tables.proofs.PresentLemmas.{present_more, present_same}

some_same : {A : Type 0} (x y : A) → Some x ≡ Some y → x ≡ y
some_same x y e = cc

-- a node without a number gets the next one
pub index_push : (order numbers : List ℕ) (node : ℕ) → IsIndex order numbers → slice_get numbers node ≡ Some 0 → IsIndex (order ++ node ∷ []) (slice_set numbers node (length order + 1))
index_push order numbers node i free =
    let inside = slice_get_within numbers node 0 free in
    let numbers' : List ℕ = slice_set numbers node (length order + 1) in
    record {
      at = λ k x h. elim (get_push order node k x h) as (λ _. slice_get numbers' x ≡ Some (k + 1)) [
        | inl old ↦ elim (get_set numbers node x (length order + 1) inside) as (λ _. slice_get numbers' x ≡ Some (k + 1)) [
          | inl e ↦ absurd (omega (arith, some_same 0 (k + 1) (sym free ∙ ap (slice_get numbers) (sym e.0) ∙ i.at k x old)))
          | inr e ↦ e.1 ∙ i.at k x old
        ]
        | inr new ↦ elim (get_set numbers node x (length order + 1) inside) as (λ _. slice_get numbers' x ≡ Some (k + 1)) [
          | inl e ↦ e.1 ∙ ap (λ (n : ℕ). Some (n + 1)) (sym new.0)
          | inr e ↦ absurd (e.0 (sym new.1))
        ]
      ];
      back = λ k x h. elim (get_set numbers node x (length order + 1) inside) as (λ _. slice_get (order ++ node ∷ []) k ≡ Some x) [
        | inl e ↦
            let v = some_same (length order + 1) (k + 1) (sym e.1 ∙ h) in
            let w : length order ≡ k = omega (arith, v) in
            subst (λ (n : ℕ). slice_get (order ++ node ∷ []) n ≡ Some x) w (get_at_end order node ∙ ap (λ (n : ℕ). Some n) (sym e.0))
        | inr e ↦ get-append order (node ∷ []) k x (i.back k x (sym e.1 ∙ h))
      ];
    }

-- the last node loses its number
pub index_pop : (order numbers : List ℕ) (node : ℕ) → IsIndex (order ++ node ∷ []) numbers → IsIndex order (slice_set numbers node 0)
index_pop order numbers node i =
    let own = i.at (length order) node (get_at_end order node) in
    let inside = slice_get_within numbers node (length order + 1) own in
    let numbers' : List ℕ = slice_set numbers node 0 in
    record {
      at = λ k x h. elim (get_set numbers node x 0 inside) as (λ _. slice_get numbers' x ≡ Some (k + 1)) [
        | inl e ↦
            let v = some_same (length order + 1) (k + 1) (sym own ∙ ap (slice_get numbers) (sym e.0) ∙ i.at k x (get-append order (node ∷ []) k x h)) in
            absurd (omega (arith, v, slice_get_within order k x h))
        | inr e ↦ e.1 ∙ i.at k x (get-append order (node ∷ []) k x h)
      ];
      back = λ k x h. elim (get_set numbers node x 0 inside) as (λ _. slice_get order k ≡ Some x) [
        | inl e ↦ absurd (omega (arith, some_same 0 (k + 1) (sym e.1 ∙ h)))
        | inr e ↦ elim (get_push order node k x (i.back k x (sym e.1 ∙ h))) as (λ _. slice_get order k ≡ Some x) [
          | inl old ↦ old
          | inr new ↦ absurd (e.0 (sym new.1))
        ]
      ];
    }

-- a node without a number stands nowhere in the order
pub is_new : (order numbers : List ℕ) (node : ℕ) → IsIndex order numbers → slice_get numbers node ≡ Some 0 → (k m : ℕ) → slice_get order k ≡ Some m → nat_eq m node ≡ false
is_new order numbers node i free k m h = elim (bool_dec (nat_eq m node)) as (λ _. nat_eq m node ≡ false) [
  | inl e ↦ absurd (omega (arith, some_same 0 (k + 1) (sym free ∙ ap (slice_get numbers) (sym (eqb-true m node e)) ∙ i.at k m h)))
  | inr e ↦ e
]

-- ---- what stands at places, taken one by one

module _ {C : Type 0} (places : List (Option (ℕ × C))) (i : ℕ) where
  pub steps_more : (edge : ℕ × C) → slice_get places i ≡ Some (Some edge) → steps_at (take (i + 1) places) ≡ steps_at (take i places) ++ (edge.0, 1) ∷ []
  steps_more edge h = let f : ℕ × C → ℕ × ℕ = λ (e : ℕ × C). (e.0, 1) in ap (map f) (present_more places i edge h) ∙ map-append f (present (take i places)) (edge ∷ [])

  pub steps_same : slice_get places i ≡ Some None → steps_at (take (i + 1) places) ≡ steps_at (take i places)
  steps_same h = ap (map (λ (e : ℕ × C). (e.0, 1))) (present_same places i h)

-- a list of zeros has 0 at each place
pub zeros_at : (xs : List ℕ) (n : ℕ) → xs ≡ replicate n 0 → (k : ℕ) → k < n → slice_get xs k ≡ Some 0
zeros_at xs n e k h =
    let room : k < length (replicate n 0) = omega (arith, h, length-replicate {A = ℕ} n 0) in
    ap (λ ys. slice_get ys k) e ∙ slice_get-get_or (replicate n 0) k 0 room ∙ ap (λ (m : ℕ). Some m) (get_or-replicate n k 0 0 h)

-- the first node has the number 0
pub first_index : (numbers : List ℕ) (size node : ℕ) → numbers ≡ replicate size 0 → node < size → IsIndex (node ∷ []) (slice_set numbers node 1)
first_index numbers size node e l = index_push [] numbers node none (zeros_at numbers size e node l)
  where
    none : IsIndex [] numbers
    none = record {
      at = λ k x h. absurd (none_in k x h);
      back = λ k x h.
          let inside = slice_get_within numbers x (k + 1) h in
          let zero = zeros_at numbers size e x (omega (arith, inside, ap length e, length-replicate {A = ℕ} size 0)) in
          let both : Some 0 ≡ Some (k + 1) = sym zero ∙ h in
          let same : 0 ≡ k + 1 = cc in
          absurd (omega (arith, same));
    }
