-- Which numbers a walk marked.
use Rattle.std.proofs.Common.{◌≡◌, ℕ, zero, suc, ◌<◌, ◌∙◌, Bool, true, false, true≢false, Some, slice_index_or, List, [], ◌∷◌, length, sym, ap, inl, inr}
use Rattle.std.specs.Prelude.{◌↔◌, ◌⊎◌, slice_set}
use Rattle.pf_base.proofs.ListLemmas.{get_set}
use Rattle.pf_discovery.specs.DepthFirst.{IsVisited}

-- a marked number was visited
pub marked_at : (visited : List Bool) (k : ℕ) → slice_index_or visited k false ≡ true → IsVisited visited k
marked_at [] zero h = absurd (true≢false (sym h))
marked_at [] (suc k) h = absurd (true≢false (sym h))
marked_at (v ∷ vs) zero h = ap Some h
marked_at (v ∷ vs) (suc k) h = marked_at vs k h

not_marked : (visited : List Bool) (k : ℕ) → slice_index_or visited k false ≡ false → ¬ (IsVisited visited k)
not_marked [] zero h v = cc
not_marked [] (suc k) h v = cc
not_marked (v ∷ vs) zero h i = let e : Some v ≡ Some true = i in let f : v ≡ true = cc in true≢false (sym f ∙ h)
not_marked (v ∷ vs) (suc k) h i = not_marked vs k h i

-- what a look at the marks says of a number
module _ (marks visited : List Bool) (k : ℕ) (b : Bool) (same : marks ≡ visited) (is : b ≡ slice_index_or marks k false) where
  looked : slice_index_or visited k false ≡ b
  looked = ap (λ (vs : List Bool). slice_index_or vs k false) (sym same) ∙ sym is

  pub seen_visited : b ≡ true → IsVisited visited k
  seen_visited h = marked_at visited k (looked ∙ h)

  pub seen_unvisited : b ≡ false → ¬ (IsVisited visited k)
  seen_unvisited h = not_marked visited k (looked ∙ h)

-- one number more is marked
pub visited_more : (xs ys : List Bool) (n : ℕ) → n < length xs → ((k : ℕ) → IsVisited xs k ↔ IsVisited ys k) → (k : ℕ) → IsVisited (slice_set xs n true) k ↔ (IsVisited ys k ⊎ (k ≡ n))
visited_more xs ys n h same k = elim (get_set xs n k true h) as (λ _. IsVisited (slice_set xs n true) k ↔ (IsVisited ys k ⊎ (k ≡ n))) [
  | inl r ↦ (λ _. inr r.0, λ _. r.1)
  | inr r ↦ (λ m. inl ((same k).0 (sym r.1 ∙ m)), λ m. elim m as (λ _. IsVisited (slice_set xs n true) k) [ inl o ↦ r.1 ∙ (same k).1 o | inr e ↦ absurd (r.0 e) ])
]
