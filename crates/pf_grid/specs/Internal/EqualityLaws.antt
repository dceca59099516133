-- The test of two grids decides whether they have the same vertices, and that is an equivalence.
use Rattle.std.specs.Prelude.{◌≡◌, ◌↔◌, ℕ, zero, suc, ◌<◌, ◌≤◌, ◌+◌, ◌*◌, Bool, true, false, ◌&&◌, max, nat_lt, slice_index_or}
use Rattle.std.proofs.Common.{refl, sym, ap, ◌∙◌, inl, inr, true≢false, arith}
use Rattle.std.proofs.lemmas.Bool.{cases_lt, cases_eq, le-ltb}
use Rattle.std.specs.Cmp.{IsEquivalence, both_ways, first_so, second_so}
use Rattle.pf_grid.specs.GridPositions.{Positions, has}
use Rattle.pf_grid.specs.GridEquality.{HasSameVertices, all_below, is_same, same_vertices}

holds_below : (t : ℕ → Bool) (n : ℕ) → all_below t n ≡ true → (k : ℕ) → k < n → t k ≡ true
unfolding all_below
holds_below t zero h k p = absurd (omega (arith, p))
holds_below t (suc n) h k p = elim (cases_eq k n) as (λ _. t k ≡ true) [
  | inl e ↦ ap t e ∙ first_so (t n) _ h
  | inr d ↦ holds_below t n (second_so (t n) _ h) k (omega (arith, p, d))
]

below_holds : (t : ℕ → Bool) (n : ℕ) → ((k : ℕ) → k < n → t k ≡ true) → all_below t n ≡ true
unfolding all_below
below_holds t zero h = refl
below_holds t (suc n) h = ap (λ b. b && all_below t n) (h n (omega arith)) ∙ below_holds t n (λ k p. h k (omega (arith, p)))

same_from : (a b : Bool) → is_same a b ≡ true → a ≡ b
same_from true b h = sym h
same_from false true h = absurd (true≢false (sym h))
same_from false false h = refl

from_same : (a b : Bool) → a ≡ b → is_same a b ≡ true
from_same true b e = sym e
from_same false true e = absurd (true≢false (sym e))
from_same false false e = refl

right_of : (g : Positions) (x y : ℕ) → g.width ≤ x → has g x y ≡ false
right_of g x y h = ap (λ t. (t && nat_lt y g.height) && slice_index_or g.cells (y * g.width + x) false) (le-ltb x g.width h)

and_none : (a b : Bool) → b ≡ false → (a && b) ≡ false
and_none true b h = h
and_none false b h = refl

below_of : (g : Positions) (x y : ℕ) → g.height ≤ y → has g x y ≡ false
below_of g x y h = ap (λ t. t && slice_index_or g.cells (y * g.width + x) false) (and_none (nat_lt x g.width) (nat_lt y g.height) (le-ltb y g.height h))

pub same_vertices_decides : (a b : Positions) → (same_vertices a b ≡ true) ↔ HasSameVertices a b
same_vertices_decides a b = (
  λ h x y. elim (cases_lt y (max a.height b.height)) as (λ _. has a x y ≡ has b x y) [
    | inl p ↦ elim (cases_lt x (max a.width b.width)) as (λ _. has a x y ≡ has b x y) [
      | inl q ↦ same_from _ _ (holds_below (λ i. is_same (has a i y) (has b i y)) (max a.width b.width) (holds_below (λ j. all_below (λ i. is_same (has a i j) (has b i j)) (max a.width b.width)) (max a.height b.height) h y p) x q)
      | inr q ↦ right_of a x y (omega (arith, q)) ∙ sym (right_of b x y (omega (arith, q)))
    ]
    | inr p ↦ below_of a x y (omega (arith, p)) ∙ sym (below_of b x y (omega (arith, p)))
  ],
  λ e. below_holds _ (max a.height b.height) (λ y p. below_holds _ (max a.width b.width) (λ x q. from_same _ _ (e x y))),
)

flips : (a b : Positions) → same_vertices a b ≡ true → same_vertices b a ≡ true
flips a b e = (same_vertices_decides b a).1 (λ x y. sym ((same_vertices_decides a b).0 e x y))

chains : (a b c : Positions) → same_vertices a b ≡ true → same_vertices b c ≡ true → same_vertices a c ≡ true
chains a b c e f = (same_vertices_decides a c).1 (λ x y. (same_vertices_decides a b).0 e x y ∙ (same_vertices_decides b c).0 f x y)

pub same_vertices_equiv : IsEquivalence same_vertices
same_vertices_equiv = record {
  refl = λ a. (same_vertices_decides a a).1 (λ x y. refl);
  symm = λ a b. both_ways _ _ (flips a b) (flips b a);
  congr = λ a b c e. both_ways _ _ (chains b a c (flips a b e)) (chains a b c e);
}
