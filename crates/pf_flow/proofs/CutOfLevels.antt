-- The cut that the levels of the last search show.
use Rattle.std.proofs.Common.{◌≡◌, ◌∙◌, ◌⊎◌, inl, inr, refl, sym, ap, subst, ◌<◌, ℕ, ℤ, zero, suc, pos, arith, Bool, true, false, true≢false, List, length}
use Rattle.std.specs.Prelude.{◌≤ℤ◌, slice_index}
use Rattle.std.proofs.lemmas.Int.{ints}
use Rattle.std.proofs.lemmas.Bool.{cases_eq}
use borrow.Author.Tests.{ltb-true}
use Rattle.std.proofs.Common.{lt-ltb}
use Rattle.pf_residual.specs.Flows.{cut_capacity, flow_value, IsCut, IsLeastCut}
use Rattle.pf_residual.specs.Networks.{Network, capacity, IsNetwork, IsCutOfTotal}
use Rattle.pf_residual.specs.Internal.Levels.{AreLevels, reached}
use Rattle.pf_flow.proofs.CutLemmas.{value_within_cut, value_of_full_cut, full_of_cut_value}
use Rattle.pf_residual.proofs.NetworkLemmas.{balanced_of}
use Rattle.pf_residual.proofs.PotentialLemmas.{sign_cases}

-- each Bool is the one or the other
either : (b : Bool) → (b ≡ true) ⊎ (b ≡ false)
either true = inl refl
either false = inr refl

module _ {fits : ℤ → Type 0} {N : Network} (levels parents : List ℕ) (net : IsNetwork fits N) (source_in : N.source < N.vertices) (sink_in : N.sink < N.vertices) (w : AreLevels N (slice_index levels) (slice_index parents)) (len : length levels ≡ N.vertices) (cut_off : slice_index levels N.sink ≡ N.vertices) where
  pub below_of : (a : ℕ) → reached levels a ≡ true → slice_index levels a < N.vertices
  below_of a h = let l = ltb-true (slice_index levels a) (length levels) h in omega (arith, l, len)

  of_below : (a : ℕ) → slice_index levels a < N.vertices → reached levels a ≡ true
  of_below a h = lt-ltb _ _ (omega (arith, h, len))

  not_reached : (a : ℕ) → reached levels a ≡ false → slice_index levels a < N.vertices → ⊥
  not_reached a h l = true≢false (sym (of_below a l) ∙ h)

  -- a pair that leaves the vertices that were reached is full
  pub leaving_left : (a b : ℕ) → a < N.vertices → b < N.vertices → reached levels a ≡ true → reached levels b ≡ false → N.residual a b ≡ pos 0
  leaving_left a b i j h k =
      let low = (balanced_of net).left.at a b i j in
      elim (sign_cases (N.residual a b)) as (λ _. N.residual a b ≡ pos 0) [
        | inl p ↦ absurd (not_reached b k (w.closed a b i j (below_of a h) p))
        | inr p ↦ omega (arith, ints, p, low)
      ]

  pub leaving_full : (a b : ℕ) → a < N.vertices → b < N.vertices → reached levels a ≡ true → reached levels b ≡ false → N.flow a b ≡ capacity N a b
  leaving_full a b i j h k = let e = leaving_left a b i j h k in omega (arith, ints, e)

  is_cut : IsCut N.source N.sink (reached levels)
  is_cut = record {
    source_in = of_below N.source (let s = w.labelling.start in omega (arith, s, source_in));
    sink_out = elim (either (reached levels N.sink)) as (λ _. reached levels N.sink ≡ false) [ inl h ↦ absurd (let l = below_of N.sink h in omega (arith, l, cut_off)) | inr h ↦ h ];
  }

  value_is : flow_value N.vertices N.source N.flow ≡ cut_capacity N.vertices (reached levels) (capacity N)
  value_is = value_of_full_cut N.vertices N.source N.sink (capacity N) N.flow (reached levels) source_in net.feasible is_cut leaving_full

  least : IsLeastCut N.vertices N.source N.sink (capacity N) (reached levels)
  least = record {
    cut = is_cut;
    least = λ other k. subst (λ z. z ≤ℤ cut_capacity N.vertices other (capacity N)) value_is (value_within_cut N.vertices N.source N.sink (capacity N) N.flow other source_in net.feasible k);
  }

  -- what was reached lies on the source's side of every least cut
  within : (other : ℕ → Bool) → IsLeastCut N.vertices N.source N.sink (capacity N) other → (n a : ℕ) → a < N.vertices → slice_index levels a < N.vertices → slice_index levels a < n → other a ≡ true
  within other k zero a i r l = absurd (omega (arith, l))
  within other k (suc n) a i r l = elim (cases_eq a N.source) as (λ _. other a ≡ true) [
    | inl e ↦ ap other e ∙ k.cut.source_in
    | inr e ↦ (let p = w.parents.inside a i r e in
        let b = w.parents.below a i r e in
        let h = within other k n (slice_index parents a) p (omega (arith, b, r)) (omega (arith, b, l)) in
        elim (either (other a)) as (λ _. other a ≡ true) [
          | inl o ↦ o
          | inr o ↦ (let full = full_of_cut_value N.vertices N.source N.sink (capacity N) N.flow other source_in net.feasible k.cut
              (subst (λ z. cut_capacity N.vertices other (capacity N) ≤ℤ z) (sym value_is) (k.least (reached levels) is_cut)) (slice_index parents a) a p i h o in
              let left = w.parents.left a i r e in
              absurd (omega (arith, ints, full, left)))
        ])
  ]

  pub cut_of_levels : IsCutOfTotal N (reached levels)
  cut_of_levels = record {
    smallest = record {
      least_cut = least;
      smallest = λ other k a i h. let l = below_of a h in within other k (suc (slice_index levels a)) a i l (omega arith);
    };
    worth = sym value_is ∙ net.value;
  }
