-- Sums of what is left of the capacities, by lists.
use Rattle.std.proofs.Common.{◌≡◌, ◌≢◌, ◌∙◌, ◌⊎◌, inl, inr, sym, ap, subst, ◌<◌, ◌≤◌, ◌+◌, ◌-◌, ◌+ℤ◌, ℕ, ℤ, zero, suc, pos, arith, List, Some, length}
use Rattle.std.specs.Prelude.{◌≤ℤ◌, neg_ℤ, slice_get}
use Rattle.std.proofs.lemmas.Int.{ints}
use Rattle.std.proofs.lemmas.Option.{slice_get_within}
use Rattle.pf_base.proofs.ListLemmas.{nat_dec, int_dec}
use Rattle.pf_base.specs.Sums.{sum_to}
use Rattle.pf_residual.specs.Networks.{Network}
use Rattle.pf_residual.specs.Listings.{ListsNumbers}
use Rattle.pf_residual.specs.Internal.Balances.{IsBalanced}
use Rattle.pf_residual.specs.Internal.PartSums.{IsPartSum}
use Rattle.pf_residual.proofs.ChangeSums.{sum_more, part_fits}

-- numbers 0 add nothing
flat : (u : ℕ → ℤ) (k m : ℕ) → k ≤ m → ((a : ℕ) → k ≤ a → a < m → u a ≡ pos 0) → sum_to u m ≡ sum_to u k
flat u k zero l h = let e : zero ≡ k = omega (arith, l) in ap (sum_to u) e
flat u k (suc m) l h = elim (nat_dec k (suc m)) as (λ _. sum_to u (suc m) ≡ sum_to u k) [
  | inl e ↦ ap (sum_to u) (sym e)
  | inr d ↦ (
      let less : k ≤ m = omega (arith, l, d) in
      let rest = flat u k m less (λ a p q. h a p (omega (arith, q))) in
      let here = h m less (omega arith) in
      omega (arith, ints, rest, here)
      )
]

module _ {C : Type 0} (value : C → ℤ) (N : Network) (from : ℕ) (ends : List (ℕ × C)) (above : (a : ℕ) → a < N.vertices → pos 0 ≤ℤ N.residual from a) (h : ListsNumbers value N.vertices (N.residual from) ends) where
  unlisted : (a : ℕ) → a < N.vertices → ((j : ℕ) (c : C) → slice_get ends j ≡ Some (a, c) → ⊥) → N.residual from a ≡ pos 0
  unlisted a l not = elim (int_dec (N.residual from a) (pos 0)) as (λ _. N.residual from a ≡ pos 0) [
    | inl low ↦ (let high = above a l in omega (arith, ints, low, high))
    | inr some ↦ (let o = h.complete a l some in absurd (not o.0 o.1 o.2))
  ]

  pub part_begin : (z : ℤ) → z ≡ sum_to (λ a. sum_to (N.residual a) N.vertices) from → IsPartSum N from ends 0 z
  part_begin z e = record {
    bound = 0;
    inside = omega arith;
    sum = omega (arith, ints, e);
    before = λ j d l g. absurd (omega (arith, l));
    after = λ j d l g. omega arith;
  }

  module _ (i : ℕ) (z : ℤ) (p : IsPartSum N from ends i z) where
    pub part_next : (e : ℕ × C) → slice_get ends i ≡ Some e → IsPartSum N from ends (i + 1) (z +ℤ value e.1)
    part_next e g =
        let s = h.sound i e g in
        let least = p.after i e (omega arith) g in
        let between : (a : ℕ) → p.bound ≤ a → a < e.0 → N.residual from a ≡ pos 0 = λ a m l. unlisted a (omega (arith, l, s.0)) (λ j c q. clash a m l j c q (nat_dec j i)) in
        let none = flat (N.residual from) p.bound e.0 least between in
        let more = sum_more (N.residual from) e.0 in
        let is = p.sum in
        let here = s.1 in
        record {
          bound = e.0 + 1;
          inside = omega (arith, s.0);
          sum = omega (arith, ints, none, more, is, here);
          before = λ j d l q. earlier j d l q (nat_dec j i);
          after = λ j d l q. (let r = h.rising i j e d (omega (arith, l)) g q in omega (arith, r));
        }
      where
        same : (d : ℕ × C) (j : ℕ) → slice_get ends j ≡ Some d → j ≡ i → d.0 ≡ e.0
        same d j q k =
            let both : Some d ≡ Some e = sym q ∙ ap (slice_get ends) k ∙ g in
            let one : d ≡ e = cc in
            ap (λ (x : ℕ × C). x.0) one

        clash : (a : ℕ) → p.bound ≤ a → a < e.0 → (j : ℕ) (c : C) → slice_get ends j ≡ Some (a, c) → (j ≡ i) ⊎ (j ≢ i) → ⊥
        clash a m l j c q w = elim w as (λ _. ⊥) [
          | inl k ↦ (let t = same (a, c) j q k in omega (arith, t, l))
          | inr d ↦ elim (nat_dec (j - i) 0) as (λ _. ⊥) [
            | inl k ↦ (let t = p.before j (a, c) (omega (arith, k, d)) q in omega (arith, t, m))
            | inr k ↦ (let t = h.rising i j e (a, c) (omega (arith, k)) g q in omega (arith, t, l))
          ]
        ]

        earlier : (j : ℕ) (d : ℕ × C) → j < i + 1 → slice_get ends j ≡ Some d → (j ≡ i) ⊎ (j ≢ i) → d.0 < e.0 + 1
        earlier j d l q w = elim w as (λ _. d.0 < e.0 + 1) [
          | inl k ↦ (let t = same d j q k in omega (arith, t))
          | inr k ↦ (let t = h.rising j i d e (omega (arith, l, k)) q g in omega (arith, t))
        ]

    pub part_end : length ends ≤ i → z ≡ sum_to (λ a. sum_to (N.residual a) N.vertices) (from + 1)
    part_end l =
        let none = flat (N.residual from) p.bound N.vertices p.inside (λ a m k. unlisted a k (λ j c q. (
        let t = p.before j (a, c) (let w = slice_get_within ends j (a, c) q in omega (arith, w, l)) q in
        omega (arith, t, m)
        ))) in
        let is = p.sum in
        let more = sum_more (λ a. sum_to (N.residual a) N.vertices) from in
        omega (arith, ints, none, is, more)

-- a part of the sum fits
pub part_sum_fits : {C : Type 0} {fits : ℤ → Type 0} {N : Network} (w : IsBalanced fits N) → ((x y z : ℤ) → fits x → fits z → x ≤ℤ y → y ≤ℤ z → fits y) → ((z : ℤ) → fits z → pos 0 ≤ℤ z → fits (neg_ℤ z)) → (from i : ℕ) (ends : List (ℕ × C)) (z : ℤ) → from < N.vertices → IsPartSum N from ends i z → fits z
part_sum_fits {fits = fits} w between negation from i ends z l p = subst fits (sym p.sum) (part_fits w between negation from p.bound l p.inside)
