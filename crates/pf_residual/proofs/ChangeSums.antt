-- Sums of what is left of the capacities.
use Rattle.std.proofs.Common.{◌≡◌, refl, ap, ◌<◌, ◌≤◌, ◌+◌, ◌+ℤ◌, ℕ, ℤ, zero, suc, pos, arith, inl, inr, ◌⊎◌, add-one}
use Rattle.std.specs.Prelude.{◌≤ℤ◌, neg_ℤ}
use Rattle.std.proofs.lemmas.Int.{ints}
use Rattle.pf_residual.specs.Flows.{pair_sum}
use Rattle.pf_base.specs.Sums.{sum_to}
use Rattle.pf_residual.specs.Networks.{Network, capacity, capacity_sum}
use Rattle.pf_residual.specs.Internal.Balances.{IsBalanced}
use Rattle.pf_residual.proofs.SumLemmas.{sum_ext, sum_add, sum_above, square_none}
use Rattle.pf_residual.proofs.NetworkLemmas.{fits_near}

pub sum_more : (u : ℕ → ℤ) (n : ℕ) → sum_to u (n + 1) ≡ sum_to u n +ℤ u n
sum_more u n = ap (sum_to u) (add-one n)

-- fewer of the numbers from 0 up have no greater sum
pub sum_prefix : (u : ℕ → ℤ) (k n : ℕ) → k ≤ n → ((a : ℕ) → a < n → pos 0 ≤ℤ u a) → sum_to u k ≤ℤ sum_to u n
sum_prefix u zero n l h = sum_above u n h
sum_prefix u (suc k) zero l h = absurd (omega (arith, l))
sum_prefix u (suc k) (suc n) l h =
    elim (last k n l) as (λ _. sum_to u (suc k) ≤ℤ sum_to u (suc n)) [
      | inl e ↦ (let same = ap (λ (m : ℕ). sum_to u (suc m)) e in omega (arith, ints, same))
      | inr m ↦ (let rest = sum_prefix u (suc k) n (omega (arith, m)) (λ a o. h a (omega (arith, o))) in let here = h n (omega arith) in omega (arith, ints, rest, here))
    ]
  where
    last : (k n : ℕ) → suc k ≤ suc n → (k ≡ n) ⊎ (k < n)
    last zero zero l = inl refl
    last zero (suc n) l = inr (omega arith)
    last (suc k) zero l = absurd (omega (arith, l))
    last (suc k) (suc n) l = elim (last k n (omega (arith, l))) as (λ _. (suc k ≡ suc n) ⊎ (suc k < suc n)) [ inl e ↦ inl (ap suc e) | inr m ↦ inr (omega (arith, m)) ]

module _ {fits : ℤ → Type 0} {N : Network} (w : IsBalanced fits N) where
  pub residual_sum : pair_sum N.vertices N.residual ≡ capacity_sum N
  residual_sum =
      let n = N.vertices in
      let none = square_none N.flow n w.opposite in
      let rows = sum_ext (λ a. sum_to (capacity N a) n) (λ a. sum_to (N.residual a) n +ℤ sum_to (N.flow a) n) n (λ a l. sum_add (N.residual a) (N.flow a) n) in
      let both = sum_add (λ a. sum_to (N.residual a) n) (λ a. sum_to (N.flow a) n) n in
      omega (arith, ints, none, rows, both)

  -- the sums of the rows before one, and of a part of it
  pub part_fits : ((x y z : ℤ) → fits x → fits z → x ≤ℤ y → y ≤ℤ z → fits y) → ((z : ℤ) → fits z → pos 0 ≤ℤ z → fits (neg_ℤ z)) → (a b : ℕ) → a < N.vertices → b ≤ N.vertices
      → fits (sum_to (λ a. sum_to (N.residual a) N.vertices) a +ℤ sum_to (N.residual a) b)
  part_fits between negation a b l m =
      let n = N.vertices in
      let row = λ (a : ℕ). sum_to (N.residual a) n in
      let above : (a : ℕ) → a < n → pos 0 ≤ℤ row a = λ a o. sum_above (N.residual a) n (λ b p. w.left.at a b o p) in
      let before = sum_above row a (λ c o. above c (omega (arith, o, l))) in
      let part = sum_above (N.residual a) b (λ c o. w.left.at a c l (omega (arith, o, m))) in
      let less = sum_prefix (N.residual a) b n m (λ c o. w.left.at a c l o) in
      let most = sum_prefix row (suc a) n (omega (arith, l)) above in
      let all = residual_sum in
      fits_near between negation (capacity_sum N) _ w.sum (omega (arith, ints, before, part, less, most, all)) (omega (arith, ints, less, most, all))
