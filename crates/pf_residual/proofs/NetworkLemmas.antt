-- The numbers of a network, and that they fit.
use Rattle.std.proofs.Common.{◌≡◌, ◌≢◌, ◌∙◌, inl, inr, sym, subst, ◌<◌, ◌+ℤ◌, ℕ, ℤ, pos, arith}
use Rattle.std.specs.Prelude.{◌≤ℤ◌, neg_ℤ}
use Rattle.std.proofs.lemmas.Int.{ints}
use Rattle.std.proofs.lemmas.Bool.{cases_eq}
use Rattle.pf_base.specs.Sums.{sum_to}
use Rattle.pf_residual.specs.Networks.{Network, capacity, capacity_sum, IsStored, IsNetwork, IsFresh, HasCapacities}
use Rattle.pf_residual.specs.Internal.Balances.{IsBalanced}
use Rattle.pf_residual.proofs.SumLemmas.{sum_le, sum_none, pair_sum_above, pair_sum_has, pair_sum_has_row, pair_sum_has_both}

within_left : (r f : ℤ) → f ≤ℤ (r +ℤ f) → pos 0 ≤ℤ r
within_left r f h = omega (arith, ints, h)

pub balanced_of : {fits : ℤ → Type 0} {N : Network} → IsNetwork fits N → IsBalanced fits N
balanced_of {N = N} w = record {
  opposite = w.feasible.opposite;
  left = record { at = λ a b l m. within_left (N.residual a b) (N.flow a b) (w.feasible.within a b l m) };
  capacities = w.capacities;
  sum = w.sum;
}

module _ {fits : ℤ → Type 0} {N : Network} (w : IsBalanced fits N) where
  pub sum_above : pos 0 ≤ℤ capacity_sum N
  sum_above = pair_sum_above w.capacities

  pub flow_top : (a b : ℕ) → a < N.vertices → b < N.vertices → N.flow a b ≤ℤ capacity_sum N
  flow_top a b l m =
      let k = w.left.at a b l m in
      let s = pair_sum_has w.capacities a b l m in
      omega (arith, ints, k, s)

  pub flow_low : (a b : ℕ) → a < N.vertices → b < N.vertices → pos 0 ≤ℤ (capacity_sum N +ℤ N.flow a b)
  flow_low a b l m =
      let k = flow_top b a m l in
      let o = w.opposite a b l m in
      omega (arith, ints, k, o)

  pub loop_none : (a : ℕ) → a < N.vertices → N.flow a a ≡ pos 0
  loop_none a l = let o = w.opposite a a l l in omega (arith, ints, o)

  residual_apart : (a b : ℕ) → a < N.vertices → b < N.vertices → a ≢ b → N.residual a b ≤ℤ capacity_sum N
  residual_apart a b l m d =
      let s = pair_sum_has_both w.capacities a b l m d in
      let o = w.opposite a b l m in
      let k = w.left.at b a m l in
      omega (arith, ints, s, o, k)

  residual_loop : (a : ℕ) → a < N.vertices → N.residual a a ≤ℤ capacity_sum N
  residual_loop a l =
      let s = pair_sum_has w.capacities a a l l in
      let o = loop_none a l in
      omega (arith, ints, s, o)

  pub residual_top : (a b : ℕ) → a < N.vertices → b < N.vertices → N.residual a b ≤ℤ capacity_sum N
  residual_top a b l m = elim (cases_eq a b) as (λ _. N.residual a b ≤ℤ capacity_sum N) [
    | inl e ↦ subst (λ b. N.residual a b ≤ℤ capacity_sum N) e (residual_loop a l)
    | inr d ↦ residual_apart a b l m d
  ]

module _ {fits : ℤ → Type 0} (between : (x y z : ℤ) → fits x → fits z → x ≤ℤ y → y ≤ℤ z → fits y) (negation : (z : ℤ) → fits z → pos 0 ≤ℤ z → fits (neg_ℤ z)) where
  -- what is at most a number that fits, and at least its negation, fits
  pub fits_near : (s z : ℤ) → fits s → pos 0 ≤ℤ (s +ℤ z) → z ≤ℤ s → fits z
  fits_near s z f low top = between (neg_ℤ s) z s (negation s f (omega (arith, ints, low, top))) f (omega (arith, ints, low)) top

  module _ {N : Network} (w : IsBalanced fits N) where
    pub flow_fits : (a b : ℕ) → a < N.vertices → b < N.vertices → fits (N.flow a b)
    flow_fits a b l m = fits_near (capacity_sum N) (N.flow a b) w.sum (flow_low w a b l m) (flow_top w a b l m)

    pub residual_fits : (a b : ℕ) → a < N.vertices → b < N.vertices → fits (N.residual a b)
    residual_fits a b l m =
        let k = w.left.at a b l m in
        let s = sum_above w in
        fits_near (capacity_sum N) (N.residual a b) w.sum (omega (arith, ints, k, s)) (residual_top w a b l m)

    pub capacity_fits : (a b : ℕ) → a < N.vertices → b < N.vertices → fits (capacity N a b)
    capacity_fits a b l m =
        let k = w.capacities.at a b l m in
        let s = sum_above w in
        fits_near (capacity_sum N) (capacity N a b) w.sum (omega (arith, ints, k, s)) (pair_sum_has w.capacities a b l m)

-- the total is at most the sum of all capacities
pub total_below : {fits : ℤ → Type 0} {N : Network} → N.source < N.vertices → IsNetwork fits N → N.total ≤ℤ capacity_sum N
total_below {N = N} s w =
    let v = w.value in
    let f = sum_le (N.flow N.source) (capacity N N.source) N.vertices (λ b m. w.feasible.within N.source b s m) in
    let r = pair_sum_has_row w.capacities N.source s in
    omega (arith, ints, v, f, r)

pub total_top : {fits : ℤ → Type 0} {N : Network} → IsStored N → IsNetwork fits N → N.total ≤ℤ capacity_sum N
total_top s w = total_below s.source_in w

-- the sum of no capacities is 0
pub none_sum : (N : Network) → HasCapacities (λ a b. pos 0) N → capacity_sum N ≡ pos 0
none_sum N h = sum_none (λ a. sum_to (capacity N a) N.vertices) N.vertices (λ a l. sum_none (capacity N a) N.vertices (λ b m. h.at a b l m))

-- a store without capacities and flow is as each call asks
pub network_of_fresh : {fits : ℤ → Type 0} {size source sink : ℕ} {N : Network} → fits (pos 0) → IsFresh size source sink N → HasCapacities (λ a b. pos 0) N → IsNetwork fits N
network_of_fresh {fits} {N = N} z f h =
    let none = λ (a : ℕ). sum_none (N.flow a) N.vertices (λ b m. f.flow a b) in
    let t = f.total in
    record {
      feasible = record {
        opposite = λ a b l m. let p = f.flow a b in let q = f.flow b a in omega (arith, ints, p, q);
        within = λ a b l m. let p = f.flow a b in let q = h.at a b l m in omega (arith, ints, p, q);
        conserved = λ a l p q. none a;
      };
      value = let v = none N.source in omega (arith, ints, v, t);
      above = omega (arith, ints, t);
      idle = λ e a b. f.flow a b;
      capacities = record { at = λ a b l m. let q = h.at a b l m in omega (arith, ints, q) };
      sum = subst fits (sym (none_sum N h)) z;
    }

-- where source and sink are one, the total is 0
pub idle_total : {fits : ℤ → Type 0} {N : Network} → IsNetwork fits N → N.source ≡ N.sink → N.total ≡ pos 0
idle_total {N = N} w e = sym w.value ∙ sum_none (N.flow N.source) N.vertices (λ b l. w.idle e N.source b)
