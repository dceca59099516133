-- One capacity that changes.
use Rattle.std.proofs.Common.{◌≡◌, ◌∙◌, refl, sym, ap, subst, ◌<◌, ◌+ℤ◌, ℕ, ℤ, pos, arith, Bool, true, false, nat_eq}
use Rattle.std.specs.Prelude.{◌-ℤ◌, ◌≤ℤ◌, ◌&&◌, if◌then◌else◌}
use Rattle.std.proofs.lemmas.Int.{ints}
use borrow.Author.Tests.{eqb-true}
use Rattle.pf_residual.specs.Flows.{PairTable, added, replaced, pair_sum}
use Rattle.pf_base.specs.Sums.{sum_to}
use Rattle.pf_residual.specs.Networks.{Network, capacity, with_residual, Agrees, KeepsCapacities, ChangesCapacity, IsNetwork}
use Rattle.pf_residual.specs.Internal.AugmentingPaths.{amount_at}
use Rattle.pf_residual.proofs.SumLemmas.{sum_ext, sum_add}
use Rattle.pf_residual.proofs.AddedLemmas.{added_row}
use Rattle.pf_residual.proofs.AgreeLemmas.{shape_more}
use Rattle.pf_residual.proofs.SettledLemmas.{at_side}

-- a number that is set is one that was added
pub replaced_added : (t : PairTable) (u v : ℕ) (z : ℤ) (a b : ℕ) → replaced t u v z a b ≡ added t u v (z -ℤ t u v) a b
replaced_added t u v z a b = by (nat_eq a u) (nat_eq b v) refl refl
  where
    sum_back : (p q : ℤ) → q ≡ p +ℤ (q -ℤ p)
    sum_back p q = omega (arith, ints)

    by : (p q : Bool) → nat_eq a u ≡ p → nat_eq b v ≡ q → (if p && q then z else t a b) ≡ (if p && q then t a b +ℤ (z -ℤ t u v) else t a b)
    by true true e f = sum_back (t u v) z ∙ ap (λ x. x +ℤ (z -ℤ t u v)) (ap (λ w. t w v) (sym (eqb-true a u e)) ∙ ap (t a) (sym (eqb-true b v f)))
    by true false e f = refl
    by false q e f = refl

-- the sum of a table with more at a pair
pub added_sum : (t : PairTable) (u v : ℕ) (z : ℤ) (n : ℕ) → u < n → v < n → pair_sum n (added t u v z) ≡ pair_sum n t +ℤ z
added_sum t u v z n l m =
    sum_ext (λ a. sum_to (added t u v z a) n) (λ a. sum_to (t a) n +ℤ amount_at u z a) n (λ a k. added_row t u v z n a m)
    ∙ sum_add (λ a. sum_to (t a) n) (amount_at u z) n
    ∙ ap (λ x. pair_sum n t +ℤ x) (at_side (λ a. true) u z n l)

pub replaced_sum : (t : PairTable) (u v : ℕ) (z : ℤ) (n : ℕ) → u < n → v < n → pair_sum n (replaced t u v z) ≡ pair_sum n t +ℤ (z -ℤ t u v)
replaced_sum t u v z n l m =
    sum_ext (λ a. sum_to (replaced t u v z a) n) (λ a. sum_to (added t u v (z -ℤ t u v) a) n) n (λ a k. sum_ext (replaced t u v z a) (added t u v (z -ℤ t u v) a) n (λ b j. replaced_added t u v z a b))
    ∙ added_sum t u v (z -ℤ t u v) n l m

-- each pair is the one with more, or another
added_cases : (t : PairTable) (u v : ℕ) (z : ℤ) (P : ℤ → ℕ → ℕ → Type 0) (a b : ℕ) → P (t u v +ℤ z) u v → P (t a b) a b → P (added t u v z a b) a b
added_cases t u v z P a b here other = by (nat_eq a u) (nat_eq b v) refl refl
  where
    by : (p q : Bool) → nat_eq a u ≡ p → nat_eq b v ≡ q → P (if p && q then t a b +ℤ z else t a b) a b
    by true true e f =
        subst (λ a. P (t a b +ℤ z) a b) (sym (eqb-true a u e))
        (subst (λ b. P (t u b +ℤ z) u b) (sym (eqb-true b v f)) here)
    by true false e f = other
    by false q e f = other

-- more residual capacity is as much more capacity
pub raised : (N : Network) (u v : ℕ) (z : ℤ) (a b : ℕ) → capacity (with_residual u v z N) a b ≡ added (capacity N) u v z a b
raised N u v z a b = by (nat_eq a u && nat_eq b v)
  where
    by : (p : Bool) → (if p then N.residual a b +ℤ z else N.residual a b) +ℤ N.flow a b ≡ (if p then (N.residual a b +ℤ N.flow a b) +ℤ z else N.residual a b +ℤ N.flow a b)
    by true = omega (arith, ints)
    by false = refl

-- a network with another capacity of a pair, not below its flow nor below 0, where the sum fits
module _ {fits : ℤ → Type 0} (N : Network) (u v : ℕ) (z : ℤ) (w : IsNetwork fits N) where
  abbrev pub raise : ℤ
  raise = z -ℤ capacity N u v

  pub set_is : (a b : ℕ) → replaced (capacity N) u v z a b ≡ capacity (with_residual u v raise N) a b
  set_is a b = replaced_added (capacity N) u v z a b ∙ sym (raised N u v raise a b)

  pub network_set : N.flow u v ≤ℤ z → pos 0 ≤ℤ z → fits (pair_sum N.vertices (replaced (capacity N) u v z)) → IsNetwork fits (with_residual u v raise N)
  network_set top low sum =
      let is : (x y : ℤ) → x ≤ℤ z → x ≤ℤ (y +ℤ (z -ℤ y)) = λ x y h. omega (arith, ints, h) in
      record {
        feasible = record {
          opposite = w.feasible.opposite;
          within = λ a b l m. subst (λ x. N.flow a b ≤ℤ x) (sym (raised N u v raise a b)) (added_cases (capacity N) u v raise (λ x a b. N.flow a b ≤ℤ x) a b (is (N.flow u v) (capacity N u v) top) (w.feasible.within a b l m));
          conserved = w.feasible.conserved;
        };
        value = w.value;
        above = w.above;
        idle = w.idle;
        capacities = record { at = λ a b l m. subst (λ x. pos 0 ≤ℤ x) (sym (raised N u v raise a b)) (added_cases (capacity N) u v raise (λ x a b. pos 0 ≤ℤ x) a b (is (pos 0) (capacity N u v) low) (w.capacities.at a b l m)) };
        sum = subst fits (sum_ext (λ a. sum_to (replaced (capacity N) u v z a) N.vertices) (λ a. sum_to (capacity (with_residual u v raise N) a) N.vertices) N.vertices (λ a l. sum_ext (replaced (capacity N) u v z a) (capacity (with_residual u v raise N) a) N.vertices (λ b m. set_is a b))) sum;
      }

-- a change is the same one where the capacities are
pub same_sum : {N M : Network} (u v : ℕ) (z : ℤ) → KeepsCapacities N M → pair_sum M.vertices (replaced (capacity M) u v z) ≡ pair_sum N.vertices (replaced (capacity N) u v z)
same_sum {N} {M} u v z k =
    ap (λ n. pair_sum n (replaced (capacity M) u v z)) k.shape.vertices
    ∙ (λ i. pair_sum N.vertices (replaced (λ a b. sym (k.capacities.at a b) i) u v z))

same_set : (p : Bool) (x y z : ℤ) → x ≡ y → (if p then z else x) ≡ (if p then z else y)
same_set true x y z e = refl
same_set false x y z e = e

pub changed_after : {N M O : Network} {u v : ℕ} {z : ℤ} → KeepsCapacities N M → ChangesCapacity u v z M O → ChangesCapacity u v z N O
changed_after {u = u} {v = v} {z = z} k h = record {
  shape = shape_more k.shape h.shape;
  capacities = record { at = λ a b. same_set (nat_eq a u && nat_eq b v) _ _ z (k.capacities.at a b) ∙ h.capacities.at a b };
}

pub agrees_more : {N M O : Network} → Agrees N M → Agrees M O → Agrees N O
agrees_more w v = record {
  vertices = v.vertices ∙ w.vertices;
  source = v.source ∙ w.source;
  sink = v.sink ∙ w.sink;
  residual = record { at = λ a b. w.residual.at a b ∙ v.residual.at a b };
  flow = record { at = λ a b. w.flow.at a b ∙ v.flow.at a b };
  total = v.total ∙ w.total;
  details = v.details ∙ w.details;
  room = λ a b h. v.room a b (w.room a b h);
}
