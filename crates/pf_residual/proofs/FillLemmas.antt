-- Stores that are filled with capacities.
use Rattle.std.proofs.Common.{◌≡◌, ◌∙◌, ◌⊎◌, inl, inr, refl, sym, ap, subst, ◌<◌, ◌≤◌, ◌+◌, ◌*◌, ◌/◌, ◌%◌, ◌+ℤ◌, ℕ, ℤ, pos, arith, Bool, true, false, true≢false, nat_eq, eq-eqb, eqb-true, List, length, get_or, ltb}
use Rattle.std.specs.Prelude.{◌-ℤ◌, ◌≤ℤ◌, ◌<ℤ◌, ◌&&◌, if◌then◌else◌, Result, Ok, Err, IfOk, IfErr}
use Rattle.std.proofs.lemmas.Bool.{cases_eq, ltb-true, ltb-false}
use Rattle.std.proofs.lemmas.Nat.{div-add-mod', mul-add-lt}
use Rattle.std.proofs.Math.Nat.{mod-lt, div-lt_iff_lt-mul, mul-le-mul_left}
use Rattle.pf_base.specs.declared.error.PathError.{PathError}
use Rattle.pf_base.specs.Places.{number}
use Rattle.pf_residual.specs.Capacities.{square_table, HasNegative, AreRefused, IsChangeRefused}
use Rattle.std.proofs.lemmas.Int.{ints}
use Rattle.pf_residual.specs.Flows.{PairTable, added, replaced, pair_sum, IsNonNegative}
use Rattle.pf_base.specs.Sums.{sum_to}
use Rattle.pf_residual.specs.Networks.{Network, capacity, capacity_sum, Agrees, KeepsShape, ChangesCapacity, HasCapacities, IsFresh, IsNetwork, with_residual}
use Rattle.pf_residual.specs.Internal.Filling.{IsUnused, IsFilledTo}
use Rattle.pf_residual.proofs.SumLemmas.{sum_ext, sum_le, sum_none, pair_sum_above}
use Rattle.pf_residual.proofs.AgreeLemmas.{capacities_kept, shape_more}
use Rattle.pf_residual.proofs.DenseLemmas.{number_is, same_position}
use Rattle.pf_residual.proofs.ChangeLemmas.{replaced_added, replaced_sum}

-- without flow a capacity is what is left of it
pub unused_residual : {fits : ℤ → Type 0} {N : Network} → IsUnused fits N → (a b : ℕ) → N.residual a b ≡ capacity N a b
unused_residual w a b = let f = w.flow a b in omega (arith, ints, f)

-- the sum of all capacities, less one of them and with another in its place
pub exchanged_sum : {fits : ℤ → Type 0} {N : Network} {sum old : ℤ} (u v : ℕ) (c : ℤ) → IsUnused fits N → u < N.vertices → v < N.vertices → sum ≡ capacity_sum N → old ≡ N.residual u v
    → (sum -ℤ old) +ℤ c ≡ pair_sum N.vertices (replaced (capacity N) u v c)
exchanged_sum {N = N} u v c w l m s o =
    let r = unused_residual w u v in
    let t = replaced_sum (capacity N) u v c N.vertices l m in
    omega (arith, ints, s, o, r, t)

-- an update after room was made
pub residual_agrees : {N O M : Network} (u v : ℕ) (z : ℤ) → Agrees N O → Agrees (with_residual u v z O) M → Agrees (with_residual u v z N) M
residual_agrees u v z w x = record {
  vertices = x.vertices ∙ w.vertices;
  source = x.source ∙ w.source;
  sink = x.sink ∙ w.sink;
  residual = record { at = λ a b. ap (λ (y : ℤ). if nat_eq a u && nat_eq b v then y +ℤ z else y) (w.residual.at a b) ∙ x.residual.at a b };
  flow = record { at = λ a b. w.flow.at a b ∙ x.flow.at a b };
  total = x.total ∙ w.total;
  details = x.details ∙ w.details;
  room = λ a b h. x.room a b (w.room a b h);
}

added_apart : (p : Bool) (x z f : ℤ) → (if p then (x +ℤ f) +ℤ z else (x +ℤ f)) ≡ (if p then x +ℤ z else x) +ℤ f
added_apart true x z f = omega (arith, ints)
added_apart false x z f = refl

replaced_above : (p : Bool) (c x : ℤ) → pos 0 ≤ℤ c → pos 0 ≤ℤ x → pos 0 ≤ℤ (if p then c else x)
replaced_above true c x h k = h
replaced_above false c x h k = k

module _ {fits : ℤ → Type 0} {N M : Network} (u v : ℕ) (c : ℤ) (w : IsUnused fits N) (x : Agrees (with_residual u v (c -ℤ N.residual u v) N) M) where
  pub put_capacities : (a b : ℕ) → replaced (capacity N) u v c a b ≡ capacity M a b
  put_capacities a b =
      replaced_added (capacity N) u v c a b
      ∙ ap (λ (z : ℤ). added (capacity N) u v (c -ℤ z) a b) (sym (unused_residual w u v))
      ∙ added_apart (nat_eq a u && nat_eq b v) (N.residual a b) (c -ℤ N.residual u v) (N.flow a b)
      ∙ (let r = x.residual.at a b in let f = x.flow.at a b in omega (arith, ints, r, f))

  pub put_changed : ChangesCapacity u v c N M
  put_changed = record {
    shape = record { vertices = x.vertices; source = x.source; sink = x.sink; details = x.details; room = x.room };
    capacities = record { at = put_capacities };
  }

  pub put_sum : pair_sum N.vertices (replaced (capacity N) u v c) ≡ capacity_sum M
  put_sum =
      sum_ext (λ a. sum_to (replaced (capacity N) u v c a) N.vertices) (λ a. sum_to (capacity M a) N.vertices) N.vertices
      (λ a l. sum_ext (replaced (capacity N) u v c a) (capacity M a) N.vertices (λ b m. put_capacities a b))
      ∙ ap (λ (n : ℕ). pair_sum n (capacity M)) (sym x.vertices)

  pub put_unused : pos 0 ≤ℤ c → fits (pair_sum N.vertices (replaced (capacity N) u v c)) → IsUnused fits M
  put_unused h s = record {
    flow = λ a b. sym (x.flow.at a b) ∙ w.flow a b;
    total = x.total ∙ w.total;
    capacities = record {
      at = λ a b l m. subst (λ (z : ℤ). pos 0 ≤ℤ z) (put_capacities a b)
          (replaced_above (nat_eq a u && nat_eq b v) c (capacity N a b) h (w.capacities.at a b (subst (λ n. a < n) x.vertices l) (subst (λ n. b < n) x.vertices m)));
    };
    sum = subst fits put_sum s;
  }

-- the number at a place that was read
pub number_read : {C : Type 0} (value : C → ℤ) (xs : List C) (k : ℕ) (x : C) → k < length xs → x ≡ get_or xs k x → number value xs k ≡ value x
number_read value xs k x l e = number_is value xs k x l ∙ ap value (sym e)

-- a property of the numbers below i, and of i
pub each_more : (P : ℕ → Type 0) (i : ℕ) → ((k : ℕ) → k < i → P k) → P i → (k : ℕ) → k < i + 1 → P k
each_more P i h p k l = elim (cases_eq k i) as (λ _. P k) [ inl e ↦ subst P (sym e) p | inr d ↦ h k (omega (arith, l, d)) ]

-- a pair is the one that was replaced, or its number is as before
pub replaced_cases : (t : PairTable) (u v : ℕ) (z : ℤ) (a b : ℕ) → ((a ≡ u) × (b ≡ v) × (replaced t u v z a b ≡ z)) ⊎ (((a ≡ u) → (b ≡ v) → ⊥) × (replaced t u v z a b ≡ t a b))
replaced_cases t u v z a b = by (nat_eq a u) (nat_eq b v) refl refl
  where
    by : (p q : Bool) → nat_eq a u ≡ p → nat_eq b v ≡ q → ((a ≡ u) × (b ≡ v) × ((if p && q then z else t a b) ≡ z)) ⊎ (((a ≡ u) → (b ≡ v) → ⊥) × ((if p && q then z else t a b) ≡ t a b))
    by true true e f = inl (eqb-true a u e, eqb-true b v f, refl)
    by true false e f = inr (λ h k. absurd (true≢false (sym (eq-eqb b v k) ∙ f)), refl)
    by false q e f = inr (λ h k. absurd (true≢false (sym (eq-eqb a u h) ∙ e)), refl)

-- a pair of vertices stands at a place of the square
square_in : (n a b : ℕ) → a < n → b < n → a * n + b < n * n
square_in n a b l m = mul-add-lt a n b n l m

-- the row of a place of the square
pub row_in : (n k : ℕ) → 0 < n → k < n * n → k / n < n
row_in n k p l = (div-lt_iff_lt-mul p).1 l

module _ {fits : ℤ → Type 0} {t : PairTable} {N : Network} where
  pub filled_start : IsUnused fits N → HasCapacities (λ a b. pos 0) N → IsFilledTo fits t 0 N N
  filled_start w h = record {
    shape = (capacities_kept N).shape;
    unused = w;
    here = λ a b l m k. absurd (omega (arith, k));
    there = λ a b l m k. h.at a b l m;
  }

  pub filled_more : {M O : Network} (k u v : ℕ) (z : ℤ) → IsFilledTo fits t k N M → u * M.vertices + v ≡ k → v < M.vertices → z ≡ t u v → ChangesCapacity u v z M O → IsUnused fits O → IsFilledTo fits t (k + 1) N O
  filled_more {M} {O} k u v z w e l s x y = record {
    shape = shape_more w.shape x.shape;
    unused = y;
    here = λ a b i j h. sym (x.capacities.at a b) ∙ here a b (subst (λ n. a < n) same i) (subst (λ n. b < n) same j) (subst (λ n. a * n + b < k + 1) same h) (replaced_cases (capacity M) u v z a b);
    there = λ a b i j h. sym (x.capacities.at a b) ∙ there a b (subst (λ n. a < n) same i) (subst (λ n. b < n) same j) (subst (λ n. k + 1 ≤ a * n + b) same h) (replaced_cases (capacity M) u v z a b);
  }
    where
      same : O.vertices ≡ M.vertices
      same = x.shape.vertices

      here : (a b : ℕ) → a < M.vertices → b < M.vertices → a * M.vertices + b < k + 1 → ((a ≡ u) × (b ≡ v) × (replaced (capacity M) u v z a b ≡ z)) ⊎ (((a ≡ u) → (b ≡ v) → ⊥) × (replaced (capacity M) u v z a b ≡ capacity M a b)) → replaced (capacity M) u v z a b ≡ t a b
      here a b i j h (inl p) = p.2 ∙ s ∙ ap (λ w. t w v) (sym p.0) ∙ ap (t a) (sym p.1)
      here a b i j h (inr p) = p.1 ∙ w.here a b i j (before (a * M.vertices + b) (λ q. let both = same_position M.vertices a b u v j l (q ∙ sym e) in p.0 both.0 both.1) h)
        where
          before : (c : ℕ) → (c ≡ k → ⊥) → c < k + 1 → c < k
          before c d h = elim (cases_eq c k) as (λ _. c < k) [ inl e ↦ absurd (d e) | inr d ↦ omega (arith, h, d) ]

      there : (a b : ℕ) → a < M.vertices → b < M.vertices → k + 1 ≤ a * M.vertices + b → ((a ≡ u) × (b ≡ v) × (replaced (capacity M) u v z a b ≡ z)) ⊎ (((a ≡ u) → (b ≡ v) → ⊥) × (replaced (capacity M) u v z a b ≡ capacity M a b)) → replaced (capacity M) u v z a b ≡ pos 0
      there a b i j h (inl p) = absurd (later (a * M.vertices + b) h (ap (λ w. w * M.vertices + b) p.0 ∙ ap (λ w. u * M.vertices + w) p.1 ∙ e))
        where
          later : (c : ℕ) → k + 1 ≤ c → c ≡ k → ⊥
          later c h q = omega (arith, h, q)
      there a b i j h (inr p) = p.1 ∙ w.there a b i j (past (a * M.vertices + b) h)
        where
          past : (c : ℕ) → k + 1 ≤ c → k ≤ c
          past c h = omega (arith, h)

  pub filled_all : {M : Network} (k : ℕ) → IsFilledTo fits t k N M → k ≡ N.vertices * N.vertices → HasCapacities t M
  filled_all {M} k w e = record { at = λ a b l m. w.here a b l m (subst (λ j. a * M.vertices + b < j) (ap (λ n. n * n) w.shape.vertices ∙ sym e) (square_in M.vertices a b l m)) }

pair_sum_le : (s t : PairTable) (n : ℕ) → ((a b : ℕ) → a < n → b < n → s a b ≤ℤ t a b) → pair_sum n s ≤ℤ pair_sum n t
pair_sum_le s t n h = sum_le (λ a. sum_to (s a) n) (λ a. sum_to (t a) n) n (λ a l. sum_le (s a) (t a) n (λ b m. h a b l m))

module _ {fits : ℤ → Type 0} (between : (x y z : ℤ) → fits x → fits z → x ≤ℤ y → y ≤ℤ z → fits y) (zero_fits : fits (pos 0)) {t : PairTable} {N M : Network} (k u v : ℕ) (z : ℤ) (w : IsFilledTo fits t k N M) (nn : IsNonNegative N.vertices t) (i : u < M.vertices) (j : v < M.vertices) (s : z ≡ t u v) where
  above : IsNonNegative M.vertices t
  above = subst (λ n. IsNonNegative n t) (sym w.shape.vertices) nn

  part_below : (a b : ℕ) → a < M.vertices → b < M.vertices → capacity M a b ≤ℤ t a b
  part_below a b l m = by (ltb (a * M.vertices + b) k) refl
    where
      by : (q : Bool) → ltb (a * M.vertices + b) k ≡ q → capacity M a b ≤ℤ t a b
      by true e = let p = w.here a b l m (ltb-true (a * M.vertices + b) k e) in omega (arith, ints, p)
      by false e = let p = w.there a b l m (ltb-false (a * M.vertices + b) k e) in let h = above.at a b l m in omega (arith, ints, p, h)

  with_below : (a b : ℕ) → a < M.vertices → b < M.vertices → replaced (capacity M) u v z a b ≤ℤ t a b
  with_below a b l m = elim (replaced_cases (capacity M) u v z a b) as (λ _. replaced (capacity M) u v z a b ≤ℤ t a b) [
    | inl p ↦ (let same = ap (λ w. t w v) p.0 ∙ ap (t u) refl in let at_b = ap (t a) p.1 in let r = p.2 in omega (arith, ints, same, at_b, r, s))
    | inr p ↦ (let below = part_below a b l m in let r = p.1 in omega (arith, ints, below, r))
  ]

  with_above : IsNonNegative M.vertices (replaced (capacity M) u v z)
  with_above = record { at = λ a b l m. replaced_above (nat_eq a u && nat_eq b v) z (capacity M a b) (subst (λ x. pos 0 ≤ℤ x) (sym s) (above.at u v i j)) (w.unused.capacities.at a b l m) }

  -- why a table is refused of which one capacity is
  pub filled_refused : (e : PathError) → IsChangeRefused fits M u v z e → AreRefused fits N.vertices t e
  filled_refused e (inl r) = inl r
  filled_refused e (inr (inl r)) = (let h = above.at u v i j in let low = r.1 in absurd (omega (arith, ints, h, low, s)))
  filled_refused e (inr (inr r)) = inr (inr (
    r.0,
    nn,
    λ f. r.2
        (between (pos 0) (pair_sum M.vertices (replaced (capacity M) u v z)) (pair_sum M.vertices t) zero_fits (subst (λ n. fits (pair_sum n t)) (sym w.shape.vertices) f)
        (pair_sum_above with_above) (pair_sum_le (replaced (capacity M) u v z) t M.vertices with_below)),
  ))

module _ {C : Type 0} (value : C → ℤ) (xs : List C) (n : ℕ) (sized : length xs ≡ n * n) where
  pub square_negative : 0 < n → (k : ℕ) × (k < length xs) × (number value xs k <ℤ pos 0) → HasNegative n (square_table value n xs)
  square_negative p (k, l, h) = (k / n, k % n, row_in n k p (subst (λ m. k < m) sized l), mod-lt k p, subst (λ j. number value xs j <ℤ pos 0) (sym (div-add-mod' k n)) h)

  pub square_above : ((k : ℕ) → k < length xs → pos 0 ≤ℤ number value xs k) → IsNonNegative n (square_table value n xs)
  square_above h = record { at = λ a b l m. h (a * n + b) (subst (λ j. a * n + b < j) (sym sized) (square_in n a b l m)) }

-- the row and the column of a place of the square
pub place_parts : (s m k : ℕ) → s ≡ m → 0 < m → k < m * m → (k / s < m) × (k % s < m) × ((k / s) * m + k % s ≡ k)
place_parts s m k e p l = subst (λ s. (k / s < m) × (k % s < m) × ((k / s) * m + k % s ≡ k)) (sym e) (row_in m k p l, mod-lt k p, div-add-mod' k m)

-- what a new store is
pub unused_of_fresh : {fits : ℤ → Type 0} {size source sink : ℕ} {N : Network} → IsFresh size source sink N → IsNetwork fits N → IsUnused fits N
unused_of_fresh f w = record { flow = f.flow; total = f.total; capacities = w.capacities; sum = w.sum }

module _ {fits : ℤ → Type 0} {M : Network} (w : IsUnused fits M) where
  -- a store without flow is as each call asks
  pub network_of_unused : IsNetwork fits M
  network_of_unused =
      let none = λ (a : ℕ). sum_none (M.flow a) M.vertices (λ b m. w.flow a b) in
      let total = w.total in
      record {
        feasible = record {
          opposite = λ a b l m. let p = w.flow a b in let q = w.flow b a in omega (arith, ints, p, q);
          within = λ a b l m. let p = w.flow a b in let q = w.capacities.at a b l m in omega (arith, ints, p, q);
          conserved = λ a l p q. none a;
        };
        value = none M.source ∙ sym total;
        above = omega (arith, ints, total);
        idle = λ e a b. w.flow a b;
        capacities = w.capacities;
        sum = w.sum;
      }

  pub fresh_kept : {size source sink : ℕ} {N : Network} → IsFresh size source sink N → KeepsShape N M → IsFresh size source sink M
  fresh_kept f k = record {
    vertices = k.vertices ∙ f.vertices;
    source = k.source ∙ f.source;
    sink = k.sink ∙ f.sink;
    flow = w.flow;
    total = w.total;
    details = k.details ∙ f.details;
  }

-- a number has one root
pub one_root : (a b : ℕ) → a * a ≡ b * b → a ≡ b
one_root a b e = by (ltb a b) (ltb b a) refl refl
  where
    beyond : (x y z w : ℕ) → x ≤ y → y + w < z → x ≡ z → ⊥
    beyond x y z w h k e = omega (arith, h, k, e)

    less : (a b : ℕ) → a < b → a * a ≡ b * b → ⊥
    less a b l e = beyond (a * a) (a * b) (b * b) a (mul-le-mul_left a (omega (arith, l))) (square_in b a a l l) e

    by : (p q : Bool) → ltb a b ≡ p → ltb b a ≡ q → a ≡ b
    by true q l m = absurd (less a b (ltb-true a b l) e)
    by false true l m = absurd (less b a (ltb-true b a m) (sym e))
    by false false l m = let h = ltb-false a b l in let k = ltb-false b a m in omega (arith, h, k)

-- an answer for one root is one for each
pub ok_at_root : {S E : Type 0} (P : ℕ → S → Type 0) (r : Result S E) (n k : ℕ) → n * n ≡ k → IfOk r (P n) → IfOk r (λ s. (size : ℕ) → size * size ≡ k → P size s)
ok_at_root P (Ok s) n k e h = λ size f. subst (λ m. P m s) (one_root n size (e ∙ sym f)) h
ok_at_root P (Err x) n k e h = h

pub err_at_root : {S E : Type 0} (P : ℕ → E → Type 0) (r : Result S E) (n k : ℕ) → n * n ≡ k → IfErr r (P n) → IfErr r (λ s. (size : ℕ) → size * size ≡ k → P size s)
err_at_root P (Ok s) n k e h = h
err_at_root P (Err x) n k e h = λ size f. subst (λ m. P m x) (one_root n size (e ∙ sym f)) h
