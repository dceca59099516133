-- An amount that is moved along a path, step by step.
use Rattle.std.proofs.Common.{◌≡◌, ◌≢◌, ◌∙◌, inl, inr, refl, sym, ap, subst, ◌<◌, ◌≤◌, ◌+◌, ◌-◌, ◌+ℤ◌, ℕ, ℤ, pos, arith, Bool, true, false, true≢false, eq-eqb, nat_eq, List, length}
use Rattle.std.specs.Prelude.{◌≤ℤ◌, ◌<ℤ◌, ◌-ℤ◌, ◌&&◌, ◌||◌, neg_ℤ, if◌then◌else◌, slice_index}
use Rattle.std.proofs.Math.Bool.{and_comm}
use Rattle.std.proofs.lemmas.Int.{ints}
use Rattle.std.proofs.lemmas.Bool.{cases_eq}
use borrow.Author.Tests.{eqb-true}
use Rattle.pf_residual.specs.Flows.{PairTable, added, is_positive, are_linked}
use Rattle.pf_base.specs.Sums.{sum_to}
use Rattle.pf_residual.specs.Networks.{Network, capacity, with_flow, with_total, Agrees, IsNetwork}
use Rattle.pf_residual.specs.Internal.Balances.{IsBalanced}
use Rattle.pf_residual.specs.Internal.AugmentingPaths.{IsAugmentingPath, IsLevelPath, IsPushed, KeepsLevels, potential, amount_at}
use Rattle.pf_residual.proofs.SumLemmas.{sum_ext}
use Rattle.pf_residual.proofs.AddedLemmas.{moved_cases, moved_here, moved_back, moved_elsewhere, moved_row}
use Rattle.pf_residual.proofs.AgreeLemmas.{agreed}
use Rattle.pf_residual.proofs.NetworkLemmas.{flow_fits, residual_fits}
use Rattle.pf_residual.proofs.PotentialLemmas.{sign_cases, positive_true, potential_step, potential_rise, labelling_step}

-- ---- one step

same_capacity : (p q : Bool) (r f z : ℤ) → (if q then (if p then r +ℤ neg_ℤ z else r) +ℤ z else (if p then r +ℤ neg_ℤ z else r)) +ℤ (if q then (if p then f +ℤ z else f) +ℤ neg_ℤ z else (if p then f +ℤ z else f)) ≡ r +ℤ f
same_capacity true true r f z = omega (arith, ints)
same_capacity true false r f z = omega (arith, ints)
same_capacity false true r f z = omega (arith, ints)
same_capacity false false r f z = refl

-- flow that is moved changes no capacity
pub capacity_moved : (M : Network) (u v : ℕ) (z : ℤ) (a b : ℕ) → capacity (with_flow u v z M) a b ≡ capacity M a b
capacity_moved M u v z a b = same_capacity (nat_eq a u && nat_eq b v) (nat_eq a v && nat_eq b u) (M.residual a b) (M.flow a b) z

both_ways : (p q : Bool) (f g z : ℤ) → f +ℤ g ≡ pos 0 → (if q then (if p then f +ℤ z else f) +ℤ neg_ℤ z else (if p then f +ℤ z else f)) +ℤ (if p then (if q then g +ℤ z else g) +ℤ neg_ℤ z else (if q then g +ℤ z else g)) ≡ pos 0
both_ways true true f g z h = omega (arith, ints, h)
both_ways true false f g z h = omega (arith, ints, h)
both_ways false true f g z h = omega (arith, ints, h)
both_ways false false f g z h = h

pub opposite_moved : (f : PairTable) (u v : ℕ) (z : ℤ) (a b : ℕ) → f a b +ℤ f b a ≡ pos 0 → added (added f u v z) v u (neg_ℤ z) a b +ℤ added (added f u v z) v u (neg_ℤ z) b a ≡ pos 0
opposite_moved f u v z a b h =
    ap (λ (p : Bool). added (added f u v z) v u (neg_ℤ z) a b +ℤ (if p then (if nat_eq b u && nat_eq a v then f b a +ℤ z else f b a) +ℤ neg_ℤ z else (if nat_eq b u && nat_eq a v then f b a +ℤ z else f b a))) (and_comm (nat_eq b v) (nat_eq a u))
    ∙ ap (λ (q : Bool). added (added f u v z) v u (neg_ℤ z) a b +ℤ (if nat_eq a u && nat_eq b v then (if q then f b a +ℤ z else f b a) +ℤ neg_ℤ z else (if q then f b a +ℤ z else f b a))) (and_comm (nat_eq b u) (nat_eq a v))
    ∙ both_ways (nat_eq a u && nat_eq b v) (nat_eq a v && nat_eq b u) (f a b) (f b a) z h

difference : (x z : ℤ) → x +ℤ neg_ℤ z ≡ x -ℤ z
difference x z = omega (arith, ints)

-- a network stays balanced where an amount that a pair has left is moved
pub balanced_moved : {fits : ℤ → Type 0} {M : Network} → IsBalanced fits M → (u v : ℕ) (z : ℤ) → u < M.vertices → v < M.vertices → u ≢ v → pos 0 ≤ℤ z → z ≤ℤ M.residual u v → IsBalanced fits (with_flow u v z M)
balanced_moved {fits} {M} w u v z i j d low top = record {
  opposite = λ a b l m. opposite_moved M.flow u v z a b (w.opposite a b l m);
  left = record {
    at = λ a b l m. moved_cases M.residual u v (neg_ℤ z) z d (λ r a b. a < M.vertices → b < M.vertices → pos 0 ≤ℤ r)
        (λ _ _. omega (arith, ints, top))
        (λ _ _. let k = w.left.at v u j i in omega (arith, ints, k, low))
        (λ a b h g. w.left.at a b) a b l m;
  };
  capacities = record { at = λ a b l m. subst (λ c. pos 0 ≤ℤ c) (sym (capacity_moved M u v z a b)) (w.capacities.at a b l m) };
  sum = subst fits (sym (sum_ext (λ a. sum_to (capacity (with_flow u v z M) a) M.vertices) (λ a. sum_to (capacity M a) M.vertices) M.vertices (λ a l. sum_ext (capacity (with_flow u v z M) a) (capacity M a) M.vertices (λ b m. capacity_moved M u v z a b)))) w.sum;
}

-- the numbers after a move fit
module _ {fits : ℤ → Type 0} (between : (x y z : ℤ) → fits x → fits z → x ≤ℤ y → y ≤ℤ z → fits y) (negation : (z : ℤ) → fits z → pos 0 ≤ℤ z → fits (neg_ℤ z)) {M : Network} (w : IsBalanced fits M) (u v : ℕ) (z : ℤ) (i : u < M.vertices) (j : v < M.vertices) (d : u ≢ v) (low : pos 0 ≤ℤ z) (top : z ≤ℤ M.residual u v) where
  after : IsBalanced fits (with_flow u v z M)
  after = balanced_moved w u v z i j d low top

  pub move_fits_flow : fits (M.flow u v +ℤ z)
  move_fits_flow = subst fits (moved_here M.flow u v z (neg_ℤ z) d) (flow_fits between negation after u v i j)

  pub move_fits_flow_back : fits (M.flow v u -ℤ z)
  move_fits_flow_back = subst fits (moved_back M.flow u v z (neg_ℤ z) d ∙ difference (M.flow v u) z) (flow_fits between negation after v u j i)

  pub move_fits_residual : fits (M.residual u v -ℤ z)
  move_fits_residual = subst fits (moved_here M.residual u v (neg_ℤ z) z d ∙ difference (M.residual u v) z) (residual_fits between negation after u v i j)

  pub move_fits_residual_back : fits (M.residual v u +ℤ z)
  move_fits_residual_back = subst fits (moved_back M.residual u v (neg_ℤ z) z d) (residual_fits between negation after v u j i)

either_positive : (c e r : ℤ) → pos 0 <ℤ r → r ≤ℤ (c +ℤ e) → (is_positive c || is_positive e) ≡ true
either_positive c e r low h = by (is_positive c) refl
  where
    by : (p : Bool) → is_positive c ≡ p → (p || is_positive e) ≡ true
    by true k = refl
    by false k = positive_true e (elim (sign_cases c) as (λ _. pos 0 <ℤ e) [ inl l ↦ absurd (true≢false (sym (positive_true c l) ∙ k)) | inr l ↦ omega (arith, ints, l, low, h) ])

-- a pair with residual capacity has capacity in either direction
pub linked_of : {fits : ℤ → Type 0} {N : Network} → IsBalanced fits N → (a b : ℕ) → a < N.vertices → b < N.vertices → pos 0 <ℤ N.residual a b → are_linked (capacity N) a b ≡ true
linked_of {N = N} w a b l m h =
    let o = w.opposite a b l m in
    let k = w.left.at b a m l in
    either_positive (capacity N a b) (capacity N b a) (N.residual a b) h (omega (arith, ints, o, k))

-- ---- along a path

module _ {fits : ℤ → Type 0} {N : Network} {path : List ℕ} (w : IsAugmentingPath N path) (balanced : IsBalanced fits N) (amount : ℤ) (low : pos 0 <ℤ amount) (least : (k : ℕ) → k + 1 < length path → amount ≤ℤ N.residual (slice_index path k) (slice_index path (k + 1))) where
  pub pushed_none : IsPushed fits N path amount 0 N
  pushed_none = record {
    vertices = refl;
    source = refl;
    sink = refl;
    total = refl;
    details = refl;
    capacities = record { at = λ a b. refl };
    balanced = balanced;
    rows = λ a l. ap (λ u. sum_to (N.flow a) N.vertices +ℤ amount_at u amount a) w.first;
    ahead = λ j h l. refl;
  }

  pub levels_none : KeepsLevels N path amount 0 N
  levels_none = record {
    labelled = λ d h v. v;
    kept = λ d h. omega arith;
    raised = λ d j h l. absurd (omega (arith, l));
  }

  module _ (k : ℕ) (next : k + 1 < length path) where
    here_in : slice_index path k < N.vertices
    here_in = w.inside k (omega (arith, next))

    next_in : slice_index path (k + 1) < N.vertices
    next_in = w.inside (k + 1) next

    pub step_apart : slice_index path k ≢ slice_index path (k + 1)
    step_apart e = let f : k ≡ k + 1 = w.once k (k + 1) (omega (arith, next)) next e in omega (arith, f)

    module _ {M : Network} (p : IsPushed fits N path amount k M) where
      pub step_here_in : slice_index path k < M.vertices
      step_here_in = let v = p.vertices in let l = here_in in omega (arith, l, v)

      pub step_next_in : slice_index path (k + 1) < M.vertices
      step_next_in = let v = p.vertices in let l = next_in in omega (arith, l, v)

      pub step_enough : amount ≤ℤ M.residual (slice_index path k) (slice_index path (k + 1))
      step_enough = subst (λ r. amount ≤ℤ r) (sym (p.ahead k (omega arith) next)) (least k next)

      pub pushed_step : IsPushed fits N path amount (k + 1) (with_flow (slice_index path k) (slice_index path (k + 1)) amount M)
      pushed_step = record {
        vertices = p.vertices;
        source = p.source;
        sink = p.sink;
        total = p.total;
        details = p.details;
        capacities = record { at = λ a b. p.capacities.at a b ∙ sym (capacity_moved M (slice_index path k) (slice_index path (k + 1)) amount a b) };
        balanced = balanced_moved p.balanced (slice_index path k) (slice_index path (k + 1)) amount step_here_in step_next_in step_apart (omega (arith, ints, low)) step_enough;
        rows = λ a l. moved_row M.flow (slice_index path k) (slice_index path (k + 1)) amount M.vertices a step_here_in step_next_in ∙ p.rows a l;
        ahead = λ j h l.
            moved_elsewhere M.residual (slice_index path k) (slice_index path (k + 1)) (neg_ℤ amount) amount step_apart (slice_index path j) (slice_index path (j + 1))
            (λ e _. let f = w.once j k (omega (arith, l)) (omega (arith, next)) e in omega (arith, f, h))
            (λ _ e. let f = w.once (j + 1) k l (omega (arith, next)) e in omega (arith, f, h))
            ∙ p.ahead j (omega (arith, h)) l;
      }

      back_above : pos 0 ≤ℤ M.residual (slice_index path (k + 1)) (slice_index path k)
      back_above = p.balanced.left.at _ _ step_next_in step_here_in

      pub levels_step : KeepsLevels N path amount k M → KeepsLevels N path amount (k + 1) (with_flow (slice_index path k) (slice_index path (k + 1)) amount M)
      levels_step q = record {
        labelled = λ d h v. labelling_step N.vertices (capacity N) M.residual d (slice_index path k) (slice_index path (k + 1)) amount low step_enough back_above here_in next_in (h.up k next) (q.labelled d h v);
        kept = λ d h. let before = q.kept d h in let now = step d h in omega (arith, before, now);
        raised = λ d j h l m e. elim (cases_eq j k) as (λ _. potential N.vertices (capacity N) N.residual d < potential N.vertices (capacity N) (added (added M.residual (slice_index path k) (slice_index path (k + 1)) (neg_ℤ amount)) (slice_index path (k + 1)) (slice_index path k) amount) d) [
          | inl f ↦ (let before = q.kept d h in let now = rise d h (subst (λ j. N.residual (slice_index path j) (slice_index path (j + 1)) ≡ amount) f e) in omega (arith, before, now))
          | inr f ↦ (let before = q.raised d j h (omega (arith, l, f)) m e in let now = step d h in omega (arith, before, now))
        ];
      }
        where
          step : (d : ℕ → ℕ) → IsLevelPath d path → potential N.vertices (capacity N) M.residual d ≤ potential N.vertices (capacity N) (added (added M.residual (slice_index path k) (slice_index path (k + 1)) (neg_ℤ amount)) (slice_index path (k + 1)) (slice_index path k) amount) d
          step d h = potential_step N.vertices (capacity N) M.residual d (slice_index path k) (slice_index path (k + 1)) amount low step_enough back_above here_in next_in (h.up k next)

          rise : (d : ℕ → ℕ) → IsLevelPath d path → N.residual (slice_index path k) (slice_index path (k + 1)) ≡ amount → potential N.vertices (capacity N) M.residual d < potential N.vertices (capacity N) (added (added M.residual (slice_index path k) (slice_index path (k + 1)) (neg_ℤ amount)) (slice_index path (k + 1)) (slice_index path k) amount) d
          rise d h e = potential_rise N.vertices (capacity N) M.residual d (slice_index path k) (slice_index path (k + 1)) amount low step_enough back_above here_in next_in (h.up k next) (linked_of balanced (slice_index path k) (slice_index path (k + 1)) here_in next_in (w.left k next)) (p.ahead k (omega arith) next ∙ e)

  -- ---- the whole path

  apart_ends : N.source ≢ N.sink
  apart_ends e =
      let l = w.long in
      let f : 0 ≡ length path - 1 = w.once 0 (length path - 1) (omega (arith, l)) (omega (arith, l)) (w.first ∙ e ∙ sym w.last) in
      omega (arith, l, f)

  amount_here : (v : ℕ) → amount_at v amount v ≡ amount
  amount_here v = ap (λ (q : Bool). if q then amount else pos 0) (eq-eqb v v refl)

  amount_elsewhere : (v a : ℕ) → a ≢ v → amount_at v amount a ≡ pos 0
  amount_elsewhere v a h = by (nat_eq a v) refl
    where
      by : (q : Bool) → nat_eq a v ≡ q → (if q then amount else pos 0) ≡ pos 0
      by true e = absurd (h (eqb-true a v e))
      by false e = refl

  module _ (net : IsNetwork fits N) {M : Network} (p : IsPushed fits N path amount (length path - 1) M) where
    rows_end : (a : ℕ) → a < M.vertices → sum_to (M.flow a) M.vertices +ℤ amount_at N.sink amount a ≡ sum_to (N.flow a) M.vertices +ℤ amount_at N.source amount a
    rows_end a l = subst (λ v. sum_to (M.flow a) M.vertices +ℤ amount_at v amount a ≡ sum_to (N.flow a) M.vertices +ℤ amount_at N.source amount a) w.last (p.rows a l)

    -- the flow is as each call asks, and the total more by the amount
    pub pushed_network : N.source < N.vertices → IsNetwork fits (with_total (N.total +ℤ amount) M)
    pushed_network s =
        let vs = p.vertices in
        record {
          feasible = record {
            opposite = p.balanced.opposite;
            within = λ a b l m. let r = p.balanced.left.at a b l m in omega (arith, ints, r);
            conserved = λ a l f g.
                let e = rows_end a l in
                let x = amount_elsewhere N.sink a (λ h. g (h ∙ sym p.sink)) in
                let y = amount_elsewhere N.source a (λ h. f (h ∙ sym p.source)) in
                let z : sum_to (N.flow a) M.vertices ≡ pos 0 = subst (λ n. sum_to (N.flow a) n ≡ pos 0) (sym vs) (net.feasible.conserved a (omega (arith, l, vs)) (λ h. f (h ∙ sym p.source)) (λ h. g (h ∙ sym p.sink))) in
                omega (arith, ints, e, x, y, z);
          };
          value =
              let e = rows_end N.source (omega (arith, s, vs)) in
              let x = amount_elsewhere N.sink N.source apart_ends in
              let y = amount_here N.source in
              let z : sum_to (N.flow N.source) M.vertices ≡ N.total = subst (λ n. sum_to (N.flow N.source) n ≡ N.total) (sym vs) net.value in
              let out : sum_to (M.flow N.source) M.vertices ≡ N.total +ℤ amount = omega (arith, ints, e, x, y, z) in
              subst (λ v. sum_to (M.flow v) M.vertices ≡ N.total +ℤ amount) (sym p.source) out;
          above = let t = net.above in omega (arith, ints, t, low);
          idle = λ e. absurd (apart_ends (sym p.source ∙ e ∙ p.sink));
          capacities = p.balanced.capacities;
          sum = p.balanced.sum;
        }

-- ---- networks that agree

pub pushed_agrees : {fits : ℤ → Type 0} {N M O : Network} {path : List ℕ} {amount : ℤ} {k : ℕ} → Agrees M O → IsPushed fits N path amount k M → IsPushed fits N path amount k O
pushed_agrees {fits} {N} {M} {O} {path} {amount} {k} a p = subst (IsPushed fits N path amount k) (agreed a) (record {
  vertices = p.vertices;
  source = p.source;
  sink = p.sink;
  total = p.total;
  details = p.details;
  capacities = record { at = p.capacities.at };
  balanced = record { opposite = p.balanced.opposite; left = p.balanced.left; capacities = record { at = p.balanced.capacities.at }; sum = p.balanced.sum };
  rows = p.rows;
  ahead = p.ahead;
})

pub levels_agrees : {N M O : Network} {path : List ℕ} {amount : ℤ} {k : ℕ} → Agrees M O → KeepsLevels N path amount k M → KeepsLevels N path amount k O
levels_agrees {N} {M} {O} {path} {amount} {k} a p = subst (KeepsLevels N path amount k) (agreed a) (record { labelled = p.labelled; kept = p.kept; raised = p.raised })
