-- A search by breadth first.
use Rattle.std.proofs.Common.{◌≡◌, ◌≢◌, ◌∙◌, ◌⊎◌, inl, inr, refl, sym, ap, subst, ◌<◌, ◌≤◌, ◌+◌, ℕ, zero, suc, pos, arith, Bool, true, false, eq-eqb, nat_eq}
use Rattle.std.specs.Prelude.{◌<ℤ◌, if◌then◌else◌}
use Rattle.std.proofs.lemmas.Bool.{cases_eq}
use borrow.Author.Tests.{eqb-true}
use Rattle.pf_residual.specs.Flows.{count_to}
use Rattle.pf_residual.specs.Networks.{Network}
use Rattle.pf_residual.specs.Internal.Levels.{HasParents, AreLevels, IsSearch, unreached}
use Rattle.pf_residual.proofs.PotentialLemmas.{count_ext}

last_or_before : (k n : ℕ) → k < suc n → (k ≡ n) ⊎ (k < n)
last_or_before k n h = elim (cases_eq k n) as (λ _. (k ≡ n) ⊎ (k < n)) [ inl e ↦ inl e | inr e ↦ inr (omega (arith, e)) ]

-- one number of a sum is one less
pub count_less : (g h : ℕ → ℕ) (n k : ℕ) → k < n → suc (h k) ≡ g k → ((a : ℕ) → a < n → a ≢ k → h a ≡ g a) → suc (count_to h n) ≡ count_to g n
count_less g h zero k l e o = absurd (omega (arith, l))
count_less g h (suc n) k l e o = elim (last_or_before k n l) as (λ _. suc (count_to h (suc n)) ≡ count_to g (suc n)) [
  | inl f ↦ (let same = count_ext h g n (λ a m. o a (omega (arith, m)) (λ q. omega (arith, m, q, f))) in
      let here : suc (h n) ≡ g n = subst (λ k. suc (h k) ≡ g k) f e in
      omega (arith, same, here))
  | inr m ↦ (let before = count_less g h n k m e (λ a q. o a (omega (arith, q))) in
      let here = o n (omega arith) (λ q. omega (arith, m, q)) in
      omega (arith, before, here))
]

pub count_has : (g : ℕ → ℕ) (n k : ℕ) → k < n → g k ≤ count_to g n
count_has g zero k l = absurd (omega (arith, l))
count_has g (suc n) k l = elim (last_or_before k n l) as (λ _. g k ≤ count_to g (suc n)) [
  | inl f ↦ (let here = ap g f in omega (arith, here))
  | inr m ↦ (let before = count_has g n k m in omega (arith, before))
]

abbrev pub one_if : Bool → ℕ
one_if q = if q then 1 else 0

pub mark_true : (x n : ℕ) → x ≡ n → one_if (nat_eq x n) ≡ 1
mark_true x n e = ap one_if (eq-eqb x n e)

pub mark_false : (x n : ℕ) → x ≢ n → one_if (nat_eq x n) ≡ 0
mark_false x n h = by (nat_eq x n) refl
  where
    by : (q : Bool) → nat_eq x n ≡ q → one_if q ≡ 0
    by true e = absurd (h (eqb-true x n e))
    by false e = refl

mark_alike : (x y n : ℕ) → x ≡ y → one_if (nat_eq x n) ≡ one_if (nat_eq y n)
mark_alike x y n e = ap (λ x. one_if (nat_eq x n)) e

-- where every vertex that was reached was followed, the levels are those of all vertices
pub levels_of : {N : Network} {d parent queue : ℕ → ℕ} {m at : ℕ} → m ≤ at → IsSearch N d parent queue m at → AreLevels N d parent
levels_of {N} {d} {parent} {queue} {m} {at} l w = record {
  labelling = record {
    start = w.start;
    top = w.top;
    step = λ a b i j h. elim (cases_eq (d a) N.vertices) as (λ _. d b ≤ suc (d a)) [
      | inl e ↦ (let t = w.top b j in omega (arith, e, t))
      | inr e ↦ (let t = w.top a i in let q = w.queued a i (omega (arith, e, t)) in
          subst (λ a. d b ≤ suc (d a)) q.2 (w.followed q.0 b (let p = q.1 in omega (arith, p, l)) j (subst (λ a. pos 0 <ℤ N.residual a b) (sym q.2) h)))
    ];
  };
  parents = w.parents;
  closed = λ a b i j r h. elim (cases_eq (d b) N.vertices) as (λ _. d b < N.vertices) [
    | inl e ↦ (let q = w.queued a i r in
        let f = w.followed q.0 b (let p = q.1 in omega (arith, p, l)) j (subst (λ a. pos 0 <ℤ N.residual a b) (sym q.2) h) in
        let p = w.place q.0 q.1 in
        let m = q.1 in
        let left = count_has (λ a. one_if (nat_eq (d a) N.vertices)) N.vertices b j in
        let one = mark_true (d b) N.vertices e in
        let all = w.count in
        absurd (omega (arith, f, p, m, left, one, all, e)))
    | inr e ↦ (let t = w.top b j in omega (arith, e, t))
  ];
}

-- a vertex more
module _ {N : Network} {d parent queue : ℕ → ℕ} {m at : ℕ} (w : IsSearch N d parent queue m at) (l : at < m) (to : ℕ) (i : to < N.vertices) (new : d to ≡ N.vertices) (left : pos 0 <ℤ N.residual (queue at) to) where
  pub more_left : m < N.vertices
  more_left =
      let h = count_has (λ a. one_if (nat_eq (d a) N.vertices)) N.vertices to i in
      let e = mark_true (d to) N.vertices new in
      let c = w.count in
      omega (arith, h, e, c)

  pub next_level : suc (d (queue at)) < N.vertices
  next_level = let p = w.place at l in let h = more_left in omega (arith, p, h, l)

  module _ (d' parent' queue' : ℕ → ℕ) (here : d' to ≡ suc (d (queue at))) (other : (a : ℕ) → a ≢ to → d' a ≡ d a) (parent_here : parent' to ≡ queue at) (parent_other : (a : ℕ) → a ≢ to → parent' a ≡ parent a) (last : queue' m ≡ to) (before : (j : ℕ) → j < m → queue' j ≡ queue j) where
    reached_other : (a : ℕ) → d a < N.vertices → a ≢ to
    reached_other a h e = let f = ap d e in omega (arith, h, f, new)

    reached_level : (a : ℕ) → d a < N.vertices → d' a ≡ d a
    reached_level a h = other a (reached_other a h)

    queued_level : (j : ℕ) → j < m → d' (queue' j) ≡ d (queue j)
    queued_level j h = ap d' (before j h) ∙ reached_level (queue j) (let p = w.place j h in let q = more_left in omega (arith, h, p, q))

    last_level : d' (queue' m) ≡ suc (d (queue at))
    last_level = ap d' last ∙ here

    not_above : (a : ℕ) → d' a ≤ d a
    not_above a = elim (cases_eq a to) as (λ _. d' a ≤ d a) [
      | inl e ↦ (let f = ap d e in let g = ap d' e in let q = next_level in omega (arith, f, g, q, new, here))
      | inr e ↦ (let f = other a e in omega (arith, f))
    ]

    -- the levels of queued vertices, those so far and the last
    by_place : (P : ℕ → ℕ → Type 0) → ((j : ℕ) → j < m → P j (d (queue j))) → P m (suc (d (queue at))) → (j : ℕ) → j < suc m → P j (d' (queue' j))
    by_place P so_far at_last j h = elim (last_or_before j m h) as (λ _. P j (d' (queue' j))) [
      | inl e ↦ subst (λ j. P j (d' (queue' j))) (sym e) (subst (P m) (sym last_level) at_last)
      | inr k ↦ subst (P j) (sym (queued_level j k)) (so_far j k)
    ]

    parents_more : HasParents N d' parent'
    parents_more = record {
      inside = λ a h k n. elim (cases_eq a to) as (λ _. parent' a < N.vertices) [
        | inl e ↦ subst (λ p. p < N.vertices) (sym parent_here ∙ ap parent' (sym e)) (w.inside at l)
        | inr e ↦ subst (λ p. p < N.vertices) (sym (parent_other a e)) (w.parents.inside a h (old a k e) n)
      ];
      below = λ a h k n. elim (cases_eq a to) as (λ _. suc (d' (parent' a)) ≡ d' a) [
        | inl e ↦ (let f : d' (parent' a) ≡ d (queue at) = ap d' (ap parent' e ∙ parent_here) ∙ reached_level (queue at) (let q = next_level in omega (arith, q)) in
            let g = ap d' e in omega (arith, f, g, here))
        | inr e ↦ (let b = w.parents.below a h (old a k e) n in
            let f : d' (parent' a) ≡ d (parent a) = ap d' (parent_other a e) ∙ reached_level (parent a) (let o = old a k e in omega (arith, b, o)) in
            let g = other a e in omega (arith, f, g, b))
      ];
      left = λ a h k n. elim (cases_eq a to) as (λ _. pos 0 <ℤ N.residual (parent' a) a) [
        | inl e ↦ subst (λ a. pos 0 <ℤ N.residual (parent' a) a) (sym e) (subst (λ p. pos 0 <ℤ N.residual p to) (sym parent_here) left)
        | inr e ↦ subst (λ p. pos 0 <ℤ N.residual p a) (sym (parent_other a e)) (w.parents.left a h (old a k e) n)
      ];
    }
      where
        old : (a : ℕ) → d' a < N.vertices → a ≢ to → d a < N.vertices
        old a k e = let f = other a e in omega (arith, k, f)

    count_more : suc m + unreached N.vertices d' ≡ N.vertices
    count_more =
        let gone : suc (one_if (nat_eq (d' to) N.vertices)) ≡ one_if (nat_eq (d to) N.vertices) = ap suc (mark_false (d' to) N.vertices (λ e. let q = next_level in omega (arith, e, q, here))) ∙ sym (mark_true (d to) N.vertices new) in
        let e = count_less (λ a. one_if (nat_eq (d a) N.vertices)) (λ a. one_if (nat_eq (d' a) N.vertices)) N.vertices to i gone (λ a h n. mark_alike (d' a) (d a) N.vertices (other a n)) in
        let c = w.count in
        omega (arith, e, c)

    pub search_more : IsSearch N d' parent' queue' (suc m) at
    search_more = record {
      start = reached_level N.source (let s = w.start in omega (arith, s, i)) ∙ w.start;
      top = λ a h. let t = w.top a h in let u = not_above a in omega (arith, t, u);
      parents = parents_more;
      count = count_more;
      inside = λ j h. elim (last_or_before j m h) as (λ _. queue' j < N.vertices) [
        | inl e ↦ subst (λ q. q < N.vertices) (sym (ap queue' e ∙ last)) i
        | inr k ↦ subst (λ q. q < N.vertices) (sym (before j k)) (w.inside j k)
      ];
      place = by_place (λ j x. x ≤ j) w.place (let p = w.place at l in omega (arith, p, l));
      queued = λ a h k. elim (cases_eq a to) as (λ _. (j : ℕ) × (j < suc m) × (queue' j ≡ a)) [
        | inl e ↦ (m, omega arith, last ∙ sym e)
        | inr e ↦ (let f = other a e in let q = w.queued a h (omega (arith, k, f)) in let p = q.1 in (q.0, omega (arith, p), before q.0 p ∙ q.2))
      ];
      rising = λ x j h k. by_place (λ j z. x ≤ j → d' (queue' x) ≤ z)
          (λ j k h. subst (λ y. y ≤ d (queue j)) (sym (queued_level x (omega (arith, h, k)))) (w.rising x j h k))
          (λ h. by_place (λ x y. x ≤ m → y ≤ suc (d (queue at))) (λ x k h. w.near at x (omega arith) l k) (λ h. omega arith) x (omega (arith, h)) h)
          j k h;
      near = λ x j h k n. by_place (λ x y. at ≤ x → d' (queue' j) ≤ suc y)
          (λ x k h. by_place (λ j z. z ≤ suc (d (queue x))) (λ j n. w.near x j h k n) (let r = w.rising at x h k in omega (arith, r)) j n)
          (λ h. by_place (λ j z. z ≤ suc (suc (d (queue at)))) (λ j n. let r = w.near at j (omega arith) l n in omega (arith, r)) (omega arith) j n)
          x k h;
      followed = λ j b h k f.
          let p : j < m = omega (arith, h, l) in
          let e = queued_level j p in
          let u = not_above b in
          let v = w.followed j b h k (subst (λ a. pos 0 <ℤ N.residual a b) (before j p) f) in
          omega (arith, e, u, v);
    }

    -- the levels of other vertices do not rise, and that of the vertex that is followed stays
    pub level_kept : (a : ℕ) → d' a ≤ d a
    level_kept = not_above

    pub level_followed : d' (queue' at) ≡ d (queue at)
    level_followed = queued_level at l

-- the next vertex of the queue was followed
pub search_next : {N : Network} {d parent queue : ℕ → ℕ} {m at : ℕ} → IsSearch N d parent queue m at → at < m → ((b : ℕ) → b < N.vertices → pos 0 <ℤ N.residual (queue at) b → d b ≤ suc (d (queue at))) → IsSearch N d parent queue m (suc at)
search_next {N} {d} {parent} {queue} {m} {at} w l h = record {
  start = w.start;
  top = w.top;
  parents = w.parents;
  count = w.count;
  inside = w.inside;
  place = w.place;
  queued = w.queued;
  rising = w.rising;
  near = λ i j n. w.near i j (omega (arith, n));
  followed = λ j b n k f. elim (last_or_before j at n) as (λ _. d b ≤ suc (d (queue j))) [
    | inl e ↦ subst (λ j. d b ≤ suc (d (queue j))) (sym e) (h b k (subst (λ j. pos 0 <ℤ N.residual (queue j) b) e f))
    | inr o ↦ w.followed j b o k f
  ];
}
