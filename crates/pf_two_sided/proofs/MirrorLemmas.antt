-- Searches from both ends.
use Rattle.std.proofs.Common.{ℕ, zero, suc, ◌≡◌, refl, sym, ◌∙◌, ap, subst, arith, Bool, true≢false, List, [], ◌∷◌, ◌++◌, length, inl, inr, ℤ, pos}
use Rattle.std.specs.Prelude.{◌≤ℤ◌, ◌<ℤ◌, ◌+ℤ◌, ◌⊎◌}
use Rattle.std.proofs.lemmas.Int.{ints}
use Rattle.pf_base.specs.Walks.{end_of}
use Rattle.pf_core.specs.Labels.{Labels, by_depth, cost_of, AllSettled}
use Rattle.pf_core.specs.Steps.{GoesAlong, IsHop}
use Rattle.pf_two_sided.specs.Internal.Mirrors.{IsReached, IsCompleteTo, IsComplete, IsMirrored, NoneMeets}
use Rattle.pf_core.specs.Search.{SettledAt, WaitingAt, IsLow, IsSearch, StandsRoot}
use Rattle.pf_base.proofs.ListLemmas.{int_dec}
use Rattle.pf_core.proofs.FrontierLemmas.{frontier, goes_more, end_more}
use Rattle.pf_core.proofs.SearchLemmas.{found_at}
use Rattle.pf_discovery.proofs.LoopWalks.{hop_length}

-- where walks that are joined end
pub end_append : {X : Type 0} (v w : List X) (a : X) → end_of a (v ++ w) ≡ end_of (end_of a v) w
end_append [] w a = refl
end_append (b ∷ v) w a = end_append v w b

pub goes_append : {X : Type 0} (step : X → ℤ → X → Type 0) (v w : List X) (a : X) (t u : ℤ) → GoesAlong step a v t → GoesAlong step (end_of a v) w u → GoesAlong step a (v ++ w) (t +ℤ u)
goes_append step [] w a t u g h = subst (GoesAlong step a w) (omega (arith, ints, g)) h
goes_append step (b ∷ v) w a t u g h = (g.0, g.1 +ℤ u, g.2, goes_append step v w b g.1 u g.3 h, omega (arith, ints, g.4))

module _ {X : Type 0} (step : X → ℤ → X → Type 0) (starts : X → Type 0) where
  pub reached_more : (a b : X) (z : ℤ) → IsReached step starts a → step a z b → IsReached step starts b
  reached_more a b z r h = (r.0, r.1, r.2 ++ b ∷ [], r.3 +ℤ z, goes_more step r.2 r.0 b r.3 z r.4 (subst (λ c. step c z b) (sym r.5) h), end_more r.2 r.0 b)

-- a walk from a node that is reached to a root of the other side, walked back
module _ {X : Type 0} (step back : X → ℤ → X → Type 0) (starts ends : X → Type 0) (forth : (a b : X) (z : ℤ) → IsReached step starts a → IsReached back ends b → step a z b → back b z a) where
  pub walk_back : (w : List X) (a : X) (u : ℤ) → IsReached step starts a → GoesAlong step a w u → ends (end_of a w) → (v : List X) × GoesAlong back (end_of a w) v u × (end_of (end_of a w) v ≡ a)
  walk_back [] a u r g is = ([], g, refl)
  walk_back (b ∷ w) a u r g is =
      let e = end_of b w in
      let q = walk_back w b g.1 (reached_more step starts a b g.0 r g.2) g.3 is in
      let on = forth a b g.0 r (e, is, q.0, g.1, q.1, q.2) g.2 in (
        q.0 ++ a ∷ [],
        subst (GoesAlong back e (q.0 ++ a ∷ [])) (omega (arith, ints, g.4)) (goes_more back q.0 e a g.1 g.0 q.1 (subst (λ c. back c g.0 a) (sym q.2) on)),
        end_more q.0 e a,
      )

-- the first steps of a walk, at most n of them, and the others
pub record IsCutAt {X : Type 0} (step : X → ℤ → X → Type 0) (n : ℕ) (s : X) (w : List X) (u : ℤ) : Type 0 where
  pub before : List X
  pub after : List X
  pub up_to : ℤ
  pub rest : ℤ
  pub comes : GoesAlong step s before up_to
  pub goes_on : GoesAlong step (end_of s before) after rest
  pub ends : end_of (end_of s before) after ≡ end_of s w
  pub sums : u ≡ up_to +ℤ rest
  pub short : up_to ≤ℤ pos n
  pub full : (up_to ≡ pos n) ⊎ (rest ≡ pos 0)

pub cut_at : {X : Type 0} (step : X → ℤ → X → Type 0) → IsHop step → (n : ℕ) (s : X) (w : List X) (u : ℤ) → GoesAlong step s w u → IsCutAt step n s w u
cut_at step h zero s w u g = record { before = []; after = w; up_to = pos 0; rest = u; comes = refl; goes_on = g; ends = refl; sums = omega (arith, ints); short = omega (arith, ints); full = inl refl }
cut_at step h (suc n) s [] u g = record { before = []; after = []; up_to = pos 0; rest = u; comes = refl; goes_on = g; ends = refl; sums = omega (arith, ints); short = omega (arith, ints); full = inr g }
cut_at step h (suc n) s (b ∷ w) u g =
    let q = cut_at step h n b w g.1 g.3 in
    let one = h.one s g.0 b g.2 in
    record {
      before = b ∷ q.before;
      after = q.after;
      up_to = g.0 +ℤ q.up_to;
      rest = q.rest;
      comes = (g.0, q.up_to, g.2, q.comes, refl);
      goes_on = q.goes_on;
      ends = q.ends;
      sums = omega (arith, ints, q.sums, g.4);
      short = omega (arith, ints, q.short, one);
      full = elim q.full as (λ _. ((g.0 +ℤ q.up_to) ≡ pos (suc n)) ⊎ (q.rest ≡ pos 0)) [ inl e ↦ inl (omega (arith, ints, e, one)) | inr e ↦ inr e ];
    }

module _ {X : Type 0} (step back : X → ℤ → X → Type 0) (starts ends : X → Type 0) (stands others : ℕ → X → Type 0) (hop : IsHop step) (mirror : IsMirrored step back starts ends) (none : NoneMeets stands others) where
  -- where one side is complete up to the depth a and the other up to b and no node has a number on both, each walk from end to end has more than a + b steps
  pub walks_longer : (a b : ℕ) → IsCompleteTo step starts stands (pos a) → IsCompleteTo back ends others (pos b) → (s : X) → starts s → (w : List X) (u : ℤ) → GoesAlong step s w u → ends (end_of s w) → (pos a +ℤ pos b) <ℤ u
  walks_longer a b c d s is w u g at = elim (int_dec u (pos a +ℤ pos b)) as (λ _. (pos a +ℤ pos b) <ℤ u) [
    | inr longer ↦ longer
    | inl short ↦
        let q = cut_at step hop a s w u g in
        let m = end_of s q.before in
        let here = c s is q.before q.up_to q.comes q.short in
        let at' : ends (end_of m q.after) = subst ends (sym q.ends) at in
        let r = walk_back step back starts ends mirror.forth q.after m q.rest (s, is, q.before, q.up_to, q.comes, refl) q.goes_on at' in
        let low : q.rest ≤ℤ pos b = elim q.full as (λ _. q.rest ≤ℤ pos b) [ inl e ↦ omega (arith, ints, e, q.sums, short) | inr e ↦ omega (arith, ints, e) ] in
        let there = d (end_of m q.after) at' r.0 q.rest r.1 low in
        absurd (none here.0 there.0 m here.1 (subst (others there.0) r.2 there.1))
  ]

  -- where one side is complete, no walk leads from end to end
  pub no_walk_on : ((x : X) → ends x → (k : ℕ) × others k x) → IsComplete step starts stands → (s : X) → starts s → (w : List X) (u : ℤ) → GoesAlong step s w u → ¬ (ends (end_of s w))
  no_walk_on known c s is w u g at = let here = c s is w u g in let there = known (end_of s w) at in none here.0 there.0 (end_of s w) here.1 there.1

  pub no_walk_back : ((x : X) → starts x → (k : ℕ) × stands k x) → IsComplete back ends others → (s : X) → starts s → (w : List X) (u : ℤ) → GoesAlong step s w u → ¬ (ends (end_of s w))
  no_walk_back known c s is w u g at =
      let r = walk_back step back starts ends mirror.forth w s u (s, is, [], pos 0, refl, refl) g at in
      let there = c (end_of s w) at r.0 u r.1 in
      let here = known s is in
      none here.0 there.0 s here.1 (subst (others there.0) r.2 there.1)

module _ {X L : Type 0} (step : X → ℤ → X → Type 0) (hop : IsHop step) (root : ℕ → Bool) (stands : ℕ → X → Type 0) (labels : Labels L) (i : IsSearch by_depth step root stands labels) where
  -- a search is complete up to the depth of its least open label
  pub complete_to : (d : ℕ) → IsLow by_depth labels (pos d) → IsCompleteTo step (StandsRoot root stands) stands (pos d)
  complete_to d low s is w u g short =
      let b = i.start is.0 is.1 in
      elim (frontier step stands (SettledAt by_depth labels) (WaitingAt by_depth labels) i.cut w is.0 (cost_of by_depth b.0) s u (found_at by_depth step root stands labels is.0 b.0 b.1) is.2 g) as (λ _. (j : ℕ) × stands j (end_of s w)) [
        | inl r ↦ (r.number, r.here)
        | inr r ↦
            let q = r.is_waiting in
            let far = low r.number q.0 q.1 q.2 in
            let rest = hop_length step hop r.after (end_of s r.before) r.rest r.goes_on in
            let nothing : length r.after ≡ 0 = omega (arith, ints, far, rest, q.3, r.low, b.2, r.sums, short) in
            (r.number, subst (stands r.number) (sym (ap (end_of s) r.is ∙ end_append r.before r.after s ∙ end_none r.after (end_of s r.before) nothing)) r.here)
      ]
    where
      end_none : (v : List X) (a : X) → length v ≡ 0 → end_of a v ≡ a
      end_none [] a e = refl
      end_none (b ∷ v) a e = absurd (omega (arith, e))

  -- and one in which all is settled is complete
  pub complete : AllSettled labels → IsComplete step (StandsRoot root stands) stands
  complete all s is w u g =
      let b = i.start is.0 is.1 in
      elim (frontier step stands (SettledAt by_depth labels) (WaitingAt by_depth labels) i.cut w is.0 (cost_of by_depth b.0) s u (found_at by_depth step root stands labels is.0 b.0 b.1) is.2 g) as (λ _. (j : ℕ) × stands j (end_of s w)) [
        | inl r ↦ (r.number, r.here)
        | inr r ↦ let q = r.is_waiting in absurd (true≢false (sym (all r.number q.0 q.1) ∙ q.2))
      ]
