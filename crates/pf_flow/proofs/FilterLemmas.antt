-- The flows that leave the vertices that were reached.
use Rattle.std.proofs.Common.{◌≡◌, ◌∙◌, refl, sym, ap, subst, ◌<◌, ℕ, ℤ, zero, suc, pos, arith, Bool, true, false, true≢false, List, [], ◌∷◌, length, cond, Some}
use Rattle.std.specs.Prelude.{◌<ℤ◌, ◌&&◌, not, slice_get, slice_index}
use Rattle.std.specs.List.{filter}
use Rattle.pf_residual.specs.Networks.{Network, IsNetwork}
use Rattle.pf_residual.specs.Listings.{ListsFlows, ListsCut}
use Rattle.pf_residual.specs.Internal.Levels.{AreLevels, reached, leaves}
use Rattle.pf_flow.proofs.CutOfLevels.{leaving_full}

module _ {X : Type 0} (p : X → Bool) where
  none_here : (i : ℕ) (x : X) → slice_get [] i ≡ Some x → ⊥
  none_here zero x h = cc
  none_here (suc i) x h = cc

  module _ (y : X) (ys rest : List X) where
    sound_by : (x : X) → ((i : ℕ) → slice_get rest i ≡ Some x → (j : ℕ) × (slice_get ys j ≡ Some x) × (p x ≡ true)) → (b : Bool) → p y ≡ b → (i : ℕ) → slice_get (cond b (y ∷ rest) rest) i ≡ Some x → (j : ℕ) × (slice_get (y ∷ ys) j ≡ Some x) × (p x ≡ true)
    sound_by x r true e zero h = let f : y ≡ x = cc in (0, h, subst (λ z. p z ≡ true) f e)
    sound_by x r true e (suc i) h = let q = r i h in (suc q.0, q.1, q.2)
    sound_by x r false e i h = let q = r i h in (suc q.0, q.1, q.2)

    complete_by : (x : X) → p x ≡ true → ((j : ℕ) → slice_get ys j ≡ Some x → (i : ℕ) × (slice_get rest i ≡ Some x)) → (b : Bool) → p y ≡ b → (j : ℕ) → slice_get (y ∷ ys) j ≡ Some x → (i : ℕ) × (slice_get (cond b (y ∷ rest) rest) i ≡ Some x)
    complete_by x t r true e zero h = (0, h)
    complete_by x t r true e (suc j) h = let q = r j h in (suc q.0, q.1)
    complete_by x t r false e zero h = let f : y ≡ x = cc in absurd (true≢false (sym t ∙ ap p (sym f) ∙ e))
    complete_by x t r false e (suc j) h = r j h

    rising_by : (x z : X) → ((j : ℕ) → slice_get rest j ≡ Some z → (l : ℕ) × (slice_get ys l ≡ Some z)) → ((i j : ℕ) → i < j → slice_get rest i ≡ Some x → slice_get rest j ≡ Some z → (k : ℕ) × (l : ℕ) × (k < l) × (slice_get ys k ≡ Some x) × (slice_get ys l ≡ Some z))
        → (b : Bool) → (i j : ℕ) → i < j → slice_get (cond b (y ∷ rest) rest) i ≡ Some x → slice_get (cond b (y ∷ rest) rest) j ≡ Some z → (k : ℕ) × (l : ℕ) × (k < l) × (slice_get (y ∷ ys) k ≡ Some x) × (slice_get (y ∷ ys) l ≡ Some z)
    rising_by x z s r true i zero l h e = absurd (omega (arith, l))
    rising_by x z s r true zero (suc j) l h e = let q = s j e in (0, suc q.0, omega arith, h, q.1)
    rising_by x z s r true (suc i) (suc j) l h e = let q = r i j (omega (arith, l)) h e in let m = q.2 in (suc q.0, suc q.1, omega (arith, m), q.3, q.4)
    rising_by x z s r false i j l h e = let q = r i j l h e in let m = q.2 in (suc q.0, suc q.1, omega (arith, m), q.3, q.4)

  -- an element that is left is one of the list, and passes the test
  pub filter_sound : (xs : List X) (i : ℕ) (x : X) → slice_get (filter p xs) i ≡ Some x → (j : ℕ) × (slice_get xs j ≡ Some x) × (p x ≡ true)
  filter_sound [] i x h = absurd (none_here i x h)
  filter_sound (y ∷ ys) i x h = sound_by y ys (filter p ys) x (λ i h. filter_sound ys i x h) (p y) refl i h

  pub filter_complete : (xs : List X) (j : ℕ) (x : X) → slice_get xs j ≡ Some x → p x ≡ true → (i : ℕ) × (slice_get (filter p xs) i ≡ Some x)
  filter_complete [] j x h e = absurd (none_here j x h)
  filter_complete (y ∷ ys) j x h e = complete_by y ys (filter p ys) x e (λ j h. filter_complete ys j x h e) (p y) refl j h

  -- and the order stays
  pub filter_rising : (xs : List X) (i j : ℕ) (x y : X) → i < j → slice_get (filter p xs) i ≡ Some x → slice_get (filter p xs) j ≡ Some y → (k : ℕ) × (l : ℕ) × (k < l) × (slice_get xs k ≡ Some x) × (slice_get xs l ≡ Some y)
  filter_rising [] i j x y l h e = absurd (none_here i x h)
  filter_rising (z ∷ zs) i j x y l h e = rising_by z zs (filter p zs) x y (λ j e. let q = filter_sound zs j y e in (q.0, q.1)) (λ i j l h e. filter_rising zs i j x y l h e) (p z) i j l h e

leaves_parts : (a b : Bool) → (a && not b) ≡ true → (a ≡ true) × (b ≡ false)
leaves_parts true true h = absurd (true≢false (sym h))
leaves_parts true false h = (refl, refl)
leaves_parts false b h = absurd (true≢false (sym h))

parts_leave : (a b : Bool) → a ≡ true → b ≡ false → (a && not b) ≡ true
parts_leave true true h k = absurd (true≢false k)
parts_leave true false h k = refl
parts_leave false b h k = absurd (true≢false (sym h))

module _ {fits : ℤ → Type 0} {C : Type 0} (value : C → ℤ) {N : Network} (levels parents : List ℕ) (net : IsNetwork fits N) (source_in : N.source < N.vertices) (sink_in : N.sink < N.vertices) (w : AreLevels N (slice_index levels) (slice_index parents)) (len : length levels ≡ N.vertices) (cut_off : slice_index levels N.sink ≡ N.vertices) where
  -- the flows that leave what was reached are the edges of the cut
  pub cut_of_flows : (flows : List ((ℕ × ℕ) × C)) → ListsFlows value N flows → ListsCut value N (reached levels) (filter (λ e. leaves levels e.0.0 e.0.1) flows)
  cut_of_flows flows h = record {
    rising = λ i j d e l p q. let r = filter_rising (λ (e : (ℕ × ℕ) × C). leaves levels e.0.0 e.0.1) flows i j d e l p q in h.rising r.0 r.1 d e r.2 r.3 r.4;
    sound = λ i e p.
        let q = filter_sound (λ (e : (ℕ × ℕ) × C). leaves levels e.0.0 e.0.1) flows i e p in
        let s = h.sound q.0 e q.1 in
        let t = leaves_parts (reached levels e.0.0) (reached levels e.0.1) q.2 in
        let f = leaving_full levels parents net source_in sink_in w len cut_off e.0.0 e.0.1 s.0 s.1 t.0 t.1 in
        let low = s.2 in
        (s.0, s.1, (t.0, t.1, subst (λ z. pos 0 <ℤ z) f low), s.3 ∙ f);
    complete = λ a b l m k.
        let f = leaving_full levels parents net source_in sink_in w len cut_off a b l m k.0 k.1 in
        let q = h.complete a b l m (subst (λ z. pos 0 <ℤ z) (sym f) k.2) in
        let r = filter_complete (λ (e : (ℕ × ℕ) × C). leaves levels e.0.0 e.0.1) flows q.0 ((a, b), q.1) q.2 (parts_leave (reached levels a) (reached levels b) k.0 k.1) in
        (r.0, q.1, r.1);
  }
