-- What arcs bring out of sets of vertices.
use Rattle.std.proofs.Common.{ℕ, zero, suc, ◌≡◌, refl, ◌∙◌, ap, arith, Bool, true, false, List, [], ◌∷◌, ◌++◌, ℤ, pos, Some}
use Rattle.std.specs.Prelude.{slice_get, slice_set, ◌+ℤ◌, ◌-ℤ◌, ◌≤ℤ◌, if◌then◌else◌}
use Rattle.std.proofs.lemmas.Int.{ints}
use Rattle.pf_residual.specs.declared.cancelling.arcs.Arc.{Arc}
use Rattle.pf_residual.specs.Internal.Cancelling.{gain, gain_at, gained, Leads, net_of}

-- the part of an amount that a set of vertices has
abbrev part : Bool → ℤ → ℤ
part b z = if b then z else pos 0

part_less : (b : Bool) (x z : ℤ) → part b (x -ℤ z) +ℤ part b z ≡ part b x
part_less true x z = omega (arith, ints)
part_less false x z = refl

pub gain_less : (side : ℕ → Bool) (e : Arc) (x z : ℤ) → gain side (x -ℤ z) e +ℤ gain side z e ≡ gain side x e
gain_less side e x z = let p = part_less (side e.from) x z in let q = part_less (side e.to) x z in omega (arith, ints, p, q)

module _ {C : Type 0} (value : C → ℤ) where
  pub net_set : (side : ℕ → Bool) (ends : List Arc) (xs : List C) (k : ℕ) (e : Arc) (x y : C) → slice_get ends k ≡ Some e → slice_get xs k ≡ Some x
      → net_of value side ends (slice_set xs k y) +ℤ gain side (value x) e ≡ net_of value side ends xs +ℤ gain side (value y) e
  net_set side [] xs zero e x y h i = absurd (cc)
  net_set side [] xs (suc k) e x y h i = absurd (cc)
  net_set side (f ∷ ends) [] zero e x y h i = absurd (cc)
  net_set side (f ∷ ends) [] (suc k) e x y h i = absurd (cc)
  net_set side (f ∷ ends) (w ∷ xs) zero e x y h i =
      let same : f ≡ e = cc in
      let also : w ≡ x = cc in
      let one : gain side (value w) f ≡ gain side (value x) e = ap (λ (p : Arc). gain side (value w) p) same ∙ ap (λ (u : C). gain side (value u) e) also in
      let two : gain side (value y) f ≡ gain side (value y) e = ap (λ (p : Arc). gain side (value y) p) same in
      omega (arith, ints, one, two)
  net_set side (f ∷ ends) (w ∷ xs) (suc k) e x y h i = let r = net_set side ends xs k e x y h i in omega (arith, ints, r)

  -- where one arc brings less than 0 out, and none more than 0, so does the whole
  pub net_none : (side : ℕ → Bool) (ends : List Arc) (xs : List C) → ((k : ℕ) (e : Arc) (x : C) → slice_get ends k ≡ Some e → slice_get xs k ≡ Some x → gain side (value x) e ≤ℤ pos 0) → net_of value side ends xs ≤ℤ pos 0
  net_none side [] xs h = omega (arith, ints)
  net_none side (e ∷ ends) [] h = omega (arith, ints)
  net_none side (e ∷ ends) (x ∷ xs) h = let one = h zero e x refl refl in let rest = net_none side ends xs (λ k. h (suc k)) in omega (arith, ints, one, rest)

  pub net_below : (side : ℕ → Bool) (ends : List Arc) (xs : List C) (k : ℕ) (e : Arc) (x : C) → slice_get ends k ≡ Some e → slice_get xs k ≡ Some x
      → ((k : ℕ) (e : Arc) (x : C) → slice_get ends k ≡ Some e → slice_get xs k ≡ Some x → gain side (value x) e ≤ℤ pos 0) → net_of value side ends xs ≤ℤ gain side (value x) e
  net_below side [] xs zero e x g i h = absurd (cc)
  net_below side [] xs (suc k) e x g i h = absurd (cc)
  net_below side (f ∷ ends) [] zero e x g i h = absurd (cc)
  net_below side (f ∷ ends) [] (suc k) e x g i h = absurd (cc)
  net_below side (f ∷ ends) (w ∷ xs) zero e x g i h =
      let same : f ≡ e = cc in
      let also : w ≡ x = cc in
      let one : gain side (value w) f ≡ gain side (value x) e = ap (λ (p : Arc). gain side (value w) p) same ∙ ap (λ (u : C). gain side (value u) e) also in
      let rest = net_none side ends xs (λ j. h (suc j)) in
      omega (arith, ints, one, rest)
  net_below side (f ∷ ends) (w ∷ xs) (suc k) e x g i h = let one = h zero f w refl refl in let rest = net_below side ends xs k e x g i (λ j. h (suc j)) in omega (arith, ints, one, rest)

-- one more number at the end
pub gained_more : (side : ℕ → Bool) (z : ℤ) (ends : List Arc) (ks : List ℕ) (k : ℕ) → gained side z ends (ks ++ k ∷ []) ≡ gained side z ends ks +ℤ gain_at side z (slice_get ends k)
gained_more side z ends [] k = omega (arith, ints)
gained_more side z ends (j ∷ ks) k = let r = gained_more side z ends ks k in omega (arith, ints, r)

-- arcs that lead from b to a bring out what one arc from b to a would
pub gained_leads : (side : ℕ → Bool) (z : ℤ) (ends : List Arc) (b : ℕ) (ks : List ℕ) (a : ℕ) → Leads ends b ks a → gained side z ends ks +ℤ part (side a) z ≡ part (side b) z
gained_leads side z ends b [] a h = let e : part (side b) z ≡ part (side a) z = ap (λ (v : ℕ). part (side v) z) h in omega (arith, ints, e)
gained_leads side z ends b (k ∷ ks) a h =
    let e = h.0 in
    let at : gain_at side z (slice_get ends k) ≡ gain side z e = ap (gain_at side z) h.1 in
    let to : part (side e.to) z ≡ part (side a) z = ap (λ (v : ℕ). part (side v) z) h.2 in
    let r = gained_leads side z ends b ks e.from h.3 in
    omega (arith, ints, at, to, r)

pub leads_more : (ends : List Arc) (b : ℕ) (ks : List ℕ) (a k : ℕ) (e : Arc) → Leads ends b ks a → slice_get ends k ≡ Some e → e.to ≡ b → Leads ends e.from (ks ++ k ∷ []) a
leads_more ends b [] a k e h at to = (e, at, to ∙ h, refl)
leads_more ends b (j ∷ ks) a k e h at to = (h.0, h.1, h.2, leads_more ends b ks h.0.from k e h.3 at to)

-- no set of vertices brings out what one cycle takes
pub gained_round : (side : ℕ → Bool) (z : ℤ) (ends : List Arc) (ks : List ℕ) (a : ℕ) → Leads ends a ks a → gained side z ends ks ≡ pos 0
gained_round side z ends ks a h = let r = gained_leads side z ends a ks a h in omega (arith, ints, r)
