-- The frontier cuts every walk.
use Rattle.std.proofs.Common.{ℕ, ◌≡◌, refl, ap, arith, List, [], ◌∷◌, ◌++◌, inl, inr, ℤ, pos}
use Rattle.std.specs.Prelude.{◌≤ℤ◌, ◌+ℤ◌, ◌⊎◌}
use Rattle.std.proofs.lemmas.Int.{ints}
use Rattle.pf_base.specs.Walks.{end_of}
use Rattle.pf_core.specs.Steps.{GoesAlong, IsNonNegative}
use Rattle.pf_core.specs.Frontier.{IsFound, IsCut, EndsSettled, MeetsWaiting}

module _ {X : Type 0} (step : X → ℤ → X → Type 0) (stands : ℕ → X → Type 0) (settled waiting : ℕ → ℤ → Type 0) (cut : IsCut step stands settled waiting) where
  -- along any walk from a found number: its end is settled at no more than its cost, or a waiting number stands on it
  pub frontier : (w : List X) (k : ℕ) (d : ℤ) (a : X) (t : ℤ) → IsFound step stands settled waiting k d → stands k a → GoesAlong step a w t
      → EndsSettled step stands settled waiting a d w t ⊎ MeetsWaiting step stands settled waiting a d w t
  frontier w k d a t (inr h) s walk = inr (record {
    before = [];
    after = w;
    is = refl;
    up_to = pos 0;
    rest = t;
    comes = refl;
    goes_on = walk;
    sums = omega (arith, ints);
    number = k;
    label = d;
    is_waiting = h;
    here = s;
    low = omega (arith, ints);
  })
  frontier [] k d a t (inl h) s walk = inl (record { number = k; label = d; is_settled = h; here = s; low = omega (arith, ints, walk) })
  frontier (b ∷ w) k d a t (inl h) s walk =
      let n = cut.along k d a h s walk.0 b walk.2 in
      elim (frontier w n.0 n.1 b walk.1 n.2 n.3 walk.3) as (λ _. EndsSettled step stands settled waiting a d (b ∷ w) t ⊎ MeetsWaiting step stands settled waiting a d (b ∷ w) t) [
        | inl r ↦ inl (record { number = r.number; label = r.label; is_settled = r.is_settled; here = r.here; low = omega (arith, ints, r.low, n.4, walk.4) })
        | inr r ↦ inr (record {
          before = b ∷ r.before;
          after = r.after;
          is = ap (λ v. b ∷ v) r.is;
          up_to = walk.0 +ℤ r.up_to;
          rest = r.rest;
          comes = (walk.0, r.up_to, walk.2, r.comes, refl);
          goes_on = r.goes_on;
          sums = omega (arith, ints, r.sums, walk.4);
          number = r.number;
          label = r.label;
          is_waiting = r.is_waiting;
          here = r.here;
          low = omega (arith, ints, r.low, n.4);
        })
      ]

-- a walk costs no less than 0
pub walk_positive : {X : Type 0} (step : X → ℤ → X → Type 0) → IsNonNegative step → (w : List X) (a : X) (t : ℤ) → GoesAlong step a w t → pos 0 ≤ℤ t
walk_positive step p [] a t h = omega (arith, ints, h)
walk_positive step p (b ∷ w) a t h = omega (arith, ints, p.non_negative a h.0 b h.2, walk_positive step p w b h.1 h.3, h.4)

module _ {X : Type 0} (step : X → ℤ → X → Type 0) where
  -- a walk and one step more
  pub goes_more : (w : List X) (a b : X) (t z : ℤ) → GoesAlong step a w t → step (end_of a w) z b → GoesAlong step a (w ++ b ∷ []) (t +ℤ z)
  goes_more [] a b t z h k = (z, pos 0, k, refl, omega (arith, ints, h))
  goes_more (c ∷ w) a b t z h k = (h.0, h.1 +ℤ z, h.2, goes_more w c b h.1 z h.3 k, omega (arith, ints, h.4))

-- where a walk and one step more ends
pub end_more : {X : Type 0} (w : List X) (a b : X) → end_of a (w ++ b ∷ []) ≡ b
end_more [] a b = refl
end_more (c ∷ w) a b = end_more w c b
