-- Two values that follow each other at a fixed distance until they are equal.
use Rattle.std.proofs.Common.{ℕ, ◌+◌, ◌<◌, ◌≡◌, subst, arith, Bool, true, false, inl, inr}
use Rattle.std.specs.Cmp.{IsEquivalence}
use Rattle.std.proofs.lemmas.Bool.{cases_lt}
use Rattle.pf_cycles.specs.Cycles.{IsAfter, IsMet, Repeats}
use Rattle.pf_cycles.proofs.CycleLemmas.{after_next, not_same_after}

-- The value stands at the index, the one ahead so many places on, and no value before came again after as many places.
pub record IsChase {N : Type 0} (eq : N → N → Bool) (next : N → N) (start value ahead : N) (length index : ℕ) : Type 0 where
  pub follows : IsAfter eq next start index value
  pub leads : IsAfter eq next start (index + length) ahead
  pub before : (k : ℕ) → k < index → ¬ (Repeats eq next start k length)

module _ {N : Type 0} {eq : N → N → Bool} (laws : IsEquivalence eq) {next : N → N} {start : N} (alike : (x y : N) → IsMet eq next start x → eq x y ≡ true → eq (next x) (next y) ≡ true) where
  none_here : (value ahead : N) (length index : ℕ) → IsChase eq next start value ahead length index → eq value ahead ≡ false → ¬ (Repeats eq next start index length)
  none_here value ahead length index c f = not_same_after laws alike index (index + length) value ahead c.follows c.leads f

  pub chase_on : (value ahead value' ahead' : N) (length index : ℕ) → IsChase eq next start value ahead length index → eq value ahead ≡ false → eq (next value) value' ≡ true → eq (next ahead) ahead' ≡ true
      → IsChase eq next start value' ahead' length (index + 1)
  chase_on value ahead value' ahead' length index c f v a = record {
    follows = after_next laws alike index value value' c.follows v;
    leads = let e : index + length + 1 ≡ index + 1 + length = omega arith in subst (λ i. IsAfter eq next start i ahead') e (after_next laws alike (index + length) ahead ahead' c.leads a);
    before = λ k l. elim (cases_lt k index) [
      | inl b ↦ c.before k b
      | inr b ↦ let e : index ≡ k = omega arith in subst (λ i. ¬ (Repeats eq next start i length)) e (none_here value ahead length index c f)
    ];
  }

  pub chase_below : (value ahead : N) (length index most : ℕ) → IsChase eq next start value ahead length index → eq value ahead ≡ false → Repeats eq next start most length → index < most
  chase_below value ahead length index most c f r = elim (cases_lt index most) [
    | inl b ↦ b
    | inr b ↦ elim (cases_lt most index) [
      | inl l ↦ absurd (c.before most l r)
      | inr l ↦ let e : most ≡ index = omega arith in absurd (none_here value ahead length index c f (subst (λ i. Repeats eq next start i length) e r))
    ]
  ]
