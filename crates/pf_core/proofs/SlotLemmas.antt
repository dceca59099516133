-- What words tell of labels.
use Rattle.std.proofs.Common.{not, subst, ℕ, zero, suc, ◌+◌, ◌-◌, ◌^◌, ◌<◌, ◌≤◌, ◌≡◌, refl, sym, ◌∙◌, ap, arith, Bool, true, false, Option, Some, List, [], ◌∷◌, ◌++◌, length, length-append, replicate, take, take_all, inl, inr, if◌then◌else◌}
use Rattle.std.specs.Prelude.{◌⊎◌, MatchBool}
use Rattle.std.proofs.lemmas.Bool.{lt-ltb, le-ltb}
use Rattle.std.specs.List.{AllClonesOf, AppendsClonesOf}
use Rattle.pf_core.specs.declared.labels.Label.{Label}
use Rattle.pf_core.specs.Slots.{placed, label_in}

module _ {C : Type 0} (cost : C) where
  -- a word behind the first two is that of a number
  placed-behind : (word above : ℕ) (settled : Bool) → 1 < word → placed cost word above settled ≡ Some (record { cost = cost; parent = word - 2; depth = above + 1; settled = settled })
  placed-behind zero above settled h = absurd (omega (arith, h))
  placed-behind (suc zero) above settled h = absurd (omega (arith, h))
  placed-behind (suc (suc n)) above settled h = let e : n ≡ suc (suc n) - 2 = omega arith in ap (λ p. Some (record { cost = cost; parent = p; depth = above + 1; settled = settled })) e

  -- the first two words are no label, and one of depth 0
  placed-flat : (word above : ℕ) (settled : Bool) → word ≤ 1 → (l : Label C) → placed cost word above settled ≡ Some l → l.depth ≡ 0
  placed-flat zero above settled h l e = cc
  placed-flat (suc zero) above settled h l e = let q : Some (record { cost = cost; parent = 0; depth = 0; settled = settled }) ≡ Some l = e in let r : record { cost = cost; parent = 0; depth = 0; settled = settled } ≡ l = cc in sym (ap (λ (m : Label C). m.depth) r)
  placed-flat (suc (suc n)) above settled h l e = absurd (omega (arith, h))

  -- what stays of a word without the mark of settled labels
  abbrev pub IsRest : ℕ → ℕ → Type 0
  IsRest word rest = ((2 ^ 63 ≤ word) × (rest ≡ word - 2 ^ 63)) ⊎ ((word < 2 ^ 63) × (rest ≡ word))

  module _ (o : Option (Label C)) (word rest above : ℕ) (e : label_in cost word above ≡ o) (by : IsRest word rest) where
    placed_at : (s : Bool) × (o ≡ placed cost rest above s)
    placed_at = elim by as (λ _. (s : Bool) × (o ≡ placed cost rest above s)) [
      | inl h ↦ (true, sym e ∙ ap (λ b. if b then placed cost word above false else placed cost (word - 2 ^ 63) above true) (le-ltb word (2 ^ 63) h.0) ∙ ap (λ w. placed cost w above true) (sym h.1))
      | inr h ↦ (false, sym e ∙ ap (λ b. if b then placed cost word above false else placed cost (word - 2 ^ 63) above true) (lt-ltb word (2 ^ 63) h.0) ∙ ap (λ w. placed cost w above false) (sym h.1))
    ]

    pub parent_at : 1 < rest → (l : Label C) × (o ≡ Some l) × (l.parent ≡ rest - 2) × (0 < l.depth)
    parent_at h = let p = placed_at in (record { cost = cost; parent = rest - 2; depth = above + 1; settled = p.0 }, p.1 ∙ placed-behind rest above p.0 h, refl, omega arith)

    pub flat_at : rest ≤ 1 → (l : Label C) → o ≡ Some l → l.depth ≡ 0
    flat_at h l k = let p = placed_at in placed-flat rest above p.0 h l (sym p.1 ∙ k)

-- clones that equal their source
all_clones : {A : Type 0} (x : A) (ys : List A) → AllClonesOf (λ x y. y ≡ x) x ys → ys ≡ replicate (length ys) x
all_clones x [] h = refl
all_clones x (y ∷ ys) h = λ i. (elim h.0 as (λ _. y ≡ x) [ inl e ↦ e | inr e ↦ e ]) i ∷ all_clones x ys h.1 i

-- clones of one thing behind a list
pub filled : {A : Type 0} (xs ys : List A) (n : ℕ) (x : A) → length xs ≤ n → AppendsClonesOf (λ x y. y ≡ x) (take n xs) ys x → length ys ≡ n → ys ≡ xs ++ replicate (n - length xs) x
filled xs ys n x h a len =
    let e : ys ≡ xs ++ a.0 = a.1 ∙ ap (λ zs. zs ++ a.0) (take_all n xs h) in
    let more : length a.0 ≡ n - length xs = omega (arith, ap length e, length-append xs a.0, len) in
    e ∙ ap (λ zs. xs ++ zs) (all_clones x a.0 a.2 ∙ ap (λ m. replicate m x) more)

-- a label is open where it is not settled
pub is_open_there : {C : Type 0} (o : Option (Label C)) (l : Label C) → o ≡ Some l → (b : Bool) → l.settled ≡ b → MatchBool (not b) ((m : Label C) × (o ≡ Some m) × (m.settled ≡ false)) ((m : Label C) → o ≡ Some m → m.settled ≡ true)
is_open_there o l h true s = λ m k. let e : Some l ≡ Some m = sym h ∙ k in let f : l ≡ m = cc in subst (λ (n : Label _). n.settled ≡ true) f s
is_open_there o l h false s = (l, h, s)
