-- Marks of banned numbers.
use Rattle.std.proofs.Common.{◌≡◌, ℕ, zero, suc, ◌<◌, ◌≤◌, ◌+◌, ◌∙◌, refl, sym, subst, arith, inl, inr, Bool, true, false, true≢false, ◌||◌, List, [], ◌∷◌, ◌++◌, length, drop, get_or, add-one, nat_eq, eq-eqb, Some}
use Rattle.std.specs.Prelude.{slice_get, slice_set}
use Rattle.std.proofs.lemmas.Bool.{ne_eqb}
use Rattle.std.proofs.lemmas.List.Folds.{list_any-append}
use Rattle.std.proofs.lemmas.Option.{slice_get_within}
use Rattle.pf_base.proofs.ListLemmas.{get_set}
use Rattle.pf_yen.specs.Internal.Classes.{is_in}
use Rattle.pf_yen.specs.Internal.Marks.{AreMarked}

some_same : (x y : Bool) → Some x ≡ Some y → x ≡ y
some_same x y e = cc

-- whether a number is listed once one more is
in_more : (ks : List ℕ) (n b : ℕ) → is_in (ks ++ n ∷ []) b ≡ (is_in ks b || (nat_eq n b || false))
in_more ks n b = list_any-append (λ y. nat_eq y b) ks (n ∷ [])

in_last : (ks : List ℕ) (n b : ℕ) → b ≡ n → is_in (ks ++ n ∷ []) b ≡ true
in_last ks n b e = in_more ks n b ∙ by (is_in ks b) (nat_eq n b) (eq-eqb n b (sym e))
  where
    by : (c d : Bool) → d ≡ true → (c || (d || false)) ≡ true
    by true true t = refl
    by false true t = refl
    by true false t = refl
    by false false t = t

in_others : (ks : List ℕ) (n b : ℕ) → ¬ (b ≡ n) → is_in (ks ++ n ∷ []) b ≡ is_in ks b
in_others ks n b away = in_more ks n b ∙ by (is_in ks b) (nat_eq n b) (ne_eqb n b (λ e. away (sym e)))
  where
    by : (c d : Bool) → d ≡ false → (c || (d || false)) ≡ c
    by true true f = refl
    by false true f = f
    by true false f = refl
    by false false f = refl

-- a number more is listed and marked
pub marked_more : (marks : List Bool) (ks : List ℕ) (n : ℕ) → n < length marks → AreMarked marks ks → AreMarked (slice_set marks n true) (ks ++ n ∷ [])
marked_more marks ks n inside h b m e = elim (get_set marks n b true inside) as (λ _. m ≡ is_in (ks ++ n ∷ []) b) [
  | inl s ↦ some_same m true (sym e ∙ s.1) ∙ sym (in_last ks n b s.0)
  | inr s ↦ h b m (sym s.1 ∙ e) ∙ sym (in_others ks n b s.0)
]

-- a number more is listed that has no mark
pub marked_beyond : (marks : List Bool) (ks : List ℕ) (n : ℕ) → length marks ≤ n → AreMarked marks ks → AreMarked marks (ks ++ n ∷ [])
marked_beyond marks ks n out h b m e = h b m e ∙ sym (in_others ks n b (λ s. absurd (omega (arith, s, out, slice_get_within marks b m e))))

-- each number whose mark says so is listed
abbrev pub OnlyMarked : List Bool → List ℕ → Type 0
OnlyMarked marks ks = (b : ℕ) → slice_get marks b ≡ Some true → is_in ks b ≡ true

pub only_marked : (marks : List Bool) (ks : List ℕ) → AreMarked marks ks → OnlyMarked marks ks
only_marked marks ks h b e = sym (h b true e)

pub none_marked : (marks : List Bool) → OnlyMarked marks [] → AreMarked marks []
none_marked marks h b true e = sym (h b e)
none_marked marks h b false e = refl

behind_head : (n : ℕ) (ks : List ℕ) (b : ℕ) → is_in (n ∷ ks) b ≡ true → ¬ (b ≡ n) → is_in ks b ≡ true
behind_head n ks b t away = subst (λ (c : Bool). (c || is_in ks b) ≡ true) (ne_eqb n b (λ e. away (sym e))) t

-- the list from a place on, by its first number
from_place : (ks : List ℕ) (i d : ℕ) → i < length ks → drop i ks ≡ get_or ks i d ∷ drop (i + 1) ks
from_place ks i d inside = subst (λ (j : ℕ). drop i ks ≡ get_or ks i d ∷ drop j ks) (sym (add-one i)) (drop_here ks i d inside)
  where
    drop_here : (ks : List ℕ) (i d : ℕ) → i < length ks → drop i ks ≡ get_or ks i d ∷ drop (suc i) ks
    drop_here [] i d h = absurd (omega (arith, h))
    drop_here (k ∷ ks) zero d h = refl
    drop_here (k ∷ ks) (suc i) d h = drop_here ks i d (omega (arith, h))

module _ (marks : List Bool) (ks : List ℕ) (i d : ℕ) (inside : i < length ks) (h : OnlyMarked marks (drop i ks)) where
  abbrev n : ℕ
  n = get_or ks i d

  listed : (b : ℕ) → slice_get marks b ≡ Some true → ¬ (b ≡ n) → is_in (drop (i + 1) ks) b ≡ true
  listed b e away = behind_head n (drop (i + 1) ks) b (subst (λ (v : List ℕ). is_in v b ≡ true) (from_place ks i d inside) (h b e)) away

  -- the mark of the number at a place is taken away
  pub unmarked : n < length marks → OnlyMarked (slice_set marks n false) (drop (i + 1) ks)
  unmarked has b e = elim (get_set marks n b false has) as (λ _. is_in (drop (i + 1) ks) b ≡ true) [
    | inl s ↦ absurd (true≢false (some_same true false (sym e ∙ s.1)))
    | inr s ↦ listed b (sym s.1 ∙ e) s.0
  ]

  -- it has none
  pub unmarked_beyond : length marks ≤ n → OnlyMarked marks (drop (i + 1) ks)
  unmarked_beyond out b e = listed b e (λ s. absurd (omega (arith, s, out, slice_get_within marks b true e)))
