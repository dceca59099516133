-- The index of the last set that has a node.
use Rattle.std.proofs.Common.{ℕ, ◌+◌, ◌<◌, ◌≤◌, ◌≡◌, refl, sym, ◌∙◌, ap, subst, arith, true≢false, List, [], ◌∷◌, ◌++◌, length, get_or, take, inl, inr, ◌⊎◌, Bool, true, false, ◌||◌, Some, None, Option, if◌then◌else◌}
use Rattle.std.specs.Prelude.{slice_get, ◌↔◌}
use Rattle.std.specs.Cmp.{IsEquivalence}
use Rattle.std.specs.HashMap.{HashMap, get}
use Rattle.std.specs.HashSet.{HashSet, contains}
use Rattle.std.specs.List.{list_any}
use Rattle.std.proofs.lemmas.List.{take_more, length-take-le}
use Rattle.std.proofs.lemmas.Option.{same_Some, none-some, slice_get_within}
use Rattle.pf_components.specs.Components.{InSet, MapsToGreatest}
use Rattle.pf_base.proofs.ListLemmas.{get_push, get-append, get_at_end, none_in}

any_push : {A : Type 0} (test : A → Bool) (xs : List A) (x : A) → list_any test (xs ++ x ∷ []) ≡ (if test x then true else list_any test xs)
any_push test [] x = by (test x)
  where
    by : (b : Bool) → (b || false) ≡ (if b then true else false)
    by true = refl
    by false = refl
any_push test (y ∷ ys) x = ap (λ b. test y || b) (any_push test ys x) ∙ by (test y) (test x) (list_any test ys)
  where
    by : (a b c : Bool) → (a || (if b then true else c)) ≡ (if b then true else (a || c))
    by true true c = refl
    by true false c = refl
    by false true c = refl
    by false false c = refl

-- one more node of a set: what each node has
pub index_more : {N : Type 0} {eq : N → N → Bool} (laws : IsEquivalence eq) (done : List N) (node copy x : N) (i : ℕ) (before was now : Option ℕ)
    → eq node copy ≡ true → was ≡ (if list_any (eq x) done then Some i else before) → now ≡ (if eq copy x then Some i else was)
    → now ≡ (if list_any (eq x) (done ++ node ∷ []) then Some i else before)
index_more {N} {eq} laws done node copy x i before was now same h k =
    let e : eq copy x ≡ eq x node = sym (laws.congr node copy x same) ∙ laws.symm node x in
    k ∙ ap (λ b. if b then Some i else was) e ∙ by (eq x node) (list_any (eq x) done) h ∙ ap (λ b. if b then Some i else before) (sym (any_push (eq x) done node))
  where
    by : (b c : Bool) → was ≡ (if c then Some i else before) → (if b then Some i else was) ≡ (if (if b then true else c) then Some i else before)
    by true c e = refl
    by false c e = e

module _ {N S T : Type 0} {eq : N → N → Bool} where
  pub MapsToGreatest-none : (of_node : HashMap N ℕ T) → ((x : N) → get eq of_node x ≡ None) → MapsToGreatest {S = S} eq [] of_node
  MapsToGreatest-none of_node none = record { maps = λ x i. (λ h. absurd (none-some i (sym (none x) ∙ h)), λ h. absurd (none_in i h.0.0 h.0.1)) }

  pub MapsToGreatest-more : (sets : List (HashSet N S)) (n : ℕ) (s : HashSet N S) (before after : HashMap N ℕ T) → n < length sets → s ≡ get_or sets n s
      → ((x : N) → get eq after x ≡ (if contains eq s x then Some n else get eq before x)) → MapsToGreatest eq (take n sets) before → MapsToGreatest eq (take (n + 1) sets) after
  MapsToGreatest-more sets n s before after inside at puts h = record { maps = λ x i. by x i (contains eq s x) refl }
    where
      more : take (n + 1) sets ≡ take n sets ++ s ∷ []
      more = take_more sets n s inside ∙ ap (λ y. take n sets ++ y ∷ []) (sym at)

      short : length (take n sets) ≡ n
      short = length-take-le n sets (omega (arith, inside))

      last : slice_get (take (n + 1) sets) n ≡ Some s
      last = subst (λ xs. slice_get xs n ≡ Some s) (sym more) (subst (λ (m : ℕ). slice_get (take n sets ++ s ∷ []) m ≡ Some s) short (get_at_end (take n sets) s))

      wider : (j : ℕ) (x : N) → InSet eq (take n sets) j x → InSet eq (take (n + 1) sets) j x
      wider j x k = (k.0, subst (λ xs. slice_get xs j ≡ Some k.0) (sym more) (get-append (take n sets) (s ∷ []) j k.0 k.1), k.2)

      either : (j : ℕ) (x : N) → InSet eq (take (n + 1) sets) j x → InSet eq (take n sets) j x ⊎ ((j ≡ n) × (contains eq s x ≡ true))
      either j x k = elim (get_push (take n sets) s j k.0 (subst (λ xs. slice_get xs j ≡ Some k.0) more k.1)) [
        | inl e ↦ inl (k.0, e, k.2)
        | inr e ↦ inr (e.0 ∙ short, subst (λ t. contains eq t x ≡ true) (sym e.1) k.2)
      ]

      low : (j : ℕ) (x : N) → InSet eq (take n sets) j x → j < n
      low j x k = let l = slice_get_within (take n sets) j k.0 k.1 in omega (arith, l, short)

      by : (x : N) (i : ℕ) (b : Bool) → contains eq s x ≡ b → (get eq after x ≡ Some i) ↔ (InSet eq (take (n + 1) sets) i x × ((j : ℕ) → InSet eq (take (n + 1) sets) j x → j ≤ i))
      by x i true e =
          let put : get eq after x ≡ Some n = puts x ∙ ap (λ t. if t then Some n else get eq before x) e in (
            λ k.
                let same : n ≡ i = same_Some n i (sym put ∙ k) in
                (subst (λ (m : ℕ). InSet eq (take (n + 1) sets) m x) same (s, last, e), λ j q. elim (either j x q) [ inl r ↦ let l = low j x r in omega (arith, l, same) | inr r ↦ omega (arith, r.0, same) ]),
            λ k.
                let top = k.1 n (s, last, e) in
                elim (either i x k.0) [
                  | inl r ↦ let l = low i x r in absurd (omega (arith, l, top))
                  | inr r ↦ put ∙ ap Some (sym r.0)
                ],
          )
      by x i false e =
          let kept : get eq after x ≡ get eq before x = puts x ∙ ap (λ t. if t then Some n else get eq before x) e in (
            λ k. let r = (h.maps x i).0 (sym kept ∙ k) in (wider i x r.0, λ j q. elim (either j x q) [ inl p ↦ r.1 j p | inr p ↦ absurd (true≢false (sym p.1 ∙ e)) ]),
            λ k. elim (either i x k.0) [
              | inl p ↦ kept ∙ (h.maps x i).1 (p, λ j q. k.1 j (wider j x q))
              | inr p ↦ absurd (true≢false (sym p.1 ∙ e))
            ],
          )
