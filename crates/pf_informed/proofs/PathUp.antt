-- The path that the parents of labels lead along.
use Rattle.std.proofs.Common.{ℕ, ◌<◌, ◌≡◌, refl, sym, ap, subst, arith, true, List, [], ◌∷◌, ◌++◌, inl, inr, ℤ, pos, nat_eq, eq-eqb}
use Rattle.std.specs.Prelude.{◌≤ℤ◌, ◌+ℤ◌, reverse}
use Rattle.std.specs.List.{AllZip}
use Rattle.std.proofs.lemmas.Int.{ints}
use borrow.Author.Tests.{eqb-true}
use Rattle.pf_base.specs.Walks.{end_of, HasNode, NoRepeats}
use Rattle.pf_core.specs.Steps.{GoesAlong}
use Rattle.pf_core.specs.declared.labels.Label.{Label}
use Rattle.pf_core.specs.Labels.{Labels, HasLabel, Climbs}
use Rattle.pf_base.proofs.ListLemmas.{reverse-cons, AllZip-append}
use Rattle.pf_core.proofs.LabelLemmas.{label_is}
use Rattle.pf_core.proofs.FrontierLemmas.{goes_more, end_more}
use Rattle.pf_core.proofs.PathLemmas.{HasNode-append_cases, NoRepeats-append}
use Rattle.pf_informed.specs.Internal.Forest.{IsForest}

module _ {C : Type 0} (labels : Labels C) where
  -- ---- what the numbers of a chain stand for
  module _ {X : Type 0} (value : C → ℤ) (step : X → ℤ → X → Type 0) (starts : X → Type 0) (stands : ℕ → X → Type 0) (f : IsForest value labels)
      (begins : (s : X) × starts s × stands 0 s)
      (linked : (k : ℕ) (l m : Label C) → HasLabel labels k l → 0 < l.depth → HasLabel labels l.parent m → (x : X) → stands l.parent x → (y : X) × (z : ℤ) × step x z y × stands k y × ((value m.cost +ℤ z) ≤ℤ value l.cost)) where
    -- the numbers stand for a walk to what k stands for, which costs no more than the label
    pub record WalkUp (k : ℕ) (l : Label C) (numbers : List ℕ) : Type 0 where
      pub first : X
      pub is_start : starts first
      pub nodes : List X
      pub cost : ℤ
      pub numbered : AllZip stands numbers (first ∷ nodes)
      pub goes : GoesAlong step first nodes cost
      pub low : cost ≤ℤ value l.cost
      pub here : stands k (end_of first nodes)

    pub climb_walk : (above : List ℕ) (k : ℕ) (l : Label C) → HasLabel labels k l → Climbs labels k above → WalkUp k l (reverse (k ∷ above))
    climb_walk [] k l h c =
        let flat : k ≡ 0 = f.flat k c.0 c.1 c.2 in
        let z = f.first in
        let same : l ≡ z.0 = label_is labels 0 l z.0 (subst (λ (n : ℕ). HasLabel labels n l) flat h) z.1 in
        let here : stands k begins.0 = subst (λ (n : ℕ). stands n begins.0) (sym flat) begins.2 in
        record {
          first = begins.0;
          is_start = begins.1;
          nodes = [];
          cost = pos 0;
          numbered = (here, tt);
          goes = refl;
          low = omega (arith, ints, z.2, ap (λ (m : Label C). value m.cost) same);
          here = here;
        }
    climb_walk (p ∷ ps) k l h c =
        let same : c.0 ≡ l = label_is labels k c.0 l c.1 h in
        let deep : 0 < l.depth = subst (λ (m : Label C). 0 < m.depth) same c.3 in
        let before : l.parent ≡ p = subst (λ (m : Label C). m.parent ≡ p) same c.2 in
        let m = f.falls k l h deep in
        let at : HasLabel labels p m.0 = subst (λ (n : ℕ). HasLabel labels n m.0) before m.1 in
        let up = climb_walk ps p m.0 at c.4 in
        let x = end_of up.first up.nodes in
        let next = linked k l m.0 h deep m.1 x (subst (λ (n : ℕ). stands n x) (sym before) up.here) in
        let last : end_of up.first (up.nodes ++ next.0 ∷ []) ≡ next.0 = end_more up.nodes up.first next.0 in
        let walk : WalkUp k l (reverse (p ∷ ps) ++ k ∷ []) = record {
          first = up.first;
          is_start = up.is_start;
          nodes = up.nodes ++ next.0 ∷ [];
          cost = up.cost +ℤ next.1;
          numbered = AllZip-append stands (reverse (p ∷ ps)) (up.first ∷ up.nodes) k next.0 up.numbered next.3;
          goes = goes_more step up.nodes up.first next.0 up.cost next.1 up.goes next.2;
          low = omega (arith, ints, up.low, next.4);
          here = subst (stands k) (sym last) next.3;
        } in
        subst (WalkUp k l) (sym (reverse-cons k (p ∷ ps))) walk

-- ---- a list in reverse has the same numbers, each once
nat_symm : (x y : ℕ) → nat_eq x y ≡ true → nat_eq y x ≡ true
nat_symm x y h = eq-eqb y x (sym (eqb-true x y h))

pub HasNode-reverse : (xs : List ℕ) (j : ℕ) → HasNode nat_eq (reverse xs) j → HasNode nat_eq xs j
HasNode-reverse [] j h = h
HasNode-reverse (x ∷ xs) j h = elim (HasNode-append_cases nat_eq (reverse xs) x j (subst (λ ys. HasNode nat_eq ys j) (reverse-cons x xs) h)) as (λ _. HasNode nat_eq (x ∷ xs) j) [
  | inl i ↦ inr (HasNode-reverse xs j i)
  | inr e ↦ inl e
]

pub NoRepeats-reverse : (xs : List ℕ) → NoRepeats nat_eq xs → NoRepeats nat_eq (reverse xs)
NoRepeats-reverse [] d = d
NoRepeats-reverse (x ∷ xs) d = subst (NoRepeats nat_eq) (sym (reverse-cons x xs)) (NoRepeats-append nat_eq nat_symm (reverse xs) x (NoRepeats-reverse xs d.1) (λ h. d.0 (HasNode-reverse xs x h)))
