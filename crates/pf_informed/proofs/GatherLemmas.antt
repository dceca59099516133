-- Paths that were gathered.
use Rattle.std.proofs.Common.{◌≡◌, ℕ, zero, suc, ℤ, refl, subst, arith, Bool, List, [], ◌∷◌, ◌++◌, Some, inl, inr}
use Rattle.std.specs.Prelude.{Vec, Contains, slice_get}
use Rattle.std.specs.Cmp.{IsEquivalence}
use Rattle.pf_base.specs.Answers.{SameNodes}
use Rattle.pf_base.proofs.ListLemmas.{Contains-head, Contains-tail, Contains-cases, none_in}
use Rattle.pf_core.proofs.NodeLemmas.{eq-sym, eq-trans}
use Rattle.pf_informed.specs.CheapestPaths.{AreCheapestCleanPaths, lists_in}
use Rattle.pf_informed.specs.Internal.Ways.{AreGathered}

module _ {N : Type 0} (eq : N → N → Bool) (laws : IsEquivalence eq) where
  same_sym : (xs ys : List N) → SameNodes eq xs ys → SameNodes eq ys xs
  same_sym [] [] s = tt
  same_sym [] (y ∷ ys) s = absurd s
  same_sym (x ∷ xs) [] s = absurd s
  same_sym (x ∷ xs) (y ∷ ys) s = (eq-sym eq laws x y s.0, same_sym xs ys s.1)

  same_trans : (xs ys zs : List N) → SameNodes eq xs ys → SameNodes eq ys zs → SameNodes eq xs zs
  same_trans [] [] zs s t = t
  same_trans [] (y ∷ ys) zs s t = absurd s
  same_trans (x ∷ xs) [] zs s t = absurd s
  same_trans (x ∷ xs) (y ∷ ys) [] s t = absurd t
  same_trans (x ∷ xs) (y ∷ ys) (z ∷ zs) s t = (eq-trans eq laws x y z s.0 t.0, same_trans xs ys zs s.1 t.1)

module _ {N Z : Type 0} (eq : N → N → Bool) (laws : IsEquivalence eq) where
  -- one path more
  pub gathered_more : (vs : List (Vec N Z)) (ps : List (List N)) (v : Vec N Z) (p : List N) → AreGathered eq vs ps → SameNodes eq v.items p → AreGathered eq (vs ++ v ∷ []) (ps ++ p ∷ [])
  gathered_more [] [] v p g s = (s, tt)
  gathered_more [] (q ∷ ps) v p g s = absurd g
  gathered_more (u ∷ vs) [] v p g s = absurd g
  gathered_more (u ∷ vs) (q ∷ ps) v p g s = (g.0, gathered_more vs ps v p g.1 s)

  there : (vs : List (Vec N Z)) (ps : List (List N)) → AreGathered eq vs ps → (xs : List N) → Contains (lists_in vs) xs → (p : List N) × Contains ps p × SameNodes eq xs p
  there [] ps g xs c = absurd (omega (arith, c.1))
  there (v ∷ vs) [] g xs c = absurd g
  there (v ∷ vs) (p ∷ ps) g xs c = elim (Contains-cases (lists_in vs) v.items xs c) as (λ _. (q : List N) × Contains (p ∷ ps) q × SameNodes eq xs q) [
    | inl e ↦ (p, Contains-head ps p, subst (λ ys. SameNodes eq ys p) e g.0)
    | inr i ↦ let r = there vs ps g.1 xs i in (r.0, Contains-tail ps p r.0 r.1, r.2)
  ]

  back : (vs : List (Vec N Z)) (ps : List (List N)) → AreGathered eq vs ps → (p : List N) → Contains ps p → (xs : List N) × Contains (lists_in vs) xs × SameNodes eq xs p
  back [] [] g p c = absurd (omega (arith, c.1))
  back [] (q ∷ ps) g p c = absurd g
  back (v ∷ vs) [] g p c = absurd g
  back (v ∷ vs) (q ∷ ps) g p c = elim (Contains-cases ps q p c) as (λ _. (xs : List N) × Contains (v.items ∷ lists_in vs) xs × SameNodes eq xs p) [
    | inl e ↦ (v.items, Contains-head (lists_in vs) v.items, subst (SameNodes eq v.items) e g.0)
    | inr i ↦ let r = back vs ps g.1 p i in (r.0, Contains-tail (lists_in vs) v.items r.0 r.1, r.2)
  ]

  at_place : (vs : List (Vec N Z)) (ps : List (List N)) → AreGathered eq vs ps → (i : ℕ) (xs : List N) → slice_get (lists_in vs) i ≡ Some xs → (p : List N) × (slice_get ps i ≡ Some p) × SameNodes eq xs p
  at_place [] ps g i xs h = absurd (none_in i xs h)
  at_place (v ∷ vs) [] g i xs h = absurd g
  at_place (v ∷ vs) (p ∷ ps) g zero xs h = let e : Some v.items ≡ Some xs = h in let q : v.items ≡ xs = cc in (p, refl, subst (λ ys. SameNodes eq ys p) q g.0)
  at_place (v ∷ vs) (p ∷ ps) g (suc i) xs h = at_place vs ps g.1 i xs h

  -- what is gathered are all cheapest clean paths, where these are
  pub gathered_all : (edges : N → List (N × ℤ)) (starts : List N) (test : N → Bool) (vs : List (Vec N Z)) (ps : List (List N)) (t : ℤ) → AreGathered eq vs ps → AreCheapestCleanPaths eq edges starts test ps t → AreCheapestCleanPaths eq edges starts test (lists_in vs) t
  gathered_all edges starts test vs ps t g a = record {
    some = let p = a.some in let r = back vs ps g p.0 p.1 in (r.0, r.1);
    sound = λ path nodes c s. let r = there vs ps g path c in a.sound r.0 nodes r.1 (same_trans eq laws nodes path r.0 s r.2);
    complete = λ nodes c. let p = a.complete nodes c in let r = back vs ps g p.0 p.1 in (r.0, r.1, same_trans eq laws nodes p.0 r.0 p.2 (same_sym eq laws r.0 p.0 r.2));
    once = λ i j path path' h k s.
        let p = at_place vs ps g i path h in
        let q = at_place vs ps g j path' k in
        a.once i j p.0 q.0 p.1 q.1 (same_trans eq laws p.0 path q.0 (same_sym eq laws path p.0 p.2) (same_trans eq laws path path' q.0 s q.2));
  }
