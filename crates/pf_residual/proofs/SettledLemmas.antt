-- Flows of arcs that are set one after the other.
use Rattle.std.proofs.Common.{◌≡◌, ◌≢◌, ◌∙◌, inl, inr, refl, sym, ap, subst, ◌<◌, ◌+◌, ◌+ℤ◌, ℕ, ℤ, zero, suc, pos, arith, Bool, true, false, List, [], ◌∷◌, Some, length, take, nat_eq, true≢false, eq-eqb, add-one, ◌++◌}
use Rattle.std.specs.Prelude.{◌-ℤ◌, neg_ℤ, slice_get, if◌then◌else◌}
use Rattle.std.proofs.lemmas.Int.{ints}
use borrow.Author.Tests.{eqb-true}
use Rattle.pf_base.proofs.ListLemmas.{none_in}
use Rattle.pf_residual.specs.declared.cancelling.arcs.Arc.{Arc}
use Rattle.pf_residual.specs.Flows.{PairTable}
use Rattle.pf_base.specs.Sums.{sum_to}
use Rattle.pf_residual.specs.Internal.AugmentingPaths.{amount_at}
use Rattle.pf_residual.specs.Internal.Cancelling.{gain, net_of, AreInside}
use Rattle.pf_residual.specs.Internal.Settled.{moved, side_sum, settled, Touches, AreApart}
use Rattle.pf_residual.proofs.SumLemmas.{sum_ext, sum_add, sum_none, sum_only}
use Rattle.pf_residual.proofs.AddedLemmas.{moved_back, moved_elsewhere, moved_row}
use Rattle.pf_residual.proofs.NetLemmas.{gain_less}

-- a number at one vertex, where that vertex is on a side
pub at_side : (side : ℕ → Bool) (u : ℕ) (z : ℤ) (n : ℕ) → u < n → sum_to (λ a. if side a then amount_at u z a else pos 0) n ≡ (if side u then z else pos 0)
at_side side u z n l = sum_only (λ a. if side a then amount_at u z a else pos 0) n u l (λ a m d. off a (side a) (nat_eq a u) refl d) ∙ ap (λ x. if side u then x else pos 0) (on (nat_eq u u) refl)
  where
    off : (a : ℕ) (s q : Bool) → nat_eq a u ≡ q → a ≢ u → (if s then (if q then z else pos 0) else pos 0) ≡ pos 0
    off a true true e d = absurd (d (eqb-true a u e))
    off a true false e d = refl
    off a false q e d = refl

    on : (q : Bool) → nat_eq u u ≡ q → (if q then z else pos 0) ≡ z
    on true e = refl
    on false e = absurd (true≢false (sym (eq-eqb u u refl) ∙ e))

pick_add : (p : Bool) (x y z w : ℤ) → x +ℤ y ≡ z +ℤ w → (if p then x else pos 0) +ℤ (if p then y else pos 0) ≡ (if p then z else pos 0) +ℤ (if p then w else pos 0)
pick_add true x y z w h = h
pick_add false x y z w h = refl

-- what a move back over an arc does to the rows of a set
pub moved_side : (t : PairTable) (n : ℕ) (side : ℕ → Bool) (e : Arc) (z : ℤ) → e.from < n → e.to < n → side_sum n (moved t e.to e.from z) side +ℤ gain side z e ≡ side_sum n t side
moved_side t n side e z l m =
    let new = λ (a : ℕ). if side a then sum_to (moved t e.to e.from z a) n else pos 0 in
    let old = λ (a : ℕ). if side a then sum_to (t a) n else pos 0 in
    let into = λ (a : ℕ). if side a then amount_at e.from z a else pos 0 in
    let out = λ (a : ℕ). if side a then amount_at e.to z a else pos 0 in
    let rows = sum_ext (λ a. new a +ℤ into a) (λ a. old a +ℤ out a) n (λ a k. pick_add (side a) _ _ _ _ (moved_row t e.to e.from z n a m l)) in
    let one = sum_add new into n in
    let two = sum_add old out n in
    let three = at_side side e.from z n l in
    let four = at_side side e.to z n m in
    omega (arith, ints, rows, one, two, three, four)

apart_rest : (e : Arc) (ends : List Arc) → AreApart (e ∷ ends) → AreApart ends
apart_rest e ends h = record {
  loops = λ k d g. h.loops (suc k) d g;
  once = λ j k d f p q r. let s = h.once (suc j) (suc k) d f p q r in omega (arith, s);
}

untouched : (t : PairTable) (e : Arc) (a b : ℕ) (z : ℤ) → e.from ≢ e.to → ¬ (Touches a b e) → moved t e.to e.from z a b ≡ t a b
untouched t e a b z loop h = moved_elsewhere t e.to e.from z (neg_ℤ z) (λ q. loop (sym q)) a b (λ p q. h (inr (p, q))) (λ p q. h (inl (p, q)))

module _ {C : Type 0} (value : C → ℤ) where
  -- the rows of a set change as what the arcs bring out of it
  pub settled_side : (n : ℕ) (side : ℕ → Bool) (ends : List Arc) (t : PairTable) (was xs : List C) → AreApart ends → AreInside n ends → length was ≡ length ends → length xs ≡ length ends
      → ((k : ℕ) (e : Arc) (x : C) → slice_get ends k ≡ Some e → slice_get was k ≡ Some x → t e.from e.to ≡ value x)
      → side_sum n (settled value t ends xs) side +ℤ net_of value side ends was ≡ side_sum n t side +ℤ net_of value side ends xs
  settled_side n side [] t was xs h i k l at = refl
  settled_side n side (e ∷ ends) t [] xs h i k l at = absurd (omega (arith, k))
  settled_side n side (e ∷ ends) t (w ∷ was) [] h i k l at = absurd (omega (arith, l))
  settled_side n side (e ∷ ends) t (w ∷ was) (x ∷ xs) h i k l at =
      let z = t e.from e.to -ℤ value x in
      let t' = moved t e.to e.from z in
      let within = i zero e refl in
      let rest = settled_side n side ends t' was xs (apart_rest e ends h) (λ j. i (suc j)) (omega (arith, k)) (omega (arith, l))
      (λ j d y p q. untouched t e d.from d.to z (h.loops zero e refl) (λ r. absurd (omega (arith, h.once (suc j) zero d e p refl r))) ∙ at (suc j) d y p q) in
      let one = moved_side t n side e z within.0 within.1 in
      let here = at zero e w refl refl in
      let less = gain_less side e (t e.from e.to) (value x) in
      let same : gain side (t e.from e.to) e ≡ gain side (value w) e = ap (λ u. gain side u e) here in
      omega (arith, ints, rest, one, less, same)

  -- other pairs stay
  pub settled_elsewhere : (ends : List Arc) (t : PairTable) (xs : List C) (a b : ℕ) → ((k : ℕ) (e : Arc) → slice_get ends k ≡ Some e → e.from ≢ e.to) → ((k : ℕ) (e : Arc) → slice_get ends k ≡ Some e → ¬ (Touches a b e)) → settled value t ends xs a b ≡ t a b
  settled_elsewhere [] t xs a b h i = refl
  settled_elsewhere (e ∷ ends) t [] a b h i = refl
  settled_elsewhere (e ∷ ends) t (x ∷ xs) a b h i =
      let z = t e.from e.to -ℤ value x in
      settled_elsewhere ends (moved t e.to e.from z) xs a b (λ k. h (suc k)) (λ k. i (suc k)) ∙ untouched t e a b z (h zero e refl) (i zero e refl)

  -- an arc has its number, where reverses have opposite numbers
  pub settled_here : (ends : List Arc) (t : PairTable) (xs : List C) (k : ℕ) (e : Arc) (x : C) → AreApart ends → slice_get ends k ≡ Some e → slice_get xs k ≡ Some x → settled value t ends xs e.from e.to ≡ value x
  settled_here [] t xs k e x h g f = absurd (none_in k e g)
  settled_here (d ∷ ends) t [] k e x h g f = absurd (none_in k x f)
  settled_here (d ∷ ends) t (y ∷ xs) zero e x h g f =
      let z = t d.from d.to -ℤ value y in
      let loop = h.loops zero d refl in
      let same : Some d ≡ Some e = g in
      let v : d ≡ e = cc in
      let also : Some y ≡ Some x = f in
      let u : y ≡ x = cc in
      let before = moved_back t d.to d.from z (neg_ℤ z) (λ q. loop (sym q)) in
      let after = settled_elsewhere ends (moved t d.to d.from z) xs d.from d.to (λ j. h.loops (suc j)) (λ j c p r. absurd (omega (arith, h.once zero (suc j) d c refl p r))) in
      let number : value y ≡ value x = ap value u in
      subst (λ (c : Arc). settled value (moved t d.to d.from z) ends xs c.from c.to ≡ value x) v (omega (arith, ints, before, after, number))
  settled_here (d ∷ ends) t (y ∷ xs) (suc k) e x h g f = settled_here ends (moved t d.to d.from (t d.from d.to -ℤ value y)) xs k e x (apart_rest d ends h) g f

  -- one arc more
  pub settled_more : (ends : List Arc) (t : PairTable) (xs : List C) (k : ℕ) (e : Arc) (x : C) → slice_get ends k ≡ Some e → slice_get xs k ≡ Some x
      → settled value t (take (k + 1) ends) (take (k + 1) xs) ≡ moved (settled value t (take k ends) (take k xs)) e.to e.from (settled value t (take k ends) (take k xs) e.from e.to -ℤ value x)
  settled_more ends t xs k e x g f = ap (λ (n : ℕ). settled value t (take n ends) (take n xs)) (add-one k) ∙ by ends t xs k e x g f
    where
      by : (ends : List Arc) (t : PairTable) (xs : List C) (k : ℕ) (e : Arc) (x : C) → slice_get ends k ≡ Some e → slice_get xs k ≡ Some x
          → settled value t (take (suc k) ends) (take (suc k) xs) ≡ moved (settled value t (take k ends) (take k xs)) e.to e.from (settled value t (take k ends) (take k xs) e.from e.to -ℤ value x)
      by [] t xs k e x g f = absurd (none_in k e g)
      by (d ∷ ends) t [] k e x g f = absurd (none_in k x f)
      by (d ∷ ends) t (y ∷ xs) zero e x g f =
          let same : Some d ≡ Some e = g in
          let v : d ≡ e = cc in
          let also : Some y ≡ Some x = f in
          let u : y ≡ x = cc in
          ap (λ (c : Arc). moved t c.to c.from (t c.from c.to -ℤ value y)) v ∙ ap (λ (w : C). moved t e.to e.from (t e.from e.to -ℤ value w)) u
      by (d ∷ ends) t (y ∷ xs) (suc k) e x g f = by ends (moved t d.to d.from (t d.from d.to -ℤ value y)) xs k e x g f

  -- the numbers of all arcs at 0 bring out nothing
  pub net_zero : (side : ℕ → Bool) (ends : List Arc) (xs : List C) → ((k : ℕ) (x : C) → slice_get xs k ≡ Some x → value x ≡ pos 0) → net_of value side ends xs ≡ pos 0
  net_zero side [] xs h = refl
  net_zero side (e ∷ ends) [] h = refl
  net_zero side (e ∷ ends) (x ∷ xs) h =
      let rest = net_zero side ends xs (λ k. h (suc k)) in
      let one = ap (λ z. gain side z e) (h zero x refl) in
      let none = gain_none (side e.from) (side e.to) in
      omega (arith, ints, rest, one, none)
    where
      gain_none : (p q : Bool) → ((if p then pos 0 else pos 0) -ℤ (if q then pos 0 else pos 0)) ≡ pos 0
      gain_none true true = refl
      gain_none true false = refl
      gain_none false true = refl
      gain_none false false = refl

  -- one arc more at the end of the lists
  pub net_push : (side : ℕ → Bool) (ends : List Arc) (xs : List C) (e : Arc) (x : C) → length xs ≡ length ends → net_of value side (ends ++ e ∷ []) (xs ++ x ∷ []) ≡ net_of value side ends xs +ℤ gain side (value x) e
  net_push side [] [] e x h = omega (arith, ints)
  net_push side [] (y ∷ xs) e x h = absurd (omega (arith, h))
  net_push side (d ∷ ends) [] e x h = absurd (omega (arith, h))
  net_push side (d ∷ ends) (y ∷ xs) e x h = let r = net_push side ends xs e x (omega (arith, h)) in omega (arith, ints, r)

-- the rows of a set in a table of nothing
pub side_none : (n : ℕ) (t : PairTable) (side : ℕ → Bool) → ((a b : ℕ) → a < n → b < n → t a b ≡ pos 0) → side_sum n t side ≡ pos 0
side_none n t side h = sum_none (λ a. if side a then sum_to (t a) n else pos 0) n (λ a l. pick (side a) (sum_to (t a) n) (sum_none (t a) n (λ b m. h a b l m)))
  where
    pick : (p : Bool) (x : ℤ) → x ≡ pos 0 → (if p then x else pos 0) ≡ pos 0
    pick true x e = e
    pick false x e = refl

-- the rows of one vertex
pub side_one : (n : ℕ) (t : PairTable) (a : ℕ) → a < n → side_sum n t (λ b. nat_eq b a) ≡ sum_to (t a) n
side_one n t a l = sum_only (λ b. if nat_eq b a then sum_to (t b) n else pos 0) n a l (λ b m d. off b (nat_eq b a) refl d) ∙ ap (λ (q : Bool). if q then sum_to (t a) n else pos 0) (eq-eqb a a refl)
  where
    off : (b : ℕ) (q : Bool) → nat_eq b a ≡ q → b ≢ a → (if q then sum_to (t b) n else pos 0) ≡ pos 0
    off b true e d = absurd (d (eqb-true b a e))
    off b false e d = refl
