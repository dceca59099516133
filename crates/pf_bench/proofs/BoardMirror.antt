-- The steps of a board lead back: a cell that a step enters has a step to the cell that it came from.
use Rattle.std.proofs.Common.{◌≡◌, ◌∙◌, ℕ, ℤ, pos, negsuc, ◌+◌, ◌%◌, ◌^◌, ◌<◌, arith, refl, sym, ap, subst, inl, inr, Bool, true, false, Option, Some, None, List, [], ◌∷◌, nat_lt}
use Rattle.std.proofs.lemmas.Bool.{lt-ltb, ltb-true}
use Rattle.std.specs.Prelude.{if◌then◌else◌}
use Rattle.std.specs.Int.{cast_unsigned, w64}
use Rattle.std.specs.List.{AllByRecursion, cons_option, filter_map}
use Rattle.pf_base.specs.Mirrors.{IsMirror}
use Rattle.std.specs.Option.{option_zip}
use Rattle.pf_base.specs.Successors.{HasSuccessor}
use Rattle.pf_base.specs.Walks.{HasNode, IsReachable}
use Rattle.pf_base.proofs.Tables.{pair_refl, pair_exact, successors_keep}
use Rattle.pf_bench.specs.Steps.{cells_from, entered_cell, four_directions, moved_to, same_cell}

-- ---- what the answers of some directions contain

module _ {D : Type 0} (f : D → Option (ℕ × ℕ)) where
  one_of : (G : Type 0) (ds : List D) (b : ℕ × ℕ) → AllByRecursion (λ d. f d ≡ Some b → G) ds → HasNode same_cell (filter_map f ds) b → G
  one_of G [] b all h = absurd h
  one_of G (d ∷ ds) b all h = by (f d) refl (λ k. one_of G ds b all.1 k) h
    where
      by : (o : Option (ℕ × ℕ)) → f d ≡ o → (HasNode same_cell (filter_map f ds) b → G) → HasNode same_cell (cons_option o (filter_map f ds)) b → G
      by None e rest k = rest k
      by (Some y) e rest (inl k) = all.0 (e ∙ ap Some (pair_exact y b k))
      by (Some y) e rest (inr k) = rest k

  here : (d : D) (rest : List (ℕ × ℕ)) (b : ℕ × ℕ) → f d ≡ Some b → HasNode same_cell (cons_option (f d) rest) b
  here d rest b e = subst (λ o. HasNode same_cell (cons_option o rest) b) (sym e) (inl (pair_refl b))

  there : (d : D) (rest : List (ℕ × ℕ)) (b : ℕ × ℕ) → HasNode same_cell rest b → HasNode same_cell (cons_option (f d) rest) b
  there d rest b h = by (f d)
    where
      by : (o : Option (ℕ × ℕ)) → HasNode same_cell (cons_option o rest) b
      by None = h
      by (Some y) = inr h

-- ---- a coordinate that moves comes back

pub if_some : (b : Bool) (x t : ℕ) → (if b then Some x else None) ≡ Some t → (b ≡ true) × (x ≡ t)
if_some true x t e = (refl, cc)
if_some false x t e = cc

some_if : (b : Bool) (x : ℕ) → b ≡ true → (if b then Some x else None) ≡ Some x
some_if true x e = refl
some_if false x e = cc

pub both_some : (x y : Option ℕ) (b : ℕ × ℕ) → option_zip x y ≡ Some b → (x ≡ Some b.0) × (y ≡ Some b.1)
both_some None y b e = cc
both_some (Some r) None b e = cc
both_some (Some r) (Some c) b e = (cc, cc)

some_both : (x y : Option ℕ) (b : ℕ × ℕ) → x ≡ Some b.0 → y ≡ Some b.1 → option_zip x y ≡ Some b
some_both x y b e o = ap (λ z. option_zip z y) e ∙ ap (λ z. option_zip (Some b.0) z) o

module _ (size : ℕ) (fits : size < 2 ^ 64) where
  lt_true : (f : ℕ) → f < size → nat_lt f size ≡ true
  lt_true f h = lt-ltb f size h

  pub true_lt : (f : ℕ) → nat_lt f size ≡ true → f < size
  true_lt f h = ltb-true f size h

  -- s and u are opposite steps
  abbrev pub Opposite : ℤ → ℤ → Type 0
  Opposite s u = (f : ℕ) → f < 2 ^ 64 → ((f + cast_unsigned w64 s) % 2 ^ 64 + cast_unsigned w64 u) % 2 ^ 64 ≡ f

  pub stays : Opposite (pos 0) (pos 0)
  stays f h = omega arith

  pub on_and_back : Opposite (pos 1) (negsuc 0)
  on_and_back f h = omega arith

  pub back_and_on : Opposite (negsuc 0) (pos 1)
  back_and_on f h = omega arith

  comes_back : (s u : ℤ) → Opposite s u → (f t : ℕ) → f < size → moved_to f s size ≡ Some t → moved_to t u size ≡ Some f
  comes_back s u opposite f t h e =
      let at = if_some (nat_lt ((f + cast_unsigned w64 s) % 2 ^ 64) size) ((f + cast_unsigned w64 s) % 2 ^ 64) t e in
      let returned : (t + cast_unsigned w64 u) % 2 ^ 64 ≡ f = ap (λ z. (z + cast_unsigned w64 u) % 2 ^ 64) (sym at.1) ∙ opposite f (omega (arith, fits, h)) in
      subst (λ z. (if nat_lt z size then Some z else None) ≡ Some f) (sym returned) (some_if (nat_lt f size) f (lt_true f h))

  stays_inside : (s : ℤ) (f t : ℕ) → moved_to f s size ≡ Some t → t < size
  stays_inside s f t e =
      let at = if_some (nat_lt ((f + cast_unsigned w64 s) % 2 ^ 64) size) ((f + cast_unsigned w64 s) % 2 ^ 64) t e in
      true_lt t (subst (λ z. nat_lt z size ≡ true) at.1 at.0)

  -- a cell of the board
  abbrev pub IsCell : ℕ × ℕ → Type 0
  IsCell a = (a.0 < size) × (a.1 < size)

  pub cell_back : (a b : ℕ × ℕ) (d e : ℤ × ℤ) → Opposite d.0 e.0 → Opposite d.1 e.1 → IsCell a → entered_cell size a d ≡ Some b → entered_cell size b e ≡ Some a
  cell_back a b d e down right inside h =
      let p = both_some (moved_to a.0 d.0 size) (moved_to a.1 d.1 size) b h in
      some_both (moved_to b.0 e.0 size) (moved_to b.1 e.1 size) a (comes_back d.0 e.0 down a.0 b.0 inside.0 p.0) (comes_back d.1 e.1 right a.1 b.1 inside.1 p.1)

  leads_back : (a b : ℕ × ℕ) → IsCell a → HasSuccessor same_cell (cells_from size) a b → HasSuccessor same_cell (cells_from size) b a
  leads_back a b inside h =
      let f = entered_cell size a in
      let g = entered_cell size b in
      let rest3 = filter_map g ((negsuc 0, pos 0) ∷ []) in
      let rest2 = filter_map g ((pos 0, negsuc 0) ∷ (negsuc 0, pos 0) ∷ []) in
      let rest1 = filter_map g ((pos 1, pos 0) ∷ (pos 0, negsuc 0) ∷ (negsuc 0, pos 0) ∷ []) in
      one_of f (HasSuccessor same_cell (cells_from size) b a) four_directions b (
        (λ e. there g (pos 0, pos 1) rest1 a (there g (pos 1, pos 0) rest2 a (here g (pos 0, negsuc 0) rest3 a (cell_back a b (pos 0, pos 1) (pos 0, negsuc 0) stays on_and_back inside e)))),
        (
          (λ e. there g (pos 0, pos 1) rest1 a (there g (pos 1, pos 0) rest2 a (there g (pos 0, negsuc 0) rest3 a (here g (negsuc 0, pos 0) [] a (cell_back a b (pos 1, pos 0) (negsuc 0, pos 0) on_and_back stays inside e))))),
          (
            (λ e. here g (pos 0, pos 1) rest1 a (cell_back a b (pos 0, negsuc 0) (pos 0, pos 1) stays back_and_on inside e)),
            ((λ e. there g (pos 0, pos 1) rest1 a (here g (pos 1, pos 0) rest2 a (cell_back a b (negsuc 0, pos 0) (pos 1, pos 0) back_and_on stays inside e))), tt),
          ),
        ),
      ) h

  pub cell_after : (a b : ℕ × ℕ) (d : ℤ × ℤ) → entered_cell size a d ≡ Some b → IsCell b
  cell_after a b d h =
      let p = both_some (moved_to a.0 d.0 size) (moved_to a.1 d.1 size) b h in
      (stays_inside d.0 a.0 b.0 p.0, stays_inside d.1 a.1 b.1 p.1)

  cells_after : (a : ℕ × ℕ) (ds : List (ℤ × ℤ)) → AllByRecursion IsCell (filter_map (entered_cell size a) ds)
  cells_after a [] = tt
  cells_after a (d ∷ ds) = by (entered_cell size a d) refl (cells_after a ds)
    where
      by : (o : Option (ℕ × ℕ)) → entered_cell size a d ≡ o → AllByRecursion IsCell (filter_map (entered_cell size a) ds) → AllByRecursion IsCell (cons_option o (filter_map (entered_cell size a) ds))
      by None e rest = rest
      by (Some b) e rest = (cell_after a b d e, rest)

  pub reached_cell : (starts : List (ℕ × ℕ)) → AllByRecursion IsCell starts → (x : ℕ × ℕ) → IsReachable same_cell (HasSuccessor same_cell (cells_from size)) starts x → IsCell x
  reached_cell starts inside = successors_keep same_cell (cells_from size) IsCell (λ a b e p. subst IsCell (pair_exact a b e) p) (λ a p. cells_after a four_directions) starts inside

  pub cells_mirror : (starts ends : List (ℕ × ℕ)) → AllByRecursion IsCell starts → AllByRecursion IsCell ends → IsMirror same_cell (cells_from size) (cells_from size) starts ends
  cells_mirror starts ends s t = record {
    precedes = λ a b r q h. leads_back a b (reached_cell starts s a r) h;
    follows = λ a b r q h. leads_back b a (reached_cell ends t b q) h;
  }
