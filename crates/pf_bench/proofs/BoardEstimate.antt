-- The rows and the columns between two cells of a board are no more than what a way from one to the other costs.
use Rattle.std.proofs.Common.{◌≡◌, ℕ, ℤ, pos, negsuc, ◌+◌, ◌-◌, ◌*◌, ◌%◌, ◌^◌, ◌<◌, ◌≤◌, arith, sym, ap, subst, inl, inr, Bool, true, Option, Some, None, List, [], ◌∷◌, length, nat_lt, slice_index}
use Rattle.std.specs.Prelude.{◌≤ℤ◌, ◌+ℤ◌, ◌⊎◌, All, min}
use Rattle.std.specs.Int.{abs_diff, cast_unsigned, w64}
use Rattle.std.specs.Option.{option_map}
use Rattle.std.proofs.Math.Nat.{min-le_left, min-le_right, le-min}
use Rattle.std.proofs.lemmas.Int.{ints}
use Rattle.std.proofs.lemmas.Nat.{mul-add-lt}
use Rattle.pf_base.specs.Edges.{HasEdge, IsSuccessor, StepsCost, WalkCosts}
use Rattle.pf_base.specs.Walks.{BeginsAt, EndsAt, Follows, IsGoalWalk, IsWalk, end_of}
use Rattle.pf_base.proofs.Tables.{pair_exact}
use Rattle.pf_informed.specs.Estimates.{IsAdmissible}
use Rattle.pf_bench.specs.Steps.{entered, entered_cell, four_directions, moved_to, same_cell, steps_between, steps_from}
use Rattle.pf_bench.proofs.BoardMirror.{IsCell, both_some, cell_after, if_some, true_lt}
use Rattle.pf_bench.proofs.CrossMirror.{edge_of}

-- ---- an estimate that falls by no more than a step costs, at nodes of which P holds, is admissible

module _ {N : Type 0} (eq : N → N → Bool) (edges : N → List (N × ℤ)) (test : N → Bool) (estimate : N → ℤ) (P : N → Type 0)
    (exact : (x y : N) → eq x y ≡ true → x ≡ y) (from_zero : (x : N) → pos 0 ≤ℤ estimate x) (at_goal : (x : N) → test x ≡ true → estimate x ≤ℤ pos 0)
    (keeps : (a b : N) (z : ℤ) → P a → HasEdge eq (edges a) b z → P b) (falls : (a b : N) (z : ℤ) → P a → HasEdge eq (edges a) b z → estimate a ≤ℤ (z +ℤ estimate b)) where
  along : (w : List N) (a : N) (u : ℤ) → P a → StepsCost eq edges a w u → test (end_of a w) ≡ true → estimate a ≤ℤ u
  along [] a u p costs good = omega (arith, ints, at_goal a good, costs)
  along (b ∷ w) a u p costs good =
      let s = costs.2 in
      omega (arith, ints, falls a b costs.0 p s.edge, along w b costs.1 (keeps a b costs.0 p s.edge) costs.3 good, costs.4)

  below : (x : N) (walk : List N) (u : ℤ) → P x → IsGoalWalk eq (IsSuccessor eq edges) (x ∷ []) test walk → WalkCosts eq edges walk u → estimate x ≤ℤ u
  below x [] u p walk costs = absurd costs
  below x (a ∷ w) u p walk costs = elim walk.begins as (λ _. estimate x ≤ℤ u) [
    | inl e ↦ subst (λ (n : N). estimate n ≤ℤ u) (sym (exact x a e)) (along w a u (subst P (exact x a e) p) costs walk.ends)
    | inr n ↦ absurd n
  ]

  walk_keeps : (a : N) (w : List N) → P a → Follows (IsSuccessor eq edges) a w → P (end_of a w)
  walk_keeps a [] p h = p
  walk_keeps a (b ∷ w) p h = walk_keeps b w (keeps a b h.0.0 p h.0.1) h.1

  reached : (s : N) → P s → (w : List N) (x : N) → IsWalk (IsSuccessor eq edges) w → BeginsAt eq (s ∷ []) w → EndsAt eq (λ y. eq y x) w → P x
  reached s p [] x walks begins ends = absurd walks
  reached s p (a ∷ w) x walks (inl begins) ends = subst P (exact (end_of a w) x ends) (walk_keeps a w (subst P (exact s a begins) p) walks)
  reached s p (a ∷ w) x walks (inr begins) ends = absurd begins

  pub admissible_within : (s : N) → P s → IsAdmissible eq edges (s ∷ []) test estimate
  admissible_within s p = record {
    from_zero = λ x r. from_zero x;
    never_above = λ x r walk u goes costs. below x walk u (reached s p r.walk x r.goes.walks r.goes.begins r.goes.ends) goes costs;
  }

-- ---- one coordinate of a step

-- two numbers are apart by 1 at most
abbrev pub IsBeside : ℕ → ℕ → Type 0
IsBeside f t = (f ≤ t + 1) × (t ≤ f + 1)

capped : (x y m : ℕ) → x ≤ y + 1 → min x m ≤ min y m + 1
capped x y m h =
    let a : min x m ≤ y + 1 = omega (arith, min-le_left x m, h) in
    let b : min x m ≤ m + 1 = omega (arith, min-le_right x m) in
    let c : min x m - 1 ≤ min y m = le-min (omega (arith, a)) (omega (arith, b)) in
    omega (arith, c)

pub apart : (a b c d s t : ℕ) → (IsBeside a b × (c ≡ d)) ⊎ ((a ≡ b) × IsBeside c d) → abs_diff a s + abs_diff c t ≤ abs_diff b s + abs_diff d t + 1
apart a b c d s t (inl h) = omega (arith, h.0.0, h.0.1, h.1)
apart a b c d s t (inr h) = omega (arith, h.0, h.1.0, h.1.1)

module _ (size : ℕ) (fits : size < 2 ^ 64) where
  shifted : (s : ℤ) (f t : ℕ) → moved_to f s size ≡ Some t → ((f + cast_unsigned w64 s) % 2 ^ 64 ≡ t) × (t < size)
  shifted s f t e =
      let at = if_some (nat_lt ((f + cast_unsigned w64 s) % 2 ^ 64) size) ((f + cast_unsigned w64 s) % 2 ^ 64) t e in
      (at.1, true_lt size fits t (subst (λ z. nat_lt z size ≡ true) at.1 at.0))

  -- what a step does to one coordinate
  abbrev Stays : ℤ → Type 0
  Stays s = (f t : ℕ) → f < size → moved_to f s size ≡ Some t → f ≡ t

  abbrev Shifts : ℤ → Type 0
  Shifts s = (f t : ℕ) → f < size → moved_to f s size ≡ Some t → IsBeside f t

  stays : Stays (pos 0)
  stays f t h e = let m = shifted (pos 0) f t e in omega (arith, fits, h, m.0)

  on : Shifts (pos 1)
  on f t h e = let m = shifted (pos 1) f t e in (omega (arith, fits, h, m.0), omega (arith, fits, h, m.0))

  back : Shifts (negsuc 0)
  back f t h e = let m = shifted (negsuc 0) f t e in (omega (arith, fits, h, m.0, m.1), omega (arith, fits, h, m.0, m.1))

  -- a step in a row or in a column
  abbrev IsUnit : ℤ × ℤ → Type 0
  IsUnit d = (Shifts d.0 × Stays d.1) ⊎ (Stays d.0 × Shifts d.1)

  nearer : (a b g : ℕ × ℕ) (d : ℤ × ℤ) → IsUnit d → IsCell size fits a → entered_cell size a d ≡ Some b → steps_between a g ≤ steps_between b g + 1
  nearer a b g d unit inside e =
      let p = both_some (moved_to a.0 d.0 size) (moved_to a.1 d.1 size) b e in
      capped (abs_diff a.0 g.0 + abs_diff a.1 g.1) (abs_diff b.0 g.0 + abs_diff b.1 g.1) (2 ^ 32 - 1) (apart a.0 b.0 a.1 b.1 g.0 g.1 (by p.0 p.1 unit))
    where
      by : moved_to a.0 d.0 size ≡ Some b.0 → moved_to a.1 d.1 size ≡ Some b.1 → IsUnit d → (IsBeside a.0 b.0 × (a.1 ≡ b.1)) ⊎ ((a.0 ≡ b.0) × IsBeside a.1 b.1)
      by x y (inl u) = inl (u.0 a.0 b.0 inside.0 x, u.1 a.1 b.1 inside.1 y)
      by x y (inr u) = inr (u.0 a.0 b.0 inside.0 x, u.1 a.1 b.1 inside.1 y)

  -- ---- the steps of a board

  module _ (heights : List ℕ) (square : length heights ≡ size * size) (raised : All (λ h. 0 < h) heights) where
    -- a cell with the height at it
    abbrev with_height : ℕ × ℕ → (ℕ × ℕ) × ℕ
    with_height to = (to, slice_index heights (to.0 * size + to.1))

    entered_some : (o : Option (ℕ × ℕ)) (b : ℕ × ℕ) (c : ℕ) → option_map with_height o ≡ Some (b, c) → (o ≡ Some b) × (c ≡ slice_index heights (b.0 * size + b.1))
    entered_some None b c e = cc
    entered_some (Some t) b c e =
        let pair : with_height t ≡ (b, c) = cc in
        let same : t ≡ b = ap (λ (p : (ℕ × ℕ) × ℕ). p.0) pair in
        (ap Some same, subst (λ (q : ℕ × ℕ). c ≡ slice_index heights (q.0 * size + q.1)) same (sym (ap (λ (p : (ℕ × ℕ) × ℕ). p.1) pair)))

    above_zero : (b : ℕ × ℕ) → IsCell size fits b → 0 < slice_index heights (b.0 * size + b.1)
    above_zero b inside = raised (b.0 * size + b.1) 0 (subst (λ (n : ℕ). b.0 * size + b.1 < n) (sym square) (mul-add-lt b.0 size b.1 size inside.0 inside.1))

    edge_falls : (g a b : ℕ × ℕ) (z : ℤ) (d : ℤ × ℤ) → IsUnit d → IsCell size fits a → (c : ℕ) → entered heights size a d ≡ Some (b, c) → pos c ≡ z → pos (steps_between a g) ≤ℤ (z +ℤ pos (steps_between b g))
    edge_falls g a b z d unit inside c e p =
        let m = entered_some (entered_cell size a d) b c e in
        let low = subst (λ (n : ℕ). 0 < n) (sym m.1) (above_zero b (cell_after size fits a b d m.0)) in
        falls (steps_between a g) (steps_between b g) c z (nearer a b g d unit inside m.0) low p
      where
        falls : (x y c : ℕ) (z : ℤ) → x ≤ y + 1 → 0 < c → pos c ≡ z → pos x ≤ℤ (z +ℤ pos y)
        falls x y c z h l p = omega (arith, ints, h, l, p)

    step_falls : (g a b : ℕ × ℕ) (z : ℤ) → IsCell size fits a → HasEdge same_cell (steps_from heights size a) b z → pos (steps_between a g) ≤ℤ (z +ℤ pos (steps_between b g))
    step_falls g a b z inside h = edge_of (entered heights size a) (pos (steps_between a g) ≤ℤ (z +ℤ pos (steps_between b g))) four_directions b z (
      edge_falls g a b z (pos 0, pos 1) (inr (stays, on)) inside,
      (edge_falls g a b z (pos 1, pos 0) (inl (on, stays)) inside, (edge_falls g a b z (pos 0, negsuc 0) (inr (stays, back)) inside, (edge_falls g a b z (negsuc 0, pos 0) (inl (back, stays)) inside, tt))),
    ) h

    step_inside : (a b : ℕ × ℕ) (z : ℤ) → HasEdge same_cell (steps_from heights size a) b z → IsCell size fits b
    step_inside a b z h =
        let at : (d : ℤ × ℤ) (c : ℕ) → entered heights size a d ≡ Some (b, c) → pos c ≡ z → IsCell size fits b = λ d c e p. cell_after size fits a b d (entered_some (entered_cell size a d) b c e).0 in
        edge_of (entered heights size a) (IsCell size fits b) four_directions b z (at (pos 0, pos 1), (at (pos 1, pos 0), (at (pos 0, negsuc 0), (at (negsuc 0, pos 0), tt)))) h

    none_left : (g x : ℕ × ℕ) → same_cell x g ≡ true → pos (steps_between x g) ≤ℤ pos 0
    none_left g x e =
        let none : abs_diff g.0 g.0 + abs_diff g.1 g.1 ≡ 0 = omega arith in
        let low : steps_between g g ≤ 0 = subst (λ (n : ℕ). min n (2 ^ 32 - 1) ≤ 0) (sym none) (min-le_left 0 (2 ^ 32 - 1)) in
        subst (λ (c : ℕ × ℕ). pos (steps_between c g) ≤ℤ pos 0) (sym (pair_exact x g e)) (zero_of (steps_between g g) low)
      where
        zero_of : (n : ℕ) → n ≤ 0 → pos n ≤ℤ pos 0
        zero_of n h = omega (arith, ints, h)

    pub board_admissible : (start goal : ℕ × ℕ) → IsCell size fits start → IsAdmissible same_cell (steps_from heights size) (start ∷ []) (λ cell. same_cell cell goal) (λ cell. pos (steps_between cell goal))
    board_admissible start goal inside = admissible_within same_cell (steps_from heights size) (λ cell. same_cell cell goal) (λ cell. pos (steps_between cell goal)) (IsCell size fits) pair_exact
        (λ x. omega (arith, ints)) (λ x e. none_left goal x e) (λ a b z p h. step_inside a b z h) (λ a b z p h. step_falls goal a b z p h) start inside
