-- The Manhattan distance falls by one at most along a step to one of the four positions around, and is 0 at its end: for searches over boards that it leads.
use Rattle.std.proofs.Common.{◌≡◌, ◌+◌, ◌-◌, ◌^◌, ◌≤◌, ℕ, ℤ, pos, negsuc, true, List, [], ◌∷◌, Option, None, Some, refl, sym, subst, ◌∙◌, arith, inl, inr, map}
use Rattle.std.specs.Prelude.{◌≤ℤ◌, ◌+ℤ◌, ◌⊎◌, min}
use Rattle.std.specs.Int.{abs_diff}
use Rattle.std.specs.List.{AllByRecursion, cons_option, filter_map}
use Rattle.std.specs.Option.{option_and_then}
use Rattle.std.proofs.Math.Nat.{min-le_left, min-le_right, le-min}
use Rattle.std.proofs.lemmas.Int.{ints}
use Rattle.pf_base.specs.Edges.{HasEdge}
use Rattle.pf_base.specs.Moves.{Finds, IsMove, target_of}
use Rattle.pf_base.proofs.Tables.{pair_exact}
use Rattle.pf_utils.proofs.MoveLemmas.{target_of-finds}
use Rattle.pf_informed.specs.Distances.{manhattan_distance, same_position}

-- a direction to one of the four positions around
abbrev pub IsUnit : ℤ × ℤ → Type 0
IsUnit d = ((d.0 ≡ pos 0) × (negsuc 0 ≤ℤ d.1) × (d.1 ≤ℤ pos 1)) ⊎ ((d.1 ≡ pos 0) × (negsuc 0 ≤ℤ d.0) × (d.0 ≤ℤ pos 1))

pub right_is_unit : IsUnit (pos 0, pos 1)
right_is_unit = inl (refl, omega (arith, ints), omega (arith, ints))

pub down_is_unit : IsUnit (pos 1, pos 0)
down_is_unit = inr (refl, omega (arith, ints), omega (arith, ints))

pub left_is_unit : IsUnit (pos 0, negsuc 0)
left_is_unit = inl (refl, omega (arith, ints), omega (arith, ints))

pub up_is_unit : IsUnit (negsuc 0, pos 0)
up_is_unit = inr (refl, omega (arith, ints), omega (arith, ints))

-- one coordinate, a step apart
apart_still : (a b t : ℕ) → a ≡ b → abs_diff a t ≤ abs_diff b t
apart_still a b t e = omega (arith, e)

apart_step : (a b t : ℕ) → a ≤ b + 1 → b ≤ a + 1 → abs_diff a t ≤ abs_diff b t + 1
apart_step a b t h k = omega (arith, h, k)

capped : (x y m : ℕ) → x ≤ y + 1 → min x m ≤ min y m + 1
capped x y m h =
    let a : min x m - 1 ≤ y = omega (arith, min-le_left x m, h) in
    let b : min x m - 1 ≤ m = omega (arith, min-le_right x m) in
    let c : min x m - 1 ≤ min y m = le-min a b in
    omega (arith, c)

-- a move by a unit brings nothing nearer than by one
pub manhattan_near : (a b t : ℕ × ℕ) (d : ℤ × ℤ) (size : ℕ × ℕ) → IsUnit d → IsMove a d size b → manhattan_distance a t ≤ manhattan_distance b t + 1
manhattan_near a b t d size (inl u) m =
    let row : a.0 ≡ b.0 = omega (arith, ints, m.row, u.0) in
    let up : a.1 ≤ b.1 + 1 = omega (arith, ints, m.column, u.1) in
    let down : b.1 ≤ a.1 + 1 = omega (arith, ints, m.column, u.2) in
    let still = apart_still a.0 b.0 t.0 row in
    let step = apart_step a.1 b.1 t.1 up down in
    capped (abs_diff a.0 t.0 + abs_diff a.1 t.1) (abs_diff b.0 t.0 + abs_diff b.1 t.1) (2 ^ 64 - 1) (sums (abs_diff a.0 t.0) (abs_diff b.0 t.0) (abs_diff a.1 t.1) (abs_diff b.1 t.1) still step)
  where
    sums : (p q r s : ℕ) → p ≤ q → r ≤ s + 1 → p + r ≤ q + s + 1
    sums p q r s h k = omega (arith, h, k)
manhattan_near a b t d size (inr u) m =
    let column : a.1 ≡ b.1 = omega (arith, ints, m.column, u.0) in
    let up : a.0 ≤ b.0 + 1 = omega (arith, ints, m.row, u.1) in
    let down : b.0 ≤ a.0 + 1 = omega (arith, ints, m.row, u.2) in
    let still = apart_still a.1 b.1 t.1 column in
    let step = apart_step a.0 b.0 t.0 up down in
    capped (abs_diff a.0 t.0 + abs_diff a.1 t.1) (abs_diff b.0 t.0 + abs_diff b.1 t.1) (2 ^ 64 - 1) (sums (abs_diff a.0 t.0) (abs_diff b.0 t.0) (abs_diff a.1 t.1) (abs_diff b.1 t.1) step still)
  where
    sums : (p q r s : ℕ) → p ≤ q + 1 → r ≤ s → p + r ≤ q + s + 1
    sums p q r s h k = omega (arith, h, k)

-- a board whose cells are entered at the cost that `enter` says, or not at all
module _ (enter : ℕ × ℕ → Option ((ℕ × ℕ) × ℕ)) (size : ℕ × ℕ) (costs : (t : ℕ × ℕ) (e : (ℕ × ℕ) × ℕ) → enter t ≡ Some e → (e.0 ≡ t) × (1 ≤ e.1)) where
  -- the cells that these directions lead to from a cell, with what it costs to enter them
  abbrev pub entered_from : List (ℤ × ℤ) → ℕ × ℕ → List ((ℕ × ℕ) × ℕ)
  entered_from directions from = filter_map (λ (direction : ℤ × ℤ). option_and_then enter (target_of from direction size)) directions

  -- an edge is a step in one of the directions, at a cost of 1 at least
  record IsStepTo (a b : ℕ × ℕ) (z : ℤ) : Type 0 where
    direction : ℤ × ℤ
    unit : IsUnit direction
    target : ℕ × ℕ
    move : IsMove a direction size target
    same : target ≡ b
    cost : pos 1 ≤ℤ z

  step_of : (directions : List (ℤ × ℤ)) → AllByRecursion IsUnit directions → (a b : ℕ × ℕ) (z : ℤ) → HasEdge same_position (map (λ (e : (ℕ × ℕ) × ℕ). (e.0, pos e.1)) (entered_from directions a)) b z → IsStepTo a b z
  step_of [] u a b z h = absurd h
  step_of (d ∷ directions) u a b z h = by (step_of directions u.1 a b z) (target_of a d size) (target_of-finds a d size) h
    where
      chosen : (HasEdge same_position (map (λ (e : (ℕ × ℕ) × ℕ). (e.0, pos e.1)) (entered_from directions a)) b z → IsStepTo a b z) → (t : ℕ × ℕ) → IsMove a d size t → (o : Option ((ℕ × ℕ) × ℕ)) → enter t ≡ o
          → HasEdge same_position (map (λ (e : (ℕ × ℕ) × ℕ). (e.0, pos e.1)) (cons_option o (entered_from directions a))) b z → IsStepTo a b z
      chosen rest t m None e h = rest h
      chosen rest t m (Some e) is (inl h) =
          let told = costs t e is in
          record { direction = d; unit = u.0; target = t; move = m; same = sym told.0 ∙ pair_exact e.0 b h.0; cost = at_least e.1 z told.1 h.1 }
        where
          at_least : (n : ℕ) (z : ℤ) → 1 ≤ n → pos n ≡ z → pos 1 ≤ℤ z
          at_least n z h e = omega (arith, ints, h, e)
      chosen rest t m (Some e) is (inr h) = rest h

      by : (HasEdge same_position (map (λ (e : (ℕ × ℕ) × ℕ). (e.0, pos e.1)) (entered_from directions a)) b z → IsStepTo a b z) → (o : Option (ℕ × ℕ)) → Finds (IsMove a d size) o
          → HasEdge same_position (map (λ (e : (ℕ × ℕ) × ℕ). (e.0, pos e.1)) (cons_option (option_and_then enter o) (entered_from directions a))) b z → IsStepTo a b z
      by rest None f h = rest h
      by rest (Some t) f h = chosen rest t f (enter t) refl h

  -- along an edge the distance to a cell falls by no more than the edge costs
  pub manhattan_falls : (directions : List (ℤ × ℤ)) → AllByRecursion IsUnit directions → (to a b : ℕ × ℕ) (z : ℤ) → HasEdge same_position (map (λ (e : (ℕ × ℕ) × ℕ). (e.0, pos e.1)) (entered_from directions a)) b z
      → pos (manhattan_distance a to) ≤ℤ (z +ℤ pos (manhattan_distance b to))
  manhattan_falls directions units to a b z h =
      let s = step_of directions units a b z h in
      let n = manhattan_near a b to s.direction size s.unit (subst (IsMove a s.direction size) s.same s.move) in
      falls (manhattan_distance a to) (manhattan_distance b to) z s.cost n
    where
      falls : (p q : ℕ) (z : ℤ) → pos 1 ≤ℤ z → p ≤ q + 1 → pos p ≤ℤ (z +ℤ pos q)
      falls p q z e h = omega (arith, ints, e, h)

-- it is 0 at its end
pub manhattan_none : (to x : ℕ × ℕ) → same_position x to ≡ true → pos (manhattan_distance x to) ≤ℤ pos 0
manhattan_none to x e =
    let same : x ≡ to = pair_exact x to e in
    let zero_of : abs_diff to.0 to.0 + abs_diff to.1 to.1 ≡ 0 = omega arith in
    let low : manhattan_distance to to ≤ 0 = subst (λ (n : ℕ). min n (2 ^ 64 - 1) ≤ 0) (sym zero_of) (min-le_left 0 (2 ^ 64 - 1)) in
    subst (λ (c : ℕ × ℕ). pos (manhattan_distance c to) ≤ℤ pos 0) (sym same) (none (manhattan_distance to to) low)
  where
    none : (n : ℕ) → n ≤ 0 → pos n ≤ℤ pos 0
    none n h = omega (arith, ints, h)
