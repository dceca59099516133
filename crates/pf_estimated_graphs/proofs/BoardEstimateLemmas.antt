-- Estimates on boards.
use Rattle.std.proofs.Common.{◌≡◌, ◌==◌, true≢false, ◌≢◌, ◌∙◌, ◌<◌, ◌≤◌, ◌+◌, ◌*◌, ℕ, zero, suc, refl, sym, ap, subst, arith, inl, inr, Bool, true, false, List, Option, Some, None, length, max}
use Rattle.std.specs.Prelude.{◌≤ℤ◌, ◌+ℤ◌, ◌*ℤ◌, ◌⊎◌, ◌&&◌, ℤ, pos, negsuc, if◌then◌else◌, nat_lt, slice_get}
use Rattle.std.specs.List.{AllByRecursion}
use Rattle.std.specs.Int.{abs_diff, int_min}
use Rattle.std.proofs.Math.IntN.{pos-*ℤ-pos}
use Rattle.std.proofs.Math.Nat.{mul-le-mul_right}
use Rattle.std.proofs.lemmas.Int.{ints, clamps}
use Rattle.std.proofs.lemmas.Bool.{eqb-true}
use Rattle.std.proofs.lemmas.Bool.Decides.{nat_tests}
use Rattle.std.proofs.lemmas.Option.{slice_get_within}
use Rattle.pf_base.specs.Moves.{IsMove}
use Rattle.pf_tables.specs.Graphs.{HasEdgeAt}
use Rattle.pf_tables.proofs.Faulty.{less_or_same, some_same}
use Rattle.pf_boards.specs.declared.steps.Steps.{Steps}
use Rattle.pf_boards.specs.declared.steps.Steps.TheVariants.{Four, Eight}
use Rattle.pf_boards.specs.Boards.{directions_of, position_at, steps_from}
use Rattle.pf_boards.proofs.BoardLemmas.{position_of_node, stands}
use Rattle.pf_estimated_graphs.specs.EstimatedGraphs.{IsConsistent}
use Rattle.pf_estimated_graphs.specs.EstimatesOnBoards.{EstimatedBoard, IsEstimatedBoard, IsLeastCost, estimate_on_board, steps_between}

-- ---- the least cost of an open cell

module _ {C : Type 0} (value : C → ℤ) (cells : List (Option C)) where
  -- the least cost of an open cell among the first n; none where none of these is open
  abbrev pub IsLeastSoFar : ℕ → Option C → Type 0
  IsLeastSoFar n None = (k : ℕ) (cost : C) → k < n → slice_get cells k ≢ Some (Some cost)
  IsLeastSoFar n (Some least) = ((k : ℕ) (cost : C) → k < n → slice_get cells k ≡ Some (Some cost) → value least ≤ℤ value cost)
      × ((k : ℕ) × (cost : C) × (slice_get cells k ≡ Some (Some cost)) × (value cost ≡ value least))

  module _ (n : ℕ) where
    pub blocked_more : (o : Option C) → slice_get cells n ≡ Some None → IsLeastSoFar n o → IsLeastSoFar (n + 1) o
    blocked_more None at so = λ k cost l e. elim (less_or_same k n l) [
      | inl b ↦ so k cost b e
      | inr s ↦ closed (sym at ∙ ap (slice_get cells) (sym s) ∙ e)
    ]
      where
        closed : {cost : C} → Some None ≡ Some (Some cost) → ⊥
        closed e = cc
    blocked_more (Some least) at so = (
      λ k cost l e. elim (less_or_same k n l) [
        | inl b ↦ so.0 k cost b e
        | inr s ↦ absurd (closed (sym at ∙ ap (slice_get cells) (sym s) ∙ e))
      ],
      so.1,
    )
      where
        closed : {cost : C} → Some None ≡ Some (Some cost) → ⊥
        closed e = cc

    pub first_open : (cost : C) → slice_get cells n ≡ Some (Some cost) → IsLeastSoFar n None → IsLeastSoFar (n + 1) (Some cost)
    first_open cost at so = (
      λ k other l e. elim (less_or_same k n l) as (λ _. value cost ≤ℤ value other) [
        | inl b ↦ absurd (so k other b e)
        | inr s ↦ same cost other (some_same (some_same (sym at ∙ ap (slice_get cells) (sym s) ∙ e)))
      ],
      (n, cost, at, refl),
    )
      where
        same : (a b : C) → a ≡ b → value a ≤ℤ value b
        same a b e = subst (λ x. value a ≤ℤ value x) e (omega (arith, ints))

    pub lower_open : (least cost lower : C) → slice_get cells n ≡ Some (Some cost) → value lower ≤ℤ value least → value lower ≤ℤ value cost → (value lower ≡ value least) ⊎ (value lower ≡ value cost)
        → IsLeastSoFar n (Some least) → IsLeastSoFar (n + 1) (Some lower)
    lower_open least cost lower at under also either so = (
      λ k other l e. elim (less_or_same k n l) as (λ _. value lower ≤ℤ value other) [
        | inl b ↦ let h = so.0 k other b e in omega (arith, ints, h, under)
        | inr s ↦ subst (λ x. value lower ≤ℤ value x) (some_same (some_same (sym at ∙ ap (slice_get cells) (sym s) ∙ e))) also
      ],
      elim either as (λ _. (k : ℕ) × (c : C) × (slice_get cells k ≡ Some (Some c)) × (value c ≡ value lower)) [
        | inl e ↦ (so.1.0, so.1.1, so.1.2, so.1.3 ∙ sym e)
        | inr e ↦ (n, cost, at, sym e)
      ],
    )

  pub least_of_all : (least : C) → IsLeastSoFar (length cells) (Some least) → IsLeastCost value cells least
  least_of_all least so = record {
    below = λ k cost e. so.0 k cost (slice_get_within cells k (Some cost) e) e;
    reached = inl so.1;
  }

  pub none_open : (least : C) → value least ≡ pos 0 → IsLeastSoFar (length cells) None → IsLeastCost value cells least
  none_open least z so = record {
    below = λ k cost e. absurd (so k cost (slice_get_within cells k (Some cost) e) e);
    reached = inr (λ k cost e. so k cost (slice_get_within cells k (Some cost) e) e, z);
  }

  pub least_from_zero : (least : C) → ((k : ℕ) (cost : C) → k < length cells → slice_get cells k ≡ Some (Some cost) → pos 0 ≤ℤ value cost) → IsLeastCost value cells least → pos 0 ≤ℤ value least
  least_from_zero least sound is = elim is.reached as (λ _. pos 0 ≤ℤ value least) [
    | inl r ↦ let h = sound r.0 r.1 (slice_get_within cells r.0 (Some r.1) r.2) r.2 in omega (arith, ints, h, r.3)
    | inr r ↦ omega (arith, ints, r.1)
  ]

-- ---- along a step of a board the number of steps that remain falls by 1 at most

-- a direction to one of the cells around
abbrev IsUnit : Steps → ℤ × ℤ → Type 0
IsUnit Four d = ((d.0 ≡ pos 0) × (negsuc 0 ≤ℤ d.1) × (d.1 ≤ℤ pos 1)) ⊎ ((d.1 ≡ pos 0) × (negsuc 0 ≤ℤ d.0) × (d.0 ≤ℤ pos 1))
IsUnit Eight d = ((negsuc 0 ≤ℤ d.0) × (d.0 ≤ℤ pos 1)) × ((negsuc 0 ≤ℤ d.1) × (d.1 ≤ℤ pos 1))

all_unit : (steps : Steps) → AllByRecursion (IsUnit steps) (directions_of steps)
all_unit Four =
    let one : (negsuc 0 ≤ℤ pos 1) × (pos 1 ≤ℤ pos 1) = (omega (arith, ints), omega (arith, ints)) in
    let back : (negsuc 0 ≤ℤ negsuc 0) × (negsuc 0 ≤ℤ pos 1) = (omega (arith, ints), omega (arith, ints)) in
    (inr (refl, back.0, back.1), (inl (refl, one.0, one.1), (inr (refl, one.0, one.1), (inl (refl, back.0, back.1), tt))))
all_unit Eight =
    let one : (negsuc 0 ≤ℤ pos 1) × (pos 1 ≤ℤ pos 1) = (omega (arith, ints), omega (arith, ints)) in
    let none : (negsuc 0 ≤ℤ pos 0) × (pos 0 ≤ℤ pos 1) = (omega (arith, ints), omega (arith, ints)) in
    let back : (negsuc 0 ≤ℤ negsuc 0) × (negsuc 0 ≤ℤ pos 1) = (omega (arith, ints), omega (arith, ints)) in
    ((back, none), ((none, one), ((one, none), ((none, back), ((back, one), ((one, one), ((one, back), ((back, back), tt))))))))

-- one coordinate
apart : (a b t : ℕ) → a ≤ b + 1 → b ≤ a + 1 → abs_diff a t ≤ abs_diff b t + 1
apart a b t h k = omega (arith, h, k)

sums : (p q r s : ℕ) → p ≤ q → r ≤ s + 1 → p + r ≤ q + s + 1
sums p q r s h k = omega (arith, h, k)

sums_turned : (p q r s : ℕ) → p ≤ q + 1 → r ≤ s → p + r ≤ q + s + 1
sums_turned p q r s h k = omega (arith, h, k)

greater : (p q r s : ℕ) → p ≤ q + 1 → r ≤ s + 1 → max p r ≤ max q s + 1
greater p q r s h k = omega (arith, h, k)

near : (steps : Steps) (a b t : ℕ × ℕ) (d : ℤ × ℤ) (size : ℕ × ℕ) → IsUnit steps d → IsMove a d size b → steps_between steps a t ≤ steps_between steps b t + 1
near Four a b t d size (inl u) m =
    let row : abs_diff a.0 t.0 ≤ abs_diff b.0 t.0 = omega (arith, ints, m.row, u.0) in
    sums (abs_diff a.0 t.0) (abs_diff b.0 t.0) (abs_diff a.1 t.1) (abs_diff b.1 t.1) row (apart a.1 b.1 t.1 (omega (arith, ints, m.column, u.1)) (omega (arith, ints, m.column, u.2)))
near Four a b t d size (inr u) m =
    let column : abs_diff a.1 t.1 ≤ abs_diff b.1 t.1 = omega (arith, ints, m.column, u.0) in
    sums_turned (abs_diff a.0 t.0) (abs_diff b.0 t.0) (abs_diff a.1 t.1) (abs_diff b.1 t.1) (apart a.0 b.0 t.0 (omega (arith, ints, m.row, u.1)) (omega (arith, ints, m.row, u.2))) column
near Eight a b t d size u m = greater (abs_diff a.0 t.0) (abs_diff b.0 t.0) (abs_diff a.1 t.1) (abs_diff b.1 t.1)
    (apart a.0 b.0 t.0 (omega (arith, ints, m.row, u.0.0)) (omega (arith, ints, m.row, u.0.1)))
    (apart a.1 b.1 t.1 (omega (arith, ints, m.column, u.1.0)) (omega (arith, ints, m.column, u.1.1)))

no_steps : (steps : Steps) (a : ℕ × ℕ) → steps_between steps a a ≡ 0
no_steps Four a = omega arith
no_steps Eight a = omega arith

-- ---- the estimate

product_from_zero : (n : ℕ) (least : ℤ) → pos 0 ≤ℤ least → pos 0 ≤ℤ (pos n *ℤ least)
product_from_zero n (pos c) l = subst (λ z. pos 0 ≤ℤ z) (sym (pos-*ℤ-pos n c)) (omega (arith, ints))
product_from_zero n (negsuc c) l = absurd (omega (arith, ints, l))

product_falls : (n m : ℕ) (least : ℤ) → pos 0 ≤ℤ least → n ≤ m + 1 → (pos n *ℤ least) ≤ℤ (least +ℤ pos m *ℤ least)
product_falls n m (negsuc c) l h = absurd (omega (arith, ints, l))
product_falls n m (pos c) l h = subst (λ z. z ≤ℤ (pos c +ℤ pos m *ℤ pos c)) (sym (pos-*ℤ-pos n c)) (subst (λ z. pos (n * c) ≤ℤ (pos c +ℤ z)) (sym (pos-*ℤ-pos m c)) (below (mul-le-mul_right c h)))
  where
    below : n * c ≤ (m + 1) * c → pos (n * c) ≤ℤ (pos c +ℤ pos (m * c))
    below k = omega (arith, ints, k)

capped_falls : (x y least cost top : ℤ) → pos 0 ≤ℤ least → least ≤ℤ cost → x ≤ℤ (least +ℤ y) → int_min x top ≤ℤ (cost +ℤ int_min y top)
capped_falls x y least cost top l h k = omega (arith, ints, clamps)

module _ {C : Type 0} (value : C → ℤ) (greatest : ℤ) (top : pos 0 ≤ℤ greatest) (e : EstimatedBoard C) (is : IsEstimatedBoard value e) where
  abbrev steps_from_node : ℕ → ℕ
  steps_from_node node = steps_between e.steps (position_at e.board node) (position_at e.board e.goal)

  low : pos 0 ≤ℤ value e.least
  low = least_from_zero value e.board.cells e.least is.board.from_zero is.least

  abbrev capped : ℕ → ℤ
  capped node = int_min (pos (steps_from_node node) *ℤ value e.least) greatest

  at_goal : (node : ℕ) → (b : Bool) → node ≡ e.goal → (if b then capped node else pos 0) ≡ pos 0
  at_goal node false s = refl
  at_goal node true s =
      let none : steps_from_node node ≡ 0 = ap steps_from_node s ∙ no_steps e.steps (position_at e.board e.goal) in
      ap (λ n. int_min (pos n *ℤ value e.least) greatest) none ∙ zero_times (value e.least) low
    where
      least_zero : (z : ℤ) → pos 0 ≤ℤ z → int_min (pos 0) z ≡ pos 0
      least_zero z h = omega (arith, ints, clamps)

      zero_times : (z : ℤ) → pos 0 ≤ℤ z → int_min (pos 0 *ℤ z) greatest ≡ pos 0
      zero_times (pos n) l =
          let none : pos 0 *ℤ pos n ≡ pos 0 = pos-*ℤ-pos 0 n ∙ omega (arith, ints) in
          ap (λ z. int_min z greatest) none ∙ least_zero greatest top
      zero_times (negsuc n) l = absurd (omega (arith, ints, l))

  from_zero : (node : ℕ) (b : Bool) → pos 0 ≤ℤ (if b then capped node else pos 0)
  from_zero node false = omega (arith, ints)
  from_zero node true = let h = product_from_zero (steps_from_node node) (value e.least) low in omega (arith, ints, clamps, h, top)

  falls : (node place : ℕ) (edge : ℕ × C) → node < length e.board.cells → HasEdgeAt (steps_from e.board node) place edge
      → estimate_on_board value greatest e node ≤ℤ (value edge.1 +ℤ estimate_on_board value greatest e edge.0)
  falls node place edge inside h =
      let s = stands e.board node e.board.directions place edge (subst (AllByRecursion (IsUnit e.steps)) is.steps (all_unit e.steps)) h in
      let there = slice_get_within e.board.cells edge.0 (Some edge.1) s.2.cell in
      let cost = is.least.below edge.0 edge.1 s.2.cell in
      let next : position_at e.board edge.0 ≡ s.2.target = ap (position_at e.board) (sym s.2.number) ∙ position_of_node e.board s.2.target s.2.move.to_inside.1 in
      let steps = near e.steps (position_at e.board node) s.2.target (position_at e.board e.goal) s.0 (e.board.rows, e.board.columns) s.1 s.2.move in
      let fewer : steps_from_node node ≤ steps_from_node edge.0 + 1 = subst (λ p. steps_from_node node ≤ steps_between e.steps p (position_at e.board e.goal) + 1) (sym next) steps in
      both (nat_lt node (length e.board.cells)) (nat_lt edge.0 (length e.board.cells)) (nat_lt e.goal (length e.board.cells)) (grind (arith, nat_tests)) (grind (arith, nat_tests)) cost fewer
    where
      both : (a b g : Bool) → a ≡ true → b ≡ true → value e.least ≤ℤ value edge.1 → steps_from_node node ≤ steps_from_node edge.0 + 1
          → (if a && g then capped node else pos 0) ≤ℤ (value edge.1 +ℤ (if b && g then capped edge.0 else pos 0))
      both true true true x y cost fewer = capped_falls (pos (steps_from_node node) *ℤ value e.least) (pos (steps_from_node edge.0) *ℤ value e.least) (value e.least) (value edge.1) greatest low cost (product_falls (steps_from_node node) (steps_from_node edge.0) (value e.least) low fewer)
      both true true false x y cost fewer = let l = low in omega (arith, ints, l, cost)
      both false b g x y cost fewer = absurd (true≢false (sym x))
      both true false g x y cost fewer = absurd (true≢false (sym y))

  pub consistent_on_board : IsConsistent value (length e.board.cells) (steps_from e.board) (λ node. node == e.goal) (estimate_on_board value greatest e)
  consistent_on_board = record {
    from_zero = λ node. from_zero node (nat_lt node (length e.board.cells) && nat_lt e.goal (length e.board.cells));
    at_goal = λ node g. at_goal node (nat_lt node (length e.board.cells) && nat_lt e.goal (length e.board.cells)) (eqb-true node e.goal g);
    falls = falls;
  }

-- the steps between two cells are fewer than the cells
pub fewer_steps : (rows columns size limit : ℕ) (a b : ℕ × ℕ) → size ≡ rows * columns → size < limit → (a.0 < rows) × (a.1 < columns) → (b.0 < rows) × (b.1 < columns) → abs_diff a.0 b.0 + abs_diff a.1 b.1 < limit
fewer_steps (suc rows) (suc columns) size limit a b e h u v =
    let many : rows + columns < size = omega (arith, e) in
    let row : abs_diff a.0 b.0 ≤ rows = omega (arith, u.0, v.0) in
    let column : abs_diff a.1 b.1 ≤ columns = omega (arith, u.1, v.1) in
    sum (abs_diff a.0 b.0) (abs_diff a.1 b.1) row column many
  where
    sum : (x y : ℕ) → x ≤ rows → y ≤ columns → rows + columns < size → x + y < limit
    sum x y r c m = omega (arith, r, c, m, h)
fewer_steps zero columns size limit a b e h u v = absurd (omega (arith, u.0))
fewer_steps (suc rows) zero size limit a b e h u v = absurd (omega (arith, u.1))
