use Rattle.std.proofs.Common.{◌≡◌, ◌∙◌, ap, refl, arith, ℕ, suc, ◌*◌, ◌+◌, ◌-◌, ◌/◌, ◌<◌, ◌≤◌}
use Rattle.std.specs.Prelude.{◌%◌, ℤ, pos, negsuc, Option, None, Some}
use Rattle.std.specs.Option.{option_map}
use Rattle.std.proofs.lemmas.Int.{ints}
use Rattle.std.proofs.lemmas.Nat.{div-add-mod', div-mul-add, div_below, mod_below, mul-add-lt}
use Rattle.std.proofs.Math.Nat.{suc-mul}
use Rattle.pf_base.specs.Moves.{Finds, IsMove, target_of}
use Rattle.pf_utils.proofs.MoveLemmas.{target_is}
use Rattle.pf_boards.proofs.BoardLemmas.{row_inside, some_column}
use Rattle.pf_boards.proofs.NeighbourLemmas.{down_off, up}
use Rattle.pf_boards.proofs.board.neighbour.Goals as goal

-- what is found in a direction is the target, as a number
led : (rows columns node : ℕ) (direction : ℤ × ℤ) (target : Option (ℕ × ℕ)) → Finds (IsMove (node / columns, node % columns) direction (rows, columns)) target
    → option_map (λ (t : ℕ × ℕ). t.0 * columns + t.1) target ≡ option_map (λ (t : ℕ × ℕ). t.0 * columns + t.1) (target_of (node / columns, node % columns) direction (rows, columns))
led rows columns node direction target f = ap (option_map (λ (t : ℕ × ℕ). t.0 * columns + t.1)) (target_is (node / columns, node % columns) direction (rows, columns) target f)

-- a row below
row_below : (row columns column rows : ℕ) → column < columns → row * columns + column + columns < rows * columns → suc row < rows
row_below row columns column rows c h =
    let l = div_below (suc row * columns + column) columns rows (omega (arith, c)) (omega (arith, h, suc-mul row columns)) in
    rw (div-mul-add (suc row) columns column c) at l

module _ (rows columns node : ℕ) (inside : node < rows * columns) where
  some : 0 < columns
  some = some_column rows columns (rows * columns) node refl inside

  row : node / columns < rows
  row = row_inside rows columns (rows * columns) node refl inside

  right : node % columns + 1 < columns → Some (node + 1) ≡ option_map (λ (t : ℕ × ℕ). t.0 * columns + t.1) (target_of (node / columns, node % columns) (pos 0, pos 1) (rows, columns))
  right h =
      ap Some (omega (arith, div-add-mod' node columns)) ∙ led rows columns node (pos 0, pos 1) (Some (node / columns, node % columns + 1)) (record {
        from_inside = (row, mod_below node columns some);
        moves = λ e. let z : pos 1 ≡ pos 0 = ap (λ p. p.1) e in omega (arith, ints, z);
        row = omega (arith, ints);
        column = omega (arith, ints);
        to_inside = (row, h);
      })

  right_off : columns ≤ node % columns + 1 → None ≡ option_map (λ (t : ℕ × ℕ). t.0 * columns + t.1) (target_of (node / columns, node % columns) (pos 0, pos 1) (rows, columns))
  right_off h = led rows columns node (pos 0, pos 1) None (λ t m. let e = m.column in let i = m.to_inside.1 in omega (arith, ints))

  down : columns < rows * columns - node → Some (node + columns) ≡ option_map (λ (t : ℕ × ℕ). t.0 * columns + t.1) (target_of (node / columns, node % columns) (pos 1, pos 0) (rows, columns))
  down h =
      let parts = div-add-mod' node columns in
      ap Some (omega (arith, parts, suc-mul (node / columns) columns)) ∙ led rows columns node (pos 1, pos 0) (Some (suc (node / columns), node % columns)) (record {
        from_inside = (row, mod_below node columns some);
        moves = λ e. let z : pos 1 ≡ pos 0 = ap (λ p. p.0) e in omega (arith, ints, z);
        row = omega (arith, ints);
        column = omega (arith, ints);
        to_inside = (row_below (node / columns) columns (node % columns) rows (mod_below node columns some) (omega (arith, parts, h)), mod_below node columns some);
      })

  left : 0 < node % columns → Some (node - 1) ≡ option_map (λ (t : ℕ × ℕ). t.0 * columns + t.1) (target_of (node / columns, node % columns) (pos 0, negsuc 0) (rows, columns))
  left h =
      let within = mod_below node columns some in
      ap Some (omega (arith, h, div-add-mod' node columns)) ∙ led rows columns node (pos 0, negsuc 0) (Some (node / columns, node % columns - 1)) (record {
        from_inside = (row, within);
        moves = λ e. let z : negsuc 0 ≡ pos 0 = ap (λ p. p.1) e in cc;
        row = omega (arith, ints);
        column = omega (arith, ints, h);
        to_inside = (row, omega (arith, within));
      })

  left_off : node % columns ≤ 0 → None ≡ option_map (λ (t : ℕ × ℕ). t.0 * columns + t.1) (target_of (node / columns, node % columns) (pos 0, negsuc 0) (rows, columns))
  left_off h = led rows columns node (pos 0, negsuc 0) None (λ t m. let e = m.column in omega (arith, ints))

pub returns-in_err-target-in_default : goal.returns-in_err-target-in_default
returns-in_err-target-in_default c = c.from_residual.ensures ∙ ap (option_map (λ (t : ℕ × ℕ). t.0 * c.args.columns + t.1)) (target_is _ _ _ None c.in_err-target-in_default.ensures)

pub returns-in-0 : goal.returns-in-0
returns-in-0 c = rw c.in-0.is (up c.args.rows c.args.columns c.args.node c.requires.inside c.checked_sub.result c.checked_sub.ensures)

pub returns-else-columns-rows : goal.returns-else-columns-rows
returns-else-columns-rows c = rw c.in-2.is (down_off c.args.rows c.args.columns c.args.node c.requires.inside (λ h. omega (arith, h, c.if-columns-rows.false)))

pub nonzero_rem-node : goal.nonzero_rem-node
nonzero_rem-node c = some c.args.rows c.args.columns c.args.node c.requires.inside

pub overflow_add-result : goal.overflow_add-result
overflow_add-result c = omega (arith, c.requires.small, c.requires.inside)

pub overflow_mul-rows : goal.overflow_mul-rows
overflow_mul-rows c = omega (arith, c.requires.small)

pub overflow_sub-rows : goal.overflow_sub-rows
overflow_sub-rows c = omega (arith, c.requires.inside)

pub overflow_add-result-then-columns-rows : goal.overflow_add-result-then-columns-rows
overflow_add-result-then-columns-rows c = omega (arith, c.requires.small, c.if-columns-rows.true)

pub nonzero_rem-node-in-3 : goal.nonzero_rem-node-in-3
nonzero_rem-node-in-3 c = some c.args.rows c.args.columns c.args.node c.requires.inside

pub overflow_sub-result : goal.overflow_sub-result
overflow_sub-result c = omega (arith, c.if-node-columns-gt0.true, div-add-mod' c.args.node c.args.columns)

pub nonzero_div-position : goal.nonzero_div-position
nonzero_div-position c = some c.args.rows c.args.columns c.args.node c.requires.inside

pub nonzero_rem-position : goal.nonzero_rem-position
nonzero_rem-position c = some c.args.rows c.args.columns c.args.node c.requires.inside

pub offset_bounds-place : goal.offset_bounds-place
offset_bounds-place c = omega (arith, c.requires.place)

pub bounds-place-place : goal.bounds-place-place
bounds-place-place c = c.requires.place

pub overflow_mul-result : goal.overflow_mul-result
overflow_mul-result c =
    let m = c.in_ok-target-in_default.ensures in
    let t = c.in_ok-target-in_default.target in
    omega (arith, c.requires.small, mul-add-lt t.0 c.args.columns t.1 c.args.rows m.to_inside.0 m.to_inside.1)

pub overflow_add-result-in_default : goal.overflow_add-result-in_default
overflow_add-result-in_default c =
    let m = c.in_ok-target-in_default.ensures in
    let t = c.in_ok-target-in_default.target in
    omega (arith, c.requires.small, mul-add-lt t.0 c.args.columns t.1 c.args.rows m.to_inside.0 m.to_inside.1)

pub returns-then-node-columns : goal.returns-then-node-columns
returns-then-node-columns c = rw c.in-1.is (right c.args.rows c.args.columns c.args.node c.requires.inside c.if-node-columns.true)

pub returns-else-node-columns : goal.returns-else-node-columns
returns-else-node-columns c = rw c.in-1.is (right_off c.args.rows c.args.columns c.args.node c.requires.inside c.if-node-columns.false)

pub returns-then-columns-rows : goal.returns-then-columns-rows
returns-then-columns-rows c = rw c.in-2.is (down c.args.rows c.args.columns c.args.node c.requires.inside c.if-columns-rows.true)

pub returns-then-node-columns-gt0 : goal.returns-then-node-columns-gt0
returns-then-node-columns-gt0 c = rw c.in-3.is (left c.args.rows c.args.columns c.args.node c.requires.inside c.if-node-columns-gt0.true)

pub returns-else-node-columns-gt0 : goal.returns-else-node-columns-gt0
returns-else-node-columns-gt0 c = rw c.in-3.is (left_off c.args.rows c.args.columns c.args.node c.requires.inside c.if-node-columns-gt0.false)

pub returns-in_ok-target-in_default : goal.returns-in_ok-target-in_default
returns-in_ok-target-in_default c = ap (option_map (λ (t : ℕ × ℕ). t.0 * c.args.columns + t.1)) (target_is _ _ _ (Some c.in_ok-target-in_default.target) c.in_ok-target-in_default.ensures)
