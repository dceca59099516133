use Rattle.std.proofs.Common.{refl, ◌≡◌, ◌≢◌, ◌<◌, ◌≤◌, arith, sym, subst, ℕ, length, Some, None}
use Rattle.std.specs.Prelude.{slice_index, slice_set}
use Rattle.std.proofs.lemmas.List.{get_or-set_same, get_or-set_other}
use Rattle.pf_assignment.specs.Internal.AssignmentSteps.{holder, IsFlipped}
use Rattle.pf_assignment.proofs.AugmentingPath.{flip_begins, flip_more, flip_before}
use Rattle.pf_assignment.proofs.kuhn_munkres.matching.flip_path.Goals as goal

pub rows-init : goal.rows-init
rows-init c = record {
  flipped = flip_begins (length c.args.column_of.now) (length c.args.row_of.now) (length c.args.rows.now) c.args.column (slice_index c.args.column_of.now) (holder c.args.row_of.now) (slice_index c.args.rows.now) (slice_index c.args.places.now) c.requires.matching c.requires.inside c.requires.free;
  place = refl;
  before = λ p h l. refl;
}

pub rows-preserved : goal.rows-preserved
rows-preserved c =
    let i = c.rows.invariant in
    let t = i.flipped in
    let left = c.rows.column in
    let place = slice_index c.args.places.now in
    let rows = slice_index c.args.rows.now in
    let e : c.rows.place ≡ place left = i.place in
    let positive : 0 < place left = omega arith in
    let before = λ (p : ℕ) (h : 0 < p) (l : p ≤ place left). i.before p h (omega (arith, l, e)) in
    let small = c.requires.rooted.inside left t.within in
    let own = c.requires.rooted.row (place left) positive small in
    let col_len : length c.rows.column_of ≡ length c.args.column_of.now = c.rows.auto.column_of in
    let held_len : length c.rows.row_of ≡ length c.args.row_of.now = c.rows.auto.row_of in
    let r = rows (place left) in
    let col'' = slice_set c.rows.column_of r left in
    let held'' = slice_set c.rows.row_of left (Some r) in
    let set_col = get_or-set_same c.rows.column_of r left 0 (omega (arith, own, col_len)) in
    let keep_col = λ (k : ℕ) (d : k ≢ r). get_or-set_other c.rows.column_of r k left 0 d in
    let set_held = get_or-set_same c.rows.row_of left (Some r) None (let w = t.within in omega (arith, w, held_len)) in
    let keep_held = λ (j : ℕ) (d : j ≢ left). get_or-set_other c.rows.row_of left j (Some r) None d in
    let more = flip_more (length c.args.column_of.now) (length c.args.row_of.now) (length c.args.rows.now) c.args.column (slice_index c.args.column_of.now) (holder c.args.row_of.now) rows place c.requires.rooted (slice_index c.rows.column_of) (holder c.rows.row_of) left t positive before (slice_index col'') (holder held'') set_col keep_col set_held keep_held in
    let less = flip_before (length c.args.column_of.now) (length c.args.row_of.now) (length c.args.rows.now) c.args.column (slice_index c.args.column_of.now) (holder c.args.row_of.now) rows place c.requires.rooted (slice_index c.rows.column_of) (holder c.rows.row_of) left t positive before (slice_index col'') (holder held'') set_col keep_col set_held keep_held in
    record {
      flipped = subst (λ (q : ℕ). IsFlipped (length c.args.column_of.now) (length c.args.row_of.now) (length c.args.rows.now) c.args.column (slice_index c.args.column_of.now) (holder c.args.row_of.now) rows place (slice_index (slice_set c.rows.column_of (rows q) left)) (holder (slice_set c.rows.row_of left (Some (rows q)))) (slice_index c.rows.column_of (rows q))) (sym e) more;
      place = refl;
      before = subst (λ (q : ℕ). (p : ℕ) → 0 < p → p ≤ place (slice_index c.rows.column_of (rows q)) → slice_index (slice_set c.rows.column_of (rows q) left) (rows p) ≡ slice_index c.args.column_of.now (rows p)) (sym e) less;
    }
