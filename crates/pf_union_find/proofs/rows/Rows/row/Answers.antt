use Rattle.std.proofs.Common.{◌≡◌, ◌<◌, ◌+◌, ◌-◌, sym, ap, subst, arith, take, drop, length, length-take, length-drop}
use Rattle.std.specs.Prelude.{List, Contains, slice_index}
use Rattle.std.proofs.lemmas.List.{get_or_read}
use Rattle.pf_union_find.specs.Rows.{HasItem, fill_of, row_count}
use Rattle.pf_union_find.proofs.RowLemmas.{part_has}
use Rattle.pf_union_find.proofs.rows.Rows.row.Goals as goal

pub returns-clause-items : goal.returns-clause-items
returns-clause-items g c = λ x.
    let row = c.args.row in
    let starts = c.self.inside.starts.items in
    let ends = c.self.inside.ends.items in
    let places = c.self.inside.places.items in
    let inside : row < length ends = subst (λ rows. row < row_count rows) (sym c.self.view_is) c.requires in
    let held = c.self.invariant.held row inside in
    let wide = c.self.invariant.wide in
    let within = c.self.invariant.within (row + 1) (omega (arith, inside, wide)) in
    let start : c.index.result.now ≡ slice_index starts row = get_or_read starts _ _ (omega (arith, inside, wide)) c.index.ensures 0 in
    let end : c.index-2.result.now ≡ slice_index ends row = get_or_read ends _ _ inside c.index-2.ensures 0 in
    let h = part_has places c.index.result.now c.index-2.result.now x (omega (arith, start, end, held)) (omega (arith, end, held, within)) in
    let part = λ (xs : List g.row.T.Denot). Contains (take (c.index-2.result.now - c.index.result.now) (drop c.index.result.now xs)) x in (
      λ k. let r = h.0 (subst part c.deref.ensures.value k) in subst (λ rows. HasItem rows row x) c.self.view_is (r.0, omega (arith, r.1, start), omega (arith, r.2, end), r.3),
      λ k. let r = subst (λ rows. HasItem rows row x) (sym c.self.view_is) k in subst part (sym c.deref.ensures.value) (h.1 (r.0, omega (arith, r.1, start), omega (arith, r.2, end), r.3)),
    )

pub index-requires : goal.index-requires
index-requires g c =
    let row = c.args.row in
    let ends = c.self.inside.ends.items in
    let inside : row < length ends = subst (λ rows. row < row_count rows) (sym c.self.view_is) c.requires in
    omega (arith, inside, c.self.invariant.wide, c.self.inside.starts.ok)

pub index-requires-2 : goal.index-requires-2
index-requires-2 g c =
    let row = c.args.row in
    let ends = c.self.inside.ends.items in
    let inside : row < length ends = subst (λ rows. row < row_count rows) (sym c.self.view_is) c.requires in
    omega (arith, inside, c.self.inside.ends.ok)

pub offset_bounds-deref-index : goal.offset_bounds-deref-index
offset_bounds-deref-index g c =
    let row = c.args.row in
    let starts = c.self.inside.starts.items in
    let ends = c.self.inside.ends.items in
    let inside : row < length ends = subst (λ rows. row < row_count rows) (sym c.self.view_is) c.requires in
    let wide = c.self.invariant.wide in
    let start : c.index.result.now ≡ slice_index starts row = get_or_read starts _ _ (omega (arith, inside, wide)) c.index.ensures 0 in
    omega (arith, start, c.self.invariant.within row (omega (arith, inside, wide)), ap length c.deref.ensures.value)

pub slice_bounds-result-count : goal.slice_bounds-result-count
slice_bounds-result-count g c =
    let row = c.args.row in
    let starts = c.self.inside.starts.items in
    let ends = c.self.inside.ends.items in
    let inside : row < length ends = subst (λ rows. row < row_count rows) (sym c.self.view_is) c.requires in
    let wide = c.self.invariant.wide in
    let start : c.index.result.now ≡ slice_index starts row = get_or_read starts _ _ (omega (arith, inside, wide)) c.index.ensures 0 in
    let end : c.index-2.result.now ≡ slice_index ends row = get_or_read ends _ _ inside c.index-2.ensures 0 in
    omega (arith, start, end, c.self.invariant.held row inside)

pub returns-clause-len : goal.returns-clause-len
returns-clause-len g c =
    let row = c.args.row in
    let starts = c.self.inside.starts.items in
    let ends = c.self.inside.ends.items in
    let inside : row < length ends = subst (λ rows. row < row_count rows) (sym c.self.view_is) c.requires in
    let held = c.self.invariant.held row inside in
    let wide = c.self.invariant.wide in
    let within = c.self.invariant.within (row + 1) (omega (arith, inside, wide)) in
    let start : c.index.result.now ≡ slice_index starts row = get_or_read starts _ _ (omega (arith, inside, wide)) c.index.ensures 0 in
    let end : c.index-2.result.now ≡ slice_index ends row = get_or_read ends _ _ inside c.index-2.ensures 0 in
    let from = c.index.result.now in
    let to = c.index-2.result.now in
    let rest = drop from c.deref.result.now in
    subst (λ rows. length (take (to - from) rest) ≡ fill_of rows row) c.self.view_is
    (omega (arith, length-take (to - from) rest, length-drop from c.deref.result.now, ap length c.deref.ensures.value, start, end, held, within))
