use Rattle.std.proofs.Common.{◌≡◌, ◌<◌, ◌+◌, sym, ap, subst, arith, length, ◌⊎◌, inl, inr, set, length-set, get_or-set_same, get_or-set_other, ◌∙◌}
use Rattle.std.specs.Prelude.{◌↔◌, slice_index}
use Rattle.std.proofs.lemmas.List.{get_or_read}
use Rattle.std.proofs.lemmas.Bool.{cases_eq}
use Rattle.pf_union_find.specs.Rows.{HasItem, row_count, fill_of, room_of}
use Rattle.pf_union_find.proofs.RowLemmas.{one_more}
use Rattle.pf_union_find.proofs.rows.Rows.put.Goals as goal

pub returns-clause-items : goal.returns-clause-items
returns-clause-items g c = λ other x.
    let starts = c.self.inside.starts.items in
    let ends = c.self.inside.ends.items in
    let places = c.self.inside.places.items in
    let row = c.args.row in
    let end = c.index-end.result.now in
    let inside : row < length ends = subst (λ rows. row < row_count rows) (sym c.self.view_is) c.requires.inside in
    let room = subst (λ rows. fill_of rows row < room_of rows row) (sym c.self.view_is) c.requires.room in
    let is : end ≡ slice_index ends row = get_or_read ends _ _ inside c.index-end.ensures 0 in
    subst (λ rows. HasItem (starts, set ends row (end + 1), set places end c.args.item) other x ↔ (HasItem rows other x ⊎ ((other ≡ row) × (x ≡ c.args.item)))) c.self.view_is
    (one_more starts ends places c.self.invariant row inside end is (omega (arith, room, is)) c.args.item other x)

pub index-end-requires : goal.index-end-requires
index-end-requires g c =
    let row = c.args.row in
    let ends = c.self.inside.ends.items in
    let inside : row < length ends = subst (λ rows. row < row_count rows) (sym c.self.view_is) c.requires.inside in
    omega (arith, inside, c.self.inside.ends.ok)

pub index_mut-requires : goal.index_mut-requires
index_mut-requires g c =
    let row = c.args.row in
    let ends = c.self.inside.ends.items in
    let end = c.index-end.result.now in
    let inside : row < length ends = subst (λ rows. row < row_count rows) (sym c.self.view_is) c.requires.inside in
    let room = subst (λ rows. fill_of rows row < room_of rows row) (sym c.self.view_is) c.requires.room in
    let is : end ≡ slice_index ends row = get_or_read ends _ _ inside c.index-end.ensures 0 in
    let within = c.self.invariant.within (row + 1) (omega (arith, inside, c.self.invariant.wide)) in
    omega (arith, within, room, is, c.self.inside.places.ok)

pub overflow_add-end : goal.overflow_add-end
overflow_add-end g c =
    let row = c.args.row in
    let ends = c.self.inside.ends.items in
    let end = c.index-end.result.now in
    let inside : row < length ends = subst (λ rows. row < row_count rows) (sym c.self.view_is) c.requires.inside in
    let room = subst (λ rows. fill_of rows row < room_of rows row) (sym c.self.view_is) c.requires.room in
    let is : end ≡ slice_index ends row = get_or_read ends _ _ inside c.index-end.ensures 0 in
    let within = c.self.invariant.within (row + 1) (omega (arith, inside, c.self.invariant.wide)) in
    omega (arith, within, room, is, c.self.inside.places.ok)

pub index_mut-requires-2 : goal.index_mut-requires-2
index_mut-requires-2 g c =
    let row = c.args.row in
    let ends = c.self.inside.ends.items in
    let inside : row < length ends = subst (λ rows. row < row_count rows) (sym c.self.view_is) c.requires.inside in
    omega (arith, inside, c.self.inside.ends.ok)

pub invariant_of-self : goal.invariant_of-self
invariant_of-self g c =
    let row = c.args.row in
    let starts = c.self.inside.starts.items in
    let ends = c.self.inside.ends.items in
    let places = c.self.inside.places.items in
    let end = c.index-end.result.now in
    let inside : row < length ends = subst (λ rows. row < row_count rows) (sym c.self.view_is) c.requires.inside in
    let room = subst (λ rows. fill_of rows row < room_of rows row) (sym c.self.view_is) c.requires.room in
    let is : end ≡ slice_index ends row = get_or_read ends _ _ inside c.index-end.ensures 0 in
    let known = c.self.invariant in
    record {
      wide = omega (arith, known.wide, length-set ends row (end + 1));
      held = λ at l. elim (cases_eq at row) [
        | inl e ↦
            let now : slice_index (set ends row (end + 1)) at ≡ end + 1 = ap (slice_index (set ends row (end + 1))) e ∙ get_or-set_same ends row (end + 1) 0 inside in
            let from : slice_index starts at ≡ slice_index starts row = ap (slice_index starts) e in
            let to : slice_index starts (at + 1) ≡ slice_index starts (row + 1) = ap (λ k. slice_index starts (k + 1)) e in
            let held = known.held row inside in
            (omega (arith, now, from, held, is), omega (arith, now, to, room, is))
        | inr n ↦
            let now : slice_index (set ends row (end + 1)) at ≡ slice_index ends at = get_or-set_other ends row at (end + 1) 0 n in
            let held = known.held at (omega (arith, l, length-set ends row (end + 1))) in
            (omega (arith, now, held), omega (arith, now, held))
      ];
      rises = known.rises;
      within = λ a l. omega (arith, known.within a l, length-set places end c.args.item);
    }

pub returns-clause-count : goal.returns-clause-count
returns-clause-count g c = length-set c.self.inside.ends.items c.args.row (c.index-end.result.now + 1) ∙ ap row_count c.self.view_is

pub returns-clause-room : goal.returns-clause-room
returns-clause-room g c = λ other. ap (λ rows. room_of rows other) c.self.view_is
