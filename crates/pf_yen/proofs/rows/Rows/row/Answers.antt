use Rattle.std.proofs.Common.{◌≡◌, ◌<◌, ◌∙◌, ap, sym, [], length, get_or, arith, List, ℕ}
use Rattle.std.proofs.lemmas.Grind.{get_or_default_zero}
use Rattle.pf_yen.specs.Internal.Rows.{rows_from, row_begin}
use Rattle.pf_yen.proofs.RowLemmas.{row_count, bounds, row_here}
use Rattle.pf_yen.proofs.rows.Rows.row.Goals as goal

pub begin_of-begin-requires : goal.begin_of-begin-requires
begin_of-begin-requires g c =
    let s = c.self.inside in
    let n = row_count s.ends.items 0 s.steps.items in
    let v : length (rows_from 0 s.ends.items s.steps.items) ≡ length c.args.self.now = ap (λ (rows : List (List (ℕ × g.row.C.Denot))). length rows) c.self.view_is in
    rw c.deref.ensures.value (omega (arith, n, v, c.requires))

pub index-requires : goal.index-requires
index-requires g c =
    let s = c.self.inside in
    let n = row_count s.ends.items 0 s.steps.items in
    let v : length (rows_from 0 s.ends.items s.steps.items) ≡ length c.args.self.now = ap (λ (rows : List (List (ℕ × g.row.C.Denot))). length rows) c.self.view_is in
    omega (arith, n, v, c.requires)

pub part-requires : goal.part-requires
part-requires g c =
    let s = c.self.inside in
    let n = row_count s.ends.items 0 s.steps.items in
    let v : length (rows_from 0 s.ends.items s.steps.items) ≡ length c.args.self.now = ap (λ (rows : List (List (ℕ × g.row.C.Denot))). length rows) c.self.view_is in
    let inside : c.args.number < length s.ends.items = omega (arith, n, v, c.requires) in
    let b = bounds s.ends.items 0 (length s.steps.items) c.args.number c.self.invariant inside in
    let begin : c.begin_of-begin.result ≡ row_begin 0 s.ends.items c.args.number = c.begin_of-begin.ensures ∙ ap (λ (ends : List ℕ). row_begin 0 ends c.args.number) c.deref.ensures.value in
    let end = c.index.ensures ∙ get_or_default_zero s.ends.items c.args.number c.index.result.now inside in
    rw (begin, end, c.deref-2.ensures.value) (b.1, b.2)

pub returns : goal.returns
returns g c =
    let s = c.self.inside in
    let n = row_count s.ends.items 0 s.steps.items in
    let v : length (rows_from 0 s.ends.items s.steps.items) ≡ length c.args.self.now = ap (λ (rows : List (List (ℕ × g.row.C.Denot))). length rows) c.self.view_is in
    let inside : c.args.number < length s.ends.items = omega (arith, n, v, c.requires) in
    let begin : c.begin_of-begin.result ≡ row_begin 0 s.ends.items c.args.number = c.begin_of-begin.ensures ∙ ap (λ (ends : List ℕ). row_begin 0 ends c.args.number) c.deref.ensures.value in
    let end = c.index.ensures ∙ get_or_default_zero s.ends.items c.args.number c.index.result.now inside in
    let r = row_here s.ends.items (length s.steps.items) c.args.number s.steps.items c.self.invariant inside in
    c.part.ensures ∙ rw (begin, end, c.deref-2.ensures.value) (sym r) ∙ ap (λ (rows : List (List (ℕ × g.row.C.Denot))). get_or rows c.args.number []) c.self.view_is
