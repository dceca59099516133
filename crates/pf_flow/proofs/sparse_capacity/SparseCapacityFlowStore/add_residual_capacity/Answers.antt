use Rattle.std.proofs.Common.{◌≡◌, ◌∙◌, ◌<◌, ◌+ℤ◌, refl, sym, ap, subst, arith, ℕ, ℤ, Bool, true, false, pos, [], List, length, slice_set}
use Rattle.std.specs.Prelude.{if◌then◌else◌, nat_eq, ◌&&◌}
use Rattle.std.proofs.lemmas.Int.{ints}
use Rattle.std.proofs.lemmas.List.{get_or_default, length-set}
use Rattle.std.proofs.lemmas.Option.{none-some}
use Rattle.pf_residual.specs.Networks.{Agrees, with_residual}
use Rattle.pf_residual.specs.SparseRows.{ends, has_end, amount_to, row_at}
use Rattle.pf_residual.specs.Internal.RowChanges.{Rises, IsRowChanged}
use Rattle.pf_residual.specs.SparseStores.{rows_network}
use Rattle.pf_residual.specs.Internal.SparseLaws.{has_row}
use Rattle.pf_residual.specs.declared.sparse_row.Edge.{Edge}
use Rattle.pf_residual.proofs.OppositeLemmas.{opposite_same}
use Rattle.pf_residual.proofs.SparseStoreLemmas.{rows_kept, ends_set_at, table_changed}
use Rattle.pf_flow.proofs.sparse_capacity.SparseCapacityFlowStore.add_residual_capacity.Goals as goal

none_more : (t : Bool) (z : ℤ) → z ≡ (if t then z +ℤ pos 0 else z)
none_more true z = omega (arith, ints)
none_more false z = refl

residual_added : {C : Type 0} (value : C → ℤ) (source sink : ℕ) (total : ℤ) (details : Bool) (rows : List (List (Edge C))) (from to : ℕ) (x : ℤ) (r : List (Edge C)) → from < length rows → IsRowChanged value to x (pos 0) (row_at rows from) r
    → Agrees (with_residual from to x (rows_network value rows source sink total details)) (rows_network value (slice_set rows from r) source sink total details)
residual_added value source sink total details rows from to x r l h = record {
  vertices = length-set rows from r;
  source = refl;
  sink = refl;
  residual = record { at = table_changed (λ e. value e.residual) rows from to x r l h.residual };
  flow = record { at = λ a b. none_more (nat_eq a from && nat_eq b to) (amount_to (λ e. value e.flow) (row_at rows a) b) ∙ table_changed (λ e. value e.flow) rows from to (pos 0) r l h.flow a b };
  total = refl;
  details = refl;
  room = λ a b k. subst (λ es. has_end es b ≡ true) (sym (ends_set_at rows from r l h.ends a)) k;
}

pub index_mut-requires : goal.index_mut-requires
index_mut-requires g c = omega (arith, has_row c.args.self.now.rows.items c.args.from c.args.to c.requires.room, c.args.self.now.rows.ok)

pub add_residual-requires-clause-rises : goal.add_residual-requires-clause-rises
add_residual-requires-clause-rises g c =
    let rows = c.args.self.now.rows.items in
    let here : c.index_mut.result.now ≡ row_at rows c.args.from = c.index_mut.ensures.value ∙ get_or_default rows c.args.from _ [] (has_row rows c.args.from c.args.to c.requires.room) in
    subst (λ row. Rises 0 (ends row)) (sym here) (c.args.self.now.stored.rises c.args.from)

pub add_residual-requires-clause-edge : goal.add_residual-requires-clause-edge
add_residual-requires-clause-edge g c =
    let rows = c.args.self.now.rows.items in
    let here : c.index_mut.result.now ≡ row_at rows c.args.from = c.index_mut.ensures.value ∙ get_or_default rows c.args.from _ [] (has_row rows c.args.from c.args.to c.requires.room) in
    subst (λ row. has_end (ends row) c.args.to ≡ true) (sym here) c.requires.room

pub add_residual-requires-clause-fits : goal.add_residual-requires-clause-fits
add_residual-requires-clause-fits g c =
    let rows = c.args.self.now.rows.items in
    let value = g.C.Number.value in
    let here : c.index_mut.result.now ≡ row_at rows c.args.from = c.index_mut.ensures.value ∙ get_or_default rows c.args.from _ [] (has_row rows c.args.from c.args.to c.requires.room) in
    subst (λ row. g.C.Number.fits (amount_to (λ e. value e.residual) row c.args.to +ℤ value c.args.amount)) (sym here) c.requires.fits

pub returns : goal.returns
returns g c =
    let s = c.args.self.now in
    let rows = s.rows.items in
    let value = g.C.Number.value in
    let x = value c.args.amount in
    let inside = has_row rows c.args.from c.args.to c.requires.room in
    let here : c.index_mut.result.now ≡ row_at rows c.args.from = c.index_mut.ensures.value ∙ get_or_default rows c.args.from _ [] inside in
    residual_added value s.source s.sink (value s.total) s.details rows c.args.from c.args.to x c.add_residual.new.self inside
    (subst (λ row. IsRowChanged value c.args.to x (pos 0) row c.add_residual.new.self) here c.add_residual.ensures)

pub invariant_of-self : goal.invariant_of-self
invariant_of-self g c =
    let s = c.args.self.now in
    let rows = s.rows.items in
    let value = g.C.Number.value in
    let x = value c.args.amount in
    let inside = has_row rows c.args.from c.args.to c.requires.room in
    let here : c.index_mut.result.now ≡ row_at rows c.args.from = c.index_mut.ensures.value ∙ get_or_default rows c.args.from _ [] inside in
    record {
      stored = rows_kept c.args.self.now.source c.args.self.now.sink rows (slice_set rows c.args.from c.add_residual.new.self) c.args.self.now.stored (length-set rows c.args.from c.add_residual.new.self)
          (ends_set_at rows c.args.from c.add_residual.new.self inside (c.add_residual.ensures.ends ∙ ap (λ r. ends r) here));
      opposite = opposite_same s.opposite
          (residual_added value s.source s.sink (value s.total) s.details rows c.args.from c.args.to x c.add_residual.new.self inside
          (subst (λ row. IsRowChanged value c.args.to x (pos 0) row c.add_residual.new.self) here c.add_residual.ensures)).flow;
      summed = λ z e. absurd (none-some z e);
    }
