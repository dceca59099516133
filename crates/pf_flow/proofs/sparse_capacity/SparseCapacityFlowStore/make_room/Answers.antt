use Rattle.std.proofs.Common.{◌≡◌, refl, arith, ◌∙◌, sym, ap, subst, [], true, false, slice_set}
use Rattle.std.specs.Prelude.{◌<◌}
use Rattle.std.proofs.lemmas.List.{get_or_default, get_or-set_other, length-set, set-get_or}
use Rattle.std.proofs.lemmas.Option.{none-some}
use Rattle.pf_residual.specs.Flows.{IsAntisymmetric}
use Rattle.pf_residual.specs.Networks.{Agrees}
use Rattle.pf_residual.specs.SparseRows.{ends, has_end, row_at}
use Rattle.pf_residual.specs.Internal.RowChanges.{Rises, with_edge}
use Rattle.pf_residual.specs.SparseStores.{rows_flow, rows_network}
use Rattle.pf_residual.specs.Internal.SparseTables.{AreRows}
use Rattle.pf_residual.specs.declared.sparse_row.Edge.{Edge}
use Rattle.pf_flow.proofs.SparseRoom.{widened, widened_once, widened_twice, room_made, once_amount, fresh_back, inside_once, first_is, second_is, third_read, undone}
use Rattle.pf_residual.proofs.OppositeLemmas.{opposite_same}
use Rattle.pf_residual.proofs.SparseRowLemmas.{with_edge_rises, with_edge_has}
use Rattle.pf_residual.proofs.SparseStoreLemmas.{rows_same}
use Rattle.pf_flow.proofs.sparse_capacity.SparseCapacityFlowStore.make_room.Goals as goal

pub invariant_of-self-then-from-to : goal.invariant_of-self-then-from-to
invariant_of-self-then-from-to g c =
    let rows = c.args.self.now.rows.items in
    let from = c.args.from in
    let to = c.args.to in
    let source = c.args.self.now.source in
    let sink = c.args.self.now.sink in
    let d : Edge g.row.C.Denot = record { to = to; residual = g.C.Zero.zero; flow = g.C.Zero.zero } in
    let fresh : has_end (ends (row_at rows from)) to ≡ false = sym (ap (λ r. has_end (ends r) to) (c.index.ensures ∙ get_or_default rows from _ [] c.requires.from)) ∙ sym c.has.ensures ∙ c.if-has.false in
    let first = first_is rows from to d d c.requires.from c.requires.to c.index_mut.result.now c.index_mut.ensures.value c.insert.new.self c.in_ok-insert.ensures.ok in
    let value = g.C.Number.value in
    let none = g.met.C.Zero.zero_law g.met.C.Integral.exact_law in
    let widens = widened_once source sink rows from d c.args.self.now.stored c.requires.from c.if-from-to.true fresh in
    record { stored = subst (λ r. AreRows source sink r) (sym first) (widened source sink from to rows _ c.args.self.now.stored c.requires.from c.requires.to widens); opposite = subst (λ r. IsAntisymmetric (rows_flow value r)) (sym first) (opposite_same c.args.self.now.opposite (record { at = once_amount rows from d c.requires.from (λ e. value e.flow) fresh none })); summed = λ z e. absurd (none-some z e) }

pub returns-then-from-to : goal.returns-then-from-to
returns-then-from-to g c =
    let rows = c.args.self.now.rows.items in
    let from = c.args.from in
    let to = c.args.to in
    let source = c.args.self.now.source in
    let sink = c.args.self.now.sink in
    let d : Edge g.row.C.Denot = record { to = to; residual = g.C.Zero.zero; flow = g.C.Zero.zero } in
    let fresh : has_end (ends (row_at rows from)) to ≡ false = sym (ap (λ r. has_end (ends r) to) (c.index.ensures ∙ get_or_default rows from _ [] c.requires.from)) ∙ sym c.has.ensures ∙ c.if-has.false in
    let first = first_is rows from to d d c.requires.from c.requires.to c.index_mut.result.now c.index_mut.ensures.value c.insert.new.self c.in_ok-insert.ensures.ok in
    record {
      same =
          let value = g.C.Number.value in
          let total = value c.args.self.now.total in
          let details = c.args.self.now.details in
          let none = g.met.C.Zero.zero_law g.met.C.Integral.exact_law in
          let widens = widened_once source sink rows from d c.args.self.now.stored c.requires.from c.if-from-to.true fresh in
          subst (λ r. Agrees (rows_network value rows source sink total details) (rows_network value r source sink total details)) (sym first)
          (room_made value source sink total details from to rows _ widens (λ f z a b. once_amount rows from d c.requires.from f fresh (z d none none) a b));
      room =
          let widens = widened_once source sink rows from d c.args.self.now.stored c.requires.from c.if-from-to.true fresh in
          subst (λ r. has_end (ends (row_at r from)) to ≡ true) (sym first) widens.there;
      refused = tt;
    }

pub remove-requires-clause-rises : goal.remove-requires-clause-rises
remove-requires-clause-rises g c =
    let rows = c.args.self.now.rows.items in
    let from = c.args.from in
    let to = c.args.to in
    let source = c.args.self.now.source in
    let sink = c.args.self.now.sink in
    let d : Edge g.row.C.Denot = record { to = to; residual = g.C.Zero.zero; flow = g.C.Zero.zero } in
    let fresh : has_end (ends (row_at rows from)) to ≡ false = sym (ap (λ r. has_end (ends r) to) (c.index.ensures ∙ get_or_default rows from _ [] c.requires.from)) ∙ sym c.has.ensures ∙ c.if-has.false in
    let e : Edge g.row.C.Denot = record { to = from; residual = g.C.Zero.zero; flow = g.C.Zero.zero } in
    let stored = c.args.self.now.stored in
    let third = third_read rows from to d d c.requires.from c.requires.to c.index_mut.result.now c.index_mut.ensures.value c.insert.new.self c.in_ok-insert.ensures.ok
    c.index_mut-2.result.now c.index_mut-2.ensures.value c.insert-2.new.self c.in-Err.ensures.unchanged c.index_mut-in-Err.result.now c.index_mut-in-Err.ensures.value in
    subst (λ r. Rises 0 (ends r)) (sym third) (with_edge_rises 0 (row_at rows from) d (stored.rises from) (omega arith) fresh)

pub remove-requires-clause-edge : goal.remove-requires-clause-edge
remove-requires-clause-edge g c =
    let rows = c.args.self.now.rows.items in
    let from = c.args.from in
    let to = c.args.to in
    let source = c.args.self.now.source in
    let sink = c.args.self.now.sink in
    let d : Edge g.row.C.Denot = record { to = to; residual = g.C.Zero.zero; flow = g.C.Zero.zero } in
    let fresh : has_end (ends (row_at rows from)) to ≡ false = sym (ap (λ r. has_end (ends r) to) (c.index.ensures ∙ get_or_default rows from _ [] c.requires.from)) ∙ sym c.has.ensures ∙ c.if-has.false in
    let e : Edge g.row.C.Denot = record { to = from; residual = g.C.Zero.zero; flow = g.C.Zero.zero } in
    let stored = c.args.self.now.stored in
    let third = third_read rows from to d d c.requires.from c.requires.to c.index_mut.result.now c.index_mut.ensures.value c.insert.new.self c.in_ok-insert.ensures.ok
    c.index_mut-2.result.now c.index_mut-2.ensures.value c.insert-2.new.self c.in-Err.ensures.unchanged c.index_mut-in-Err.result.now c.index_mut-in-Err.ensures.value in
    subst (λ r. has_end (ends r) to ≡ true) (sym third) (with_edge_has (row_at rows from) d)

pub returns-in-Err-clause-same : goal.returns-in-Err-clause-same
returns-in-Err-clause-same g c =
    let rows = c.args.self.now.rows.items in
    let from = c.args.from in
    let to = c.args.to in
    let source = c.args.self.now.source in
    let sink = c.args.self.now.sink in
    let d : Edge g.row.C.Denot = record { to = to; residual = g.C.Zero.zero; flow = g.C.Zero.zero } in
    let fresh : has_end (ends (row_at rows from)) to ≡ false = sym (ap (λ r. has_end (ends r) to) (c.index.ensures ∙ get_or_default rows from _ [] c.requires.from)) ∙ sym c.has.ensures ∙ c.if-has.false in
    let e : Edge g.row.C.Denot = record { to = from; residual = g.C.Zero.zero; flow = g.C.Zero.zero } in
    let stored = c.args.self.now.stored in
    let value = g.C.Number.value in
    let total = value c.args.self.now.total in
    let details = c.args.self.now.details in
    let none = g.met.C.Zero.zero_law g.met.C.Integral.exact_law in
    let back = undone rows from to d d c.requires.from c.requires.to c.index_mut.result.now c.index_mut.ensures.value c.insert.new.self c.in_ok-insert.ensures.ok
    c.index_mut-2.result.now c.index_mut-2.ensures.value c.insert-2.new.self c.in-Err.ensures.unchanged c.index_mut-in-Err.result.now c.index_mut-in-Err.ensures.value
    refl fresh c.remove.new.self c.remove.ensures in
    subst (λ r. Agrees (rows_network value rows source sink total details) (rows_network value r source sink total details)) (sym back)
    (rows_same value source sink total details rows rows refl (λ a. refl))

pub invariant_of-self-in-Err : goal.invariant_of-self-in-Err
invariant_of-self-in-Err g c =
    let rows = c.args.self.now.rows.items in
    let from = c.args.from in
    let to = c.args.to in
    let source = c.args.self.now.source in
    let sink = c.args.self.now.sink in
    let d : Edge g.row.C.Denot = record { to = to; residual = g.C.Zero.zero; flow = g.C.Zero.zero } in
    let fresh : has_end (ends (row_at rows from)) to ≡ false = sym (ap (λ r. has_end (ends r) to) (c.index.ensures ∙ get_or_default rows from _ [] c.requires.from)) ∙ sym c.has.ensures ∙ c.if-has.false in
    let e : Edge g.row.C.Denot = record { to = from; residual = g.C.Zero.zero; flow = g.C.Zero.zero } in
    let stored = c.args.self.now.stored in
    let back = undone rows from to d d c.requires.from c.requires.to c.index_mut.result.now c.index_mut.ensures.value c.insert.new.self c.in_ok-insert.ensures.ok
    c.index_mut-2.result.now c.index_mut-2.ensures.value c.insert-2.new.self c.in-Err.ensures.unchanged c.index_mut-in-Err.result.now c.index_mut-in-Err.ensures.value
    refl fresh c.remove.new.self c.remove.ensures in
    record { stored = subst (λ r. AreRows source sink r) (sym back) stored; opposite = subst (λ r. IsAntisymmetric (rows_flow g.C.Number.value r)) (sym back) c.args.self.now.opposite; summed = λ z e. absurd (none-some z e) }

pub invariant_of-self-in_default : goal.invariant_of-self-in_default
invariant_of-self-in_default g c =
    let rows = c.args.self.now.rows.items in
    let from = c.args.from in
    let to = c.args.to in
    let source = c.args.self.now.source in
    let sink = c.args.self.now.sink in
    let d : Edge g.row.C.Denot = record { to = to; residual = g.C.Zero.zero; flow = g.C.Zero.zero } in
    let fresh : has_end (ends (row_at rows from)) to ≡ false = sym (ap (λ r. has_end (ends r) to) (c.index.ensures ∙ get_or_default rows from _ [] c.requires.from)) ∙ sym c.has.ensures ∙ c.if-has.false in
    let e : Edge g.row.C.Denot = record { to = from; residual = g.C.Zero.zero; flow = g.C.Zero.zero } in
    let stored = c.args.self.now.stored in
    let second = second_is rows from to d e c.requires.from c.requires.to c.index_mut.result.now c.index_mut.ensures.value c.insert.new.self c.in_ok-insert.ensures.ok
    c.index_mut-2.result.now c.index_mut-2.ensures.value c.insert-2.new.self c.in_default.ensures.ok in
    let value = g.C.Number.value in
    let none = g.met.C.Zero.zero_law g.met.C.Integral.exact_law in
    let widens = widened_twice source sink rows stored d e c.if-from-to.false c.requires.from c.requires.to fresh in
    record {
      stored = subst (λ r. AreRows source sink r) (sym second) (widened source sink from to rows _ stored c.requires.from c.requires.to widens);
      opposite = subst (λ r. IsAntisymmetric (rows_flow value r)) (sym second) (opposite_same c.args.self.now.opposite (record {
        at = λ a b.
            once_amount rows from d c.requires.from (λ e. value e.flow) fresh none a b
            ∙ once_amount (slice_set rows from (with_edge (row_at rows from) d)) to e (inside_once source sink rows stored d e c.if-from-to.false c.requires.from c.requires.to fresh) (λ e. value e.flow)
            (fresh_back source sink rows stored d e c.if-from-to.false c.requires.from c.requires.to fresh) none a b;
      }));
      summed = λ z e. absurd (none-some z e);
    }

pub returns : goal.returns
returns g c =
    let rows = c.args.self.now.rows.items in
    let from = c.args.from in
    let to = c.args.to in
    let source = c.args.self.now.source in
    let sink = c.args.self.now.sink in
    let d : Edge g.row.C.Denot = record { to = to; residual = g.C.Zero.zero; flow = g.C.Zero.zero } in
    let fresh : has_end (ends (row_at rows from)) to ≡ false = sym (ap (λ r. has_end (ends r) to) (c.index.ensures ∙ get_or_default rows from _ [] c.requires.from)) ∙ sym c.has.ensures ∙ c.if-has.false in
    let e : Edge g.row.C.Denot = record { to = from; residual = g.C.Zero.zero; flow = g.C.Zero.zero } in
    let stored = c.args.self.now.stored in
    record {
      same =
          let value = g.C.Number.value in
          let total = value c.args.self.now.total in
          let details = c.args.self.now.details in
          let none = g.met.C.Zero.zero_law g.met.C.Integral.exact_law in
          let second = second_is rows from to d e c.requires.from c.requires.to c.index_mut.result.now c.index_mut.ensures.value c.insert.new.self c.in_ok-insert.ensures.ok
          c.index_mut-2.result.now c.index_mut-2.ensures.value c.insert-2.new.self c.in_default.ensures.ok in
          let widens = widened_twice source sink rows stored d e c.if-from-to.false c.requires.from c.requires.to fresh in
          subst (λ r. Agrees (rows_network value rows source sink total details) (rows_network value r source sink total details)) (sym second)
          (room_made value source sink total details from to rows _ widens (λ f z a b.
          once_amount rows from d c.requires.from f fresh (z d none none) a b
          ∙ once_amount (slice_set rows from (with_edge (row_at rows from) d)) to e (inside_once source sink rows stored d e c.if-from-to.false c.requires.from c.requires.to fresh) f
          (fresh_back source sink rows stored d e c.if-from-to.false c.requires.from c.requires.to fresh) (z e none none) a b));
      room =
          let second = second_is rows from to d e c.requires.from c.requires.to c.index_mut.result.now c.index_mut.ensures.value c.insert.new.self c.in_ok-insert.ensures.ok
          c.index_mut-2.result.now c.index_mut-2.ensures.value c.insert-2.new.self c.in_default.ensures.ok in
          let widens = widened_twice source sink rows stored d e c.if-from-to.false c.requires.from c.requires.to fresh in
          subst (λ r. has_end (ends (row_at r from)) to ≡ true) (sym second) widens.there;
      refused = tt;
    }

pub index-requires : goal.index-requires
index-requires g c = omega (arith, c.requires.from, c.args.self.now.rows.ok)

pub index_mut-requires : goal.index_mut-requires
index_mut-requires g c = omega (arith, c.requires.from, c.args.self.now.rows.ok)

pub has-requires : goal.has-requires
has-requires g c =
    let rows = c.args.self.now.rows.items in
    subst (λ row. Rises 0 (ends row)) (sym (c.index.ensures ∙ get_or_default rows c.args.from _ [] c.requires.from)) (c.args.self.now.stored.rises c.args.from)

pub insert-requires : goal.insert-requires
insert-requires g c =
    let rows = c.args.self.now.rows.items in
    subst (λ row. Rises 0 (ends row)) (sym (c.index_mut.ensures.value ∙ get_or_default rows c.args.from _ [] c.requires.from)) (c.args.self.now.stored.rises c.args.from)

pub returns-then-has : goal.returns-then-has
returns-then-has g c = record {
  same =
      let s = c.args.self.now in
      rows_same g.C.Number.value s.source s.sink (g.C.Number.value s.total) s.details s.rows.items s.rows.items refl (λ a. refl);
  room =
      let rows = c.args.self.now.rows.items in
      sym (ap (λ r. has_end (ends r) c.args.to) (c.index.ensures ∙ get_or_default rows c.args.from _ [] c.requires.from)) ∙ sym c.has.ensures ∙ c.if-has.true;
  refused = tt;
}

pub index_mut-requires-2 : goal.index_mut-requires-2
index_mut-requires-2 g c = omega (arith, c.requires.to, c.args.self.now.rows.ok)

pub insert-requires-2 : goal.insert-requires-2
insert-requires-2 g c =
    let rows = c.args.self.now.rows.items in
    let from = c.args.from in
    let to = c.args.to in
    let once = slice_set rows from c.insert.new.self in
    let inside = subst (λ n. to < n) (sym (length-set rows from c.insert.new.self)) c.requires.to in
    let there : c.index_mut-2.result.now ≡ row_at rows to = c.index_mut-2.ensures.value ∙ get_or_default once to _ [] inside ∙ get_or-set_other rows from to c.insert.new.self [] (λ e. c.if-from-to.false (sym e)) in
    subst (λ row. Rises 0 (ends row)) (sym there) (c.args.self.now.stored.rises to)

pub index_mut-requires-in-Err : goal.index_mut-requires-in-Err
index_mut-requires-in-Err g c = omega (arith, c.requires.from, c.args.self.now.rows.ok)

pub returns-in_err-insert-clause-same : goal.returns-in_err-insert-clause-same
returns-in_err-insert-clause-same g c =
    let s = c.args.self.now in
    let rows = s.rows.items in
    let from = c.args.from in
    let value = g.C.Number.value in
    let total = value s.total in
    let back = ap (slice_set rows from) (c.in_err-insert.ensures.unchanged ∙ c.index_mut.ensures.value ∙ get_or_default rows from _ [] c.requires.from) ∙ set-get_or rows from [] in
    subst (λ r. Agrees (rows_network value rows s.source s.sink total s.details) (rows_network value r s.source s.sink total s.details)) (sym back)
    (rows_same value s.source s.sink total s.details rows rows refl (λ a. refl))

pub invariant_of-self : goal.invariant_of-self
invariant_of-self g c =
    let s = c.args.self.now in
    let rows = s.rows.items in
    let from = c.args.from in
    let back = ap (slice_set rows from) (c.in_err-insert.ensures.unchanged ∙ c.index_mut.ensures.value ∙ get_or_default rows from _ [] c.requires.from) ∙ set-get_or rows from [] in
    record { stored = subst (λ r. AreRows s.source s.sink r) (sym back) s.stored; opposite = subst (λ r. IsAntisymmetric (rows_flow g.C.Number.value r)) (sym back) s.opposite; summed = λ z e. absurd (none-some z e) }
