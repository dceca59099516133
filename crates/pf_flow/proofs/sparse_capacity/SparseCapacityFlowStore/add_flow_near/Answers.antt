use Rattle.std.proofs.Common.{◌≡◌, ◌∙◌, sym, ap, subst, true, arith, neg_ℤ, [], slice_set, ◌<◌}
use Rattle.std.specs.Prelude.{◌+ℤ◌, ◌-ℤ◌}
use Rattle.std.proofs.lemmas.List.{get_or_default, get_or-set_other, length-set}
use Rattle.std.proofs.lemmas.Option.{none-some}
use Rattle.pf_residual.specs.SparseRows.{ends, has_end, amount_to, row_at}
use Rattle.pf_residual.specs.Internal.RowChanges.{Rises, IsRowChanged}
use Rattle.pf_residual.specs.SparseStores.{rows_flow}
use Rattle.pf_residual.specs.Internal.SparseLaws.{has_row}
use Rattle.pf_residual.proofs.OppositeLemmas.{opposite_carried}
use Rattle.pf_residual.proofs.SparseStoreLemmas.{rows_kept, ends_set_at, flow_added}
use Rattle.pf_flow.proofs.sparse_capacity.SparseCapacityFlowStore.add_flow_near.Goals as goal

pub returns : goal.returns
returns g c =
    let rows = c.args.self.now.rows.items in
    let value = g.C.Number.value in
    let x = value c.args.amount in
    let once = slice_set rows c.args.from c.carry.new.self in
    let from_in = has_row rows c.args.from c.args.to c.requires.room in
    let to_in = (c.args.self.now.stored.below c.args.from).at c.args.to c.requires.room in
    let to_in_once = subst (λ n. c.args.to < n) (sym (length-set rows c.args.from c.carry.new.self)) to_in in
    let here : c.index_mut.result.now ≡ row_at rows c.args.from = c.index_mut.ensures.value ∙ get_or_default rows c.args.from _ [] from_in in
    let there : c.index_mut-2.result.now ≡ row_at once c.args.to = c.index_mut-2.ensures.value ∙ get_or_default once c.args.to _ [] to_in_once in
    flow_added value c.args.self.now.source c.args.self.now.sink (value c.args.self.now.total) c.args.self.now.details rows c.args.from c.args.to x c.carry.new.self c.take_back.new.self from_in to_in
    (subst (λ row. IsRowChanged value c.args.to (neg_ℤ x) x row c.carry.new.self) here c.carry.ensures)
    (subst (λ row. IsRowChanged value c.args.from x (neg_ℤ x) row c.take_back.new.self) there c.take_back.ensures)

pub index_mut-requires : goal.index_mut-requires
index_mut-requires g c = omega (arith, has_row c.args.self.now.rows.items c.args.from c.args.to c.requires.room, c.args.self.now.rows.ok)

pub carry-requires-clause-rises : goal.carry-requires-clause-rises
carry-requires-clause-rises g c =
    let rows = c.args.self.now.rows.items in
    let value = g.C.Number.value in
    let here : c.index_mut.result.now ≡ row_at rows c.args.from = c.index_mut.ensures.value ∙ get_or_default rows c.args.from _ [] (has_row rows c.args.from c.args.to c.requires.room) in
    subst (λ row. Rises 0 (ends row)) (sym here) (c.args.self.now.stored.rises c.args.from)

pub carry-requires-clause-edge : goal.carry-requires-clause-edge
carry-requires-clause-edge g c =
    let rows = c.args.self.now.rows.items in
    let value = g.C.Number.value in
    let here : c.index_mut.result.now ≡ row_at rows c.args.from = c.index_mut.ensures.value ∙ get_or_default rows c.args.from _ [] (has_row rows c.args.from c.args.to c.requires.room) in
    subst (λ row. has_end (ends row) c.args.to ≡ true) (sym here) c.requires.room

pub carry-requires-clause-residual : goal.carry-requires-clause-residual
carry-requires-clause-residual g c =
    let rows = c.args.self.now.rows.items in
    let value = g.C.Number.value in
    let here : c.index_mut.result.now ≡ row_at rows c.args.from = c.index_mut.ensures.value ∙ get_or_default rows c.args.from _ [] (has_row rows c.args.from c.args.to c.requires.room) in
    subst (λ row. g.C.Number.fits (amount_to (λ e. value e.residual) row c.args.to -ℤ value c.args.amount)) (sym here) c.requires.residual

pub carry-requires-clause-flow : goal.carry-requires-clause-flow
carry-requires-clause-flow g c =
    let rows = c.args.self.now.rows.items in
    let value = g.C.Number.value in
    let here : c.index_mut.result.now ≡ row_at rows c.args.from = c.index_mut.ensures.value ∙ get_or_default rows c.args.from _ [] (has_row rows c.args.from c.args.to c.requires.room) in
    subst (λ row. g.C.Number.fits (amount_to (λ e. value e.flow) row c.args.to +ℤ value c.args.amount)) (sym here) c.requires.flow

pub index_mut-requires-2 : goal.index_mut-requires-2
index_mut-requires-2 g c =
    let to_in = (c.args.self.now.stored.below c.args.from).at c.args.to c.requires.room in
    omega (arith, to_in, c.args.self.now.rows.ok)

pub take_back-requires-clause-rises : goal.take_back-requires-clause-rises
take_back-requires-clause-rises g c =
    let rows = c.args.self.now.rows.items in
    let value = g.C.Number.value in
    let once = slice_set rows c.args.from c.carry.new.self in
    let to_in = (c.args.self.now.stored.below c.args.from).at c.args.to c.requires.room in
    let there : c.index_mut-2.result.now ≡ row_at rows c.args.to = c.index_mut-2.ensures.value ∙ get_or_default once c.args.to _ [] (subst (λ n. c.args.to < n) (sym (length-set rows c.args.from c.carry.new.self)) to_in)
    ∙ get_or-set_other rows c.args.from c.args.to c.carry.new.self [] (λ e. c.requires.apart (sym e)) in
    subst (λ row. Rises 0 (ends row)) (sym there) (c.args.self.now.stored.rises c.args.to)

pub take_back-requires-clause-edge : goal.take_back-requires-clause-edge
take_back-requires-clause-edge g c =
    let rows = c.args.self.now.rows.items in
    let value = g.C.Number.value in
    let once = slice_set rows c.args.from c.carry.new.self in
    let to_in = (c.args.self.now.stored.below c.args.from).at c.args.to c.requires.room in
    let there : c.index_mut-2.result.now ≡ row_at rows c.args.to = c.index_mut-2.ensures.value ∙ get_or_default once c.args.to _ [] (subst (λ n. c.args.to < n) (sym (length-set rows c.args.from c.carry.new.self)) to_in)
    ∙ get_or-set_other rows c.args.from c.args.to c.carry.new.self [] (λ e. c.requires.apart (sym e)) in
    subst (λ row. has_end (ends row) c.args.from ≡ true) (sym there) (c.args.self.now.stored.back c.args.from c.args.to c.requires.room)

pub take_back-requires-clause-residual : goal.take_back-requires-clause-residual
take_back-requires-clause-residual g c =
    let rows = c.args.self.now.rows.items in
    let value = g.C.Number.value in
    let once = slice_set rows c.args.from c.carry.new.self in
    let to_in = (c.args.self.now.stored.below c.args.from).at c.args.to c.requires.room in
    let there : c.index_mut-2.result.now ≡ row_at rows c.args.to = c.index_mut-2.ensures.value ∙ get_or_default once c.args.to _ [] (subst (λ n. c.args.to < n) (sym (length-set rows c.args.from c.carry.new.self)) to_in)
    ∙ get_or-set_other rows c.args.from c.args.to c.carry.new.self [] (λ e. c.requires.apart (sym e)) in
    subst (λ row. g.C.Number.fits (amount_to (λ e. value e.residual) row c.args.from +ℤ value c.args.amount)) (sym there) c.requires.residual_back

pub take_back-requires-clause-flow : goal.take_back-requires-clause-flow
take_back-requires-clause-flow g c =
    let rows = c.args.self.now.rows.items in
    let value = g.C.Number.value in
    let once = slice_set rows c.args.from c.carry.new.self in
    let to_in = (c.args.self.now.stored.below c.args.from).at c.args.to c.requires.room in
    let there : c.index_mut-2.result.now ≡ row_at rows c.args.to = c.index_mut-2.ensures.value ∙ get_or_default once c.args.to _ [] (subst (λ n. c.args.to < n) (sym (length-set rows c.args.from c.carry.new.self)) to_in)
    ∙ get_or-set_other rows c.args.from c.args.to c.carry.new.self [] (λ e. c.requires.apart (sym e)) in
    subst (λ row. g.C.Number.fits (amount_to (λ e. value e.flow) row c.args.from -ℤ value c.args.amount)) (sym there) c.requires.flow_back

pub invariant_of-self : goal.invariant_of-self
invariant_of-self g c =
    let rows = c.args.self.now.rows.items in
    let value = g.C.Number.value in
    let x = value c.args.amount in
    let once = slice_set rows c.args.from c.carry.new.self in
    let from_in = has_row rows c.args.from c.args.to c.requires.room in
    let to_in = (c.args.self.now.stored.below c.args.from).at c.args.to c.requires.room in
    let to_in_once = subst (λ n. c.args.to < n) (sym (length-set rows c.args.from c.carry.new.self)) to_in in
    let here : c.index_mut.result.now ≡ row_at rows c.args.from = c.index_mut.ensures.value ∙ get_or_default rows c.args.from _ [] from_in in
    let there : c.index_mut-2.result.now ≡ row_at once c.args.to = c.index_mut-2.ensures.value ∙ get_or_default once c.args.to _ [] to_in_once in
    record {
      stored = rows_kept c.args.self.now.source c.args.self.now.sink rows (slice_set once c.args.to c.take_back.new.self) c.args.self.now.stored (length-set once c.args.to c.take_back.new.self ∙ length-set rows c.args.from c.carry.new.self)
          (λ a. ends_set_at once c.args.to c.take_back.new.self to_in_once (c.take_back.ensures.ends ∙ ap (λ r. ends r) there) a ∙ ends_set_at rows c.args.from c.carry.new.self from_in (c.carry.ensures.ends ∙ ap (λ r. ends r) here) a);
      opposite = opposite_carried (rows_flow value rows) c.args.from c.args.to x c.args.self.now.opposite
          (flow_added value c.args.self.now.source c.args.self.now.sink (value c.args.self.now.total) c.args.self.now.details rows c.args.from c.args.to x c.carry.new.self c.take_back.new.self from_in to_in
          (subst (λ row. IsRowChanged value c.args.to (neg_ℤ x) x row c.carry.new.self) here c.carry.ensures)
          (subst (λ row. IsRowChanged value c.args.from x (neg_ℤ x) row c.take_back.new.self) there c.take_back.ensures)).flow;
      summed = λ z e. absurd (none-some z e);
    }
