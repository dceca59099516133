use Rattle.std.proofs.Common.{◌≡◌, ◌≢◌, ◌∙◌, ◌<◌, ◌+◌, ◌*◌, ◌+ℤ◌, ℕ, ℤ, neg_ℤ, sym, subst}
use Rattle.std.specs.Prelude.{◌-ℤ◌}
use Rattle.std.proofs.lemmas.Option.{none-some}
use Rattle.pf_matrix.specs.Tables.{Table, HasPosition}
use Rattle.pf_base.specs.Places.{number}
use Rattle.pf_residual.specs.DenseStores.{table_number}
use Rattle.pf_residual.specs.Internal.DenseTables.{IsSquare, IsTableChanged}
use Rattle.pf_residual.specs.Internal.DenseLaws.{inside_of}
use Rattle.pf_residual.proofs.AddedLemmas.{added_elsewhere}
use Rattle.pf_residual.proofs.DenseLemmas.{flow_raised, number_inside, square_changed, table_added, tables_kept}
use Rattle.pf_residual.proofs.OppositeLemmas.{opposite_carried}
use Rattle.pf_flow.proofs.dense_capacity.DenseCapacityFlowStore.add_flow.Goals as goal

-- both vertices are a position of a square
position : {C : Type 0} {n : ℕ} {m : Table C} (a b : ℕ) → IsSquare n m → a < n → b < n → HasPosition m a b
position a b s l k = (subst (λ r. a < r) (sym s.rows) l, subst (λ r. b < r) (sym s.columns) k)

-- the number of the reverse is as before
reverse_kept : {C : Type 0} (value : C → ℤ) (n : ℕ) (old new : Table C) (from to : ℕ) (x : ℤ) → IsSquare n old → from < n → to < n → from ≢ to → IsTableChanged value from to x old new
    → table_number value n old to from ≡ number value new.values (to * new.columns + from)
reverse_kept value n old new from to x s l k apart c =
    sym (added_elsewhere (table_number value n old) from to x to from (λ e f. apart f))
    ∙ table_added value n old new from to x s l k c to from
    ∙ number_inside value n new to from k l

pub raise-requires : goal.raise-requires
raise-requires g c =
    let s = c.args.self.now in
    let n = s.residuals.rows in
    let p = inside_of n c.args.from c.args.to c.requires.room in
    let value = g.C.Number.value in
    record {
      matrix = s.stored.flows_square.matrix;
      inside = position c.args.from c.args.to s.stored.flows_square p.0 p.1;
      fits = subst (λ z. g.C.Number.fits (z +ℤ value c.args.amount)) (number_inside value n s.flows c.args.from c.args.to p.0 p.1) c.requires.flow;
    }

pub lower-requires : goal.lower-requires
lower-requires g c =
    let s = c.args.self.now in
    let n = s.residuals.rows in
    let p = inside_of n c.args.from c.args.to c.requires.room in
    let value = g.C.Number.value in
    let x = value c.args.amount in
    let once = c.raise.new.table in
    record {
      matrix = c.raise.ensures.matrix;
      inside = position c.args.to c.args.from (square_changed value n s.flows once c.args.from c.args.to x s.stored.flows_square c.raise.ensures) p.1 p.0;
      fits = subst (λ z. g.C.Number.fits (z -ℤ x)) (reverse_kept value n s.flows once c.args.from c.args.to x s.stored.flows_square p.0 p.1 c.requires.apart c.raise.ensures) c.requires.flow_back;
    }

pub lower-requires-2 : goal.lower-requires-2
lower-requires-2 g c =
    let s = c.args.self.now in
    let n = s.residuals.rows in
    let p = inside_of n c.args.from c.args.to c.requires.room in
    let value = g.C.Number.value in
    record {
      matrix = s.stored.residuals_square.matrix;
      inside = position c.args.from c.args.to s.stored.residuals_square p.0 p.1;
      fits = subst (λ z. g.C.Number.fits (z -ℤ value c.args.amount)) (number_inside value n s.residuals c.args.from c.args.to p.0 p.1) c.requires.residual;
    }

pub raise-requires-2 : goal.raise-requires-2
raise-requires-2 g c =
    let s = c.args.self.now in
    let n = s.residuals.rows in
    let p = inside_of n c.args.from c.args.to c.requires.room in
    let value = g.C.Number.value in
    let x = value c.args.amount in
    let once = c.lower-2.new.table in
    record {
      matrix = c.lower-2.ensures.matrix;
      inside = position c.args.to c.args.from (square_changed value n s.residuals once c.args.from c.args.to (neg_ℤ x) s.stored.residuals_square c.lower-2.ensures) p.1 p.0;
      fits = subst (λ z. g.C.Number.fits (z +ℤ x)) (reverse_kept value n s.residuals once c.args.from c.args.to (neg_ℤ x) s.stored.residuals_square p.0 p.1 c.requires.apart c.lower-2.ensures) c.requires.residual_back;
    }

pub returns : goal.returns
returns g c =
    let s = c.args.self.now in
    flow_raised g.C.Number.value s.residuals s.flows s.source s.sink (g.C.Number.value s.total) s.details s.stored c.args.from c.args.to c.requires.room (g.C.Number.value c.args.amount)
    c.raise.new.table c.lower.new.table c.lower-2.new.table c.raise-2.new.table c.raise.ensures c.lower.ensures c.lower-2.ensures c.raise-2.ensures

pub invariant_of-self : goal.invariant_of-self
invariant_of-self g c =
    let s = c.args.self.now in
    let n = s.residuals.rows in
    let value = g.C.Number.value in
    let from = c.args.from in
    let to = c.args.to in
    let x = value c.args.amount in
    record {
      stored = tables_kept s.source s.sink s.residuals s.flows c.raise-2.new.table c.lower.new.table s.stored
          (square_changed value n c.lower-2.new.table c.raise-2.new.table to from x (square_changed value n s.residuals c.lower-2.new.table from to (neg_ℤ x) s.stored.residuals_square c.lower-2.ensures) c.raise-2.ensures)
          (square_changed value n c.raise.new.table c.lower.new.table to from (neg_ℤ x) (square_changed value n s.flows c.raise.new.table from to x s.stored.flows_square c.raise.ensures) c.lower.ensures);
      opposite = opposite_carried (table_number value n s.flows) from to x s.opposite
          (flow_raised value s.residuals s.flows s.source s.sink (value s.total) s.details s.stored from to c.requires.room x c.raise.new.table c.lower.new.table c.lower-2.new.table c.raise-2.new.table
          c.raise.ensures c.lower.ensures c.lower-2.ensures c.raise-2.ensures).flow;
      summed = λ z e. absurd (none-some z e);
    }
