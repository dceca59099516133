use Rattle.std.proofs.lemmas.Option.{none-some}
use Rattle.pf_residual.proofs.DenseLemmas.{residual_raised, square_changed, tables_kept}
use Rattle.pf_residual.proofs.OppositeLemmas.{opposite_same}
use Rattle.pf_flow.proofs.dense_capacity.DenseCapacityFlowStore.add_residual_capacity.Goals as goal

pub returns : goal.returns
returns g c =
    let s = c.args.self.now in
    residual_raised g.C.Number.value s.residuals s.flows s.source s.sink (g.C.Number.value s.total) s.details s.stored c.args.from c.args.to c.requires.room (g.C.Number.value c.args.amount)
    c.raise.new.table c.raise.ensures

pub invariant_of-self : goal.invariant_of-self
invariant_of-self g c =
    let s = c.args.self.now in
    let value = g.C.Number.value in
    let x = value c.args.amount in
    record {
      stored = tables_kept s.source s.sink s.residuals s.flows c.raise.new.table s.flows s.stored
          (square_changed value s.residuals.rows s.residuals c.raise.new.table c.args.from c.args.to x s.stored.residuals_square c.raise.ensures)
          s.stored.flows_square;
      opposite = opposite_same s.opposite
          (residual_raised value s.residuals s.flows s.source s.sink (value s.total) s.details s.stored c.args.from c.args.to c.requires.room x c.raise.new.table c.raise.ensures).flow;
      summed = λ z e. absurd (none-some z e);
    }
