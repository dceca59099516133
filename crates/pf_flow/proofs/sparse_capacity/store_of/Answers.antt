use Rattle.std.proofs.Common.{◌∙◌, ap, refl, length}
use Rattle.std.proofs.lemmas.Option.{none-some}
use Rattle.pf_residual.specs.SparseRows.{amount_to}
use Rattle.pf_residual.specs.SparseStores.{rows_flow}
use Rattle.pf_residual.proofs.OppositeLemmas.{opposite_none}
use Rattle.pf_residual.proofs.NetworkLemmas.{network_of_fresh}
use Rattle.pf_residual.proofs.SparseStoreLemmas.{empty_rows, empty_fresh, empty_capacities}
use Rattle.pf_flow.proofs.sparse_capacity.store_of.Goals as goal

pub invariant_of-result : goal.invariant_of-result
invariant_of-result g c =
    let rows = c.args.rows.items in
    let empty = c.requires.empty in
    record {
      stored = empty_rows c.args.source c.args.sink rows empty c.requires.source c.requires.sink;
      opposite = opposite_none (rows_flow g.C.Number.value rows) (λ a b. ap (λ r. amount_to (λ e. g.C.Number.value e.flow) r b) (empty.at a));
      summed = λ z e. absurd (none-some z e);
    }

pub returns : goal.returns
returns g c =
    let value = g.C.Number.value in
    let exact = g.met.C.Integral.exact_law in
    let nought = ap value c.zero.ensures ∙ g.met.C.Zero.zero_law exact in
    let rows = c.args.rows.items in
    let empty = c.requires.empty in
    let fresh = empty_fresh value rows (length rows) c.args.source c.args.sink (value c.zero.result) empty refl nought in
    let capacities = empty_capacities value rows c.args.source c.args.sink (value c.zero.result) empty in
    record {
      fresh = fresh;
      capacities = capacities;
      network = network_of_fresh (g.met.C.Zero.zero_fits_law exact) fresh capacities;
    }
