use Rattle.std.proofs.Common.{◌≡◌, ◌∙◌, ◌<◌, ◌*◌, ◌^◌, ℕ, true, ap, inl, refl, sym, subst}
use Rattle.std.proofs.lemmas.Option.{same_Some}
use Rattle.std.proofs.lemmas.Result.{IfOk-from_err}
use Rattle.pf_matrix.specs.Tables.{Table}
use Rattle.pf_residual.specs.Capacities.{square_table, AreRefused}
use Rattle.pf_residual.specs.DenseStores.{tables_network}
use Rattle.pf_residual.specs.Internal.DenseTables.{IsSquare, IsZeroTable}
use Rattle.pf_residual.specs.Networks.{HasCapacities, IsFresh}
use Rattle.pf_residual.proofs.DenseLemmas.{zero_tables, zero_fresh}
use Rattle.pf_residual.proofs.FillLemmas.{network_of_unused}
use Rattle.pf_base.proofs.Outcomes.{refused_as}
use Rattle.pf_residual.proofs.OppositeLemmas.{opposite_none}
use Rattle.pf_residual.proofs.SquareSums.{taken_capacities, taken_sum, taken_unused}
use Rattle.pf_flow.proofs.dense_capacity.DenseCapacityEdmondsKarp.from_matrix.Goals as goal

pub sum_of_square-requires : goal.sum_of_square-requires
sum_of_square-requires g c = subst (λ (t : Table g.row.C.Denot). t.rows ≡ t.columns) (sym c.in_ok-residuals.ensures.matrix) c.requires.square

pub returns-clause-fresh : goal.returns-clause-fresh
returns-clause-fresh g c =
    let value = g.C.Number.value in
    let m = c.in_ok-residuals.residuals in
    let flows = c.in_ok-flows.flows in
    let square = subst (λ (t : Table g.row.C.Denot). t.rows ≡ t.columns) (sym c.in_ok-residuals.ensures.matrix) c.requires.square in
    let first : IsSquare m.rows m = record { rows = refl; columns = sym square; matrix = c.rows.ensures.matrix } in
    let second = subst (λ n. IsSquare n flows) c.rows.ensures.rows c.in_ok-flows.ensures.square in
    let nought = subst (λ n. IsZeroTable value n flows) c.rows.ensures.rows c.in_ok-flows.ensures.zero in
    let none = ap value c.zero.ensures ∙ g.met.C.Zero.zero_law g.met.C.Integral.exact_law in
    subst (λ (t : Table g.row.C.Denot). IsFresh t.rows c.args.source c.args.sink (tables_network value m flows c.args.source c.args.sink (value c.zero.result) true)) c.in_ok-residuals.ensures.matrix
    (zero_fresh value m flows m.rows c.args.source c.args.sink first second (value c.zero.result) nought none)

pub returns-clause-capacities : goal.returns-clause-capacities
returns-clause-capacities g c =
    let value = g.C.Number.value in
    let m = c.in_ok-residuals.residuals in
    let flows = c.in_ok-flows.flows in
    let square = subst (λ (t : Table g.row.C.Denot). t.rows ≡ t.columns) (sym c.in_ok-residuals.ensures.matrix) c.requires.square in
    let first : IsSquare m.rows m = record { rows = refl; columns = sym square; matrix = c.rows.ensures.matrix } in
    let nought = subst (λ n. IsZeroTable value n flows) c.rows.ensures.rows c.in_ok-flows.ensures.zero in
    subst (λ (t : Table g.row.C.Denot). HasCapacities (square_table value t.rows t.values) (tables_network value m flows c.args.source c.args.sink (value c.zero.result) true)) c.in_ok-residuals.ensures.matrix
    (taken_capacities value m flows c.args.source c.args.sink first nought (value c.zero.result))

pub returns-clause-network : goal.returns-clause-network
returns-clause-network g c =
    let value = g.C.Number.value in
    let m = c.in_ok-residuals.residuals in
    let flows = c.in_ok-flows.flows in
    let square = subst (λ (t : Table g.row.C.Denot). t.rows ≡ t.columns) (sym c.in_ok-residuals.ensures.matrix) c.requires.square in
    let first : IsSquare m.rows m = record { rows = refl; columns = sym square; matrix = c.rows.ensures.matrix } in
    let nought = subst (λ n. IsZeroTable value n flows) c.rows.ensures.rows c.in_ok-flows.ensures.zero in
    let none = ap value c.zero.ensures ∙ g.met.C.Zero.zero_law g.met.C.Integral.exact_law in
    network_of_unused (taken_unused value m flows c.args.source c.args.sink first nought (value c.zero.result) none c.in_ok-sum.ensures.above c.in_ok-sum.ensures.fits)

pub invariant_of-result : goal.invariant_of-result
invariant_of-result g c =
    let value = g.C.Number.value in
    let m = c.in_ok-residuals.residuals in
    let flows = c.in_ok-flows.flows in
    let square = subst (λ (t : Table g.row.C.Denot). t.rows ≡ t.columns) (sym c.in_ok-residuals.ensures.matrix) c.requires.square in
    let first : IsSquare m.rows m = record { rows = refl; columns = sym square; matrix = c.rows.ensures.matrix } in
    let second = subst (λ n. IsSquare n flows) c.rows.ensures.rows c.in_ok-flows.ensures.square in
    let nought = subst (λ n. IsZeroTable value n flows) c.rows.ensures.rows c.in_ok-flows.ensures.zero in
    let from_in = subst (λ (t : Table g.row.C.Denot). c.args.source < t.rows) (sym c.in_ok-residuals.ensures.matrix) c.requires.source in
    let to_in = subst (λ (t : Table g.row.C.Denot). c.args.sink < t.rows) (sym c.in_ok-residuals.ensures.matrix) c.requires.sink in
    record {
      stored = zero_tables value m flows m.rows c.args.source c.args.sink first second from_in to_in;
      opposite = opposite_none _ nought.at;
      summed = λ z e. ap value (sym (same_Some _ z e)) ∙ c.in_ok-sum.ensures.sum ∙ sym (taken_sum value m flows c.args.source c.args.sink first nought);
    }

pub returns-in_err-residuals-clause-refused : goal.returns-in_err-residuals-clause-refused
returns-in_err-residuals-clause-refused g c =
    let table = g.M.IntoMatrix.table c.args.capacities in
    let why : AreRefused g.C.Number.fits table.rows (square_table g.C.Number.value table.rows table.values) c.in_err-residuals.field-0.0 = inl c.in_err-residuals.ensures.refused in
    refused_as _ c.from_residual.result _ c.from_residual.ensures.1 why

pub returns-in_err-sum-clause-refused : goal.returns-in_err-sum-clause-refused
returns-in_err-sum-clause-refused g c =
    let table = g.M.IntoMatrix.table c.args.capacities in
    let why : AreRefused g.C.Number.fits table.rows (square_table g.C.Number.value table.rows table.values) c.in_err-sum.field-0.0 =
    subst (λ (t : Table g.row.C.Denot). AreRefused g.C.Number.fits t.rows (square_table g.C.Number.value t.rows t.values) c.in_err-sum.field-0.0) c.in_ok-residuals.ensures.matrix c.in_err-sum.ensures.refused in
    refused_as _ c.from_residual-in_err-sum.result _ c.from_residual-in_err-sum.ensures.1 why

pub returns-in_err-flows-clause-refused : goal.returns-in_err-flows-clause-refused
returns-in_err-flows-clause-refused g c =
    let table = g.M.IntoMatrix.table c.args.capacities in
    let why : AreRefused g.C.Number.fits table.rows (square_table g.C.Number.value table.rows table.values) c.in_err-flows.field-0.0 = inl c.in_err-flows.ensures.refused in
    refused_as _ c.from_residual-in_err-flows.result _ c.from_residual-in_err-flows.ensures.1 why

pub returns-in_err-residuals-clause-fresh : goal.returns-in_err-residuals-clause-fresh
returns-in_err-residuals-clause-fresh g c = IfOk-from_err _ _ c.from_residual.ensures.0

pub returns-in_err-residuals-clause-capacities : goal.returns-in_err-residuals-clause-capacities
returns-in_err-residuals-clause-capacities g c = IfOk-from_err _ _ c.from_residual.ensures.0

pub returns-in_err-residuals-clause-network : goal.returns-in_err-residuals-clause-network
returns-in_err-residuals-clause-network g c = IfOk-from_err _ _ c.from_residual.ensures.0

pub returns-in_err-sum-clause-fresh : goal.returns-in_err-sum-clause-fresh
returns-in_err-sum-clause-fresh g c = IfOk-from_err _ _ c.from_residual-in_err-sum.ensures.0

pub returns-in_err-sum-clause-capacities : goal.returns-in_err-sum-clause-capacities
returns-in_err-sum-clause-capacities g c = IfOk-from_err _ _ c.from_residual-in_err-sum.ensures.0

pub returns-in_err-sum-clause-network : goal.returns-in_err-sum-clause-network
returns-in_err-sum-clause-network g c = IfOk-from_err _ _ c.from_residual-in_err-sum.ensures.0

pub returns-in_err-flows-clause-fresh : goal.returns-in_err-flows-clause-fresh
returns-in_err-flows-clause-fresh g c = IfOk-from_err _ _ c.from_residual-in_err-flows.ensures.0

pub returns-in_err-flows-clause-capacities : goal.returns-in_err-flows-clause-capacities
returns-in_err-flows-clause-capacities g c = IfOk-from_err _ _ c.from_residual-in_err-flows.ensures.0

pub returns-in_err-flows-clause-network : goal.returns-in_err-flows-clause-network
returns-in_err-flows-clause-network g c = IfOk-from_err _ _ c.from_residual-in_err-flows.ensures.0

pub zero_table-requires : goal.zero_table-requires
zero_table-requires g c =
    let m = c.in_ok-residuals.residuals in
    let square = subst (λ (t : Table g.row.C.Denot). t.rows ≡ t.columns) (sym c.in_ok-residuals.ensures.matrix) c.requires.square in
    subst (λ (n : ℕ). n * n < 2 ^ 64) (sym c.rows.ensures.rows) (subst (λ (n : ℕ). m.rows * n < 2 ^ 64) (sym square) c.rows.ensures.matrix.fits)
