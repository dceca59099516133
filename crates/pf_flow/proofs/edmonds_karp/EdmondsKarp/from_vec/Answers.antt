use Rattle.std.proofs.Common.{◌≡◌, ◌∙◌, ◌*◌, ℕ, IfErr, IfOk, List, ap, arith, inl, length, subst, sym}
use Rattle.std.proofs.lemmas.Result.{IfOk-from_err}
use Rattle.pf_base.proofs.Outcomes.{refused_as}
use Rattle.pf_residual.specs.Capacities.{square_table, AreRefused}
use Rattle.pf_residual.specs.Networks.{HasCapacities, IsFresh}
use Rattle.pf_residual.proofs.FillLemmas.{err_at_root, ok_at_root}
use Rattle.pf_flow.proofs.edmonds_karp.EdmondsKarp.from_vec.Goals as goal

pub returns-clause-fresh : goal.returns-clause-fresh
returns-clause-fresh g c =
    let values = g.V.IntoVec.values c.args.capacities in
    let table = c.in-Ok.square in
    let same : table.values ≡ values = c.in-Ok.ensures.values ∙ c.in_ok-into_vec.ensures.values in
    let side : table.rows * table.rows ≡ length values = ap (λ (n : ℕ). table.rows * n) c.in-Ok.ensures.square ∙ sym c.in-Ok.ensures.matrix.sized ∙ ap length same in
    ok_at_root (λ size s. IsFresh size c.args.source c.args.sink (g.Self.FlowStore.network s)) c.from_matrix.result table.rows (length values) side c.from_matrix.ensures.fresh

pub returns-clause-capacities : goal.returns-clause-capacities
returns-clause-capacities g c =
    let values = g.V.IntoVec.values c.args.capacities in
    let table = c.in-Ok.square in
    let same : table.values ≡ values = c.in-Ok.ensures.values ∙ c.in_ok-into_vec.ensures.values in
    let side : table.rows * table.rows ≡ length values = ap (λ (n : ℕ). table.rows * n) c.in-Ok.ensures.square ∙ sym c.in-Ok.ensures.matrix.sized ∙ ap length same in
    let value = g.C.Number.value in
    ok_at_root (λ size s. HasCapacities (square_table value size values) (g.Self.FlowStore.network s)) c.from_matrix.result table.rows (length values) side
    (subst (λ (xs : List g.row.C.Denot). IfOk c.from_matrix.result (λ s. HasCapacities (square_table value table.rows xs) (g.Self.FlowStore.network s))) same c.from_matrix.ensures.capacities)

pub returns-clause-refused : goal.returns-clause-refused
returns-clause-refused g c =
    let values = g.V.IntoVec.values c.args.capacities in
    let table = c.in-Ok.square in
    let same : table.values ≡ values = c.in-Ok.ensures.values ∙ c.in_ok-into_vec.ensures.values in
    let side : table.rows * table.rows ≡ length values = ap (λ (n : ℕ). table.rows * n) c.in-Ok.ensures.square ∙ sym c.in-Ok.ensures.matrix.sized ∙ ap length same in
    let value = g.C.Number.value in
    let fits = g.C.Number.fits in
    err_at_root (λ size e. AreRefused fits size (square_table value size values) e) c.from_matrix.result table.rows (length values) side
    (subst (λ (xs : List g.row.C.Denot). IfErr c.from_matrix.result (AreRefused fits table.rows (square_table value table.rows xs))) same c.from_matrix.ensures.refused)

pub returns-in_err-into_vec-clause-fresh : goal.returns-in_err-into_vec-clause-fresh
returns-in_err-into_vec-clause-fresh g c = IfOk-from_err _ _ c.from_residual.ensures.0

pub returns-in_err-into_vec-clause-capacities : goal.returns-in_err-into_vec-clause-capacities
returns-in_err-into_vec-clause-capacities g c = IfOk-from_err _ _ c.from_residual.ensures.0

pub returns-in_err-into_vec-clause-network : goal.returns-in_err-into_vec-clause-network
returns-in_err-into_vec-clause-network g c = IfOk-from_err _ _ c.from_residual.ensures.0

pub returns-in_err-into_vec-clause-refused : goal.returns-in_err-into_vec-clause-refused
returns-in_err-into_vec-clause-refused g c = refused_as _ c.from_residual.result _ c.from_residual.ensures.1 (λ size e. inl c.in_err-into_vec.ensures.refused)

pub unreachable-requires : goal.unreachable-requires
unreachable-requires g c =
    let n = ap length c.in_ok-into_vec.ensures.values in
    c.in_default.ensures.wrong_length c.requires.square.0 (omega (arith, n, c.requires.square.1, c.in_ok-into_vec.field-0.ok.0))

pub from_matrix-requires-clause-square : goal.from_matrix-requires-clause-square
from_matrix-requires-clause-square g c = c.in-Ok.ensures.square

pub from_matrix-requires-clause-source : goal.from_matrix-requires-clause-source
from_matrix-requires-clause-source g c =
    let table = c.in-Ok.square in
    let same : table.values ≡ g.V.IntoVec.values c.args.capacities = c.in-Ok.ensures.values ∙ c.in_ok-into_vec.ensures.values in
    c.requires.source table.rows (ap (λ (n : ℕ). table.rows * n) c.in-Ok.ensures.square ∙ sym c.in-Ok.ensures.matrix.sized ∙ ap length same)

pub from_matrix-requires-clause-sink : goal.from_matrix-requires-clause-sink
from_matrix-requires-clause-sink g c =
    let table = c.in-Ok.square in
    let same : table.values ≡ g.V.IntoVec.values c.args.capacities = c.in-Ok.ensures.values ∙ c.in_ok-into_vec.ensures.values in
    c.requires.sink table.rows (ap (λ (n : ℕ). table.rows * n) c.in-Ok.ensures.square ∙ sym c.in-Ok.ensures.matrix.sized ∙ ap length same)

pub returns-clause-network : goal.returns-clause-network
returns-clause-network g c = c.from_matrix.ensures.network
