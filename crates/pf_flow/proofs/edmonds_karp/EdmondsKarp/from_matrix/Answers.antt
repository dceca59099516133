use Rattle.std.proofs.Common.{◌≡◌, ◌∙◌, ◌<◌, ◌*◌, ℕ, List, inl, ap, length, subst, sym}
use Rattle.pf_matrix.specs.Tables.{Table}
use Rattle.pf_residual.specs.Capacities.{square_table, AreRefused}
use Rattle.pf_residual.specs.Networks.{HasCapacities, IsFresh}
use Rattle.pf_residual.proofs.FillLemmas.{fresh_kept, network_of_unused, unused_of_fresh}
use Rattle.pf_base.proofs.Outcomes.{refused_as}
use Rattle.pf_flow.proofs.edmonds_karp.EdmondsKarp.from_matrix.Goals as goal

pub new-requires-clause-source : goal.new-requires-clause-source
new-requires-clause-source g c =
    let inside = subst (λ (t : Table g.row.C.Denot). c.args.source < t.rows) (sym c.in_ok-capacities.ensures.matrix) c.requires.source in
    subst (λ n. c.args.source < n) (sym c.rows.ensures.rows) inside

pub new-requires-clause-sink : goal.new-requires-clause-sink
new-requires-clause-sink g c =
    let inside = subst (λ (t : Table g.row.C.Denot). c.args.sink < t.rows) (sym c.in_ok-capacities.ensures.matrix) c.requires.sink in
    subst (λ n. c.args.sink < n) (sym c.rows.ensures.rows) inside

pub fill-requires-clause-unused : goal.fill-requires-clause-unused
fill-requires-clause-unused g c = unused_of_fresh c.in_ok-store.ensures.fresh c.in_ok-store.ensures.network

pub fill-requires-clause-none : goal.fill-requires-clause-none
fill-requires-clause-none g c = c.in_ok-store.ensures.capacities

pub fill-requires-clause-square : goal.fill-requires-clause-square
fill-requires-clause-square g c =
    let table = c.in_ok-capacities.capacities in
    let square = subst (λ (t : Table g.row.C.Denot). t.rows ≡ t.columns) (sym c.in_ok-capacities.ensures.matrix) c.requires.square in
    let size = c.in_ok-store.ensures.fresh.vertices ∙ c.rows.ensures.rows in
    ap length c.as_slice.ensures.values ∙ c.rows.ensures.matrix.sized ∙ ap (λ (n : ℕ). table.rows * n) (sym square) ∙ ap (λ (n : ℕ). n * n) (sym size)

pub returns-clause-fresh : goal.returns-clause-fresh
returns-clause-fresh g c =
    let M = g.Self.FlowStore.network c.fill.new.store in
    subst (λ (t : Table g.row.C.Denot). IsFresh t.rows c.args.source c.args.sink M) c.in_ok-capacities.ensures.matrix
    (subst (λ (n : ℕ). IsFresh n c.args.source c.args.sink M) c.rows.ensures.rows (fresh_kept c.in_ok-fill.ensures.unused c.in_ok-store.ensures.fresh c.in_ok-fill.ensures.shape))

pub returns-clause-capacities : goal.returns-clause-capacities
returns-clause-capacities g c =
    let N = g.Self.FlowStore.network c.in_ok-store.store in
    let M = g.Self.FlowStore.network c.fill.new.store in
    let value = g.C.Number.value in
    let size = c.in_ok-store.ensures.fresh.vertices ∙ c.rows.ensures.rows in
    subst (λ (t : Table g.row.C.Denot). HasCapacities (square_table value t.rows t.values) M) c.in_ok-capacities.ensures.matrix
    (subst (λ (n : ℕ). HasCapacities (square_table value n c.in_ok-capacities.capacities.values) M) size
    (subst (λ (xs : List g.row.C.Denot). HasCapacities (square_table value N.vertices xs) M) c.as_slice.ensures.values c.in_ok-fill.ensures.capacities))

pub returns-clause-network : goal.returns-clause-network
returns-clause-network g c = network_of_unused c.in_ok-fill.ensures.unused

pub returns-in_err-capacities-clause-refused : goal.returns-in_err-capacities-clause-refused
returns-in_err-capacities-clause-refused g c =
    let table = g.M.IntoMatrix.table c.args.capacities in
    let why : AreRefused g.C.Number.fits table.rows (square_table g.C.Number.value table.rows table.values) c.in_err-capacities.field-0.0 = inl c.in_err-capacities.ensures.refused in
    refused_as _ c.from_residual.result _ c.from_residual.ensures.1 why

pub returns-in_err-store-clause-refused : goal.returns-in_err-store-clause-refused
returns-in_err-store-clause-refused g c =
    let table = g.M.IntoMatrix.table c.args.capacities in
    let why : AreRefused g.C.Number.fits table.rows (square_table g.C.Number.value table.rows table.values) c.in_err-store.field-0.0 = inl c.in_err-store.ensures.refused in
    refused_as _ c.from_residual-in_err-store.result _ c.from_residual-in_err-store.ensures.1 why

pub returns-in_err-fill-clause-refused : goal.returns-in_err-fill-clause-refused
returns-in_err-fill-clause-refused g c =
    let N = g.Self.FlowStore.network c.in_ok-store.store in
    let value = g.C.Number.value in
    let fits = g.C.Number.fits in
    let table = g.M.IntoMatrix.table c.args.capacities in
    let e = c.in_err-fill.field-0.0 in
    let size = c.in_ok-store.ensures.fresh.vertices ∙ c.rows.ensures.rows in
    let why : AreRefused fits table.rows (square_table value table.rows table.values) e = subst (λ (t : Table g.row.C.Denot). AreRefused fits t.rows (square_table value t.rows t.values) e) c.in_ok-capacities.ensures.matrix
    (subst (λ (n : ℕ). AreRefused fits n (square_table value n c.in_ok-capacities.capacities.values) e) size
    (subst (λ (xs : List g.row.C.Denot). AreRefused fits N.vertices (square_table value N.vertices xs) e) c.as_slice.ensures.values c.in_err-fill.ensures.refused)) in
    refused_as _ c.from_residual-in_err-fill.result _ c.from_residual-in_err-fill.ensures.1 why
