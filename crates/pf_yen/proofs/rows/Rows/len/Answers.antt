use Rattle.std.proofs.Common.{◌≡◌, ap, arith, length, List, ℕ}
use Rattle.pf_yen.specs.Internal.Rows.{rows_from}
use Rattle.pf_yen.proofs.RowLemmas.{row_count}
use Rattle.pf_yen.proofs.rows.Rows.len.Goals as goal

pub returns : goal.returns
returns g c =
    let s = c.self.inside in
    let n = row_count s.ends.items 0 s.steps.items in
    let v : length (rows_from 0 s.ends.items s.steps.items) ≡ length c.args.self.now = ap (λ (rows : List (List (ℕ × g.row.C.Denot))). length rows) c.self.view_is in
    omega (arith, c.len.ensures, n, v)
