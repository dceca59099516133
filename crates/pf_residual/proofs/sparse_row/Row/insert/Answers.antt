use Rattle.std.proofs.Common.{◌∙◌, ap}
use Rattle.std.specs.List.{insert}
use Rattle.pf_residual.specs.SparseRows.{ends}
use Rattle.pf_residual.specs.Internal.RowChanges.{place_of}
use Rattle.pf_residual.specs.declared.sparse_row.Edge.{Edge}
use Rattle.pf_residual.proofs.SparseRowLemmas.{insert_is}
use Rattle.pf_residual.proofs.sparse_row.Row.insert.Goals as goal

pub returns-clause-ok : goal.returns-clause-ok
returns-clause-ok g c =
    let same = c.as_slice.ensures.value ∙ c.self.view_is in
    let edge : Edge g.row.C.Denot = record { to = c.args.to; residual = g.C.Zero.zero; flow = g.C.Zero.zero } in
    let at = c.place-place.ensures.place ∙ ap (λ r. place_of (ends r) c.args.to) same in
    c.in_ok-insert.ensures.items ∙ ap (λ r. insert r c.place-place.result (record { to = c.args.to; residual = c.zero-nothing.result; flow = c.zero-nothing.result })) c.self.view_is
    ∙ ap (λ z. insert c.args.self.now c.place-place.result (record { to = c.args.to; residual = z; flow = z })) c.zero-nothing.ensures
    ∙ ap (λ p. insert c.args.self.now p edge) at ∙ insert_is c.args.self.now edge
