use Rattle.std.proofs.Common.{◌∙◌, ap}
use Rattle.std.specs.List.{remove}
use Rattle.pf_residual.specs.SparseRows.{ends}
use Rattle.pf_residual.specs.Internal.RowChanges.{place_of}
use Rattle.pf_residual.proofs.SparseRowLemmas.{remove_is}
use Rattle.pf_residual.proofs.sparse_row.Row.remove.Goals as goal

pub returns-in-Some : goal.returns-in-Some
returns-in-Some g c =
    let same = c.as_slice.ensures.value ∙ c.self.view_is in
    let at = c.in-Some.ensures.place ∙ ap (λ r. place_of (ends r) c.args.to) same in
    c.remove.ensures.items ∙ ap (λ r. remove r c.in-Some.place) c.self.view_is ∙ ap (λ p. remove c.args.self.now p) at ∙ remove_is 0 c.args.self.now c.args.to c.requires.rises c.requires.edge
