use Rattle.std.proofs.Common.{◌≡◌, ◌∙◌, sym, ap, subst, ◌<◌, slice_index_or, length, false}
use Rattle.pf_residual.specs.Internal.SparseLaws.{amount_none}
use Rattle.pf_residual.specs.SparseRows.{ends, has_end}
use Rattle.pf_residual.proofs.SparseRowLemmas.{amount_read}
use Rattle.pf_residual.proofs.sparse_row.Row.residual.Goals as goal

pub returns-in-Some : goal.returns-in-Some
returns-in-Some g c =
    let row = c.args.self.now in
    let same = c.as_slice.ensures.value ∙ c.self.view_is in
    let bound = subst (λ r. c.in-Some.place < length r) same c.in-Some.ensures.bound in
    let leads = subst (λ r. (slice_index_or r c.in-Some.place c.index.result.now).to ≡ c.args.to) same (c.in-Some.ensures.leads c.index.result.now) in
    let here = c.index.ensures ∙ ap (λ r. slice_index_or r c.in-Some.place c.index.result.now) c.self.view_is in
    sym (amount_read (λ e. g.C.Number.value e.residual) row c.args.to c.in-Some.place c.index.result.now c.requires bound here leads)

pub returns-in-None : goal.returns-in-None
returns-in-None g c =
    let same = c.as_slice.ensures.value ∙ c.self.view_is in
    let none = subst (λ r. has_end (ends r) c.args.to ≡ false) same c.in-None.ensures.none in
    let zero = ap g.C.Number.value c.zero.ensures ∙ g.met.C.Zero.zero_law g.met.C.Integral.exact_law in
    zero ∙ sym (amount_none (λ e. g.C.Number.value e.residual) c.args.self.now c.args.to none)
