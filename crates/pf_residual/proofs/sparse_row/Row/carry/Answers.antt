use Rattle.std.proofs.Common.{◌≡◌, refl, ◌∙◌, sym, ap, subst, ◌<◌, ◌+ℤ◌, ◌-ℤ◌, neg_ℤ, arith, slice_index_or, slice_set, length}
use Rattle.std.proofs.lemmas.Int.{ints}
use Rattle.pf_residual.specs.Internal.RowChanges.{IsRowChanged}
use Rattle.pf_residual.specs.declared.sparse_row.Edge.{Edge}
use Rattle.pf_residual.proofs.SparseRowLemmas.{row_changed, amount_read}
use Rattle.pf_residual.proofs.sparse_row.Row.carry.Goals as goal

pub minus-requires : goal.minus-requires
minus-requires g c =
    let row = c.args.self.now in
    let same = c.as_slice.ensures.value ∙ c.self.view_is in
    let bound = subst (λ r. c.in-Some.place < length r) same c.in-Some.ensures.bound in
    let leads = subst (λ r. (slice_index_or r c.in-Some.place c.index.result.now).to ≡ c.args.to) same (c.in-Some.ensures.leads c.index.result.now) in
    let here = c.index.ensures ∙ ap (λ r. slice_index_or r c.in-Some.place c.index.result.now) c.self.view_is in
    subst (λ z. g.C.Number.fits (z -ℤ g.C.Number.value c.args.amount)) (amount_read (λ e. g.C.Number.value e.residual) row c.args.to c.in-Some.place c.index.result.now c.requires.rises bound here leads) c.requires.residual

pub plus-requires : goal.plus-requires
plus-requires g c =
    let row = c.args.self.now in
    let same = c.as_slice.ensures.value ∙ c.self.view_is in
    let bound = subst (λ r. c.in-Some.place < length r) same c.in-Some.ensures.bound in
    let leads = subst (λ r. (slice_index_or r c.in-Some.place c.index.result.now).to ≡ c.args.to) same (c.in-Some.ensures.leads c.index.result.now) in
    let here = c.index.ensures ∙ ap (λ r. slice_index_or r c.in-Some.place c.index.result.now) c.self.view_is in
    subst (λ z. g.C.Number.fits (z +ℤ g.C.Number.value c.args.amount)) (amount_read (λ e. g.C.Number.value e.flow) row c.args.to c.in-Some.place c.index.result.now c.requires.rises bound here leads) c.requires.flow

pub returns : goal.returns
returns g c =
    let row = c.args.self.now in
    let same = c.as_slice.ensures.value ∙ c.self.view_is in
    let bound = subst (λ r. c.in-Some.place < length r) same c.in-Some.ensures.bound in
    let leads = subst (λ r. (slice_index_or r c.in-Some.place c.index.result.now).to ≡ c.args.to) same (c.in-Some.ensures.leads c.index.result.now) in
    let here = c.index.ensures ∙ ap (λ r. slice_index_or r c.in-Some.place c.index.result.now) c.self.view_is in
    let edge : Edge g.row.C.Denot = record { to = c.args.to; residual = c.minus.result; flow = c.plus.result } in
    subst (λ r. IsRowChanged g.C.Number.value c.args.to (neg_ℤ (g.C.Number.value c.args.amount)) (g.C.Number.value c.args.amount) row (slice_set r c.in-Some.place edge)) (sym c.self.view_is)
    (row_changed g.C.Number.value row c.args.to c.in-Some.place c.index.result.now edge (neg_ℤ (g.C.Number.value c.args.amount)) (g.C.Number.value c.args.amount) c.requires.rises bound here leads refl (omega (arith, ints, c.minus.ensures)) (c.plus.ensures))
