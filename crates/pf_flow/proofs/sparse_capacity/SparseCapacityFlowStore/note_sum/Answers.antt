use Rattle.std.proofs.Common.{◌∙◌, ap, sym}
use Rattle.std.proofs.lemmas.Option.{same_Some}
use Rattle.pf_residual.specs.SparseStores.{rows_network}
use Rattle.pf_residual.proofs.AgreeLemmas.{agrees_itself}
use Rattle.pf_flow.proofs.sparse_capacity.SparseCapacityFlowStore.note_sum.Goals as goal

pub invariant_of-self : goal.invariant_of-self
invariant_of-self g c = record {
  stored = c.args.self.now.stored;
  opposite = c.args.self.now.opposite;
  summed = λ z e. ap g.C.Number.value (sym (same_Some _ z e)) ∙ c.requires;
}

pub returns : goal.returns
returns g c =
    let s = c.args.self.now in
    agrees_itself (rows_network g.C.Number.value s.rows.items s.source s.sink (g.C.Number.value s.total) s.details)
