use Rattle.std.proofs.Common.{◌≡◌, ◌+ℤ◌}
use Rattle.pf_base.specs.Sums.{sum_to}
use Rattle.pf_residual.proofs.sums.add_row.Given as goal

abbrev pub invariant-ends : goal.invariant-ends
invariant-ends g l = g.C.Number.value l.sum ≡ g.C.Number.value l.fn.before +ℤ sum_to ((g.S.FlowStore.network l.store).residual l.from) l.to
