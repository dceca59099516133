use Rattle.std.proofs.Common.{◌≡◌, ◌∙◌, arith, ap}
use Rattle.pf_base.specs.Sums.{sum_to}
use Rattle.pf_residual.proofs.ChangeSums.{residual_sum}
use Rattle.pf_residual.proofs.NetworkLemmas.{balanced_of}
use Rattle.pf_residual.proofs.sums.sum_of_capacities.Goals as goal

pub returns : goal.returns
returns g c =
    let N = g.S.FlowStore.network c.args.store.now in
    let all : c.rows.from ≡ N.vertices = omega (arith, c.size-from-end.ensures, c.rows-test.false, c.rows.auto.from-end) in
    c.rows.invariant ∙ ap (sum_to (λ a. sum_to (N.residual a) N.vertices)) all ∙ residual_sum (balanced_of c.requires)
