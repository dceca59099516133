use Rattle.std.proofs.Common.{subst, sym, ℕ, ◌<◌}
use Rattle.pf_yen.specs.Internal.Adjacency.{row_of}
use Rattle.pf_yen.proofs.NamedLemmas.{row_step}
use Rattle.pf_yen.proofs.named.step_on.Goals as goal

pub rest_behind-requires : goal.rest_behind-requires
rest_behind-requires g c =
    let item = c.steps-item.result in
    let k = c.args.filtered.now.adjacency.now in
    subst (λ (n : ℕ). item.0 < n) (sym c.requires.wide) (c.requires.whole.inside c.args.number item.0 item.1 (row_step k c.args.number c.row-next-items.result.now c.steps.next-index item c.steps.invariant c.steps-test.true c.steps-item.is))

pub returns-in-Some : goal.returns-in-Some
returns-in-Some g c =
    let item = c.steps-item.result in
    let k = c.args.filtered.now.adjacency.now in
    let e = rw c.in-Some.is at c.rest_behind.ensures in
    e (row_of k c.args.number) (row_step k c.args.number c.row-next-items.result.now c.steps.next-index item c.steps.invariant c.steps-test.true c.steps-item.is)
