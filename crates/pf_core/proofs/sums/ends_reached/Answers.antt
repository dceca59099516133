use Rattle.std.proofs.Common.{◌∙◌, sym}
use Rattle.pf_core.proofs.SumLemmas.{looked_more, left_open, looked_all}
use Rattle.pf_core.proofs.sums.ends_reached.Goals as goal

pub returns-in-None : goal.returns-in-None
returns-in-None g c =
    left_open g.C.Number.value g.C.Number.fits c.args.labels.now c.args.row.now (g.C.Number.value c.args.cost) c.requires c.steps.next-index c.steps-item.result c.steps-item.is c.steps-test.true c.steps.last c.steps.invariant
    c.is_reached_by-is_reached.result c.is_reached_by-is_reached.ensures (sym c.joined.ensures ∙ c.in-None.is)

pub steps-preserved : goal.steps-preserved
steps-preserved g c =
    looked_more g.C.Number.value g.C.Number.fits c.args.labels.now c.args.row.now (g.C.Number.value c.args.cost) c.requires c.steps.next-index c.steps-item.result c.steps-item.is c.steps-test.true c.steps.last c.steps.invariant
    c.is_reached_by-is_reached.result c.is_reached_by-is_reached.ensures c.in-Some.end (sym c.joined.ensures ∙ c.in-Some.is)

pub returns-in-Some-last : goal.returns-in-Some-last
returns-in-Some-last g c = looked_all g.C.Number.value g.C.Number.fits c.args.labels.now c.args.row.now (g.C.Number.value c.args.cost) c.requires c.steps.next-index c.steps.last c.steps.invariant c.steps-test.false c.in-Some-last.end c.in-Some-last.is
