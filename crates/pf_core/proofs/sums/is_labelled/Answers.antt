use Rattle.std.proofs.Common.{◌∙◌, sym}
use Rattle.pf_base.proofs.ListLemmas.{at_place}
use Rattle.pf_core.proofs.ReadLemmas.{none_past, none_read}
use Rattle.pf_core.proofs.sums.is_labelled.Goals as goal

pub returns-then-number-labels : goal.returns-then-number-labels
returns-then-number-labels g c = none_past c.args.labels.now c.args.number c.if-number-labels.true

pub returns-in-None : goal.returns-in-None
returns-in-None g c = none_read c.args.labels.now c.args.number c.index-labels-number.result c.label.result c.index-labels-number.is c.label.ensures c.in-None.is

pub returns-in-Some : goal.returns-in-Some
returns-in-Some g c = (c.in-Some.label, at_place c.args.labels.now c.args.number _ _ c.if-number-labels.false (sym c.index-labels-number.is ∙ sym c.in-Some.ensures), c.known.ensures)
