use Rattle.std.proofs.Common.{arith, refl, sym, ◌∙◌}
use Rattle.pf_core.proofs.LabelLemmas.{HasLabel-inside}
use Rattle.pf_base.proofs.ListLemmas.{at_place}
use Rattle.pf_informed.proofs.WiderLemmas.{no_label}
use Rattle.pf_informed.proofs.tight.cost_of.Goals as goal

pub offset_bounds-labels-number : goal.offset_bounds-labels-number
offset_bounds-labels-number g c = omega (arith, c.if-number-labels.false)

pub bounds-labels-number : goal.bounds-labels-number
bounds-labels-number g c = c.if-number-labels.false

pub returns-then-number-labels : goal.returns-then-number-labels
returns-then-number-labels g c = λ l h. omega (arith, c.if-number-labels.true, HasLabel-inside c.args.labels.now c.args.number l h)

pub returns-in-Some : goal.returns-in-Some
returns-in-Some g c = (c.in-Some.label, at_place _ _ _ _ c.if-number-labels.false (sym c.index-labels-number.is ∙ sym c.in-Some.ensures), refl)

pub returns-in-None : goal.returns-in-None
returns-in-None g c = λ l h. no_label c.args.labels.now c.args.number l (at_place _ _ _ _ c.if-number-labels.false (sym c.index-labels-number.is ∙ sym c.in-None.ensures)) h
