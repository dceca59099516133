use Rattle.std.proofs.Common.{◌∙◌, ap, arith, ◌-◌, ◌++◌, length, length-append, replicate, None}
use Rattle.std.proofs.lemmas.List.{length-replicate}
use Rattle.std.specs.Prelude.{Option}
use Rattle.pf_core.specs.declared.labels.Label.{Label}
use Rattle.pf_base.proofs.Outcomes.{on_ok}
use Rattle.pf_core.proofs.LabelLemmas.{Widened-more}
use Rattle.pf_core.proofs.labels.widen.Goals as goal

pub returns-clause-widened : goal.returns-clause-widened
returns-clause-widened g c =
    let old = c.args.labels.now.items in
    let more = c.args.found - length old in
    on_ok c.fill.result c.fill.ensures.filled (λ e.
    let is = e ∙ ap (λ (x : Option (Label g.row.C.Denot)). old ++ replicate more x) c.none.ensures in
    let none : Option (Label g.row.C.Denot) = None in
    Widened-more old c.fill.new.labels.items c.args.found more is (omega (arith, ap length is, length-append old (replicate more none), length-replicate more none, c.requires)))
