use Rattle.std.proofs.Common.{◌∙◌, ap, sym}
use Rattle.std.proofs.lemmas.Option.{slice_get_past}
use Rattle.pf_base.proofs.ListLemmas.{at_place}
use Rattle.pf_estimated_graphs.proofs.EstimateLemmas.{estimate_is, estimate_none}
use Rattle.pf_estimated_graphs.proofs.estimates.Estimates.estimate.Goals as goal

pub returns-in-Some : goal.returns-in-Some
returns-in-Some g c =
    let xs = c.self.inside.estimates.now in
    let found = c.in-Some.ensures.lookup in
    rw (← c.self.view_is) (sym (estimate_is g.C.Number.value xs c.args.node c.in-Some.estimate.now (at_place xs c.args.node _ _ found.3.0 (sym found.1))))

pub returns-in-None : goal.returns-in-None
returns-in-None g c =
    let value = g.C.Number.value in
    let xs = c.self.inside.estimates.now in
    rw (← c.self.view_is) (ap value c.zero.ensures ∙ g.met.C.Zero.zero_law g.met.C.Integral.exact_law ∙ sym (estimate_none value xs c.args.node (slice_get_past xs c.args.node c.in-None.ensures.lookup.3)))
