use Rattle.std.proofs.Common.{◌<◌, ap, sym, subst, ◌∙◌, length}
use Rattle.pf_base.specs.Places.{number}
use Rattle.pf_assignment.proofs.MatchingNumbers.{number-at}
use Rattle.pf_assignment.proofs.kuhn_munkres.weights.MatrixWeights.at.Goals as goal

pub returns : goal.returns
returns g c =
    let value = g.C.Number.value in
    let n = number-at value c.as_slice.result.now c.idx-place.result c.index-as_slice-place.result (subst (λ xs. c.idx-place.result < length xs) (sym c.as_slice.ensures.values) c.idx-place.ensures.below) c.index-as_slice-place.is in
    sym n ∙ ap (λ xs. number value xs c.idx-place.result) c.as_slice.ensures.values ∙ ap (number value c.args.self.now.values) c.idx-place.ensures.place
