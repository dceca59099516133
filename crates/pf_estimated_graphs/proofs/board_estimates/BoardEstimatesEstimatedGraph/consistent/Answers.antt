use Rattle.std.proofs.Common.{pos}
use Rattle.pf_estimated_graphs.proofs.BoardEstimateLemmas.{consistent_on_board}
use Rattle.pf_estimated_graphs.proofs.board_estimates.BoardEstimatesEstimatedGraph.consistent.Goals as goal

pub returns : goal.returns
returns g c =
    let top = ((g.met.C.Cost.range_law (pos 0)).0 (g.met.C.Zero.zero_fits_law g.met.C.Integral.exact_law)).1 in
    rw (← c.self.view_is) (consistent_on_board g.C.Number.value (g.C.Number.value g.C.Cost.greatest) top _ c.self.invariant.0)
