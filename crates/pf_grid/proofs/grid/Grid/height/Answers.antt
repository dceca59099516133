use Rattle.std.proofs.Common.{ap}
use Rattle.pf_grid.proofs.CellLemmas.{grid_from_view}
use Rattle.pf_grid.proofs.grid.Grid.height.Goals as goal

pub returns : goal.returns
returns g c = record { height = ap (λ t. t.height) c.self.view_is; grid = grid_from_view _ _ _ _ _ c.self.view_is c.self.invariant.fits }
