use Rattle.std.proofs.Common.{◌*◌, ap, arith}
use Rattle.pf_grid.proofs.CellLemmas.{grid_from_view}
use Rattle.pf_grid.proofs.grid.Grid.size.Goals as goal

pub overflow_mul-result : goal.overflow_mul-result
overflow_mul-result g c = omega (arith, c.self.invariant.fits)

pub returns : goal.returns
returns g c = record { size = ap (λ t. t.width * t.height) c.self.view_is; grid = grid_from_view _ _ _ _ _ c.self.view_is c.self.invariant.fits }
