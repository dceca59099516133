use Rattle.std.proofs.Common.{◌∙◌, ap}
use Rattle.pf_grid.specs.GridPositions.{vertex_count}
use Rattle.pf_grid.proofs.CellLemmas.{grid_from_view}
use Rattle.pf_grid.proofs.grid.Grid.vertices_len.Goals as goal

pub returns : goal.returns
returns g c = record {
  grid = grid_from_view _ _ _ _ _ c.self.view_is c.self.invariant.fits;
  count = c.self.invariant.counted ∙ ap (λ z. vertex_count z) c.self.view_is;
}
