use Rattle.pf_grid.proofs.CellLemmas.{grid_from_view}
use Rattle.pf_grid.proofs.VertexLemmas.{vertices_fit}
use Rattle.pf_grid.proofs.grid.Grid.first_row.Goals as goal

pub returns-then-self-eq0-clause-fits : goal.returns-then-self-eq0-clause-fits
returns-then-self-eq0-clause-fits g c = vertices_fit c.args.self.now (grid_from_view _ _ _ _ _ c.self.view_is c.self.invariant.fits)

pub returns-else-self-eq0-clause-fits : goal.returns-else-self-eq0-clause-fits
returns-else-self-eq0-clause-fits g c = vertices_fit c.args.self.now (grid_from_view _ _ _ _ _ c.self.view_is c.self.invariant.fits)
