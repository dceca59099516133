-- A grid as a code, as `Model` asks for.
use Rattle.std.specs.Prelude.{ℕ, Bool, List, refl}
use Rattle.std.specs.Coded.{Coded, code_by, coded×, coded_ℕ, coded_bool, coded_list}
use Rattle.pf_grid.specs.GridPositions.{Positions}

abbrev pub positions_code : Coded Positions
positions_code = code_by (ℕ × (ℕ × (Bool × List Bool))) (coded× coded_ℕ (coded× coded_ℕ (coded× coded_bool (coded_list coded_bool)))) (λ g. (g.width, (g.height, (g.diagonal, g.cells)))) (λ p. record { width = p.0; height = p.1.0; diagonal = p.1.1.0; cells = p.1.1.1 }) (λ _. refl)
