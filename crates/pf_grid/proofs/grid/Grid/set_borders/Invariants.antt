use Rattle.std.proofs.Common.{◌≡◌}
use Rattle.std.specs.Prelude.{if◌then◌else◌}
use Rattle.pf_grid.specs.GridPositions.{with_vertices, has}
use Rattle.pf_grid.proofs.BorderLemmas.{in_rows, in_both}
use Rattle.pf_grid.proofs.grid.Grid.set_borders.Given as goal

abbrev pub invariant-loop-x : goal.invariant-loop-x
invariant-loop-x g l = l.self ≡ with_vertices l.fn.self (λ x y. if in_rows l.fn.self.height l.x x y then l.present else has l.fn.self x y)

abbrev pub invariant-loop-y : goal.invariant-loop-y
invariant-loop-y g l = l.self ≡ with_vertices l.fn.self (λ x y. if in_both l.fn.self.width l.fn.self.height l.y x y then l.present else has l.fn.self x y)
