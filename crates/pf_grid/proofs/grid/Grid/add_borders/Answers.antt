use Rattle.std.proofs.Common.{◌≡◌, Bool, true, false, ap, arith, refl}
use Rattle.std.specs.Prelude.{if◌then◌else◌}
use Rattle.pf_grid.specs.GridPositions.{has, vertex_count}
use Rattle.pf_grid.specs.Borders.{is_border}
use Rattle.pf_grid.proofs.CountLemmas.{fewer_own}
use Rattle.pf_grid.proofs.grid.Grid.add_borders.Goals as goal

kept : (b o : Bool) → o ≡ true → (if b then true else o) ≡ true
kept true o h = refl
kept false o h = h

pub overflow_sub-result : goal.overflow_sub-result
overflow_sub-result g c =
    let now = c.args.self.now in
    omega (arith, c.vertices_len-before.ensures.count, c.vertices_len.ensures.count, ap vertex_count c.set_borders.ensures, fewer_own now (λ x y. if is_border now x y then true else has now x y) c.vertices_len-before.ensures.grid (λ x y h. kept (is_border now x y) (has now x y) h))

pub returns-clause-count : goal.returns-clause-count
returns-clause-count g c =
    let now = c.args.self.now in
    omega (arith, c.vertices_len-before.ensures.count, c.vertices_len.ensures.count, ap vertex_count c.set_borders.ensures, fewer_own now (λ x y. if is_border now x y then true else has now x y) c.vertices_len-before.ensures.grid (λ x y h. kept (is_border now x y) (has now x y) h))
