use Rattle.std.proofs.Common.{◌+◌, ◌*◌, ◌≤◌, ◌^◌, get_or, arith}
use Rattle.std.proofs.Math.Nat.{mul_comm}
use Rattle.pf_grid.specs.Vertices.{width_of, height_of}
use Rattle.pf_grid.proofs.VertexLemmas.{extent_at, extent_more, product_large}
use Rattle.pf_grid.proofs.grid.from_vertices.sizes_of.Goals as goal
use Rattle.pf_grid.proofs.grid.from_vertices.sizes_of.Goals.{then-position-via-then-position, then-position-via-else-position+then-position-2}

pub returns-then-position : goal.returns-then-position
returns-then-position c =
    let ps = c.args.positions.now in
    let i = c.loop-position.position-index in
    let wide : (get_or ps i (0, 0)).0 + 1 ≤ width_of ps = extent_at (λ p. p.0) ps i (0, 0) c.loop-position-test.true in
    let high : (get_or ps i (0, 0)).1 + 1 ≤ height_of ps = extent_at (λ p. p.1) ps i (0, 0) c.loop-position-test.true in
    elim c.then-position.branch as (λ _. 2 ^ 64 ≤ width_of ps * height_of ps) [
      | then-position-via-then-position w ↦ product_large (width_of ps) (height_of ps) (omega arith) (omega arith)
      | then-position-via-else-position+then-position-2 w ↦
          let turned = product_large (height_of ps) (width_of ps) (omega arith) (omega arith) in
          omega (arith, turned, mul_comm (width_of ps) (height_of ps))
    ]

pub loop-position-preserved : goal.loop-position-preserved
loop-position-preserved c =
    let ps = c.args.positions.now in
    let i = c.loop-position.position-index in
    record {
      width = omega (arith, c.max-width.ensures, c.loop-position.invariant.width, extent_more (λ p. p.0) ps i (0, 0) c.loop-position-test.true);
      height = omega (arith, c.max-height.ensures, c.loop-position.invariant.height, extent_more (λ p. p.1) ps i (0, 0) c.loop-position-test.true);
    }
