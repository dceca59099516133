use Rattle.std.proofs.Common.{◌∙◌, ◌+◌, ◌*◌, ◌≤◌, ap, arith}
use Rattle.std.proofs.Math.Nat.{mul-le-mul_right, mul_comm}
use Rattle.pf_grid.proofs.CellLemmas.{has_is_inside}
use Rattle.pf_grid.proofs.VertexLemmas.{row_skip, row_take, next_row, vertices_end}
use Rattle.pf_grid.proofs.grid.Grid.first_from.Goals as goal

pub returns-in-Some : goal.returns-in-Some
returns-in-Some g c =
    let now = c.args.self.now in
    let found = c.in-Some.found in
    let at = c.in-Some.ensures in
    let inside = has_is_inside now found c.loop-y.y at.2 in (
      c.loop-y.invariant.same ∙ row_skip now c.loop-y.x found c.loop-y.y at.0 (omega arith) at.3 ∙ row_take now found c.loop-y.y inside.0 inside.1 at.2,
      inside,
      at.1,
    )

pub loop-y-preserved : goal.loop-y-preserved
loop-y-preserved g c =
    record {
      inside = omega arith;
      same = c.loop-y.invariant.same ∙ next_row c.args.self.now c.loop-y.x c.loop-y.y c.loop-y.invariant.inside c.in_default.ensures;
    }

pub returns : goal.returns
returns g c =
    let now = c.args.self.now in
    let low : now.height ≤ c.loop-y.y = omega (arith, ap (λ t. t.height) c.self.view_is) in
    let past : now.height * now.width ≤ c.loop-y.y * now.width = mul-le-mul_right now.width low in
    c.loop-y.invariant.same ∙ vertices_end now (c.loop-y.y * now.width + c.loop-y.x) (omega (arith, mul_comm now.width now.height, past))
