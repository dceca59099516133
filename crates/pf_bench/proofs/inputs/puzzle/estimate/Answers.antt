use Rattle.std.proofs.Common.{arith, ap, ◌∙◌, ◌≡◌, ℕ}
use Rattle.pf_bench.specs.Tiles.{distance_below}
use Rattle.pf_bench.proofs.inputs.puzzle.estimate.Goals as goal

pub returns : goal.returns
returns c =
    let end : c.loop-place.place ≡ 16 = omega arith in
    c.loop-place.invariant.found ∙ ap (λ (n : ℕ). distance_below c.args.tiles.now n) end
