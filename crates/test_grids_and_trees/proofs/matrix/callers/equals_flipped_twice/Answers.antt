use Rattle.std.proofs.Common.{◌∙◌, rules}
use Rattle.test_grids_and_trees.proofs.matrix.callers.equals_flipped_twice.Goals as goal

pub returns : goal.returns
returns g c =
    c.eq.ensures
    ∙ c.equal_copies.ensures.flips_lr c.args.board.now c.in_ok-flipped.flipped c.in_ok-back.back (λ x y same. search rules) c.rows-rows.ensures.matrix c.in_ok-flipped.ensures.flipped c.in_ok-back.ensures.flipped
