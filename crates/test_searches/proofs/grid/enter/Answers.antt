use Rattle.std.proofs.Common.{◌∙◌, ℕ, ap, None, Some}
use Rattle.std.specs.Prelude.{if◌then◌else◌, nat_le}
use Rattle.std.specs.Option.{option_and_then}
use Rattle.pf_utils.proofs.MoveLemmas.{target_is}
use Rattle.test_searches.specs.Grid.{height_at}
use Rattle.test_searches.proofs.grid.enter.Goals as goal

pub returns-in_err-to : goal.returns-in_err-to
returns-in_err-to c =
    let height = height_at c.args.heights.now c.args.dimensions c.args.bound in
    c.from_residual.ensures ∙ ap (option_and_then (λ (to : ℕ × ℕ). if nat_le (height to) c.args.bound then Some (to, height to) else None)) (target_is c.args.from c.args.direction c.args.dimensions None c.in_err-to.ensures)
