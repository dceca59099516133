use Rattle.std.proofs.Common.{◌+◌}
use Rattle.pf_base.specs.declared.error.PathError.TheVariants.{StepOverflow}
use Rattle.pf_cycles.proofs.CountLemmas.{fits_or}
use Rattle.pf_cycles.proofs.directed.cycle_detection.floyd_method.one_more.Goals as goal

pub returns : goal.returns
returns c =
    let q = fits_or c.checked_add.result (c.args.steps + 1) StepOverflow c.ok_or.result c.checked_add.ensures c.ok_or.ensures.value in
    record { more = q.0; refused = q.1 }
