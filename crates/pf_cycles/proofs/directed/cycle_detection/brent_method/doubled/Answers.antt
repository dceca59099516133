use Rattle.std.proofs.Common.{◌*◌}
use Rattle.pf_base.specs.declared.error.PathError.TheVariants.{StepOverflow}
use Rattle.pf_cycles.proofs.CountLemmas.{fits_or}
use Rattle.pf_cycles.proofs.directed.cycle_detection.brent_method.doubled.Goals as goal

pub returns : goal.returns
returns c =
    let q = fits_or c.checked_mul.result (c.args.steps * 2) StepOverflow c.ok_or.result c.checked_mul.ensures c.ok_or.ensures.value in
    record { twice = q.0; refused = q.1 }
