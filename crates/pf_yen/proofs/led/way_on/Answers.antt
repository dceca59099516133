use Rattle.std.proofs.Common.{refl, ◌-◌, ◌++◌, ℕ, List, ap, length, length-drop, take_all, drop, arith}
use Rattle.std.proofs.lemmas.Result.{IfOk-from_err}
use Rattle.pf_base.specs.declared.error.PathError.TheVariants.{OutOfMemory}
use Rattle.pf_base.proofs.Outcomes.{refused_as}
use Rattle.pf_yen.proofs.led.way_on.Goals as goal

pub returns-in_default : goal.returns-in_default
returns-in_default g c = record { way = tt; refused = tt }

pub returns-in_err-reserve_exact : goal.returns-in_err-reserve_exact
returns-in_err-reserve_exact g c = record {
  way = IfOk-from_err _ _ c.from_residual.ensures.0;
  refused = refused_as _ c.from_residual.result OutOfMemory c.from_residual.ensures.1 refl;
}

pub returns-in_err-extend_from_slice : goal.returns-in_err-extend_from_slice
returns-in_err-extend_from_slice g c = record {
  way = IfOk-from_err _ _ c.from_residual-in_err-extend_from_slice.ensures.0;
  refused = refused_as _ c.from_residual-in_err-extend_from_slice.result OutOfMemory c.from_residual-in_err-extend_from_slice.ensures.1 refl;
}

pub returns-in_err-extend_from_slice-2 : goal.returns-in_err-extend_from_slice-2
returns-in_err-extend_from_slice-2 g c = record {
  way = IfOk-from_err _ _ c.from_residual-in_err-extend_from_slice-2.ensures.0;
  refused = refused_as _ c.from_residual-in_err-extend_from_slice-2.result OutOfMemory c.from_residual-in_err-extend_from_slice-2.ensures.1 refl;
}

pub slice_bounds-extend_from_slice-count : goal.slice_bounds-extend_from_slice-count
slice_bounds-extend_from_slice-count g c = c.requires.some

pub returns-clause-way : goal.returns-clause-way
returns-clause-way g c = (rw (c.in_ok-extend_from_slice-2.ensures.items, c.in_ok-extend_from_slice.ensures.items, c.in_ok-reserve_exact.ensures.items, c.new-path.ensures.items) (ap (λ (v : List ℕ). c.args.begin.now ++ v) (take_all (length c.args.behind.now - 1) (drop 1 c.args.behind.now) (omega (arith, length-drop 1 c.args.behind.now)))), c.in-Some.is)

pub returns-clause-refused : goal.returns-clause-refused
returns-clause-refused g c = tt
