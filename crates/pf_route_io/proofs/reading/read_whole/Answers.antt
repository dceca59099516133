use Rattle.std.proofs.Common.{refl}
use Rattle.std.proofs.KnownBytes.{Consumes-nil, Consumes-trans}
use Rattle.pf_route_io.proofs.Outcomes.{on_error}
use Rattle.pf_route_io.proofs.reading.read_whole.Goals as goal

pub returns-in_err-extend_from_slice-in-Ok-clause-some : goal.returns-in_err-extend_from_slice-in-Ok-clause-some
returns-in_err-extend_from_slice-in-Ok-clause-some g c = on_error _ c.from_residual.result (_, Consumes-trans _ _ _ _ _ c.loop-text.invariant.read c.in-Ok.ensures.bytes.0)

pub returns-in-Ok-eq0-clause-errors : goal.returns-in-Ok-eq0-clause-errors
returns-in-Ok-eq0-clause-errors g c = tt

pub slice_bounds-chunk-end : goal.slice_bounds-chunk-end
slice_bounds-chunk-end g c = c.in-Ok.ensures.bound.0

pub slice_bounds-extend_from_slice-end : goal.slice_bounds-extend_from_slice-end
slice_bounds-extend_from_slice-end g c = c.in-Ok.ensures.bound.1

pub loop-text-init : goal.loop-text-init
loop-text-init g c = record { read = rw c.new-text.ensures.items (Consumes-nil (g.I.Source.left c.args.input.now)); unfailed = refl }
