use Rattle.pf_core.specs.Sums.{IsLooked}
use Rattle.pf_core.proofs.sums.ends_reached.Given as goal

abbrev pub invariant-steps : goal.invariant-steps
invariant-steps g l = IsLooked g.C.Number.value g.C.Number.fits l.labels l.row (g.C.Number.value l.cost) l.next-index l.last
