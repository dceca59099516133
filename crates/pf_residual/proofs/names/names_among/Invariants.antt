use Rattle.std.proofs.Common.{◌≡◌, take}
use Rattle.pf_residual.specs.NamedNetworks.{names_of}
use Rattle.pf_residual.proofs.names.names_among.Given as goal

abbrev pub invariant-vertices : goal.invariant-vertices
invariant-vertices g l = l.names.keys ≡ names_of g.N.PartialEq.eq (take l.vertex-index l.vertices)
