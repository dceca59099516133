use Rattle.pf_matrix.specs.Internal.EqualityLaws.{tables_alike}
use Rattle.pf_matrix.proofs.laws.equal_hash_alike.Goals as goal

pub returns : goal.returns
returns g c = (tables_alike (record { fed = g.met.C.Hash.respects_eq })).fed
