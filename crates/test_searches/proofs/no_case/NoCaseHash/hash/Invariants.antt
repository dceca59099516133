use Rattle.std.proofs.Common.{◌≡◌, map, take, fold}
use Rattle.std.specs.Char.{to_ascii_lowercase}
use Rattle.std.specs.Hash as fed
use Rattle.std.specs.List.{flat_map}
use Rattle.test_searches.proofs.no_case.NoCaseHash.hash.Given as goal

abbrev pub invariant-loop-byte : goal.invariant-loop-byte
invariant-loop-byte g l = l.state ≡ fold g.H.Hasher.write l.initial.state (flat_map fed.u8 (map to_ascii_lowercase (take l.byte-index l.byte-items)))
