-- The bytes so far are taken into the state.
use Rattle.std.proofs.Common.{◌≡◌, take}
use Rattle.std.specs.List.{fold}
use Rattle.routes.specs.Keyed.{state_after}
use Rattle.routes.proofs.keyed.KeyedHasherHasher.write.Given as goal

abbrev pub invariant-loop-byte : goal.invariant-loop-byte
invariant-loop-byte l = l.state ≡ fold (state_after l.self.factor) l.fn.self.state (take l.byte-index l.bytes)
