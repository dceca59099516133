use Rattle.std.proofs.Common.{◌≡◌, take}
use Rattle.pf_yen.proofs.banned.Banned.add_all.Given as goal

abbrev pub invariant-numbers : goal.invariant-numbers
invariant-numbers g l = l.self ≡ take l.number-index l.numbers
