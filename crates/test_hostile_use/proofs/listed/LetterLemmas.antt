-- Letters are alike where they differ in case alone.
use Rattle.std.proofs.Common.{rules, Bool, ◌==◌}
use Rattle.std.specs.Char.{to_ascii_lowercase}
use Rattle.std.specs.Cmp.{IsEquivalence}
use Rattle.std.specs.Cmp.Rules.{comparing}
use Rattle.std.specs.Ordering.{on}
use Rattle.test_hostile_use.specs.declared.letter.Letter.{Letter}

abbrev pub alike : Letter → Letter → Bool
alike = on (λ l. to_ascii_lowercase l.byte) ◌==◌

pub alike_laws : IsEquivalence alike
alike_laws = Prim.search (comparing, rules)
