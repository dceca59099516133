use Rattle.std.proofs.Common.{arith}
use Rattle.pf_yen.proofs.MarkLemmas.{marked_more, marked_beyond}
use Rattle.pf_yen.proofs.banned.Banned.add.Goals as goal

pub invariant_of-self-then-number-len : goal.invariant_of-self-then-number-len
invariant_of-self-then-number-len g c = rw c.in_ok-push.ensures.items (marked_more c.self.inside.marks.items c.self.inside.numbers.items c.args.number (omega (arith, c.if-number-len.true, c.len.ensures)) c.self.invariant)

pub invariant_of-self-else-number-len : goal.invariant_of-self-else-number-len
invariant_of-self-else-number-len g c = rw c.in_ok-push.ensures.items (marked_beyond c.self.inside.marks.items c.self.inside.numbers.items c.args.number (omega (arith, c.if-number-len.false, c.len.ensures)) c.self.invariant)
