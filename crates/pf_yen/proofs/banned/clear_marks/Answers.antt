use Rattle.std.proofs.Common.{◌+◌, drop, arith}
use Rattle.pf_yen.proofs.MarkLemmas.{OnlyMarked, unmarked, unmarked_beyond}
use Rattle.pf_yen.proofs.banned.clear_marks.Goals.{then-number-len, else-number-len}
use Rattle.pf_yen.proofs.banned.clear_marks.Goals as goal

pub numbers-preserved : goal.numbers-preserved
numbers-preserved g c =
    let i = c.numbers.number-index in
    elim c.if-number-len.branch as (λ _. OnlyMarked c.if-number-len.marks.items (drop (i + 1) c.args.numbers.now)) [
      | then-number-len w ↦ rw w.marks-is (unmarked c.numbers.marks.items c.args.numbers.now i 0 c.numbers-test.true c.numbers.invariant (omega (arith, w.if-number-len.true, c.len.ensures)))
      | else-number-len w ↦ rw w.marks-is (unmarked_beyond c.numbers.marks.items c.args.numbers.now i 0 c.numbers-test.true c.numbers.invariant (omega (arith, w.if-number-len.false, c.len.ensures)))
    ]
