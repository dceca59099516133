use Rattle.std.proofs.Common.{arith}
use Rattle.std.proofs.lemmas.Bool.Decides.{nat_tests}
use Rattle.pf_routes.proofs.Lines.{begins_other, begins_return}
use Rattle.pf_routes.proofs.routes.edge_text.end_line.Goals as goal

pub returns-then-first-ne13-clause-lines : goal.returns-then-first-ne13-clause-lines
returns-then-first-ne13-clause-lines c = let h = c.if-first-eq10.false in let k = c.if-first-ne13.true in let l = c.in-len1-up.len_at_least in begins_other c.args.text.now (omega arith) (grind (arith, nat_tests)) (grind (arith, nat_tests))

pub returns-else-second-eq10-clause-lines : goal.returns-else-second-eq10-clause-lines
returns-else-second-eq10-clause-lines c = let h = c.if-first-eq10.false in let k = c.if-first-ne13.false in let l = c.in-len1-up-rest.len_at_least in let m = c.if-second-eq10.false in
    begins_return c.args.text.now (omega arith) (grind (arith, nat_tests)) (grind (arith, nat_tests))
