use Rattle.test_searches.proofs.tests.walks.gather.Given as goal

abbrev pub invariant-steps : goal.invariant-steps
invariant-steps g l = g.W.Resumable.goes l.walk
