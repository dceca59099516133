use Rattle.std.proofs.Common.{nat_eq}
use borrow.Author.Tests.{eqb-true}
use Rattle.std.specs.HashMap.{get}
use Rattle.pf_search.proofs.ParentLemmas.{none_twice}
use Rattle.test_orders_and_estimates.proofs.search.parents.halved_to.Goals as goal

pub build_path-requires-clause-no_ring : goal.build_path-requires-clause-no_ring
build_path-requires-clause-no_ring c = none_twice nat_eq (get nat_eq c.in_ok-parents.parents) (λ n. n) (λ x y e. eqb-true x y e) c.in_ok-parents.ensures c.args.target
