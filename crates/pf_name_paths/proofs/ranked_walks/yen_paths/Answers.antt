use Rattle.std.proofs.Common.{◌≡◌, false, subst, sym, ℕ}
use Rattle.std.specs.Prelude.{None}
use Rattle.pf_name_numbers.specs.Numbered.{is_numbered}
use Rattle.pf_name_numbers.proofs.NamedNumbers.{With}
use Rattle.pf_name_paths.proofs.PathWalkSteps.{begun, by_name}
use Rattle.pf_name_paths.proofs.ranked_walks.yen_paths.Goals as goal

pub invariant_of-result : goal.invariant_of-result
invariant_of-result g c =
    let b = c.in_ok-walk.ensures.begins in
    let laws = g.met.N.Eq.laws in
    let list = c.args.list.now in
    let from = c.args.from.now in
    let goal_number = c.goal_of-goal.result.number in
    let tests = subst (λ to. (k : ℕ) (x : _) → With laws list from k x → is_numbered goal_number k ≡ g.N.PartialEq.eq x to) (sym c.of.ensures) c.goal_of-goal.ensures in
    begun laws g.C.Number.value g.C.Number.fits list from c.of.result.value c.in_ok-walk.walk c.number_or_next-start.result c.goal_of-goal.result c.number_or_next-start.ensures tests b.0 b.1 b.2 b.3 b.4 c.in_ok-walk.ensures.graph

pub returns-clause-graph : goal.returns-clause-graph
returns-clause-graph g c = by_name g.met.N.Eq.laws g.C.Number.value g.C.Number.fits c.args.list.now c.args.from.now c.of.result.value c.in_ok-walk.walk None false false (invariant_of-result g c)
