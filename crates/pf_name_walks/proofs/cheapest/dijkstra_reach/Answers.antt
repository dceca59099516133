use Rattle.std.proofs.Common.{ap, map, refl, subst, sym, ℕ}
use Rattle.pf_name_numbers.proofs.NamedNumbers.{With}
use Rattle.pf_name_walks.proofs.CheapestNames.{over_by_name}
use Rattle.pf_name_walks.proofs.cheapest.dijkstra_reach.Goals as goal

pub invariant_of-result : goal.invariant_of-result
invariant_of-result g c =
    let b = c.in_ok-walk.ensures.begins in
    (b.0, subst (λ (k : ℕ). With g.met.N.Eq.laws c.args.list.now c.args.from.now k c.args.from.now) (sym b.1) c.number_or_next-start.ensures, c.in_ok-walk.ensures.graph)

pub returns-clause-begins : goal.returns-clause-begins
returns-clause-begins g c = let b = c.in_ok-walk.ensures.begins in (refl, refl, ap (map _) b.2, b.3)

pub returns-clause-graph : goal.returns-clause-graph
returns-clause-graph g c = over_by_name g.met.N.Eq.laws g.C.Number.value c.args.list.now c.args.from.now c.in_ok-walk.walk (invariant_of-result g c)
