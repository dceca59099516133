use Rattle.std.proofs.Common.{[], refl, subst, sym, ℕ}
use Rattle.pf_name_numbers.proofs.NamedNumbers.{With}
use Rattle.pf_name_walks.proofs.PreorderSteps.{along_over}
use Rattle.pf_name_walks.proofs.preorder.dfs_reach.Goals as goal

pub invariant_of-result : goal.invariant_of-result
invariant_of-result g c =
    let b = c.in_ok-walk.ensures.begins in
    (b.0, subst (λ (k : ℕ). With g.met.N.Eq.laws c.args.list.now c.args.from.now k c.args.from.now) (sym b.1) c.number_or_next-start.ensures, ([], c.in_ok-walk.ensures.graph))

pub returns-clause-begins : goal.returns-clause-begins
returns-clause-begins g c = (refl, refl, c.in_ok-walk.ensures.begins.2)

pub returns-clause-graph : goal.returns-clause-graph
returns-clause-graph g c = along_over g.met.N.Eq.laws g.C.Number.value c.args.list.now c.args.from.now c.in_ok-walk.walk (invariant_of-result g c) [] c.in_ok-walk.ensures.graph
