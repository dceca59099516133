use Rattle.std.proofs.lemmas.Result.{IfOk-from_err}
use Rattle.pf_core.proofs.SearchLemmas.{Grows-trans}
use Rattle.pf_base.proofs.Outcomes.{refused_as}
use Rattle.pf_yen.proofs.explore.explore.Goals as goal

pub numbers-preserved : goal.numbers-preserved
numbers-preserved g c =
    let i = c.numbers.invariant in
    let e = c.in_ok-explore_next.ensures in
    record {
      grows = Grows-trans _ _ _ _ _ _ i.grows e.grows;
      graph = λ h x. e.graph h (i.graph h x);
      learned = λ h x l. e.learned h (i.graph h x) (i.learned h x l);
    }

pub returns-clause-grows : goal.returns-clause-grows
returns-clause-grows g c = c.numbers.invariant.grows

pub returns-clause-graph : goal.returns-clause-graph
returns-clause-graph g c = c.numbers.invariant.graph

pub returns-clause-learned : goal.returns-clause-learned
returns-clause-learned g c = c.numbers.invariant.learned

pub returns-in_err-explore_next-clause-grows : goal.returns-in_err-explore_next-clause-grows
returns-in_err-explore_next-clause-grows g c = Grows-trans _ _ _ _ _ _ c.numbers.invariant.grows c.in_err-explore_next.ensures.grows

pub returns-in_err-explore_next-clause-graph : goal.returns-in_err-explore_next-clause-graph
returns-in_err-explore_next-clause-graph g c = λ h x. c.in_err-explore_next.ensures.graph h (c.numbers.invariant.graph h x)

pub returns-in_err-explore_next-clause-learned : goal.returns-in_err-explore_next-clause-learned
returns-in_err-explore_next-clause-learned g c = λ h x l. let i = c.numbers.invariant in c.in_err-explore_next.ensures.learned h (i.graph h x) (i.learned h x l)

pub returns-in_err-explore_next-clause-all : goal.returns-in_err-explore_next-clause-all
returns-in_err-explore_next-clause-all g c = IfOk-from_err _ _ c.from_residual.ensures.0

pub returns-in_err-explore_next-clause-refused : goal.returns-in_err-explore_next-clause-refused
returns-in_err-explore_next-clause-refused g c = refused_as _ c.from_residual.result c.in_err-explore_next.field-0.0 c.from_residual.ensures.1 c.in_err-explore_next.ensures.refused
