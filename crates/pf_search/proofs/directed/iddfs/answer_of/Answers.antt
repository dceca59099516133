use Rattle.std.proofs.Common.{arith}
use Rattle.std.proofs.lemmas.Result.{IfOk-from_err}
use Rattle.pf_base.proofs.Asking.{Gives-ends, Gives-drains}
use Rattle.pf_search.proofs.SimplePaths.{here_reached, last_at, has_end}
use Rattle.pf_base.proofs.Outcomes.{refused_as}
use Rattle.pf_search.proofs.directed.iddfs.answer_of.Goals as goal

pub overflow_sub-here : goal.overflow_sub-here
overflow_sub-here g c = let r = c.requires.graph in omega (arith, c.len-here.ensures, has_end g.N.PartialEq.eq r.0 r.1 c.args.path.now.items r.3)

pub successors-items-requires : goal.successors-items-requires
successors-items-requires g c =
    let r = c.requires.graph in
    let eq = g.N.PartialEq.eq in
    let at = last_at eq r.0 r.1 c.args.path.now.items c.len-here.result c.index.result.now r.3 (omega (arith, c.len-here.ensures, c.args.path.now.ok)) c.index.ensures in
    record { within = (r.1, r.0, here_reached eq g.met.N.Eq.laws r.0 r.1 c.args.path.now.items c.index.result.now r.3 at, r.2) }

pub collected-requires : goal.collected-requires
collected-requires g c =
    let r = c.requires.graph in
    let eq = g.N.PartialEq.eq in
    let at = last_at eq r.0 r.1 c.args.path.now.items c.len-here.result c.index.result.now r.3 (omega (arith, c.len-here.ensures, c.args.path.now.ok)) c.index.ensures in
    let reach = here_reached eq g.met.N.Eq.laws r.0 r.1 c.args.path.now.items c.index.result.now r.3 at in
    record { ends = Gives-ends _ _ _ _ _ _ (c.successors-items.ensures.listed r.1 r.0 reach r.2) }

pub returns-clause-graph : goal.returns-clause-graph
returns-clause-graph g c = λ next starts a p.
    let eq = g.N.PartialEq.eq in
    let path = c.args.path.now.items in
    let here = c.index.result.now in
    let at = last_at eq next starts path c.len-here.result here p (omega (arith, c.len-here.ensures, c.args.path.now.ok)) c.index.ensures in
    let reach = here_reached eq g.met.N.Eq.laws next starts path here p at in
    let gives = c.successors-items.ensures.listed starts next reach a in
    let all = c.in_ok-answer.ensures.all in (
      c.successors-items.ensures.goes_on starts next reach a,
      record { here = here; at = at; listed = c.in_ok-answer.answer.items; same = Gives-drains _ _ _ _ _ _ gives all.0 c.in_ok-answer.answer.items all.1 all.2; reversed = c.reverse.ensures.items },
    )

pub returns-in_err-answer-clause-graph : goal.returns-in_err-answer-clause-graph
returns-in_err-answer-clause-graph g c = λ next starts a p.
    let eq = g.N.PartialEq.eq in
    let path = c.args.path.now.items in
    let here = c.index.result.now in
    let at = last_at eq next starts path c.len-here.result here p (omega (arith, c.len-here.ensures, c.args.path.now.ok)) c.index.ensures in
    let reach = here_reached eq g.met.N.Eq.laws next starts path here p at in (
      c.successors-items.ensures.goes_on starts next reach a,
      IfOk-from_err _ _ c.from_residual.ensures.0,
    )

pub returns-in_err-answer-clause-refused : goal.returns-in_err-answer-clause-refused
returns-in_err-answer-clause-refused g c = refused_as _ c.from_residual.result c.in_err-answer.field-0.0 c.from_residual.ensures.1 c.in_err-answer.ensures.refused
