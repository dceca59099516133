use Rattle.std.proofs.Common.{◌∙◌, true≢false, arith, sym, ap, refl}
use Rattle.std.proofs.lemmas.Result.{IfOk-from_err}
use Rattle.pf_base.proofs.Outcomes.{refused_as}
use Rattle.std.proofs.lemmas.Cmp.{nat_eq_equiv}
use borrow.Author.Tests.{eqb-true}
use Rattle.pf_tables.specs.Graphs.{successors_of}
use Rattle.pf_tables.proofs.Alone.{no_way_alone}
use Rattle.pf_table_searches.proofs.TrailLemmas.{none_marked, none_outside}
use Rattle.pf_table_searches.proofs.TrailAnswers.{none_without_edges, fewest_along, no_walk_left}
use Rattle.pf_table_searches.proofs.deepening.iddfs.Goals as goal

pub returns-then-from-len-clause-best : goal.returns-then-from-len-clause-best
returns-then-from-len-clause-best g c =
    let passes = g.T.Goals.passes c.args.goals in
    let size = g.G.Graph.size c.args.graph.now in
    let places = g.G.Graph.places c.args.graph.now in
    no_way_alone nat_eq_equiv c.args.from passes (λ a e. ap passes (eqb-true c.args.from a e)) (successors_of g.C.Number.value size places) (none_outside g.C.Number.value size places c.args.from (omega (arith, c.if-from-len.true, c.len.ensures)))
    (sym c.is_goal.ensures ∙ c.if-is_goal.false)

pub limits-init : goal.limits-init
limits-init g c =
    let next = successors_of g.C.Number.value (g.G.Graph.size c.args.graph.now) (g.G.Graph.places c.args.graph.now) in
    record {
      begins = c.new-entries.ensures.items;
      wide = c.in_ok-marked.ensures.len ∙ c.len-2.ensures;
      clear = none_marked c.len-2.result c.in_ok-marked.marked.items c.in_ok-marked.ensures.items;
      none = none_without_edges next c.args.from (g.T.Goals.passes c.args.goals) (sym c.is_goal.ensures ∙ c.if-is_goal.false);
    }

pub returns-in-Found-clause-best : goal.returns-in-Found-clause-best
returns-in-Found-clause-best g c =
    let next = successors_of g.C.Number.value (g.G.Graph.size c.args.graph.now) (g.G.Graph.places c.args.graph.now) in
    let found = rw c.in-Found.is at c.in_ok-deepen.ensures.found in
    rw (c.in_ok-path-in-Found.ensures.nodes, c.deref.ensures.value) (fewest_along next c.args.from (g.T.Goals.passes c.args.goals) c.limits.limit c.deepen.new.entries.items c.limits.invariant.none found.0 found.1)

pub returns-in-Missed-false-clause-best : goal.returns-in-Missed-false-clause-best
returns-in-Missed-false-clause-best g c =
    let next = successors_of g.C.Number.value (g.G.Graph.size c.args.graph.now) (g.G.Graph.places c.args.graph.now) in
    let missed = rw c.in-Missed-false.is at c.in_ok-deepen.ensures.found in
    no_walk_left next c.args.from (g.T.Goals.passes c.args.goals) (λ w k. missed.3 w (λ e. absurd (true≢false (sym e ∙ c.in-Missed-false.cut-test))) k)

pub returns-in_err-path-clause-best : goal.returns-in_err-path-clause-best
returns-in_err-path-clause-best g c = IfOk-from_err _ _ c.from_residual.ensures.0

pub returns-in_err-path-clause-errors : goal.returns-in_err-path-clause-errors
returns-in_err-path-clause-errors g c = refused_as _ c.from_residual.result _ c.from_residual.ensures.1 c.in_err-path.ensures.refused

pub returns-in_err-marked-clause-best : goal.returns-in_err-marked-clause-best
returns-in_err-marked-clause-best g c = IfOk-from_err _ _ c.from_residual-in_err-marked.ensures.0

pub returns-in_err-marked-clause-errors : goal.returns-in_err-marked-clause-errors
returns-in_err-marked-clause-errors g c = refused_as _ c.from_residual-in_err-marked.result _ c.from_residual-in_err-marked.ensures.1 c.in_err-marked.ensures.refused

pub returns-in_err-deepen-clause-best : goal.returns-in_err-deepen-clause-best
returns-in_err-deepen-clause-best g c = IfOk-from_err _ _ c.from_residual-in_err-deepen.ensures.0

pub returns-in_err-deepen-clause-errors : goal.returns-in_err-deepen-clause-errors
returns-in_err-deepen-clause-errors g c = refused_as _ c.from_residual-in_err-deepen.result _ c.from_residual-in_err-deepen.ensures.1 c.in_err-deepen.ensures.refused

pub returns-in_err-path-in-Found-clause-best : goal.returns-in_err-path-in-Found-clause-best
returns-in_err-path-in-Found-clause-best g c = IfOk-from_err _ _ c.from_residual-in_err-path-in-Found.ensures.0

pub returns-in_err-path-in-Found-clause-errors : goal.returns-in_err-path-in-Found-clause-errors
returns-in_err-path-in-Found-clause-errors g c = refused_as _ c.from_residual-in_err-path-in-Found.result _ c.from_residual-in_err-path-in-Found.ensures.1 c.in_err-path-in-Found.ensures.refused

pub deepen-requires-clause-inside : goal.deepen-requires-clause-inside
deepen-requires-clause-inside g c = omega (arith, c.if-from-len.false, c.len.ensures)

pub deepen-requires-clause-goal : goal.deepen-requires-clause-goal
deepen-requires-clause-goal g c = sym c.is_goal.ensures ∙ c.if-is_goal.false

pub deepen-requires-clause-limit : goal.deepen-requires-clause-limit
deepen-requires-clause-limit g c = omega (arith, c.limits.auto.limit)

pub deepen-requires-clause-begins : goal.deepen-requires-clause-begins
deepen-requires-clause-begins g c = c.limits.invariant.begins

pub deepen-requires-clause-wide : goal.deepen-requires-clause-wide
deepen-requires-clause-wide g c = c.limits.invariant.wide

pub deepen-requires-clause-clear : goal.deepen-requires-clause-clear
deepen-requires-clause-clear g c = c.limits.invariant.clear

pub limits-smaller : goal.limits-smaller
limits-smaller g c = omega (arith, c.limits-test.true)

pub limits-preserved : goal.limits-preserved
limits-preserved g c =
    let missed = rw c.in-Missed-true.is at c.in_ok-deepen.ensures.found in
    record {
      begins = missed.0;
      wide = missed.1;
      clear = missed.2;
      none = λ w h. missed.3 w (λ _. omega (arith, h));
    }

pub returns-clause-errors : goal.returns-clause-errors
returns-clause-errors g c = refl
