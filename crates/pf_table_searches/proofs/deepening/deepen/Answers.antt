use Rattle.std.proofs.Common.{◌∙◌, false, ◌^◌, arith, sym, ap, length}
use Rattle.std.proofs.lemmas.Result.{IfOk-from_err}
use Rattle.pf_base.proofs.Outcomes.{refused_by}
use Rattle.pf_table_searches.proofs.TrailLemmas.{searched_first, searched_past, searched_into, searched_back, goal_found, none_found, no_items, node_below, node_inside}
use Rattle.pf_table_searches.proofs.TrailMeasure.{left_moves, left_enters, left_leaves}
use Rattle.pf_table_searches.proofs.deepening.deepen.Goals as goal

pub steps-init : goal.steps-init
steps-init g c = searched_first g.C.Number.value (g.G.Graph.size c.args.graph.now) (g.G.Graph.places c.args.graph.now) c.args.from (g.T.Goals.passes c.args.goals) c.args.limit false c.args.entries.now.items c.args.marked.now.items c.requires.inside c.requires.goal c.requires.limit c.requires.begins c.requires.wide c.requires.clear

pub next_end-requires-clause-node : goal.next_end-requires-clause-node
next_end-requires-clause-node g c = node_inside g.C.Number.value (g.G.Graph.size c.args.graph.now) (g.G.Graph.places c.args.graph.now) c.args.from (g.T.Goals.passes c.args.goals) c.args.limit c.steps.cut c.steps.entries.items c.steps.node c.steps.place c.steps.marked.items c.steps.invariant

pub returns-then-is_goal-clause-found : goal.returns-then-is_goal-clause-found
returns-then-is_goal-clause-found g c =
    let n = rw c.deref.ensures.value at c.in-Some.ensures in
    goal_found g.C.Number.value (g.G.Graph.size c.args.graph.now) (g.G.Graph.places c.args.graph.now) c.args.from (g.T.Goals.passes c.args.goals) c.args.limit c.steps.cut c.steps.entries.items c.steps.node c.steps.place c.steps.marked.items c.steps.invariant
    c.in-Some.end c.in-Some.after n c.push.new.self.items c.push-then-is_goal.new.self.items (sym c.is_goal.ensures ∙ c.if-is_goal.true) c.in_ok-push-in-Some.ensures.items c.in_ok-push-in-Some-2.ensures.items

pub steps-smaller-then-len-limit : goal.steps-smaller-then-len-limit
steps-smaller-then-len-limit g c =
    let n = rw c.deref.ensures.value at c.in-Some.ensures in
    left_enters (2 ^ 64) c.args.limit c.steps.entries.items c.steps.place c.in-Some.after c.steps.node c.push-then-len-limit.new.self.items (omega (arith, n.behind, n.from_first)) (omega (arith, n.fits)) (omega (arith, c.if-len-limit.true, c.len.ensures, c.steps.entries.ok)) c.in_ok-push-in-Some-3.ensures.items

pub steps-preserved-then-len-limit : goal.steps-preserved-then-len-limit
steps-preserved-then-len-limit g c =
    let n = rw c.deref.ensures.value at c.in-Some.ensures in
    searched_into g.C.Number.value (g.G.Graph.size c.args.graph.now) (g.G.Graph.places c.args.graph.now) c.args.from (g.T.Goals.passes c.args.goals) c.args.limit c.steps.cut c.steps.entries.items c.steps.node c.steps.place c.steps.marked.items c.steps.invariant
    c.in-Some.end c.in-Some.after n c.push-then-len-limit.new.self.items (sym c.is_goal.ensures ∙ c.if-is_goal.false) (omega (arith, c.if-len-limit.true, c.len.ensures, c.steps.entries.ok)) c.in_ok-push-in-Some-3.ensures.items

pub steps-smaller-else-len-limit : goal.steps-smaller-else-len-limit
steps-smaller-else-len-limit g c =
    let n = rw c.deref.ensures.value at c.in-Some.ensures in
    left_moves (2 ^ 64) c.args.limit c.steps.entries.items c.steps.place c.in-Some.after (omega (arith, n.behind, n.from_first)) (omega (arith, n.fits))

pub steps-preserved-else-len-limit : goal.steps-preserved-else-len-limit
steps-preserved-else-len-limit g c =
    let n = rw c.deref.ensures.value at c.in-Some.ensures in
    searched_past g.C.Number.value (g.G.Graph.size c.args.graph.now) (g.G.Graph.places c.args.graph.now) c.args.from (g.T.Goals.passes c.args.goals) c.args.limit c.steps.cut c.steps.entries.items c.steps.node c.steps.place c.steps.marked.items c.steps.invariant
    c.in-Some.end c.in-Some.after n (sym c.is_goal.ensures ∙ c.if-is_goal.false) (omega (arith, c.if-len-limit.false, c.len.ensures, c.steps.entries.ok))

pub index_mut-requires-in-None : goal.index_mut-requires-in-None
index_mut-requires-in-None g c =
    let low = node_below g.C.Number.value (g.G.Graph.size c.args.graph.now) (g.G.Graph.places c.args.graph.now) c.args.from (g.T.Goals.passes c.args.goals) c.args.limit c.steps.cut c.steps.entries.items c.steps.node c.steps.place c.steps.marked.items c.steps.invariant in
    omega (arith, low, c.steps.marked.ok)

pub steps-smaller : goal.steps-smaller
steps-smaller g c = left_leaves (2 ^ 64) c.args.limit c.steps.entries.items c.steps.place c.pop.new.self.items c.in-Some-pop.entry c.in-Some-pop.ensures.items

pub steps-preserved : goal.steps-preserved
steps-preserved g c =
    let all = rw c.deref.ensures.value at c.in-None.ensures in
    searched_back g.C.Number.value (g.G.Graph.size c.args.graph.now) (g.G.Graph.places c.args.graph.now) c.args.from (g.T.Goals.passes c.args.goals) c.args.limit c.steps.cut c.steps.entries.items c.steps.node c.steps.place c.steps.marked.items c.steps.invariant
    all c.pop.new.self.items c.in-Some-pop.entry c.in-Some-pop.ensures.items

pub returns-in-None-pop-clause-found : goal.returns-in-None-pop-clause-found
returns-in-None-pop-clause-found g c =
    let all = rw c.deref.ensures.value at c.in-None.ensures in
    none_found g.C.Number.value (g.G.Graph.size c.args.graph.now) (g.G.Graph.places c.args.graph.now) c.args.from (g.T.Goals.passes c.args.goals) c.args.limit c.steps.cut c.steps.entries.items c.steps.node c.steps.place c.steps.marked.items c.steps.invariant
    all c.pop.new.self.items (no_items c.steps.entries.items (omega (arith, c.in-None-pop.ensures.cases, c.steps.entries.ok))) (no_items c.pop.new.self.items (omega (arith, c.in-None-pop.ensures.cases, c.pop.new.self.ok)))

pub index_mut-requires : goal.index_mut-requires
index_mut-requires g c = omega (arith, c.requires.inside, c.requires.wide, c.args.marked.now.ok)

pub next_end-requires-clause-wide : goal.next_end-requires-clause-wide
next_end-requires-clause-wide g c = ap length c.deref.ensures.value ∙ c.steps.invariant.wide

pub returns-in_err-push-in-Some-clause-found : goal.returns-in_err-push-in-Some-clause-found
returns-in_err-push-in-Some-clause-found g c = IfOk-from_err _ _ c.from_residual.ensures.0

pub returns-in_err-push-in-Some-clause-refused : goal.returns-in_err-push-in-Some-clause-refused
returns-in_err-push-in-Some-clause-refused g c = refused_by _ c.from_residual.result c.from_residual.ensures.1

pub returns-in_err-push-in-Some-2-clause-found : goal.returns-in_err-push-in-Some-2-clause-found
returns-in_err-push-in-Some-2-clause-found g c = IfOk-from_err _ _ c.from_residual-in_err-push-in-Some-2.ensures.0

pub returns-in_err-push-in-Some-3-clause-found : goal.returns-in_err-push-in-Some-3-clause-found
returns-in_err-push-in-Some-3-clause-found g c = IfOk-from_err _ _ c.from_residual-in_err-push-in-Some-3.ensures.0

pub overflow_add-len : goal.overflow_add-len
overflow_add-len g c = omega (arith, c.len.ensures, c.steps.entries.ok, c.steps.invariant.short, c.ranges.limit.fits)

pub index_mut-requires-then-len-limit : goal.index_mut-requires-then-len-limit
index_mut-requires-then-len-limit g c =
    let n = rw c.deref.ensures.value at c.in-Some.ensures in
    omega (arith, n.inside, c.steps.invariant.wide, c.steps.marked.ok)
