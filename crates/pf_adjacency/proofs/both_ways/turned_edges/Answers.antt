use Rattle.std.proofs.Common.{ℕ, suc, ◌≡◌, ◌+◌, ◌∙◌, ◌++◌, ap, arith, List, Option}
use Rattle.pf_adjacency.specs.Reverses.{turned_row, turned_below}
use Rattle.std.proofs.lemmas.Result.{IfOk-from_err}
use Rattle.pf_adjacency.proofs.both_ways.turned_edges.Goals as goal

below_more : {C : Type 0} (places : ℕ → List (Option (ℕ × C))) (node : ℕ) → turned_below places node ++ turned_row node (places node) ≡ turned_below places (node + 1)
below_more places node = let e : suc node ≡ node + 1 = omega arith in ap (turned_below places) e

pub loop-node-init : goal.loop-node-init
loop-node-init g c = c.new-turned.ensures.items

pub add_turned-requires : goal.add_turned-requires
add_turned-requires g c = omega (arith, c.loop-node-test.true, c.len-node-end.ensures)

pub returns-in_err-add_turned : goal.returns-in_err-add_turned
returns-in_err-add_turned g c = IfOk-from_err _ _ c.from_residual.ensures.0

pub loop-node-smaller : goal.loop-node-smaller
loop-node-smaller g c = omega (arith, c.loop-node-test.true)

pub loop-node-preserved : goal.loop-node-preserved
loop-node-preserved g c =
    let places = g.G.Graph.places c.args.graph.now in
    c.in_ok-add_turned.ensures ∙ ap (λ xs. xs ++ turned_row c.loop-node.node (places c.loop-node.node)) c.loop-node.invariant ∙ below_more places c.loop-node.node

pub returns : goal.returns
returns g c =
    let all : c.loop-node.node ≡ g.G.Graph.size c.args.graph.now = omega (arith, c.loop-node-test.false, c.loop-node.auto.node-end, c.len-node-end.ensures) in
    c.loop-node.invariant ∙ ap (turned_below (g.G.Graph.places c.args.graph.now)) all
