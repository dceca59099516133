use Rattle.std.proofs.Common.{◌≡◌, ℕ, eqb, true, rules, ap}
use Rattle.std.proofs.lemmas.Result.{IfOk-from_err}
use Rattle.std.proofs.lemmas.Iterator.Consumers.{YieldsList-from_first}
use Rattle.pf_base.proofs.Outcomes.{refused_as}
use Rattle.pf_base.proofs.Sources.{gives_chain}
use Rattle.pf_tables.specs.Graphs.{successors_of}
use Rattle.pf_table_functions.proofs.EdgeLemmas.{table_successors}
use Rattle.pf_table_functions.proofs.TableExplores.{table_hops}
use Rattle.pf_table_searches.proofs.loops.bfs_loop.Goals as goal

-- a number is found equal to itself
found_equal : (x y : ℕ) → y ≡ x → eqb x y ≡ true
found_equal x y e = search rules

pub loop_from-requires-clause-graph : goal.loop_from-requires-clause-graph
loop_from-requires-clause-graph g c =
    let value = g.C.Number.value in
    let table = c.args.graph.now in
    let starts = c.args.starts.now in
    let e = c.in_ok-found.ensures in (
      successors_of value (g.G.Graph.size table) (g.G.Graph.places table),
      starts,
      rw c.hop_discovery.ensures (table_hops value g.G.Graph.size g.G.Graph.places table starts c.in-Some.found (rw c.in-Some.is at e.distinct) (rw c.in-Some.is at e.same)),
    )

pub bfs_loop-requires-clause-graph : goal.bfs_loop-requires-clause-graph
bfs_loop-requires-clause-graph g c =
    let size = g.G.Graph.size c.args.graph.now in
    let places = g.G.Graph.places c.args.graph.now in (
      successors_of g.C.Number.value size places,
      table_successors g.C.Number.value size places (λ x w. tt)
          (λ x r t w k. (ap (λ (q : _). (q, record {})) k.met.1, gives_chain (λ it b. (tt, tt, YieldsList-from_first (λ e. e) (λ es. es) _ (search rules))))),
    )

pub returns-in-Some-clause-best : goal.returns-in-Some-clause-best
unfolding loop_from-requires-clause-graph
returns-in-Some-clause-best g c =
    let p = loop_from-requires-clause-graph g c.before.before.before.before in
    c.loop_from.ensures.best p.0 p.1 p.2 (rw c.hop_discovery.ensures (rw c.in-Some.is at c.in_ok-found.ensures.same))

pub returns-in-None-clause-best : goal.returns-in-None-clause-best
unfolding bfs_loop-requires-clause-graph
returns-in-None-clause-best g c = let p = bfs_loop-requires-clause-graph g c.before in c.bfs_loop.ensures.best p.0 p.1

pub returns-in_err-found-clause-best : goal.returns-in_err-found-clause-best
returns-in_err-found-clause-best g c = IfOk-from_err _ _ c.from_residual.ensures.0

pub returns-in_err-found-clause-errors : goal.returns-in_err-found-clause-errors
returns-in_err-found-clause-errors g c = refused_as _ c.from_residual.result _ c.from_residual.ensures.1 c.in_err-found.ensures.refused

pub loop_from-requires-clause-clones : goal.loop_from-requires-clause-clones
loop_from-requires-clause-clones g c = found_equal

pub bfs_loop-requires-clause-clones : goal.bfs_loop-requires-clause-clones
bfs_loop-requires-clause-clones g c = found_equal

pub returns-in-None-clause-errors : goal.returns-in-None-clause-errors
returns-in-None-clause-errors g c = c.bfs_loop.ensures.errors
