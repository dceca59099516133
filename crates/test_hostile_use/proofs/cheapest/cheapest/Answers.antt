use Rattle.std.proofs.lemmas.Result.{IfOk-weaker}
use Rattle.test_hostile_use.proofs.cheapest.cheapest.Goals as goal

pub along_all-requires-clause-no_ring : goal.along_all-requires-clause-no_ring
along_all-requires-clause-no_ring g c =
    let r = c.requires.graph in
    IfOk-weaker c.dijkstra_all.result _ _ (λ p w. w.no_ring c.args.goal.now) (c.dijkstra_all.ensures.cheapest r.0 r.3.weighted.edges_answered r.3.weighted.costs)

pub along_partial-requires-clause-no_ring : goal.along_partial-requires-clause-no_ring
along_partial-requires-clause-no_ring g c =
    let r = c.requires.graph in
    IfOk-weaker c.dijkstra_partial.result _ _ (λ f w. w.no_ring) (c.dijkstra_partial.ensures.partial r.0 r.1 r.3.weighted)

pub up_to-requires : goal.up_to-requires
up_to-requires g c =
    let r = c.requires.graph in
    IfOk-weaker c.dijkstra_reach.result _ _ (λ w h. (c.requires.clones, (r.0, c.args.start.now, h r.0 r.3.weighted.edges_answered r.3.weighted.costs))) c.dijkstra_reach.ensures.graph

pub first_of-requires : goal.first_of-requires
first_of-requires g c =
    let r = c.requires.graph in
    IfOk-weaker c.yen_paths.result _ _ (λ w h. (c.requires.clones, (r.0, c.args.start.now, r.1, h r.0 r.1 r.3.weighted))) c.yen_paths.ensures.graph
