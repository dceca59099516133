use Rattle.std.proofs.Common.{arith}
use Rattle.pf_residual.proofs.level_paths.is_admissible.Goals as goal

pub bounds-levels-to : goal.bounds-levels-to
bounds-levels-to g c = omega (arith, c.requires.to, c.requires.levels_len)

pub bounds-levels-sink : goal.bounds-levels-sink
bounds-levels-sink g c =
    let inside = (g.met.S.FlowStore.network_law c.args.store.now).sink_in in
    omega (arith, inside, c.sink-sink.ensures, c.requires.levels_len)

pub offset_bounds-levels-to : goal.offset_bounds-levels-to
offset_bounds-levels-to g c = omega (arith, c.requires.to, c.requires.levels_len)

pub offset_bounds-levels-sink : goal.offset_bounds-levels-sink
offset_bounds-levels-sink g c =
    let inside = (g.met.S.FlowStore.network_law c.args.store.now).sink_in in
    omega (arith, inside, c.sink-sink.ensures, c.requires.levels_len)

pub residual_capacity_near-requires-clause-from : goal.residual_capacity_near-requires-clause-from
residual_capacity_near-requires-clause-from g c = c.requires.from

pub residual_capacity_near-requires-clause-to : goal.residual_capacity_near-requires-clause-to
residual_capacity_near-requires-clause-to g c = c.requires.to
