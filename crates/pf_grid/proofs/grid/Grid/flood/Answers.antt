use Rattle.std.proofs.Common.{arith, ◌<◌, ◌≤◌, ◌∙◌, ◌++◌, ◌∷◌, [], ap, length}
use Rattle.pf_matrix.proofs.FloodLemmas.{flooding_end, flooding_init, flooding_turn}
use Rattle.pf_grid.specs.Steps.{neighbours_of}
use Rattle.pf_grid.proofs.grid.Grid.flood.Goals as goal

pub positions-init : goal.positions-init
positions-init g c = flooding_init c.args.free (neighbours_of c.args.self.now) c.args.start c.push.new.self.items (rw c.requires.sizes.0 c.requires.inside.0, rw c.requires.sizes.1 c.requires.inside.1) (c.in_ok-push.ensures.items ∙ ap (λ ps. ps ++ c.args.start ∷ []) c.new-reached.ensures.items)

pub reach_around-requires : goal.reach_around-requires
reach_around-requires g c = record { sizes = (c.positions.invariant.rows ∙ c.requires.sizes.0, c.positions.invariant.columns ∙ c.requires.sizes.1) }

pub positions-smaller : goal.positions-smaller
positions-smaller g c =
    let below : c.positions.next < length c.positions.reached.items = omega (arith, c.positions-test.true, c.len.ensures) in
    omega (arith, c.positions.invariant.counted, below)

pub positions-preserved : goal.positions-preserved
positions-preserved g c =
    let e = c.in_ok-reach_around.ensures in
    let below : c.positions.next < length c.positions.reached.items = omega (arith, c.positions-test.true, c.len.ensures) in
    flooding_turn c.args.free (neighbours_of c.args.self.now) c.args.start c.positions.free c.reach_around.new.free c.positions.reached.items c.reach_around.new.reached.items c.positions.next c.index.result.now
    c.positions.invariant below c.index.ensures e.sizes e.spreads e.counted

pub set_of-requires : goal.set_of-requires
set_of-requires g c = λ p h.
    let f = c.positions.invariant in
    let at = f.inside p h in
    (rw f.rows at.0, rw f.columns at.1)

pub returns-clause-reached : goal.returns-clause-reached
returns-clause-reached g c =
    let ended : length c.positions.reached.items ≤ c.positions.next = omega (arith, c.positions-test.false, c.len.ensures) in
    record {
      exactly = flooding_end c.args.free (neighbours_of c.args.self.now) c.args.start c.positions.free c.positions.reached.items c.positions.next
          c.in_ok-set_of.field-0 c.positions.invariant ended c.in_ok-set_of.ensures;
    }
