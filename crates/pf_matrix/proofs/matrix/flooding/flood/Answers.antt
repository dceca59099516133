use Rattle.std.proofs.Common.{arith, sym, true≢false, subst, ◌<◌, ◌≤◌, ◌∙◌, ◌++◌, ◌∷◌, [], ap, length, ℕ}
use Rattle.std.specs.List.{filter}
use Rattle.pf_matrix.specs.Floods.{answer_at}
use Rattle.pf_matrix.specs.Internal.Flooding.{Spreads}
use Rattle.pf_matrix.specs.Positions.{neighbours_of}
use Rattle.pf_matrix.proofs.FloodLemmas.{flood_alone, flooding_end, flooding_init, flooding_turn, none_outside}
use Rattle.pf_matrix.proofs.matrix.flooding.flood.Goals as goal

pub positions-init : goal.positions-init
positions-init g c = flooding_init c.args.free (λ p. neighbours_of c.args.free.rows c.args.free.columns p.0 p.1 c.args.diagonals) c.args.start c.push.new.self.items
    (c.within_bounds.ensures.0 c.if-not-within_bounds.false)
    (c.in_ok-push.ensures.items ∙ ap (λ ps. ps ++ c.args.start ∷ []) c.new-reached.ensures.items)

pub positions-smaller : goal.positions-smaller
positions-smaller g c =
    let below : c.positions.next < length c.positions.reached.items = omega (arith, c.positions-test.true, c.len.ensures) in
    omega (arith, c.positions.invariant.counted, below)

pub positions-preserved : goal.positions-preserved
positions-preserved g c =
    let first = c.args.free in
    let now = c.positions.free in
    let at = c.index.result.now in
    let f = c.positions.invariant in
    let e = c.in_ok-reach_around.ensures in
    let before = c.positions.reached.items in
    let after = c.reach_around.new.reached.items in
    let free = answer_at now.rows now.columns now.values in
    let left = answer_at now.rows now.columns c.reach_around.new.free.values in
    let below : c.positions.next < length before = omega (arith, c.positions-test.true, c.len.ensures) in
    let spreads = subst (λ (n : ℕ). Spreads (neighbours_of first.rows n at.0 at.1 c.args.diagonals) [] free left before after) f.columns
    (subst (λ (n : ℕ). Spreads (neighbours_of n now.columns at.0 at.1 c.args.diagonals) [] free left before after) f.rows e.spreads) in
    flooding_turn first (λ p. neighbours_of first.rows first.columns p.0 p.1 c.args.diagonals) c.args.start now c.reach_around.new.free before after c.positions.next at f below c.index.ensures e.sizes spreads e.counted

pub set_of-requires : goal.set_of-requires
set_of-requires g c = λ p h.
    let f = c.positions.invariant in
    let at = f.inside p h in
    (rw f.rows at.0, rw f.columns at.1)

pub returns-clause-reached : goal.returns-clause-reached
returns-clause-reached g c =
    let ended : length c.positions.reached.items ≤ c.positions.next = omega (arith, c.positions-test.false, c.len.ensures) in
    record {
      exactly = flooding_end c.args.free (λ p. neighbours_of c.args.free.rows c.args.free.columns p.0 p.1 c.args.diagonals) c.args.start c.positions.free c.positions.reached.items c.positions.next
          c.in_ok-set_of.field-0 c.positions.invariant ended c.in_ok-set_of.ensures;
    }

pub returns-then-not-within_bounds-clause-reached : goal.returns-then-not-within_bounds-clause-reached
returns-then-not-within_bounds-clause-reached g c =
    let rows = c.args.free.rows in
    let columns = c.args.free.columns in
    let passes = answer_at rows columns c.args.free.values in
    record {
      exactly = flood_alone (λ p. filter passes (neighbours_of rows columns p.0 p.1 c.args.diagonals)) c.args.start c.in_ok-set_of_one.field-0
          (ap (filter passes) (none_outside rows columns c.args.diagonals c.args.start (λ at. true≢false (sym (c.within_bounds.ensures.1 at) ∙ c.if-not-within_bounds.true)))) c.in_ok-set_of_one.ensures;
    }
