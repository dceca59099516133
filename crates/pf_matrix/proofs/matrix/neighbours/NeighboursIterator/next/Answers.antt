use Rattle.std.proofs.Common.{◌≡◌, ◌∙◌, arith, get_or}
use Rattle.pf_matrix.specs.Positions.{around, neighbour_at}
use Rattle.pf_base.specs.declared.shift.Shift.TheVariants.{Before}
use Rattle.pf_matrix.proofs.PositionLemmas.{progress_some, steps_none, steps_some}
use Rattle.pf_matrix.proofs.matrix.neighbours.NeighboursIterator.next.Goals as goal

pub bounds-self-inside-self-inside : goal.bounds-self-inside-self-inside
bounds-self-inside-self-inside c = omega arith

pub offset_bounds-self-inside : goal.offset_bounds-self-inside
offset_bounds-self-inside c = omega arith

pub neighbour-found-requires-clause-row : goal.neighbour-found-requires-clause-row
neighbour-found-requires-clause-row c = c.loop-self.invariant.row (omega arith)

pub neighbour-found-requires-clause-column : goal.neighbour-found-requires-clause-column
neighbour-found-requires-clause-column c = c.loop-self.invariant.column (omega arith)

pub overflow_add-self : goal.overflow_add-self
overflow_add-self c = omega arith

pub loop-self-smaller : goal.loop-self-smaller
loop-self-smaller c = omega arith

pub loop-self-preserved : goal.loop-self-preserved
loop-self-preserved c =
    let i = c.loop-self.invariant in
    let s = c.loop-self.self-inside in
    let found : c.neighbour-found.result ≡ neighbour_at s.rows s.columns s.position.0 s.position.1 s.diagonals (get_or around s.next (Before, Before)) = c.neighbour-found.ensures in
    record {
      next = omega arith;
      row = λ h. i.row (omega arith);
      column = λ h. i.column (omega arith);
      left = steps_none (neighbour_at s.rows s.columns s.position.0 s.position.1 s.diagonals) around s.next (Before, Before) (omega arith) _ c.neighbour-found.result found c.if-is_some.ensures i.left;
    }

pub returns-then-is_some-clause-steps : goal.returns-then-is_some-clause-steps
returns-then-is_some-clause-steps c =
    let s = c.loop-self.self-inside in
    let found : c.neighbour-found.result ≡ neighbour_at s.rows s.columns s.position.0 s.position.1 s.diagonals (get_or around s.next (Before, Before)) = c.neighbour-found.ensures in
    steps_some (neighbour_at s.rows s.columns s.position.0 s.position.1 s.diagonals) around s.next (Before, Before) (omega arith) c.args.self.now c.neighbour-found.result found c.if-is_some.ensures (c.loop-self.invariant.left ∙ c.self.view_is)

pub returns-then-is_some-clause-goes : goal.returns-then-is_some-clause-goes
returns-then-is_some-clause-goes c = progress_some c.args.self.now _ c.neighbour-found.result c.if-is_some.ensures (returns-then-is_some-clause-steps c)
