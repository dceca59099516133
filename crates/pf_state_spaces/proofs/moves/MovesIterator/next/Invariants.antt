use Rattle.std.proofs.Common.{◌≡◌, ◌≤◌, ◌-◌, drop, length}
use Rattle.pf_state_spaces.specs.StateSpaces.{moves_in}
use Rattle.pf_state_spaces.proofs.moves.MovesIterator.next.Given as goal

-- no move stands at the places so far
abbrev pub invariant-loop-self : goal.invariant-loop-self
invariant-loop-self g l =
    let s = l.self-inside in
    let t = l.initial.self-inside in
    let places = g.S.StateSpace.moves s.space.now s.state in
    record {
      same : (s.space ≡ t.space) × (s.state ≡ t.state) × (s.end ≡ t.end);
      within : s.next ≤ s.end;
      all : s.end ≡ length places;
      left : moves_in (drop s.next places) ≡ moves_in (drop t.next (g.S.StateSpace.moves t.space.now t.state));
    }

abbrev pub decreases-loop-self : goal.decreases-loop-self
decreases-loop-self g l = l.self-inside.end - l.self-inside.next
