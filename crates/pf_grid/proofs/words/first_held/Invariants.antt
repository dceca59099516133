use Rattle.std.proofs.Common.{◌≡◌, ℕ, ◌+◌, ◌*◌, ◌-◌, ◌<◌, ◌≤◌, false}
use Rattle.pf_grid.specs.Internal.Words.{held}
use Rattle.pf_grid.proofs.words.first_held.Given as goal

-- the bits so far are of no vertex
abbrev pub invariant-loop-word : goal.invariant-loop-word
invariant-loop-word l =
    record {
      from : l.from < 64;
      first : l.x ≤ l.word * 64 + l.from;
      none : (j : ℕ) → l.x ≤ j → j < l.word * 64 + l.from → held l.words l.per_row l.inverted j l.y ≡ false;
    }

abbrev pub decreases-loop-word : goal.decreases-loop-word
decreases-loop-word l = l.per_row - l.word
