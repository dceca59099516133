use Rattle.std.proofs.Common.{◌≡◌, ℕ, ◌<◌, ◌*◌}
use Rattle.pf_grid.specs.GridPositions.{has}
use Rattle.pf_grid.proofs.grid.traits.GridPartialEq.eq.Given as goal

-- the rows so far are equal
abbrev pub invariant-loop-y : goal.invariant-loop-y
invariant-loop-y g l = (x k : ℕ) → x < l.per_row * 64 → k < l.y → has l.self x k ≡ has l.other x k

abbrev pub invariant-loop-place : goal.invariant-loop-place
invariant-loop-place g l =
    record {
      rows : (x k : ℕ) → x < l.per_row * 64 → k < l.y → has l.self x k ≡ has l.other x k;
      words : (x : ℕ) → x < l.place * 64 → has l.self x l.y ≡ has l.other x l.y;
    }
