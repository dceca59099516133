-- Floods: the vertices in reach of a start, where each step leads to a neighbour that passes a test.
use Rattle.std.specs.Prelude.{ℕ, Bool, List}
use Rattle.std.specs.List.{filter}
use Rattle.std.specs.BTreeSet.{BTreeSet}
use Rattle.pf_grid.specs.GridPositions.{Positions}
use Rattle.pf_grid.specs.Steps.{neighbours_of}
use Rattle.pf_matrix.specs.Calls.{GivesInTurn}
use Rattle.pf_matrix.specs.Floods.{HasReached, answer_at}
use Rattle.pf_matrix.specs.Positions.{positions}

-- the vertices beside a vertex that pass
abbrev pub passing_around : Positions → (ℕ × ℕ → Bool) → ℕ × ℕ → List (ℕ × ℕ)
passing_around g passes p = filter passes (neighbours_of g p)

-- the set has exactly the positions that are reached from the start by steps to neighbours that pass
pub record IsFlood (g : Positions) (passes : ℕ × ℕ → Bool) (start : ℕ × ℕ) (reached : BTreeSet (ℕ × ℕ)) : Type 0 where
  pub exactly : HasReached (passing_around g passes) start reached

-- calls of f at all positions inside, the first column first, gave some answers, and the set is the flood from the start by these
abbrev pub IsFloodBy : {F : Type 0} → (F → ℕ × ℕ → Bool → F → Type 0) → F → Positions → ℕ × ℕ → BTreeSet (ℕ × ℕ) → Type 0
IsFloodBy step f g start reached = (answers : List Bool) × GivesInTurn step f (positions g.width g.height) answers × IsFlood g (answer_at g.width g.height answers) start reached
