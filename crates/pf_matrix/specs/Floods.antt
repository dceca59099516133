-- Floods: the positions in reach of a start, where each step leads to a neighbour that passes a test.
use Rattle.std.specs.Prelude.{◌↔◌, ◌&&◌, ℕ, ◌+◌, ◌*◌, Bool, false, nat_eq, nat_lt, List, [], ◌∷◌, Contains, slice_index_or}
use Rattle.std.specs.List.{filter}
use Rattle.std.specs.BTreeSet.{BTreeSet}
use Rattle.pf_base.specs.Walks.{IsReachable}
use Rattle.pf_base.specs.Successors.{HasSuccessor}
use Rattle.pf_matrix.specs.Calls.{GivesInTurn}
use Rattle.pf_matrix.specs.Positions.{neighbours_of, positions_of}
use Rattle.pf_matrix.specs.Tables.{Table}

-- the same row and the same column
abbrev pub same_position : ℕ × ℕ → ℕ × ℕ → Bool
same_position p q = nat_eq p.0 q.0 && nat_eq p.1 q.1

-- the set has exactly the positions that are reached from the start; the start is always one of them
abbrev pub HasReached : (ℕ × ℕ → List (ℕ × ℕ)) → ℕ × ℕ → BTreeSet (ℕ × ℕ) → Type 0
HasReached next start reached = (p : ℕ × ℕ) → Contains reached.keys p ↔ IsReachable same_position (HasSuccessor same_position next) (start ∷ []) p

module _ (rows columns : ℕ) where
  -- whether p is inside and the answer there is yes, where the answers are listed by rows
  abbrev pub answer_at : List Bool → ℕ × ℕ → Bool
  answer_at answers p = nat_lt p.0 rows && (nat_lt p.1 columns && slice_index_or answers (p.0 * columns + p.1) false)

  -- the positions around p that pass, by rows
  abbrev pub passing_around : Bool → (ℕ × ℕ → Bool) → ℕ × ℕ → List (ℕ × ℕ)
  passing_around diagonals passes p = filter passes (neighbours_of rows columns p.0 p.1 diagonals)

  -- the set has exactly the positions that are reached from the start by steps to neighbours that pass
  pub record IsFlood (diagonals : Bool) (passes : ℕ × ℕ → Bool) (start : ℕ × ℕ) (reached : BTreeSet (ℕ × ℕ)) : Type 0 where
    pub exactly : HasReached (passing_around diagonals passes) start reached

-- calls of f at all positions of m, the first row first, gave some answers, and the set is the flood from the start by these
abbrev pub IsFloodBy : {C F : Type 0} → (F → ℕ × ℕ → Bool → F → Type 0) → F → Table C → Bool → ℕ × ℕ → BTreeSet (ℕ × ℕ) → Type 0
IsFloodBy step f m diagonals start reached = (answers : List Bool) × GivesInTurn step f (positions_of m) answers × IsFlood m.rows m.columns diagonals (answer_at m.rows m.columns answers) start reached
