-- Edges that refer to their ends.
use Rattle.std.specs.Borrow.{Bor}

-- an edge whose ends are references
abbrev pub shown : {N C : Type 0} → (Bor N × Bor N × C) → N × N × C
shown e = (e.0.now, e.1.now, e.2)
