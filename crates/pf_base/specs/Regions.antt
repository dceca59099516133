-- The nodes that a search may ask of: those in reach of its starts.
use Rattle.std.specs.Prelude.{ℤ, Bool, List}
use Rattle.pf_base.specs.Walks.{IsReachable}
use Rattle.pf_base.specs.Edges.{InReach}
use Rattle.pf_base.specs.Successors.{HasSuccessor}

-- some starts, and the edges or the successors of each node
pub data Region (N : Type 0) : Type 0 where
  along_edges : List N → (N → List (N × ℤ)) → Region N
  along_successors : List N → (N → List N) → Region N

-- x is in reach of the starts
abbrev pub IsIn : {N : Type 0} → (N → N → Bool) → Region N → N → Type 0
IsIn eq (along_edges starts edges) = InReach eq edges starts
IsIn eq (along_successors starts next) = IsReachable eq (HasSuccessor eq next) starts
