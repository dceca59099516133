-- Paths as references to names.
use Rattle.std.specs.Prelude.{List, Vec, map}
use Rattle.std.specs.Borrow.{Bor}
use Rattle.pf_base.specs.NodeRefs.{nodes_of}

-- the names on these paths, with what the paths cost
abbrev pub named_paths_in : {N C A : Type 0} → List (Vec (Bor N) A × C) → List (List N × C)
named_paths_in {N} {C} {A} items = map (λ (g : Vec (Bor N) A × C). (nodes_of g.0.items, g.1)) items
