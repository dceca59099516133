-- Topological orders and nodes on cycles.
use Rattle.std.specs.Prelude.{Bool, List, [], ◌∷◌, ⊤}
use Rattle.pf_base.specs.Walks.{HasNode, NoRepeats}
use Rattle.pf_base.specs.Successors.{HasSuccessor}
use Rattle.pf_base.specs.Loops.{IsLoop}

module _ {N : Type 0} (eq : N → N → Bool) (successors : N → List N) where
  -- each successor of a node of the list stands behind that node
  abbrev pub LeadsForward : List N → Type 0
  LeadsForward [] = ⊤
  LeadsForward (x ∷ xs) = ((y : N) → HasSuccessor eq successors x y → HasNode eq xs y) × LeadsForward xs

  -- all nodes of this sort, each once, and each edge leads forward
  pub record IsTopologicalOrder (sort : N → Type 0) (order : List N) : Type 0 where
    pub complete : (x : N) → sort x → HasNode eq order x
    pub sound : (x : N) → HasNode eq order x → sort x
    pub distinct : NoRepeats eq order
    pub forward : LeadsForward order

  -- a walk of at least one step leads from the node to itself
  abbrev pub IsOnCycle : N → Type 0
  IsOnCycle x = (walk : List N) × IsLoop eq successors (x ∷ []) walk
