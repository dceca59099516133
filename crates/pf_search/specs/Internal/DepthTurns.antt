-- What a step along a preorder gives, which `next` hands on.
use Rattle.std.specs.Prelude.{Result, Ok, Err, Bool, Option, Some, None, List, [], ◌∷◌, ◌++◌}
use Rattle.pf_base.specs.Answers.{SameNodes}
use Rattle.pf_base.specs.Orders.{last_nodes, IsNextTreePath, IsWholePreorder}
use Rattle.pf_base.specs.Walks.{end_of}

module _ {N : Type 0} (eq : N → N → Bool) (next : N → List N) (start : N) where
  -- what a step along the preorder answers: the last node of the next tree path, nothing where the preorder has ended, or a refusal, which can come only where a node is left to give
  abbrev pub DepthGoes : (List (List N) → Type 0) → List (List N) → {E : Type 0} → Result (Option N) E → Type 0
  DepthGoes walks paths (Ok (Some node)) = (path : List N) × IsNextTreePath eq next start (last_nodes paths) (end_of [] paths) path × SameNodes eq (last_nodes (path ∷ [])) (node ∷ []) × walks (paths ++ path ∷ [])
  DepthGoes walks paths (Ok None) = IsWholePreorder eq next paths × walks paths
  DepthGoes walks paths (Err e) = ¬ (IsWholePreorder eq next paths) × walks paths
