-- What contracts say of a lazy walk in preorder.
use Rattle.std.specs.Prelude.{Result, Ok, Err, ◌≡◌, ◌⊎◌, Bool, true, false, Option, Some, None, List, [], ◌∷◌, ◌++◌}
use Rattle.std.proofs.Common.{refl}
use Rattle.std.specs.Coded.{Coded, code_by, coded×, coded_bool, coded_list}
use Rattle.pf_base.specs.Answers.{SameNodes}
use Rattle.pf_base.specs.declared.error.PathError.{PathError}
use Rattle.pf_base.specs.Orders.{found_from, last_nodes, IsNextTreePath, IsPreorder, IsWholePreorder}
use Rattle.pf_base.specs.Walks.{end_of}
use Rattle.pf_core.specs.Hops.{unit_edges}
use Rattle.pf_core.specs.Nodes.{Explores}
use Rattle.pf_discovery.specs.Sources.{AnswersHops}
use Rattle.pf_search.specs.Internal.DepthStack.{DepthStack, stack_code, IsStack}

-- what a caller sees of a walk: the nodes given so far, in order; the nodes found (the start, and each successor of a given node), in the order in which they were found; whether the last step was refused; the function that lists successors; and where the walk stands in its tree path, of which a caller need know nothing
pub record DepthWalk (N F : Type 0) : Type 0 where
  pub given : List N
  pub found : List N
  pub refused : Bool
  pub successors : F
  pub stack : DepthStack

abbrev pub walk_code : {N F : Type 0} → Coded N → Coded F → Coded (DepthWalk N F)
walk_code {N} {F} n f = code_by (List N × (List N × (Bool × (F × DepthStack)))) (coded× (coded_list n) (coded× (coded_list n) (coded× coded_bool (coded× f stack_code))))
    (λ w. (w.given, (w.found, (w.refused, (w.successors, w.stack))))) (λ p. record { given = p.0; found = p.1.0; refused = p.1.1.0; successors = p.1.1.1.0; stack = p.1.1.1.1 }) (λ _. refl)

module _ {N F : Type 0} (eq : N → N → Bool) (next : N → List N) (start : N) where
  -- The walk has gone along these tree paths of the preorder and no further: the given nodes are their last nodes, and what was found is the start and the successors of the given nodes, each once.
  pub record StandsAt (paths : List (List N)) (s : DepthWalk N F) : Type 0 where
    pub preorder : IsPreorder eq next start paths
    pub given : SameNodes eq s.given (last_nodes paths)
    pub found : SameNodes eq s.found (found_from eq next start (last_nodes paths))
    pub stack : IsStack eq next start paths s.found s.stack

  -- What a call of `next` gives behind these tree paths, and how it leaves the walk.
  -- a node: the last node of the next tree path, along which the walk has gone from then on, and one of the given ones
  -- no node: the last step was refused, and the walk stays as it was, or the preorder has ended
  -- a refusal for want of memory, which can come only where a node is left to give: the given and the found nodes stay as they were
  abbrev pub DepthStep : (List (List N) → DepthWalk N F → Type 0) → List (List N) → DepthWalk N F → Option (Result N PathError) → DepthWalk N F → Type 0
  DepthStep walks paths s (Some (Ok node)) t = (s.refused ≡ false) × (t.refused ≡ false) × SameNodes eq t.given (s.given ++ node ∷ []) × ((path : List N) × IsNextTreePath eq next start (last_nodes paths) (end_of [] paths) path × SameNodes eq (last_nodes (path ∷ [])) (node ∷ []) × walks (paths ++ path ∷ []) t)
  DepthStep walks paths s None t = (t.refused ≡ s.refused) × walks paths t × (((s.refused ≡ true) × (t ≡ s)) ⊎ IsWholePreorder eq next paths)
  DepthStep walks paths s (Some (Err refusal)) t = (refusal ≡ PathError.OutOfMemory) × (s.refused ≡ false) × (t.refused ≡ true) × ¬ (IsWholePreorder eq next paths) × SameNodes eq t.given s.given × SameNodes eq t.found s.found × walks paths t

module _ {N F : Type 0} (eq : N → N → Bool) (answers : F → (N → Type 0) → (N → List N) → Type 0) (next : N → List N) (start : N) where
  -- The walk has gone along these tree paths, and its function answers this graph in reach of the start.
  pub record IsDepthWalk (paths : List (List N)) (s : DepthWalk N F) : Type 0 where
    pub stands : StandsAt eq next start paths s
    pub explores : Explores eq (AnswersHops eq answers) (record { starts = start ∷ []; edges = unit_edges next }) s.found (record { function = s.successors })

module _ {N F : Type 0} (eq : N → N → Bool) (answers : F → (N → Type 0) → (N → List N) → Type 0) (s : DepthWalk N F) where
  -- the walk has gone along some tree paths of some graph from some start
  abbrev pub IsSomeDepthWalk : Type 0
  IsSomeDepthWalk = (next : N → List N) × (start : N) × (paths : List (List N)) × IsDepthWalk eq answers next start paths s

  -- of whatever graph, start and tree paths the walk has gone along, P holds
  abbrev pub OfDepthWalk : ((N → List N) → N → List (List N) → Type 0) → Type 0
  OfDepthWalk P = (next : N → List N) (start : N) (paths : List (List N)) → IsDepthWalk eq answers next start paths s → P next start paths
