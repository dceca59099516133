-- What contracts say of a lazy walk in breadth order.
use Rattle.std.specs.Prelude.{◌≡◌, ◌⊎◌, ◌++◌, Bool, true, false, List, [], ◌∷◌, Option, Some, None, Result, Ok, Err, refl}
use Rattle.std.specs.Coded.{Coded, code_by, coded×, coded_bool, coded_list}
use Rattle.pf_base.specs.declared.error.PathError.{PathError}
use Rattle.pf_base.specs.Walks.{IsReachable}
use Rattle.pf_base.specs.Successors.{HasSuccessor}
use Rattle.pf_base.specs.Answers.{SameNodes}
use Rattle.pf_base.specs.Orders.{found_from, IsNextInBreadth, IsBreadthOrder, AllGiven}

-- what a caller sees of a walk: the nodes given so far; the nodes found and not yet given, in the order in which they were found; whether the last step was refused; and the function that lists successors
pub record BreadthWalk (N F : Type 0) : Type 0 where
  pub given : List N
  pub waiting : List N
  pub refused : Bool
  pub successors : F

abbrev pub breadth_walk_code : {N F : Type 0} → Coded N → Coded F → Coded (BreadthWalk N F)
breadth_walk_code {N} {F} n f = code_by (List N × (List N × (Bool × F))) (coded× (coded_list n) (coded× (coded_list n) (coded× coded_bool f))) (λ w. (w.given, (w.waiting, (w.refused, w.successors))))
    (λ p. record { given = p.0; waiting = p.1.0; refused = p.1.1.0; successors = p.1.1.1 }) (λ _. refl)

module _ {N F : Type 0} (eq : N → N → Bool) (answers : F → (N → Type 0) → (N → List N) → Type 0) (next : N → List N) (start : N) where
  -- The walk is one of this graph from this start: its function answers the graph in reach, the given nodes are a beginning of the breadth order, and what was found is the start and the successors of the given nodes, each once.
  pub record IsBreadthWalk (walk : BreadthWalk N F) : Type 0 where
    pub answered : answers walk.successors (IsReachable eq (HasSuccessor eq next) (start ∷ [])) next
    pub ordered : IsBreadthOrder eq next start walk.given
    pub found : SameNodes eq (walk.given ++ walk.waiting) (found_from eq next start walk.given)

module _ {N F : Type 0} (eq : N → N → Bool) (answers : F → (N → Type 0) → (N → List N) → Type 0) (walk : BreadthWalk N F) where
  -- the walk is one of some graph from some start
  abbrev pub IsSomeBreadthWalk : Type 0
  IsSomeBreadthWalk = (next : N → List N) × (start : N) × IsBreadthWalk eq answers next start walk

  -- of whatever graph and start the walk is one, P holds
  abbrev pub OfBreadthWalk : ((N → List N) → N → Type 0) → Type 0
  OfBreadthWalk P = (next : N → List N) (start : N) → IsBreadthWalk eq answers next start walk → P next start

-- What a call of `next` gives, and how it leaves the walk.
module _ {N F : Type 0} (eq : N → N → Bool) (next : N → List N) (start : N) where
  -- a node: the next in breadth order, which is one of the given ones from then on
  -- no node: the last step was refused, or all that was found was given; the walk stays as it was
  -- a refusal for want of memory, which can come only where a node is left to give: the given and the waiting nodes stay as they were
  abbrev pub BreadthStep : BreadthWalk N F → Option (Result N PathError) → BreadthWalk N F → Type 0
  BreadthStep walk (Some (Ok node)) after = (walk.refused ≡ false) × (after.refused ≡ false) × IsNextInBreadth eq next start walk.given node × SameNodes eq after.given (walk.given ++ node ∷ [])
  BreadthStep walk None after = ((walk.refused ≡ true) ⊎ AllGiven eq next start walk.given) × (after ≡ walk)
  BreadthStep walk (Some (Err refusal)) after = (refusal ≡ PathError.OutOfMemory) × (walk.refused ≡ false) × (after.refused ≡ true) × ¬ (AllGiven eq next start walk.given) × SameNodes eq after.given walk.given × SameNodes eq after.waiting walk.waiting
