-- What contracts of private functions say of a lazy walk in breadth order.
use Rattle.std.specs.Prelude.{◌≡◌, ◌≤◌, ◌++◌, ℕ, take, drop, length, Bool, false, List, [], ◌∷◌, Option, Some, None, Result, Ok, Err}
use Rattle.pf_base.specs.declared.error.PathError.{PathError}
use Rattle.pf_base.specs.Answers.{SameNodes}
use Rattle.pf_base.specs.Orders.{IsNextInBreadth, AllGiven}
use Rattle.pf_discovery.specs.declared.discovery.DiscoveryBy.{DiscoveryBy}
use Rattle.pf_discovery.specs.declared.source.Unweighted.{Unweighted}
use Rattle.pf_search.specs.Breadth.{BreadthWalk}

-- the walk that found these nodes, and gave this many of them
abbrev pub walk_at : {N F : Type 0} → List N → ℕ → Bool → F → BreadthWalk N F
walk_at found given refused successors = record { given = take given found; waiting = drop given found; refused = refused; successors = successors }

-- the same of what a discovery found, whose numbering has these nodes, where no step was refused
abbrev pub walk_in : {N M F : Type 0} → (M → List N) → DiscoveryBy M (Unweighted F) → ℕ → BreadthWalk N F
walk_in keys discovery given = walk_at (keys discovery.nodes) given false discovery.source.function

-- the nodes found, where a start that was not put in yet counts as found
abbrev pub found_or : {N : Type 0} → Option N → List N → List N
found_or None nodes = nodes
found_or (Some start) nodes = start ∷ []

-- no node is put in before the start
abbrev pub BeginsEmpty : {N : Type 0} → Option N → List N → Type 0
BeginsEmpty None nodes = Unit {0}
BeginsEmpty (Some start) nodes = nodes ≡ []

-- this many nodes can have been given: no more than were found, and none before the start was put in
abbrev pub IsPlace : {N : Type 0} → Option N → List N → ℕ → Type 0
IsPlace None nodes given = given ≤ length nodes
IsPlace (Some start) nodes given = (nodes ≡ []) × (given ≡ 0)

-- what a step of a walk that was not refused before gives, and how it leaves the walk: a node, no node, or a refusal
module _ {N F : Type 0} (eq : N → N → Bool) (next : N → List N) (start : N) where
  abbrev pub BreadthTurn : BreadthWalk N F → Result (Option N) PathError → BreadthWalk N F → Type 0
  BreadthTurn walk (Ok (Some node)) after = IsNextInBreadth eq next start walk.given node × SameNodes eq after.given (walk.given ++ node ∷ [])
  BreadthTurn walk (Ok None) after = AllGiven eq next start walk.given × (after ≡ walk)
  BreadthTurn walk (Err refusal) after = ¬ (AllGiven eq next start walk.given) × SameNodes eq after.given walk.given × SameNodes eq after.waiting walk.waiting
