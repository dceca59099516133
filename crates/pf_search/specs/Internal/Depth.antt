-- What contracts of private functions say of a lazy walk in preorder.
use Rattle.std.specs.Prelude.{◌≡◌, ◌<◌, ℕ, Bool, List, [], Option, Some, None, slice_get, filter_map, Contains, length}
use Rattle.pf_discovery.specs.declared.depth_first.DepthFirst.{DepthFirst}
use Rattle.pf_search.specs.DepthWalks.{DepthWalk}
use Rattle.pf_search.specs.Internal.DepthStack.{DepthStack}

-- the nodes at these places, in turn
abbrev pub nodes_at : {N : Type 0} → List N → List ℕ → List N
nodes_at nodes places = filter_map (slice_get nodes) places

-- the stack of a walk over numbers
abbrev pub stack_of : {Z : Type 0} → DepthFirst Z → DepthStack
stack_of walk = record { given = walk.given; visited = walk.visited.items; path = walk.path.items; waiting = walk.waiting.items }

-- the walk that found these nodes and has this stack
abbrev pub walk_with : {N F : Type 0} → List N → DepthStack → Bool → F → DepthWalk N F
walk_with found stack refused successors = record { given = nodes_at found stack.given; found = found; refused = refused; successors = successors; stack = stack }

-- these can be the places of the given nodes: they are places of found nodes, and there are none before the start was put in
abbrev pub ArePlaces : {N : Type 0} → Option N → List N → List ℕ → Type 0
ArePlaces None nodes given = (k : ℕ) → Contains given k → k < length nodes
ArePlaces (Some start) nodes given = (nodes ≡ []) × (given ≡ [])
