-- A tree that grows from a start, each time by the least edge that leaves it. Nodes are the same where `eq` says so.
use Rattle.std.specs.Prelude.{◌≡◌, ◌≢◌, ◌⊎◌, Bool, true, List, ◌∷◌, ◌++◌, Some, Contains, slice_get}
use Rattle.std.specs.Ordering.{ordering_then}
use Rattle.std.specs.declared.cmp.Ordering.{Ordering}
use Rattle.std.specs.declared.cmp.Ordering.TheVariants.{Greater}
use Rattle.pf_graph.specs.Spanning.{JoinedBy, JoinedUnder}

-- one of the edges, of weight w, is written from x to y or from y to x
abbrev pub RunsBetween : {N C : Type 0} → List (N × N × C) → N → N → C → Type 0
RunsBetween edges x y w = Contains edges (x, y, w) ⊎ Contains edges (y, x, w)

-- the first of the edges is written from this node
abbrev pub StartsAt : {N C : Type 0} → List (N × N × C) → N → Type 0
StartsAt {N} {C} edges start = (e : N × N × C) × (slice_get edges 0 ≡ Some e) × (e.0 ≡ start)

-- edges in order of weight, then of their first ends, then of their second ends
abbrev pub edge_order : {N C : Type 0} → (N → N → Ordering) → (C → C → Ordering) → (N × N × C) → (N × N × C) → Ordering
edge_order node_cmp cmp e f = ordering_then (cmp e.2 f.2) (ordering_then (node_cmp e.0 f.0) (node_cmp e.1 f.1))

module _ {N C : Type 0} (eq : N → N → Bool) where
  -- the tree covers x: its start, or the second end of one of its edges
  abbrev pub Covers : N → List (N × N × C) → N → Type 0
  Covers start tree x = (eq start x ≡ true) ⊎ ((e : N × N × C) × Contains tree e × (eq e.1 x ≡ true))

  module _ (node_cmp : N → N → Ordering) (cmp : C → C → Ordering) (edges : List (N × N × C)) (start : N) where
    -- e is written from a covered end to a new end, and is the least of such edges, in either direction
    pub record LeavesByLeast (tree : List (N × N × C)) (e : N × N × C) : Type 0 where
      pub from_covered : Covers start tree e.0
      pub to_new : ¬ (Covers start tree e.1)
      pub least : (x y : N) (w : C) → RunsBetween edges x y w → Covers start tree x → ¬ (Covers start tree y) → edge_order node_cmp cmp e (x, y, w) ≢ Greater

    -- each edge is the least that leaves what the edges before it cover, and no edge leaves what the tree covers
    pub record GrowsByLeast (tree : List (N × N × C)) : Type 0 where
      pub each : (before after : List (N × N × C)) (e : N × N × C) → tree ≡ before ++ e ∷ after → LeavesByLeast before e
      pub none_leaves : (x y : N) (w : C) → RunsBetween edges x y w → Covers start tree x → Covers start tree y

  -- whatever the bound, of the nodes that all edges join to the start, those that the edges within it join, the tree's edges within it join
  pub record IsLeastAround (cmp : C → C → Ordering) (edges : List (N × N × C)) (start : N) (tree : List (N × N × C)) : Type 0 where
    pub joins : (w : C) (x y : N) → JoinedBy eq edges start x → JoinedBy eq edges start y → JoinedUnder eq cmp w edges x y → JoinedUnder eq cmp w tree x y

-- each chosen edge is one of the edges, as written or the other way round, with its weight or a clone of it
pub record AreChosenEitherWay {N C : Type 0} (is_clone : C → C → Type 0) (edges chosen : List (N × N × C)) : Type 0 where
  pub as_written : (e : N × N × C) → Contains chosen e → (w : C) × RunsBetween edges e.0 e.1 w × is_clone w e.2
