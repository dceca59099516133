-- The nodes that numbers stand for, and what is asked for their edges.
use Rattle.std.specs.Prelude.{◌≡◌, ◌⊎◌, ◌≤◌, ◌++◌, ℕ, ℤ, Bool, true, List, [], ◌∷◌, Some, slice_get, Contains, take, length}
use Rattle.std.specs.List.{IsDistinct, AllZip}
use Rattle.pf_base.specs.Edges.{HasEdge, InReach}
use Rattle.pf_base.specs.Answers.{ListsEdges}

-- starts, and the edges of each node
pub record NodeGraph (N : Type 0) : Type 0 where
  pub starts : List N
  pub edges : N → List (N × ℤ)

-- a graph, and which nodes are goals
pub record TestedGraph (N : Type 0) : Type 0 where
  pub graph : NodeGraph N
  pub test : N → Bool

module _ {N : Type 0} (eq : N → N → Bool) where
  -- the number k stands for x: the k-th node is the same as x
  abbrev pub StandsFor : List N → ℕ → N → Type 0
  StandsFor keys k x = (m : N) × (slice_get keys k ≡ Some m) × (eq m x ≡ true)

  -- some edge of a, which is in reach, leads to b and costs z
  abbrev pub IsStep : NodeGraph N → N → ℤ → N → Type 0
  IsStep g a z b = InReach eq g.edges g.starts a × HasEdge eq (g.edges a) b z

  -- a node is in the longer list where it was in the shorter one, or is x
  pub record AddsNode (x : N) (keys keys' : List N) : Type 0 where
    pub grown : (keys' ≡ keys) ⊎ (keys' ≡ keys ++ x ∷ [])
    pub longer : length keys ≤ length keys'
    pub kept : take (length keys) keys' ≡ keys
    pub from : (k : ℕ) (m : N) → slice_get keys' k ≡ Some m → slice_get keys k ≡ Some m ⊎ (m ≡ x)
    pub distinct : IsDistinct eq keys → IsDistinct eq keys'

  module _ {C : Type 0} where
    -- the row numbers the nodes of an answer, place by place
    abbrev pub NumbersItems : List N → List (ℕ × C) → List (N × C) → Type 0
    NumbersItems keys = AllZip (λ (r : ℕ × C) (x : N × C). StandsFor keys r.0 x.0 × (r.1 ≡ x.1))

    -- each node of the longer list is one of the shorter or one of the answer
    abbrev pub AddedFrom : List (N × C) → List N → List N → Type 0
    AddedFrom xs keys keys' = (k : ℕ) (m : N) → slice_get keys' k ≡ Some m → slice_get keys k ≡ Some m ⊎ ((c : C) × Contains xs (m, c))

module _ {N S : Type 0} (eq : N → N → Bool) (answers : S → List N → (N → List (N × ℤ)) → Type 0) where
  -- what is asked answers this graph at each node in reach, now and after any calls, and the nodes found are in reach
  pub record Explores (g : NodeGraph N) (keys : List N) (source : S) : Type 0 where
    pub alike : (x y : N) → InReach eq g.edges g.starts x → eq x y ≡ true → ListsEdges eq (λ z. z) (g.edges x) (g.edges y)
    pub answered : answers source g.starts g.edges
    pub distinct : IsDistinct eq keys
    pub reached : (k : ℕ) (x : N) → slice_get keys k ≡ Some x → InReach eq g.edges g.starts x
