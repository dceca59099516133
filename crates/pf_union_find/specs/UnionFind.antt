-- Disjoint sets of numbered vertices, each set a tree of parents.
use Rattle.std.specs.Prelude.{◌≡◌, ◌⊎◌, ◌↔◌, ◌≤◌, ℕ, List, slice_index_or}

-- the parent of x; a number that is no vertex is its own
abbrev pub parent_of : List ℕ → ℕ → ℕ
parent_of parents x = slice_index_or parents x x

-- x points to itself
abbrev pub IsRoot : List ℕ → ℕ → Type 0
IsRoot parents x = parent_of parents x ≡ x

-- no parent is greater than its child
pub record IsSound (parents : List ℕ) : Type 0 where
  pub falls : (x : ℕ) → parent_of parents x ≤ x

-- each vertex has its parent's label, and a root has its own number
pub record IsLabelling (label : ℕ → ℕ) (parents : List ℕ) : Type 0 where
  pub along : (x : ℕ) → label (parent_of parents x) ≡ label x
  pub at_root : (x : ℕ) → IsRoot parents x → label x ≡ x

-- what had the labels of a and b has one label, and other labels are apart as before
abbrev pub Merges : (ℕ → ℕ) → ℕ → ℕ → (ℕ → ℕ) → Type 0
Merges label a b after = (x y : ℕ) → (after x ≡ after y) ↔ ((label x ≡ label y) ⊎ (((label x ≡ label a) × (label y ≡ label b)) ⊎ ((label x ≡ label b) × (label y ≡ label a))))
