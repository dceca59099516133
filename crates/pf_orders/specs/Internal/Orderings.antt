-- Where a depth-first walk stands that orders numbers, and what it answers.
use Rattle.std.specs.Prelude.{◌≡◌, ◌⊎◌, ◌<◌, ◌≤◌, ℕ, Bool, true, false, List, [], ◌∷◌, Some, slice_get, Contains, length, map, nat_eq, count_by, replicate, ⊤}
use Rattle.pf_base.specs.Walks.{HasNode, NoRepeats, Follows, end_of}
use Rattle.pf_orders.specs.declared.ordering.Sorting.{Sorting}
use Rattle.pf_orders.specs.declared.ordering.Turn.{Turn}
use Rattle.pf_orders.specs.declared.ordering.Turn.TheVariants.{Enter, Leave}
use Rattle.pf_orders.specs.declared.ordering.Mark.{Mark}
use Rattle.pf_orders.specs.declared.ordering.Mark.TheVariants.{New, Open, Done}

-- a turn that enters each number
abbrev pub entries : List ℕ → List Turn
entries numbers = map (λ (k : ℕ). Turn.Enter k) numbers

-- the turns enter each number below n, and do nothing else
abbrev pub EnterBelow : ℕ → List Turn → Type 0
EnterBelow n turns = ((k : ℕ) → k < n → Contains turns (Turn.Enter k)) × ((t : Turn) → Contains turns t → (k : ℕ) × (k < n) × (t ≡ Turn.Enter k))

-- A walk has entered none of the first numbers, and enters each of them.
pub record IsBegun {A : Type 0} (found : ℕ) (walk : Sorting A) : Type 0 where
  pub marks : walk.marks.items ≡ replicate found Mark.New
  pub turns : EnterBelow found walk.turns.items
  pub left : walk.left.items ≡ []

-- the number that a turn is about
abbrev pub number_of : Turn → ℕ
number_of (Enter k) = k
number_of (Leave k) = k

-- the number has this mark
abbrev pub IsMarked : List Mark → Mark → ℕ → Type 0
IsMarked marks mark k = slice_get marks k ≡ Some mark

abbrev pub was_entered : Mark → Bool
was_entered New = false
was_entered Open = true
was_entered Done = true

-- how many numbers were entered
abbrev pub entered_count : List Mark → ℕ
entered_count marks = count_by was_entered marks

-- some turn leaves the number
abbrev pub IsLeft : List Turn → ℕ → Type 0
IsLeft [] k = ⊥
IsLeft (Enter j ∷ turns) k = IsLeft turns k
IsLeft (Leave j ∷ turns) k = (j ≡ k) ⊎ IsLeft turns k

-- the numbers that turns leave are open, and none is left twice
abbrev pub LeaveOpen : List Mark → List Turn → Type 0
LeaveOpen marks [] = ⊤
LeaveOpen marks (Enter j ∷ turns) = LeaveOpen marks turns
LeaveOpen marks (Leave j ∷ turns) = IsMarked marks Open j × ¬ (IsLeft turns j) × LeaveOpen marks turns

-- all turns are about numbers that were found
abbrev pub AreInside : ℕ → List Turn → Type 0
AreInside found [] = ⊤
AreInside found (turn ∷ turns) = (number_of turn < found) × AreInside found turns

-- What the marks, the numbers that were left (the last one first) and the turns (the next one first) say of one another.
pub record IsSorting (found : ℕ) (marks : List Mark) (left : List ℕ) (turns : List Turn) : Type 0 where
  pub len : length marks ≡ found
  pub inside : AreInside found turns
  pub opened : (k : ℕ) → IsMarked marks Open k → IsLeft turns k
  pub leaving : LeaveOpen marks turns
  pub done : (k : ℕ) → IsMarked marks Done k → HasNode nat_eq left k
  pub was_done : (k : ℕ) → HasNode nat_eq left k → IsMarked marks Done k
  pub once : NoRepeats nat_eq left

module _ {X : Type 0} (successors : X → List X) (stands : ℕ → X → Type 0) where
  -- each node of the number j has a successor of the number k
  abbrev pub Leads : ℕ → ℕ → Type 0
  Leads j k = (x : X) → stands j x → (y : X) × Contains (successors x) y × stands k y

  -- each successor of a node of the number j has a number of this sort
  abbrev pub LeadsInto : ℕ → (ℕ → Type 0) → Type 0
  LeadsInto j sort = (x : X) → stands j x → (y : X) → Contains (successors x) y → (k : ℕ) × sort k × stands k y

  -- each successor of a number's nodes has a number that comes behind it
  abbrev pub IsOrdered : List ℕ → Type 0
  IsOrdered [] = ⊤
  IsOrdered (k ∷ ks) = LeadsInto k (HasNode nat_eq ks) × IsOrdered ks

  -- the number k follows the number that is left next, where there is one
  abbrev pub FollowsOpen : List Turn → ℕ → Type 0
  FollowsOpen [] k = ⊤
  FollowsOpen (Enter j ∷ turns) k = FollowsOpen turns k
  FollowsOpen (Leave j ∷ turns) k = Leads j k

  -- the number of each turn follows the number that is left next after that turn
  abbrev pub IsChained : List Turn → Type 0
  IsChained [] = ⊤
  IsChained (turn ∷ turns) = FollowsOpen turns (number_of turn) × IsChained turns

  -- Where a number is left, its successors have numbers of this sort, or of a turn before. So have the roots in the end.
  abbrev pub IsCovered : ℕ → (ℕ → Type 0) → List Turn → Type 0
  IsCovered roots sort [] = (k : ℕ) → k < roots → sort k
  IsCovered roots sort (Enter j ∷ turns) = IsCovered roots (λ k. sort k ⊎ (k ≡ j)) turns
  IsCovered roots sort (Leave j ∷ turns) = LeadsInto j sort × IsCovered roots (λ k. sort k ⊎ (k ≡ j)) turns

  -- what the turns and the numbers that were left say of the graph
  pub record IsAlong (roots : ℕ) (marks : List Mark) (left : List ℕ) (turns : List Turn) : Type 0 where
    pub ordered : IsOrdered left
    pub chained : IsChained turns
    pub covered : IsCovered roots (IsMarked marks Done) turns

  -- Numbers in order, each once: the roots are among them, and so is what the successors of their nodes have, farther behind.
  pub record IsOrderedReach (roots found : ℕ) (order : List ℕ) : Type 0 where
    pub inside : (k : ℕ) → Contains order k → k < found
    pub once : NoRepeats nat_eq order
    pub ordered : IsOrdered order
    pub all_roots : (k : ℕ) → k < roots → HasNode nat_eq order k

  -- from each node of the number some walk of at least one step leads back to the number
  abbrev pub IsOnNumberedCycle : ℕ → Type 0
  IsOnNumberedCycle k = (x : X) → stands k x → (w : List X) × (1 ≤ length w) × Follows (λ a b. Contains (successors a) b) x w × stands k (end_of x w)
