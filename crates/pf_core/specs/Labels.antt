-- The labels of a search, by number.
use Rattle.std.specs.Prelude.{◌≡◌, ◌≤ℤ◌, ◌<ℤ◌, ◌+ℤ◌, ◌⊎◌, ◌≢◌, ◌<◌, ◌+◌, ℤ, ℕ, pos, Bool, true, false, List, [], ◌∷◌, length, slice_get, Contains, Option, Some, None, reverse, count_by}
use Rattle.pf_core.specs.declared.labels.Label.{Label}

abbrev pub Labels : Type 0 → Type 0
Labels C = List (Option (Label C))

module _ {C : Type 0} where
  -- the node of number k has the label l
  abbrev pub HasLabel : Labels C → ℕ → Label C → Type 0
  HasLabel xs k l = slice_get xs k ≡ Some (Some l)

  -- is there a label, and is it settled?
  abbrev pub is_settled : Option (Label C) → Bool
  is_settled None = false
  is_settled (Some l) = l.settled

  -- how many labels are settled
  abbrev pub settled_count : Labels C → ℕ
  settled_count xs = count_by is_settled xs

  -- each label is settled
  abbrev pub AllSettled : Labels C → Type 0
  AllSettled labels = (k : ℕ) (l : Label C) → HasLabel labels k l → l.settled ≡ true

  -- each label has depth 0, or is one deeper than the settled label of its parent
  pub record IsTree (labels : Labels C) : Type 0 where
    pub linked : (k : ℕ) (l : Label C) → HasLabel labels k l → (l.depth ≡ 0) ⊎ ((m : Label C) × HasLabel labels l.parent m × (m.settled ≡ true) × (l.depth ≡ m.depth + 1))

  -- the numbers lead from k up to one of depth 0, each the parent of the one before
  abbrev pub Climbs : Labels C → ℕ → List ℕ → Type 0
  Climbs labels k [] = (l : Label C) × HasLabel labels k l × (l.depth ≡ 0)
  Climbs labels k (p ∷ ps) = (l : Label C) × HasLabel labels k l × (l.parent ≡ p) × (0 < l.depth) × Climbs labels p ps

  -- the numbers lead from one of depth 0 to k, each the parent of the next
  pub record IsChain (labels : Labels C) (k : ℕ) (numbers : List ℕ) : Type 0 where
    pub above : List ℕ
    pub climbs : Climbs labels k above
    pub is : numbers ≡ reverse (k ∷ above)

  -- what a search goes by: the costs of paths, or their numbers of steps
  abbrev pub by_cost : (C → ℤ) → C → ℕ → ℤ
  by_cost value c depth = value c

  abbrev pub by_depth : C → ℕ → ℤ
  by_depth c depth = pos depth

  module _ (measure : C → ℕ → ℤ) where
    abbrev pub cost_of : Label C → ℤ
    cost_of l = measure l.cost l.depth

    -- a label is settled, or costs at most t
    abbrev pub IsWithin : Label C → ℤ → Type 0
    IsWithin m t = (m.settled ≡ true) ⊎ (cost_of m ≤ℤ t)

    -- the open label of number k was settled, and no open label costs less
    pub record Settles (k : ℕ) (l : Label C) (labels labels' : Labels C) : Type 0 where
      pub len : length labels' ≡ length labels
      pub was : HasLabel labels k l
      pub opened : l.settled ≡ false
      pub now : HasLabel labels' k (record l { settled = true })
      pub others : (j : ℕ) (m : Label C) → j ≢ k → HasLabel labels j m → HasLabel labels' j m
      pub from : (j : ℕ) (m : Label C) → j ≢ k → HasLabel labels' j m → HasLabel labels j m
      pub least : (j : ℕ) (m : Label C) → HasLabel labels j m → m.settled ≡ false → cost_of l ≤ℤ cost_of m
      pub count : settled_count labels' ≡ settled_count labels + 1

    -- at most the label of number `next` changed: to `new`, which costs less than what was open there
    pub record Lowered (next : ℕ) (new : Label C) (labels labels' : Labels C) : Type 0 where
      pub len : length labels' ≡ length labels
      pub reached : (m : Label C) × HasLabel labels' next m × IsWithin m (cost_of new)
      pub others : (k : ℕ) (l : Label C) → HasLabel labels k l → HasLabel labels' k l ⊎ ((k ≡ next) × (l.settled ≡ false) × (cost_of new <ℤ cost_of l))
      pub from : (k : ℕ) (m : Label C) → HasLabel labels' k m → HasLabel labels k m ⊎ ((k ≡ next) × (m ≡ new))
      pub count : settled_count labels' ≡ settled_count labels

    module _ (worth : C → ℤ) where
      -- m is the label of a node that was reached from the number `parent`, whose label is l, at the price c
      pub record ComesFrom (parent : ℕ) (l : Label C) (c : C) (m : Label C) : Type 0 where
        pub before : m.parent ≡ parent
        pub deeper : m.depth ≡ l.depth + 1
        pub opened : m.settled ≡ false
        pub sum : cost_of m ≡ cost_of l +ℤ worth c

      -- the step's end has a label that is settled, or costs no more
      abbrev pub Covers : Label C → Labels C → ℕ → C → Type 0
      Covers l labels j c = (m : Label C) × HasLabel labels j m × IsWithin m (cost_of l +ℤ worth c)

      -- the labels after one step from the number `parent`, whose label is l
      pub record Stepped (fits : ℤ → Type 0) (parent : ℕ) (l : Label C) (next : ℕ) (price : C) (labels labels' : Labels C) : Type 0 where
        pub len : length labels' ≡ length labels
        pub reached : fits (cost_of l +ℤ worth price) → Covers l labels' next price
        pub others : (k : ℕ) (m : Label C) → HasLabel labels k m → HasLabel labels' k m ⊎ ((k ≡ next) × (m.settled ≡ false) × ((cost_of l +ℤ worth price) <ℤ cost_of m) × fits (cost_of l +ℤ worth price))
        pub from : (k : ℕ) (m : Label C) → HasLabel labels' k m → HasLabel labels k m ⊎ ((k ≡ next) × ComesFrom parent l price m)
        pub count : settled_count labels' ≡ settled_count labels

      -- the labels after the steps of a row
      pub record Relaxed (parent : ℕ) (l : Label C) (row : List (ℕ × C)) (labels labels' : Labels C) : Type 0 where
        pub len : length labels' ≡ length labels
        pub others : (k : ℕ) (m : Label C) → HasLabel labels k m → HasLabel labels' k m ⊎ ((m.settled ≡ false) × ((c : C) × Contains row (k, c) × ((cost_of l +ℤ worth c) <ℤ cost_of m)))
        pub from : (k : ℕ) (m : Label C) → HasLabel labels' k m → HasLabel labels k m ⊎ ((c : C) × Contains row (k, c) × ComesFrom parent l c m)
        pub count : settled_count labels' ≡ settled_count labels

  -- there is room for more labels
  pub record Widened (n : ℕ) (labels labels' : Labels C) : Type 0 where
    pub len : length labels' ≡ n
    pub stays : (k : ℕ) (l : Label C) → HasLabel labels k l → HasLabel labels' k l
    pub from : (k : ℕ) (l : Label C) → HasLabel labels' k l → HasLabel labels k l
    pub count : settled_count labels' ≡ settled_count labels

module _ {C : Type 0} (value : C → ℤ) (fits : ℤ → Type 0) where
  -- the number has a label, or the sum of t and some step of the row to it fits
  abbrev pub IsReached : Labels C → List (ℕ × C) → ℤ → ℕ → Type 0
  IsReached labels row t j = ((m : Label C) × HasLabel labels j m × fits (value m.cost)) ⊎ ((c : C) × Contains row (j, c) × fits (t +ℤ value c))

  -- The labels after the node of a number was settled, whose label is l, the nodes of its row were found, and its steps taken.
  pub record Follows (found number : ℕ) (l : Label C) (row : List (ℕ × C)) (labels labels' : Labels C) : Type 0 where
    pub done : Labels C
    pub settles : Settles (by_cost value) number l labels done
    pub wider : Labels C
    pub wide : Widened found done wider
    pub relaxed : Relaxed (by_cost value) value number l row wider labels'
    pub reached : (j : ℕ) (c : C) → Contains row (j, c) → fits (value l.cost +ℤ value c) → Covers (by_cost value) value l labels' j c
    pub ends : (j : ℕ) (c : C) → Contains row (j, c) → IsReached labels row (value l.cost) j
    pub fit : fits (value l.cost)
