-- What the search for a best assignment keeps true: rows matched one after another, potentials that
-- bound the weights from above, and a tree of shortest augmenting paths from the row that is matched next.
use Rattle.std.specs.Prelude.{◌≡◌, ◌≤ℤ◌, ◌<ℤ◌, ◌+ℤ◌, ◌-ℤ◌, ◌⊎◌, ℕ, zero, suc, ◌<◌, ◌≤◌, ◌≢◌, ℤ, pos, neg_ℤ, Bool, true, false, List, length, Option, Some, None, slice_index, slice_index_or}
use Rattle.pf_base.specs.Places.{number}
use Rattle.pf_assignment.specs.Assignments.{NumberTable, WeightsFit}
use Rattle.pf_assignment.specs.declared.kuhn_munkres.matching.Matching.{Matching}
use Rattle.pf_assignment.specs.declared.kuhn_munkres.tree.Tree.{Tree}

-- the row that has column j, if one has it
abbrev pub holder : List (Option ℕ) → ℕ → Option ℕ
holder row_of j = slice_index_or row_of j None

-- was column j visited?
abbrev pub flag : List Bool → ℕ → Bool
flag visited j = slice_index_or visited j false

-- the first n rows have columns of their own
pub record IsMatching (n columns : ℕ) (col : ℕ → ℕ) (held : ℕ → Option ℕ) : Type 0 where
  pub inside : (i : ℕ) → i < n → col i < columns
  pub back : (i : ℕ) → i < n → held (col i) ≡ Some i
  pub from : (i j : ℕ) → held j ≡ Some i → (i < n) × (col i ≡ j)

-- potentials of rows and columns bound the weights of the first n rows, and are exact at matched pairs
pub record IsPotential (a : ℕ → ℕ → ℤ) (n columns : ℕ) (col : ℕ → ℕ) (held : ℕ → Option ℕ) (u v : ℕ → ℤ) : Type 0 where
  pub above : (i j : ℕ) → i < n → j < columns → a i j ≤ℤ (u i +ℤ v j)
  pub tight : (i : ℕ) → i < n → u i +ℤ v (col i) ≡ a i (col i)
  pub non_negative : (j : ℕ) → j < columns → pos 0 ≤ℤ v j
  pub free : (j : ℕ) → j < columns → held j ≡ None → v j ≡ pos 0

-- how far the row at a place of the tree is from its root: 0, or the distance of its column
abbrev pub reach : (ℕ → ℤ) → (ℕ → ℕ) → (ℕ → ℕ) → ℕ → ℤ
reach d col rows zero = pos 0
reach d col rows (suc p) = d (col (rows (suc p)))

-- the lengths of shortest alternating paths to all columns over the rows of a tree, whose root is row n, the next to be matched.
-- A visited column stands in the tree by its row; no column outside is nearer.
pub record IsShortestPathTree (a : ℕ → ℕ → ℤ) (n columns : ℕ) (col : ℕ → ℕ) (held : ℕ → Option ℕ) (u v : ℕ → ℤ) (count : ℕ) (rows : ℕ → ℕ) (visited : ℕ → Bool) (d : ℕ → ℤ) (place : ℕ → ℕ) : Type 0 where
  pub rooted : 0 < count
  pub first : rows 0 ≡ n
  pub row : (p : ℕ) → 0 < p → p < count → (rows p < n) × (visited (col (rows p)) ≡ true)
  pub once : (p q : ℕ) → p < count → q < count → rows p ≡ rows q → p ≡ q
  pub reached : (i : ℕ) → i < n → visited (col i) ≡ true → (p : ℕ) × (0 < p) × (p < count) × (rows p ≡ i)
  pub matched : (j : ℕ) → visited j ≡ true → (i : ℕ) × (held j ≡ Some i)
  pub below : (p j : ℕ) → p < count → j < columns → (d j +ℤ a (rows p) j) ≤ℤ (reach d col rows p +ℤ u (rows p) +ℤ v j)
  pub along : (j : ℕ) → j < columns → (place j < count) × (d j +ℤ a (rows (place j)) j ≡ reach d col rows (place j) +ℤ u (rows (place j)) +ℤ v j)
  pub before : (p : ℕ) → 0 < p → p < count → place (col (rows p)) < p
  pub near : (i j : ℕ) → i < columns → j < columns → visited i ≡ true → visited j ≡ false → d i ≤ℤ d j
  pub low : (w : ℕ) → ((j : ℕ) → j < columns → a n j ≤ℤ pos w) → (j : ℕ) → j < columns → neg_ℤ (pos w) ≤ℤ d j

-- the column is outside the tree, and none outside is nearer
pub record IsNearest (columns : ℕ) (visited : ℕ → Bool) (d : ℕ → ℤ) (c : ℕ) : Type 0 where
  pub inside : c < columns
  pub outside : visited c ≡ false
  pub least : (j : ℕ) → j < columns → visited j ≡ false → d c ≤ℤ d j

-- a distance and its place stay, or both become those of the path over a row, where that is shorter
abbrev pub IsRelaxed : Bool → ℤ → ℕ → ℤ → ℕ → ℤ → ℕ → Type 0
IsRelaxed visited through by d place d' place' =
    ((d' ≡ d) × (place' ≡ place) × ((visited ≡ true) ⊎ (d ≤ℤ through)))
    ⊎ ((d' ≡ through) × (place' ≡ by) × (visited ≡ false) × (through <ℤ d))

-- the distances before and after the row was scanned, `offset` away
pub record IsScanned (a : ℕ → ℕ → ℤ) (columns row by : ℕ) (offset : ℤ) (v : ℕ → ℤ) (visited : ℕ → Bool) (d : ℕ → ℤ) (place : ℕ → ℕ) (d' : ℕ → ℤ) (place' : ℕ → ℕ) : Type 0 where
  pub relaxed : (j : ℕ) → j < columns → IsRelaxed (visited j) (offset +ℤ v j -ℤ a row j) by (d j) (place j) (d' j) (place' j)

-- all columns are unvisited, as far as can be, and have place 0
pub record IsFresh (top : ℤ) (columns : ℕ) (visited : ℕ → Bool) (d : ℕ → ℤ) (place : ℕ → ℕ) : Type 0 where
  pub unvisited : (j : ℕ) → visited j ≡ false
  pub far : (j : ℕ) → j < columns → d j ≡ top
  pub root : (j : ℕ) → j < columns → place j ≡ 0

-- the rows of a tree by their places, each but the first matched to a column whose place is before it
pub record IsAlternatingTree (n columns count : ℕ) (col : ℕ → ℕ) (rows : ℕ → ℕ) (place : ℕ → ℕ) : Type 0 where
  pub rooted : 0 < count
  pub row : (p : ℕ) → 0 < p → p < count → rows p < n
  pub once : (p q : ℕ) → p < count → q < count → rows p ≡ rows q → p ≡ q
  pub inside : (j : ℕ) → j < columns → place j < count
  pub before : (p : ℕ) → 0 < p → p < count → place (col (rows p)) < p

-- the column c, or a column that is matched to a row of the tree
abbrev pub IsOnTree : ℕ → (ℕ → ℕ) → (ℕ → ℕ) → ℕ → ℕ → Type 0
IsOnTree count col rows c j = (j ≡ c) ⊎ ((p : ℕ) × (0 < p) × (p < count) × (col (rows p) ≡ j))

-- the augmenting path to column c, flipped: the first n rows are matched again, those on the path to the
-- columns that follow them, and column `left`, which follows the root, is left for it
pub record IsFlipped (n columns count c : ℕ) (col : ℕ → ℕ) (held : ℕ → Option ℕ) (rows place : ℕ → ℕ) (col' : ℕ → ℕ) (held' : ℕ → Option ℕ) (left : ℕ) : Type 0 where
  pub inside : (i : ℕ) → i < n → col' i < columns
  pub back : (i : ℕ) → i < n → held' (col' i) ≡ Some i
  pub apart : (i : ℕ) → i < n → col' i ≢ left
  pub from : (i j : ℕ) → held' j ≡ Some i → j ≢ left → (i < n) × (col' i ≡ j)
  pub new : (i : ℕ) → i < n → (col' i ≡ col i) ⊎ ((rows (place (col' i)) ≡ i) × IsOnTree count col rows c (col' i))
  pub free : (j : ℕ) → held' j ≡ None → held j ≡ None
  pub within : left < columns
  pub on_tree : IsOnTree count col rows c left

-- `IsFlipped` of the lists of columns, of rows, of the rows of a tree and of places, before and after
abbrev pub AreFlipped : List ℕ → List (Option ℕ) → List ℕ → List ℕ → ℕ → List ℕ → List (Option ℕ) → ℕ → Type 0
AreFlipped column_of row_of rows places c column_of' row_of' left = IsFlipped (length column_of) (length row_of) (length rows) c (slice_index column_of) (holder row_of) (slice_index rows) (slice_index places) (slice_index column_of') (holder row_of') left

-- a potential, with a number more where the column was visited
abbrev pub raised : Bool → ℤ → ℤ → ℤ
raised true x by = x +ℤ by
raised false x by = x

-- how far a depth is above the distance of a column
abbrev pub gain : {C : Type 0} → (C → ℤ) → C → List C → ℕ → ℤ
gain value depth ds j = value depth -ℤ number value ds j

-- the potentials of columns before and after: the visited ones are raised by their gain
abbrev pub AreRaised : {C : Type 0} → (C → ℤ) → C → List C → List Bool → List C → List C → Type 0
AreRaised value depth ds visited vs vs' = (j : ℕ) → j < length vs → number value vs' j ≡ raised (flag visited j) (number value vs j) (gain value depth ds j)

-- the potentials of rows before and after: those whose column was visited are lowered by its gain
abbrev pub AreLowered : {C : Type 0} → (C → ℤ) → C → List C → List Bool → List ℕ → List C → List C → Type 0
AreLowered value depth ds visited column_of us us' = (i : ℕ) → i < length column_of → number value us' i ≡ raised (flag visited (slice_index column_of i)) (number value us i) (neg_ℤ (gain value depth ds (slice_index column_of i)))

-- what potentials of rows are lowered to fits
abbrev pub LoweredFit : {C : Type 0} → (C → ℤ) → (ℤ → Type 0) → C → List C → List Bool → List ℕ → List C → Type 0
LoweredFit value fits depth ds visited column_of us = (i : ℕ) → i < length column_of → flag visited (slice_index column_of i) ≡ true → fits (number value us i -ℤ gain value depth ds (slice_index column_of i))

-- low is a weight or its negation
abbrev pub IsEither : ℤ → ℤ → Type 0
IsEither low weight = (low ≡ weight) ⊎ (low ≡ neg_ℤ weight)

-- low is at most a weight and its negation
abbrev pub IsBeyond : ℤ → ℤ → Type 0
IsBeyond low weight = (low ≤ℤ weight) × (low ≤ℤ neg_ℤ weight)

-- the value of the number z, or none where it does not fit
abbrev pub IsExact : {C : Type 0} → (C → ℤ) → (ℤ → Type 0) → ℤ → Option C → Type 0
IsExact value fits z None = ¬ (fits z)
IsExact value fits z (Some x) = fits z × (value x ≡ z)

module _ {C : Type 0} (value : C → ℤ) (t : NumberTable) (column_of : List ℕ) (row_of : List (Option ℕ)) (us vs : List C) where
  -- rows are matched one after another under potentials
  pub record IsMatched : Type 0 where
    pub matching : IsMatching (length column_of) t.columns (slice_index column_of) (holder row_of)
    pub potential : IsPotential t.at (length column_of) t.columns (slice_index column_of) (holder row_of) (number value us) (number value vs)
    pub wide : length row_of ≡ t.columns
    pub columns : length vs ≡ t.columns
    pub rows : length us ≡ length column_of

  -- a row is left to be matched next, whose potential counts as 0 until then, and the numbers that it takes fit
  pub record IsNext (fits : ℤ → Type 0) : Type 0 where
    pub matched : IsMatched
    pub left : length column_of < t.rows
    pub shape : t.rows ≤ t.columns
    pub fit : WeightsFit fits t

  -- these rows, visited columns, distances and places are a tree for the next row
  pub record IsTreeOf (rows : List ℕ) (visited : List Bool) (ds : List C) (places : List ℕ) : Type 0 where
    pub tree : IsShortestPathTree t.at (length column_of) t.columns (slice_index column_of) (holder row_of) (number value us) (number value vs) (length rows) (slice_index rows) (flag visited) (number value ds) (slice_index places)
    pub visited_len : length visited ≡ t.columns
    pub distances_len : length ds ≡ t.columns
    pub places_len : length places ≡ t.columns

-- What the words above say of the lists that a matching `m` and a tree `s` hold.
module _ {C A : Type 0} where
  -- a tree has so many columns
  abbrev pub IsWide : ℕ → Tree C A → Type 0
  IsWide columns s = length s.visited.items ≡ columns

  module _ (value : C → ℤ) where
    -- the length of the shortest path to column j
    abbrev pub distance_to : Tree C A → ℕ → ℤ
    distance_to s j = number value s.distances.items j

    -- `IsNearest` of the columns of a tree
    abbrev pub IsNearestIn : ℕ → Tree C A → ℕ → Type 0
    IsNearestIn columns s c = IsNearest columns (flag s.visited.items) (number value s.distances.items) c

    -- `IsRelaxed` of column j of a tree before and after
    abbrev pub IsRelaxedIn : ℤ → ℕ → Tree C A → Tree C A → ℕ → Type 0
    IsRelaxedIn through by s s' j = IsRelaxed false through by (number value s.distances.items j) (slice_index s.places.items j) (number value s'.distances.items j) (slice_index s'.places.items j)

    -- `IsFresh` of a tree
    abbrev pub IsFreshIn : ℤ → ℕ → Tree C A → Type 0
    IsFreshIn top columns s = IsFresh top columns (flag s.visited.items) (number value s.distances.items) (slice_index s.places.items)

    module _ (t : NumberTable) (m : Matching C A) where
      -- `IsMatched` of a matching
      abbrev pub IsMatchedIn : Type 0
      IsMatchedIn = IsMatched value t m.column_of.items m.row_of.items m.row_potentials.items m.column_potentials.items

      -- `IsNext` of a matching
      abbrev pub IsNextIn : (ℤ → Type 0) → Type 0
      IsNextIn = IsNext value t m.column_of.items m.row_of.items m.row_potentials.items m.column_potentials.items

      -- `IsTreeOf` of a matching and a tree
      abbrev pub IsTreeIn : Tree C A → Type 0
      IsTreeIn s = IsTreeOf value t m.column_of.items m.row_of.items m.row_potentials.items m.column_potentials.items s.rows.items s.visited.items s.distances.items s.places.items

      -- a tree for the next row, and its column that is to be visited next
      pub record IsTreeTo (s : Tree C A) (column : ℕ) : Type 0 where
        pub tree : IsTreeIn s
        pub nearest : IsNearestIn t.columns s column

      -- the row can be scanned, `offset` away: a column was not visited, and the numbers fit that are computed at each such column
      pub record CanScan (fits : ℤ → Type 0) (s : Tree C A) (row : ℕ) (offset : ℤ) : Type 0 where
        pub inside : row < t.rows
        pub row_of : length m.row_of.items ≡ t.columns
        pub potentials : length m.column_potentials.items ≡ t.columns
        pub wide : IsWide t.columns s
        pub left : (j : ℕ) × (j < t.columns) × (flag s.visited.items j ≡ false)
        pub sum : (j : ℕ) → j < t.columns → flag s.visited.items j ≡ false → fits (offset +ℤ number value m.column_potentials.items j)
        pub difference : (j : ℕ) → j < t.columns → flag s.visited.items j ≡ false → fits (offset +ℤ number value m.column_potentials.items j -ℤ t.at row j)

      -- `IsScanned` of a tree before and after
      abbrev pub IsScannedIn : ℕ → ℕ → ℤ → Tree C A → Tree C A → Type 0
      IsScannedIn row by offset s s' = IsScanned t.at t.columns row by offset (number value m.column_potentials.items) (flag s.visited.items) (number value s.distances.items) (slice_index s.places.items) (number value s'.distances.items) (slice_index s'.places.items)
