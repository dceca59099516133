-- Numbers in groups, by rounds: each round takes the numbers whose last predecessor was taken in the round before.
use Rattle.std.specs.Prelude.{◌≡◌, ◌⊎◌, ◌<◌, ◌≤◌, ◌+◌, ℕ, Bool, List, [], Some, Vec, length, slice_get, nat_eq, nat_lt, count_by}
use Rattle.std.specs.List.{sum_by, AllZip}
use Rattle.pf_base.specs.Walks.{HasNode, NoRepeats}
use Rattle.pf_core.specs.Nodes.{StandsFor}
use Rattle.pf_orders.specs.GroupDepths.{InGroup}

-- how often the number stands in the list
abbrev pub times : ℕ → List ℕ → ℕ
times j row = count_by (nat_eq j) row

module _ {A : Type 0} where
  -- how often the number stands in the rows
  abbrev pub times_in : ℕ → List (Vec ℕ A) → ℕ
  times_in j rows = sum_by (λ (row : Vec ℕ A). times j row.items) rows

  -- the row of number i has the number j
  abbrev pub Targets : List (Vec ℕ A) → ℕ → ℕ → Type 0
  Targets rows i j = (row : Vec ℕ A) × (slice_get rows i ≡ Some row) × HasNode nat_eq row.items j

  -- each count says how often its number stands in the rows, and the rows have no other numbers
  pub record AreCounted (rows : List (Vec ℕ A)) (counts : List ℕ) : Type 0 where
    pub counted : (j : ℕ) → j < length counts → slice_get counts j ≡ Some (times_in j rows)
    pub inside : (i j : ℕ) → Targets rows i j → j < length counts

  -- the rows of n numbers, none of which leads beyond them, and their counts
  pub record AreRead (n found : ℕ) (rows : List (Vec ℕ A)) (counts : List ℕ) : Type 0 where
    pub same : found ≡ n
    pub counted : AreCounted rows counts
    pub wide : length rows ≡ n
    pub long : length counts ≡ n

-- how many counts are above 0
abbrev pub waiting_count : List ℕ → ℕ
waiting_count counts = count_by (nat_lt 0) counts

-- the counts fell by the numbers of a row
pub record Falls (row counts counts' : List ℕ) : Type 0 where
  pub len : length counts' ≡ length counts
  pub fell : (j c : ℕ) → slice_get counts j ≡ Some c → (d : ℕ) × (slice_get counts' j ≡ Some d) × (c ≡ d + times j row)

-- numbers whose counts fell to 0, each once
pub record AreFreed (counts counts' freed : List ℕ) : Type 0 where
  pub now : (j : ℕ) → HasNode nat_eq freed j → slice_get counts' j ≡ Some 0 × ((c : ℕ) × (slice_get counts j ≡ Some c) × (0 < c))
  pub all : (j c : ℕ) → slice_get counts j ≡ Some c → 0 < c → slice_get counts' j ≡ Some 0 → HasNode nat_eq freed j
  pub once : NoRepeats nat_eq freed
  pub fewer : waiting_count counts' + length freed ≡ waiting_count counts

module _ {A : Type 0} where
  -- The rows of the numbers of a group were taken out, and the counts fell by them; `next` has the numbers that were freed.
  pub record IsRound (group next counts counts' : List ℕ) (rows rows' : List (Vec ℕ A)) : Type 0 where
    pub len : length counts' ≡ length counts
    pub wide : length rows' ≡ length rows
    pub counted : AreCounted rows' counts'
    pub taken : (i j : ℕ) → HasNode nat_eq group i → ¬ (Targets rows' i j)
    pub others : (i j : ℕ) → Targets rows i j → HasNode nat_eq group i ⊎ Targets rows' i j
    pub from : (i j : ℕ) → Targets rows' i j → Targets rows i j
    pub falls : (j c : ℕ) → slice_get counts j ≡ Some c → (d : ℕ) × (slice_get counts' j ≡ Some d) × (d ≤ c)
    pub freed : AreFreed counts counts' next
    pub by_group : (j : ℕ) → HasNode nat_eq next j → (i : ℕ) × HasNode nat_eq group i × Targets rows i j

  -- The numbers below n in groups: each is one group behind the last of its predecessors. What remains has a predecessor that remains.
  pub record AreLevels (n : ℕ) (rows groups : List (Vec ℕ A)) (remaining : List ℕ) : Type 0 where
    pub below : (k j : ℕ) → InGroup nat_eq groups k j → j < n
    pub left_below : (j : ℕ) → HasNode nat_eq remaining j → j < n
    pub every : (j : ℕ) → j < n → ((k : ℕ) × InGroup nat_eq groups k j) ⊎ HasNode nat_eq remaining j
    pub full : (k : ℕ) (group : Vec ℕ A) → slice_get groups k ≡ Some group → ¬ (group.items ≡ [])
    pub once : (k : ℕ) (group : Vec ℕ A) → slice_get groups k ≡ Some group → NoRepeats nat_eq group.items
    pub left_once : NoRepeats nat_eq remaining
    pub before : (k i j : ℕ) → InGroup nat_eq groups k j → Targets rows i j → (m : ℕ) × (m < k) × InGroup nat_eq groups m i
    pub behind : (k j : ℕ) → InGroup nat_eq groups (k + 1) j → (i : ℕ) × InGroup nat_eq groups k i × Targets rows i j
    pub left_behind : (j : ℕ) → HasNode nat_eq remaining j → (i : ℕ) × HasNode nat_eq remaining i × Targets rows i j

-- each row has the numbers of the successors of the row's node, in order
abbrev pub AreSuccessorRows : {X A : Type 0} → (ℕ → X → Type 0) → (X → List X) → List (Vec ℕ A) → Type 0
AreSuccessorRows {X} {A} stands successors rows = (k : ℕ) (row : Vec ℕ A) (x : X) → slice_get rows k ≡ Some row → stands k x → AllZip stands row.items (successors x)

-- the nodes that the numbers of a group stand for
abbrev pub AreNodesAt : {N A : Type 0} → (N → N → Bool) → List N → Vec ℕ A → Vec N A → Type 0
AreNodesAt eq keys numbers nodes = AllZip (StandsFor eq keys) numbers.items nodes.items
