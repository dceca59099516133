-- Ways back from goals to number 0, over the numbers before each number.
use Rattle.std.specs.Prelude.{◌≡◌, ◌<◌, ◌≤◌, ◌-◌, ◌++◌, ℕ, zero, suc, Bool, true, false, if◌then◌else◌, List, [], ◌∷◌, Option, Some, None, Result, Ok, Err, Vec, Contains, length, map, nat_eq, reverse, slice_get, take, ⊤}
use Rattle.std.specs.List.{AllZip, list_any, sum_by}
use Rattle.pf_base.specs.declared.error.PathError.{PathError}
use Rattle.pf_base.specs.Answers.{SameNodes}
use Rattle.pf_informed.specs.CheapestPaths.{PathsToCome}
use Rattle.pf_base.specs.Walks.{HasNode, NoRepeats}
use Rattle.pf_informed.specs.declared.branch.Branch.{Branch}
use Rattle.pf_informed.specs.Internal.Chains.{before_in}
use Rattle.pf_informed.specs.declared.ways.Ways.{Ways}

-- all items that f gives, those of the last element first
abbrev pub each_of : {A B : Type 0} → (A → List B) → List A → List B
each_of f [] = []
each_of f (x ∷ xs) = each_of f xs ++ f x

-- the number is one of these
abbrev pub is_in : List ℕ → ℕ → Bool
is_in numbers k = list_any (λ (j : ℕ). nat_eq j k) numbers

-- the ways that go through v, where `on` are those that go on behind it: none where v stands on the path, and one where v is 0
abbrev pub ways_at : List ℕ → ℕ → List (List ℕ) → List (List ℕ)
ways_at path v on = if is_in path v then [] else (if nat_eq v 0 then (v ∷ path) ∷ [] else on)

module _ (before : ℕ → List ℕ) where
  -- The ways from 0 through v and on along the path, with at most `most` numbers up to v: each number is one of those before the next one, and none stands twice.
  abbrev pub ways : ℕ → List ℕ → ℕ → List (List ℕ)
  ways zero path v = []
  ways (suc most) path v = ways_at path v (each_of (ways most (v ∷ path)) (before v))

  -- the ways to a goal, among n numbers
  abbrev pub ways_to : ℕ → ℕ → List (List ℕ)
  ways_to n goal = ways n [] goal

  -- how many numbers are tried for these ways, at most
  abbrev pub tries : ℕ → ℕ → ℕ
  tries zero v = 1
  tries (suc most) v = suc (sum_by (tries most) (before v))

  -- of n numbers, the ways that are still to be found
  abbrev pub ways_left : ℕ → List ℕ → List Branch → List (List ℕ)
  ways_left n way waiting = each_of (λ (b : Branch). ways (n - b.depth) (reverse (take b.depth way)) b.number) waiting

  abbrev pub tries_left : ℕ → List Branch → ℕ
  tries_left n waiting = sum_by (λ (b : Branch). tries (n - b.depth) b.number) waiting

-- the ways to any of these goals, over the numbers before each number
abbrev pub ways_to_any : List (List ℕ) → List ℕ → List (List ℕ)
ways_to_any before goals = each_of (ways_to (before_in before) (length before)) goals

-- no branch waits
abbrev pub nothing_waits : List Branch → Bool
nothing_waits [] = true
nothing_waits (b ∷ bs) = false

-- the depths of the branches do not fall, and lie between these
abbrev pub IsRising : ℕ → ℕ → List Branch → Type 0
IsRising low top [] = ⊤
IsRising low top (b ∷ bs) = (low ≤ b.depth) × (b.depth ≤ top) × IsRising b.depth top bs

-- Where a walk through the ways of n numbers stands.
pub record AreWays (n : ℕ) (before : ℕ → List ℕ) (way places : List ℕ) (waiting : List Branch) : Type 0 where
  pub below : (k j : ℕ) → HasNode nat_eq (before k) j → j < n
  pub wide : length places ≡ n
  pub distinct : NoRepeats nat_eq way
  pub inside : (j : ℕ) → HasNode nat_eq way j → j < n
  pub placed : (i k : ℕ) → slice_get way i ≡ Some k → slice_get places k ≡ Some i
  pub rising : IsRising 0 (length way) waiting
  pub targets : (b : Branch) → Contains waiting b → b.number < n

-- The way is whole: it is the first of those still to be found, and without the last branch the others are.
abbrev pub IsWhole : (ℕ → List ℕ) → ℕ → List ℕ → List Branch → Type 0
IsWhole before n way waiting = (rest : List Branch) × (last : Branch) × (waiting ≡ rest ++ last ∷ []) × (ways_left before n way waiting ≡ reverse way ∷ ways_left before n way rest)

abbrev pub node_and : {N : Type 0} → Option N → List N → List N
node_and None nodes = nodes
node_and (Some m) nodes = m ∷ nodes

-- the nodes of these numbers
abbrev pub nodes_of : {N : Type 0} → List N → List ℕ → List N
nodes_of keys [] = []
nodes_of keys (k ∷ ks) = node_and (slice_get keys k) (nodes_of keys ks)

-- the paths that these ways stand for
abbrev pub paths_of : {N : Type 0} → List N → List (List ℕ) → List (List N)
paths_of keys ks = map (nodes_of keys) ks

-- where a walk through these ways stands
abbrev pub AreWaysIn : {Z : Type 0} → Ways Z → Type 0
AreWaysIn w = AreWays (length w.before) (before_in w.before) w.way.items w.places.items w.waiting.items

-- the paths that are still to be found
abbrev pub paths_in : {N Z : Type 0} → List N → Ways Z → List (List N)
paths_in keys w = paths_of keys (ways_left (before_in w.before) (length w.before) w.way.items w.waiting.items)

-- what a step of an iterator that was not refused before gives, and how it leaves it: a path, no path, or a refusal
module _ {N Z : Type 0} (eq : N → N → Bool) where
  abbrev pub PathsTurn : PathsToCome N → Result (Option (Vec N Z)) PathError → PathsToCome N → Type 0
  PathsTurn s (Ok (Some nodes)) t = (s.ended ≡ false) × ((path : List N) × (s.left ≡ path ∷ t.left) × SameNodes eq nodes.items path)
  PathsTurn s (Ok None) t = (s.left ≡ []) × (t.left ≡ s.left) × (t.ended ≡ true)
  PathsTurn s (Err refusal) t = (t.left ≡ s.left) × (s.ended ≡ false) × (t.ended ≡ false)

  -- these vectors hold the nodes of these paths, in turn
  abbrev pub AreGathered : List (Vec N Z) → List (List N) → Type 0
  AreGathered = AllZip (λ (v : Vec N Z) (path : List N). SameNodes eq v.items path)
