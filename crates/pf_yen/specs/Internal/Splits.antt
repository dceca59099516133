-- Classes of clean paths that are split, and searched in a narrowed graph.
use Rattle.std.specs.Prelude.{◌≡◌, ◌⊎◌, ◌≤ℤ◌, ◌+ℤ◌, ◌<◌, ◌+◌, ◌++◌, Some, None, slice_get, Option, ℕ, ℤ, true, false, List, [], ◌∷◌, length, take, drop, sum_by, Contains, nat_eq}
use Rattle.pf_base.specs.Walks.{HasNode, NoRepeats, end_of}
use Rattle.pf_core.specs.Steps.{GoesAlong}
use Rattle.pf_yen.specs.Internal.Adjacency.{AdjacencyLists, is_goal, AdjacencyStep}
use Rattle.pf_yen.specs.Internal.Classes.{Plan, is_in, is_member, goes_on_to, in_class, is_path, one_if, IsCleanNumbers, IsCheapestOfClass}

module _ {C : Type 0} where
  -- the path of the plan goes on from the prefix to y, or its class has this prefix, and y is banned in it
  abbrev pub IsBarredBehind : Plan C → List ℕ → ℕ → Type 0
  IsBarredBehind c prefix y = (goes_on_to prefix y c.path ≡ true) ⊎ ((prefix ≡ take (c.spur + 1) c.path) × (is_in c.banned y ≡ true))

module _ {C : Type 0} (value : C → ℤ) (k : AdjacencyLists C) where
  -- The plans split what is left of the class of a plan without its own path, and ban what that path goes on to, or what was banned.
  pub record IsSplit (c : Plan C) (plans : List (Plan C)) : Type 0 where
    pub cheapest : (d : Plan C) → Contains plans d → IsCheapestOfClass value k d
    pub dearer : (d : Plan C) → Contains plans d → value c.cost ≤ℤ value d.cost
    pub parts : (p : List ℕ) (u : ℤ) → IsCleanNumbers value k p u → in_class p c ≡ is_path p c.path + sum_by (in_class p) plans
    pub barred : (d : Plan C) (y : ℕ) → Contains plans d → is_in d.banned y ≡ true → IsBarredBehind c (take (d.spur + 1) d.path) y

-- of the numbers of a prefix that goes on from a by q, each but the last is no goal and leads on to its next one alone, and the last is the spur
abbrev pub LeadsOn : {C : Type 0} → AdjacencyLists C → List (Option ℕ) → ℕ → ℕ → List ℕ → Type 0
LeadsOn k onward spur a [] = (a ≡ spur) × (slice_get onward a ≡ Some None)
LeadsOn k onward spur a (b ∷ q) = (slice_get onward a ≡ Some (Some b)) × (is_goal k a ≡ false) × LeadsOn k onward spur b q

-- A graph is narrowed to the walks that begin with the prefix of 0 and q.
pub record IsFilteredTo {C : Type 0} (k : AdjacencyLists C) (onward : List (Option ℕ)) (spur : ℕ) (q : List ℕ) : Type 0 where
  pub leads : LeadsOn k onward spur 0 q
  pub free : (x y : ℕ) → ¬ (HasNode nat_eq (0 ∷ q) x) → ¬ (slice_get onward x ≡ Some (Some y))

-- the path costs least of those in the class of the prefix of 0 and q and of the banned numbers
pub record IsCheapestAlong {C : Type 0} (value : C → ℤ) (k : AdjacencyLists C) (q banned : List ℕ) (path : List ℕ) (cost : C) : Type 0 where
  pub clean : IsCleanNumbers value k path (value cost)
  pub member : is_member (0 ∷ q) banned path ≡ true
  pub least : (p : List ℕ) (u : ℤ) → IsCleanNumbers value k p u → is_member (0 ∷ q) banned p ≡ true → value cost ≤ℤ u

-- no clean path is in the class of the prefix of 0 and q and of the banned numbers
abbrev pub HasNoneAlong : {C : Type 0} → (C → ℤ) → AdjacencyLists C → List ℕ → List ℕ → Type 0
HasNoneAlong value k q banned = (p : List ℕ) (u : ℤ) → IsCleanNumbers value k p u → is_member (0 ∷ q) banned p ≡ false

-- Some plans were made of the class of a plan, and what is left of it are the paths that go on as its own path does, up to a place, and not to a banned number from there.
pub record IsSplitUpTo {C : Type 0} (value : C → ℤ) (k : AdjacencyLists C) (c : Plan C) (place : ℕ) (banned : List ℕ) (plans : List (Plan C)) : Type 0 where
  pub cheapest : (d : Plan C) → Contains plans d → IsCheapestOfClass value k d
  pub dearer : (d : Plan C) → Contains plans d → value c.cost ≤ℤ value d.cost
  pub member : is_member (0 ∷ take place (drop 1 c.path)) banned c.path ≡ true
  pub parts : (p : List ℕ) (u : ℤ) → IsCleanNumbers value k p u → in_class p c ≡ sum_by (in_class p) plans + one_if (is_member (0 ∷ take place (drop 1 c.path)) banned p)
  pub barred : (d : Plan C) (y : ℕ) → Contains plans d → is_in d.banned y ≡ true → IsBarredBehind c (take (d.spur + 1) d.path) y
  pub still : (y : ℕ) → is_in banned y ≡ true → (0 ∷ take place (drop 1 c.path) ≡ take (c.spur + 1) c.path) × (is_in c.banned y ≡ true)

-- A path from number 0 and one step more, by whichever parallel step, cost more than fits; no parallel steps along the path cost less.
pub record IsPastAlong {C : Type 0} (value : C → ℤ) (k : AdjacencyLists C) (fits : ℤ → Type 0) : Type 0 where
  pub rest : List ℕ
  pub cost : ℤ
  pub goes : GoesAlong (AdjacencyStep value k) 0 rest cost
  pub distinct : NoRepeats nat_eq (0 ∷ rest)
  pub cheapest : (u : ℤ) → GoesAlong (AdjacencyStep value k) 0 rest u → cost ≤ℤ u
  pub next : ℕ
  pub price : ℤ
  pub edge : AdjacencyStep value k (end_of 0 rest) price next
  pub all_past : (z : ℤ) → AdjacencyStep value k (end_of 0 rest) z next → ¬ (fits (cost +ℤ z))

-- A sum that does not fit was met in a class that is split off that of a plan: in the class of a prefix, from which the path of the plan goes on, and of these banned numbers. No clean path of that class costs less than the path without its last step; each is in the class of the plan, and none is the path of the plan.
pub record ClassOverflows {C : Type 0} (value : C → ℤ) (k : AdjacencyLists C) (fits : ℤ → Type 0) (c : Plan C) : Type 0 where
  pub prefix : List ℕ
  pub banned : List ℕ
  pub some : 0 < length prefix
  pub onward : ℕ
  pub along : goes_on_to prefix onward c.path ≡ true
  pub past : IsPastAlong value k fits
  pub begins : is_member prefix [] (0 ∷ past.rest) ≡ true
  pub leaves : is_member prefix banned ((0 ∷ past.rest) ++ past.next ∷ []) ≡ true
  pub none_cheaper : (p : List ℕ) (u : ℤ) → IsCleanNumbers value k p u → is_member prefix banned p ≡ true → past.cost ≤ℤ u
  pub inside : (p : List ℕ) (u : ℤ) → IsCleanNumbers value k p u → is_member prefix banned p ≡ true → (in_class p c ≡ 1) × (is_path p c.path ≡ 0)
  pub barred : (y : ℕ) → is_in banned y ≡ true → IsBarredBehind c prefix y
