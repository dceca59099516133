-- Clean paths over numbers, and classes of them.
--
-- A class has the clean paths that begin with a prefix and do not go on to a banned number.
use Rattle.std.specs.Prelude.{◌≡◌, ◌≤ℤ◌, ◌<◌, ◌+◌, ◌++◌, ℕ, ℤ, Bool, true, false, not, ◌&&◌, List, [], ◌∷◌, length, take, sum_by, Contains, nat_eq}
use Rattle.std.specs.List.{list_any}
use Rattle.pf_base.specs.Walks.{NoRepeats, end_of}
use Rattle.pf_core.specs.Steps.{GoesAlong}
use Rattle.pf_yen.specs.declared.candidate.Candidate.{Candidate}
use Rattle.pf_yen.specs.Internal.Adjacency.{AdjacencyLists, is_goal, AdjacencyStep}

-- the number is one of these
abbrev pub is_in : List ℕ → ℕ → Bool
is_in ks k = list_any (λ y. nat_eq y k) ks

-- whether a path of these numbers is in the class of this prefix and these banned numbers
abbrev pub is_member : List ℕ → List ℕ → List ℕ → Bool
is_member [] banned [] = true
is_member [] banned (x ∷ p) = not (is_in banned x)
is_member (y ∷ q) banned [] = false
is_member (y ∷ q) banned (x ∷ p) = nat_eq y x && is_member q banned p

-- whether the path begins with the prefix and goes on to y
abbrev pub goes_on_to : List ℕ → ℕ → List ℕ → Bool
goes_on_to prefix y p = is_member (prefix ++ y ∷ []) [] p

-- 1 where it is true
abbrev pub one_if : Bool → ℕ
one_if true = 1
one_if false = 0

-- a cheapest path of a class: its numbers, what it costs, the place of the last number of the prefix, and the banned numbers
pub record Plan (C : Type 0) : Type 0 where
  pub path : List ℕ
  pub cost : C
  pub spur : ℕ
  pub banned : List ℕ

module _ {C : Type 0} where
  -- 1 where the path is in the class of the plan
  abbrev pub in_class : List ℕ → Plan C → ℕ
  in_class p c = one_if (is_member (take (c.spur + 1) c.path) c.banned p)

-- 1 where the path begins with the other one: clean paths are then the same
abbrev pub is_path : List ℕ → List ℕ → ℕ
is_path p q = one_if (is_member q [] p)

module _ {C : Type 0} (value : C → ℤ) (k : AdjacencyLists C) where
  -- A path from number 0 to a goal, at this cost. As no step leads from a goal, it meets no other goal.
  pub record IsCleanNumbers (p : List ℕ) (u : ℤ) : Type 0 where
    pub rest : List ℕ
    pub is : p ≡ 0 ∷ rest
    pub goes : GoesAlong (AdjacencyStep value k) 0 rest u
    pub distinct : NoRepeats nat_eq (0 ∷ rest)
    pub ends : is_goal k (end_of 0 rest) ≡ true

  -- the path of the plan is in its class, and no path of the class costs less
  pub record IsCheapestOfClass (c : Plan C) : Type 0 where
    pub clean : IsCleanNumbers c.path (value c.cost)
    pub member : is_member (take (c.spur + 1) c.path) c.banned c.path ≡ true
    pub least : (p : List ℕ) (u : ℤ) → IsCleanNumbers p u → is_member (take (c.spur + 1) c.path) c.banned p ≡ true → value c.cost ≤ℤ u
    pub inside : c.spur < length c.path

  -- The classes of the plans and the paths that went before have each clean path once, and to a banned number one of these paths goes on from the prefix of the class.
  pub record IsPartition (plans : List (Plan C)) (before : List (List ℕ)) : Type 0 where
    pub cheapest : (c : Plan C) → Contains plans c → IsCheapestOfClass c
    pub once : (p : List ℕ) (u : ℤ) → IsCleanNumbers p u → sum_by (in_class p) plans + sum_by (is_path p) before ≡ 1
    pub barred : (c : Plan C) (y : ℕ) → Contains plans c → is_in c.banned y ≡ true → (p : List ℕ) × Contains before p × (goes_on_to (take (c.spur + 1) c.path) y p ≡ true)

-- what a candidate says
abbrev pub plan_of : {C A : Type 0} → Candidate C A → Plan C
plan_of c = record { path = c.path.items; cost = c.cost; spur = c.spur; banned = c.banned.items }
