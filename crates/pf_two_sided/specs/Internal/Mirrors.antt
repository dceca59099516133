-- Searches from both ends: steps one way that mirror the steps the other way.
use Rattle.std.specs.Prelude.{◌≡◌, ◌≤ℤ◌, ◌+ℤ◌, ℤ, ℕ, List}
use Rattle.pf_base.specs.Walks.{end_of}
use Rattle.pf_core.specs.Steps.{GoesAlong, IsNumberedPath}

module _ {X : Type 0} (step : X → ℤ → X → Type 0) (starts : X → Type 0) where
  -- some walk leads from a start to x
  abbrev pub IsReached : X → Type 0
  IsReached x = (s : X) × starts s × (w : List X) × (u : ℤ) × GoesAlong step s w u × (end_of s w ≡ x)

  -- each walk from a start that costs at most d ends at a node that some number stands for
  abbrev pub IsCompleteTo : (ℕ → X → Type 0) → ℤ → Type 0
  IsCompleteTo stands d = (s : X) → starts s → (w : List X) (u : ℤ) → GoesAlong step s w u → u ≤ℤ d → (j : ℕ) × stands j (end_of s w)

  -- and so does each walk from a start
  abbrev pub IsComplete : (ℕ → X → Type 0) → Type 0
  IsComplete stands = (s : X) → starts s → (w : List X) (u : ℤ) → GoesAlong step s w u → (j : ℕ) × stands j (end_of s w)

-- From a node that a walk from a start reaches to one that a walk back from an end reaches, a step leads on exactly where one leads back.
pub record IsMirrored {X : Type 0} (step back : X → ℤ → X → Type 0) (starts ends : X → Type 0) : Type 0 where
  pub forth : (a b : X) (z : ℤ) → IsReached step starts a → IsReached back ends b → step a z b → back b z a
  pub turned : (a b : X) (z : ℤ) → IsReached step starts a → IsReached back ends b → back b z a → step a z b

-- no node has a number on both sides
abbrev pub NoneMeets : {X : Type 0} → (ℕ → X → Type 0) → (ℕ → X → Type 0) → Type 0
NoneMeets {X} stands others = (j k : ℕ) (x : X) → stands j x → ¬ (others k x)

module _ {X : Type 0} (step back : X → ℤ → X → Type 0) (starts ends : X → Type 0) where
  -- no walk leads from a start to an end
  abbrev pub NoWalkBetween : Type 0
  NoWalkBetween = (s : X) → starts s → (w : List X) (u : ℤ) → GoesAlong step s w u → ¬ (ends (end_of s w))

  -- The numbers of one side stand for a path from a start and those of the other for a path back from an end, to the same node; no walk from a start to an end costs less than both.
  pub record IsBestMeeting (stands others : ℕ → X → Type 0) (forth_numbers back_numbers : List ℕ) : Type 0 where
    pub first : X
    pub is_start : starts first
    pub nodes : List X
    pub cost : ℤ
    pub path : IsNumberedPath step stands first forth_numbers nodes cost
    pub last : X
    pub is_end : ends last
    pub nodes_back : List X
    pub cost_back : ℤ
    pub path_back : IsNumberedPath back others last back_numbers nodes_back cost_back
    pub number : ℕ
    pub across : ℕ
    pub here : stands number (end_of first nodes)
    pub there : others across (end_of last nodes_back)
    pub common : X
    pub stands_here : stands number common
    pub stands_there : others across common
    pub best : (s : X) → starts s → (w : List X) (u : ℤ) → GoesAlong step s w u → ends (end_of s w) → (cost +ℤ cost_back) ≤ℤ u
