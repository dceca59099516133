-- Loops over numbers: walks from a start to a node from which a step leads to a start.
use Rattle.std.specs.Prelude.{◌≡◌, ◌≤ℤ◌, ℤ, ℕ, List, [], ◌∷◌, ◌++◌}
use Rattle.pf_base.specs.Walks.{end_of}
use Rattle.pf_core.specs.Steps.{GoesAlong, IsNumberedPath}

module _ {X : Type 0} (step : X → ℤ → X → Type 0) (starts : X → Type 0) where
  -- some step leads from x to a start
  abbrev pub Closes : X → Type 0
  Closes x = (z : ℤ) × (s : X) × step x z s × starts s

  -- no walk from a start leads to a node from which a step leads to a start
  abbrev pub NoLoop : Type 0
  NoLoop = (s : X) → starts s → (w : List X) (u : ℤ) → GoesAlong step s w u → ¬ (Closes (end_of s w))

  -- The numbers stand for a path from a start and, behind it, a start to which a step leads; no walk from a start to a node from which a step leads to a start costs less than that path.
  pub record IsBestNumberedLoop (stands : ℕ → X → Type 0) (numbers : List ℕ) : Type 0 where
    pub front : List ℕ
    pub last : ℕ
    pub is : numbers ≡ front ++ last ∷ []
    pub first : X
    pub is_start : starts first
    pub nodes : List X
    pub cost : ℤ
    pub path : IsNumberedPath step stands first front nodes cost
    pub price : ℤ
    pub end : X
    pub closing : step (end_of first nodes) price end
    pub back : starts end
    pub here : stands last end
    pub best : (s : X) → starts s → (w : List X) (u : ℤ) → GoesAlong step s w u → Closes (end_of s w) → cost ≤ℤ u
