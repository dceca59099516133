-- What a search knows that goes on until all cheapest ways have labels.
use Rattle.std.specs.Prelude.{◌≡◌, ◌≤ℤ◌, ◌<ℤ◌, ◌+ℤ◌, ℤ, ℕ, pos, Bool, true, List, [], ◌∷◌, Option, Some, slice_get}
use Rattle.pf_base.specs.Walks.{end_of}
use Rattle.pf_base.specs.Edges.{IsCheapestGoalPath}
use Rattle.pf_core.specs.declared.labels.Label.{Label}
use Rattle.pf_core.specs.Labels.{Labels, HasLabel}
use Rattle.pf_core.specs.Nodes.{StandsFor, IsStep}
use Rattle.pf_core.specs.Steps.{GoesAlong}

-- the least cost is known, and the label's cost and the estimate of its number are more
abbrev pub IsPastBest : {C : Type 0} → (C → ℤ) → List C → Option C → ℕ → Label C → Type 0
IsPastBest {C} value estimates best k l = (b : C) × (best ≡ Some b) × ((h : C) → slice_get estimates k ≡ Some h → value b <ℤ (value l.cost +ℤ value h))

-- Of a graph whose cheapest walk to a goal costs t: the start, which costs nothing, has number 0, and each node on a walk to a goal that costs t at most has a label, which is what the walk costs up to it.
pub record IsLabelled {N C : Type 0} (eq : N → N → Bool) (value : C → ℤ) (edges : N → List (N × ℤ)) (start : N) (test : N → Bool) (keys : List N) (labels : Labels C) (t : ℤ) : Type 0 where
  pub first : (l : Label C) × HasLabel labels 0 l × (value l.cost ≡ pos 0)
  pub begins : StandsFor eq keys 0 start
  pub exact : (w v : List N) (u rest : ℤ) → GoesAlong (IsStep eq (record { starts = start ∷ []; edges = edges })) start w u → GoesAlong (IsStep eq (record { starts = start ∷ []; edges = edges })) (end_of start w) v rest
      → test (end_of (end_of start w) v) ≡ true → (u +ℤ rest) ≤ℤ t → (k : ℕ) × (l : Label C) × HasLabel labels k l × StandsFor eq keys k (end_of start w) × (value l.cost ≡ u)
  pub path : (path : List N) × IsCheapestGoalPath eq edges (start ∷ []) test path t
