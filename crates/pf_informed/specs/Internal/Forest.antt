-- The labels of a search that may lower any label.
use Rattle.std.specs.Prelude.{◌≡◌, ◌≤ℤ◌, ◌+◌, ◌<◌, ℕ, ℤ, pos, negsuc, List, Option, Some, None}
use Rattle.std.specs.List.{sum_by}
use Rattle.pf_core.specs.declared.labels.Label.{Label}
use Rattle.pf_core.specs.Labels.{Labels, HasLabel, Climbs}

-- a whole number from 0 up
abbrev pub nat_of : ℤ → ℕ
nat_of (pos n) = n
nat_of (negsuc n) = 0

module _ {C : Type 0} (value : C → ℤ) where
  -- The parents lead up from each label to that of number 0, which costs nothing, and no label costs less than that of its parent.
  pub record IsForest (labels : Labels C) : Type 0 where
    pub first : (l : Label C) × HasLabel labels 0 l × (value l.cost ≡ pos 0)
    pub flat : (k : ℕ) (l : Label C) → HasLabel labels k l → l.depth ≡ 0 → k ≡ 0
    pub falls : (k : ℕ) (l : Label C) → HasLabel labels k l → 0 < l.depth → (m : Label C) × HasLabel labels l.parent m × (value m.cost ≤ℤ value l.cost)
    pub climbs : (k : ℕ) (l : Label C) → HasLabel labels k l → (above : List ℕ) × Climbs labels k above

  -- how much lower a label can get, where no cost is above `top`
  abbrev pub room_below : ℕ → Option (Label C) → ℕ
  room_below top None = top + 1
  room_below top (Some l) = nat_of (value l.cost)

  -- how much lower all labels can get
  abbrev pub total_room : ℕ → Labels C → ℕ
  total_room top labels = sum_by (room_below top) labels
