-- The map that is made of the labels of a search over numbers.
use Rattle.std.specs.Prelude.{◌≡◌, ◌<◌, ℕ, Bool, List, Option, Some}
use Rattle.pf_core.specs.declared.labels.Label.{Label}
use Rattle.pf_core.specs.Labels.{Labels, HasLabel}
use Rattle.pf_core.specs.Nodes.{StandsFor}
use Rattle.pf_search.specs.Parents.{HasEntry}

module _ {N C : Type 0} (eq : N → N → Bool) (nodes : List N) (labels : Labels C) where
  -- a label below the bound, not that of number 0, of a node x
  pub record IsLabelOf (bound : ℕ) (x parent : N) (cost : C) : Type 0 where
    pub number : ℕ
    pub label : Label C
    pub inside : (0 < number) × (number < bound)
    pub here : StandsFor eq nodes number x
    pub at : HasLabel labels number label
    pub behind : StandsFor eq nodes label.parent parent
    pub is : label.cost ≡ cost

  -- the map has the parents and the costs of the labels below the bound, save that of number 0
  pub record MapsLabels (bound : ℕ) (entry : N → Option (N × C)) : Type 0 where
    pub from : (x parent : N) (cost : C) → entry x ≡ Some (parent, cost) → IsLabelOf bound x parent cost
    pub to : (k : ℕ) (l : Label C) (x : N) → (0 < k) × (k < bound) → StandsFor eq nodes k x → HasLabel labels k l → HasEntry eq entry x
