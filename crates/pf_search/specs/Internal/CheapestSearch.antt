-- What a lazy walk by rising cost keeps of its search: nodes, and labels by number.
use Rattle.std.specs.Prelude.{◌≡◌, ℕ, ℤ, Bool, List, [], ◌∷◌, Option, Some, None, if◌then◌else◌, refl, slice_get}
use Rattle.std.specs.Coded.{Coded, code_by, coded×, coded_bool, coded_ℕ, coded_list, coded_option}
use Rattle.pf_base.specs.Answers.{SameNodes}
use Rattle.pf_core.specs.declared.labels.Label.{Label}
use Rattle.pf_core.specs.Labels.{Labels, by_cost}
use Rattle.pf_core.specs.Nodes.{StandsFor, IsStep}
use Rattle.pf_core.specs.Search.{IsLeast, HasBarredStep}

-- the nodes found so far, and for each, by its place, its label, if it has one; and the number of the node that is known to come next, if one is
pub record CheapestSearch (N C : Type 0) : Type 0 where
  pub nodes : List N
  pub labels : Labels C
  pub next : Option ℕ

abbrev label_code : {C : Type 0} → Coded C → Coded (Label C)
label_code {C} c = code_by (C × (ℕ × (ℕ × Bool))) (coded× c (coded× coded_ℕ (coded× coded_ℕ coded_bool))) (λ l. (l.cost, (l.parent, (l.depth, l.settled)))) (λ p. record { cost = p.0; parent = p.1.0; depth = p.1.1.0; settled = p.1.1.1 }) (λ _. refl)

abbrev pub cheapest_search_code : {N C : Type 0} → Coded N → Coded C → Coded (CheapestSearch N C)
cheapest_search_code {N} {C} n c = code_by (List N × (Labels C × Option ℕ)) (coded× (coded_list n) (coded× (coded_list (coded_option (label_code c))) (coded_option coded_ℕ))) (λ s. (s.nodes, (s.labels, s.next))) (λ p. record { nodes = p.0; labels = p.1.0; next = p.1.1 }) (λ _. refl)

module _ {C : Type 0} where
  abbrev pub next_if : Option (Option (Label C)) → ℕ → Option ℕ
  next_if None k = None
  next_if (Some None) k = None
  next_if (Some (Some l)) k = if l.settled then None else Some k

  -- the number of the entry that comes first, if its label is open
  abbrev pub next_of : Labels C → Option (C × ℕ) → Option ℕ
  next_of labels None = None
  next_of labels (Some e) = next_if (slice_get labels e.1) e.1

-- each node whose label is settled, with the cost of its label, in the order in which the nodes were found
abbrev pub given_of : {N C : Type 0} → List N → Labels C → List (N × C)
given_of [] labels = []
given_of (x ∷ xs) [] = []
given_of (x ∷ xs) (None ∷ labels) = given_of xs labels
given_of (x ∷ xs) (Some l ∷ labels) = if l.settled then (x, l.cost) ∷ given_of xs labels else given_of xs labels

module _ {N C : Type 0} (eq : N → N → Bool) where
  -- the labels stay as they were, and so do the nodes, up to equality
  abbrev pub KeepsSearch : CheapestSearch N C → CheapestSearch N C → Type 0
  KeepsSearch search after = (after.labels ≡ search.labels) × SameNodes eq after.nodes search.nodes

  -- The search stands before a step that does not fit: the open label that is known to come next, which is one that costs least, is that of a node from which some step leads to a node without a label, and all steps to that node cost more, with the label, than fits.
  pub record IsBarredSearch (value : C → ℤ) (edges : N → List (N × ℤ)) (start : N) (fits : ℤ → Type 0) (search : CheapestSearch N C) : Type 0 where
    pub number : ℕ
    pub label : Label C
    pub least : IsLeast (by_cost value) search.labels number label
    pub next : search.next ≡ Some number
    pub node : N
    pub here : StandsFor eq search.nodes number node
    pub step : HasBarredStep (IsStep eq (record { starts = start ∷ []; edges = edges })) (StandsFor eq search.nodes) search.labels fits node (value label.cost)
