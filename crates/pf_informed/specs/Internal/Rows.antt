-- Rows of steps: which of parallel steps are kept, and where the row of a number stands.
use Rattle.std.specs.Prelude.{◌≡◌, ◌↔◌, ◌≤◌, ◌<◌, ◌≤ℤ◌, ℕ, ℤ, Bool, false, List, [], ◌∷◌, Option, Some, Contains, slice_get, length, take}
use Rattle.pf_base.specs.Edges.{InReach, StepCosts}
use Rattle.pf_core.specs.Nodes.{NodeGraph, StandsFor}
use Rattle.pf_informed.specs.Internal.Led.{IsLed, FindsMore}
use Rattle.pf_informed.specs.declared.directed.idastar.known.Known.{Known}
use Rattle.pf_deepening.specs.Ways.{HasSpan}
use Rattle.pf_deepening.specs.declared.rows.Span.{Span}

-- The row has a step to each number to which one of the steps leads, the cheapest of them, and no other. Its places are kept by number.
pub record IsCheapestOf {C : Type 0} (value : C → ℤ) (row : List (ℕ × C)) (places : List ℕ) (steps : List (ℕ × C)) : Type 0 where
  pub placed : (i j : ℕ) (c : C) → slice_get row i ≡ Some (j, c) → slice_get places j ≡ Some i
  pub from : (i j : ℕ) (c : C) → slice_get row i ≡ Some (j, c) → Contains steps (j, c)
  pub least : (i j : ℕ) (c d : C) → slice_get row i ≡ Some (j, c) → Contains steps (j, d) → value c ≤ℤ value d
  pub all : (j : ℕ) (d : C) → Contains steps (j, d) → (i : ℕ) × (c : C) × (slice_get row i ≡ Some (j, c))

-- no steps are kept
abbrev pub KeepsNone : List (Option Span) → Type 0
KeepsNone spans = (k : ℕ) (s : Span) → ¬ (HasSpan spans k s)

-- the place lies within the span
abbrev pub IsIn : Span → ℕ → Type 0
IsIn s i = (s.begin ≤ i) × (i < s.end)

-- a step by the cheapest of the parallel edges, from a node in reach
abbrev pub IsCheapStep : {N : Type 0} → (N → N → Bool) → NodeGraph N → N → ℤ → N → Type 0
IsCheapStep eq g a z b = InReach eq g.edges g.starts a × StepCosts eq g.edges a b z

-- what is kept of the numbers that were found: each span is that of a number that was found and lies within the steps, and each step leads to such a number
pub record IsTable {C : Type 0} (found : ℕ) (steps : List (ℕ × C)) (spans : List (Option Span)) : Type 0 where
  pub numbered : (k : ℕ) (s : Span) → HasSpan spans k s → k < found
  pub within : (k : ℕ) (s : Span) → HasSpan spans k s → (s.begin ≤ s.end) × (s.end ≤ length steps)
  pub inside : (i j : ℕ) (c : C) → slice_get steps i ≡ Some (j, c) → j < found

module _ {X C : Type 0} (value : C → ℤ) (step : X → ℤ → X → Type 0) (passes : X → Bool) (stands : ℕ → X → Type 0) (steps : List (ℕ × C)) (spans : List (Option Span)) where
  -- a number whose span is kept stands for a node that fails, and the span has the steps from that node
  pub record HasRows : Type 0 where
    pub fails : (k : ℕ) (s : Span) (x : X) → HasSpan spans k s → stands k x → passes x ≡ false
    pub sound : (k : ℕ) (s : Span) (x : X) → HasSpan spans k s → stands k x → (i j : ℕ) (c : C) → IsIn s i → slice_get steps i ≡ Some (j, c) → (y : X) × step x (value c) y × stands j y
    pub complete : (k : ℕ) (s : Span) (x : X) → HasSpan spans k s → stands k x → (z : ℤ) (y : X) → step x z y → (i j : ℕ) × (c : C) × IsIn s i × (slice_get steps i ≡ Some (j, c)) × stands j y × (value c ≡ z)

module _ {M N C S T H Z : Type 0} (keys_of : M → List N) where
  -- how many nodes were found
  abbrev pub found_in : Known M C S T H Z → ℕ
  found_in known = length (keys_of known.graph.discovery.nodes)

  -- what is kept of these is a table
  abbrev pub IsTabled : Known M C S T H Z → Type 0
  IsTabled known = IsTable (found_in known) known.rows.steps.items known.rows.spans.items

  -- each number that was found has an estimate, and what is kept of these is a table
  pub record IsWhole (known : Known M C S T H Z) : Type 0 where
    pub asked : length known.estimates.items ≡ found_in known
    pub table : IsTabled known

  -- what is known is whole, the numbers stand for what they stood for, and the steps and the spans that were kept stay
  pub record KnowsMore (eq : N → N → Bool) (known known' : Known M C S T H Z) : Type 0 where
    pub whole : IsWhole known'
    pub grows : FindsMore keys_of eq known.graph known'.graph
    pub steps : (i : ℕ) (e : ℕ × C) → slice_get known.rows.steps.items i ≡ Some e → slice_get known'.rows.steps.items i ≡ Some e
    pub spans : (k : ℕ) (s : Span) → HasSpan known.rows.spans.items k s → HasSpan known'.rows.spans.items k s

  -- what is known is whole, and the number 0 stands for what it stood for
  pub record KnowsStart (eq : N → N → Bool) (known known' : Known M C S T H Z) : Type 0 where
    pub whole : IsWhole known'
    pub first : (x : N) → StandsFor eq (keys_of known.graph.discovery.nodes) 0 x → StandsFor eq (keys_of known'.graph.discovery.nodes) 0 x

  -- the steps from a number were forgotten, which stood at this span, and what was found and kept since they were asked for
  pub record Forgets (eq : N → N → Bool) (number : ℕ) (s : Span) (known known' : Known M C S T H Z) : Type 0 where
    pub left : found_in known' ≡ s.found
    pub shrinks : FindsMore keys_of eq known'.graph known.graph
    pub estimates : known'.estimates.items ≡ take s.found known.estimates.items
    pub steps : known'.rows.steps.items ≡ take s.begin known.rows.steps.items
    pub spans : (k : ℕ) (t : Span) → HasSpan known'.rows.spans.items k t ↔ (HasSpan known.rows.spans.items k t × ¬ (k ≡ number))

  -- What is known of a graph: what a search led by estimates knows, and that each row is right.
  module _ (eq : N → N → Bool) (value : C → ℤ) (edge_answers : S → List N → (N → List (N × ℤ)) → Type 0) (test_answers : T → (N → Type 0) → (N → Bool) → Type 0) (estimate_answers : H → (N → Type 0) → (N → ℤ) → Type 0) where
    pub record IsKnown (g : NodeGraph N) (test : N → Bool) (least : N → ℤ) (known : Known M C S T H Z) : Type 0 where
      pub led : IsLed keys_of eq value edge_answers test_answers estimate_answers g test least known.graph known.estimate known.estimates.items
      pub rows : HasRows value (IsCheapStep eq g) test (StandsFor eq (keys_of known.graph.discovery.nodes)) known.rows.steps.items known.rows.spans.items

    -- some start stands first, and some edges, test and estimate from it are known
    abbrev pub AnswersKnownSearch : Known M C S T H Z → Type 0
    AnswersKnownSearch known = (start : N) × (edges : N → List (N × ℤ)) × (test : N → Bool) × (least : N → ℤ) × StandsFor eq (keys_of known.graph.discovery.nodes) 0 start × IsKnown (record { starts = start ∷ []; edges = edges }) test least known

    -- of whatever start stands first, and whatever edges, test and estimate from it are known, P holds
    abbrev pub OfKnownSearch : Known M C S T H Z → (N → (N → List (N × ℤ)) → (N → Bool) → (N → ℤ) → Type 0) → Type 0
    OfKnownSearch known P = (start : N) (edges : N → List (N × ℤ)) (test : N → Bool) (least : N → ℤ) → StandsFor eq (keys_of known.graph.discovery.nodes) 0 start → IsKnown (record { starts = start ∷ []; edges = edges }) test least known → P start edges test least
