-- What a depth-first search to a growing limit on cost and estimate knows.
use Rattle.std.specs.Prelude.{◌≡◌, ◌≤◌, ◌<◌, ◌+◌, ◌-◌, ◌*◌, ◌^◌, ◌⊎◌, ◌↔◌, ◌≤ℤ◌, ◌<ℤ◌, ◌+ℤ◌, ℕ, ℤ, pos, Bool, true, List, [], ◌∷◌, Option, Some, Contains, slice_get, length, reverse, ⊤}
use Rattle.pf_base.specs.Walks.{HasNode, NoRepeats, end_of}
use Rattle.pf_core.specs.Nodes.{NodeGraph, StandsFor}
use Rattle.pf_core.specs.Steps.{GoesAlong, IsNumberedPath}
use Rattle.pf_deepening.specs.declared.rows.Span.{Span}
use Rattle.pf_informed.specs.declared.directed.idastar.known.Known.{Known}
use Rattle.pf_deepening.specs.declared.way.Frame.{Frame}
use Rattle.pf_deepening.specs.declared.way.Way.{Way}
use Rattle.pf_informed.specs.declared.directed.idastar.round.Round.{Round}
use Rattle.pf_informed.specs.declared.directed.idastar.round.Round.TheVariants.{Found, Missed}
use Rattle.pf_deepening.specs.Ways.{HasSpan, IsCutOff, IsMarked}
use Rattle.pf_informed.specs.Internal.Rows.{found_in, IsCheapStep, KeepsNone}

-- the numbers of frames
abbrev pub numbers_of : {C : Type 0} → List (Frame C) → List ℕ
numbers_of [] = []
numbers_of (f ∷ fs) = f.number ∷ numbers_of fs

module _ {C : Type 0} where
  -- how many places of a frame's row are left
  abbrev pub places_left : Frame C → ℕ
  places_left f = f.end - f.at

  -- how many turns the frames below the last one can take at most, where no row has `most` steps, and there are no more than `deep` frames
  abbrev pub turns_below : ℕ → ℕ → List (Frame C) → ℕ
  turns_below most deep [] = 0
  turns_below most deep (f ∷ fs) = places_left f * most ^ (deep - length fs) + turns_below most deep fs

  -- the same, with the last frame
  abbrev pub turns_left : ℕ → ℕ → Frame C → List (Frame C) → ℕ
  turns_left most deep f fs = (places_left f + 1) * most ^ (deep - length fs) + turns_below most deep fs

module _ {X C : Type 0} (eq : X → X → Bool) (value : C → ℤ) (step : X → ℤ → X → Type 0) (passes : X → Bool) (stands : ℕ → X → Type 0) where
  -- none of the numbers stands for a node of the walk
  abbrev pub Avoids : List ℕ → List X → Type 0
  Avoids ks w = (k : ℕ) (x : X) → Contains ks k → HasNode eq w x → ¬ (stands k x)

  module _ (covers : ℤ → Type 0) where
    -- Each way from x to a goal that meets no node twice and none of these numbers is covered, where the sum so far is t.
    abbrev pub AllCovered : List ℕ → ℤ → X → Type 0
    AllCovered ks t x = (w : List X) (u : ℤ) → GoesAlong step x w u → passes (end_of x w) ≡ true → NoRepeats eq w → Avoids ks w → covers (t +ℤ u)

    module _ (steps : List (ℕ × C)) (spans : List (Option Span)) where
      -- the step is still to be taken from this frame
      pub record IsLeft (f : Frame C) (z : ℤ) (y : X) : Type 0 where
        pub place : ℕ
        pub number : ℕ
        pub price : C
        pub later : f.at ≤ place
        pub inside : place < f.end
        pub at : slice_get steps place ≡ Some (number, price)
        pub there : stands number y
        pub costs : value price ≡ z

      -- What is so of a frame above these numbers: each step from its node is left to be taken, leads back, or was gone along to the end.
      pub record IsFrame (f : Frame C) (below : List ℕ) : Type 0 where
        pub span : Span
        pub has : HasSpan spans f.number span
        pub begins : span.begin ≤ f.at
        pub ends : span.end ≡ f.end
        pub stops : f.at ≤ f.end
        pub fresh : ¬ (Contains below f.number)
        pub done : (x : X) (z : ℤ) (y : X) → stands f.number x → step x z y
            → IsLeft f z y ⊎ (((k : ℕ) × Contains (f.number ∷ below) k × stands k y) ⊎ ((j : ℕ) × stands j y × AllCovered (j ∷ f.number ∷ below) (value f.cost +ℤ z) y))

  module _ (steps : List (ℕ × C)) where
    -- a frame stands for the start, or for the end of the step at which the frame below it is
    abbrev pub IsAbove : Frame C → List (Frame C) → Type 0
    IsAbove f [] = (f.number ≡ 0) × (value f.cost ≡ pos 0)
    IsAbove f (g ∷ fs) = (c : C) × (slice_get steps g.at ≡ Some (f.number, c)) × (g.at < g.end) × (value f.cost ≡ value g.cost +ℤ value c)

  module _ (covers : ℤ → Type 0) (steps : List (ℕ × C)) (spans : List (Option Span)) where
    -- the frames from the last one down to that of the start
    abbrev pub IsTrail : List (Frame C) → Type 0
    IsTrail [] = ⊤
    IsTrail (f ∷ fs) = IsFrame covers steps spans f (numbers_of fs) × IsAbove steps f fs × IsTrail fs

module _ {C : Type 0} (steps : List (ℕ × C)) (spans : List (Option Span)) where
  -- Each frame's steps stand behind those of the frames below it, and before `end`. When they were asked for, its number had been found, and those to which the steps before them lead.
  abbrev pub IsNested : ℕ → ℕ → List (Frame C) → Type 0
  IsNested found end [] = ⊤
  IsNested found end (f ∷ fs) = (s : Span) × HasSpan spans f.number s × (s.end ≤ end) × (s.found ≤ found) × (f.number < s.found) × ((i j : ℕ) (c : C) → i < s.begin → slice_get steps i ≡ Some (j, c) → j < s.found) × IsNested s.found s.begin fs

  -- the frames are nested, and no other steps are kept
  pub record IsStack (found : ℕ) (frames : List (Frame C)) : Type 0 where
    pub nested : IsNested found (length steps) frames
    pub only : (k : ℕ) (s : Span) → HasSpan spans k s → Contains (numbers_of frames) k

-- after a round that found no goal, no steps are kept
abbrev pub LeavesNone : {C A : Type 0} → List (Option Span) → Round C A → Type 0
LeavesNone spans (Found numbers cost) = ⊤
LeavesNone spans (Missed cut past) = KeepsNone spans

module _ {N C : Type 0} (eq : N → N → Bool) (value : C → ℤ) (fits : ℤ → Type 0) (g : NodeGraph N) where
  -- A way from the start, which meets no node twice, costs so much that its cost and the estimate of its last node do not fit together.
  pub record IsWayPast (least : N → ℤ) (first : N) : Type 0 where
    pub nodes : List N
    pub cost : ℤ
    pub goes : GoesAlong (IsCheapStep eq g) first nodes cost
    pub distinct : NoRepeats eq (first ∷ nodes)
    pub past : ¬ (fits (cost +ℤ least (end_of first nodes)))

  -- The numbers stand for a way from the start to a goal, which costs t and meets no node twice.
  pub record IsWayTo (test : N → Bool) (stands : ℕ → N → Type 0) (first : N) (numbers : List ℕ) (t : ℤ) : Type 0 where
    pub nodes : List N
    pub path : IsNumberedPath (IsCheapStep eq g) stands first numbers nodes t
    pub good : test (end_of first nodes) ≡ true

  -- What a search to a limit found: a way to a goal within the limit, or what each way to a goal costs where it was cut off
  abbrev pub Looked : {A : Type 0} → (N → Bool) → (N → ℤ) → (ℕ → N → Type 0) → N → C → Round C A → Type 0
  Looked test least stands first limit (Found numbers cost) = IsWayTo test stands first numbers.items (value cost) × (value cost ≤ℤ value limit)
  Looked test least stands first limit (Missed cut past) = AllCovered eq value (IsCheapStep eq g) test stands (IsCutOff value fits cut past) (0 ∷ []) (pos 0) first
      × (past ≡ true → IsWayPast least first)

-- the numbers of a way that was found are among the first, and what was cut off is above the limit
abbrev pub IsRound : {C A : Type 0} → (C → ℤ) → C → ℕ → Round C A → Type 0
IsRound value limit found (Found numbers cost) = (k : ℕ) → Contains numbers.items k → k < found
IsRound {C} value limit found (Missed cut past) = (n : C) → cut ≡ Some n → value limit <ℤ value n

module _ {N C : Type 0} (eq : N → N → Bool) (value : C → ℤ) (fits : ℤ → Type 0) (g : NodeGraph N) (test : N → Bool) (least : N → ℤ) (first : N) (keys : List N) (steps : List (ℕ × C)) (spans : List (Option Span)) where
  -- where a search to a limit stands: at the last frame, above those below
  pub record IsOnWay (frame : Frame C) (below : List (Frame C)) (cut : Option C) (past : Bool) : Type 0 where
    pub trail : IsTrail eq value (IsCheapStep eq g) test (StandsFor eq keys) (IsCutOff value fits cut past) steps spans (frame ∷ below)
    pub begins : StandsFor eq keys 0 first
    pub all_past : past ≡ true → IsWayPast eq value fits g least first

-- the numbers of the frames are marked and were found, and what was cut off is above the limit
pub record IsMarkedWay {C : Type 0} (value : C → ℤ) (limit : C) (found : ℕ) (marks : List Bool) (frame : Frame C) (below : List (Frame C)) (cut : Option C) : Type 0 where
  pub marked : (k : ℕ) → IsMarked marks k ↔ Contains (numbers_of (frame ∷ below)) k
  pub inside : (k : ℕ) → Contains (numbers_of (frame ∷ below)) k → k < found
  pub above : (n : C) → cut ≡ Some n → value limit <ℤ value n

module _ {C Z : Type 0} (way : Way C Z) where
  -- how many turns the way can take at most
  abbrev pub turns_on : ℕ
  turns_on = turns_left (2 ^ 64) (2 ^ 64) way.frame (reverse way.trail.items)

  abbrev pub IsMarkedOn : (C → ℤ) → C → ℕ → Type 0
  IsMarkedOn value limit found = IsMarkedWay value limit found way.marks.items way.frame (reverse way.trail.items) way.cut_off.least

  -- what is kept is that of the way
  abbrev pub IsStacked : {M N S T H : Type 0} → (M → List N) → Known M C S T H Z → Type 0
  IsStacked keys_of known = IsStack known.rows.steps.items known.rows.spans.items (found_in keys_of known) (way.frame ∷ reverse way.trail.items)

  -- where a search stands that has come so far
  abbrev pub IsUnderWay : {M N S T H : Type 0} → (M → List N) → (N → N → Bool) → (C → ℤ) → (ℤ → Type 0) → NodeGraph N → (N → Bool) → (N → ℤ) → N → Known M C S T H Z → Type 0
  IsUnderWay keys_of eq value fits g test least first known = IsOnWay eq value fits g test least first (keys_of known.graph.discovery.nodes) known.rows.steps.items known.rows.spans.items way.frame (reverse way.trail.items) way.cut_off.least way.cut_off.past
