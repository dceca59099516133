-- Arcs with amounts of flow, and flow that is taken off round cycles. The arc with number k has amount k of the list of amounts.
use Rattle.std.specs.Prelude.{◌≡◌, ◌≢◌, ◌⊎◌, ◌<◌, ◌≤◌, ◌≤ℤ◌, ◌+ℤ◌, ◌-ℤ◌, ◌+◌, ◌++◌, ℕ, ℤ, suc, pos, Bool, List, [], ◌∷◌, Option, None, Some, Vec, length, slice_get, slice_set, is_none, if◌then◌else◌}
use Rattle.std.specs.List.{count_by}
use Rattle.pf_residual.specs.declared.cancelling.arcs.Arc.{Arc}
use Rattle.pf_residual.specs.declared.cancelling.search.Step.{Step}

-- the number k stands in the list
abbrev pub Has : List ℕ → ℕ → Type 0
Has ks k = (i : ℕ) × (slice_get ks i ≡ Some k)

-- no number stands twice in the list
abbrev pub IsOnce : List ℕ → Type 0
IsOnce ks = (i j k : ℕ) → slice_get ks i ≡ Some k → slice_get ks j ≡ Some k → i ≡ j

-- each arc runs between vertices below n
abbrev pub AreInside : ℕ → List Arc → Type 0
AreInside n ends = (k : ℕ) (e : Arc) → slice_get ends k ≡ Some e → (e.from < n) × (e.to < n)

-- the row of each vertex has the numbers of the arcs that leave it
pub record AreRows {A : Type 0} (ends : List Arc) (rows : List (Vec ℕ A)) : Type 0 where
  pub from : (b k : ℕ) (row : Vec ℕ A) → slice_get rows b ≡ Some row → Has row.items k → (e : Arc) × (slice_get ends k ≡ Some e) × (e.from ≡ b)
  pub all : (k : ℕ) (e : Arc) → slice_get ends k ≡ Some e → (row : Vec ℕ A) × (slice_get rows e.from ≡ Some row) × Has row.items k

-- what an arc with the amount z brings out of a set of vertices
abbrev pub gain : (ℕ → Bool) → ℤ → Arc → ℤ
gain side z e = (if side e.from then z else pos 0) -ℤ (if side e.to then z else pos 0)

-- and the arc with a number
abbrev pub gain_at : (ℕ → Bool) → ℤ → Option Arc → ℤ
gain_at side z None = pos 0
gain_at side z (Some e) = gain side z e

-- what the arcs of these numbers bring out of a set of vertices, each with the amount z
abbrev pub gained : (ℕ → Bool) → ℤ → List Arc → List ℕ → ℤ
gained side z ends [] = pos 0
gained side z ends (k ∷ ks) = gain_at side z (slice_get ends k) +ℤ gained side z ends ks

-- the arcs of these numbers lead from b to a: the first of them into a, and each next one to where the one before begins
abbrev pub Leads : List Arc → ℕ → List ℕ → ℕ → Type 0
Leads ends b [] a = b ≡ a
Leads ends b (k ∷ ks) a = (e : Arc) × (slice_get ends k ≡ Some e) × (e.to ≡ a) × Leads ends b ks e.from

-- the vertex b was reached
abbrev pub IsPlaced : List (Option ℕ) → ℕ → Type 0
IsPlaced places b = (j : ℕ) × (slice_get places b ≡ Some (Some j))

-- the step was taken, if its vertex was not reached before
abbrev pub Reaches : Step → List Step → List (Option ℕ) → List Step → List (Option ℕ) → Type 0
Reaches step steps places steps' places' = (IsPlaced places step.vertex × (steps' ≡ steps) × (places' ≡ places))
    ⊎ ((slice_get places step.vertex ≡ Some None) × (steps' ≡ steps ++ step ∷ []) × (places' ≡ slice_set places step.vertex (Some (length steps))))

-- all steps stay, and so do the places
pub record Extends (steps : List Step) (places : List (Option ℕ)) (steps' : List Step) (places' : List (Option ℕ)) : Type 0 where
  pub step : (j : ℕ) (s : Step) → slice_get steps j ≡ Some s → slice_get steps' j ≡ Some s
  pub place : (b j : ℕ) → slice_get places b ≡ Some (Some j) → slice_get places' b ≡ Some (Some j)
  pub wide : length places' ≡ length places

-- the row has numbers of arcs that leave the vertex of the step at this place
abbrev pub IsRowOf : List Arc → List ℕ → ℕ → List Step → Type 0
IsRowOf ends row at steps = (s : Step) × (slice_get steps at ≡ Some s) × ((k : ℕ) → Has row k → (e : Arc) × (slice_get ends k ≡ Some e) × (e.from ≡ s.vertex))

module _ {C : Type 0} (value : C → ℤ) where
  -- what all arcs bring out of a set of vertices
  abbrev pub net_of : (ℕ → Bool) → List Arc → List C → ℤ
  net_of side [] xs = pos 0
  net_of side (e ∷ ends) [] = pos 0
  net_of side (e ∷ ends) (x ∷ xs) = gain side (value x) e +ℤ net_of side ends xs

  -- as much flows out of each set of vertices as into it
  abbrev pub IsCirculation : List Arc → List C → Type 0
  IsCirculation ends xs = (side : ℕ → Bool) → net_of side ends xs ≡ pos 0

  -- no amount is below 0
  abbrev pub AreAmounts : List C → Type 0
  AreAmounts xs = (k : ℕ) (x : C) → slice_get xs k ≡ Some x → pos 0 ≤ℤ value x

  -- the arc k has an amount of which P holds
  abbrev pub HasAmount : List C → ℕ → (ℤ → Type 0) → Type 0
  HasAmount xs k P = (x : C) × (slice_get xs k ≡ Some x) × P (value x)

  -- a step over an arc that carries flow, from the vertex of the step before
  pub record IsStep (ends : List Arc) (xs : List C) (steps : List Step) (s : Step) : Type 0 where
    pub last : Step
    pub known : slice_get steps s.before ≡ Some last
    pub arc : Arc
    pub at : slice_get ends s.arc ≡ Some arc
    pub from : arc.from ≡ last.vertex
    pub to : arc.to ≡ s.vertex
    pub carries : HasAmount xs s.arc (λ z. z ≢ pos 0)

  -- steps over arcs that carry flow, which begin at the start and reach no vertex twice
  pub record IsReached (ends : List Arc) (xs : List C) (start : ℕ) (steps : List Step) (places : List (Option ℕ)) : Type 0 where
    pub first : (s : Step) × (slice_get steps 0 ≡ Some s) × (s.vertex ≡ start)
    pub behind : (j : ℕ) (s : Step) → slice_get steps (suc j) ≡ Some s → (s.before ≤ j) × IsStep ends xs steps s
    pub placed : (j : ℕ) (s : Step) → slice_get steps j ≡ Some s → slice_get places s.vertex ≡ Some (Some j)
    pub standing : (b j : ℕ) → slice_get places b ≡ Some (Some j) → (s : Step) × (slice_get steps j ≡ Some s) × (s.vertex ≡ b)
    pub count : length steps + count_by is_none places ≡ length places

  -- what was reached from a start stays reached from it
  abbrev pub StaysReached : List Arc → List C → List Step → List (Option ℕ) → List Step → List (Option ℕ) → Type 0
  StaysReached ends xs steps places steps' places' = (start : ℕ) → IsReached ends xs start steps places → IsReached ends xs start steps' places'

  -- each arc of these numbers that carries flow leads to a vertex that was reached
  abbrev pub LeadsToPlaced : List Arc → List C → List ℕ → List (Option ℕ) → Type 0
  LeadsToPlaced ends xs ks places = (k : ℕ) (e : Arc) → Has ks k → slice_get ends k ≡ Some e → HasAmount xs k (λ z. z ≢ pos 0) → IsPlaced places e.to

  -- each arc that carries flow, from the vertex of one of the first steps, leads to a vertex that was reached
  abbrev pub IsExpanded : List Arc → List C → ℕ → List Step → List (Option ℕ) → Type 0
  IsExpanded ends xs at steps places = (i k : ℕ) (s : Step) (e : Arc) → i < at → slice_get steps i ≡ Some s → slice_get ends k ≡ Some e → e.from ≡ s.vertex → HasAmount xs k (λ z. z ≢ pos 0) → IsPlaced places e.to

  -- a cycle of arcs that carry flow, one of which has the number `through`
  pub record IsCycle (ends : List Arc) (xs : List C) (through : ℕ) (cycle : List ℕ) : Type 0 where
    pub leads : (a : ℕ) × Leads ends a cycle a
    pub once : IsOnce cycle
    pub carries : (k : ℕ) → Has cycle k → HasAmount xs k (λ z. z ≢ pos 0)
    pub passes : Has cycle through

  -- each amount of these numbers is z less than before, and the others are the same
  pub record IsTakenOff (z : ℤ) (ks : List ℕ) (xs xs' : List C) : Type 0 where
    pub len : length xs' ≡ length xs
    pub less : (k : ℕ) (x : C) → Has ks k → slice_get xs k ≡ Some x → HasAmount xs' k (λ y. y ≡ (value x -ℤ z))
    pub same : (k : ℕ) → ¬ (Has ks k) → slice_get xs' k ≡ slice_get xs k

  -- the amount of one arc is z less than before, and each other one is at most z less
  pub record IsLowered (z : ℤ) (through : ℕ) (xs xs' : List C) : Type 0 where
    pub len : length xs' ≡ length xs
    pub each : (k : ℕ) (x : C) → slice_get xs k ≡ Some x → HasAmount xs' k (λ y. (pos 0 ≤ℤ y) × (y ≤ℤ value x) × ((value x -ℤ z) ≤ℤ y))
    pub exact : (x : C) → slice_get xs through ≡ Some x → HasAmount xs' through (λ y. y ≡ (value x -ℤ z))

  -- the numbers of the arcs by which the search came to the goal, as far back as the vertex of the step at this place
  pub record IsWayBack (ends : List Arc) (xs : List C) (goal : ℕ) (steps : List Step) (places : List (Option ℕ)) (at : ℕ) (way : List ℕ) : Type 0 where
    pub leads : (s : Step) × (slice_get steps at ≡ Some s) × Leads ends s.vertex way goal
    pub once : IsOnce way
    pub carries : (k : ℕ) → Has way k → HasAmount xs k (λ z. z ≢ pos 0)
    pub later : (k : ℕ) → Has way k → (e : Arc) × (j : ℕ) × (slice_get ends k ≡ Some e) × (slice_get places e.to ≡ Some (Some j)) × (at < j)
