-- Where a search for strong components over numbers stands.
use Rattle.std.specs.Prelude.{◌≡◌, ◌↔◌, ◌⊎◌, ◌<◌, ◌≤◌, ◌+◌, ◌-◌, ◌++◌, ℕ, ℤ, List, Some, slice_get, length, replicate}
use Rattle.pf_base.specs.Walks.{Follows, end_of}
use Rattle.pf_orders.specs.declared.component_search.Place.{Place}
use Rattle.pf_orders.specs.declared.component_search.Place.TheVariants.{New, Open, Closed}
use Rattle.pf_orders.specs.declared.component_search.Segment.{Segment}
use Rattle.pf_orders.specs.declared.component_search.ComponentSearch.{ComponentSearch}
use Rattle.pf_orders.specs.StrongComponents.{lists_of}

-- the list has x at this place
abbrev pub IsAt : {A : Type 0} → List A → ℕ → A → Type 0
IsAt xs k x = slice_get xs k ≡ Some x

-- the last segment begins here
abbrev pub IsLast : List Segment → Segment → Type 0
IsLast segments c = (i : ℕ) × IsAt segments i c × (i + 1 ≡ length segments)

-- the list with this index has the number
abbrev pub IsMember : List (List ℕ) → ℕ → ℕ → Type 0
IsMember components i k = (c : List ℕ) × (p : ℕ) × IsAt components i c × IsAt c p k

-- the places, with those of the numbers that were found since then new
abbrev pub widened : ℕ → List Place → List Place
widened found places = places ++ replicate (found - length places) New

-- the component of the number was found
abbrev pub IsClosed : List Place → ℕ → Type 0
IsClosed places k = IsAt places k Closed

-- these numbers are closed, and the places of the others are as before
pub record Closes (numbers : List ℕ) (places places' : List Place) : Type 0 where
  pub long : length places' ≡ length places
  pub now : (p k : ℕ) → IsAt numbers p k → IsClosed places' k
  pub stays : (k : ℕ) (m : Place) → IsAt places k m → IsAt places' k m ⊎ ((p : ℕ) × IsAt numbers p k)
  pub back : (k : ℕ) (m : Place) → IsAt places' k m → IsAt places k m ⊎ ((m ≡ Closed) × ((p : ℕ) × IsAt numbers p k))

-- the segments that begin behind an open number are taken out
pub record Joins (place : ℕ) (segments segments' : List Segment) : Type 0 where
  pub kept : (i : ℕ) (c : Segment) → IsAt segments' i c → IsAt segments i c
  pub stays : (i : ℕ) (c : Segment) → IsAt segments i c → IsAt segments' i c ⊎ (place < c.begin)
  pub last : (c : Segment) → IsLast segments' c → c.begin ≤ place

-- the number is among these components alone, at one place
pub record AreApart (components : List (List ℕ)) : Type 0 where
  pub once : (i j k : ℕ) → IsMember components i k → IsMember components j k → i ≡ j
  pub distinct : (i : ℕ) (c : List ℕ) (p q k : ℕ) → IsAt components i c → IsAt c p k → IsAt c q k → p ≡ q
  pub filled : (i : ℕ) (c : List ℕ) → IsAt components i c → 0 < length c

-- Of so many numbers each is in a component that was found, open or waiting. Places tell which. The segments of what is open and of what waits begin one behind the other, the first of them at the first open number.
pub record IsPlaced (found : ℕ) (places : List Place) (path waiting : List ℕ) (segments : List Segment) (components : List (List ℕ)) : Type 0 where
  pub long : length places ≡ found
  pub placed : (p k : ℕ) → IsAt path p k → IsAt places k (Open p)
  pub back : (p k : ℕ) → IsAt places k (Open p) → IsAt path p k
  pub waits : (i k : ℕ) → IsAt waiting i k → k < found
  pub known : (k : ℕ) → k < found → IsClosed places k ⊎ ((p : ℕ) × IsAt path p k) ⊎ ((i : ℕ) × IsAt waiting i k)
  pub rising : (i j : ℕ) (b c : Segment) → i < j → IsAt segments i b → IsAt segments j c → (b.begin < c.begin) × (b.waiting ≤ c.waiting)
  pub inside : (i : ℕ) (c : Segment) → IsAt segments i c → (c.begin < length path) × (c.waiting ≤ length waiting)
  pub begun : (p k : ℕ) → IsAt path p k → (i : ℕ) × (c : Segment) × IsAt segments i c × (c.begin ≤ p)
  pub member : (k : ℕ) → IsClosed places k → (i : ℕ) × IsMember components i k
  pub closed : (i k : ℕ) → IsMember components i k → IsClosed places k
  pub apart : AreApart components

module _ {X : Type 0} (step : X → ℤ → X → Type 0) (stands : ℕ → X → Type 0) where
  -- some step leads from a node of u to a node of v
  abbrev pub IsLink : ℕ → ℕ → Type 0
  IsLink u v = (x : X) × (z : ℤ) × (y : X) × stands u x × step x z y × stands v y

  -- some walk leads from u to v
  abbrev pub Leads : ℕ → ℕ → Type 0
  Leads u v = (w : List ℕ) × Follows IsLink u w × (end_of u w ≡ v)

  -- each step from u leads to a number with the property
  abbrev pub LeadsInto : ℕ → (ℕ → Type 0) → Type 0
  LeadsInto u P = (x : X) (z : ℤ) (y : X) → stands u x → step x z y → (v : ℕ) × stands v y × P v

  -- the numbers of a component lead to one another, and each step from them leads to this component or to one before it
  pub record AreClosing (components : List (List ℕ)) : Type 0 where
    pub joined : (i u v : ℕ) → IsMember components i u → IsMember components i v → Leads u v
    pub before : (i u : ℕ) → IsMember components i u → LeadsInto u (λ v. (j : ℕ) × (j ≤ i) × IsMember components j v)

  module _ (places : List Place) (path waiting : List ℕ) (segments : List Segment) where
    -- what is open at p and what waits at i are of the same segments
    abbrev pub AreBeside : ℕ → ℕ → Type 0
    AreBeside p i = (j : ℕ) (c : Segment) → IsAt segments j c → (c.begin ≤ p) ↔ (c.waiting ≤ i)

    -- where a step leads from the number that is open at p: to a component that was found, to an open number not before the segment of p, or to one that waits not before it
    abbrev pub IsBehind : ℕ → ℕ → Type 0
    IsBehind p v = IsClosed places v
        ⊎ ((q : ℕ) × IsAt path q v × ((j : ℕ) (c : Segment) → IsAt segments j c → c.begin ≤ p → c.begin ≤ q))
        ⊎ ((i : ℕ) × IsAt waiting i v × ((j : ℕ) (c : Segment) → IsAt segments j c → c.begin ≤ p → c.waiting ≤ i))

    -- Each open number leads to those behind it, and back within its segment. What waits stands for a node; in a segment it is led to from there. Each step from an open number leads to what is known of.
    pub record IsOpenPath : Type 0 where
      pub named : (i k : ℕ) → IsAt waiting i k → (x : X) × stands k x
      pub forth : (p q u v : ℕ) → p ≤ q → IsAt path p u → IsAt path q v → Leads u v
      pub back : (p q u v : ℕ) → p ≤ q → IsAt path p u → IsAt path q v → ((j : ℕ) (c : Segment) → IsAt segments j c → c.begin ≤ q → c.begin ≤ p) → Leads v u
      pub led : (i t j : ℕ) (c : Segment) → IsAt waiting i t → IsAt segments j c → c.waiting ≤ i → (p : ℕ) × (u : ℕ) × IsAt path p u × AreBeside p i × Leads u t
      pub goes : (p u : ℕ) → IsAt path p u → LeadsInto u (IsBehind p)

-- The lists are the strong components of so many numbers, each behind those that it reaches.
module _ {X : Type 0} (step : X → ℤ → X → Type 0) (stands : ℕ → X → Type 0) (found : ℕ) where
  pub record AreNumberedComponents (components : List (List ℕ)) : Type 0 where
    pub complete : (k : ℕ) → k < found → (i : ℕ) × IsMember components i k
    pub inside : (i k : ℕ) → IsMember components i k → k < found
    pub apart : AreApart components
    pub closing : AreClosing step stands components

module _ {A : Type 0} where
  -- `IsPlaced` of what a search has
  abbrev pub IsPlacedIn : ℕ → ComponentSearch A → Type 0
  IsPlacedIn found s = IsPlaced found s.places.items s.path.items s.waiting.items s.segments.items (lists_of s.components.items)

  -- `IsOpenPath` of what a search has
  abbrev pub IsOpenIn : {X : Type 0} → (X → ℤ → X → Type 0) → (ℕ → X → Type 0) → ComponentSearch A → Type 0
  IsOpenIn step stands s = IsOpenPath step stands s.places.items s.path.items s.waiting.items s.segments.items
