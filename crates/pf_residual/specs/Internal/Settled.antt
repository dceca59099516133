-- Tables in which the flows of arcs are set, one after the other.
use Rattle.std.specs.Prelude.{◌≡◌, ◌≢◌, ◌⊎◌, ◌≤ℤ◌, ◌<ℤ◌, ◌-ℤ◌, ◌<◌, ◌≤◌, ◌+◌, ℕ, ℤ, pos, neg_ℤ, Bool, List, [], ◌∷◌, Some, slice_get, length, take, if◌then◌else◌}
use Rattle.pf_residual.specs.declared.cancelling.arcs.Arc.{Arc}
use Rattle.pf_residual.specs.Flows.{PairTable, added, Same}
use Rattle.pf_base.specs.Sums.{sum_to}
use Rattle.pf_residual.specs.Networks.{Network, KeepsCapacities}
use Rattle.pf_residual.specs.Internal.Cancelling.{net_of, HasAmount, AreInside, AreAmounts, IsCirculation}

-- the table with this much more at a pair, and as much less at its reverse
abbrev pub moved : PairTable → ℕ → ℕ → ℤ → PairTable
moved t u v z = added (added t u v z) v u (neg_ℤ z)

-- what the rows of a set of vertices sum to
abbrev pub side_sum : ℕ → PairTable → (ℕ → Bool) → ℤ
side_sum n t side = sum_to (λ a. if side a then sum_to (t a) n else pos 0) n

module _ {C : Type 0} (value : C → ℤ) where
  -- the table in which the arcs have these numbers, and their reverses the opposite ones
  abbrev pub settled : PairTable → List Arc → List C → PairTable
  settled t [] xs = t
  settled t (e ∷ ends) [] = t
  settled t (e ∷ ends) (x ∷ xs) = settled (moved t e.to e.from (t e.from e.to -ℤ value x)) ends xs

-- the arc is that of a pair, or of its reverse
abbrev pub Touches : ℕ → ℕ → Arc → Type 0
Touches a b e = ((a ≡ e.from) × (b ≡ e.to)) ⊎ ((a ≡ e.to) × (b ≡ e.from))

-- no arc leads back to where it begins, and no two are arcs of one pair or of its reverse
pub record AreApart (ends : List Arc) : Type 0 where
  pub loops : (k : ℕ) (e : Arc) → slice_get ends k ≡ Some e → e.from ≢ e.to
  pub once : (j k : ℕ) (d e : Arc) → slice_get ends j ≡ Some d → slice_get ends k ≡ Some e → Touches d.from d.to e → j ≡ k

-- the flows of the first k arcs were set; the capacities and the total are as before
pub record IsSettled {C : Type 0} (value : C → ℤ) (k : ℕ) (ends : List Arc) (xs : List C) (N M : Network) : Type 0 where
  pub kept : KeepsCapacities N M
  pub flow : Same (settled value N.flow (take k ends) (take k xs)) M.flow
  pub total : M.total ≡ N.total

-- the flows above 0, each as one arc with its amount
pub record HoldFlows {C : Type 0} (value : C → ℤ) (N : Network) (ends : List Arc) (xs : List C) : Type 0 where
  pub long : length xs ≡ length ends
  pub sound : (k : ℕ) (e : Arc) → slice_get ends k ≡ Some e → (e.from < N.vertices) × (e.to < N.vertices) × (pos 0 <ℤ N.flow e.from e.to)
  pub number : (k : ℕ) (e : Arc) (x : C) → slice_get ends k ≡ Some e → slice_get xs k ≡ Some x → N.flow e.from e.to ≡ value x
  pub complete : (a b : ℕ) → a < N.vertices → b < N.vertices → pos 0 <ℤ N.flow a b → (k : ℕ) × (e : Arc) × (slice_get ends k ≡ Some e) × (e.from ≡ a) × (e.to ≡ b)
  pub once : (j k : ℕ) (d e : Arc) → slice_get ends j ≡ Some d → slice_get ends k ≡ Some e → d.from ≡ e.from → d.to ≡ e.to → j ≡ k

-- the arc of a pair of vertices
abbrev pub arc_of : {C : Type 0} → (ℕ × ℕ) × C → Arc
arc_of f = record { from = f.0.0; to = f.0.1 }

-- the first arcs carry flow, each at least its amount
pub record AreFlowing {C : Type 0} (value : C → ℤ) (count : ℕ) (ends : List Arc) (xs : List C) (N : Network) : Type 0 where
  pub ends_long : count ≤ length ends
  pub long : count ≤ length xs
  pub apart : AreApart (take count ends)
  pub inside : (k : ℕ) (e : Arc) → k < count → slice_get ends k ≡ Some e → (e.from < N.vertices) × (e.to < N.vertices)
  pub flows : (k : ℕ) (e : Arc) → k < count → slice_get ends k ≡ Some e → pos 0 <ℤ N.flow e.from e.to
  pub less : (k : ℕ) (e : Arc) (x : C) → k < count → slice_get ends k ≡ Some e → slice_get xs k ≡ Some x → (pos 0 ≤ℤ value x) × (value x ≤ℤ N.flow e.from e.to)

-- all flows as arcs with amounts, and last an arc from the sink back to the source with the total, so that all is balanced
pub record IsPlan {C : Type 0} (value : C → ℤ) (count : ℕ) (ends : List Arc) (xs : List C) (N : Network) : Type 0 where
  pub len : length ends ≡ count + 1
  pub long : length xs ≡ length ends
  pub back : slice_get ends count ≡ Some record { from = N.sink; to = N.source }
  pub total : HasAmount value xs count (λ z. z ≡ N.total)
  pub inside : AreInside N.vertices ends
  pub amounts : AreAmounts value xs
  pub balanced : IsCirculation value ends xs
  pub apart : AreApart (take count ends)
  pub flows : (k : ℕ) (e : Arc) → k < count → slice_get ends k ≡ Some e → pos 0 <ℤ N.flow e.from e.to
  pub number : (k : ℕ) (e : Arc) (x : C) → k < count → slice_get ends k ≡ Some e → slice_get xs k ≡ Some x → N.flow e.from e.to ≡ value x
  pub net : (side : ℕ → Bool) → net_of value side (take count ends) (take count xs) ≡ side_sum N.vertices N.flow side
