-- Offsets that rise.
use Rattle.std.proofs.Common.{◌≡◌, inl, inr, ℕ, zero, suc, ◌+◌, ◌-◌, ◌<◌, ◌≤◌, sym, subst, ◌∙◌, ap, arith, List, length}
use Rattle.std.specs.Prelude.{ℤ, Some, slice_get, slice_index}
use Rattle.std.proofs.lemmas.List.{length-map}
use Rattle.pf_tables.specs.declared.error.TableError.{TableError}
use Rattle.pf_tables.specs.Graphs.{between, filled}
use Rattle.pf_tables.specs.Faults.{IsSoundRow, IsFirstFault, IsFirstFaultOfRow}
use Rattle.pf_tables.specs.Offsets.{IsOffsets, IsRisingTo, IsCompact}
use Rattle.pf_tables.proofs.Parts.{filled_at, part_at, part_length}
use Rattle.pf_tables.proofs.Faulty.{graph_of_sound, less_or_same}

rises : (offsets : List ℕ) (top from steps : ℕ) → IsRisingTo offsets top → from + steps ≤ top → slice_index offsets from ≤ slice_index offsets (from + steps)
rises offsets top from zero h l = let e : from + 0 ≡ from = omega arith in rw e (omega arith)
rises offsets top from (suc steps) h l =
    let before = rises offsets top from steps h (omega (arith, l)) in
    let next = h (from + steps) (omega (arith, l)) in
    let e : from + suc steps ≡ from + steps + 1 = omega arith in
    rw e (omega (arith, before, next))

-- no offset is past the number of edges
pub offset_within : (offsets : List ℕ) (edges node : ℕ) → IsOffsets offsets edges → node < length offsets → slice_index offsets node ≤ edges
offset_within offsets edges node h l =
    let top = length offsets - 1 in
    let e : node + (top - node) ≡ top = omega (arith, l) in
    let rise = rises offsets top node (top - node) h.rising (omega (arith, l)) in
    let last : slice_index offsets (node + (top - node)) ≡ edges = ap (slice_index offsets) e ∙ h.last in
    omega (arith, rise, last)

pub node_below : {node count : ℕ} → node < count - 1 → node < count
node_below l = omega arith

pub place_below : (first : ℕ) {place long next edges : ℕ} → place < long → long ≡ next - first → next ≤ edges → first + place < edges
place_below first l e h = omega arith

module _ {C : Type 0} (offsets : List ℕ) (edges : List (ℕ × C)) (h : IsOffsets offsets (length edges)) (node : ℕ) (inside : node < length offsets - 1) where
  pub next_within : slice_index offsets (node + 1) ≤ length edges
  next_within = offset_within offsets (length edges) (node + 1) h (omega (arith, inside))

  pub between_length : length (filled (between offsets edges node)) ≡ slice_index offsets (node + 1) - slice_index offsets node
  between_length = length-map (between offsets edges node) _ ∙ part_length (slice_index offsets node) (slice_index offsets (node + 1)) edges (h.rising node inside) next_within

  pub between_edge : (place : ℕ) (edge : ℕ × C) → place < length (filled (between offsets edges node)) → slice_get edges (slice_index offsets node + place) ≡ Some edge → slice_get (filled (between offsets edges node)) place ≡ Some (Some edge)
  between_edge place edge l e = filled_at (between offsets edges node) place edge (part_at (slice_index offsets node) (slice_index offsets (node + 1)) place edges (omega (arith, l, between_length)) ∙ e)

-- the rows of all nodes, one after another
module _ {C : Type 0} (value : C → ℤ) (size : ℕ) (rows : ℕ → List (ℕ × C)) (node : ℕ) where
  pub one_more_row : IsSoundRow value size (rows node) → ((n : ℕ) → n < node → IsSoundRow value size (rows n)) → (n : ℕ) → n < node + 1 → IsSoundRow value size (rows n)
  one_more_row sound before n l = elim (less_or_same n node l) [
    | inl b ↦ before n b
    | inr s ↦ subst (λ k. IsSoundRow value size (rows k)) (sym s) sound
  ]

  pub first_fault : (error : TableError) → node < size → IsFirstFaultOfRow value size node (rows node) error → ((n : ℕ) → n < node → IsSoundRow value size (rows n)) → IsFirstFault value size rows error
  first_fault error below fault before = record { node = node; inside = below; first = fault; before = before }

pub compact : {C : Type 0} (value : C → ℤ) (offsets : List ℕ) (edges : List (ℕ × C)) → IsOffsets offsets (length edges) → ((n : ℕ) → n < length offsets - 1 → IsSoundRow value (length offsets - 1) (between offsets edges n)) → IsCompact value offsets edges
compact value offsets edges h sound = record { offsets_ok = h; graph = graph_of_sound (between offsets edges) sound }
