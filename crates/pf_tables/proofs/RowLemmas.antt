-- Tables with a row for each node.
use Rattle.std.proofs.Common.{◌≡◌, inl, inr, ℕ, ◌+◌, ◌<◌, sym, subst, ◌∙◌, refl, ap, List, length, get_or}
use Rattle.std.specs.Prelude.{ℤ, Some, slice_get}
use Rattle.std.proofs.lemmas.List.{length-map}
use Rattle.std.proofs.lemmas.Option.{slice_get_read}
use Rattle.pf_tables.specs.declared.error.TableError.{TableError}
use Rattle.pf_tables.specs.Graphs.{filled, part, row_of}
use Rattle.pf_tables.specs.Faults.{IsSoundRow, IsFirstFault, IsFirstFaultOfRow}
use Rattle.pf_tables.proofs.Parts.{filled_at, part_whole, row_is}
use Rattle.pf_tables.proofs.Faulty.{less_or_same}

-- the row that was read is that of the node
module _ {X C : Type 0} (items : X → List (ℕ × C)) (rows : List X) (node : ℕ) (row : X) (inside : node < length rows) (read : row ≡ get_or rows node row) where
  row_read : row_of items rows node ≡ items row
  row_read = row_is items rows node row (slice_get_read rows (length rows) node row refl inside read)

  whole_row : (len : ℕ) → len ≡ length (items row) → part 0 len (items row) ≡ row_of items rows node
  whole_row len e = ap (λ k. part 0 k (items row)) e ∙ part_whole (items row) ∙ sym row_read

  pub row_length : length (filled (row_of items rows node)) ≡ length (items row)
  row_length = length-map (row_of items rows node) _ ∙ ap length row_read

  pub row_edge : (place : ℕ) (edge : ℕ × C) → slice_get (items row) place ≡ Some edge → slice_get (filled (row_of items rows node)) place ≡ Some (Some edge)
  row_edge place edge e = filled_at (row_of items rows node) place edge (ap (λ xs. slice_get xs place) row_read ∙ e)

  -- one more row is sound
  pub row_more : (value : C → ℤ) (size len : ℕ) → len ≡ length (items row) → IsSoundRow value size (part 0 len (items row))
      → ((n : ℕ) → n < node → IsSoundRow value size (row_of items rows n))
      → (n : ℕ) → n < node + 1 → IsSoundRow value size (row_of items rows n)
  row_more value size len e sound before n h = elim (less_or_same n node h) [
    | inl l ↦ before n l
    | inr s ↦ subst (λ k. IsSoundRow value size (row_of items rows k)) (sym s) (subst (IsSoundRow value size) (whole_row len e) sound)
  ]

  pub row_fault : (value : C → ℤ) (size len : ℕ) → len ≡ length (items row) → (error : TableError) → node < size → IsFirstFaultOfRow value size node (part 0 len (items row)) error
      → ((n : ℕ) → n < node → IsSoundRow value size (row_of items rows n))
      → IsFirstFault value size (row_of items rows) error
  row_fault value size len e error below fault before = record {
    node = node;
    inside = below;
    first = subst (λ xs. IsFirstFaultOfRow value size node xs error) (whole_row len e) fault;
    before = before;
  }
