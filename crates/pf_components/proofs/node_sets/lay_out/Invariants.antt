use Rattle.std.proofs.Common.{◌≡◌, ◌<◌, ◌==◌, ℕ, length, take}
use Rattle.std.specs.Prelude.{slice_index, count_by}
use Rattle.pf_union_find.specs.Rows.{row_count, room_of, fill_of}
use Rattle.pf_components.specs.Internal.DisjointSets.{AreLaidOut}
use Rattle.pf_components.proofs.node_sets.lay_out.Given as goal

-- the nodes so far are in their rows, and each row has room for all that belong to it
abbrev pub invariant-loop-number : goal.invariant-loop-number
invariant-loop-number g l = record {
  wide : row_count l.rows ≡ length l.sizes.items;
  room : (id : ℕ) → (id < length l.ids) × (0 < count_by (λ group. slice_index l.ids group == id) l.first) → room_of l.rows (slice_index l.numbers.items id) ≡ count_by (λ group. slice_index l.ids group == id) l.first;
  fill : (id : ℕ) → (id < length l.ids) × (0 < count_by (λ group. slice_index l.ids group == id) l.first) → fill_of l.rows (slice_index l.numbers.items id) ≡ count_by (λ group. slice_index l.ids group == id) (take l.number l.first);
  placed : AreLaidOut l.nodes (take l.number l.first) l.ids l.numbers.items l.rows;
}
