use Rattle.std.proofs.Common.{◌≡◌, ◌+◌, ◌≤◌, length, vec_capacity, map, ◌++◌, Some}
use Rattle.std.specs.Vec.Iter.{into_iter_items, into_iter_len}
use Rattle.pf_matrix.proofs.matrix.transposition.all_waiting.Given as goal

-- the values so far wait, and the others are still to come
abbrev pub invariant-loop-value : goal.invariant-loop-value
invariant-loop-value g l = record {
  room : length l.waiting.items + length (into_iter_items l.value-iterator) ≤ vec_capacity l.waiting;
  len : into_iter_len l.value-iterator ≡ length (into_iter_items l.value-iterator);
  all : l.waiting.items ++ map Some (into_iter_items l.value-iterator) ≡ map Some l.fn.values.items;
}
