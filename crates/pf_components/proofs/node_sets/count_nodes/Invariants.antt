use Rattle.std.proofs.Common.{◌≡◌, ◌<◌, ◌==◌, ℕ, length, take}
use Rattle.std.specs.Prelude.{slice_index, count_by}
use Rattle.pf_components.proofs.node_sets.count_nodes.Given as goal

-- the nodes so far are counted
abbrev pub invariant-loop-group : goal.invariant-loop-group
invariant-loop-group g l = record {
  wide : length l.counts.items ≡ length l.ids;
  counted : (id : ℕ) → id < length l.ids → slice_index l.counts.items id ≡ count_by (λ group. slice_index l.ids group == id) (take l.group-index l.first);
}
