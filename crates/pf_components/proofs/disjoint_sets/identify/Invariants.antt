use Rattle.std.proofs.Common.{◌≡◌, ℕ, length, take}
use Rattle.std.specs.Prelude.{map}
use Rattle.pf_union_find.specs.UnionFind.{IsSound, IsLabelling}
use Rattle.pf_components.specs.Internal.DisjointSets.{Identifies}
use Rattle.pf_components.proofs.disjoint_sets.identify.Given as goal

abbrev pub invariant-loop-group : goal.invariant-loop-group
invariant-loop-group g l = record {
  sound : IsSound (map g.V.VertexNumber.stands_for l.parents);
  len : length l.ids.items ≡ l.group;
  labels : (label : ℕ → ℕ) → IsLabelling label (map g.V.VertexNumber.stands_for l.fn.parents) → IsLabelling label (map g.V.VertexNumber.stands_for l.parents) × Identifies label (length l.groups) (take l.group l.groups) l.ids.items;
}
