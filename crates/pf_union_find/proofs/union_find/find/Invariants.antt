use Rattle.std.proofs.Common.{◌≡◌, ◌<◌, ℕ, length}
use Rattle.std.specs.Prelude.{map}
use Rattle.pf_union_find.specs.UnionFind.{IsSound, IsLabelling, IsRoot}
use Rattle.pf_union_find.proofs.union_find.find.Given as goal

abbrev pub invariant-climb : goal.invariant-climb
invariant-climb g l = record {
  sound : IsSound (map g.V.VertexNumber.stands_for l.parents);
  inside : l.node < length l.parents;
  roots : (x : ℕ) → IsRoot (map g.V.VertexNumber.stands_for l.fn.parents) x → IsRoot (map g.V.VertexNumber.stands_for l.parents) x;
  labels : (label : ℕ → ℕ) → IsLabelling label (map g.V.VertexNumber.stands_for l.fn.parents) → IsLabelling label (map g.V.VertexNumber.stands_for l.parents) × (label l.node ≡ label l.fn.start);
}

abbrev pub decreases-climb : goal.decreases-climb
decreases-climb g l = l.node
