use Rattle.std.proofs.Common.{◌≡◌, ℕ, length}
use Rattle.std.specs.Prelude.{map}
use Rattle.pf_union_find.specs.UnionFind.{IsRoot}
use Rattle.pf_union_find.proofs.union_find.make_sets.Given as goal

abbrev pub invariant-loop-vertex : goal.invariant-loop-vertex
invariant-loop-vertex g l = record { len : length l.parents.items ≡ l.vertex; alone : (x : ℕ) → IsRoot (map g.V.VertexNumber.stands_for l.parents.items) x }
