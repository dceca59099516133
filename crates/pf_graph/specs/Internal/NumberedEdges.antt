-- Nodes that are numbered in the order in which they are kept, and edges that refer to them.
use Rattle.std.specs.Prelude.{◌≡◌, ℕ, Bool, List, Result, Ok, Contains}
use Rattle.std.specs.Borrow.{Bor}
use Rattle.std.specs.Fn.{Shared, FnReturnsAt}
use Rattle.std.specs.List.{IsDistinct}
use Rattle.pf_graph.specs.declared.undirected.weighed.Weighed.{Weighed}
use Rattle.pf_union_find.specs.Nodes.{StandsFor}

-- f has the ends of the edge that e refers to, and what e is weighed by
abbrev pub IsWritten : {N C : Type 0} → (ℕ × ℕ × Weighed N C C) → (N × N × C) → Type 0
IsWritten e f = (f.0 ≡ e.2.edge.now.0) × (f.1 ≡ e.2.edge.now.1) × (f.2 ≡ e.2.weight)

-- e is weighed by what `weigh` returns at the weight of its edge
abbrev pub IsWeighed : {N C W E F : Type 0} → Shared F (Bor C × Unit {0}) (Result W E) → F → (ℕ × ℕ × Weighed N C W) → Type 0
IsWeighed calls weigh e = FnReturnsAt calls weigh e.2.edge.now.2 (Ok e.2.weight)

module _ {N : Type 0} (eq : N → N → Bool) where
  -- the nodes are apart, and the edges are numbered by them
  pub record IsNumbered {C W : Type 0} (nodes : List (Bor N)) (edges : List (N × N × C)) (numbered : List (ℕ × ℕ × Weighed N C W)) : Type 0 where
    pub apart : IsDistinct (λ (p q : Bor N). eq p.now q.now) nodes
    pub from : (e : ℕ × ℕ × Weighed N C W) → Contains numbered e → Contains edges e.2.edge.now × StandsFor eq nodes e.0 e.2.edge.now.0 × StandsFor eq nodes e.1 e.2.edge.now.1
    pub all : (f : N × N × C) → Contains edges f → (e : ℕ × ℕ × Weighed N C W) × Contains numbered e × (e.2.edge.now ≡ f)
