-- What functions that list edges or successors answer, as a discovery asks them.
use Rattle.std.specs.Prelude.{◌≡◌, ℤ, Bool, List}
use Rattle.pf_base.specs.Walks.{IsReachable}
use Rattle.pf_base.specs.Edges.{InReach}
use Rattle.pf_base.specs.Successors.{HasSuccessor}
use Rattle.pf_discovery.specs.declared.source.Weighted.{Weighted}
use Rattle.pf_discovery.specs.declared.source.Unweighted.{Unweighted}
use Rattle.pf_core.specs.Hops.{unit_edges}

module _ {N F : Type 0} (eq : N → N → Bool) where
  -- the function lists these edges in reach of the starts
  abbrev pub AnswersEdges : (F → (N → Type 0) → (N → List (N × ℤ)) → Type 0) → Weighted F → List N → (N → List (N × ℤ)) → Type 0
  AnswersEdges answers s starts edges = answers s.function (InReach eq edges starts) edges

  -- the function lists successors in reach of the starts, and these are the edges to them, each at cost 1
  abbrev pub AnswersHops : (F → (N → Type 0) → (N → List N) → Type 0) → Unweighted F → List N → (N → List (N × ℤ)) → Type 0
  AnswersHops answers s starts edges = (next : N → List N) × (edges ≡ unit_edges next) × answers s.function (IsReachable eq (HasSuccessor eq next) starts) next
