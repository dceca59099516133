-- What a search by cost knows of its graph before its first turn.
use Rattle.std.specs.Prelude.{◌≡◌, ◌↔◌, ℤ, Bool, true, List, [], ◌∷◌}
use Rattle.pf_base.specs.Edges.{InReach}
use Rattle.pf_discovery.specs.declared.tested.TestedBy.{TestedBy}
use Rattle.pf_core.specs.Nodes.{StandsFor, Explores}

module _ {N M S T : Type 0} (eq : N → N → Bool) (keys : M → List N) (answers : S → List N → (N → List (N × ℤ)) → Type 0) (tests : T → (N → Type 0) → (N → Bool) → Type 0) where
  -- The number 0 stands for the start, and what is asked answers these edges and this test in reach of it.
  pub record IsBegun (edges : N → List (N × ℤ)) (start : N) (test : N → Bool) (graph : TestedBy M S T) : Type 0 where
    pub begins : (x : N) → StandsFor eq (keys graph.discovery.nodes) 0 x ↔ (eq start x ≡ true)
    pub explores : Explores eq answers (record { starts = start ∷ []; edges = edges }) (keys graph.discovery.nodes) graph.discovery.source
    pub tested : tests graph.success (InReach eq edges (start ∷ [])) test

  module _ (graph : TestedBy M S T) where
    -- the search has begun at some start, where some edges and some test are answered
    abbrev pub HasBegun : Type 0
    HasBegun = (edges : N → List (N × ℤ)) × (start : N) × (test : N → Bool) × IsBegun edges start test graph

    -- of whatever start the search has begun at, and whatever edges and test are answered, P holds
    abbrev pub OfBegun : ((N → List (N × ℤ)) → N → (N → Bool) → Type 0) → Type 0
    OfBegun P = (edges : N → List (N × ℤ)) (start : N) (test : N → Bool) → IsBegun edges start test graph → P edges start test
