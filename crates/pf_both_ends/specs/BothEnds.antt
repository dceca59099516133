-- Graphs with costs that are searched from both ends: `edges x` lists the edges from x, `previous x` those that lead to x, each as the node that it comes from and its cost.
use Rattle.std.specs.Prelude.{ℤ, Bool, List, [], ◌∷◌}
use Rattle.pf_base.specs.Edges.{HasEdge, InReach, HasNoNegativeCost}

module _ {N : Type 0} (eq : N → N → Bool) (edges previous : N → List (N × ℤ)) (start end : N) where
  -- an edge of some cost leads from a to b exactly where one of that cost leads back from b to a, for each a that a walk from the start reaches and each b that a walk back from the end reaches
  pub record IsCostMirror : Type 0 where
    pub precedes : (a b : N) (z : ℤ) → InReach eq edges (start ∷ []) a → InReach eq previous (end ∷ []) b → HasEdge eq (edges a) b z → HasEdge eq (previous b) a z
    pub follows : (a b : N) (z : ℤ) → InReach eq edges (start ∷ []) a → InReach eq previous (end ∷ []) b → HasEdge eq (previous b) a z → HasEdge eq (edges a) b z

  -- The functions that are handed in answer these edges in reach of the start and these edges back in reach back from the end, each mirrors the other, and no edge there costs less than 0.
  pub record IsWeightedSearchFromBothEnds (answers_forth answers_back : (N → Type 0) → (N → List (N × ℤ)) → Type 0) : Type 0 where
    pub edges_answered : answers_forth (InReach eq edges (start ∷ [])) edges
    pub previous_answered : answers_back (InReach eq previous (end ∷ [])) previous
    pub mirror : IsCostMirror
    pub costs : HasNoNegativeCost eq edges (start ∷ [])
    pub costs_back : HasNoNegativeCost eq previous (end ∷ [])

-- What functions that list edges from nodes and edges to nodes answer from the start on and back from the end, where each mirrors the other and no edge costs less than 0.
module _ {N : Type 0} (eq : N → N → Bool) (start end : N) (answers_forth answers_back : (N → Type 0) → (N → List (N × ℤ)) → Type 0) where
  -- they answer some edges and some edges back
  abbrev pub AnswersWeightedSearchFromBothEnds : Type 0
  AnswersWeightedSearchFromBothEnds = (edges previous : N → List (N × ℤ)) × IsWeightedSearchFromBothEnds eq edges previous start end answers_forth answers_back

  -- of whatever edges and edges back they answer, P holds
  abbrev pub OfWeightedSearchFromBothEnds : ((N → List (N × ℤ)) → (N → List (N × ℤ)) → Type 0) → Type 0
  OfWeightedSearchFromBothEnds P = (edges previous : N → List (N × ℤ)) → IsWeightedSearchFromBothEnds eq edges previous start end answers_forth answers_back → P edges previous
