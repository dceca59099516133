-- That a discovery begins where its source answers the graph of its starts.
use Rattle.std.proofs.Common.{◌≡◌, Bool, true, Option, List, refl, Bor, ℤ}
use Rattle.std.specs.Cmp.{IsEquivalence}
use Rattle.std.specs.Iterator.{Count}
use Rattle.std.specs.Fn.{Mut}
use Rattle.std.specs.List.{IsDistinct}
use Rattle.pf_base.specs.Walks.{IsReachable}
use Rattle.pf_base.specs.NodeRefs.{HasSameNodes}
use Rattle.pf_base.specs.Edges.{InReach}
use Rattle.pf_base.specs.Successors.{HasSuccessor}
use Rattle.pf_base.specs.Answers.{SameNodes, ListsEdges, AnswersGraph, AnswersSuccessors}
use Rattle.pf_core.specs.Nodes.{NodeGraph, Explores}
use Rattle.pf_core.specs.Hops.{unit_edges}
use Rattle.pf_core.specs.HopLaws.{unit_alike}
use Rattle.pf_core.proofs.NodeLemmas.{Explores-start}
use Rattle.pf_core.proofs.UnitLemmas.{answers_next}
use Rattle.pf_discovery.specs.Sources.{AnswersEdges, AnswersHops}
use Rattle.pf_discovery.specs.declared.source.Unweighted.{Unweighted}

-- one of a function that lists edges
module _ {N F : Type 0} (eq : N → N → Bool) (laws : IsEquivalence eq) (answers : F → (N → Type 0) → (N → List (N × ℤ)) → Type 0) where
  pub Explores-edges : (g : NodeGraph N) (keys : List N) (f : F) → IsDistinct eq keys → HasSameNodes eq keys g.starts
      → ((x y : N) → InReach eq g.edges g.starts x → eq x y ≡ true → ListsEdges eq (λ z. z) (g.edges x) (g.edges y)) → answers f (InReach eq g.edges g.starts) g.edges
      → Explores eq (AnswersEdges eq answers) g keys (record { function = f })
  Explores-edges g keys f once same alike a = Explores-start eq laws (AnswersEdges eq answers) g keys (record { function = f }) once same alike a

-- and of a closure
module _ {N C : Type 0} (eq : N → N → Bool) (laws : IsEquivalence eq) (value : C → ℤ) {I S F : Type 0} (becomes : I → S → Type 0) (can : S → Type 0) (left : S → Count) (next : S → Option (N × C) → S → Type 0) (calls : Mut F (Bor N × Unit {0}) I) where
  pub Explores-edges_of : (g : NodeGraph N) (keys : List N) (f : F) → IsDistinct eq keys → HasSameNodes eq keys g.starts → AnswersGraph calls becomes can left next eq value f (InReach eq g.edges g.starts) g.edges
      → Explores eq (AnswersEdges eq (AnswersGraph calls becomes can left next eq value)) g keys (record { function = f })
  Explores-edges_of g keys f once same a = Explores-edges eq laws (AnswersGraph calls becomes can left next eq value) g keys f once same a.alike a

module _ {N : Type 0} (eq : N → N → Bool) (laws : IsEquivalence eq) where
  module _ {F : Type 0} (answers : F → (N → Type 0) → (N → List N) → Type 0) where
    -- a discovery of what lists successors begins with a set of the starts
    pub Explores-successors : (starts keys : List N) (next : N → List N) (f : F) → IsDistinct eq keys → HasSameNodes eq keys starts
        → ((x y : N) → IsReachable eq (HasSuccessor eq next) starts x → eq x y ≡ true → SameNodes eq (next x) (next y)) → answers f (IsReachable eq (HasSuccessor eq next) starts) next
        → Explores eq (AnswersHops eq answers) (record { starts = starts; edges = unit_edges next }) keys (record { function = f })
    Explores-successors starts keys next f once same alike a =
        Explores-start eq laws (AnswersHops eq answers) (record { starts = starts; edges = unit_edges next }) keys (record { function = f }) once same (unit_alike eq starts (unit_edges next) next refl alike) (next, refl, a)

    -- and answers them still
    pub Explores-next : (starts keys : List N) (next : N → List N) (s : Unweighted F) → Explores eq (AnswersHops eq answers) (record { starts = starts; edges = unit_edges next }) keys s → answers s.function (IsReachable eq (HasSuccessor eq next) starts) next
    Explores-next starts keys next s x = let a = x.answered in answers_next eq answers s.function starts next a.0 a.1 a.2

  -- such as one of a closure
  module _ {I S F : Type 0} (becomes : I → S → Type 0) (can : S → Type 0) (left : S → Count) (steps : S → Option N → S → Type 0) (calls : Mut F (Bor N × Unit {0}) I) where
    pub Explores-successors_of : (starts keys : List N) (next : N → List N) (f : F) → IsDistinct eq keys → HasSameNodes eq keys starts → AnswersSuccessors calls becomes can left steps eq f (IsReachable eq (HasSuccessor eq next) starts) next
        → Explores eq (AnswersHops eq (AnswersSuccessors calls becomes can left steps eq)) (record { starts = starts; edges = unit_edges next }) keys (record { function = f })
    Explores-successors_of starts keys next f once same a = Explores-successors (AnswersSuccessors calls becomes can left steps eq) starts keys next f once same a.alike a
