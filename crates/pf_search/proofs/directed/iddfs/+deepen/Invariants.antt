use Rattle.std.proofs.Common.{◌≡◌, List, Bool, [], ◌∷◌, ◌++◌, ◌-◌, length}
use Rattle.std.specs.Prelude.{◌⊎◌, Contains}
use Rattle.pf_base.specs.Walks.{HasNode}
use Rattle.pf_base.specs.Successors.{IsUnweightedSearch}
use Rattle.pf_search.specs.Internal.Deepening.{IsPathFrom, NoGoalBeyond}
use Rattle.pf_search.proofs.directed.iddfs.+deepen.Given as goal

abbrev pub decreases-deepen : goal.decreases-deepen
decreases-deepen g l = l.steps

abbrev pub decreases-answer : goal.decreases-answer
decreases-answer g l = length l.answer.items

abbrev pub invariant-answer : goal.invariant-answer
invariant-answer g l =
    let eq = g.N.PartialEq.eq in
    let answers = g.F.SuccessorFunction.answers in
    let tests = g.T.NodeTest.answers in
    record {
      below : (y : g.row.N.Denot) → Contains l.answer.items y → Contains l.initial.answer.items y;
      searched : (next : g.row.N.Denot → List g.row.N.Denot) (starts : List g.row.N.Denot) (test : g.row.N.Denot → Bool)
          → IsUnweightedSearch eq next starts (answers l.fn.successors) (tests l.fn.success) test → IsPathFrom eq next starts l.fn.path.items
          → (l.path.items ≡ l.fn.path.items)
          × IsUnweightedSearch eq next starts (answers l.successors) (tests l.success) test
          × ((y : g.row.N.Denot) → Contains l.initial.answer.items y → Contains l.answer.items y ⊎ (HasNode eq l.fn.path.items y ⊎ NoGoalBeyond eq next starts test l.cut (l.fn.steps - 1) (l.fn.path.items ++ y ∷ [])));
    }
