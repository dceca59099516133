use Rattle.std.proofs.Common.{◌≡◌, List, Bool, [], ◌∷◌, ◌<◌, length}
use Rattle.pf_base.specs.Walks.{IsGoalPath}
use Rattle.pf_base.specs.Successors.{HasSuccessor, IsUnweightedSearch}
use Rattle.pf_base.specs.Answers.{AnswersSuccessors, AnswersTest}
use Rattle.pf_search.proofs.directed.iddfs.iddfs.Given as goal

abbrev pub invariant-limits : goal.invariant-limits
invariant-limits g l =
    let eq = g.N.PartialEq.eq in
    let answers = λ (f : g.row.FN.Denot). AnswersSuccessors g.FN.FnMut g.IN.IntoIterator.into_iter_gives g.IN.IntoIter.Iterator.can_next g.IN.IntoIter.Iterator.remaining g.IN.IntoIter.Iterator.next_gives eq f in
    let tests = λ (f : g.row.FS.Denot). AnswersTest g.FS.FnMut eq f in
    record {
      alone : l.path.items ≡ l.fn.start ∷ [];
      searched : (next : g.row.N.Denot → List g.row.N.Denot) (test : g.row.N.Denot → Bool)
          → IsUnweightedSearch eq next (l.fn.start ∷ []) (answers l.fn.successors) (tests l.fn.success) test
          → IsUnweightedSearch eq next (l.fn.start ∷ []) (answers l.successors) (tests l.success) test
          × ((w : List g.row.N.Denot) → length w < l.steps → ¬ (IsGoalPath eq (HasSuccessor eq next) (l.fn.start ∷ []) test (l.fn.start ∷ w)));
    }
