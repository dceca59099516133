use Rattle.std.proofs.Common.{List, take}
use Rattle.pf_base.specs.Walks.{HasNode}
use Rattle.pf_base.specs.Answers.{AnswersSuccessors}
use Rattle.pf_components.specs.Internal.Around.{AreGroupsAround}
use Rattle.pf_components.proofs.around.groups_around.Given as goal

abbrev pub invariant-loop-start : goal.invariant-loop-start
invariant-loop-start g l = record {
  answers : (next : g.row.N.Denot → List g.row.N.Denot)
      → AnswersSuccessors g.FN.FnMut g.IN.IntoIterator.into_iter_gives g.IN.IntoIter.Iterator.can_next g.IN.IntoIter.Iterator.remaining g.IN.IntoIter.Iterator.next_gives g.N.PartialEq.eq l.initial.adjacent (HasNode g.N.PartialEq.eq l.starts) next
      → AnswersSuccessors g.FN.FnMut g.IN.IntoIterator.into_iter_gives g.IN.IntoIter.Iterator.can_next g.IN.IntoIter.Iterator.remaining g.IN.IntoIter.Iterator.next_gives g.N.PartialEq.eq l.adjacent (HasNode g.N.PartialEq.eq l.starts) next;
  groups : (next : g.row.N.Denot → List g.row.N.Denot)
      → AnswersSuccessors g.FN.FnMut g.IN.IntoIterator.into_iter_gives g.IN.IntoIter.Iterator.can_next g.IN.IntoIter.Iterator.remaining g.IN.IntoIter.Iterator.next_gives g.N.PartialEq.eq l.initial.adjacent (HasNode g.N.PartialEq.eq l.starts) next
      → AreGroupsAround g.N.PartialEq.eq next (take l.start-index l.starts) l.groups.items;
}
