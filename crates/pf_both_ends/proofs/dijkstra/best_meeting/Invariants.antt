use Rattle.std.proofs.Common.{◌≡◌, ◌+◌, ◌-◌, ◌^◌, List, ℤ, pos, length, cond}
use Rattle.std.specs.Prelude.{◌+ℤ◌, IfSome}
use Rattle.pf_core.specs.Labels.{settled_count}
use Rattle.pf_core.specs.Search.{IsSound}
use Rattle.pf_core.specs.Nodes.{NodeGraph, Explores}
use Rattle.pf_both_ends.specs.Internal.BothEnds.{from_one, bound, IsMeeting, IsPair}
use Rattle.pf_both_ends.proofs.dijkstra.best_meeting.Given as goal

abbrev pub invariant-turns : goal.invariant-turns
invariant-turns g l =
    let eq = g.N.PartialEq.eq in
    let value = g.C.Number.value in
    let top = g.C.Number.value g.C.Cost.greatest in
    let explores = Explores eq g.S.EdgeSource.answers in
    let explores_back = Explores eq g.P.EdgeSource.answers in
    record {
      sound_forth : IsSound value l.forth.labels.items l.forth.queue.items;
      sound_back : IsSound value l.back.labels.items l.back.queue.items;
      wide_forth : length l.forth.labels.items ≡ length (g.M.Numbering.keys l.graph.forth.nodes);
      wide_back : length l.back.labels.items ≡ length (g.M.Numbering.keys l.graph.back.nodes);
      explored_forth : (h : NodeGraph g.row.N.Denot) → explores h (g.M.Numbering.keys l.fn.graph.forth.nodes) l.fn.graph.forth.source → explores h (g.M.Numbering.keys l.graph.forth.nodes) l.graph.forth.source;
      explored_back : (h : NodeGraph g.row.N.Denot) → explores_back h (g.M.Numbering.keys l.fn.graph.back.nodes) l.fn.graph.back.source → explores_back h (g.M.Numbering.keys l.graph.back.nodes) l.graph.back.source;
      pair : (edges previous : g.row.N.Denot → List (g.row.N.Denot × ℤ)) (start end : g.row.N.Denot)
          → explores (from_one start edges) (g.M.Numbering.keys l.fn.graph.forth.nodes) l.fn.graph.forth.source → explores_back (from_one end previous) (g.M.Numbering.keys l.fn.graph.back.nodes) l.fn.graph.back.source
          → IsPair eq value g.C.Number.fits edges previous start end (g.M.Numbering.keys l.fn.graph.forth.nodes) (g.M.Numbering.keys l.fn.graph.back.nodes) l.fn.forth.labels.items l.fn.back.labels.items (top +ℤ pos 1)
          → IsPair eq value g.C.Number.fits edges previous start end (g.M.Numbering.keys l.graph.forth.nodes) (g.M.Numbering.keys l.graph.back.nodes) l.forth.labels.items l.back.labels.items (bound value top l.best)
          × IfSome l.best (λ m. IsMeeting eq value (g.M.Numbering.keys l.graph.forth.nodes) (g.M.Numbering.keys l.graph.back.nodes) l.forth.labels.items l.back.labels.items m);
    }

abbrev pub decreases-turns : goal.decreases-turns
decreases-turns g l = (2 ^ 64 - settled_count l.forth.labels.items) + (2 ^ 64 - settled_count l.back.labels.items) + cond l.back_is_over 0 1
