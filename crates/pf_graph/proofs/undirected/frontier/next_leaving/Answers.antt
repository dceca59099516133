use Rattle.std.proofs.Common.{◌∙◌, ap, subst, true, false, Some, inl, inr}
use Rattle.std.specs.BinaryHeap.{heap_items}
use Rattle.std.specs.declared.cmp.Reverse.{Reverse}
use Rattle.std.proofs.lemmas.Option.{slice_get-get_or}
use Rattle.pf_graph.specs.declared.undirected.steps.Step.{Step}
use Rattle.pf_graph.specs.Internal.Spanning.Frontier.{IsMarked}
use Rattle.pf_graph.proofs.Spanning.FrontierLemmas.{was_in, rest_in, still_in, one_mark, TakesLeast-popped}
use Rattle.pf_graph.proofs.undirected.frontier.next_leaving.Goals as goal

pub bounds-covered-entry : goal.bounds-covered-entry
bounds-covered-entry g c = c.requires.inside c.in-Some.entry (c.entries.invariant.from c.in-Some.entry (was_in _ _ c.in-Some.entry c.in-Some.ensures.least.0))

pub returns-then-not-covered-entry-clause-taken : goal.returns-then-not-covered-entry-clause-taken
returns-then-not-covered-entry-clause-taken g c =
    let inside = c.requires.inside c.in-Some.entry (c.entries.invariant.from c.in-Some.entry (was_in _ _ c.in-Some.entry c.in-Some.ensures.least.0)) in
    TakesLeast-popped g.N.Ord.cmp g.C.Ord.cmp c.args.covered.now (heap_items c.args.queue.now) (heap_items c.entries.queue) (heap_items c.pop_least.new.queue) c.in-Some.entry c.entries.invariant.from c.entries.invariant.kept c.in-Some.ensures.least.0
    (slice_get-get_or c.args.covered.now c.in-Some.entry.0.number false inside ∙ ap Some c.if-not-covered-entry.true) c.in-Some.ensures.least.1

pub entries-preserved : goal.entries-preserved
entries-preserved g c =
    let inside = c.requires.inside c.in-Some.entry (c.entries.invariant.from c.in-Some.entry (was_in _ _ c.in-Some.entry c.in-Some.ensures.least.0)) in
    let stale : IsMarked true c.args.covered.now c.in-Some.entry.0.number = slice_get-get_or c.args.covered.now c.in-Some.entry.0.number false inside ∙ ap Some c.if-not-covered-entry.false in
    record {
      ordered = c.in-Some.ensures.ordered;
      from = λ r h. c.entries.invariant.from r (rest_in _ _ c.in-Some.entry c.in-Some.ensures.least.0 r h);
      kept = λ r h m. elim (still_in _ _ c.in-Some.entry c.in-Some.ensures.least.0 r (c.entries.invariant.kept r h m)) [
        | inl e ↦ absurd (one_mark c.args.covered.now r.0.number (subst (λ (t : Reverse (Step g.row.N.Denot g.row.C.Denot)). IsMarked true c.args.covered.now t.0.number) e stale) m)
        | inr k ↦ k
      ];
    }
