use Rattle.std.proofs.Common.{ℕ, List, ◌≡◌, ◌∙◌, ◌++◌, ◌∷◌, [], sym, subst, ap, arith, length}
use Rattle.std.specs.Prelude.{reverse}
use Rattle.std.proofs.lemmas.Result.{IfOk-from_err}
use Rattle.pf_core.proofs.SearchLemmas.{Grows-trans}
use Rattle.pf_base.proofs.ListLemmas.{at_place, Contains-reverse}
use Rattle.pf_orders.specs.declared.ordering.Turn.{Turn}
use Rattle.pf_orders.specs.declared.ordering.Mark.{Mark}
use Rattle.pf_orders.specs.Internal.Orderings.{entries, IsMarked, IsSorting, IsAlong}
use Rattle.pf_base.proofs.Outcomes.{refused_as}
use Rattle.pf_orders.proofs.ComponentLists.{none_popped}
use Rattle.pf_orders.proofs.OrderLemmas.{sorting_start, along_start, count_start, reverse-push, turns_after, sorting_skip, along_skip, sorting_enter, along_enter, count_enter, sorting_leave, along_leave, count_leave, ordered_reach, on_cycle, new_counts, turn_inside, entered_few, to_reverse}
use Rattle.pf_orders.proofs.ordering.Sorting.walk_on.Goals as goal

-- the turn that is taken out is the next one
next_turn : (found : ℕ) (marks : List Mark) (left : List ℕ) (turns rest : List Turn) (turn : Turn) → IsSorting found marks left (reverse turns) → turns ≡ rest ++ turn ∷ [] → IsSorting found marks left (turn ∷ reverse rest)
next_turn found marks left turns rest turn s e = subst (λ ts. IsSorting found marks left ts) (ap reverse e ∙ reverse-push rest turn) s

pub turns-init : goal.turns-init
turns-init g c =
    let r = c.requires.begun in
    let self = c.args.self.now in
    let found = g.G.NumberedGraph.node_count c.args.graph.now in
    record {
      sorting = rw r.left (sorting_start found self.marks.items (reverse self.turns.items) r.marks (λ t h. r.turns.1 t (Contains-reverse self.turns.items t h)));
      grown = record { more = omega arith; stays = λ k x h. h; back = λ k x i h. h };
      explored = λ h x. x;
      along = λ h x. rw r.left (along_start found (g.G.NumberedGraph.successors h) (g.G.NumberedGraph.stands c.args.graph.now) self.marks.items (reverse self.turns.items) (λ t i. r.turns.1 t (Contains-reverse self.turns.items t i)) (λ k l. to_reverse self.turns.items (Turn.Enter k) (r.turns.0 k l)));
      ticks = omega (arith, count_start found self.marks.items r.marks);
    }

pub index-requires : goal.index-requires
index-requires g c =
    let v = c.turns.invariant in
    let number = c.in-Enter.number in
    let left = reverse c.turns.self.left.items in
    let s = next_turn _ c.turns.self.marks.items left _ _ (Turn.Enter number) v.sorting (c.in-Some.ensures.items ∙ ap (λ t. c.pop.new.self.items ++ t ∷ []) c.in-Enter.is) in
    omega (arith, s.inside.0, s.len, c.turns.self.marks.ok)

pub enter-requires-clause-inside : goal.enter-requires-clause-inside
enter-requires-clause-inside g c =
    let v = c.turns.invariant in
    let number = c.in-Enter.number in
    let left = reverse c.turns.self.left.items in
    let s = next_turn _ c.turns.self.marks.items left _ _ (Turn.Enter number) v.sorting (c.in-Some.ensures.items ∙ ap (λ t. c.pop.new.self.items ++ t ∷ []) c.in-Enter.is) in
    s.inside.0

pub enter-requires-clause-graph : goal.enter-requires-clause-graph
enter-requires-clause-graph g c =
    let v = c.turns.invariant in
    let r = c.requires.graph in
    (r.0, v.explored r.0 r.1)

pub enter-requires-clause-marked : goal.enter-requires-clause-marked
enter-requires-clause-marked g c =
    let v = c.turns.invariant in
    v.sorting.len

pub turns-preserved-in-Continue-1 : goal.turns-preserved-in-Continue-1
turns-preserved-in-Continue-1 g c =
    let v = c.turns.invariant in
    let marks = c.turns.self.marks.items in
    let left = reverse c.turns.self.left.items in
    let number = c.in-Enter.number in
    let rest = reverse c.pop.new.self.items in
    let found = g.G.NumberedGraph.node_count c.turns.graph in
    let popped : reverse c.turns.self.turns.items ≡ Turn.Enter number ∷ rest = ap reverse (c.in-Some.ensures.items ∙ ap (λ t. c.pop.new.self.items ++ t ∷ []) c.in-Enter.is) ∙ reverse-push c.pop.new.self.items (Turn.Enter number) in
    let s : IsSorting found marks left (Turn.Enter number ∷ rest) = subst (λ ts. IsSorting found marks left ts) popped v.sorting in
    let here : IsMarked marks Mark.New number = at_place marks number c.index.result.now Mark.New (turn_inside found marks left (Turn.Enter number) rest s) (sym c.index.ensures ∙ c.in-New.is) in
    let e = c.in_ok-enter-in-New.ensures in
    let found' = g.G.NumberedGraph.node_count c.enter.new.graph in
    let marks' = c.enter.new.self.marks.items in
    let numbers = e.turns.0 in
    let after : reverse c.enter.new.self.turns.items ≡ entries numbers ++ Turn.Leave number ∷ rest = ap reverse e.turns.1 ∙ turns_after c.pop.new.self.items number numbers in
    let same : reverse c.enter.new.self.left.items ≡ left = ap reverse e.left in
    record {
      sorting = rw (after, same) (sorting_enter found found' marks marks' left number rest s here e.grows.more e.marks numbers e.turns.2);
      grown = Grows-trans _ _ _ _ _ _ v.grown e.grows;
      explored = λ h x. e.graph h (v.explored h x);
      along = λ h x. rw (after, same) (along_enter found found' marks marks' left number rest s here e.grows.more e.marks numbers e.turns.2 (g.G.NumberedGraph.successors h) (g.G.NumberedGraph.stands c.turns.graph) (g.G.NumberedGraph.stands c.enter.new.graph) e.grows (λ y t. e.turns.3 h (v.explored h x) y t) (g.G.NumberedGraph.node_count c.args.graph.now)
          (subst (λ ts. IsAlong (g.G.NumberedGraph.successors h) (g.G.NumberedGraph.stands c.turns.graph) (g.G.NumberedGraph.node_count c.args.graph.now) marks left ts) popped (v.along h x)));
      ticks = omega (arith, c.tick.ensures, v.ticks, count_enter found found' marks marks' left number rest s here e.grows.more e.marks numbers e.turns.2);
    }

pub turns-smaller-in-Continue-1 : goal.turns-smaller-in-Continue-1
turns-smaller-in-Continue-1 g c =
    let v = c.turns.invariant in
    let number = c.in-Enter.number in
    let left = reverse c.turns.self.left.items in
    let s = next_turn _ c.turns.self.marks.items left _ _ (Turn.Enter number) v.sorting (c.in-Some.ensures.items ∙ ap (λ t. c.pop.new.self.items ++ t ∷ []) c.in-Enter.is) in
    let here : IsMarked c.turns.self.marks.items Mark.New number = at_place c.turns.self.marks.items number c.index.result.now Mark.New (turn_inside _ _ _ _ _ s) (sym c.index.ensures ∙ c.in-New.is) in
    let e = c.in_ok-enter-in-New.ensures in
    let count = count_enter _ (g.G.NumberedGraph.node_count c.enter.new.graph) c.turns.self.marks.items c.enter.new.self.marks.items left number _ s here e.grows.more e.marks e.turns.0 e.turns.2 in
    omega (arith, count, new_counts _ number here, c.turns.self.marks.ok, c.enter.new.self.turns.ok)

pub returns-in_err-enter-in-New : goal.returns-in_err-enter-in-New
returns-in_err-enter-in-New g c =
    let v = c.turns.invariant in
    let number = c.in-Enter.number in
    let left = reverse c.turns.self.left.items in
    let s = next_turn _ c.turns.self.marks.items left _ _ (Turn.Enter number) v.sorting (c.in-Some.ensures.items ∙ ap (λ t. c.pop.new.self.items ++ t ∷ []) c.in-Enter.is) in
    let here : IsMarked c.turns.self.marks.items Mark.New number = at_place c.turns.self.marks.items number c.index.result.now Mark.New (turn_inside _ _ _ _ _ s) (sym c.index.ensures ∙ c.in-New.is) in
    let e = c.in_err-enter-in-New.ensures in
    record {
      grows = Grows-trans _ _ _ _ _ _ v.grown e.grows;
      graph = λ h x. e.graph h (v.explored h x);
      order = λ h x. IfOk-from_err _ _ c.from_residual.ensures.0;
      cycle = λ h x. IfOk-from_err _ _ c.from_residual.ensures.0;
      ticked = omega (arith, c.tick.ensures, v.ticks);
      asked = omega (arith, c.tick.ensures, v.ticks, new_counts _ number here, s.len, e.grows.more);
      refused = refused_as _ c.from_residual.result _ c.from_residual.ensures.1 e.refused;
    }

pub returns-in-Open : goal.returns-in-Open
returns-in-Open g c =
    let v = c.turns.invariant in
    let marks = c.turns.self.marks.items in
    let left = reverse c.turns.self.left.items in
    let number = c.in-Enter.number in
    let rest = reverse c.pop.new.self.items in
    let found = g.G.NumberedGraph.node_count c.turns.graph in
    let popped : reverse c.turns.self.turns.items ≡ Turn.Enter number ∷ rest = ap reverse (c.in-Some.ensures.items ∙ ap (λ t. c.pop.new.self.items ++ t ∷ []) c.in-Enter.is) ∙ reverse-push c.pop.new.self.items (Turn.Enter number) in
    let s : IsSorting found marks left (Turn.Enter number ∷ rest) = subst (λ ts. IsSorting found marks left ts) popped v.sorting in
    let here : IsMarked marks Mark.Open number = at_place marks number c.index.result.now Mark.Open (turn_inside found marks left (Turn.Enter number) rest s) (sym c.index.ensures ∙ c.in-Open.is) in
    record {
      grows = v.grown;
      graph = v.explored;
      order = λ h x. tt;
      cycle = λ h x. (s.inside.0, on_cycle (g.G.NumberedGraph.successors h) (g.G.NumberedGraph.stands c.turns.graph) (g.G.NumberedGraph.node_count c.args.graph.now) found marks left number rest s (subst (λ ts. IsAlong (g.G.NumberedGraph.successors h) (g.G.NumberedGraph.stands c.turns.graph) (g.G.NumberedGraph.node_count c.args.graph.now) marks left ts) popped (v.along h x)) here);
      ticked = omega (arith, v.ticks);
      asked = omega (arith, v.ticks, entered_few marks, s.len);
      refused = tt;
    }

pub turns-smaller-in-Done : goal.turns-smaller-in-Done
turns-smaller-in-Done g c = omega (arith, c.in-Some.ensures.len)

pub turns-preserved-in-Done : goal.turns-preserved-in-Done
turns-preserved-in-Done g c =
    let v = c.turns.invariant in
    let marks = c.turns.self.marks.items in
    let left = reverse c.turns.self.left.items in
    let number = c.in-Enter.number in
    let rest = reverse c.pop.new.self.items in
    let found = g.G.NumberedGraph.node_count c.turns.graph in
    let popped : reverse c.turns.self.turns.items ≡ Turn.Enter number ∷ rest = ap reverse (c.in-Some.ensures.items ∙ ap (λ t. c.pop.new.self.items ++ t ∷ []) c.in-Enter.is) ∙ reverse-push c.pop.new.self.items (Turn.Enter number) in
    let s : IsSorting found marks left (Turn.Enter number ∷ rest) = subst (λ ts. IsSorting found marks left ts) popped v.sorting in
    let here : IsMarked marks Mark.Done number = at_place marks number c.index.result.now Mark.Done (turn_inside found marks left (Turn.Enter number) rest s) (sym c.index.ensures ∙ c.in-Done.is) in
    record {
      sorting = sorting_skip found marks left number rest s;
      grown = v.grown;
      explored = v.explored;
      along = λ h x. along_skip (g.G.NumberedGraph.successors h) (g.G.NumberedGraph.stands c.turns.graph) (g.G.NumberedGraph.node_count c.args.graph.now) marks left number rest here (subst (λ ts. IsAlong (g.G.NumberedGraph.successors h) (g.G.NumberedGraph.stands c.turns.graph) (g.G.NumberedGraph.node_count c.args.graph.now) marks left ts) popped (v.along h x));
      ticks = v.ticks;
    }

pub leave-requires : goal.leave-requires
leave-requires g c =
    let v = c.turns.invariant in
    let number = c.in-Leave.number in
    let left = reverse c.turns.self.left.items in
    let s = next_turn _ c.turns.self.marks.items left _ _ (Turn.Leave number) v.sorting (c.in-Some.ensures.items ∙ ap (λ t. c.pop.new.self.items ++ t ∷ []) c.in-Leave.is) in
    record { inside = turn_inside _ _ _ _ _ s }

pub turns-smaller : goal.turns-smaller
turns-smaller g c =
    let v = c.turns.invariant in
    let marks = c.turns.self.marks.items in
    let left = reverse c.turns.self.left.items in
    let number = c.in-Leave.number in
    let rest = reverse c.pop.new.self.items in
    let found = g.G.NumberedGraph.node_count c.turns.graph in
    let popped : reverse c.turns.self.turns.items ≡ Turn.Leave number ∷ rest = ap reverse (c.in-Some.ensures.items ∙ ap (λ t. c.pop.new.self.items ++ t ∷ []) c.in-Leave.is) ∙ reverse-push c.pop.new.self.items (Turn.Leave number) in
    let s : IsSorting found marks left (Turn.Leave number ∷ rest) = subst (λ ts. IsSorting found marks left ts) popped v.sorting in
    let e = c.in_ok-leave-in-Leave.ensures in
    omega (arith, count_leave found marks c.leave.new.self.marks.items left number rest s e.marks, c.in-Some.ensures.len, ap length e.turns)

pub turns-preserved : goal.turns-preserved
turns-preserved g c =
    let v = c.turns.invariant in
    let marks = c.turns.self.marks.items in
    let left = reverse c.turns.self.left.items in
    let number = c.in-Leave.number in
    let rest = reverse c.pop.new.self.items in
    let found = g.G.NumberedGraph.node_count c.turns.graph in
    let popped : reverse c.turns.self.turns.items ≡ Turn.Leave number ∷ rest = ap reverse (c.in-Some.ensures.items ∙ ap (λ t. c.pop.new.self.items ++ t ∷ []) c.in-Leave.is) ∙ reverse-push c.pop.new.self.items (Turn.Leave number) in
    let s : IsSorting found marks left (Turn.Leave number ∷ rest) = subst (λ ts. IsSorting found marks left ts) popped v.sorting in
    let e = c.in_ok-leave-in-Leave.ensures in
    let marks' = c.leave.new.self.marks.items in
    let left' : reverse c.leave.new.self.left.items ≡ number ∷ left = ap reverse e.left ∙ reverse-push c.turns.self.left.items number in
    let turns' : reverse c.leave.new.self.turns.items ≡ rest = ap reverse e.turns in
    record {
      sorting = rw (left', turns') (sorting_leave found marks marks' left number rest s e.marks);
      grown = v.grown;
      explored = v.explored;
      along = λ h x. rw (left', turns') (along_leave found marks marks' left number rest s e.marks (g.G.NumberedGraph.successors h) (g.G.NumberedGraph.stands c.turns.graph) (g.G.NumberedGraph.node_count c.args.graph.now) (subst (λ ts. IsAlong (g.G.NumberedGraph.successors h) (g.G.NumberedGraph.stands c.turns.graph) (g.G.NumberedGraph.node_count c.args.graph.now) marks left ts) popped (v.along h x)));
      ticks = omega (arith, v.ticks, count_leave found marks marks' left number rest s e.marks);
    }

pub returns-in_err-leave-in-Leave : goal.returns-in_err-leave-in-Leave
returns-in_err-leave-in-Leave g c =
    let v = c.turns.invariant in
    let r = c.from_residual-in_err-leave-in-Leave in
    record {
      grows = v.grown;
      graph = v.explored;
      order = λ h x. IfOk-from_err _ _ r.ensures.0;
      cycle = λ h x. IfOk-from_err _ _ r.ensures.0;
      ticked = omega (arith, v.ticks);
      asked = omega (arith, v.ticks, entered_few c.turns.self.marks.items, v.sorting.len);
      refused = refused_as _ r.result _ r.ensures.1 c.in_err-leave-in-Leave.ensures.refused;
    }

pub returns : goal.returns
returns g c =
    let v = c.turns.invariant in
    let marks = c.turns.self.marks.items in
    let left = reverse c.turns.self.left.items in
    let found = g.G.NumberedGraph.node_count c.turns.graph in
    let e = c.in_default.ensures in
    let none : reverse c.turns.self.turns.items ≡ [] = ap reverse (none_popped c.turns.self.turns.items c.pop.new.self.items _ e.items e.rest e.cases.0) in
    let roots = g.G.NumberedGraph.node_count c.args.graph.now in
    record {
      grows = v.grown;
      graph = v.explored;
      order = λ h x.
          let succ = g.G.NumberedGraph.successors h in
          let stands = g.G.NumberedGraph.stands c.turns.graph in
          ordered_reach succ stands roots found marks left (subst (λ ts. IsSorting found marks left ts) none v.sorting) (subst (λ ts. IsAlong succ stands roots marks left ts) none (v.along h x));
      cycle = λ h x. tt;
      ticked = omega (arith, v.ticks);
      asked = omega (arith, v.ticks, entered_few marks, v.sorting.len);
      refused = tt;
    }
