use Rattle.std.proofs.Common.{ℕ, ◌≡◌, ◌<◌, ◌+◌, subst, arith, inl}
use Rattle.std.proofs.lemmas.Result.{IfOk-from_err}
use Rattle.pf_base.specs.declared.error.PathError.TheVariants.{OutOfMemory}
use Rattle.pf_two_sided.specs.declared.sides.Side.TheVariants.{Forth, Back}
use Rattle.pf_base.proofs.Outcomes.{refused_as}
use Rattle.pf_core.proofs.SearchLemmas.{Grows-trans}
use Rattle.pf_two_sided.proofs.MeetingLemmas.{IsSide, best_meeting, first_meeting_best, sides_longer, wave_begun, side_begun, side_all, wave_full, visits_left}
use Rattle.pf_core.specs.Numbered.{StandsBelow}
use Rattle.pf_two_sided.proofs.MirrorLemmas.{no_walk_on, no_walk_back}
use Rattle.pf_two_sided.proofs.bidirectional.fewest_edges_between.Goals.{then-levels-test+else-back-len, else-levels-test}
use Rattle.pf_two_sided.proofs.bidirectional.fewest_edges_between.Goals as goal

pub returns-in_err-forth : goal.returns-in_err-forth
returns-in_err-forth g c = record {
  graph = λ h x. x;
  inside = IfOk-from_err c.from_residual.result _ c.from_residual.ensures.0;
  best = λ h x p q mirror. IfOk-from_err c.from_residual.result _ c.from_residual.ensures.0;
  errors = refused_as (λ e. e ≡ OutOfMemory) c.from_residual.result c.in_err-forth.field-0.0 c.from_residual.ensures.1 c.in_err-forth.ensures.refused;
}

pub returns-in_err-back : goal.returns-in_err-back
returns-in_err-back g c = record {
  graph = λ h x. x;
  inside = IfOk-from_err c.from_residual-in_err-back.result _ c.from_residual-in_err-back.ensures.0;
  best = λ h x p q mirror. IfOk-from_err c.from_residual-in_err-back.result _ c.from_residual-in_err-back.ensures.0;
  errors = refused_as (λ e. e ≡ OutOfMemory) c.from_residual-in_err-back.result c.in_err-back.field-0.0 c.from_residual-in_err-back.ensures.1 c.in_err-back.ensures.refused;
}

pub halves_to-requires-clause-trees : goal.halves_to-requires-clause-trees
halves_to-requires-clause-trees g c =
    let F = g.G.TwoSidedGraph.node_count c.args.graph.now Forth in
    let B = g.G.TwoSidedGraph.node_count c.args.graph.now Back in
    let wf = wave_begun F c.node_count.result c.in_ok-forth.forth.labels.items c.in_ok-forth.forth.next c.in_ok-forth.ensures.begun c.node_count.ensures in
    let wb = wave_begun B c.node_count-2.result c.in_ok-back.back.labels.items c.in_ok-back.back.next c.in_ok-back.ensures.begun c.node_count-2.ensures in
    (wf.0.tree, wb.0.tree)

pub halves_to-requires-clause-labelled : goal.halves_to-requires-clause-labelled
halves_to-requires-clause-labelled g c =
    let F = g.G.TwoSidedGraph.node_count c.args.graph.now Forth in
    let B = g.G.TwoSidedGraph.node_count c.args.graph.now Back in
    let wf = wave_begun F c.node_count.result c.in_ok-forth.forth.labels.items c.in_ok-forth.forth.next c.in_ok-forth.ensures.begun c.node_count.ensures in
    let wb = wave_begun B c.node_count-2.result c.in_ok-back.back.labels.items c.in_ok-back.back.next c.in_ok-back.ensures.begun c.node_count-2.ensures in
    let met = rw c.in-Some.is at c.first_meeting.ensures.met in (
      wave_full F c.in_ok-forth.forth.labels.items c.in_ok-forth.forth.next wf.0 c.in-Some.meeting.here met.0,
      wave_full B c.in_ok-back.back.labels.items c.in_ok-back.back.next wb.0 c.in-Some.meeting.across met.1,
    )

pub returns-in_err-halves : goal.returns-in_err-halves
returns-in_err-halves g c = record {
  graph = λ h x. x;
  inside = IfOk-from_err c.from_residual-in_err-halves.result _ c.from_residual-in_err-halves.ensures.0;
  best = λ h x p q mirror. IfOk-from_err c.from_residual-in_err-halves.result _ c.from_residual-in_err-halves.ensures.0;
  errors = refused_as (λ e. e ≡ OutOfMemory) c.from_residual-in_err-halves.result c.in_err-halves.field-0.0 c.from_residual-in_err-halves.ensures.1 c.in_err-halves.ensures.refused;
}

pub returns-in-Some : goal.returns-in-Some
returns-in-Some g c = record {
  graph = λ h x. x;
  inside =
      let F = g.G.TwoSidedGraph.node_count c.args.graph.now Forth in
      let B = g.G.TwoSidedGraph.node_count c.args.graph.now Back in
      let wf = wave_begun F c.node_count.result c.in_ok-forth.forth.labels.items c.in_ok-forth.forth.next c.in_ok-forth.ensures.begun c.node_count.ensures in
      let wb = wave_begun B c.node_count-2.result c.in_ok-back.back.labels.items c.in_ok-back.back.next c.in_ok-back.ensures.begun c.node_count-2.ensures in
      let i = c.in_ok-halves.ensures.inside in
      (λ k h. subst (λ (n : ℕ). k < n) wf.0.len (i.0 k h), λ k h. subst (λ (n : ℕ). k < n) wb.0.len (i.1 k h));
  best = λ h x p q mirror.
      let F = g.G.TwoSidedGraph.node_count c.args.graph.now Forth in
      let B = g.G.TwoSidedGraph.node_count c.args.graph.now Back in
      let wf = wave_begun F c.node_count.result c.in_ok-forth.forth.labels.items c.in_ok-forth.forth.next c.in_ok-forth.ensures.begun c.node_count.ensures in
      let wb = wave_begun B c.node_count-2.result c.in_ok-back.back.labels.items c.in_ok-back.back.next c.in_ok-back.ensures.begun c.node_count-2.ensures in
      let met = rw c.in-Some.is at c.first_meeting.ensures.met in
      let stands = g.G.TwoSidedGraph.stands c.args.graph.now in
      let step = g.G.TwoSidedGraph.step h in
      let sf = side_begun (step Forth) F c.node_count.result (stands Forth) c.in_ok-forth.forth.labels.items c.in_ok-forth.forth.next c.in_ok-forth.ensures.begun c.node_count.ensures (c.requires.begins Forth) in
      let sb = side_begun (step Back) B c.node_count-2.result (stands Back) c.in_ok-back.back.labels.items c.in_ok-back.back.next c.in_ok-back.ensures.begun c.node_count-2.ensures (c.requires.begins Back) in
      let chains = c.in_ok-halves.ensures.chains in
      first_meeting_best (step Forth) (step Back) p q F B (stands Forth) (stands Back) mirror F B (stands Forth) (stands Back) c.in_ok-forth.forth.labels.items c.in_ok-back.back.labels.items c.in_ok-forth.forth.next c.in_ok-back.back.next sf sb wf.1 wb.1
      c.in-Some.meeting.here c.in-Some.meeting.across met.0 met.1 (inl met.2) c.in_ok-halves.halves.forth.items c.in_ok-halves.halves.back.items chains.0 chains.1;
  errors = tt;
}

pub levels-init : goal.levels-init
levels-init g c =
    let F = g.G.TwoSidedGraph.node_count c.args.graph.now Forth in
    let B = g.G.TwoSidedGraph.node_count c.args.graph.now Back in
    let wf = wave_begun F c.node_count.result c.in_ok-forth.forth.labels.items c.in_ok-forth.forth.next c.in_ok-forth.ensures.begun c.node_count.ensures in
    let wb = wave_begun B c.node_count-2.result c.in_ok-back.back.labels.items c.in_ok-back.back.next c.in_ok-back.ensures.begun c.node_count-2.ensures in
    let none = rw c.in_default.is at c.first_meeting.ensures.met in
    record {
      explored = λ h x. x;
      grown_forth = record { more = omega arith; stays = λ k x h. h; back = λ k x i h. h };
      grown_back = record { more = omega arith; stays = λ k x h. h; back = λ k x i h. h };
      forth_wave = wf.0;
      back_wave = wb.0;
      forth_layers = (0, wf.1);
      back_layers = (0, wb.1);
      forth_search = λ h x p. (side_begun (g.G.TwoSidedGraph.step h Forth) F c.node_count.result (g.G.TwoSidedGraph.stands c.args.graph.now Forth) c.in_ok-forth.forth.labels.items c.in_ok-forth.forth.next c.in_ok-forth.ensures.begun c.node_count.ensures (c.requires.begins Forth)).search;
      back_search = λ h x p. (side_begun (g.G.TwoSidedGraph.step h Back) B c.node_count-2.result (g.G.TwoSidedGraph.stands c.args.graph.now Back) c.in_ok-back.back.labels.items c.in_ok-back.back.next c.in_ok-back.ensures.begun c.node_count-2.ensures (c.requires.begins Back)).search;
      apart = λ j k x here there. none j k x (omega arith) here there;
    }

pub advance_smaller-requires-clause-graph : goal.advance_smaller-requires-clause-graph
advance_smaller-requires-clause-graph g c = let r = c.requires.graph in (r.0, c.levels.invariant.explored r.0 r.1)

pub advance_smaller-requires-clause-forth : goal.advance_smaller-requires-clause-forth
advance_smaller-requires-clause-forth g c = c.levels.invariant.forth_wave

pub advance_smaller-requires-clause-back : goal.advance_smaller-requires-clause-back
advance_smaller-requires-clause-back g c = c.levels.invariant.back_wave

pub advance_smaller-requires-clause-left : goal.advance_smaller-requires-clause-left
advance_smaller-requires-clause-left g c = (omega (arith, c.levels-test.true, c.len.ensures), omega (arith, c.if-back-len.true, c.len-in-levels.ensures))

pub returns-in_err-met : goal.returns-in_err-met
returns-in_err-met g c = record {
  graph = λ h x. c.in_err-met.ensures.graph h (c.levels.invariant.explored h x);
  inside = IfOk-from_err c.from_residual-in_err-met.result _ c.from_residual-in_err-met.ensures.0;
  best = λ h x p q mirror. IfOk-from_err c.from_residual-in_err-met.result _ c.from_residual-in_err-met.ensures.0;
  errors = refused_as (λ e. e ≡ OutOfMemory) c.from_residual-in_err-met.result c.in_err-met.field-0.0 c.from_residual-in_err-met.ensures.1 c.in_err-met.ensures.errors;
}

pub halves_to-requires-in-Some-met-clause-trees : goal.halves_to-requires-in-Some-met-clause-trees
halves_to-requires-in-Some-met-clause-trees g c = (c.in_ok-met.ensures.forth.tree, c.in_ok-met.ensures.back.tree)

pub halves_to-requires-in-Some-met-clause-labelled : goal.halves_to-requires-in-Some-met-clause-labelled
halves_to-requires-in-Some-met-clause-labelled g c =
    let e = c.in_ok-met.ensures in
    let met = rw c.in-Some-met.is at e.apart in
    (e.forth.breadth.full c.in-Some-met.numbers.0 met.0, e.back.breadth.full c.in-Some-met.numbers.1 met.1)

pub returns-in_err-halves-2 : goal.returns-in_err-halves-2
returns-in_err-halves-2 g c = record {
  graph = λ h x. c.in_ok-met.ensures.graph h (c.levels.invariant.explored h x);
  inside = IfOk-from_err c.from_residual-in_err-halves-2.result _ c.from_residual-in_err-halves-2.ensures.0;
  best = λ h x p q mirror. IfOk-from_err c.from_residual-in_err-halves-2.result _ c.from_residual-in_err-halves-2.ensures.0;
  errors = refused_as (λ e. e ≡ OutOfMemory) c.from_residual-in_err-halves-2.result c.in_err-halves-2.field-0.0 c.from_residual-in_err-halves-2.ensures.1 c.in_err-halves-2.ensures.refused;
}

pub returns-in-Some-met : goal.returns-in-Some-met
returns-in-Some-met g c = record {
  graph = λ h x. c.in_ok-met.ensures.graph h (c.levels.invariant.explored h x);
  inside =
      let e = c.in_ok-met.ensures in
      let i = c.in_ok-halves-2.ensures.inside in
      (λ k h. subst (λ (n : ℕ). k < n) e.forth.len (i.0 k h), λ k h. subst (λ (n : ℕ). k < n) e.back.len (i.1 k h));
  best = λ h x p q mirror.
      let v = c.levels.invariant in
      let found = g.G.TwoSidedGraph.node_count c.args.graph.now in
      let first = g.G.TwoSidedGraph.stands c.args.graph.now in
      let found' = g.G.TwoSidedGraph.node_count c.levels.graph in
      let stands = g.G.TwoSidedGraph.stands c.levels.graph in
      let step = g.G.TwoSidedGraph.step h in
      let sf : IsSide (step Forth) (found Forth) (found' Forth) (first Forth) (stands Forth) c.levels.forth.labels.items c.levels.forth.next = record { grown = v.grown_forth; wave = v.forth_wave; search = v.forth_search h x p } in
      let sb : IsSide (step Back) (found Back) (found' Back) (first Back) (stands Back) c.levels.back.labels.items c.levels.back.next = record { grown = v.grown_back; wave = v.back_wave; search = v.back_search h x q } in
      let e = c.in_ok-met.ensures in
      let found2 = g.G.TwoSidedGraph.node_count c.advance_smaller.new.graph in
      let stands2 = g.G.TwoSidedGraph.stands c.advance_smaller.new.graph in
      let labels_f = c.advance_smaller.new.forth.labels.items in
      let labels_b = c.advance_smaller.new.back.labels.items in
      let nf : IsSide (step Forth) (found Forth) (found2 Forth) (first Forth) (stands2 Forth) labels_f c.advance_smaller.new.forth.next = record { grown = Grows-trans _ _ _ _ _ _ v.grown_forth e.grows_forth; wave = e.forth; search = e.search_forth h (v.explored h x) p _ (v.forth_search h x p) } in
      let nb : IsSide (step Back) (found Back) (found2 Back) (first Back) (stands2 Back) labels_b c.advance_smaller.new.back.next = record { grown = Grows-trans _ _ _ _ _ _ v.grown_back e.grows_back; wave = e.back; search = e.search_back h (v.explored h x) q _ (v.back_search h x q) } in
      let met = rw c.in-Some-met.is at e.apart in
      let a = v.forth_layers in
      let b = v.back_layers in
      let layers = (rw c.in-Some-met.is at e.layers) a.0 b.0 a.1 b.1 in
      let l = e.forth.breadth.full c.in-Some-met.numbers.0 met.0 in
      let m = e.back.breadth.full c.in-Some-met.numbers.1 met.1 in
      let low = layers l.0 m.0 l.1 m.1 in
      let chains = c.in_ok-halves-2.ensures.chains in
      best_meeting (step Forth) (step Back) p q (found Forth) (found Back) (first Forth) (first Back) mirror (found2 Forth) (found2 Back) (stands2 Forth) (stands2 Back) labels_f labels_b c.advance_smaller.new.forth.next c.advance_smaller.new.back.next nf nb
      c.in-Some-met.numbers.0 c.in-Some-met.numbers.1 l.0 m.0 l.1 m.1 met.2 c.in_ok-halves-2.halves.forth.items c.in_ok-halves-2.halves.back.items chains.0 chains.1
      (sides_longer (step Forth) (step Back) p q (found Forth) (found Back) (first Forth) (first Back) mirror (found' Forth) (found' Back) (stands Forth) (stands Back) c.levels.forth.labels.items c.levels.back.labels.items c.levels.forth.next c.levels.back.next sf sb v.apart
      a.0 b.0 a.1 b.1 (l.0.depth + m.0.depth) low);
  errors = tt;
}

pub levels-smaller : goal.levels-smaller
levels-smaller g c =
    let v = c.levels.invariant in
    let next = rw c.in_default-met.is at c.in_ok-met.ensures.apart in
    visits_left c.levels.forth.next c.levels.back.next c.advance_smaller.new.forth.next c.advance_smaller.new.back.next c.levels.forth.labels.items c.levels.back.labels.items (g.G.TwoSidedGraph.node_count c.levels.graph Forth) (g.G.TwoSidedGraph.node_count c.levels.graph Back) v.forth_wave v.back_wave next.1

pub levels-preserved : goal.levels-preserved
levels-preserved g c =
    let v = c.levels.invariant in
    let e = c.in_ok-met.ensures in
    let next = rw c.in_default-met.is at e.apart in
    let layers = (rw c.in_default-met.is at e.layers) v.forth_layers.0 v.back_layers.0 v.forth_layers.1 v.back_layers.1 in
    record {
      explored = λ h x. e.graph h (v.explored h x);
      grown_forth = Grows-trans _ _ _ _ _ _ v.grown_forth e.grows_forth;
      grown_back = Grows-trans _ _ _ _ _ _ v.grown_back e.grows_back;
      forth_wave = e.forth;
      back_wave = e.back;
      forth_layers = layers.0;
      back_layers = layers.1;
      forth_search = λ h x p. e.search_forth h (v.explored h x) p _ (v.forth_search h x p);
      back_search = λ h x p. e.search_back h (v.explored h x) p _ (v.back_search h x p);
      apart = next.0 v.apart;
    }

pub returns : goal.returns
returns g c = record {
  graph = λ h x. c.levels.invariant.explored h x;
  inside = tt;
  best = λ h x p q mirror s is w u walk at.
      let v = c.levels.invariant in
      let found = g.G.TwoSidedGraph.node_count c.args.graph.now in
      let first = g.G.TwoSidedGraph.stands c.args.graph.now in
      let found' = g.G.TwoSidedGraph.node_count c.levels.graph in
      let stands = g.G.TwoSidedGraph.stands c.levels.graph in
      let step = g.G.TwoSidedGraph.step h in
      let sf : IsSide (step Forth) (found Forth) (found' Forth) (first Forth) (stands Forth) c.levels.forth.labels.items c.levels.forth.next = record { grown = v.grown_forth; wave = v.forth_wave; search = v.forth_search h x p } in
      let sb : IsSide (step Back) (found Back) (found' Back) (first Back) (stands Back) c.levels.back.labels.items c.levels.back.next = record { grown = v.grown_back; wave = v.back_wave; search = v.back_search h x q } in
      elim c.levels-test.branch as (λ _. ⊥) [
        | then-levels-test+else-back-len z ↦ no_walk_back (step Forth) (step Back) (StandsBelow (found Forth) (first Forth)) (StandsBelow (found Back) (first Back)) (stands Forth) (stands Back) p mirror v.apart
            (λ y k. (k.0, v.grown_forth.stays k.0 y k.2)) (side_all (step Back) q (found Back) (found' Back) (first Back) (stands Back) c.levels.back.labels.items c.levels.back.next sb (omega (arith, z.if-back-len.false, z.len-in-levels.ensures))) s is w u walk at
        | else-levels-test z ↦ no_walk_on (step Forth) (step Back) (StandsBelow (found Forth) (first Forth)) (StandsBelow (found Back) (first Back)) (stands Forth) (stands Back) p mirror v.apart
            (λ y k. (k.0, v.grown_back.stays k.0 y k.2)) (side_all (step Forth) p (found Forth) (found' Forth) (first Forth) (stands Forth) c.levels.forth.labels.items c.levels.forth.next sf (omega (arith, z.levels-test.false, c.len.ensures))) s is w u walk at
      ];
  errors = tt;
}
