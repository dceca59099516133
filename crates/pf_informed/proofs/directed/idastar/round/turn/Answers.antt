use Rattle.std.proofs.Common.{◌≡◌, ◌<◌, ◌+◌, ◌∷◌, List, ℕ, length, ap, ◌∙◌, sym, subst, arith, refl}
use Rattle.std.specs.Prelude.{◌↔◌, Contains, reverse}
use Rattle.pf_base.proofs.ListLemmas.{Contains-head}
use Rattle.pf_deepening.specs.declared.cut_off.CutOff.{CutOff}
use Rattle.pf_deepening.specs.declared.way.Frame.{Frame}
use Rattle.pf_deepening.specs.Ways.{IsMarked, IsCutOff}
use Rattle.pf_informed.specs.Internal.Deepening.{numbers_of, turns_left, IsOnWay, IsStack}
use Rattle.pf_informed.proofs.ForgetLemmas.{start_less, stacked_less, none_left, known_less, on_way_less, all_less}
use Rattle.pf_informed.proofs.KnownLemmas.{start_of_more}
use Rattle.pf_informed.proofs.NestLemmas.{nested_below, nested_found, stack_at}
use Rattle.pf_base.proofs.Outcomes.{on_ok}
use Rattle.pf_informed.proofs.TurnsLeft.{left_less, some_turns}
use Rattle.pf_informed.proofs.WayLemmas.{marked_back, frame_ends, room, on_way_as, went_back, all_done}
use Rattle.pf_informed.proofs.directed.idastar.round.turn.Goals as goal

pub leave-requires-clause-marked : goal.leave-requires-clause-marked
leave-requires-clause-marked g c = let way = c.args.way.now in (c.requires.marked.marked way.frame.number).1 (Contains-head (numbers_of (reverse way.trail.items)) way.frame.number)

pub leave-requires-clause-room : goal.leave-requires-clause-room
leave-requires-clause-room g c =
    let r = c.requires.graph in
    let k = r.4 in
    let known = c.args.known.now in
    let way = c.args.way.now in
    room g.N.PartialEq.eq g.met.N.Eq.laws g.C.Number.value g.C.Number.fits r.0 r.1 r.2 r.3 (g.M.Numbering.keys known.graph.discovery.nodes) known.rows.steps.items known.rows.spans.items k.rows way.frame (reverse way.trail.items) way.cut_off.least way.cut_off.past r.5

pub forget-requires : goal.forget-requires
forget-requires g c =
    let known = c.args.known.now in
    let way = c.args.way.now in
    nested_found known.rows.steps.items known.rows.spans.items way.frame (reverse way.trail.items) (length (g.M.Numbering.keys known.graph.discovery.nodes)) (length known.rows.steps.items) c.requires.stack.nested

pub returns-then-leave : goal.returns-then-leave
returns-then-leave g c =
    let r = c.requires.graph in
    let known = c.args.known.now in
    let after = c.forget.new.self in
    let way = c.args.way.now in
    let new = c.leave.new.self in
    let fs = reverse way.trail.items in
    let b = c.if-leave.ensures.below in
    let stack = c.requires.stack in
    let fresh = r.5.trail.0.fresh in
    let span = stack.nested.0 in
    let has = stack.nested.1 in
    let forgets = c.forget.ensures.forgets span has in
    let frames : numbers_of (new.frame ∷ reverse new.trail.items) ≡ numbers_of fs = ap (λ (f : Frame g.row.C.Denot). numbers_of (f ∷ reverse new.trail.items)) b.3 ∙ ap (λ (xs : List (Frame g.row.C.Denot)). b.0.number ∷ numbers_of xs) b.4 ∙ ap (λ (xs : List (Frame g.row.C.Denot)). numbers_of xs) (sym b.2) in
    let stacked = stacked_less known after c.requires.whole way.frame fs (record { nested = stack.nested; only = stack.only }) fresh span has forgets in
    record {
      start = start_less known after c.requires.whole way.frame fs (record { nested = stack.nested; only = stack.only }) fresh span has forgets;
      stack = subst (λ (f : Frame g.row.C.Denot). IsStack after.rows.steps.items after.rows.spans.items (length (g.M.Numbering.keys after.graph.discovery.nodes)) (f ∷ reverse new.trail.items)) (sym b.3)
          (subst (λ (xs : List (Frame g.row.C.Denot)). IsStack after.rows.steps.items after.rows.spans.items (length (g.M.Numbering.keys after.graph.discovery.nodes)) (record b.0 { at = b.0.at + 1 } ∷ xs)) (sym b.4)
          (stack_at after.rows.steps.items after.rows.spans.items _ b.0 (b.0.at + 1) b.1 (subst (λ (xs : List (Frame g.row.C.Denot)). IsStack after.rows.steps.items after.rows.spans.items (length (g.M.Numbering.keys after.graph.discovery.nodes)) xs) b.2 stacked)));
      marked =
          let back = marked_back way.marks.items new.marks.items (numbers_of fs) way.frame.number fresh c.requires.marked.marked b.5 in
          record {
            marked = subst (λ (ns : List ℕ). (i : ℕ) → IsMarked new.marks.items i ↔ Contains ns i) (sym frames) back;
            inside = λ i m. nested_below after.rows.steps.items after.rows.spans.items fs _ _ stacked.nested i (subst (λ (ns : List ℕ). Contains ns i) frames m);
            above = λ n q. c.requires.marked.above n (sym (ap (λ (o : CutOff g.row.C.Denot). o.least) c.leave.ensures.cut_off) ∙ q);
          };
      less =
          let k = r.4 in
          let at = room g.N.PartialEq.eq g.met.N.Eq.laws g.C.Number.value g.C.Number.fits r.0 r.1 r.2 r.3 (g.M.Numbering.keys known.graph.discovery.nodes) known.rows.steps.items known.rows.spans.items k.rows way.frame fs way.cut_off.least way.cut_off.past r.5 b.0 b.1 b.2 in
          let less = left_less 18446744073709551616 18446744073709551616 some_turns way.frame b.0 b.1 at in
          subst (λ (f : Frame g.row.C.Denot). turns_left 18446744073709551616 18446744073709551616 f (reverse new.trail.items) < turns_left 18446744073709551616 18446744073709551616 way.frame fs) (sym b.3)
          (subst (λ (xs : List (Frame g.row.C.Denot)). turns_left 18446744073709551616 18446744073709551616 (record b.0 { at = b.0.at + 1 }) xs < turns_left 18446744073709551616 18446744073709551616 way.frame fs) (sym b.4)
          (subst (λ (xs : List (Frame g.row.C.Denot)). turns_left 18446744073709551616 18446744073709551616 (record b.0 { at = b.0.at + 1 }) b.1 < turns_left 18446744073709551616 18446744073709551616 way.frame xs) (sym b.2) less));
      graph = λ h test least first k w.
          let eq = g.N.PartialEq.eq in
          let laws = g.met.N.Eq.laws in
          let value = g.C.Number.value in
          let fits = g.C.Number.fits in
          let keys = g.M.Numbering.keys known.graph.discovery.nodes in
          let steps = known.rows.steps.items in
          let spans = known.rows.spans.items in
          let ends = frame_ends eq laws value fits h test least first keys steps spans k.rows (length keys) c.requires.whole.table way.frame fs way.cut_off.least way.cut_off.past w in
          let over : way.frame.at ≡ way.frame.end = omega (arith, ends.0) in
          let back = went_back eq laws value fits h test least first keys steps spans k.rows way.frame fs way.cut_off.least way.cut_off.past w over b.0 b.1 b.2 in
          let less = on_way_less known after c.requires.whole way.frame fs (record { nested = stack.nested; only = stack.only }) fresh span has forgets value h test k laws fits first (record b.0 { at = b.0.at + 1 }) b.1 way.cut_off.least way.cut_off.past (ap (λ (xs : List (Frame g.row.C.Denot)). numbers_of xs) (sym b.2)) back in
          let k2 = known_less known after c.requires.whole way.frame fs (record { nested = stack.nested; only = stack.only }) fresh span has forgets value h test k (c.forget.ensures.led h test least k.led) in (
            k2,
            subst (λ (f : Frame g.row.C.Denot). IsOnWay eq value fits h test least first (g.M.Numbering.keys after.graph.discovery.nodes) after.rows.steps.items after.rows.spans.items f (reverse new.trail.items) new.cut_off.least new.cut_off.past) (sym b.3)
                (on_way_as eq laws value fits h test least first (g.M.Numbering.keys after.graph.discovery.nodes) after.rows.steps.items after.rows.spans.items k2.rows (record b.0 { at = b.0.at + 1 }) b.1 (reverse new.trail.items) way.cut_off.least new.cut_off.least way.cut_off.past new.cut_off.past b.4 (ap (λ (o : CutOff g.row.C.Denot). o.least) c.leave.ensures.cut_off) (ap (λ (o : CutOff g.row.C.Denot). o.past) c.leave.ensures.cut_off) less),
          );
      refused = tt;
    }

pub returns-else-leave : goal.returns-else-leave
returns-else-leave g c =
    let r = c.requires.graph in
    let known = c.args.known.now in
    let after = c.forget.new.self in
    let way = c.args.way.now in
    let new = c.leave.new.self in
    let fs = reverse way.trail.items in
    let stack = c.requires.stack in
    let fresh = r.5.trail.0.fresh in
    let span = stack.nested.0 in
    let has = stack.nested.1 in
    let forgets = c.forget.ensures.forgets span has in
    record {
      start = start_less known after c.requires.whole way.frame fs (record { nested = stack.nested; only = stack.only }) fresh span has forgets;
      stack = none_left known after c.requires.whole way.frame fs (record { nested = stack.nested; only = stack.only }) fresh span has forgets c.if-leave.ensures.below;
      marked = λ n q. c.requires.marked.above n (sym (ap (λ (o : CutOff g.row.C.Denot). o.least) c.leave.ensures.cut_off) ∙ q);
      less = tt;
      graph = λ h test least first k w.
          let eq = g.N.PartialEq.eq in
          let laws = g.met.N.Eq.laws in
          let value = g.C.Number.value in
          let fits = g.C.Number.fits in
          let keys = g.M.Numbering.keys known.graph.discovery.nodes in
          let steps = known.rows.steps.items in
          let spans = known.rows.spans.items in
          let ends = frame_ends eq laws value fits h test least first keys steps spans k.rows (length keys) c.requires.whole.table way.frame fs way.cut_off.least way.cut_off.past w in
          let over : way.frame.at ≡ way.frame.end = omega (arith, ends.0) in
          let same = on_way_as eq laws value fits h test least first keys steps spans k.rows way.frame fs fs way.cut_off.least new.cut_off.least way.cut_off.past new.cut_off.past refl (ap (λ (o : CutOff g.row.C.Denot). o.least) c.leave.ensures.cut_off) (ap (λ (o : CutOff g.row.C.Denot). o.past) c.leave.ensures.cut_off) w in
          let all = all_done eq laws value fits h test least first keys steps spans k.rows way.frame fs new.cut_off.least new.cut_off.past same over c.if-leave.ensures.below in (
            known_less known after c.requires.whole way.frame fs (record { nested = stack.nested; only = stack.only }) fresh span has forgets value h test k (c.forget.ensures.led h test least k.led),
            (all_less known after c.requires.whole way.frame fs (record { nested = stack.nested; only = stack.only }) fresh span has forgets value h test k laws fits first (IsCutOff value fits new.cut_off.least new.cut_off.past) all, same.all_past),
          );
      refused = tt;
    }

pub go_on-requires-clause-whole : goal.go_on-requires-clause-whole
go_on-requires-clause-whole g c = c.requires.whole

pub go_on-requires-clause-marked : goal.go_on-requires-clause-marked
go_on-requires-clause-marked g c = c.requires.marked

pub go_on-requires-clause-stack : goal.go_on-requires-clause-stack
go_on-requires-clause-stack g c = c.requires.stack

pub go_on-requires-clause-graph : goal.go_on-requires-clause-graph
go_on-requires-clause-graph g c = c.requires.graph

pub returns-then-way : goal.returns-then-way
returns-then-way g c =
    let e = c.go_on.ensures in
    record { start = on_ok c.go_on.result e.more start_of_more; marked = e.marked; stack = e.stack; less = e.less; graph = e.graph; refused = e.refused }
