use Rattle.std.proofs.Common.{◌≡◌, ◌<◌, [], ◌∷◌, List, ℕ, ℤ, pos, true, length, ap, ◌∙◌, sym, subst, inl, inr, false, Some, None}
use Rattle.std.specs.Prelude.{◌≤ℤ◌, ◌↔◌, ◌⊎◌, Contains, reverse}
use Rattle.std.proofs.lemmas.Option.{MatchOption-at_some, MatchOption-at_none}
use Rattle.pf_base.proofs.ListLemmas.{Contains-cases, none_in}
use Rattle.pf_core.proofs.NodeLemmas.{InReach-same}
use Rattle.pf_deepening.specs.declared.rows.Span.{Span}
use Rattle.pf_deepening.specs.declared.way.Frame.{Frame}
use Rattle.pf_deepening.specs.Ways.{HasSpan, IsMarked}
use Rattle.pf_informed.specs.Internal.Deepening.{numbers_of, IsStack}
use Rattle.pf_informed.proofs.KnownLemmas.{start_of_more, start_trans}
use Rattle.pf_informed.proofs.NestLemmas.{no_stack, stack_entered}
use Rattle.pf_informed.proofs.WayLemmas.{still_found, marked_on, on_way_as, begun, start_way}
use Rattle.pf_base.proofs.Outcomes.{if_refused, on_refused, refused_as}
use Rattle.pf_informed.proofs.Bounds.{at_most_both, none_below}
use Rattle.pf_informed.proofs.directed.idastar.round.look_through.Goals as goal

pub turns-init : goal.turns-init
turns-init g c =
    let eq = g.N.PartialEq.eq in
    let laws = g.met.N.Eq.laws in
    let value = g.C.Number.value in
    let fits = g.C.Number.fits in
    let after = c.span_of.new.self in
    let keys = g.M.Numbering.keys after.graph.discovery.nodes in
    let e = c.in_ok-span.ensures in
    let s = c.in-Some.span in
    let has = MatchOption-at_some _ _ c.in-Some.span c.in-Some.is e.kept in
    let within = e.more.whole.table.within 0 s has in
    let nothing : value c.zero-nothing.result ≡ pos 0 = ap value c.zero-nothing.ensures ∙ g.met.C.Zero.zero_law g.met.C.Integral.exact_law in
    let way = c.in_ok-way.way in
    let b = c.in_ok-way.ensures in
    let number : way.frame.number ≡ 0 = ap (λ (f : Frame g.row.C.Denot). f.number) b.frame in
    let cost : value way.frame.cost ≡ pos 0 = ap (λ (f : Frame g.row.C.Denot). value f.cost) b.frame ∙ nothing in
    let at : way.frame.at ≡ s.begin = ap (λ (f : Frame g.row.C.Denot). f.at) b.frame in
    let end : way.frame.end ≡ s.end = ap (λ (f : Frame g.row.C.Denot). f.end) b.frame in
    let frames : numbers_of (way.frame ∷ reverse way.trail.items) ≡ 0 ∷ [] = ap (λ (xs : List (Frame g.row.C.Denot)). numbers_of (way.frame ∷ xs)) b.below ∙ ap (λ (f : Frame g.row.C.Denot). numbers_of (f ∷ [])) b.frame in
    let none : (i : ℕ) → IsMarked [] i ↔ Contains [] i = λ i. ((λ m. absurd (none_in i true m)), (λ m. absurd (none_below _ m.1))) in
    let alone : (i : ℕ) → IsMarked way.marks.items i ↔ (IsMarked [] i ⊎ (i ≡ 0)) = λ i. (
      (λ m. inr ((b.marked i).0 m)),
      (λ m. (b.marked i).1 (elim m as (λ _. i ≡ 0) [ inl q ↦ absurd (none_in i true q) | inr q ↦ q ])),
    ) in
    let on = marked_on [] way.marks.items [] 0 none alone in
    record {
      start = start_of_more e.more;
      stack =
          let opened = MatchOption-at_some _ _ c.in-Some.span c.in-Some.is e.opened in
          let entered = stack_entered c.args.known.now.rows.steps.items c.args.known.now.rows.spans.items (λ i q h. (c.requires.whole.table.within i q h).0) after.rows.steps.items after.rows.spans.items e.more.steps e.more.spans [] (length (g.M.Numbering.keys c.args.known.now.graph.discovery.nodes)) (length keys) e.more.grows.more c.requires.whole.table.inside
          (no_stack c.args.known.now.rows.steps.items c.args.known.now.rows.spans.items _ c.requires.unopened) way.frame s (subst (λ (n : ℕ). HasSpan after.rows.spans.items n s) (sym number) has) within.1 opened.0 opened.1 (subst (λ (n : ℕ). n < length (g.M.Numbering.keys c.args.known.now.graph.discovery.nodes)) (sym number) c.requires.begun)
          (subst (λ (n : ℕ). (i : ℕ) (t : Span) → HasSpan after.rows.spans.items i t → HasSpan c.args.known.now.rows.spans.items i t ⊎ (i ≡ n)) (sym number) e.only) in
          subst (λ (xs : List (Frame g.row.C.Denot)). IsStack after.rows.steps.items after.rows.spans.items (length keys) (way.frame ∷ xs)) (sym b.below) entered;
      marked = record {
        marked = subst (λ (ns : List ℕ). (i : ℕ) → IsMarked way.marks.items i ↔ Contains ns i) (sym frames) on;
        inside = λ i m. elim (Contains-cases [] 0 i (subst (λ (ns : List ℕ). Contains ns i) frames m)) as (λ _. i < length keys) [
          | inl q ↦ subst (λ (n : ℕ). n < length keys) q (still_found _ _ _ c.requires.begun e.more.grows.more)
          | inr q ↦ absurd (none_below _ q.1)
        ];
        above = λ n q. let no : None ≡ Some n = sym b.cut_off.0 ∙ q in absurd (cc);
      };
      searched = λ h test least first k st low.
          let told = e.graph h test least k in
          let k2 = told.0 in (
            k2,
            on_way_as eq laws value fits h test least first keys after.rows.steps.items after.rows.spans.items k2.rows way.frame [] (reverse way.trail.items) None way.cut_off.least false way.cut_off.past b.below b.cut_off.0 b.cut_off.1
                (begun eq laws value fits h test least first keys after.rows.steps.items after.rows.spans.items k2.rows way.frame s has within.0 number cost at end (e.more.grows.stays 0 first st)),
          );
    }

pub span_of-requires-clause-inside : goal.span_of-requires-clause-inside
span_of-requires-clause-inside g c = c.requires.begun

pub span_of-requires-clause-whole : goal.span_of-requires-clause-whole
span_of-requires-clause-whole g c = c.requires.whole

pub span_of-requires-clause-unopened : goal.span_of-requires-clause-unopened
span_of-requires-clause-unopened g c = c.requires.unopened 0

pub span_of-requires-clause-graph : goal.span_of-requires-clause-graph
span_of-requires-clause-graph g c = let r = c.requires.graph in (r.0, r.1, r.2, r.4)

pub turn-requires-clause-graph : goal.turn-requires-clause-graph
turn-requires-clause-graph g c =
    let r = c.requires.graph in
    let v = c.turns.invariant.searched r.0 r.1 r.2 r.3 r.4 r.5 r.6 in
    (r.0, r.1, r.2, r.3, v.0, v.1)

pub turns-preserved : goal.turns-preserved
turns-preserved g c = record {
  start = start_trans c.turns.invariant.start c.in_ok-round.ensures.start;
  marked = MatchOption-at_none _ _ c.in_default-2.is c.in_ok-round.ensures.marked;
  stack = MatchOption-at_none _ _ c.in_default-2.is c.in_ok-round.ensures.stack;
  searched = λ h test least first k s low.
      let v = c.turns.invariant.searched h test least first k s low in
      let q = c.in_ok-round.ensures.graph h test least first v.0 v.1 in
      (q.0, MatchOption-at_none _ _ c.in_default-2.is q.1);
}

pub returns-in_err-span : goal.returns-in_err-span
returns-in_err-span g c = record {
  start = on_refused _ c.from_residual.result _ c.from_residual.ensures.1;
  unopened = if_refused _ c.from_residual.result _ c.from_residual.ensures.1;
  round = if_refused _ c.from_residual.result _ c.from_residual.ensures.1;
  graph = λ h test least first k s low. if_refused _ c.from_residual.result _ c.from_residual.ensures.1;
  refused = refused_as _ c.from_residual.result _ c.from_residual.ensures.1 c.in_err-span.ensures.refused;
}

pub returns-in_err-numbers : goal.returns-in_err-numbers
returns-in_err-numbers g c = record {
  start = on_refused _ c.from_residual-in_err-numbers.result _ c.from_residual-in_err-numbers.ensures.1;
  unopened = if_refused _ c.from_residual-in_err-numbers.result _ c.from_residual-in_err-numbers.ensures.1;
  round = if_refused _ c.from_residual-in_err-numbers.result _ c.from_residual-in_err-numbers.ensures.1;
  graph = λ h test least first k s low. if_refused _ c.from_residual-in_err-numbers.result _ c.from_residual-in_err-numbers.ensures.1;
  refused = refused_as _ c.from_residual-in_err-numbers.result _ c.from_residual-in_err-numbers.ensures.1 c.in_err-numbers.ensures.refused;
}

pub returns-in_err-way : goal.returns-in_err-way
returns-in_err-way g c = record {
  start = on_refused _ c.from_residual-in_err-way.result _ c.from_residual-in_err-way.ensures.1;
  unopened = if_refused _ c.from_residual-in_err-way.result _ c.from_residual-in_err-way.ensures.1;
  round = if_refused _ c.from_residual-in_err-way.result _ c.from_residual-in_err-way.ensures.1;
  graph = λ h test least first k s low. if_refused _ c.from_residual-in_err-way.result _ c.from_residual-in_err-way.ensures.1;
  refused = refused_as _ c.from_residual-in_err-way.result _ c.from_residual-in_err-way.ensures.1 c.in_err-way.ensures.refused;
}

pub returns-in_err-round : goal.returns-in_err-round
returns-in_err-round g c = record {
  start = on_refused _ c.from_residual-in_err-round.result _ c.from_residual-in_err-round.ensures.1;
  unopened = if_refused _ c.from_residual-in_err-round.result _ c.from_residual-in_err-round.ensures.1;
  round = if_refused _ c.from_residual-in_err-round.result _ c.from_residual-in_err-round.ensures.1;
  graph = λ h test least first k s low. if_refused _ c.from_residual-in_err-round.result _ c.from_residual-in_err-round.ensures.1;
  refused = refused_as _ c.from_residual-in_err-round.result _ c.from_residual-in_err-round.ensures.1 c.in_err-round.ensures.refused;
}

pub returns-in-Some-2 : goal.returns-in-Some-2
returns-in-Some-2 g c = record {
  start = start_trans c.turns.invariant.start c.in_ok-round.ensures.start;
  unopened = MatchOption-at_some _ _ c.in-Some-2.round c.in-Some-2.is c.in_ok-round.ensures.stack;
  graph = λ h test least first k s low.
      let v = c.turns.invariant.searched h test least first k s low in
      let q = c.in_ok-round.ensures.graph h test least first v.0 v.1 in
      (q.0, MatchOption-at_some _ _ c.in-Some-2.round c.in-Some-2.is q.1);
  round = MatchOption-at_some _ _ c.in-Some-2.round c.in-Some-2.is c.in_ok-round.ensures.marked;
  refused = tt;
}

pub turn-requires-clause-whole : goal.turn-requires-clause-whole
turn-requires-clause-whole g c = c.turns.invariant.start.whole

pub turn-requires-clause-marked : goal.turn-requires-clause-marked
turn-requires-clause-marked g c = c.turns.invariant.marked

pub turn-requires-clause-stack : goal.turn-requires-clause-stack
turn-requires-clause-stack g c = c.turns.invariant.stack

pub turns-smaller : goal.turns-smaller
turns-smaller g c = MatchOption-at_none _ _ c.in_default-2.is c.in_ok-round.ensures.less

pub returns-in_default : goal.returns-in_default
returns-in_default g c = record {
  graph = λ h test least first k s low.
      let eq = g.N.PartialEq.eq in
      let laws = g.met.N.Eq.laws in
      let value = g.C.Number.value in
      let keys = g.M.Numbering.keys c.span_of.new.self.graph.discovery.nodes in
      let told = c.in_ok-span.ensures.graph h test least k in
      let goal = MatchOption-at_none _ _ c.in_default.is told.1 in
      let here = c.in_ok-span.ensures.more.grows.stays 0 first s in
      let nothing : value c.zero-nothing.result ≡ pos 0 = ap value c.zero-nothing.ensures ∙ g.met.C.Zero.zero_law g.met.C.Integral.exact_law in
      let from = k.led.admissible.from_zero first (InReach-same eq laws h.edges h.starts s.0 first (k.led.explores.reached 0 s.0 s.1) s.2) in
      (told.0, (start_way eq laws value g.C.Number.fits h test least first keys here (goal first here) c.in_ok-numbers.numbers.items c.in_ok-numbers.ensures.numbers (value c.zero-nothing.result) nothing, subst (λ (z : ℤ). z ≤ℤ value c.args.limit) (sym nothing) (at_most_both _ _ _ from low)));
  start = start_of_more c.in_ok-span.ensures.more;
  unopened = tt;
  refused = tt;
  round = λ i m.
      let keys = g.M.Numbering.keys c.span_of.new.self.graph.discovery.nodes in
      elim (Contains-cases [] 0 i (subst (λ (ns : List ℕ). Contains ns i) c.in_ok-numbers.ensures.numbers m)) as (λ _. i < length keys) [
        | inl q ↦ subst (λ (n : ℕ). n < length keys) q (still_found _ _ _ c.requires.begun c.in_ok-span.ensures.more.grows.more)
        | inr q ↦ absurd (none_below _ q.1)
      ];
}
