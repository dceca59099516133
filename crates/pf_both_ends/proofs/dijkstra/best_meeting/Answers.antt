use Rattle.std.proofs.Common.{rules, ◌≡◌, ◌∙◌, ◌-◌, ◌^◌, ◌<◌, ℕ, pos, Err, refl, sym, ap, subst, inl, inr, nat_eq, length}
use Rattle.std.specs.Prelude.{◌≤ℤ◌}
use Rattle.pf_core.specs.Labels.{Labels, by_cost, settled_count}
use Rattle.pf_core.specs.Search.{IsLow}
use Rattle.pf_core.proofs.LabelLemmas.{HasLabel-inside}
use Rattle.pf_both_ends.specs.Internal.BothEnds.{bound}
use Rattle.pf_both_ends.proofs.BothEndsLemmas.{positive, labelled_node, ended, past_at}
use Rattle.pf_both_ends.proofs.BothEndsTurns.{turned_forth, turned_back, both_kept, both_now, decided, undecided}
use Rattle.pf_base.proofs.Outcomes.{if_refused, ok_is_no_error, on_refused, overflow_kept, refused_as}
use Rattle.pf_discovery.proofs.StillLemmas.{labelled_inside, first_less, second_less, over_less}
use Rattle.pf_core.proofs.ReadLemmas.{still_at, still_least, still_labelled, turned_from, turn_smaller}
use Rattle.pf_both_ends.proofs.dijkstra.best_meeting.Goals as goal

pub turns-init : goal.turns-init
turns-init g c = record {
  sound_forth = c.requires.sound.forth;
  sound_back = c.requires.sound.back;
  wide_forth = c.requires.sound.wide_forth;
  wide_back = c.requires.sound.wide_back;
  explored_forth = λ h x. x;
  explored_back = λ h x. x;
  pair = λ edges previous start end x y p. (p, tt);
}

pub returns-in_default-least-clause-sound : goal.returns-in_default-least-clause-sound
returns-in_default-least-clause-sound g c = record {
  forth = c.in-Some.ensures.sound;
  back = c.in_default-least.ensures.sound;
  wide_forth = ap length c.in-Some.ensures.same ∙ c.turns.invariant.wide_forth;
  wide_back = ap length c.in_default-least.ensures.same ∙ c.turns.invariant.wide_back;
}

pub returns-in_default-least-clause-errors : goal.returns-in_default-least-clause-errors
returns-in_default-least-clause-errors g c = tt

pub returns-in_default-least-clause-best : goal.returns-in_default-least-clause-best
returns-in_default-least-clause-best g c = λ edges previous start end x y p.
    let both = c.turns.invariant.pair edges previous start end x y p in
    let now = both_now g.N.PartialEq.eq g.met.N.Eq.laws g.C.Number.value g.C.Number.fits edges previous start end _ _ _ _ _ _ _ c.in-Some.ensures.same c.in_default-least.ensures.same c.turns.best both in (
      (
        now.0,
        now.1,
        ended g.N.PartialEq.eq g.met.N.Eq.laws g.C.Number.value g.C.Number.fits edges previous start end _ _ _ _ (g.C.Number.value g.C.Cost.greatest) (λ z f. ((g.met.C.Cost.range_law z).0 f).1) c.turns.best both.0 (inr c.in_default-least.ensures.least),
      ),
      λ e. absurd (ok_is_no_error _ _ _ refl e),
    )

pub cost_at-cost-requires : goal.cost_at-cost-requires
cost_at-cost-requires g c = still_labelled _ _ c.in-Some.ensures.same g.C.Number.value c.in-Some.number c.in-Some.ensures.least

pub cost_at-cost_back-requires : goal.cost_at-cost_back-requires
cost_at-cost_back-requires g c = still_labelled _ _ c.in-Some-least.ensures.same g.C.Number.value c.in-Some-least.across c.in-Some-least.ensures.least

pub returns-then-is_best-clause-sound : goal.returns-then-is_best-clause-sound
returns-then-is_best-clause-sound g c = record {
  forth = c.in-Some.ensures.sound;
  back = c.in-Some-least.ensures.sound;
  wide_forth = ap length c.in-Some.ensures.same ∙ c.turns.invariant.wide_forth;
  wide_back = ap length c.in-Some-least.ensures.same ∙ c.turns.invariant.wide_back;
}

pub returns-then-is_best-clause-errors : goal.returns-then-is_best-clause-errors
returns-then-is_best-clause-errors g c = tt

pub returns-then-is_best-clause-best : goal.returns-then-is_best-clause-best
returns-then-is_best-clause-best g c = λ edges previous start end x y p.
    let eq = g.N.PartialEq.eq in
    let laws = g.met.N.Eq.laws in
    let value = g.C.Number.value in
    let both = c.turns.invariant.pair edges previous start end x y p in
    let pair = both.0 in
    let now = both_now eq laws value g.C.Number.fits edges previous start end _ _ _ _ _ _ _ c.in-Some.ensures.same c.in-Some-least.ensures.same c.turns.best both in
    let z = c.in-Some.ensures.least in
    let w = c.in-Some-least.ensures.least in
    let first : c.cost_at-cost.result ≡ z.0.cost = c.cost_at-cost.ensures z.0 (still_at _ _ c.in-Some.ensures.same _ _ z.1.at) in
    let second : c.cost_at-cost_back.result ≡ w.0.cost = c.cost_at-cost_back.ensures w.0 (still_at _ _ c.in-Some-least.ensures.same _ _ w.1.at) in
    let low : IsLow (by_cost value) c.turns.forth.labels.items (value c.cost_at-cost.result) = subst (λ (x : g.row.C.Denot). IsLow (by_cost value) c.turns.forth.labels.items (value x)) (sym first) z.1.least in
    let low_back : IsLow (by_cost value) c.turns.back.labels.items (value c.cost_at-cost_back.result) = subst (λ (x : g.row.C.Denot). IsLow (by_cost value) c.turns.back.labels.items (value x)) (sym second) w.1.least in
    let nonneg : pos 0 ≤ℤ value c.cost_at-cost_back.result = subst (λ (x : g.row.C.Denot). pos 0 ≤ℤ value x) (sym second) (labelled_node eq laws value g.C.Number.fits previous end _ _ pair.back c.in-Some-least.across w.0 w.1.at).3 in (
      (
        now.0,
        now.1,
        decided eq laws value g.C.Number.fits edges previous start end _ _ _ _ (value g.C.Cost.greatest) c.turns.best pair (value c.cost_at-cost.result) (value c.cost_at-cost_back.result) low low_back c.is_best.result c.if-is_best.true (c.is_best.ensures.decided nonneg),
      ),
      λ e. absurd (ok_is_no_error _ _ _ refl e),
    )

pub turn-requires-clause-sound : goal.turn-requires-clause-sound
turn-requires-clause-sound g c = c.in-Some.ensures.sound

pub turn-requires-clause-wide : goal.turn-requires-clause-wide
turn-requires-clause-wide g c = ap length c.in-Some.ensures.same ∙ c.turns.invariant.wide_forth

pub turn-requires-else-waits_for_no_more-clause-sound : goal.turn-requires-else-waits_for_no_more-clause-sound
turn-requires-else-waits_for_no_more-clause-sound g c = c.in-Some-least.ensures.sound

pub turn-requires-else-waits_for_no_more-clause-wide : goal.turn-requires-else-waits_for_no_more-clause-wide
turn-requires-else-waits_for_no_more-clause-wide g c = ap length c.in-Some-least.ensures.same ∙ c.turns.invariant.wide_back

pub meeting_at-found-requires-clause-wide : goal.meeting_at-found-requires-clause-wide
meeting_at-found-requires-clause-wide g c = ap length c.in-Some-least.ensures.same ∙ c.turns.invariant.wide_back

pub meeting_at-found-requires-in-Ok-clause-wide : goal.meeting_at-found-requires-in-Ok-clause-wide
meeting_at-found-requires-in-Ok-clause-wide g c = ap length c.in-Some.ensures.same ∙ c.turns.invariant.wide_forth

pub turn-requires-clause-least : goal.turn-requires-clause-least
turn-requires-clause-least g c = still_least _ _ c.in-Some.ensures.same g.C.Number.value c.in-Some.number c.in-Some.ensures.least

pub turn-requires-clause-graph : goal.turn-requires-clause-graph
turn-requires-clause-graph g c = let r = c.requires.pair in (_, c.turns.invariant.explored_forth _ r.4)

pub returns-in_err-turn : goal.returns-in_err-turn
returns-in_err-turn g c = record {
  sound = on_refused _ c.from_residual.result c.in_err-turn.field-0.0 c.from_residual.ensures.1;
  best = λ edges previous start end x y p.
      let eq = g.N.PartialEq.eq in
      let laws = g.met.N.Eq.laws in
      let value = g.C.Number.value in
      let v = c.turns.invariant in
      let pair = (v.pair edges previous start end x y p).0 in
      let z = c.in-Some.ensures.least in
      let labels = c.turns.forth.labels.items in
      let w = c.in-Some-least.ensures.least in
      let first : c.cost_at-cost.result ≡ z.0.cost = c.cost_at-cost.ensures z.0 (still_at _ _ c.in-Some.ensures.same _ _ z.1.at) in
      let second : c.cost_at-cost_back.result ≡ w.0.cost = c.cost_at-cost_back.ensures w.0 (still_at _ _ c.in-Some-least.ensures.same _ _ w.1.at) in
      let nonneg : pos 0 ≤ℤ value c.cost_at-cost_back.result = subst (λ (x : g.row.C.Denot). pos 0 ≤ℤ value x) (sym second) (labelled_node eq laws value g.C.Number.fits previous end _ _ pair.back c.in-Some-least.across w.0 w.1.at).3 in (
        if_refused _ c.from_residual.result c.in_err-turn.field-0.0 c.from_residual.ensures.1,
        λ e.
            let d = c.in_err-turn.ensures.overflow (ap Err (overflow_kept c.from_residual.result c.in_err-turn.field-0.0 c.from_residual.ensures.1 e)) _ (v.explored_forth _ x) in
            past_at eq laws value g.C.Number.fits edges previous start end _ _ _ _ (bound value (value g.C.Cost.greatest) c.turns.best) pair c.in-Some.number z.0 z.1
            (λ q f less le. undecided eq laws value g.C.Number.fits (value g.C.Cost.greatest) (λ t k. ((g.met.C.Cost.range_law t).0 k).1) c.turns.best (value c.cost_at-cost.result) (value c.cost_at-cost_back.result) nonneg c.is_best.result c.if-is_best.false (c.is_best.ensures.decided nonneg) q f less
            (subst (λ (x : g.row.C.Denot). q ≤ℤ value x) (sym first) le))
            (λ n st. d n st z.0 (still_at _ _ c.in-Some.ensures.same _ _ z.1.at)) (subst (λ (n : ℕ). c.in-Some.number < n) v.wide_forth (HasLabel-inside labels c.in-Some.number z.0 z.1.at)),
      );
  errors = refused_as _ c.from_residual.result c.in_err-turn.field-0.0 c.from_residual.ensures.1 c.in_err-turn.ensures.errors;
}

pub meeting_at-found-requires-clause-inside : goal.meeting_at-found-requires-clause-inside
meeting_at-found-requires-clause-inside g c = let z = c.in-Some.ensures.least in labelled_inside c.turns.forth.labels.items c.in-Some.number z.0 _ _ z.1.at c.turns.invariant.wide_forth c.in_ok-turn.ensures.grows.more

pub meeting_at-found-requires-clause-labelled : goal.meeting_at-found-requires-clause-labelled
meeting_at-found-requires-clause-labelled g c = let z = c.in-Some.ensures.least in let t = c.in_ok-turn.ensures.turned z.0 (still_at _ _ c.in-Some.ensures.same _ _ z.1.at) in (_, t.done)

pub meeting_at-found-requires-clause-one : goal.meeting_at-found-requires-clause-one
meeting_at-found-requires-clause-one g c = let r = c.requires.pair in let p = (c.turns.invariant.pair r.0 r.1 r.2 r.3 r.4 r.5 r.6).0 in p.back.one

pub turns-smaller-then-waits_for_no_more : goal.turns-smaller-then-waits_for_no_more
turns-smaller-then-waits_for_no_more g c =
    let z = c.in-Some.ensures.least in
    let old = c.turns.forth.labels in
    let t = turned_from old.items _ c.in-Some.ensures.same c.in-Some.number z.0 _ z.1.at c.in_ok-turn.ensures.turned in
    first_less _ _ _ _ _ (turn_smaller old.items _ c.in-Some.number z.0 t _ _ old.ok old.small) (ap (λ (ls : Labels g.row.C.Denot). 2 ^ 64 - settled_count ls) c.in-Some-least.ensures.same)

pub turns-smaller-in-Ok : goal.turns-smaller-in-Ok
turns-smaller-in-Ok g c =
    let z = c.in-Some-least.ensures.least in
    let old = c.turns.back.labels in
    let t = turned_from old.items _ c.in-Some-least.ensures.same c.in-Some-least.across z.0 _ z.1.at c.in-Ok.ensures.turned in
    second_less _ _ _ _ _ (ap (λ (ls : Labels g.row.C.Denot). 2 ^ 64 - settled_count ls) c.in-Some.ensures.same) (turn_smaller old.items _ c.in-Some-least.across z.0 t _ _ old.ok old.small)

pub turns-smaller : goal.turns-smaller
turns-smaller g c = over_less _ _ _ _ c.turns.back_is_over
    (ap (λ (ls : Labels g.row.C.Denot). 2 ^ 64 - settled_count ls) c.in-Some.ensures.same)
    (ap (λ (ls : Labels g.row.C.Denot). 2 ^ 64 - settled_count ls) (c.in-Err-CostOverflow.ensures.kept.1 ∙ c.in-Some-least.ensures.same))
    (search rules)

pub turns-preserved-then-waits_for_no_more : goal.turns-preserved-then-waits_for_no_more
turns-preserved-then-waits_for_no_more g c =
    let eq = g.N.PartialEq.eq in
    let laws = g.met.N.Eq.laws in
    let value = g.C.Number.value in
    let fits = g.C.Number.fits in
    let v = c.turns.invariant in
    let z = c.in-Some.ensures.least in
    let labels = c.turns.forth.labels.items in
    let keys = g.M.Numbering.keys c.turns.graph.forth.nodes in
    let e = c.in_ok-turn.ensures in
    let found = c.meeting_at-found in
    let chosen = c.cheaper-best in
    record {
      sound_forth = e.sound;
      sound_back = c.in-Some-least.ensures.sound;
      wide_forth = e.wide;
      wide_back = ap length c.in-Some-least.ensures.same ∙ v.wide_back;
      explored_forth = λ h x. e.graph h (v.explored_forth h x);
      explored_back = v.explored_back;
      pair = λ edges previous start end x y p.
          let both = v.pair edges previous start end x y p in
          let explores = v.explored_forth _ x in
          turned_forth eq laws value fits edges previous start end keys (g.M.Numbering.keys c.turns.graph.back.nodes) labels c.turns.back.labels.items (value g.C.Cost.greatest) c.turns.best both.0 both.1 _ _ c.turn.new.self.labels.items c.in-Some.ensures.same c.in-Some-least.ensures.same e.sound.tree c.in-Some.number z.0
          c.cost_at-cost.result c.is_best.ensures.fit.0 chosen.result chosen.ensures.best (g.M.Numbering.keys c.turn.new.graph.nodes) e.grows (e.graph _ explores).distinct (e.search _ explores (positive eq laws value fits edges start keys labels (both.0).forth) (λ k. nat_eq k 0)) z.1.at e.turned c.cost_at-cost.ensures v.wide_forth
          found.result found.ensures.meets found.ensures.low chosen.ensures.one chosen.ensures.other;
    }

pub turn-requires-else-waits_for_no_more-clause-least : goal.turn-requires-else-waits_for_no_more-clause-least
turn-requires-else-waits_for_no_more-clause-least g c = still_least _ _ c.in-Some-least.ensures.same g.C.Number.value c.in-Some-least.across c.in-Some-least.ensures.least

pub turn-requires-else-waits_for_no_more-clause-graph : goal.turn-requires-else-waits_for_no_more-clause-graph
turn-requires-else-waits_for_no_more-clause-graph g c = let r = c.requires.pair in (_, c.turns.invariant.explored_back _ r.5)

pub meeting_at-found-requires-in-Ok-clause-inside : goal.meeting_at-found-requires-in-Ok-clause-inside
meeting_at-found-requires-in-Ok-clause-inside g c = let z = c.in-Some-least.ensures.least in labelled_inside c.turns.back.labels.items c.in-Some-least.across z.0 _ _ z.1.at c.turns.invariant.wide_back c.in-Ok.ensures.grows.more

pub meeting_at-found-requires-in-Ok-clause-labelled : goal.meeting_at-found-requires-in-Ok-clause-labelled
meeting_at-found-requires-in-Ok-clause-labelled g c = let z = c.in-Some-least.ensures.least in let t = c.in-Ok.ensures.turned z.0 (still_at _ _ c.in-Some-least.ensures.same _ _ z.1.at) in (_, t.done)

pub meeting_at-found-requires-in-Ok-clause-one : goal.meeting_at-found-requires-in-Ok-clause-one
meeting_at-found-requires-in-Ok-clause-one g c = let r = c.requires.pair in let p = (c.turns.invariant.pair r.0 r.1 r.2 r.3 r.4 r.5 r.6).0 in p.forth.one

pub turns-preserved-in-Ok : goal.turns-preserved-in-Ok
turns-preserved-in-Ok g c =
    let eq = g.N.PartialEq.eq in
    let laws = g.met.N.Eq.laws in
    let value = g.C.Number.value in
    let fits = g.C.Number.fits in
    let v = c.turns.invariant in
    let z = c.in-Some-least.ensures.least in
    let labels' = c.turns.back.labels.items in
    let others = g.M.Numbering.keys c.turns.graph.back.nodes in
    let turn = c.turn-else-waits_for_no_more in
    let e = c.in-Ok.ensures in
    let found = c.meeting_at-found-in-Ok in
    let chosen = c.cheaper-best-in-Ok in
    record {
      sound_forth = c.in-Some.ensures.sound;
      sound_back = e.sound;
      wide_forth = ap length c.in-Some.ensures.same ∙ v.wide_forth;
      wide_back = e.wide;
      explored_forth = v.explored_forth;
      explored_back = λ h x. e.graph h (v.explored_back h x);
      pair = λ edges previous start end x y p.
          let both = v.pair edges previous start end x y p in
          let explores = v.explored_back _ y in
          turned_back eq laws value fits edges previous start end (g.M.Numbering.keys c.turns.graph.forth.nodes) others c.turns.forth.labels.items labels' (value g.C.Cost.greatest) c.turns.best both.0 both.1 _ _ turn.new.self.labels.items c.in-Some.ensures.same c.in-Some-least.ensures.same e.sound.tree c.in-Some-least.across z.0
          c.cost_at-cost_back.result c.is_best.ensures.fit.1 chosen.result chosen.ensures.best (g.M.Numbering.keys turn.new.graph.nodes) e.grows (e.graph _ explores).distinct (e.search _ explores (positive eq laws value fits previous end others labels' (both.0).back) (λ k. nat_eq k 0)) z.1.at e.turned c.cost_at-cost_back.ensures v.wide_back
          found.result c.turned_about.result c.turned_about.ensures found.ensures.meets found.ensures.low chosen.ensures.one chosen.ensures.other;
    }

pub turns-preserved : goal.turns-preserved
turns-preserved g c =
    let eq = g.N.PartialEq.eq in
    let v = c.turns.invariant in
    let turn = c.turn-else-waits_for_no_more in
    let e = c.in-Err-CostOverflow.ensures in
    record {
      sound_forth = c.in-Some.ensures.sound;
      sound_back = e.sound;
      wide_forth = ap length c.in-Some.ensures.same ∙ v.wide_forth;
      wide_back = e.wide;
      explored_forth = v.explored_forth;
      explored_back = λ h x. e.graph h (v.explored_back h x);
      pair = λ edges previous start end x y p.
          let both = v.pair edges previous start end x y p in
          both_kept eq g.met.N.Eq.laws g.C.Number.value g.C.Number.fits edges previous start end (g.M.Numbering.keys c.turns.graph.forth.nodes) (g.M.Numbering.keys c.turns.graph.back.nodes) c.turns.forth.labels.items c.turns.back.labels.items _ both.0 (g.M.Numbering.keys turn.new.graph.nodes) e.grows (e.graph _ (v.explored_back _ y)).distinct v.wide_back
          _ turn.new.self.labels.items c.in-Some.ensures.same (e.kept.1 ∙ c.in-Some-least.ensures.same) c.turns.best both.1;
    }

pub returns-clause-sound : goal.returns-clause-sound
returns-clause-sound g c = record {
  forth = c.in_default.ensures.sound;
  back = c.turns.invariant.sound_back;
  wide_forth = ap length c.in_default.ensures.same ∙ c.turns.invariant.wide_forth;
  wide_back = c.turns.invariant.wide_back;
}

pub returns-clause-errors : goal.returns-clause-errors
returns-clause-errors g c = tt

pub returns-in-Err-clause-sound : goal.returns-in-Err-clause-sound
returns-in-Err-clause-sound g c = tt

pub returns-clause-best : goal.returns-clause-best
returns-clause-best g c = λ edges previous start end x y p.
    let both = c.turns.invariant.pair edges previous start end x y p in
    let now = both_now g.N.PartialEq.eq g.met.N.Eq.laws g.C.Number.value g.C.Number.fits edges previous start end _ _ _ _ _ _ _ c.in_default.ensures.same refl c.turns.best both in (
      (
        now.0,
        now.1,
        ended g.N.PartialEq.eq g.met.N.Eq.laws g.C.Number.value g.C.Number.fits edges previous start end _ _ _ _ (g.C.Number.value g.C.Cost.greatest) (λ z f. ((g.met.C.Cost.range_law z).0 f).1) c.turns.best both.0 (inl c.in_default.ensures.least),
      ),
      λ e. absurd (ok_is_no_error _ _ _ refl e),
    )
