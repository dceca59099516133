use Rattle.std.proofs.Common.{◌≡◌, ◌∙◌, [], ◌∷◌, ℤ, Bool, true, length, sym, subst, inl, slice_get, Option, Some, None, refl, inr}
use Rattle.std.specs.Prelude.{◌≤ℤ◌}
use Rattle.pf_base.specs.Edges.{InReach}
use Rattle.pf_core.specs.Nodes.{StandsFor}
use Rattle.pf_core.specs.NodeLaws.{StandsFor-one, StandsFor-inside}
use Rattle.pf_base.proofs.ListLemmas.{at_place}
use Rattle.pf_core.proofs.NodeLemmas.{StandsFor-same, InReach-same}
use Rattle.pf_core.proofs.WalkLemmas.{all_starts, only_starts, no_negative, no_walk, best_answer}
use Rattle.pf_informed.specs.Internal.Estimated.{IsEstimated}
use Rattle.pf_deepening.specs.Ways.{IsCutOff}
use Rattle.pf_informed.proofs.LedLemmas.{graph_of, led_more}
use Rattle.pf_informed.proofs.LimitLemmas.{limit_rises, covered_walk, next_limit, none_cut, none_fits, best_way, past_way}
use Rattle.pf_informed.proofs.NodeWalks.{estimate_is, never_above, no_walk_fits}
use Rattle.pf_base.proofs.Outcomes.{if_refused, no_overflow, ok_is_no_error, refused_as}
use Rattle.pf_informed.proofs.Bounds.{none_more, some_one, is_at_most, at_most_both, at_most_below}
use Rattle.pf_informed.proofs.directed.idastar.search_on.Goals as goal

pub ask-requires-clause-few : goal.ask-requires-clause-few
ask-requires-clause-few g c = rw c.requires.unasked (none_more _)

pub ask-requires-clause-graph : goal.ask-requires-clause-graph
ask-requires-clause-graph g c =
    let r = c.requires.graph in
    let k = r.5 in
    (graph_of r.0 r.1, r.3, k.led.asked, k.led.explores.reached)

pub limits-init : goal.limits-init
limits-init g c =
    let eq = g.N.PartialEq.eq in
    let laws = g.met.N.Eq.laws in
    let value = g.C.Number.value in
    let known = c.args.known.now in
    let keys = g.M.Numbering.keys known.graph.discovery.nodes in
    let kept = c.ask.new.estimates.items in
    let one = c.requires.one in
    let asked : length kept ≡ length keys = c.in_ok-ask.ensures.all in
    record {
      begins = λ x s. s;
      whole = record { asked = asked; table = c.requires.table };
      unopened = c.requires.unopened;
      searched = λ start edges test least b k.
          let h = graph_of start edges in
          let a = c.in_ok-ask.ensures.graph h least k.led.asked k.led.explores.reached in
          let estimated : IsEstimated value least (slice_get keys) kept = a.1 k.led.estimated in
          let x = c.index-limit.result.now in
          let at : slice_get kept 0 ≡ Some x = at_place kept 0 x x (some_one _ (asked ∙ one)) (sym c.index-limit.ensures) in
          let is = estimate_is eq laws h k.led.explores.alike value least k.led.same_estimate keys k.led.explores.reached kept estimated asked 0 start x b at in
          let reach : (y : g.row.N.Denot) → StandsFor eq keys 0 y → InReach eq edges (start ∷ []) y = λ y t. InReach-same eq laws edges (start ∷ []) t.0 y (k.led.explores.reached 0 t.0 t.1) t.2 in (
            record { led = led_more k.led a.0 a.1; rows = k.rows },
            is_at_most _ _ is,
            λ s0 e w u goes good.
                let low = never_above eq laws h k.led.explores.alike test least k.led.admissible s0 (reach s0 (StandsFor-same eq laws keys 0 start s0 b e)) w u goes good in
                let same = k.led.same_estimate start s0 (reach start b) e in
                subst (λ (z : ℤ). z ≤ℤ u) (sym (is ∙ same)) low,
          );
    }

pub nodes_at-requires-clause-inside : goal.nodes_at-requires-clause-inside
nodes_at-requires-clause-inside g c = λ k m. (rw c.in-Found.is at c.in_ok-numbers.ensures.round) k (rw c.deref.ensures.value at m)

pub returns-in-Found : goal.returns-in-Found
returns-in-Found g c = record {
  best = λ start edges test least b d.
      let eq = g.N.PartialEq.eq in
      let laws = g.met.N.Eq.laws in
      let value = g.C.Number.value in
      let exact = g.met.C.Integral.exact_law in
      let v = c.limits.invariant.searched start edges test least b d in
      let k = v.0 in
      let begins = c.limits.invariant.begins start b in
      let alike = k.led.explores.alike in
      let same_test = k.led.same_test in
      let h = graph_of start edges in
      let p = no_negative eq laws h alike k.led.costs in
      let keys = g.M.Numbering.keys c.look_through.new.known.graph.discovery.nodes in
      let told = rw c.in-Found.is at (c.in_ok-numbers.ensures.graph h test least start v.0 begins v.1) in
      let best = best_way eq laws value g.C.Number.fits (λ a b d. g.C.Number.between_law a b d exact) (g.met.C.Zero.zero_fits_law exact) h alike test same_test p keys start c.in-Found.numbers.items (value c.in-Found.cost) (value c.limits.limit) told.1.0 told.1.1 v.2 in
      best_answer eq laws h alike (λ y. eq start y ≡ true) (all_starts eq start (λ y. eq start y ≡ true) (λ y. ((λ e. e), (λ e. e)))) (only_starts eq start (λ y. eq start y ≡ true) (λ y. ((λ e. e), (λ e. e)))) test same_test
      keys (StandsFor-one eq laws keys told.0.led.explores.distinct) c.in-Found.numbers.items c.in_ok-nodes-in-Found.nodes.items (value c.in-Found.cost) best (rw c.deref.ensures.value at c.in_ok-nodes-in-Found.ensures.nodes);
  overflow = λ start edges test least b d e. absurd (ok_is_no_error _ _ _ refl e);
  errors = tt;
}

pub limits-smaller : goal.limits-smaller
limits-smaller g c =
    let value = g.C.Number.value in
    let eq = g.N.PartialEq.eq in
    let laws = g.met.N.Eq.laws in
    let r = c.requires.graph in
    let start = r.0 in
    let inv = c.limits.invariant in
    let v = inv.searched start r.1 r.2 r.3 r.4 r.5 in
    let k = v.0 in
    let b = inv.begins start r.4 in
    let from = k.led.admissible.from_zero start (InReach-same eq laws r.1 (start ∷ []) b.0 start (k.led.explores.reached 0 b.0 b.1) b.2) in
    let above = (rw c.in-Missed.is at c.in_ok-numbers.ensures.round) c.in-Some.least c.in-Some.is in
    let fit = (g.met.C.Cost.range_law (value c.in-Some.least)).0 c.known.ensures in
    limit_rises (value c.limits.limit) (value c.in-Some.least) (value g.C.Cost.greatest) (at_most_both _ _ _ from v.1) above fit.1

pub limits-preserved : goal.limits-preserved
limits-preserved g c =
    let eq = g.N.PartialEq.eq in
    let laws = g.met.N.Eq.laws in
    let value = g.C.Number.value in
    let fits = g.C.Number.fits in
    let exact = g.met.C.Integral.exact_law in
    let inv = c.limits.invariant in
    let before = g.M.Numbering.keys c.limits.known.graph.discovery.nodes in
    let keys = g.M.Numbering.keys c.look_through.new.known.graph.discovery.nodes in
    let n = c.in-Some.least in
    let start_stays = c.in_ok-numbers.ensures.start.first in
    let above = (rw c.in-Missed.is at c.in_ok-numbers.ensures.round) n c.in-Some.is in
    record {
      begins = λ x s. start_stays x (inv.begins x s);
      whole = c.in_ok-numbers.ensures.start.whole;
      unopened = rw c.in-Missed.is at c.in_ok-numbers.ensures.unopened;
      searched = λ start edges test least b d.
          let v = c.limits.invariant.searched start edges test least b d in
          let k = v.0 in
          let begins = c.limits.invariant.begins start b in
          let alike = k.led.explores.alike in
          let same_test = k.led.same_test in
          let h = graph_of start edges in
          let p = no_negative eq laws h alike k.led.costs in
          let told = rw c.in-Missed.is at (c.in_ok-numbers.ensures.graph h test least start v.0 begins v.1) in
          let reach : (y : g.row.N.Denot) → StandsFor eq before 0 y → InReach eq edges (start ∷ []) y = λ y t. InReach-same eq laws edges (start ∷ []) t.0 y (k.led.explores.reached 0 t.0 t.1) t.2 in (
            told.0,
            at_most_below _ _ _ v.1 above,
            λ s0 e ws u goes good.
                let here = StandsFor-same eq laws before 0 start s0 begins e in
                let same = k.led.same_estimate start s0 (reach start begins) e in
                let seen = rw c.in-Missed.is at (c.in_ok-numbers.ensures.graph h test least s0 v.0 here (subst (λ (z : ℤ). z ≤ℤ value c.limits.limit) same v.1)) in
                let q = covered_walk eq laws value fits (λ a b d. g.C.Number.between_law a b d exact) (g.met.C.Zero.zero_fits_law exact) h alike test same_test p keys (IsCutOff value fits c.in-Missed.least c.in-Missed.past) s0 (start_stays s0 here) (reach s0 here) seen.1.0 ws u goes good in
                let cut = subst (λ (o : Option g.row.C.Denot). IsCutOff value fits o c.in-Missed.past q.0) c.in-Some.is q.3 in
                next_limit eq laws value fits (λ a b d. g.C.Number.between_law a b d exact) (g.met.C.Zero.zero_fits_law exact) h alike test same_test p n c.in-Missed.past q.0 u c.known.ensures q.1 q.2 cut,
          );
    }

pub returns-then-past : goal.returns-then-past
returns-then-past g c = record {
  best = λ start edges test least b d. tt;
  overflow = λ start edges test least b d refused.
      let eq = g.N.PartialEq.eq in
      let laws = g.met.N.Eq.laws in
      let value = g.C.Number.value in
      let fits = g.C.Number.fits in
      let exact = g.met.C.Integral.exact_law in
      let before = g.M.Numbering.keys c.limits.known.graph.discovery.nodes in
      let keys = g.M.Numbering.keys c.look_through.new.known.graph.discovery.nodes in
      let start_stays = c.in_ok-numbers.ensures.start.first in
      let v = c.limits.invariant.searched start edges test least b d in
      let k = v.0 in
      let begins = c.limits.invariant.begins start b in
      let alike = k.led.explores.alike in
      let same_test = k.led.same_test in
      let h = graph_of start edges in
      let p = no_negative eq laws h alike k.led.costs in
      let told = rw c.in-Missed.is at (c.in_ok-numbers.ensures.graph h test least start v.0 begins v.1) in
      let reach : (y : g.row.N.Denot) → StandsFor eq before 0 y → InReach eq edges (start ∷ []) y = λ y t. InReach-same eq laws edges (start ∷ []) t.0 y (k.led.explores.reached 0 t.0 t.1) t.2 in (
        past_way eq laws value fits (λ a b d. g.C.Number.between_law a b d exact) (g.met.C.Zero.zero_fits_law exact) h alike test same_test p least start (inl (laws.refl start)) (told.1.1 c.if-past.true),
        no_walk_fits eq laws h alike test fits (λ s0 i ws u goes good.
            let e = all_starts eq start (λ y. eq start y ≡ true) (λ y. ((λ q. q), (λ q. q))) s0 i in
            let here = StandsFor-same eq laws before 0 start s0 begins e in
            let same = k.led.same_estimate start s0 (reach start begins) e in
            let seen = rw c.in-Missed.is at (c.in_ok-numbers.ensures.graph h test least s0 v.0 here (subst (λ (z : ℤ). z ≤ℤ value c.limits.limit) same v.1)) in
            let q = covered_walk eq laws value fits (λ a b d. g.C.Number.between_law a b d exact) (g.met.C.Zero.zero_fits_law exact) h alike test same_test p keys (IsCutOff value fits c.in-Missed.least c.in-Missed.past) s0 (start_stays s0 here) (reach s0 here) seen.1.0 ws u goes good in
            let cut = subst (λ (o : Option g.row.C.Denot). IsCutOff value fits o c.in-Missed.past q.0) c.in_default.is q.3 in
            none_fits eq laws value fits (λ a b d. g.C.Number.between_law a b d exact) (g.met.C.Zero.zero_fits_law exact) h alike test same_test p c.in-Missed.past q.0 u q.1 q.2 cut),
      );
  errors = inr refl;
}

pub returns-in_default : goal.returns-in_default
returns-in_default g c = record {
  best = λ start edges test least b d.
      let eq = g.N.PartialEq.eq in
      let laws = g.met.N.Eq.laws in
      let value = g.C.Number.value in
      let fits = g.C.Number.fits in
      let exact = g.met.C.Integral.exact_law in
      let before = g.M.Numbering.keys c.limits.known.graph.discovery.nodes in
      let keys = g.M.Numbering.keys c.look_through.new.known.graph.discovery.nodes in
      let start_stays = c.in_ok-numbers.ensures.start.first in
      let v = c.limits.invariant.searched start edges test least b d in
      let k = v.0 in
      let begins = c.limits.invariant.begins start b in
      let alike = k.led.explores.alike in
      let same_test = k.led.same_test in
      let h = graph_of start edges in
      let p = no_negative eq laws h alike k.led.costs in
      let reach : (y : g.row.N.Denot) → StandsFor eq before 0 y → InReach eq edges (start ∷ []) y = λ y t. InReach-same eq laws edges (start ∷ []) t.0 y (k.led.explores.reached 0 t.0 t.1) t.2 in
      no_walk eq laws h alike (λ y. eq start y ≡ true) (all_starts eq start (λ y. eq start y ≡ true) (λ y. ((λ e. e), (λ e. e)))) (only_starts eq start (λ y. eq start y ≡ true) (λ y. ((λ e. e), (λ e. e)))) test
      (λ s0 e ws u goes good.
      let here = StandsFor-same eq laws before 0 start s0 begins e in
      let same = k.led.same_estimate start s0 (reach start begins) e in
      let seen = rw c.in-Missed.is at (c.in_ok-numbers.ensures.graph h test least s0 v.0 here (subst (λ (z : ℤ). z ≤ℤ value c.limits.limit) same v.1)) in
      let q = covered_walk eq laws value fits (λ a b d. g.C.Number.between_law a b d exact) (g.met.C.Zero.zero_fits_law exact) h alike test same_test p keys (IsCutOff value fits c.in-Missed.least c.in-Missed.past) s0 (start_stays s0 here) (reach s0 here) seen.1.0 ws u goes good in
      let cut = subst (λ (o : Option g.row.C.Denot). IsCutOff value fits o c.in-Missed.past q.0) c.in_default.is q.3 in
      none_cut eq laws value fits (λ a b d. g.C.Number.between_law a b d exact) (g.met.C.Zero.zero_fits_law exact) h alike test same_test p q.0 (subst (λ (b : Bool). IsCutOff value fits None b q.0) c.if-past.false cut));
  overflow = λ start edges test least b d e. absurd (ok_is_no_error _ _ _ refl e);
  errors = tt;
}

pub returns-in_err-ask : goal.returns-in_err-ask
returns-in_err-ask g c = record {
  best = λ start edges test least b d. if_refused _ c.from_residual.result _ c.from_residual.ensures.1;
  overflow = λ start edges test least b d e. absurd (no_overflow c.from_residual.result _ c.from_residual.ensures.1 c.in_err-ask.ensures.refused e);
  errors = refused_as _ c.from_residual.result _ c.from_residual.ensures.1 (inl c.in_err-ask.ensures.refused);
}

pub returns-in_err-numbers : goal.returns-in_err-numbers
returns-in_err-numbers g c = record {
  best = λ start edges test least b d. if_refused _ c.from_residual-in_err-numbers.result _ c.from_residual-in_err-numbers.ensures.1;
  overflow = λ start edges test least b d e. absurd (no_overflow c.from_residual-in_err-numbers.result _ c.from_residual-in_err-numbers.ensures.1 c.in_err-numbers.ensures.refused e);
  errors = refused_as _ c.from_residual-in_err-numbers.result _ c.from_residual-in_err-numbers.ensures.1 (inl c.in_err-numbers.ensures.refused);
}

pub returns-in_err-nodes-in-Found : goal.returns-in_err-nodes-in-Found
returns-in_err-nodes-in-Found g c = record {
  best = λ start edges test least b d. if_refused _ c.from_residual-in_err-nodes-in-Found.result _ c.from_residual-in_err-nodes-in-Found.ensures.1;
  overflow = λ start edges test least b d e. absurd (no_overflow c.from_residual-in_err-nodes-in-Found.result _ c.from_residual-in_err-nodes-in-Found.ensures.1 c.in_err-nodes-in-Found.ensures.refused e);
  errors = refused_as _ c.from_residual-in_err-nodes-in-Found.result _ c.from_residual-in_err-nodes-in-Found.ensures.1 (inl c.in_err-nodes-in-Found.ensures.refused);
}

pub look_through-requires-clause-whole : goal.look_through-requires-clause-whole
look_through-requires-clause-whole g c = c.limits.invariant.whole

pub look_through-requires-clause-unopened : goal.look_through-requires-clause-unopened
look_through-requires-clause-unopened g c = c.limits.invariant.unopened

pub look_through-requires-clause-graph : goal.look_through-requires-clause-graph
look_through-requires-clause-graph g c =
    let r = c.requires.graph in
    let inv = c.limits.invariant in
    let v = inv.searched r.0 r.1 r.2 r.3 r.4 r.5 in
    (graph_of r.0 r.1, r.2, r.3, r.0, v.0, inv.begins r.0 r.4, v.1)

pub look_through-requires-clause-begun : goal.look_through-requires-clause-begun
look_through-requires-clause-begun g c =
    let r = c.requires.graph in
    StandsFor-inside g.N.PartialEq.eq (g.M.Numbering.keys c.limits.known.graph.discovery.nodes) 0 r.0 (c.limits.invariant.begins r.0 r.4)
