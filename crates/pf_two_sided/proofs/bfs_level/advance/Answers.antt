use Rattle.std.proofs.Common.{ℕ, ◌<◌, ◌≤◌, ◌≡◌, ◌∙◌, arith, length, inl, inr, refl, subst}
use Rattle.std.proofs.lemmas.Result.{IfOk-from_err}
use Rattle.pf_base.specs.declared.error.PathError.TheVariants.{OutOfMemory}
use Rattle.pf_core.proofs.SearchLemmas.{Grows-trans}
use Rattle.pf_core.proofs.HopLemmas.{le_or_less}
use Rattle.pf_base.proofs.Outcomes.{on_refused, refused_as}
use Rattle.pf_core.proofs.WaveLemmas.{visits_fewer}
use Rattle.pf_two_sided.proofs.bfs_level.advance.Goals as goal

pub level-init : goal.level-init
level-init g c =
    let w = c.requires.wave in
    record {
      size = omega (arith, c.len-level.ensures);
      within = omega (arith, c.len-level.ensures);
      up_to = omega (arith, c.len-level.ensures, w.breadth.inside);
      explored = λ h x. x;
      grown = record { more = omega arith; stays = λ k x h. h; back = λ k x i h. h };
      other = (refl, λ k x. (λ t. t, λ t. t));
      wave = w;
      search = λ h x hop root s. s;
      layered = λ depth y. y;
      apart = λ none. none;
    }

pub visit-requires-clause-graph : goal.visit-requires-clause-graph
visit-requires-clause-graph g c = let r = c.requires.graph in (r.0, c.level.invariant.explored r.0 r.1)

pub visit-requires-clause-wave : goal.visit-requires-clause-wave
visit-requires-clause-wave g c = c.level.invariant.wave

pub visit-requires-clause-left : goal.visit-requires-clause-left
visit-requires-clause-left g c = omega (arith, c.level-test.true, c.level.invariant.within)

pub returns-in_err-visit : goal.returns-in_err-visit
returns-in_err-visit g c = record {
  graph = λ h x. c.in_err-visit.ensures.graph h (c.level.invariant.explored h x);
  grows = Grows-trans _ _ _ _ _ _ c.level.invariant.grown c.in_err-visit.ensures.grows;
  other = (c.in_err-visit.ensures.other.0 ∙ c.level.invariant.other.0, λ k x. (λ t. (c.level.invariant.other.1 k x).0 ((c.in_err-visit.ensures.other.1 k x).0 t), λ t. (c.in_err-visit.ensures.other.1 k x).1 ((c.level.invariant.other.1 k x).1 t)));
  wave = on_refused _ c.from_residual.result c.in_err-visit.field-0.0 c.from_residual.ensures.1;
  search = on_refused _ c.from_residual.result c.in_err-visit.field-0.0 c.from_residual.ensures.1;
  level = IfOk-from_err c.from_residual.result _ c.from_residual.ensures.0;
  layered = on_refused _ c.from_residual.result c.in_err-visit.field-0.0 c.from_residual.ensures.1;
  errors = refused_as (λ e. e ≡ OutOfMemory) c.from_residual.result c.in_err-visit.field-0.0 c.from_residual.ensures.1 c.in_err-visit.ensures.errors;
}

pub returns-in-Some : goal.returns-in-Some
returns-in-Some g c = record {
  graph = λ h x. c.in_ok-visit.ensures.graph h (c.level.invariant.explored h x);
  grows = Grows-trans _ _ _ _ _ _ c.level.invariant.grown c.in_ok-visit.ensures.grows;
  other = (c.in_ok-visit.ensures.other.0 ∙ c.level.invariant.other.0, λ k x. (λ t. (c.level.invariant.other.1 k x).0 ((c.in_ok-visit.ensures.other.1 k x).0 t), λ t. (c.in_ok-visit.ensures.other.1 k x).1 ((c.level.invariant.other.1 k x).1 t)));
  wave = c.in_ok-visit.ensures.wave;
  search = λ h x hop root s. c.in_ok-visit.ensures.search h (c.level.invariant.explored h x) hop root (c.level.invariant.search h x hop root s);
  level =
      let v = c.level.invariant in
      let e = c.in_ok-visit.ensures in
      let met = rw c.in-Some.is at c.first_meeting.ensures.met in
      (met.0, subst (λ (n : ℕ). c.in-Some.meeting.across < n) (e.other.0 ∙ v.other.0) met.1, λ x t. (v.other.1 c.in-Some.meeting.across x).0 ((e.other.1 c.in-Some.meeting.across x).0 (met.2 x t)));
  layered = λ depth y.
      let v = c.level.invariant in
      c.in_ok-visit.ensures.layered (length c.args.wave.now.labels.items) depth (omega (arith, c.level-test.true, v.size)) (omega (arith, v.within, v.size)) (v.layered depth y);
  errors = tt;
}

pub level-smaller : goal.level-smaller
level-smaller g c = visits_fewer c.len-level.result c.level.wave.next c.visit.new.wave.next c.level-test.true c.in_ok-visit.ensures.next

pub level-preserved : goal.level-preserved
level-preserved g c =
    let v = c.level.invariant in
    let e = c.in_ok-visit.ensures in
    let none = rw c.in_default.is at c.first_meeting.ensures.met in
    let more : length c.level.wave.labels.items ≤ length c.visit.new.wave.labels.items = omega (arith, v.wave.len, e.wave.len, e.grows.more) in
    record {
      size = v.size;
      within = omega (arith, v.within, more);
      up_to = omega (arith, e.next, c.level-test.true);
      explored = λ h x. e.graph h (v.explored h x);
      grown = Grows-trans _ _ _ _ _ _ v.grown e.grows;
      other = (e.other.0 ∙ v.other.0, λ k x. (λ t. (v.other.1 k x).0 ((e.other.1 k x).0 t), λ t. (e.other.1 k x).1 ((v.other.1 k x).1 t)));
      wave = e.wave;
      search = λ h x hop root s. e.search h (v.explored h x) hop root (v.search h x hop root s);
      layered = λ depth y. e.layered (length c.args.wave.now.labels.items) depth (omega (arith, c.level-test.true, v.size)) (omega (arith, v.within, v.size)) (v.layered depth y);
      apart = λ apart j k x here there. elim (le_or_less c.len-first.result j) as (λ _. ⊥) [
        | inl new ↦ none j k x new here there
        | inr old ↦ v.apart apart j k x (e.grows.back j x (omega (arith, old, c.len-first.ensures, v.wave.len)) here) ((e.other.1 k x).0 there)
      ];
    }

pub returns : goal.returns
returns g c = record {
  graph = c.level.invariant.explored;
  grows = c.level.invariant.grown;
  other = c.level.invariant.other;
  wave = c.level.invariant.wave;
  search = c.level.invariant.search;
  level = (omega (arith, c.level-test.false, c.level.invariant.up_to, c.level.invariant.size), c.level.invariant.apart);
  layered = c.level.invariant.layered;
  errors = tt;
}
