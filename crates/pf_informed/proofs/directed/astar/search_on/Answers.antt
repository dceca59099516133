use Rattle.std.proofs.Common.{◌≡◌, ◌<◌, ◌∙◌, [], ◌∷◌, List, ℕ, false, ap, sym, subst, length, inl, inr}
use Rattle.std.proofs.lemmas.List.{append-nil}
use Rattle.std.proofs.lemmas.Result.{IfErr-weaker}
use Rattle.pf_base.specs.Edges.{IsCheapestOrNone}
use Rattle.pf_core.specs.Nodes.{StandsFor, IsStep}
use Rattle.pf_core.proofs.LabelLemmas.{HasLabel-inside}
use Rattle.pf_core.proofs.SearchLemmas.{Grows-trans}
use Rattle.pf_informed.specs.Internal.Informed.{IsInformed}
use Rattle.pf_informed.specs.Internal.Led.{OthersWait}
use Rattle.pf_informed.specs.Internal.Waiting.{Entry}
use Rattle.pf_informed.proofs.LedAnswers.{led_above, led_best, led_none, led_past}
use Rattle.pf_informed.proofs.LedLemmas.{graph_of, with_test, informed_still, led_grown}
use Rattle.pf_informed.proofs.WiderLemmas.{less_left}
use Rattle.pf_base.proofs.Outcomes.{if_refused, no_overflow, refused_as}
use Rattle.pf_informed.proofs.Outcomes.{if_found, if_none, only_memory}
use Rattle.pf_informed.proofs.directed.astar.search_on.Goals as goal

pub turns-init : goal.turns-init
turns-init g c =
    let b = c.in_ok-begin.ensures in
    record {
      ready = b.ready;
      begins = λ x s. s;
      searched = λ h test least d. let x = b.graph h test least d in (x.0, x.1 test);
    }

pub is_goal-requires-clause-inside : goal.is_goal-requires-clause-inside
is_goal-requires-clause-inside g c =
    let t = c.in-Some.ensures.taken in
    subst (λ (n : ℕ). c.in-Some.taken.number < n) c.turns.invariant.ready.wide (HasLabel-inside _ _ _ t.at)

pub is_goal-requires-clause-graph : goal.is_goal-requires-clause-graph
is_goal-requires-clause-graph g c =
    let r = c.requires.graph in
    let v = c.turns.invariant.searched r.0 r.1 r.2 r.3 in
    let d = v.0 in
    (with_test r.0 r.1, (d.explores, d.tested))

pub path_found-requires-clause-wide : goal.path_found-requires-clause-wide
path_found-requires-clause-wide g c = c.turns.invariant.ready.wide ∙ sym c.is_goal.ensures.same

pub path_found-requires-clause-labelled : goal.path_found-requires-clause-labelled
path_found-requires-clause-labelled g c =
    let t = c.in-Some.ensures.taken in
    (t.label, t.at)

pub returns-then-is_goal : goal.returns-then-is_goal
returns-then-is_goal g c = record {
  best = λ start edges test least s d. if_found _ (IsCheapestOrNone g.N.PartialEq.eq edges (start ∷ []) test g.C.Number.value) c.path_found.result (λ found at.
      let eq = g.N.PartialEq.eq in
      let laws = g.met.N.Eq.laws in
      let exact = g.met.C.Integral.exact_law in
      let inv = c.turns.invariant in
      let h = graph_of start edges in
      let v = inv.searched h test least d in
      let now = v.0 in
      let told = c.is_goal.ensures.graph (with_test h test) (now.explores, now.tested) in
      let after = told.0.0 in
      let t = c.in-Some.ensures.taken in
      let labels = c.turns.search.labels.items in
      let entries = c.turns.search.queue.entries in
      let keys = g.M.Numbering.keys c.turns.graph.discovery.nodes in
      let begins = inv.begins start s in
      let nodes = at.1 in
      let above = led_above laws now inv.ready.asked begins g.C.Number.fits (λ x y z. g.C.Number.between_law x y z exact) (g.met.C.Zero.zero_fits_law exact)
      labels inv.ready.wide entries inv.ready.sound.forest v.1 c.in-Some.taken.number c.in-Some.taken.cost c.take_least.new.queue.entries t c.path_found.ensures.fits in
      led_best laws now inv.ready.asked begins g.C.Number.fits (λ x y z. g.C.Number.between_law x y z exact) (g.met.C.Zero.zero_fits_law exact)
      labels inv.ready.wide entries inv.ready.sound.forest v.1 c.in-Some.taken.number t.label t.at nodes.0 nodes.1 (λ y k. sym (told.1 y k) ∙ c.if-is_goal.true) above
      (g.M.Numbering.keys c.is_goal.new.self.discovery.nodes) c.is_goal.ensures.grows after.distinct found.0.items nodes.2 (g.C.Number.value found.1) (t.same ∙ ap g.C.Number.value (sym at.0))) c.path_found.ensures.found;
  overflow = λ start edges test least s d e. absurd (only_memory c.path_found.result c.path_found.ensures.refused e);
  errors = IfErr-weaker c.path_found.result _ _ (λ e h. inl h) c.path_found.ensures.refused;
}

pub turn-requires-clause-labelled : goal.turn-requires-clause-labelled
turn-requires-clause-labelled g c =
    let t = c.in-Some.ensures.taken in
    (t.label, t.at)

pub turn-requires-clause-ready : goal.turn-requires-clause-ready
turn-requires-clause-ready g c =
    let r = c.turns.invariant.ready in
    let same = sym c.is_goal.ensures.same in
    record {
      sound = record { forest = r.sound.forest; few = r.sound.few; estimated = r.sound.estimated; sums = r.sound.sums; queue = c.in-Some.ensures.queue };
      wide = r.wide ∙ same;
      asked = r.asked ∙ same;
    }

pub turn-requires-clause-graph : goal.turn-requires-clause-graph
turn-requires-clause-graph g c =
    let r = c.requires.graph in
    let inv = c.turns.invariant in
    let v = inv.searched r.0 r.1 r.2 r.3 in
    let now = v.0 in
    let told = c.is_goal.ensures.graph (with_test r.0 r.1) (now.explores, now.tested) in
    (r.0, r.1, r.2, led_grown now g.met.N.Eq.laws inv.ready.asked c.is_goal.new.self c.is_goal.ensures.grows told.0.0 told.0.1)

pub turns-preserved : goal.turns-preserved
turns-preserved g c =
    let eq = g.N.PartialEq.eq in
    let laws = g.met.N.Eq.laws in
    let value = g.C.Number.value in
    let inv = c.turns.invariant in
    let t = c.in-Some.ensures.taken in
    let n = c.in_ok-turn.ensures in
    let goal = c.is_goal.ensures in
    let grown = Grows-trans _ _ _ _ _ _ goal.grows n.grows in
    let labels = c.turns.search.labels.items in
    let estimates = c.turns.search.estimates.items in
    let heap = c.take_least.new.queue.entries in
    let heap_after = c.turn.new.search.queue.entries in
    let keys = g.M.Numbering.keys c.turns.graph.discovery.nodes in
    let between = g.M.Numbering.keys c.is_goal.new.self.discovery.nodes in
    let after = g.M.Numbering.keys c.turn.new.graph.discovery.nodes in
    record {
      ready = n.ready;
      begins = λ x s. grown.stays 0 x (inv.begins x s);
      searched = λ h test least d.
          let v = inv.searched h test least d in
          let now = v.0 in
          let told = goal.graph (with_test h test) (now.explores, now.tested) in
          let led = led_grown now laws inv.ready.asked c.is_goal.new.self goal.grows told.0.0 told.0.1 in
          let turned = n.graph h test least led in
          let still = informed_still value g.C.Number.fits (IsStep eq h) test estimates (length keys) (length between) (StandsFor eq keys) (StandsFor eq between) goal.grows goal.same labels inv.ready.wide c.turns.search.queue.entries v.1 in
          let left = subst (λ (es : List (Entry g.row.C.Denot)). OthersWait value labels estimates c.in-Some.taken.number c.turns.search.queue.entries es) (sym (append-nil heap)) t.left in
          let fails : (x : g.row.N.Denot) → StandsFor eq between c.in-Some.taken.number x → test x ≡ false = λ x k. sym (told.1 x (goal.grows.back c.in-Some.taken.number x (subst (λ (m : ℕ). c.in-Some.taken.number < m) inv.ready.wide (HasLabel-inside labels _ _ t.at)) k)) ∙ c.if-is_goal.false in
          let informed = turned.1 test c.turns.search.queue.entries [] fails left still in (
            turned.0,
            subst (λ (es : List (Entry g.row.C.Denot)). IsInformed value g.C.Number.fits c.turn.new.search.estimates.items (IsStep eq h) test (StandsFor eq after) c.turn.new.search.labels.items es (length after)) (append-nil heap_after) informed,
          );
    }

pub returns : goal.returns
returns g c = record {
  best = λ start edges test least s d.
      let exact = g.met.C.Integral.exact_law in
      let inv = c.turns.invariant in
      let v = inv.searched (graph_of start edges) test least d in
      if_none _ (IsCheapestOrNone g.N.PartialEq.eq edges (start ∷ []) test g.C.Number.value) c.no_path.result (λ all. led_none g.met.N.Eq.laws v.0 inv.ready.asked (inv.begins start s) g.C.Number.fits (λ x y z. g.C.Number.between_law x y z exact) (g.met.C.Zero.zero_fits_law exact)
      c.turns.search.labels.items inv.ready.wide c.turns.search.queue.entries inv.ready.sound.forest v.1 c.in_default.ensures.taken all) c.no_path.ensures.none;
  overflow = λ start edges test least s d refused.
      let exact = g.met.C.Integral.exact_law in
      let inv = c.turns.invariant in
      let v = inv.searched (graph_of start edges) test least d in
      let past = rw refused at c.no_path.ensures.past in
      led_past g.met.N.Eq.laws v.0 inv.ready.asked (inv.begins start s) g.C.Number.fits (λ x y z. g.C.Number.between_law x y z exact) (g.met.C.Zero.zero_fits_law exact)
      c.turns.search.labels.items inv.ready.wide c.turns.search.queue.entries inv.ready.sound.forest v.1 c.in_default.ensures.taken past.1;
  errors = IfErr-weaker c.no_path.result _ _ (λ e h. inr h.0) c.no_path.ensures.past;
}

pub returns-in_err-begin : goal.returns-in_err-begin
returns-in_err-begin g c = record {
  best = λ start edges test least s d. if_refused _ c.from_residual.result _ c.from_residual.ensures.1;
  overflow = λ start edges test least s d e. absurd (no_overflow c.from_residual.result _ c.from_residual.ensures.1 c.in_err-begin.ensures.refused e);
  errors = refused_as _ c.from_residual.result _ c.from_residual.ensures.1 (inl c.in_err-begin.ensures.refused);
}

pub returns-in_err-turn : goal.returns-in_err-turn
returns-in_err-turn g c = record {
  best = λ start edges test least s d. if_refused _ c.from_residual-in_err-turn.result _ c.from_residual-in_err-turn.ensures.1;
  overflow = λ start edges test least s d e. absurd (no_overflow c.from_residual-in_err-turn.result _ c.from_residual-in_err-turn.ensures.1 c.in_err-turn.ensures.refused e);
  errors = refused_as _ c.from_residual-in_err-turn.result _ c.from_residual-in_err-turn.ensures.1 (inl c.in_err-turn.ensures.refused);
}

pub path_found-requires-clause-clones : goal.path_found-requires-clause-clones
path_found-requires-clause-clones g c = c.requires.clones

pub path_found-requires-clause-forest : goal.path_found-requires-clause-forest
path_found-requires-clause-forest g c = c.turns.invariant.ready.sound.forest

pub begin-requires-clause-one : goal.begin-requires-clause-one
begin-requires-clause-one g c = c.requires.one

pub begin-requires-clause-new : goal.begin-requires-clause-new
begin-requires-clause-new g c = c.requires.new

pub begin-requires-clause-graph : goal.begin-requires-clause-graph
begin-requires-clause-graph g c = c.requires.graph

pub take_least-requires : goal.take_least-requires
take_least-requires g c = record { queue = c.turns.invariant.ready.sound.queue; sums = c.turns.invariant.ready.sound.sums }

pub turns-smaller : goal.turns-smaller
turns-smaller g c = less_left _ _ _ _ _ c.in_ok-turn.ensures.less c.in-Some.ensures.fewer
