use Rattle.std.proofs.Common.{◌≡◌, ◌<◌, ◌∙◌, [], ◌∷◌, List, ℕ, ℤ, false, ap, sym, subst, length, slice_get, Some, inl, inr}
use Rattle.std.specs.Prelude.{◌++◌, ◌≤ℤ◌}
use Rattle.std.proofs.lemmas.List.{append-nil}
use Rattle.std.proofs.lemmas.Result.{IfErr-weaker}
use Rattle.pf_base.specs.Edges.{IsCheapestOrNone}
use Rattle.std.proofs.lemmas.List.Elements.{Contains-append_left}
use Rattle.std.proofs.lemmas.Option.{MatchOption-at_some, MatchOption-at_none}
use Rattle.pf_core.specs.Nodes.{StandsFor, IsStep}
use Rattle.pf_core.proofs.LabelLemmas.{HasLabel-inside}
use Rattle.pf_base.proofs.ListLemmas.{at_place}
use Rattle.pf_core.proofs.NodeLemmas.{StandsFor-same}
use Rattle.pf_core.proofs.SearchLemmas.{Grows-trans}
use Rattle.pf_informed.specs.Internal.Fringe.{listed}
use Rattle.pf_informed.specs.Internal.Informed.{IsInformed}
use Rattle.pf_informed.specs.Internal.Waiting.{Entry, IsQueue}
use Rattle.pf_informed.proofs.FringeLemmas.{queue_in}
use Rattle.pf_informed.proofs.LedAnswers.{led_within, led_estimate, led_limit, led_in_limit, led_best, led_none, led_past}
use Rattle.pf_informed.proofs.LedLemmas.{graph_of, with_test, informed_still, led_grown}
use Rattle.pf_informed.proofs.WiderLemmas.{less_left_too}
use Rattle.pf_informed.proofs.NodeWalks.{never_above}
use Rattle.pf_base.proofs.Outcomes.{if_refused, no_overflow, refused_as}
use Rattle.pf_informed.proofs.Outcomes.{if_found, if_none, only_memory}
use Rattle.pf_informed.proofs.Bounds.{some_one}
use Rattle.pf_informed.proofs.directed.fringe.search_on.Goals as goal

pub turns-init : goal.turns-init
turns-init g c =
    let eq = g.N.PartialEq.eq in
    let laws = g.met.N.Eq.laws in
    let value = g.C.Number.value in
    let b = c.in_ok-begin.ensures in
    let keys = g.M.Numbering.keys c.args.graph.now.discovery.nodes in
    let labels = c.begin.new.search.labels.items in
    let kept = c.begin.new.search.estimates.items in
    let heap = c.begin.new.search.queue.entries in
    let entries = heap ++ listed c.args.lists.now in
    let alone : heap ≡ entries = sym (ap (λ (es : List (Entry g.row.C.Denot)). heap ++ es) c.requires.unlisted ∙ append-nil heap) in
    let asked = b.ready.asked in
    let estimate : slice_get kept 0 ≡ Some c.index.result.now = at_place kept 0 c.index.result.now c.index.result.now (some_one _ (asked ∙ c.requires.one)) (sym c.index.ensures) in
    record {
      ready = b.ready;
      queue = subst (λ (es : List (Entry g.row.C.Denot)). IsQueue value labels kept es) alone b.ready.sound.queue;
      begins = λ x s. s;
      searched = λ h test least d.
          let x = b.graph h test least d in
          (x.0, subst (λ (es : List (Entry g.row.C.Denot)). IsInformed value g.C.Number.fits kept (IsStep eq h) test (StandsFor eq keys) labels es (length keys)) alone (x.1 test));
      below = λ start edges test least s d s0 e u z goes good.
          let h = graph_of start edges in
          let now = (b.graph h test least d).0 in
          let st = StandsFor-same eq laws keys 0 start s0 s e in
          let within = led_within laws now asked s in
          let low = never_above eq laws h now.explores.alike test least now.admissible s0 (within 0 s0 st) u z goes good in
          let is = led_estimate laws now asked s 0 s0 c.index.result.now st estimate in
          subst (λ (v : ℤ). v ≤ℤ z) (sym is) low;
    }

pub is_goal-requires-clause-inside : goal.is_goal-requires-clause-inside
is_goal-requires-clause-inside g c =
    let t = MatchOption-at_some _ _ c.in-Some.taken c.in-Some.is c.in_ok-taken.ensures.taken in
    subst (λ (n : ℕ). c.in-Some.taken.number < n) c.turns.invariant.ready.wide (HasLabel-inside _ _ _ t.at)

pub is_goal-requires-clause-graph : goal.is_goal-requires-clause-graph
is_goal-requires-clause-graph g c =
    let r = c.requires.graph in
    let v = c.turns.invariant.searched r.0 r.1 r.2 r.3 in
    let d = v.0 in
    (with_test r.0 r.1, (d.explores, d.tested))

pub path_found-requires-clause-wide : goal.path_found-requires-clause-wide
path_found-requires-clause-wide g c = c.turns.invariant.ready.wide ∙ sym c.is_goal.ensures.same

pub path_found-requires-clause-labelled : goal.path_found-requires-clause-labelled
path_found-requires-clause-labelled g c =
    let t = MatchOption-at_some _ _ c.in-Some.taken c.in-Some.is c.in_ok-taken.ensures.taken in
    (t.label, t.at)

pub returns-then-is_goal : goal.returns-then-is_goal
returns-then-is_goal g c = record {
  best = λ start edges test least s d. if_found _ (IsCheapestOrNone g.N.PartialEq.eq edges (start ∷ []) test g.C.Number.value) c.path_found.result (λ found at.
      let eq = g.N.PartialEq.eq in
      let laws = g.met.N.Eq.laws in
      let value = g.C.Number.value in
      let fits = g.C.Number.fits in
      let exact = g.met.C.Integral.exact_law in
      let inv = c.turns.invariant in
      let h = graph_of start edges in
      let v = inv.searched h test least d in
      let now = v.0 in
      let told = c.is_goal.ensures.graph (with_test h test) (now.explores, now.tested) in
      let after = told.0.0 in
      let t = MatchOption-at_some _ _ c.in-Some.taken c.in-Some.is c.in_ok-taken.ensures.taken in
      let number = c.in-Some.taken.number in
      let labels = c.turns.search.labels.items in
      let estimates = c.turns.search.estimates.items in
      let entries = c.turns.search.queue.entries ++ listed c.turns.lists in
      let keys = g.M.Numbering.keys c.turns.graph.discovery.nodes in
      let begins = inv.begins start s in
      let nodes = at.1 in
      let between = λ (x y z : ℤ). g.C.Number.between_law x y z exact in
      let nothing = g.met.C.Zero.zero_fits_law exact in
      let low = led_limit laws now inv.ready.asked begins fits between nothing labels inv.ready.wide entries inv.ready.sound.forest v.1 c.turns.lists.limit c.take.new.self.limit c.in_ok-taken.ensures.limit (inv.below start edges test least s d) in
      let above = led_in_limit laws now inv.ready.asked begins fits between nothing labels inv.ready.wide entries inv.ready.sound.forest v.1 number c.in-Some.taken.cost c.take.new.self.limit (c.take.new.queue.entries ++ listed c.take.new.self) t low in
      led_best laws now inv.ready.asked begins fits between nothing
      labels inv.ready.wide entries inv.ready.sound.forest v.1 number t.label t.at nodes.0 nodes.1 (λ y k. sym (told.1 y k) ∙ c.if-is_goal.true) above
      (g.M.Numbering.keys c.is_goal.new.self.discovery.nodes) c.is_goal.ensures.grows after.distinct found.0.items nodes.2 (value found.1) (t.same ∙ ap value (sym at.0))) c.path_found.ensures.found;
  overflow = λ start edges test least s d e. absurd (only_memory c.path_found.result c.path_found.ensures.refused e);
  errors = IfErr-weaker c.path_found.result _ _ (λ e h. inl h) c.path_found.ensures.refused;
}

pub turn-requires-clause-labelled : goal.turn-requires-clause-labelled
turn-requires-clause-labelled g c =
    let t = MatchOption-at_some _ _ c.in-Some.taken c.in-Some.is c.in_ok-taken.ensures.taken in
    (t.label, t.at)

pub turn-requires-clause-ready : goal.turn-requires-clause-ready
turn-requires-clause-ready g c =
    let r = c.turns.invariant.ready in
    let same = sym c.is_goal.ensures.same in
    let heap = c.take.new.queue.entries in
    let waiting = queue_in g.C.Number.value c.turns.search.labels.items c.turns.search.estimates.items (heap ++ listed c.take.new.self) heap c.in_ok-taken.ensures.queue (λ e h. Contains-append_left heap (listed c.take.new.self) e h) in
    record {
      sound = record { forest = r.sound.forest; few = r.sound.few; estimated = r.sound.estimated; sums = r.sound.sums; queue = waiting };
      wide = r.wide ∙ same;
      asked = r.asked ∙ same;
    }

pub turn-requires-clause-graph : goal.turn-requires-clause-graph
turn-requires-clause-graph g c =
    let r = c.requires.graph in
    let inv = c.turns.invariant in
    let v = inv.searched r.0 r.1 r.2 r.3 in
    let now = v.0 in
    let told = c.is_goal.ensures.graph (with_test r.0 r.1) (now.explores, now.tested) in
    (r.0, r.1, r.2, led_grown now g.met.N.Eq.laws inv.ready.asked c.is_goal.new.self c.is_goal.ensures.grows told.0.0 told.0.1)

pub turns-preserved : goal.turns-preserved
turns-preserved g c =
    let eq = g.N.PartialEq.eq in
    let laws = g.met.N.Eq.laws in
    let value = g.C.Number.value in
    let fits = g.C.Number.fits in
    let exact = g.met.C.Integral.exact_law in
    let inv = c.turns.invariant in
    let t = MatchOption-at_some _ _ c.in-Some.taken c.in-Some.is c.in_ok-taken.ensures.taken in
    let n = c.in_ok-turn.ensures in
    let goal = c.is_goal.ensures in
    let number = c.in-Some.taken.number in
    let grown = Grows-trans _ _ _ _ _ _ goal.grows n.grows in
    let labels = c.turns.search.labels.items in
    let estimates = c.turns.search.estimates.items in
    let entries = c.turns.search.queue.entries ++ listed c.turns.lists in
    let rest = listed c.take.new.self in
    let keys = g.M.Numbering.keys c.turns.graph.discovery.nodes in
    let between = g.M.Numbering.keys c.is_goal.new.self.discovery.nodes in
    let inside : number < length keys = subst (λ (m : ℕ). number < m) inv.ready.wide (HasLabel-inside labels number t.label t.at) in
    record {
      ready = n.ready;
      queue = n.queue rest c.in_ok-taken.ensures.queue;
      begins = λ x s. grown.stays 0 x (inv.begins x s);
      searched = λ h test least d.
          let v = inv.searched h test least d in
          let now = v.0 in
          let told = goal.graph (with_test h test) (now.explores, now.tested) in
          let led = led_grown now laws inv.ready.asked c.is_goal.new.self goal.grows told.0.0 told.0.1 in
          let turned = n.graph h test least led in
          let still = informed_still value fits (IsStep eq h) test estimates (length keys) (length between) (StandsFor eq keys) (StandsFor eq between) goal.grows goal.same labels inv.ready.wide entries v.1 in
          let fails : (x : g.row.N.Denot) → StandsFor eq between number x → test x ≡ false = λ x k. sym (told.1 x (goal.grows.back number x inside k)) ∙ c.if-is_goal.false in
          (turned.0, turned.1 test entries rest fails t.left still);
      below = λ start edges test least s d.
          let h = graph_of start edges in
          let v = inv.searched h test least d in
          let now = v.0 in
          let begins = inv.begins start s in
          led_limit laws now inv.ready.asked begins fits (λ x y z. g.C.Number.between_law x y z exact) (g.met.C.Zero.zero_fits_law exact)
          labels inv.ready.wide entries inv.ready.sound.forest v.1 c.turns.lists.limit c.take.new.self.limit c.in_ok-taken.ensures.limit (inv.below start edges test least s d);
    }

pub returns : goal.returns
returns g c = record {
  best = λ start edges test least s d.
      let exact = g.met.C.Integral.exact_law in
      let inv = c.turns.invariant in
      let v = inv.searched (graph_of start edges) test least d in
      if_none _ (IsCheapestOrNone g.N.PartialEq.eq edges (start ∷ []) test g.C.Number.value) c.no_path.result (λ all. led_none g.met.N.Eq.laws v.0 inv.ready.asked (inv.begins start s) g.C.Number.fits (λ x y z. g.C.Number.between_law x y z exact) (g.met.C.Zero.zero_fits_law exact)
      c.turns.search.labels.items inv.ready.wide (c.turns.search.queue.entries ++ listed c.turns.lists) inv.ready.sound.forest v.1 (MatchOption-at_none _ _ c.in_default.is c.in_ok-taken.ensures.taken) all) c.no_path.ensures.none;
  overflow = λ start edges test least s d refused.
      let exact = g.met.C.Integral.exact_law in
      let inv = c.turns.invariant in
      let v = inv.searched (graph_of start edges) test least d in
      let past = rw refused at c.no_path.ensures.past in
      led_past g.met.N.Eq.laws v.0 inv.ready.asked (inv.begins start s) g.C.Number.fits (λ x y z. g.C.Number.between_law x y z exact) (g.met.C.Zero.zero_fits_law exact)
      c.turns.search.labels.items inv.ready.wide (c.turns.search.queue.entries ++ listed c.turns.lists) inv.ready.sound.forest v.1 (MatchOption-at_none _ _ c.in_default.is c.in_ok-taken.ensures.taken) past.1;
  errors = IfErr-weaker c.no_path.result _ _ (λ e h. inr h.0) c.no_path.ensures.past;
}

pub returns-in_err-begin : goal.returns-in_err-begin
returns-in_err-begin g c = record {
  best = λ start edges test least s d. if_refused _ c.from_residual.result _ c.from_residual.ensures.1;
  overflow = λ start edges test least s d e. absurd (no_overflow c.from_residual.result _ c.from_residual.ensures.1 c.in_err-begin.ensures.refused e);
  errors = refused_as _ c.from_residual.result _ c.from_residual.ensures.1 (inl c.in_err-begin.ensures.refused);
}

pub returns-in_err-taken : goal.returns-in_err-taken
returns-in_err-taken g c = record {
  best = λ start edges test least s d. if_refused _ c.from_residual-in_err-taken.result _ c.from_residual-in_err-taken.ensures.1;
  overflow = λ start edges test least s d e. absurd (no_overflow c.from_residual-in_err-taken.result _ c.from_residual-in_err-taken.ensures.1 c.in_err-taken.ensures.refused e);
  errors = refused_as _ c.from_residual-in_err-taken.result _ c.from_residual-in_err-taken.ensures.1 (inl c.in_err-taken.ensures.refused);
}

pub returns-in_err-turn : goal.returns-in_err-turn
returns-in_err-turn g c = record {
  best = λ start edges test least s d. if_refused _ c.from_residual-in_err-turn.result _ c.from_residual-in_err-turn.ensures.1;
  overflow = λ start edges test least s d e. absurd (no_overflow c.from_residual-in_err-turn.result _ c.from_residual-in_err-turn.ensures.1 c.in_err-turn.ensures.refused e);
  errors = refused_as _ c.from_residual-in_err-turn.result _ c.from_residual-in_err-turn.ensures.1 (inl c.in_err-turn.ensures.refused);
}

pub take-requires : goal.take-requires
take-requires g c = record { queue = c.turns.invariant.queue; sums = c.turns.invariant.ready.sound.sums }

pub path_found-requires-clause-clones : goal.path_found-requires-clause-clones
path_found-requires-clause-clones g c = c.requires.clones

pub path_found-requires-clause-forest : goal.path_found-requires-clause-forest
path_found-requires-clause-forest g c = c.turns.invariant.ready.sound.forest

pub begin-requires-clause-one : goal.begin-requires-clause-one
begin-requires-clause-one g c = c.requires.one

pub begin-requires-clause-new : goal.begin-requires-clause-new
begin-requires-clause-new g c = c.requires.new

pub begin-requires-clause-graph : goal.begin-requires-clause-graph
begin-requires-clause-graph g c = c.requires.graph

pub turns-smaller : goal.turns-smaller
turns-smaller g c = less_left_too _ _ _ _ _ _ c.in_ok-turn.ensures.less (MatchOption-at_some _ _ c.in-Some.taken c.in-Some.is c.in_ok-taken.ensures.fewer)

pub index-requires : goal.index-requires
index-requires g c = some_one _ (c.begin.new.search.estimates.ok.0 ∙ c.in_ok-begin.ensures.ready.asked ∙ c.requires.one)
