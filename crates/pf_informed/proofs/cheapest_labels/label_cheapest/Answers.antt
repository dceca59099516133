use Rattle.std.proofs.Common.{◌≡◌, ◌<◌, ◌∙◌, ◌++◌, [], ◌∷◌, List, ℕ, ℤ, Bool, Some, false, sym, subst, refl, length, inl, inr}
use Rattle.std.specs.Prelude.{All, Err, IfErr, IsSome, Option, Result}
use Rattle.std.specs.Cmp.{IsEquivalence}
use Rattle.std.proofs.lemmas.List.{append-nil}
use Rattle.std.proofs.lemmas.Result.{IfErr-weaker}
use Rattle.pf_base.specs.declared.error.PathError.{PathError}
use Rattle.pf_base.specs.declared.error.PathError.TheVariants.{CostOverflow}
use Rattle.pf_base.specs.Edges.{InReach, IsCheapestGoalPath}
use Rattle.pf_core.specs.declared.labels.Label.{Label}
use Rattle.pf_core.specs.Labels.{HasLabel, Labels}
use Rattle.pf_core.specs.Nodes.{Explores, NodeGraph, StandsFor, IsStep}
use Rattle.pf_core.proofs.LabelLemmas.{HasLabel-inside}
use Rattle.pf_core.proofs.WalkLemmas.{no_negative}
use Rattle.pf_discovery.specs.declared.tested.TestedBy.{TestedBy}
use Rattle.pf_informed.specs.Internal.Informed.{IsInformed}
use Rattle.pf_informed.specs.Internal.Labelled.{IsPastBest}
use Rattle.pf_informed.specs.Internal.Led.{FindsMore, IsLed, OthersWait}
use Rattle.pf_informed.specs.Internal.Waiting.{Entry, IsWaiting}
use Rattle.pf_informed.proofs.LabelledLemmas.{by_cases, goal_path, no_best, exact_label, low_of}
use Rattle.pf_informed.proofs.LedAnswers.{led_within, led_estimate, led_asked, led_none, led_past}
use Rattle.pf_informed.proofs.LedLemmas.{graph_of, with_test, informed_still, led_grown}
use Rattle.pf_informed.proofs.WiderLemmas.{less_left}
use Rattle.pf_base.proofs.Outcomes.{if_refused, no_overflow, ok_is_no_error, refused_as}
use Rattle.pf_informed.proofs.Outcomes.{if_none}
use Rattle.pf_informed.proofs.cheapest_labels.label_cheapest.Goals as goal

-- what is said of the best that there is
past_best : {C : Type 0} (value : C → ℤ) (labels : Labels C) (estimates : List C) (entries : List (Entry C)) (o : Option C) (best : C) → o ≡ Some best
    → ((k : ℕ) (l : Label C) → HasLabel labels k l → IsWaiting value estimates entries k l → IsPastBest value estimates o k l) → (k : ℕ) (l : Label C) → HasLabel labels k l → IsWaiting value estimates entries k l → IsPastBest value estimates (Some best) k l
past_best {C} value labels estimates entries o best is h = subst (λ (q : Option C). (k : ℕ) (l : Label C) → HasLabel labels k l → IsWaiting value estimates entries k l → IsPastBest value estimates q k l) {x = o} {y = Some best} is h

-- some node has no label, where that is why a path is refused
some_past : {X : Type 0} (A : Type 0) (r : Result X PathError) (e : PathError) → r ≡ Err e → IfErr r (λ f. (f ≡ CostOverflow) × ¬ A) → ¬ A
some_past {X} A r e is h = (subst (λ (q : Result X PathError). IfErr q (λ f. (f ≡ CostOverflow) × ¬ A)) {x = r} {y = Err e} is h).1

-- the path at the same cost
path_at : {N C : Type 0} (eq : N → N → Bool) (edges : N → List (N × ℤ)) (start : N) (test : N → Bool) (value : C → ℤ) (cost best : C) → best ≡ cost
    → ((path : List N) × IsCheapestGoalPath eq edges (start ∷ []) test path (value cost)) → (path : List N) × IsCheapestGoalPath eq edges (start ∷ []) test path (value best)
path_at {N} {C} eq edges start test value cost best e p = subst (λ (q : C). (path : List N) × IsCheapestGoalPath eq edges (start ∷ []) test path (value q)) {x = cost} {y = best} (sym e) p

fits_at : {C : Type 0} (value : C → ℤ) (fits : ℤ → Type 0) (cost best : C) → best ≡ cost → fits (value best) → fits (value cost)
fits_at {C} value fits cost best e f = subst (λ (q : C). fits (value q)) {x = best} {y = cost} e f

-- what is known of a graph and a search after a turn
module _ {M N C S T H : Type 0} {keys_of : M → List N} {eq : N → N → Bool} {value : C → ℤ} {edge_answers : S → List N → (N → List (N × ℤ)) → Type 0} {test_answers : T → (N → Type 0) → (N → Bool) → Type 0} {estimate_answers : H → (N → Type 0) → (N → ℤ) → Type 0} where
  led_turned : IsEquivalence eq → (fits : ℤ → Type 0) (h : NodeGraph N) (test : N → Bool) (least : N → ℤ) (graph between after : TestedBy M S T) (estimate estimate' : H) (kept kept' : List C) (labels labels' : Labels C) (entries heap heap' : List (Entry C)) (number : ℕ)
      → IsLed keys_of eq value edge_answers test_answers estimate_answers h test least graph estimate kept
      → length kept ≡ length (keys_of graph.discovery.nodes) → length labels ≡ length (keys_of graph.discovery.nodes) → FindsMore keys_of eq graph between → length (keys_of between.discovery.nodes) ≡ length (keys_of graph.discovery.nodes)
      → Explores eq edge_answers h (keys_of between.discovery.nodes) between.discovery.source × test_answers between.success (InReach eq h.edges h.starts) test
      → (IsLed keys_of eq value edge_answers test_answers estimate_answers h test least between estimate kept → IsLed keys_of eq value edge_answers test_answers estimate_answers h test least after estimate' kept'
      × ((passes : N → Bool) (before rest : List (Entry C)) → ((x : N) → StandsFor eq (keys_of between.discovery.nodes) number x → passes x ≡ false) → OthersWait value labels kept number before (heap ++ rest)
      → IsInformed value fits kept (IsStep eq h) passes (StandsFor eq (keys_of between.discovery.nodes)) labels before (length (keys_of between.discovery.nodes))
      → IsInformed value fits kept' (IsStep eq h) passes (StandsFor eq (keys_of after.discovery.nodes)) labels' (heap' ++ rest) (length (keys_of after.discovery.nodes))))
      → OthersWait value labels kept number entries heap
      → IsLed keys_of eq value edge_answers test_answers estimate_answers h test least after estimate' kept'
      × ((passes : N → Bool) → ((x : N) → StandsFor eq (keys_of between.discovery.nodes) number x → passes x ≡ false)
      → IsInformed value fits kept (IsStep eq h) passes (StandsFor eq (keys_of graph.discovery.nodes)) labels entries (length (keys_of graph.discovery.nodes))
      → IsInformed value fits kept' (IsStep eq h) passes (StandsFor eq (keys_of after.discovery.nodes)) labels' heap' (length (keys_of after.discovery.nodes)))
  led_turned laws fits h test least graph between after estimate estimate' kept kept' labels labels' entries heap heap' number d asked wide grows same told turn left =
      let turned = turn (led_grown d laws asked between grows told.0 told.1) in (
        turned.0,
        λ passes fails i.
            let still = informed_still value fits (IsStep eq h) passes kept (length (keys_of graph.discovery.nodes)) (length (keys_of between.discovery.nodes)) (StandsFor eq (keys_of graph.discovery.nodes)) (StandsFor eq (keys_of between.discovery.nodes)) grows same labels wide entries i in
            subst (λ (es : List (Entry C)). IsInformed value fits kept' (IsStep eq h) passes (StandsFor eq (keys_of after.discovery.nodes)) labels' es (length (keys_of after.discovery.nodes))) {x = heap' ++ []} {y = heap'} (append-nil heap')
            (turned.1 passes entries [] fails (subst (λ (es : List (Entry C)). OthersWait value labels kept number entries es) {x = heap} {y = heap ++ []} (sym (append-nil heap)) left) still),
      )

pub turns-init : goal.turns-init
turns-init g c =
    let b = c.in_ok-begin.ensures in
    record {
      ready = b.ready;
      begins = λ x s. s;
      searched = λ h test least d. let x = b.graph h test least d in (x.0, x.1 (λ _. false));
      unknown = λ none h test least d. (b.graph h test least d).1 test;
      least = λ k is. absurd (no_best k is);
    }

pub best_with-best-requires-clause-inside : goal.best_with-best-requires-clause-inside
best_with-best-requires-clause-inside g c =
    let t = c.in-Some.ensures.taken in
    subst (λ (n : ℕ). c.in-Some.taken.number < n) c.turns.invariant.ready.wide (HasLabel-inside _ _ _ t.at)

pub best_with-best-requires-clause-graph : goal.best_with-best-requires-clause-graph
best_with-best-requires-clause-graph g c =
    let r = c.requires.graph in
    let v = c.turns.invariant.searched r.0 r.1 r.2 r.3 in
    let d = v.0 in
    (with_test r.0 r.1, (d.explores, d.tested))

pub turn-requires-clause-labelled : goal.turn-requires-clause-labelled
turn-requires-clause-labelled g c =
    let t = c.in-Some.ensures.taken in
    (t.label, t.at)

pub turn-requires-clause-ready : goal.turn-requires-clause-ready
turn-requires-clause-ready g c =
    let r = c.turns.invariant.ready in
    let same = sym c.best_with-best.ensures.same in
    record {
      sound = record { forest = r.sound.forest; few = r.sound.few; estimated = r.sound.estimated; sums = r.sound.sums; queue = c.in-Some.ensures.queue };
      wide = r.wide ∙ same;
      asked = r.asked ∙ same;
    }

pub turn-requires-clause-graph : goal.turn-requires-clause-graph
turn-requires-clause-graph g c =
    let r = c.requires.graph in
    let inv = c.turns.invariant in
    let v = inv.searched r.0 r.1 r.2 r.3 in
    let now = v.0 in
    let told = c.best_with-best.ensures.graph (with_test r.0 r.1) (now.explores, now.tested) in
    (r.0, r.1, r.2, led_grown now g.met.N.Eq.laws inv.ready.asked c.best_with-best.new.graph c.best_with-best.ensures.grows told.0 told.1)

pub turns-preserved : goal.turns-preserved
turns-preserved g c =
    let inv = c.turns.invariant in
    let t = c.in-Some.ensures.taken in
    let n = c.in_ok-turn.ensures in
    let look = c.best_with-best.ensures in
    let number = c.in-Some.taken.number in
    let labels = c.turns.search.labels.items in
    let estimates = c.turns.search.estimates.items in
    let entries = c.turns.search.queue.entries in
    let heap = c.take_within.new.queue.entries in
    let inside : number < length (g.M.Numbering.keys c.turns.graph.discovery.nodes) = subst (λ (m : ℕ). number < m) inv.ready.wide (HasLabel-inside labels number t.label t.at) in
    record {
      ready = n.ready;
      begins = λ x s. n.grows.stays 0 x (look.grows.stays 0 x (inv.begins x s));
      searched = λ h test least d.
          let v = inv.searched h test least d in
          let turned = led_turned g.met.N.Eq.laws g.C.Number.fits h test least c.turns.graph c.best_with-best.new.graph c.turn.new.graph c.turns.estimate c.turn.new.estimate estimates c.turn.new.search.estimates.items labels c.turn.new.search.labels.items entries heap c.turn.new.search.queue.entries number
          v.0 inv.ready.asked inv.ready.wide look.grows look.same (look.graph (with_test h test) (v.0.explores, v.0.tested)) (n.graph h test least) t.left in
          (turned.0, turned.1 (λ _. false) (λ x k. refl) v.1);
      unknown = λ none h test least d.
          let v = inv.searched h test least d in
          let o = look.open none in
          (led_turned g.met.N.Eq.laws g.C.Number.fits h test least c.turns.graph c.best_with-best.new.graph c.turn.new.graph c.turns.estimate c.turn.new.estimate estimates c.turn.new.search.estimates.items labels c.turn.new.search.labels.items entries heap c.turn.new.search.queue.entries number
          v.0 inv.ready.asked inv.ready.wide look.grows look.same (look.graph (with_test h test) (v.0.explores, v.0.tested)) (n.graph h test least) t.left).1 test (λ x k. o.1 (with_test h test) x (v.0.explores, v.0.tested) (look.grows.back number x inside k)) (inv.unknown o.0 h test least d);
      least = λ b is. by_cases _ (look.found b is)
          (λ was. inv.least b was)
          (λ new. (
            new.2,
            λ start edges test least s d.
                let exact = g.met.C.Integral.exact_law in
                let v = inv.searched (graph_of start edges) test least d in
                let now = v.0 in
                path_at g.N.PartialEq.eq edges start test g.C.Number.value c.in-Some.taken.cost b new.1 (goal_path g.N.PartialEq.eq g.met.N.Eq.laws start edges test now.explores.alike now.costs now.same_test g.C.Number.value g.C.Number.fits (λ x y z. g.C.Number.between_law x y z exact) (g.met.C.Zero.zero_fits_law exact)
                least now.same_estimate now.admissible (g.M.Numbering.keys c.turns.graph.discovery.nodes) now.explores.reached now.explores.distinct estimates now.estimated inv.ready.asked (inv.begins start s) labels entries inv.ready.sound.forest (inv.unknown new.0 (graph_of start edges) test least d)
                number c.in-Some.taken.cost heap t (fits_at g.C.Number.value g.C.Number.fits c.in-Some.taken.cost b new.1 new.2) inside (λ y k. new.3 (with_test (graph_of start edges) test) y (now.explores, now.tested) k)),
          ));
    }

pub returns-in-Some-best : goal.returns-in-Some-best
returns-in-Some-best g c = record {
  wide =
      let inv = c.turns.invariant in
      let first = inv.ready.sound.forest.first in
      (inv.ready.wide, HasLabel-inside c.turns.search.labels.items 0 first.0 first.1);
  labelled = λ start edges test least s d.
      let eq = g.N.PartialEq.eq in
      let laws = g.met.N.Eq.laws in
      let value = g.C.Number.value in
      let exact = g.met.C.Integral.exact_law in
      let h = graph_of start edges in
      let inv = c.turns.invariant in
      let v = inv.searched h test least d in
      let now = v.0 in
      let keys = g.M.Numbering.keys c.turns.graph.discovery.nodes in
      let estimates = c.turns.search.estimates.items in
      let begins = inv.begins start s in
      let best = c.in-Some-best.best in
      let is = c.in-Some-best.is in
      let known = inv.least best is in
      let path = known.1 start edges test least s d in
      let cheapest = path.1 in (
        now,
        record {
          first = inv.ready.sound.forest.first;
          begins = begins;
          exact = exact_label eq laws h now.explores.alike value g.C.Number.fits (λ x y z. g.C.Number.between_law x y z exact) (g.met.C.Zero.zero_fits_law exact) test now.same_test least now.admissible (no_negative eq laws h now.explores.alike now.costs) keys estimates start begins
              (led_within laws now inv.ready.asked begins) (led_estimate laws now inv.ready.asked begins) (led_asked laws now inv.ready.asked begins)
              c.turns.search.labels.items c.turns.search.queue.entries inv.ready.sound.forest (length keys) v.1 best (past_best value c.turns.search.labels.items estimates c.turns.search.queue.entries c.turns.best best is c.in_default.ensures.taken) known.0 (low_of eq laws start edges test now.explores.alike (value best) cheapest.best);
          path = path;
        },
      );
  overflow = λ start edges test least s d e. absurd (ok_is_no_error _ _ _ refl e);
  errors = tt;
}

pub returns : goal.returns
returns g c = record {
  wide = if_none _ _ c.no_path.result (λ all. tt) c.no_path.ensures.none;
  labelled = λ start edges test least s d.
      let value = g.C.Number.value in
      let exact = g.met.C.Integral.exact_law in
      let inv = c.turns.invariant in
      let v = inv.searched (graph_of start edges) test least d in
      let unknown = c.in_default-best.is in
      let none_waits : (k : ℕ) (l : Label g.row.C.Denot) → HasLabel c.turns.search.labels.items k l → ¬ (IsWaiting value c.turns.search.estimates.items c.turns.search.queue.entries k l) = λ k l at w. let b = c.in_default.ensures.taken k l at w in no_best b.0 (sym unknown ∙ b.1) in
      if_none _ _ c.no_path.result (λ all. led_none g.met.N.Eq.laws v.0 inv.ready.asked (inv.begins start s) g.C.Number.fits (λ x y z. g.C.Number.between_law x y z exact) (g.met.C.Zero.zero_fits_law exact)
      c.turns.search.labels.items inv.ready.wide c.turns.search.queue.entries inv.ready.sound.forest (inv.unknown unknown (graph_of start edges) test least d) none_waits all) c.no_path.ensures.none;
  overflow = λ start edges test least s d refused.
      let value = g.C.Number.value in
      let exact = g.met.C.Integral.exact_law in
      let inv = c.turns.invariant in
      let v = inv.searched (graph_of start edges) test least d in
      let unknown = c.in_default-best.is in
      let none_waits : (k : ℕ) (l : Label g.row.C.Denot) → HasLabel c.turns.search.labels.items k l → ¬ (IsWaiting value c.turns.search.estimates.items c.turns.search.queue.entries k l) = λ k l at w. let b = c.in_default.ensures.taken k l at w in no_best b.0 (sym unknown ∙ b.1) in
      let past = some_past (All (λ o. IsSome o) c.turns.search.labels.items) c.no_path.result CostOverflow refused c.no_path.ensures.past in
      led_past g.met.N.Eq.laws v.0 inv.ready.asked (inv.begins start s) g.C.Number.fits (λ x y z. g.C.Number.between_law x y z exact) (g.met.C.Zero.zero_fits_law exact)
      c.turns.search.labels.items inv.ready.wide c.turns.search.queue.entries inv.ready.sound.forest (inv.unknown unknown (graph_of start edges) test least d) none_waits past;
  errors = IfErr-weaker c.no_path.result _ _ (λ e h. inr h.0) c.no_path.ensures.past;
}

pub returns-in_err-begin : goal.returns-in_err-begin
returns-in_err-begin g c = record {
  wide = if_refused _ c.from_residual.result _ c.from_residual.ensures.1;
  labelled = λ start edges test least s d. if_refused _ c.from_residual.result _ c.from_residual.ensures.1;
  overflow = λ start edges test least s d e. absurd (no_overflow c.from_residual.result _ c.from_residual.ensures.1 c.in_err-begin.ensures.refused e);
  errors = refused_as _ c.from_residual.result _ c.from_residual.ensures.1 (inl c.in_err-begin.ensures.refused);
}

pub returns-in_err-turn : goal.returns-in_err-turn
returns-in_err-turn g c = record {
  wide = if_refused _ c.from_residual-in_err-turn.result _ c.from_residual-in_err-turn.ensures.1;
  labelled = λ start edges test least s d. if_refused _ c.from_residual-in_err-turn.result _ c.from_residual-in_err-turn.ensures.1;
  overflow = λ start edges test least s d e. absurd (no_overflow c.from_residual-in_err-turn.result _ c.from_residual-in_err-turn.ensures.1 c.in_err-turn.ensures.refused e);
  errors = refused_as _ c.from_residual-in_err-turn.result _ c.from_residual-in_err-turn.ensures.1 (inl c.in_err-turn.ensures.refused);
}

pub begin-requires-clause-one : goal.begin-requires-clause-one
begin-requires-clause-one g c = c.requires.one

pub begin-requires-clause-new : goal.begin-requires-clause-new
begin-requires-clause-new g c = c.requires.new

pub begin-requires-clause-graph : goal.begin-requires-clause-graph
begin-requires-clause-graph g c = c.requires.graph

pub take_within-requires : goal.take_within-requires
take_within-requires g c = record { queue = c.turns.invariant.ready.sound.queue; sums = c.turns.invariant.ready.sound.sums }

pub turns-smaller : goal.turns-smaller
turns-smaller g c = less_left _ _ _ _ _ c.in_ok-turn.ensures.less c.in-Some.ensures.fewer
