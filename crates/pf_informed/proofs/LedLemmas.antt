-- A search led by estimates: what it knows of its graph, while more nodes are found.
use Rattle.std.proofs.Common.{◌≡◌, ◌<◌, ◌∙◌, ℕ, ℤ, Bool, List, [], ◌∷◌, length, slice_get, subst, arith, inl, inr}
use Rattle.std.specs.Prelude.{◌⊎◌, Option, Some}
use Rattle.std.specs.Borrow.{Bor}
use Rattle.std.specs.Cmp.{IsEquivalence}
use Rattle.std.specs.Fn.{Mut}
use Rattle.std.specs.Iterator.{Count}
use Rattle.std.specs.List.{IsDistinct}
use Rattle.pf_base.specs.Answers.{AnswersGraph, AnswersTest}
use Rattle.pf_base.specs.Edges.{InReach}
use Rattle.pf_base.specs.NodeRefs.{HasSameNodes}
use Rattle.pf_core.specs.declared.labels.Label.{Label}
use Rattle.pf_discovery.specs.declared.source.Weighted.{Weighted}
use Rattle.pf_discovery.specs.declared.tested.TestedBy.{TestedBy}
use Rattle.pf_core.specs.Labels.{Labels, HasLabel}
use Rattle.pf_core.specs.Nodes.{NodeGraph, TestedGraph, Explores}
use Rattle.pf_core.specs.Numbered.{Grows}
use Rattle.pf_discovery.specs.Sources.{AnswersEdges}
use Rattle.pf_core.proofs.LabelLemmas.{HasLabel-inside}
use Rattle.pf_base.proofs.ListLemmas.{none_in}
use Rattle.pf_discovery.proofs.SourceLemmas.{Explores-edges}
use Rattle.pf_informed.specs.Estimates.{AnswersEstimate, IsInformedSearch}
use Rattle.pf_informed.specs.Internal.Estimated.{IsEstimated}
use Rattle.pf_informed.specs.Internal.Informed.{IsClosed, IsFoundFrom, IsInformed}
use Rattle.pf_informed.specs.Internal.Led.{IsLed, FindsMore}
use Rattle.pf_informed.specs.Internal.Waiting.{Entry, IsWaiting}
use Rattle.pf_informed.proofs.KnownLemmas.{estimated_grown}

abbrev pub graph_of : {N : Type 0} → N → (N → List (N × ℤ)) → NodeGraph N
graph_of start edges = record { starts = start ∷ []; edges = edges }

abbrev pub with_test : {N : Type 0} → NodeGraph N → (N → Bool) → TestedGraph N
with_test g test = record { graph = g; test = test }

-- the same numbers stand for what they stood for
module _ {X C : Type 0} (value : C → ℤ) (fits : ℤ → Type 0) (step : X → ℤ → X → Type 0) (passes : X → Bool) (estimates : List C) (found found' : ℕ) (stands stands' : ℕ → X → Type 0) (grow : Grows found found' stands stands') (same : found' ≡ found) (labels : Labels C) (inside : length labels ≡ found) (entries : List (Entry C)) where
  before : (k : ℕ) (l : Label C) → HasLabel labels k l → (x : X) → stands' k x → stands k x
  before k l h x s = grow.back k x (omega (arith, HasLabel-inside labels k l h, inside)) s

  pub informed_still : IsInformed value fits estimates step passes stands labels entries found → IsInformed value fits estimates step passes stands' labels entries found'
  informed_still i = record {
    cut = λ k l h. elim (i.cut k l h) as (λ _. IsWaiting value estimates entries k l ⊎ IsClosed value fits estimates step passes stands' labels entries k l) [
      | inl w ↦ inl w
      | inr c ↦ inr (record {
        fails = λ x s. c.fails x (before k l h x s);
        along = λ x s z y st. let r = c.along x (before k l h x s) z y st in (r.0, grow.stays r.0 y r.1, r.2);
      })
    ];
    linked = λ k l m h deep at x s. let r = i.linked k l m h deep at x (before l.parent m at x s) in (r.0, r.1, r.2, grow.stays k r.0 r.3, r.4);
    found_by = λ j l. elim (i.found_by j (subst (λ (n : ℕ). j < n) same l)) as (λ _. ((m : Label C) × HasLabel labels j m) ⊎ IsFoundFrom value fits estimates step passes stands' labels entries j) [
      | inl m ↦ inl m
      | inr r ↦ inr (record { node = r.node; here = grow.stays j r.node r.here; before = r.before; label = r.label; at = r.at; source = r.source; there = grow.stays r.before r.source r.there; price = r.price; edge = r.edge })
    ];
  }

module _ {M N C S T H : Type 0} {keys_of : M → List N} {eq : N → N → Bool} {value : C → ℤ} {edge_answers : S → List N → (N → List (N × ℤ)) → Type 0} {test_answers : T → (N → Type 0) → (N → Bool) → Type 0} {estimate_answers : H → (N → Type 0) → (N → ℤ) → Type 0}
    {g : NodeGraph N} {test : N → Bool} {least : N → ℤ} {graph : TestedBy M S T} {estimate : H} {kept : List C} (led : IsLed keys_of eq value edge_answers test_answers estimate_answers g test least graph estimate kept) where
  -- what is known of the graph, where more nodes were found
  pub led_grown : IsEquivalence eq → length kept ≡ length (keys_of graph.discovery.nodes) → (graph' : TestedBy M S T) → FindsMore keys_of eq graph graph' → Explores eq edge_answers g (keys_of graph'.discovery.nodes) graph'.discovery.source → test_answers graph'.success (InReach eq g.edges g.starts) test
      → IsLed keys_of eq value edge_answers test_answers estimate_answers g test least graph' estimate kept
  led_grown laws wide graph' finds explores tested = record {
    explores = explores;
    tested = tested;
    same_test = led.same_test;
    asked = led.asked;
    same_estimate = led.same_estimate;
    estimated = estimated_grown eq laws value least (InReach eq g.edges g.starts) led.same_estimate (keys_of graph.discovery.nodes) (keys_of graph'.discovery.nodes) led.explores.reached finds kept wide led.estimated;
    admissible = led.admissible;
    costs = led.costs;
  }

  -- what is known of the graph, where nodes were forgotten
  pub led_less : IsEquivalence eq → (graph' : TestedBy M S T) → FindsMore keys_of eq graph' graph → Explores eq edge_answers g (keys_of graph'.discovery.nodes) graph'.discovery.source → test_answers graph'.success (InReach eq g.edges g.starts) test
      → (kept' : List C) → ((i : ℕ) (c : C) → slice_get kept' i ≡ Some c → slice_get kept i ≡ Some c) → IsLed keys_of eq value edge_answers test_answers estimate_answers g test least graph' estimate kept'
  led_less laws graph' shrinks explores tested kept' still = record {
    explores = explores;
    tested = tested;
    same_test = led.same_test;
    asked = led.asked;
    same_estimate = led.same_estimate;
    estimated = λ k x c i j. let s = shrinks.stays k x (x, i, laws.refl x) in led.estimated k s.0 c s.1 (still k c j) ∙ led.same_estimate s.0 x (led.explores.reached k s.0 s.1) s.2;
    admissible = led.admissible;
    costs = led.costs;
  }

  -- and where more estimates were asked for
  pub led_more : {estimate' : H} {kept' : List C} → estimate_answers estimate' (InReach eq g.edges g.starts) least → (IsEstimated value least (slice_get (keys_of graph.discovery.nodes)) kept → IsEstimated value least (slice_get (keys_of graph.discovery.nodes)) kept')
      → IsLed keys_of eq value edge_answers test_answers estimate_answers g test least graph estimate' kept'
  led_more asked estimated = record {
    explores = led.explores;
    tested = led.tested;
    same_test = led.same_test;
    asked = asked;
    same_estimate = led.same_estimate;
    estimated = estimated led.estimated;
    admissible = led.admissible;
    costs = led.costs;
  }

-- what is known of the start alone
module _ {M N C I S FN FS FH : Type 0} {keys_of : M → List N} {eq : N → N → Bool} (laws : IsEquivalence eq) {value : C → ℤ} {becomes : I → S → Type 0} {can : S → Type 0} {left : S → Count} {next : S → Option (N × C) → S → Type 0} {calls : Mut FN (Bor N × Unit {0}) I} {tests : Mut FS (Bor N × Unit {0}) Bool} {estimates : Mut FH (Bor N × Unit {0}) C} where
  pub led_begin : {start : N} {edges : N → List (N × ℤ)} {test : N → Bool} {least : N → ℤ} {graph : TestedBy M (Weighted FN) FS} {estimate : FH} {kept : List C} → IsDistinct eq (keys_of graph.discovery.nodes) → HasSameNodes eq (keys_of graph.discovery.nodes) (start ∷ []) → kept ≡ []
      → IsInformedSearch eq edges (start ∷ []) (AnswersGraph calls becomes can left next eq value graph.discovery.source.function) (AnswersTest tests eq graph.success) (AnswersEstimate estimates eq value estimate) test least
      → IsLed keys_of eq value (AnswersEdges eq (AnswersGraph calls becomes can left next eq value)) (AnswersTest tests eq) (AnswersEstimate estimates eq value) (graph_of start edges) test least graph estimate kept
  led_begin {start} {edges} {graph = graph} {kept = kept} distinct same none s =
      let w = s.weighted in
      record {
        explores = Explores-edges eq laws (AnswersGraph calls becomes can left next eq value) (graph_of start edges) (keys_of graph.discovery.nodes) graph.discovery.source.function distinct same w.edges_answered.alike w.edges_answered;
        tested = w.test_answered;
        same_test = w.test_answered.alike;
        asked = s.estimate_answered;
        same_estimate = s.estimate_answered.alike;
        estimated = λ k x c i j. absurd (none_in k c (subst (λ (es : List C). slice_get es k ≡ Some c) none j));
        admissible = s.admissible;
        costs = w.costs;
      }
