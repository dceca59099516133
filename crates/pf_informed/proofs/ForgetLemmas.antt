-- That what is known stays right when the steps from the last number of a way are forgotten.
use Rattle.std.proofs.Common.{ℕ, ◌<◌, ◌≤◌, ◌≡◌, sym, ◌∙◌, ap, subst, arith, Bool, List, [], ◌∷◌, length, inl, inr, ℤ, pos, Option}
use Rattle.std.specs.Prelude.{Contains}
use Rattle.std.specs.Cmp.{IsEquivalence}
use Rattle.std.proofs.lemmas.List.{length-take-le}
use Rattle.pf_base.proofs.ListLemmas.{Contains-cases}
use Rattle.pf_core.specs.Nodes.{NodeGraph, StandsFor}
use Rattle.pf_core.specs.NodeLaws.{StandsFor-one}
use Rattle.pf_deepening.specs.declared.rows.Span.{Span}
use Rattle.pf_deepening.specs.declared.way.Frame.{Frame}
use Rattle.pf_deepening.specs.Ways.{HasSpan, IsCutOff}
use Rattle.pf_informed.specs.declared.directed.idastar.known.Known.{Known}
use Rattle.pf_informed.specs.Internal.Led.{IsLed}
use Rattle.pf_informed.specs.Internal.Rows.{found_in, IsCheapStep, IsTable, IsWhole, KeepsNone, KnowsStart, Forgets, IsKnown}
use Rattle.pf_informed.specs.Internal.Deepening.{numbers_of, AllCovered, IsStack, IsOnWay}
use Rattle.pf_informed.proofs.NestLemmas.{fewer_found, last_below, stack_less, table_less, rows_less, covered_less, trail_less}

module _ {M N C S T H Z : Type 0} {keys_of : M → List N} {eq : N → N → Bool} (known known' : Known M C S T H Z) (whole : IsWhole keys_of known) (f : Frame C) (fs : List (Frame C)) (h : IsStack known.rows.steps.items known.rows.spans.items (found_in keys_of known) (f ∷ fs))
    (fresh : ¬ (Contains (numbers_of fs) f.number)) (s : Span) (has : HasSpan known.rows.spans.items f.number s) (e : Forgets keys_of eq f.number s known known') where
  abbrev pub keys : List N
  keys = keys_of known.graph.discovery.nodes

  abbrev pub keys' : List N
  keys' = keys_of known'.graph.discovery.nodes

  abbrev pub steps : List (ℕ × C)
  steps = known.rows.steps.items

  abbrev pub steps' : List (ℕ × C)
  steps' = known'.rows.steps.items

  abbrev pub spans : List (Option Span)
  spans = known.rows.spans.items

  abbrev pub spans' : List (Option Span)
  spans' = known'.rows.spans.items

  few : s.found ≤ length keys
  few = fewer_found steps spans (length keys) f fs h whole.table fresh s has steps' spans' e.steps e.spans

  some : f.number < s.found
  some = last_below steps spans (length keys) f fs h whole.table fresh s has steps' spans' e.steps e.spans

  stays : (k : ℕ) (x : N) → StandsFor eq keys' k x → StandsFor eq keys k x
  stays = e.shrinks.stays

  back : (k : ℕ) (x : N) → k < s.found → StandsFor eq keys k x → StandsFor eq keys' k x
  back k x l t = e.shrinks.back k x (subst (λ (n : ℕ). k < n) (sym e.left) l) t

  pub start_less : KnowsStart keys_of eq known known'
  start_less = record {
    whole = record {
      asked = ap length e.estimates ∙ length-take-le s.found known.estimates.items (subst (λ (n : ℕ). s.found ≤ n) (sym whole.asked) few) ∙ sym e.left;
      table = subst (λ (n : ℕ). IsTable n steps' spans') (sym e.left) (table_less steps spans (length keys) f fs h whole.table fresh s has steps' spans' e.steps e.spans);
    };
    first = λ x t. back 0 x (omega (arith, some)) t;
  }

  pub stacked_less : IsStack steps' spans' (found_in keys_of known') fs
  stacked_less = subst (λ (n : ℕ). IsStack steps' spans' n fs) (sym e.left) (stack_less steps spans (length keys) f fs h whole.table fresh s has steps' spans' e.steps e.spans)

  -- no steps are left of the last number
  pub none_left : fs ≡ [] → KeepsNone spans'
  none_left is k t o = let c = stacked_less.only k t o in none (subst (λ (gs : List (Frame C)). Contains (numbers_of gs) k) is c)
    where
      none : {k : ℕ} → ¬ (Contains [] k)
      none c = omega (arith, c.1)

  module _ (value : C → ℤ) (g : NodeGraph N) (test : N → Bool) {edge_answers : S → List N → (N → List (N × ℤ)) → Type 0} {test_answers : T → (N → Type 0) → (N → Bool) → Type 0} {estimate_answers : H → (N → Type 0) → (N → ℤ) → Type 0} {least : N → ℤ}
      (k : IsKnown keys_of eq value edge_answers test_answers estimate_answers g test least known) where
    pub known_less : IsLed keys_of eq value edge_answers test_answers estimate_answers g test least known'.graph known'.estimate known'.estimates.items → IsKnown keys_of eq value edge_answers test_answers estimate_answers g test least known'
    known_less led = record {
      led = led;
      rows = rows_less steps spans (length keys) f fs h whole.table fresh s has steps' spans' e.steps e.spans eq value (IsCheapStep eq g) test (StandsFor eq keys) (StandsFor eq keys') stays back k.rows;
    }

    module _ (laws : IsEquivalence eq) (fits : ℤ → Type 0) (first : N) where
      pub on_way_less : (d : Frame C) (ds : List (Frame C)) (cut : Option C) (past : Bool) → numbers_of (d ∷ ds) ≡ numbers_of fs → IsOnWay eq value fits g test least first keys steps spans d ds cut past → IsOnWay eq value fits g test least first keys' steps' spans' d ds cut past
      on_way_less d ds cut past same w = record {
        trail = trail_less steps spans (length keys) f fs h whole.table fresh s has steps' spans' e.steps e.spans eq value (IsCheapStep eq g) test (StandsFor eq keys) (StandsFor eq keys') stays back (IsCutOff value fits cut past) (StandsFor-one eq laws keys k.led.explores.distinct) k.rows
            (d ∷ ds) (λ i c. subst (λ (ns : List ℕ). Contains ns i) same c) w.trail;
        begins = back 0 first (omega (arith, some)) w.begins;
        all_past = w.all_past;
      }

      pub all_less : (covers : ℤ → Type 0) → AllCovered eq value (IsCheapStep eq g) test (StandsFor eq keys) covers (0 ∷ []) (pos 0) first → AllCovered eq value (IsCheapStep eq g) test (StandsFor eq keys') covers (0 ∷ []) (pos 0) first
      all_less covers all = covered_less steps spans (length keys) f fs h whole.table fresh s has steps' spans' e.steps e.spans eq value (IsCheapStep eq g) test (StandsFor eq keys) (StandsFor eq keys') stays back covers (0 ∷ []) (pos 0) first (λ i c. below i c) all
        where
          below : (i : ℕ) → Contains (0 ∷ []) i → i < s.found
          below i c = elim (Contains-cases [] 0 i c) as (λ _. i < s.found) [ inl q ↦ omega (arith, q, some) | inr q ↦ absurd (omega (arith, q.1)) ]
