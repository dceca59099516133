-- From what a search by cost and estimate says of numbers to walks over nodes.
use Rattle.std.proofs.Common.{◌≡◌, ℕ, ◌<◌, Bool, true, List, [], ◌∷◌, ◌++◌, ◌∙◌, refl, sym, subst, arith, inl, inr, ℤ, pos, nat_eq, eq-eqb, Some, length}
use Rattle.std.specs.Prelude.{◌≤ℤ◌, ◌+ℤ◌, slice_get, reverse}
use Rattle.std.specs.Cmp.{IsEquivalence}
use Rattle.std.proofs.lemmas.Int.{ints}
use borrow.Author.Tests.{eqb-true}
use Rattle.pf_base.specs.Walks.{HasNode, NoRepeats, end_of}
use Rattle.pf_base.specs.Edges.{StepCosts, StepsCost, InReach}
use Rattle.pf_base.specs.Answers.{ListsEdges}
use Rattle.pf_core.specs.declared.labels.Label.{Label}
use Rattle.pf_core.specs.Labels.{Labels, HasLabel, Climbs}
use Rattle.pf_core.specs.Steps.{GoesAlong, IsNonNegative}
use Rattle.pf_core.specs.Nodes.{NodeGraph, StandsFor, IsStep}
use Rattle.pf_core.proofs.FrontierLemmas.{goes_more, end_more}
use Rattle.pf_core.proofs.NodeLemmas.{eq-sym, eq-trans, InReach-same, InReach-start, InReach-more, edge_of_same}
use Rattle.pf_base.proofs.ListLemmas.{AllZip-append}
use Rattle.pf_core.proofs.PathLemmas.{NoRepeats-append}
use Rattle.pf_core.proofs.WalkLemmas.{cheapest_edge, walk_of_goes, distinct_nodes}
use Rattle.pf_informed.specs.Estimates.{IsAdmissible, EstimateOverflows, NoGoalWalkFits}
use Rattle.pf_informed.specs.Internal.Estimated.{IsEstimated}
use Rattle.pf_informed.specs.Internal.Forest.{IsForest}
use Rattle.pf_informed.specs.Internal.Waiting.{Entry, IsWaiting, SumOverflows}
use Rattle.pf_informed.specs.Internal.Informed.{IsInformed}
use Rattle.pf_core.proofs.ClimbLemmas.{chain_distinct}
use Rattle.pf_informed.proofs.PathUp.{climb_walk, NoRepeats-reverse, HasNode-reverse}
use Rattle.pf_informed.proofs.InformedLemmas.{frontier}

-- the beginning of a list without repeats has none
pub NoRepeats-begin : {N : Type 0} (eq : N → N → Bool) (v u : List N) → NoRepeats eq (v ++ u) → NoRepeats eq v
NoRepeats-begin eq [] u h = tt
NoRepeats-begin eq (x ∷ v) u h = ((λ k. h.0 (HasNode-begin v x k)), NoRepeats-begin eq v u h.1)
  where
    HasNode-begin : (v : List _) (x : _) → HasNode eq v x → HasNode eq (v ++ u) x
    HasNode-begin [] x k = absurd k
    HasNode-begin (y ∷ v) x (inl k) = inl k
    HasNode-begin (y ∷ v) x (inr k) = inr (HasNode-begin v x k)

-- the number of a chain has a label
pub chain_labelled : {C : Type 0} (labels : Labels C) (above : List ℕ) (k : ℕ) → Climbs labels k above → (j : ℕ) → HasNode nat_eq (k ∷ above) j → (l : Label C) × HasLabel labels j l
chain_labelled labels [] k c j (inl e) = (c.0, subst (λ (n : ℕ). HasLabel labels n c.0) (eqb-true k j e) c.1)
chain_labelled labels [] k c j (inr h) = absurd h
chain_labelled labels (p ∷ ps) k c j (inl e) = (c.0, subst (λ (n : ℕ). HasLabel labels n c.0) (eqb-true k j e) c.1)
chain_labelled labels (p ∷ ps) k c j (inr h) = chain_labelled labels ps p c.4 j h

module _ {N : Type 0} (eq : N → N → Bool) (laws : IsEquivalence eq) (g : NodeGraph N) (alike : (x y : N) → InReach eq g.edges g.starts x → eq x y ≡ true → ListsEdges eq (λ z. z) (g.edges x) (g.edges y)) where
  -- a step by the cheapest of the parallel edges
  abbrev pub CheapStep : N → ℤ → N → Type 0
  CheapStep a z b = InReach eq g.edges g.starts a × StepCosts eq g.edges a b z

  pub cheap_is_step : (a : N) (z : ℤ) (b : N) → CheapStep a z b → IsStep eq g a z b
  cheap_is_step a z b h = let s = h.1 in (h.0, s.edge)

  pub cheap_of_costs : (w : List N) (a : N) (u : ℤ) → InReach eq g.edges g.starts a → StepsCost eq g.edges a w u → GoesAlong CheapStep a w u
  cheap_of_costs [] a u r h = h
  cheap_of_costs (b ∷ w) a u r h = let s = h.2 in (h.0, h.1, (r, s), cheap_of_costs w b h.1 (InReach-more eq laws g.edges g.starts alike a b h.0 r s.edge) h.3, h.4)

  pub costs_of_cheap : (w : List N) (a : N) (u : ℤ) → GoesAlong CheapStep a w u → StepsCost eq g.edges a w u
  costs_of_cheap [] a u h = h
  costs_of_cheap (b ∷ w) a u h = (h.0, h.1, h.2.1, costs_of_cheap w b h.1 h.3, h.4)

  pub goes_of_cheap : (w : List N) (a : N) (u : ℤ) → GoesAlong CheapStep a w u → GoesAlong (IsStep eq g) a w u
  goes_of_cheap [] a u h = h
  goes_of_cheap (b ∷ w) a u h = (h.0, h.1, cheap_is_step a h.0 b h.2, goes_of_cheap w b h.1 h.3, h.4)

  pub cheap_of_goes : (w : List N) (a : N) (u : ℤ) → GoesAlong (IsStep eq g) a w u → (m : ℤ) × GoesAlong CheapStep a w m × (m ≤ℤ u)
  cheap_of_goes [] a u h = (pos 0, refl, omega (arith, ints, h))
  cheap_of_goes (b ∷ w) a u h =
      let c = cheapest_edge eq laws g.edges a b h.0 h.2.1 in
      let s = c.1 in
      let q = cheap_of_goes w b h.1 h.3 in
      (c.0 +ℤ q.0, (c.0, q.0, (h.2.0, s), q.1, refl), omega (arith, ints, s.cheapest h.0 h.2.1, q.2, h.4))

  module _ (test : N → Bool) (least : N → ℤ) (adm : IsAdmissible eq g.edges g.starts test least) where
    -- no walk along steps to a goal undercuts an estimate
    pub never_above : (x : N) → InReach eq g.edges g.starts x → (w : List N) (u : ℤ) → GoesAlong (IsStep eq g) x w u → test (end_of x w) ≡ true → least x ≤ℤ u
    never_above x r w u goes good =
        let c = cheap_of_goes w x u goes in
        let low = adm.never_above x r (x ∷ w) c.0 (record { walks = walk_of_goes eq laws g alike w x u goes; begins = inl (laws.refl x); ends = good }) (costs_of_cheap w x c.0 c.1) in
        omega (arith, ints, low, c.2)

  -- ---- numbers and estimates
  module _ {C : Type 0} (value : C → ℤ) (least : N → ℤ) (same : (x y : N) → InReach eq g.edges g.starts x → eq x y ≡ true → least x ≡ least y) (keys : List N) (reached : (k : ℕ) (x : N) → slice_get keys k ≡ Some x → InReach eq g.edges g.starts x)
      (estimates : List C) (known : IsEstimated value least (slice_get keys) estimates) (asked : length estimates ≡ length keys) where
    pub stands_reached : (k : ℕ) (x : N) → StandsFor eq keys k x → InReach eq g.edges g.starts x
    stands_reached k x s = InReach-same eq laws g.edges g.starts s.0 x (reached k s.0 s.1) s.2

    pub estimate_is : (k : ℕ) (x : N) (h : C) → StandsFor eq keys k x → slice_get estimates k ≡ Some h → value h ≡ least x
    estimate_is k x h s a = known k s.0 h s.1 a ∙ same s.0 x (reached k s.0 s.1) s.2

  -- ---- a cost overflow
  module _ {C : Type 0} (value : C → ℤ) (fits : ℤ → Type 0) (between : (x y z : ℤ) → fits x → fits z → x ≤ℤ y → y ≤ℤ z → fits y) (nothing : fits (pos 0)) (test : N → Bool) (least : N → ℤ) (adm : IsAdmissible eq g.edges g.starts test least)
      (p : IsNonNegative (IsStep eq g)) (keys : List N) (one : (i j : ℕ) (x : N) → StandsFor eq keys i x → StandsFor eq keys j x → i ≡ j) (estimates : List C) (start : N) (begins : StandsFor eq keys 0 start) (is_start : HasNode eq g.starts start)
      (within : (k : ℕ) (x : N) → StandsFor eq keys k x → InReach eq g.edges g.starts x) (estimated : (k : ℕ) (x : N) (h : C) → StandsFor eq keys k x → slice_get estimates k ≡ Some h → value h ≡ least x)
      (labels : Labels C) (entries : List (Entry C)) (f : IsForest value labels) (found : ℕ) (i : IsInformed value fits estimates (IsStep eq g) test (StandsFor eq keys) labels entries found) (none : (k : ℕ) (l : Label C) → HasLabel labels k l → ¬ (IsWaiting value estimates entries k l)) where
    past : (k : ℕ) (x : N) (s u : ℤ) → StandsFor eq keys k x → pos 0 ≤ℤ s → s ≤ℤ u → SumOverflows value fits estimates k s → ¬ (fits (u +ℤ least x))
    past k x s u here from low dear fit =
        let up = adm.from_zero x (within k x here) in
        elim dear as (λ _. ⊥) [
          | inl n ↦ n (between (pos 0) s (u +ℤ least x) nothing fit from (omega (arith, ints, low, up)))
          | inr n ↦ let e = estimated k x n.0 here n.1 in n.2 (between (pos 0) (s +ℤ value n.0) (u +ℤ least x) nothing fit (omega (arith, ints, from, e, up)) (omega (arith, ints, e, low)))
        ]

    -- a path to a number that has no label passes one that is too dear
    on_path : (first : N) → StandsFor eq keys 0 first → HasNode eq g.starts first → (w : List N) (t : ℤ) → GoesAlong (IsStep eq g) first w t → NoRepeats eq (first ∷ w) → (j : ℕ) → StandsFor eq keys j (end_of first w) → ((l : Label C) → ¬ (HasLabel labels j l)) → EstimateOverflows eq g.edges g.starts least fits
    on_path first here starts w t goes distinct j last bare =
        let c = cheap_of_goes w first t goes in
        let z = f.first in
        elim (frontier value fits (IsStep eq g) test p estimates (StandsFor eq keys) labels entries f found i CheapStep cheap_is_step w 0 z.0 (pos 0) first c.0 z.1 (omega (arith, ints, z.2)) here c.1) as (λ _. EstimateOverflows eq g.edges g.starts least fits) [
          | inl r ↦ absurd (bare r.label (subst (λ (n : ℕ). HasLabel labels n r.label) (one r.number j (end_of first w) r.here last) r.at))
          | inr r ↦ elim r.why as (λ _. EstimateOverflows eq g.edges g.starts least fits) [
            | inl a ↦ absurd (none r.number a.0 a.1 a.2)
            | inr a ↦ record {
              node = end_of first r.before;
              path = first ∷ r.before;
              cost = r.up_to;
              goes = record {
                goes = record { walks = walk_of_goes eq laws g alike r.before first r.up_to (goes_of_cheap r.before first r.up_to r.comes); begins = starts; ends = laws.refl (end_of first r.before) };
                distinct = NoRepeats-begin eq (first ∷ r.before) r.after (subst (λ (v : List N). NoRepeats eq (first ∷ v)) r.is distinct);
              };
              costs = costs_of_cheap r.before first r.up_to r.comes;
              past = past r.number (end_of first r.before) a.0 r.up_to r.here a.1 (omega (arith, ints, a.2)) a.3;
            }
          ]
        ]

    pub overflow_at : (j : ℕ) → j < found → ((l : Label C) → ¬ (HasLabel labels j l)) → EstimateOverflows eq g.edges g.starts least fits
    overflow_at j inside bare = elim (i.found_by j inside) as (λ _. EstimateOverflows eq g.edges g.starts least fits) [
      | inl l ↦ absurd (bare l.0 l.1)
      | inr r ↦
          let chain = f.climbs r.before r.label r.at in
          let up = climb_walk labels value (IsStep eq g) (λ x. x ≡ start) (StandsFor eq keys) f (start, refl, begins) i.linked chain.0 r.before r.label r.at chain.1 in
          let x = end_of up.first up.nodes in
          let there = r.there in
          let here = up.here in
          let same : eq r.source x ≡ true = same_stands keys r.before r.source x there here in
          let edge = edge_of_same eq laws g.edges g.starts alike r.source x r.node r.price r.edge.0 same r.edge.1 in
          let numbers = reverse (r.before ∷ chain.0) in
          let distinct : NoRepeats nat_eq (numbers ++ j ∷ []) = NoRepeats-append nat_eq nat_symm numbers j (NoRepeats-reverse (r.before ∷ chain.0) (chain_distinct labels chain.0 r.before chain.1))
          (λ h. let l = chain_labelled labels chain.0 r.before chain.1 j (HasNode-reverse (r.before ∷ chain.0) j h) in bare l.0 l.1) in
          let zip = AllZip-append (StandsFor eq keys) numbers (up.first ∷ up.nodes) j r.node up.numbered r.here in
          on_path up.first (subst (StandsFor eq keys 0) (sym up.is_start) begins) (subst (HasNode eq g.starts) (sym up.is_start) is_start) (up.nodes ++ r.node ∷ []) (up.cost +ℤ r.price)
          (goes_more (IsStep eq g) up.nodes up.first r.node up.cost r.price up.goes (within r.before x here, edge))
          (distinct_nodes eq laws keys one (numbers ++ j ∷ []) (up.first ∷ (up.nodes ++ r.node ∷ [])) zip distinct)
          j (subst (StandsFor eq keys j) (sym (end_more up.nodes up.first r.node)) r.here) bare
    ]
      where
        nat_symm : (x y : ℕ) → nat_eq x y ≡ true → nat_eq y x ≡ true
        nat_symm x y h = eq-eqb y x (sym (eqb-true x y h))

        same_stands : (ks : List N) (k : ℕ) (x y : N) → StandsFor eq ks k x → StandsFor eq ks k y → eq x y ≡ true
        same_stands ks k x y a b =
            let e : Some a.0 ≡ Some b.0 = sym a.1 ∙ b.1 in
            let same : a.0 ≡ b.0 = cc in
            eq-trans eq laws x a.0 y (eq-sym eq laws a.0 x a.2) (subst (λ (z : N). eq z y ≡ true) (sym same) b.2)

  -- no walk over nodes has a cost that fits, where no walk along steps has
  pub no_walk_fits : (test : N → Bool) (fits : ℤ → Type 0) → ((s : N) → HasNode eq g.starts s → (w : List N) (t : ℤ) → GoesAlong (IsStep eq g) s w t → test (end_of s w) ≡ true → ¬ (fits t)) → NoGoalWalkFits eq g.edges g.starts test fits
  no_walk_fits test fits none [] u walk costs = absurd costs
  no_walk_fits test fits none (a ∷ w) u walk costs = none a walk.begins w u (goes_of_cheap w a u (cheap_of_costs w a u (InReach-start eq laws g.edges g.starts a a walk.begins (laws.refl a)) costs)) walk.ends
