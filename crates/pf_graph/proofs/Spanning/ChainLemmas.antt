-- Edges in chains.
use Rattle.std.proofs.Common.{ℕ, zero, suc, ◌+◌, ◌<◌, ◌≤◌, ◌≡◌, ◌≢◌, refl, sym, ◌∙◌, ap, subst, arith, Bool, List, [], ◌∷◌, ◌++◌, length, length-set, replicate, inl, inr, ◌⊎◌, Some}
use Rattle.std.specs.Prelude.{Contains, map, slice_get, slice_set}
use Rattle.std.specs.Borrow.{Bor}
use Rattle.std.specs.List.{AllZip}
use Rattle.std.specs.Option.{option_map}
use Rattle.std.proofs.lemmas.List.{length-append, length-map}
use Rattle.std.proofs.lemmas.Option.{slice_get-map}
use Rattle.pf_graph.specs.declared.undirected.chains.Chains.{Chains}
use Rattle.pf_graph.specs.declared.undirected.chains.End.{End}
use Rattle.pf_graph.specs.declared.undirected.steps.Step.{Step}
use Rattle.pf_graph.specs.declared.undirected.weighed.Weighed.{Weighed}
use Rattle.pf_graph.specs.Internal.NumberedEdges.{IsNumbered}
use Rattle.pf_union_find.specs.Nodes.{StandsFor}
use Rattle.pf_graph.specs.GrownTree.{RunsBetween}
use Rattle.pf_graph.specs.Internal.Spanning.Chained.{HasNumbers, IsAt, IsLastBefore, AreLinked}
use Rattle.pf_graph.specs.Internal.Spanning.Frontier.{turned, Leads, AreChained, RunsAt, Runs, IsStepAt, RunsAsWritten}
use Rattle.pf_base.proofs.ListLemmas.{none_in, get_set, get_pushed, get-append, get_at_end}
use Rattle.pf_union_find.proofs.ListLemmas.{zip_get, zip_get_left, get_contains, contains_get}

-- ---- the last edge at a number, after the ends of an edge more

module _ (ends : List (End × End)) (d : End × End) where
  -- before an earlier place
  last-kept : (k limit n : ℕ) → limit ≤ length ends → IsLastBefore ends k limit n → IsLastBefore (ends ++ d ∷ []) k limit n
  last-kept k limit n low h = record {
    within = h.within;
    there = λ p e. let r = h.there p e in (r.0, get-append ends (d ∷ []) p r.0 r.1, r.2);
    none_behind = λ p f at up inside. elim (get_pushed ends d p f at) as (λ _. ¬ (IsAt k f)) [
      | inl g ↦ h.none_behind p f g.1 up inside
      | inr g ↦ absurd (omega (arith, low, inside, g.0))
    ];
  }

  -- where the new edge is not at the number
  last-past : (k n : ℕ) → ¬ (IsAt k d) → IsLastBefore ends k (length ends) n → IsLastBefore (ends ++ d ∷ []) k (length ends + 1) n
  last-past k n apart h = record {
    within = let low = h.within in omega (arith, low);
    there = λ p e. let r = h.there p e in (r.0, get-append ends (d ∷ []) p r.0 r.1, r.2);
    none_behind = λ p f at up inside. elim (get_pushed ends d p f at) as (λ _. ¬ (IsAt k f)) [
      | inl g ↦ h.none_behind p f g.1 up g.0
      | inr g ↦ subst (λ (c : End × End). ¬ (IsAt k c)) g.1 apart
    ];
  }

  -- where it is
  last-here : (k : ℕ) → IsAt k d → IsLastBefore (ends ++ d ∷ []) k (length ends + 1) (length ends + 1)
  last-here k here = record {
    within = omega arith;
    there = λ p e.
        let last : length ends ≡ p = omega (arith, e) in
        (d, subst (λ (i : ℕ). slice_get (ends ++ d ∷ []) i ≡ Some d) last (get_at_end ends d), here);
    none_behind = λ p f at up inside. absurd (omega (arith, up, inside));
  }

  module _ (lasts : List ℕ) (n : ℕ) (is : n ≡ length ends + 1) (one : d.0.number < length lasts) (other : d.1.number < length lasts)
      (one_last : slice_get lasts d.0.number ≡ Some d.0.earlier) (other_last : slice_get lasts d.1.number ≡ Some d.1.earlier) (h : AreLinked ends lasts) where
    abbrev after : List ℕ
    after = slice_set (slice_set lasts d.0.number n) d.1.number n

    after_long : length after ≡ length lasts
    after_long = length-set (slice_set lasts d.0.number n) d.1.number n ∙ length-set lasts d.0.number n

    now_here : (k m : ℕ) → IsAt k d → Some n ≡ Some m → IsLastBefore (ends ++ d ∷ []) k (length ends + 1) m
    now_here k m here e =
        let same : n ≡ m = cc in
        subst (λ (i : ℕ). IsLastBefore (ends ++ d ∷ []) k (length ends + 1) i) (sym is ∙ same) (last-here k here)

    -- the last edge by number
    now_last : (k m : ℕ) → slice_get after k ≡ Some m → IsLastBefore (ends ++ d ∷ []) k (length ends + 1) m
    now_last k m at = elim (get_set (slice_set lasts d.0.number n) d.1.number k n (subst (λ (i : ℕ). d.1.number < i) (sym (length-set lasts d.0.number n)) other)) as (λ _. IsLastBefore (ends ++ d ∷ []) k (length ends + 1) m) [
      | inl e ↦ now_here k m (inr (sym e.0)) (sym e.1 ∙ at)
      | inr e ↦ elim (get_set lasts d.0.number k n one) as (λ _. IsLastBefore (ends ++ d ∷ []) k (length ends + 1) m) [
        | inl f ↦ now_here k m (inl (sym f.0)) (sym f.1 ∙ sym e.1 ∙ at)
        | inr f ↦ last-past k m (λ here. elim here as (λ _. ⊥) [ inl a ↦ f.0 (sym a) | inr a ↦ e.0 (sym a) ]) (h.last k m (sym f.1 ∙ sym e.1 ∙ at))
      ]
    ]

    pub AreLinked-more : AreLinked (ends ++ d ∷ []) after
    AreLinked-more = record {
      inside = λ p f at. subst (λ (i : ℕ). (f.0.number < i) × (f.1.number < i)) (sym after_long) (elim (get_pushed ends d p f at) as (λ _. (f.0.number < length lasts) × (f.1.number < length lasts)) [
        | inl g ↦ h.inside p f g.1
        | inr g ↦ subst (λ (c : End × End). (c.0.number < length lasts) × (c.1.number < length lasts)) g.1 (one, other)
      ]);
      one = λ p f at. elim (get_pushed ends d p f at) as (λ _. IsLastBefore (ends ++ d ∷ []) f.0.number p f.0.earlier) [
        | inl g ↦ let low = g.0 in last-kept f.0.number p f.0.earlier (omega (arith, low)) (h.one p f g.1)
        | inr g ↦ subst (λ (c : End × End). IsLastBefore (ends ++ d ∷ []) c.0.number p c.0.earlier) g.1
            (subst (λ (i : ℕ). IsLastBefore (ends ++ d ∷ []) d.0.number i d.0.earlier) (sym g.0) (last-kept d.0.number (length ends) d.0.earlier (omega arith) (h.last d.0.number d.0.earlier one_last)))
      ];
      other = λ p f at. elim (get_pushed ends d p f at) as (λ _. IsLastBefore (ends ++ d ∷ []) f.1.number p f.1.earlier) [
        | inl g ↦ let low = g.0 in last-kept f.1.number p f.1.earlier (omega (arith, low)) (h.other p f g.1)
        | inr g ↦ subst (λ (c : End × End). IsLastBefore (ends ++ d ∷ []) c.1.number p c.1.earlier) g.1
            (subst (λ (i : ℕ). IsLastBefore (ends ++ d ∷ []) d.1.number i d.1.earlier) (sym g.0) (last-kept d.1.number (length ends) d.1.earlier (omega arith) (h.last d.1.number d.1.earlier other_last)))
      ];
      last = λ k m at. subst (λ (i : ℕ). IsLastBefore (ends ++ d ∷ []) k i m) (sym (length-append ends (d ∷ []))) (now_last k m at);
    }

-- ---- no ends

same_value : (n k x m : ℕ) → slice_get (replicate n x) k ≡ Some m → x ≡ m
same_value zero k x m h = absurd (none_in k m h)
same_value (suc n) zero x m h = let e : Some x ≡ Some m = h in cc
same_value (suc n) (suc k) x m h = same_value n k x m h

pub AreLinked-none : (count : ℕ) → AreLinked [] (replicate count 0)
AreLinked-none count = record {
  inside = λ p d h. absurd (none_in p d h);
  one = λ p d h. absurd (none_in p d h);
  other = λ p d h. absurd (none_in p d h);
  last = λ k n at. subst (λ (m : ℕ). IsLastBefore [] k 0 m) (same_value count k 0 n at) (record {
    within = omega arith;
    there = λ p e. absurd (omega (arith, e));
    none_behind = λ p d h up inside. absurd (none_in p d h);
  });
}

-- ---- a step over the edge at a place

module _ {N C A : Type 0} (chains : Chains N C A) where
  -- an edge that runs from a number is at it
  pub is_at : (p k n : ℕ) (e : N × N × C) (r : RunsAt chains p k e n) → IsAt k r.ends
  is_at p k n e r = elim r.along as (λ _. IsAt k r.ends) [ inl l ↦ inl (sym l.0) | inr l ↦ inr (sym l.0) ]

  -- it leads to a number that is known
  pub runs_inside : AreChained chains → (k n : ℕ) (e : N × N × C) → Runs chains k e n → n < length chains.lasts.items
  runs_inside chained k n e (p, r) =
      let both = chained.linked.inside p r.ends r.ends_at in
      elim r.along as (λ _. n < length chains.lasts.items) [ inl l ↦ subst (λ (i : ℕ). i < length chains.lasts.items) (sym l.2) both.1 | inr l ↦ subst (λ (i : ℕ). i < length chains.lasts.items) (sym l.2) both.0 ]

  module _ (p k : ℕ) (s : Step N C) (f : N × N × C) (d : End × End) (edge_at : slice_get chains.edges.now p ≡ Some f) (ends_at : slice_get chains.ends.items p ≡ Some d) where
    same_edge : (g : N × N × C) → slice_get chains.edges.now p ≡ Some g → g ≡ f
    same_edge g h = let e : Some g ≡ Some f = sym h ∙ edge_at in cc

    same_ends : (c : End × End) → slice_get chains.ends.items p ≡ Some c → c ≡ d
    same_ends c h = let e : Some c ≡ Some d = sym h ∙ ends_at in cc

    -- as the edge is written
    pub IsStepAt-onward : d.0.number ≡ k → Leads s f d.1.number → IsStepAt chains p k s
    IsStepAt-onward here leads = record {
      runs = record { written = f; ends = d; edge_at = edge_at; ends_at = ends_at; along = inl (sym here, leads.0, leads.1) };
      only = λ e n r.
          let edge = same_edge r.written r.edge_at in
          let ends = same_ends r.ends r.ends_at in
          elim r.along as (λ _. Leads s e n ⊎ (n ≡ k)) [
            | inl l ↦ inl (leads.0 ∙ sym edge ∙ sym l.1, leads.1 ∙ ap (λ (c : End × End). c.1.number) (sym ends) ∙ sym l.2)
            | inr l ↦ inr (l.2 ∙ ap (λ (c : End × End). c.0.number) ends ∙ here)
          ];
    }

    -- the other way round
    pub IsStepAt-backward : d.0.number ≢ k → d.1.number ≡ k → Leads s (turned f) d.0.number → IsStepAt chains p k s
    IsStepAt-backward apart here leads = record {
      runs = record { written = f; ends = d; edge_at = edge_at; ends_at = ends_at; along = inr (sym here, leads.0, leads.1) };
      only = λ e n r.
          let edge = same_edge r.written r.edge_at in
          let ends = same_ends r.ends r.ends_at in
          elim r.along as (λ _. Leads s e n ⊎ (n ≡ k)) [
            | inl l ↦ absurd (apart (ap (λ (c : End × End). c.0.number) (sym ends) ∙ sym l.0))
            | inr l ↦ inl (leads.0 ∙ ap turned (sym edge) ∙ sym l.1, leads.1 ∙ ap (λ (c : End × End). c.0.number) (sym ends) ∙ sym l.2)
          ];
    }

-- ---- the chains of numbered edges are those of the edges

module _ {N C W : Type 0} (edges : List (N × N × C)) (numbered : List (ℕ × ℕ × Weighed N C W)) (in_order : map (λ (e : ℕ × ℕ × Weighed N C W). e.2.edge.now) numbered ≡ edges) where
  pub numbered_long : length numbered ≡ length edges
  numbered_long = sym (length-map numbered (λ (e : ℕ × ℕ × Weighed N C W). e.2.edge.now)) ∙ ap length in_order

  -- the edge at a place
  pub written_at : (p : ℕ) (m : ℕ × ℕ × Weighed N C W) → slice_get numbered p ≡ Some m → slice_get edges p ≡ Some m.2.edge.now
  written_at p m at = subst (λ es. slice_get es p ≡ Some m.2.edge.now) in_order (slice_get-map (λ (e : ℕ × ℕ × Weighed N C W). e.2.edge.now) numbered p ∙ ap (option_map (λ (e : ℕ × ℕ × Weighed N C W). e.2.edge.now)) at)

  module _ {A : Type 0} {eq : N → N → Bool} (nodes : List (Bor N)) (chains : Chains N C A) (h : IsNumbered eq nodes edges numbered) (same : chains.edges.now ≡ edges) (zipped : AllZip HasNumbers numbered chains.ends.items) where
    edge_at : (p : ℕ) (m : ℕ × ℕ × Weighed N C W) → slice_get numbered p ≡ Some m → slice_get chains.edges.now p ≡ Some m.2.edge.now
    edge_at p m at = subst (λ es. slice_get es p ≡ Some m.2.edge.now) (sym same) (written_at p m at)

    stands : (k j : ℕ) (x y : N) → k ≡ j → x ≡ y → StandsFor eq nodes j y → StandsFor eq nodes k x
    stands k j x y p q s = subst (λ (i : ℕ). StandsFor eq nodes i x) (sym p) (subst (λ (z : N). StandsFor eq nodes j z) (sym q) s)

    runs_from : (k n : ℕ) (e : N × N × C) → Runs chains k e n → StandsFor eq nodes k e.0 × StandsFor eq nodes n e.1 × RunsBetween edges e.0 e.1 e.2
    runs_from k n e (p, r) =
        let m = zip_get HasNumbers numbered chains.ends.items p r.ends zipped r.ends_at in
        let both : Some r.written ≡ Some m.0.2.edge.now = sym r.edge_at ∙ edge_at p m.0 m.1 in
        let edge : r.written ≡ m.0.2.edge.now = cc in
        let at = h.from m.0 (get_contains numbered p m.0 m.1) in
        elim r.along as (λ _. StandsFor eq nodes k e.0 × StandsFor eq nodes n e.1 × RunsBetween edges e.0 e.1 e.2) [
          | inl l ↦
              let is : e ≡ m.0.2.edge.now = l.1 ∙ edge in (
                stands k m.0.0 e.0 _ (l.0 ∙ m.2.0) (ap (λ (f : N × N × C). f.0) is) at.1,
                stands n m.0.1 e.1 _ (l.2 ∙ m.2.1) (ap (λ (f : N × N × C). f.1) is) at.2,
                inl (subst (λ (f : N × N × C). Contains edges f) (sym is) at.0),
              )
          | inr l ↦
              let is : turned e ≡ m.0.2.edge.now = ap turned l.1 ∙ edge in (
                stands k m.0.1 e.0 _ (l.0 ∙ m.2.1) (ap (λ (f : N × N × C). f.1) is) at.2,
                stands n m.0.0 e.1 _ (l.2 ∙ m.2.0) (ap (λ (f : N × N × C). f.0) is) at.1,
                inr (subst (λ (f : N × N × C). Contains edges f) (sym is) at.0),
              )
        ]

    -- where an edge stands
    place_of : (f : N × N × C) → Contains edges f → (p : ℕ) × (d : End × End) × (slice_get chains.edges.now p ≡ Some f) × (slice_get chains.ends.items p ≡ Some d)
    place_of f c =
        let r = h.all f c in
        let at = contains_get numbered r.0 r.1 in
        let d = zip_get_left HasNumbers numbered chains.ends.items at.0 r.0 zipped at.1 in
        (at.0, d.0, edge_at at.0 r.0 at.1 ∙ ap Some r.2, d.1)

    pub RunsAsWritten-numbered : length chains.lasts.items ≡ length nodes → RunsAsWritten eq nodes edges chains
    RunsAsWritten-numbered len = record {
      apart = h.apart;
      len = len;
      from = runs_from;
      all = λ x y w r. elim r as (λ _. (k : ℕ) × (n : ℕ) × Runs chains k (x, y, w) n) [
        | inl c ↦ let at = place_of (x, y, w) c in (at.1.0.number, at.1.1.number, (at.0, record { written = (x, y, w); ends = at.1; edge_at = at.2; ends_at = at.3; along = inl (refl, refl, refl) }))
        | inr c ↦ let at = place_of (y, x, w) c in (at.1.1.number, at.1.0.number, (at.0, record { written = (y, x, w); ends = at.1; edge_at = at.2; ends_at = at.3; along = inr (refl, refl, refl) }))
      ];
    }
