-- That what is kept of a graph stays right when more nodes are found and a row is added.
use Rattle.std.proofs.Common.{◌≡◌, ◌≤◌, ◌<◌, ◌+◌, ◌-◌, ℕ, zero, suc, ℤ, Bool, true, false, Some, Option, List, [], ◌∷◌, ◌++◌, ◌∙◌, length, length-append, sym, subst, ap, refl, inl, inr, arith}
use Rattle.std.specs.Prelude.{◌⊎◌, slice_get}
use Rattle.std.specs.Cmp.{IsEquivalence}
use Rattle.std.proofs.lemmas.Int.{ints}
use Rattle.std.proofs.lemmas.Option.{slice_get_within}
use Rattle.pf_core.specs.Nodes.{NodeGraph, StandsFor, IsStep}
use Rattle.pf_core.specs.Numbered.{ListsSteps, Grows}
use Rattle.pf_base.proofs.ListLemmas.{none_in, get-append}
use Rattle.pf_core.proofs.NodeLemmas.{eq-sym, eq-trans, HasEdge-same}
use Rattle.pf_core.proofs.SearchLemmas.{Grows-refl}
use Rattle.pf_informed.specs.declared.directed.idastar.known.Known.{Known}
use Rattle.pf_deepening.specs.declared.rows.Span.{Span}
use Rattle.pf_informed.specs.Internal.Estimated.{IsEstimated}
use Rattle.pf_deepening.specs.Ways.{HasSpan}
use Rattle.pf_informed.specs.Internal.Rows.{IsCheapestOf, IsIn, IsCheapStep, IsTable, HasRows, IsWhole, KnowsMore, KnowsStart}

pub get_left : {A : Type 0} (xs ys : List A) (i : ℕ) → i < length xs → slice_get (xs ++ ys) i ≡ slice_get xs i
get_left [] ys i h = absurd (omega (arith, h))
get_left (x ∷ xs) ys zero h = refl
get_left (x ∷ xs) ys (suc i) h = get_left xs ys i (omega (arith, h))

get_right : {A : Type 0} (xs ys : List A) (i j : ℕ) → j ≡ length xs + i → slice_get (xs ++ ys) j ≡ slice_get ys i
get_right [] ys i j e = ap (slice_get ys) (omega (arith, e))
get_right (x ∷ xs) ys i zero e = absurd (omega (arith, e))
get_right (x ∷ xs) ys i (suc j) e = get_right xs ys i j (omega (arith, e))

pub no_span : (spans : List (Option Span)) → spans ≡ [] → (k : ℕ) (s : Span) → ¬ (HasSpan spans k s)
no_span spans e k s h = none_in k (Some s) (subst (λ (xs : List (Option Span)). slice_get xs k ≡ Some (Some s)) e h)

-- nothing is kept yet
pub no_rows : {X C : Type 0} (value : C → ℤ) (step : X → ℤ → X → Type 0) (passes : X → Bool) (stands : ℕ → X → Type 0) (steps : List (ℕ × C)) (spans : List (Option Span)) → spans ≡ [] → HasRows value step passes stands steps spans
no_rows value step passes stands steps spans e = record {
  fails = λ k s x h. absurd (no_span spans e k s h);
  sound = λ k s x h. absurd (no_span spans e k s h);
  complete = λ k s x h. absurd (no_span spans e k s h);
}

pub no_table : {C : Type 0} (found : ℕ) (steps : List (ℕ × C)) (spans : List (Option Span)) → steps ≡ [] → spans ≡ [] → IsTable found steps spans
no_table {C} found steps spans e f = record {
  numbered = λ k s h. absurd (no_span spans f k s h);
  within = λ k s h. absurd (no_span spans f k s h);
  inside = λ i j c h. absurd (none_in i (j, c) (subst (λ (xs : List (ℕ × C)). slice_get xs i ≡ Some (j, c)) e h));
}

-- a row was added
module _ {C : Type 0} (found found' : ℕ) (more : found ≤ found') (steps row steps' : List (ℕ × C)) (spans spans' : List (Option Span)) (number : ℕ) (r : Span) (is : steps' ≡ steps ++ row) (begin : r.begin ≡ length steps) (end : r.end ≡ length steps + length row)
    (from : (k : ℕ) (s : Span) → HasSpan spans' k s → HasSpan spans k s ⊎ ((k ≡ number) × (s ≡ r))) (t : IsTable found steps spans) where
  long : length steps' ≡ length steps + length row
  long = omega (arith, ap length is, length-append steps row)

  pub table_more : number < found' → ((i j : ℕ) (c : C) → slice_get row i ≡ Some (j, c) → j < found') → IsTable found' steps' spans'
  table_more inside ends = record {
    numbered = λ k s h. elim (from k s h) as (λ _. k < found') [
      | inl o ↦ let l = t.numbered k s o in omega (arith, l, more)
      | inr e ↦ omega (arith, e.0, inside)
    ];
    within = λ k s h. elim (from k s h) as (λ _. (s.begin ≤ s.end) × (s.end ≤ length steps')) [
      | inl o ↦ let l = t.within k s o in (l.0, omega (arith, l.1, long))
      | inr e ↦ (omega (arith, ap (λ (q : Span). q.begin) e.1, ap (λ (q : Span). q.end) e.1, begin, end), omega (arith, ap (λ (q : Span). q.end) e.1, end, long))
    ];
    inside = λ i j c h.
        let there : slice_get (steps ++ row) i ≡ Some (j, c) = subst (λ (xs : List (ℕ × C)). slice_get xs i ≡ Some (j, c)) is h in
        by i j c there (slice_get_within (steps ++ row) i (j, c) there);
  }
    where
      by : (i j : ℕ) (c : C) → slice_get (steps ++ row) i ≡ Some (j, c) → i < length (steps ++ row) → j < found'
      by i j c there l = elim (split i) as (λ _. j < found') [
        | inl q ↦ let o = t.inside i j c (sym (get_left steps row i q) ∙ there) in omega (arith, o, more)
        | inr q ↦ ends q.0 j c (sym (get_right steps row q.0 i q.1) ∙ there)
      ]
        where
          split : (i : ℕ) → (i < length steps) ⊎ ((n : ℕ) × (i ≡ length steps + n))
          split i = at (length steps) i
            where
              at : (n i : ℕ) → (i < n) ⊎ ((m : ℕ) × (i ≡ n + m))
              at zero i = inr (i, omega arith)
              at (suc n) zero = inl (omega arith)
              at (suc n) (suc i) = elim (at n i) as (λ _. (suc i < suc n) ⊎ ((m : ℕ) × (suc i ≡ suc n + m))) [ inl l ↦ inl (omega (arith, l)) | inr m ↦ inr (m.0, omega (arith, m.1)) ]

  module _ {X : Type 0} (value : C → ℤ) (step : X → ℤ → X → Type 0) (passes : X → Bool) (stands stands' : ℕ → X → Type 0) (g : Grows found found' stands stands') where
    pub rows_more : ((x : X) → stands' number x → passes x ≡ false)
        → ((x : X) → stands' number x → (i j : ℕ) (c : C) → slice_get row i ≡ Some (j, c) → (y : X) × step x (value c) y × stands' j y)
        → ((x : X) → stands' number x → (z : ℤ) (y : X) → step x z y → (i j : ℕ) × (c : C) × (slice_get row i ≡ Some (j, c)) × stands' j y × (value c ≡ z))
        → HasRows value step passes stands steps spans → HasRows value step passes stands' steps' spans'
    rows_more fails sound complete h = record {
      fails = λ k s x has here. elim (from k s has) as (λ _. passes x ≡ false) [
        | inl o ↦ h.fails k s x o (g.back k x (t.numbered k s o) here)
        | inr e ↦ fails x (subst (λ (n : ℕ). stands' n x) e.0 here)
      ];
      sound = λ k s x has here i j c within at. elim (from k s has) as (λ _. (y : X) × step x (value c) y × stands' j y) [
        | inl o ↦
            let w = t.within k s o in
            let l : i < length steps = omega (arith, within.1, w.1) in
            let q = h.sound k s x o (g.back k x (t.numbered k s o) here) i j c within (sym (get_left steps row i l) ∙ subst (λ (xs : List (ℕ × C)). slice_get xs i ≡ Some (j, c)) is at) in
            (q.0, q.1, g.stays j q.0 q.2)
        | inr e ↦
            let b : s.begin ≡ length steps = ap (λ (q : Span). q.begin) e.1 ∙ begin in
            let place : i ≡ length steps + (i - length steps) = omega (arith, within.0, b) in
            sound x (subst (λ (n : ℕ). stands' n x) e.0 here) (i - length steps) j c (sym (get_right steps row (i - length steps) i place) ∙ subst (λ (xs : List (ℕ × C)). slice_get xs i ≡ Some (j, c)) is at)
      ];
      complete = λ k s x has here z y e. elim (from k s has) as (λ _. (i j : ℕ) × (c : C) × IsIn s i × (slice_get steps' i ≡ Some (j, c)) × stands' j y × (value c ≡ z)) [
        | inl o ↦
            let q = h.complete k s x o (g.back k x (t.numbered k s o) here) z y e in
            (q.0, q.1, q.2, q.3, subst (λ (xs : List (ℕ × C)). slice_get xs q.0 ≡ Some (q.1, q.2)) (sym is) (get-append steps row q.0 (q.1, q.2) q.4), g.stays q.1 y q.5, q.6)
        | inr f ↦
            let q = complete x (subst (λ (n : ℕ). stands' n x) f.0 here) z y e in
            let l = slice_get_within row q.0 (q.1, q.2) q.3 in
            let b : s.begin ≡ length steps = ap (λ (n : Span). n.begin) f.1 ∙ begin in
            let d : s.end ≡ length steps + length row = ap (λ (n : Span). n.end) f.1 ∙ end in (
              length steps + q.0,
              q.1,
              q.2,
              (omega (arith, b), omega (arith, d, l)),
              subst (λ (xs : List (ℕ × C)). slice_get xs (length steps + q.0) ≡ Some (q.1, q.2)) (sym is) (get_right steps row q.0 (length steps + q.0) refl ∙ q.3),
              q.4,
              q.5,
            )
      ];
    }

-- the same rows, where more numbers stand
pub rows_grown : {X C : Type 0} (value : C → ℤ) (step : X → ℤ → X → Type 0) (passes : X → Bool) (stands stands' : ℕ → X → Type 0) (found found' : ℕ) (steps : List (ℕ × C)) (spans : List (Option Span)) → Grows found found' stands stands' → IsTable found steps spans → HasRows value step passes stands steps spans → HasRows value step passes stands' steps spans
rows_grown value step passes stands stands' found found' steps spans g t h = record {
  fails = λ k s x has here. h.fails k s x has (g.back k x (t.numbered k s has) here);
  sound = λ k s x has here i j c within at. let q = h.sound k s x has (g.back k x (t.numbered k s has) here) i j c within at in (q.0, q.1, g.stays j q.0 q.2);
  complete = λ k s x has here z y e. let q = h.complete k s x has (g.back k x (t.numbered k s has) here) z y e in (q.0, q.1, q.2, q.3, q.4, g.stays q.1 y q.5, q.6);
}

module _ {N : Type 0} (eq : N → N → Bool) (laws : IsEquivalence eq) where
  -- a number stands for nodes that are the same
  pub one_node : (keys : List N) (k : ℕ) (x y : N) → StandsFor eq keys k x → StandsFor eq keys k y → eq x y ≡ true
  one_node keys k x y a b =
      let e : Some a.0 ≡ Some b.0 = sym a.1 ∙ b.1 in
      let same : a.0 ≡ b.0 = cc in
      eq-trans eq laws x a.0 y (eq-sym eq laws a.0 x a.2) (subst (λ (z : N). eq z y ≡ true) (sym same) b.2)

  pub estimated_grown : {C : Type 0} (value : C → ℤ) (least : N → ℤ) (within : N → Type 0) → ((x y : N) → within x → eq x y ≡ true → least x ≡ least y) → (keys keys' : List N) → ((k : ℕ) (x : N) → slice_get keys k ≡ Some x → within x) → Grows (length keys) (length keys') (StandsFor eq keys) (StandsFor eq keys') → (estimates : List C) → length estimates ≡ length keys → IsEstimated value least (slice_get keys) estimates → IsEstimated value least (slice_get keys') estimates
  estimated_grown value least within alike keys keys' reached g estimates asked known k x c a e =
      let l = slice_get_within estimates k c e in
      let s = g.back k x (omega (arith, l, asked)) (x, a, laws.refl x) in
      known k s.0 c s.1 e ∙ alike s.0 x (reached k s.0 s.1) s.2

  -- a row of the cheapest steps of a list lists the cheapest steps of the graph
  module _ {C : Type 0} (value : C → ℤ) (g : NodeGraph N) (keys : List N) (x : N) (row entries : List (ℕ × C)) (places : List ℕ) (h : IsCheapestOf value row places entries) (l : ListsSteps value (IsStep eq g) (StandsFor eq keys) x entries) where
    pub cheap_sound : (i j : ℕ) (c : C) → slice_get row i ≡ Some (j, c) → (y : N) × IsCheapStep eq g x (value c) y × StandsFor eq keys j y
    cheap_sound i j c at =
        let s = l.sound j c (h.from i j c at) in (
          s.0,
          (
            s.1.0,
            record {
              edge = s.1.1;
              cheapest = λ z e. let q = l.complete z s.0 j (s.1.0, e) s.2 in let low = h.least i j c q.0 at q.1 in omega (arith, ints, low, q.2);
            },
          ),
          s.2,
        )

    pub cheap_complete : (z : ℤ) (y : N) → IsCheapStep eq g x z y → (i j : ℕ) × (c : C) × (slice_get row i ≡ Some (j, c)) × StandsFor eq keys j y × (value c ≡ z)
    cheap_complete z y e =
        let costs = e.1 in
        let step : IsStep eq g x z y = (e.0, costs.edge) in
        let n = l.numbered z y step in
        let q = l.complete z y n.0 step n.1 in
        let a = h.all n.0 q.0 q.1 in
        let low = h.least a.0 n.0 a.1 q.0 a.2 q.1 in
        let s = l.sound n.0 a.1 (h.from a.0 n.0 a.1 a.2) in
        let edge = HasEdge-same eq laws (g.edges x) s.0 y (value a.1) (one_node keys n.0 s.0 y s.2 n.1) s.1.1 in
        let above = costs.cheapest (value a.1) edge in
        (a.0, n.0, a.1, a.2, n.1, omega (arith, ints, low, above, q.2))

module _ {M N C S T H Z : Type 0} {keys_of : M → List N} {eq : N → N → Bool} where
  pub more_refl : {known : Known M C S T H Z} → IsWhole keys_of known → KnowsMore keys_of eq known known
  more_refl whole = record { whole = whole; grows = Grows-refl _ _; steps = λ i x h. h; spans = λ k s h. h }

  pub start_of_more : {known known' : Known M C S T H Z} → KnowsMore keys_of eq known known' → KnowsStart keys_of eq known known'
  start_of_more m = record { whole = m.whole; first = m.grows.stays 0 }

  pub start_trans : {known known' known'' : Known M C S T H Z} → KnowsStart keys_of eq known known' → KnowsStart keys_of eq known' known'' → KnowsStart keys_of eq known known''
  start_trans m n = record { whole = n.whole; first = λ x s. n.first x (m.first x s) }
