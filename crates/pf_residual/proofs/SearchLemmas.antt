-- The steps of a search over arcs.
use Rattle.std.proofs.Common.{ℕ, zero, suc, ◌+◌, ◌<◌, ◌≤◌, ◌≡◌, ◌≢◌, refl, sym, ◌∙◌, ap, subst, arith, List, [], ◌∷◌, ◌++◌, length, take, get_or, inl, inr, ◌⊎◌, Some, Vec, pos, ℤ, replicate, cond, ◌*◌}
use Rattle.std.specs.Prelude.{slice_get, slice_set, Option, None, is_none}
use Rattle.std.specs.List.{count_by, sum_by}
use Rattle.std.proofs.lemmas.List.{length-append, length-set, length-replicate, take_more}
use Rattle.std.proofs.lemmas.List.Sums.{sum_by-set}
use Rattle.std.proofs.lemmas.List.Folds.{sum_by-replicate}
use Rattle.std.proofs.lemmas.Option.{slice_get-get_or, slice_get_within}
use Rattle.pf_base.proofs.ListLemmas.{none_in, get-append, get_set, get_pushed}
use Rattle.pf_residual.specs.declared.cancelling.arcs.Arc.{Arc}
use Rattle.pf_residual.specs.declared.cancelling.search.Step.{Step}
use Rattle.pf_residual.specs.Internal.Cancelling.{Has, AreRows, IsPlaced, Reaches, IsReached, IsStep, Extends, HasAmount, LeadsToPlaced, IsExpanded}
use Rattle.pf_residual.proofs.ChangeListings.{get_last}

-- numbers in a list with one more
pub Has-push : (ks : List ℕ) (k j : ℕ) → Has (ks ++ k ∷ []) j → Has ks j ⊎ (k ≡ j)
Has-push ks k j h = elim (get_pushed ks k h.0 j h.1) as (λ _. Has ks j ⊎ (k ≡ j)) [ inl e ↦ inl (h.0, e.1) | inr e ↦ inr e.1 ]

pub Has-left : (ks : List ℕ) (k j : ℕ) → Has ks j → Has (ks ++ k ∷ []) j
Has-left ks k j h = (h.0, get-append ks (k ∷ []) h.0 j h.1)

pub Has-last : (ks : List ℕ) (k : ℕ) → Has (ks ++ k ∷ []) k
Has-last ks k = (length ks, get_last ks k)

pub Has-take : (ks : List ℕ) (i j : ℕ) → i < length ks → Has (take (i + 1) ks) j → Has (take i ks) j ⊎ (get_or ks i 0 ≡ j)
Has-take ks i j l h = Has-push (take i ks) (get_or ks i 0) j (subst (λ xs. Has xs j) (take_more ks i 0 l) h)

module _ {A : Type 0} where
  -- a row more
  pub rows_none : (rows : List (Vec ℕ A)) (row : Vec ℕ A) → row.items ≡ [] → ((b k : ℕ) (r : Vec ℕ A) → slice_get rows b ≡ Some r → ¬ (Has r.items k)) → (b k : ℕ) (r : Vec ℕ A) → slice_get (rows ++ row ∷ []) b ≡ Some r → ¬ (Has r.items k)
  rows_none rows row none h b k r g m = elim (get_pushed rows row b r g) [
    | inl e ↦ h b k r e.1 m
    | inr e ↦ none_in m.0 k (subst (λ xs. slice_get xs m.0 ≡ Some k) (ap (λ (v : Vec ℕ A). v.items) (sym e.1) ∙ none) m.1)
  ]

  pub rows_begin : (ends : List Arc) (rows : List (Vec ℕ A)) → ((b k : ℕ) (r : Vec ℕ A) → slice_get rows b ≡ Some r → ¬ (Has r.items k)) → AreRows (take 0 ends) rows
  rows_begin ends rows h = record {
    from = λ b k row g m. absurd (h b k row g m);
    all = λ k e g. absurd (none_in k e g);
  }

  -- an arc more, in its row
  pub rows_more : (ends : List Arc) (rows : List (Vec ℕ A)) (e : Arc) (row row' : Vec ℕ A) → slice_get rows e.from ≡ Some row → row'.items ≡ row.items ++ length ends ∷ []
      → AreRows ends rows → AreRows (ends ++ e ∷ []) (slice_set rows e.from row')
  rows_more ends rows e row row' at is h = record {
    from = λ b k r g m. elim (get_set rows e.from b row' inside) as (λ _. (f : Arc) × (slice_get (ends ++ e ∷ []) k ≡ Some f) × (f.from ≡ b)) [
      | inl q ↦ (
          let same : Some row' ≡ Some r = sym q.1 ∙ g in
          let v : row' ≡ r = cc in
          elim (Has-push row.items (length ends) k (subst (λ xs. Has xs k) is (subst (λ (u : Vec ℕ A). Has u.items k) (sym v) m))) as (λ _. (f : Arc) × (slice_get (ends ++ e ∷ []) k ≡ Some f) × (f.from ≡ b)) [
            | inl i ↦ (let o = h.from e.from k row at i in (o.0, get-append ends (e ∷ []) k o.0 o.1, o.2 ∙ sym q.0))
            | inr i ↦ (e, subst (λ (j : ℕ). slice_get (ends ++ e ∷ []) j ≡ Some e) i (get_last ends e), sym q.0)
          ]
          )
      | inr q ↦ (let o = h.from b k r (sym q.1 ∙ g) m in (o.0, get-append ends (e ∷ []) k o.0 o.1, o.2))
    ];
    all = λ k f g. elim (get_pushed ends e k f g) as (λ _. (r : Vec ℕ A) × (slice_get (slice_set rows e.from row') f.from ≡ Some r) × Has r.items k) [
      | inl q ↦ (
          let o = h.all k f q.1 in
          elim (get_set rows e.from f.from row' inside) as (λ _. (r : Vec ℕ A) × (slice_get (slice_set rows e.from row') f.from ≡ Some r) × Has r.items k) [
            | inl p ↦ (
                let same : Some row ≡ Some o.0 = sym at ∙ ap (slice_get rows) (sym p.0) ∙ o.1 in
                let v : row ≡ o.0 = cc in
                (row', p.1, subst (λ xs. Has xs k) (sym is) (Has-left row.items (length ends) k (subst (λ (u : Vec ℕ A). Has u.items k) (sym v) o.2)))
                )
            | inr p ↦ (o.0, p.1 ∙ o.1, o.2)
          ]
          )
      | inr q ↦ (
          let place : slice_get (slice_set rows e.from row') f.from ≡ Some row' =
          elim (get_set rows e.from f.from row' inside) as (λ _. slice_get (slice_set rows e.from row') f.from ≡ Some row') [
            | inl p ↦ p.1
            | inr p ↦ absurd (p.0 (ap (λ (a : Arc). a.from) (sym q.1)))
          ] in
          (row', place, subst (λ xs. Has xs k) (sym is) (subst (λ (j : ℕ). Has (row.items ++ length ends ∷ []) j) (sym q.0) (Has-last row.items (length ends))))
          )
    ];
  }
    where
      inside : e.from < length rows
      inside = slice_get_within rows e.from row at

get_at : {A : Type 0} (xs : List A) (n : ℕ) (x : A) → slice_get xs n ≡ Some x → get_or xs n x ≡ x
get_at [] n x h = refl
get_at (y ∷ ys) zero x h = let e : Some y ≡ Some x = h in cc
get_at (y ∷ ys) (suc n) x h = get_at ys n x h

-- of the places that are free, one less
count_less : (places : List (Option ℕ)) (b j : ℕ) → slice_get places b ≡ Some None → count_by is_none (slice_set places b (Some j)) + 1 ≡ count_by is_none places
count_less places b j h =
    let f : Option ℕ → ℕ = λ p. cond (is_none p) 1 0 in
    let s = sum_by-set f places b (Some j) None (slice_get_within places b None h) in
    let was : f (get_or places b None) ≡ 1 = ap f (get_at places b None h) in
    let now : f (Some j) ≡ 0 = refl in
    omega (arith, s, was, now)

module _ {C : Type 0} (value : C → ℤ) (ends : List Arc) (xs : List C) where
  -- a step stays one among more steps
  pub IsStep-more : (steps : List Step) (t s : Step) → IsStep value ends xs steps s → IsStep value ends xs (steps ++ t ∷ []) s
  IsStep-more steps t s h = record {
    last = h.last;
    known = get-append steps (t ∷ []) s.before h.last h.known;
    arc = h.arc;
    at = h.at;
    from = h.from;
    to = h.to;
    carries = h.carries;
  }

  -- a search takes a step
  pub reached_more : (start : ℕ) (step : Step) (steps : List Step) (places : List (Option ℕ)) (steps' : List Step) (places' : List (Option ℕ)) → IsStep value ends xs steps step → Reaches step steps places steps' places'
      → IsReached value ends xs start steps places → IsReached value ends xs start steps' places'
  reached_more start step steps places steps' places' one (inl h) r =
      subst (λ (ss : List Step). IsReached value ends xs start ss places') (sym h.1) (subst (λ (ps : List (Option ℕ)). IsReached value ends xs start steps ps) (sym h.2) r)
  reached_more start step steps places steps' places' one (inr h) r =
      subst (λ (ss : List Step). IsReached value ends xs start ss places') (sym h.1) (subst (λ (ps : List (Option ℕ)). IsReached value ends xs start (steps ++ step ∷ []) ps) (sym h.2) now)
    where
      b : ℕ
      b = step.vertex

      inside : b < length places
      inside = slice_get_within places b None h.0

      set_at : List (Option ℕ)
      set_at = slice_set places b (Some (length steps))

      now : IsReached value ends xs start (steps ++ step ∷ []) set_at
      now = record {
        first = (r.first.0, get-append steps (step ∷ []) 0 r.first.0 r.first.1, r.first.2);
        behind = λ j s g. elim (get_pushed steps step (suc j) s g) as (λ _. (s.before ≤ j) × IsStep value ends xs (steps ++ step ∷ []) s) [
          | inl e ↦ (let o = r.behind j s e.1 in (o.0, IsStep-more steps step s o.1))
          | inr e ↦ subst (λ (t : Step). (t.before ≤ j) × IsStep value ends xs (steps ++ step ∷ []) t) e.1 (let l = slice_get_within steps step.before one.last one.known in (omega (arith, l, e.0), IsStep-more steps step step one))
        ];
        placed = λ j s g. elim (get_pushed steps step j s g) as (λ _. slice_get set_at s.vertex ≡ Some (Some j)) [
          | inl e ↦ elim (get_set places b s.vertex (Some (length steps)) inside) as (λ _. slice_get set_at s.vertex ≡ Some (Some j)) [
            | inl q ↦ (let bad : Some None ≡ Some (Some j) = sym h.0 ∙ ap (slice_get places) (sym q.0) ∙ r.placed j s e.1 in absurd (cc))
            | inr q ↦ q.1 ∙ r.placed j s e.1
          ]
          | inr e ↦ elim (get_set places b s.vertex (Some (length steps)) inside) as (λ _. slice_get set_at s.vertex ≡ Some (Some j)) [
            | inl q ↦ q.1 ∙ ap (λ (k : ℕ). Some (Some k)) (sym e.0)
            | inr q ↦ absurd (q.0 (ap (λ (t : Step). t.vertex) (sym e.1)))
          ]
        ];
        standing = λ a j g. elim (get_set places b a (Some (length steps)) inside) as (λ _. (s : Step) × (slice_get (steps ++ step ∷ []) j ≡ Some s) × (s.vertex ≡ a)) [
          | inl q ↦ (let same : Some (Some (length steps)) ≡ Some (Some j) = sym q.1 ∙ g in let n : length steps ≡ j = cc in (step, subst (λ (k : ℕ). slice_get (steps ++ step ∷ []) k ≡ Some step) n (get_last steps step), sym q.0))
          | inr q ↦ (let o = r.standing a j (sym q.1 ∙ g) in (o.0, get-append steps (step ∷ []) j o.0 o.1, o.2))
        ];
        count =
            let less = count_less places b (length steps) h.0 in
            let more = length-append steps (step ∷ []) in
            let wide = length-set places b (Some (length steps)) in
            let was = r.count in
            omega (arith, less, more, wide, was);
      }

-- a search that takes a step extends what it has
pub reaches_extends : (step : Step) (steps : List Step) (places : List (Option ℕ)) (steps' : List Step) (places' : List (Option ℕ)) → Reaches step steps places steps' places' → Extends steps places steps' places'
reaches_extends step steps places steps' places' (inl h) = record {
  step = λ j s g. ap (λ (ss : List Step). slice_get ss j) h.1 ∙ g;
  place = λ b j g. ap (λ (ps : List (Option ℕ)). slice_get ps b) h.2 ∙ g;
  wide = ap length h.2;
}
reaches_extends step steps places steps' places' (inr h) = record {
  step = λ j s g. ap (λ (ss : List Step). slice_get ss j) h.1 ∙ get-append steps (step ∷ []) j s g;
  place = λ b j g. ap (λ (ps : List (Option ℕ)). slice_get ps b) h.2 ∙ elim (get_set places step.vertex b (Some (length steps)) (slice_get_within places step.vertex None h.0)) as (λ _. slice_get (slice_set places step.vertex (Some (length steps))) b ≡ Some (Some j)) [
    | inl q ↦ (let bad : Some None ≡ Some (Some j) = sym h.0 ∙ ap (slice_get places) (sym q.0) ∙ g in absurd (cc))
    | inr q ↦ q.1 ∙ g
  ];
  wide = ap length h.2 ∙ length-set places step.vertex (Some (length steps));
}

-- its vertex was reached then
pub reaches_placed : (step : Step) (steps : List Step) (places : List (Option ℕ)) (steps' : List Step) (places' : List (Option ℕ)) → Reaches step steps places steps' places' → IsPlaced places' step.vertex
reaches_placed step steps places steps' places' (inl h) = (h.0.0, ap (λ (ps : List (Option ℕ)). slice_get ps step.vertex) h.2 ∙ h.0.1)
reaches_placed step steps places steps' places' (inr h) = (
  length steps,
  ap (λ (ps : List (Option ℕ)). slice_get ps step.vertex) h.2 ∙ elim (get_set places step.vertex step.vertex (Some (length steps)) (slice_get_within places step.vertex None h.0)) as (λ _. slice_get (slice_set places step.vertex (Some (length steps))) step.vertex ≡ Some (Some (length steps))) [
    | inl q ↦ q.1
    | inr q ↦ absurd (q.0 refl)
  ],
)

pub extends_same : (steps : List Step) (places : List (Option ℕ)) → Extends steps places steps places
extends_same steps places = record { step = λ j s g. g; place = λ b j g. g; wide = refl }

pub extends_then : (s : List Step) (p : List (Option ℕ)) (s' : List Step) (p' : List (Option ℕ)) (s'' : List Step) (p'' : List (Option ℕ)) → Extends s p s' p' → Extends s' p' s'' p'' → Extends s p s'' p''
extends_then s p s' p' s'' p'' h k = record {
  step = λ j t g. k.step j t (h.step j t g);
  place = λ b j g. k.place b j (h.place b j g);
  wide = k.wide ∙ h.wide;
}

module _ {C : Type 0} (value : C → ℤ) (ends : List Arc) (xs : List C) (row : List ℕ) where
  -- one number more: its arc carries no flow, or leads to a vertex that was reached
  pub leads_more : (i : ℕ) (steps : List Step) (places : List (Option ℕ)) (steps' : List Step) (places' : List (Option ℕ)) → i < length row → Extends steps places steps' places'
      → ((e : Arc) → slice_get ends (get_or row i 0) ≡ Some e → HasAmount value xs (get_or row i 0) (λ z. z ≢ pos 0) → IsPlaced places' e.to)
      → LeadsToPlaced value ends xs (take i row) places → LeadsToPlaced value ends xs (take (i + 1) row) places'
  leads_more i steps places steps' places' l x here before = λ k e m at carries. elim (Has-take row i k l m) as (λ _. IsPlaced places' e.to) [
    | inl h ↦ (let o = before k e h at carries in (o.0, x.place e.to o.0 o.1))
    | inr h ↦ here e (ap (slice_get ends) h ∙ at) (carries.0, ap (slice_get xs) h ∙ carries.1, carries.2)
  ]

module _ {C : Type 0} (value : C → ℤ) (ends : List Arc) (xs : List C) where
  -- a search that has reached its start alone
  pub reached_begin : (size start : ℕ) (steps : List Step) (s : Step) → start < size → steps ≡ s ∷ [] → s.vertex ≡ start → IsReached value ends xs start steps (slice_set (replicate size None) start (Some 0))
  reached_begin size start steps s inside is at = subst (λ (ss : List Step). IsReached value ends xs start ss (slice_set (replicate size None) start (Some 0))) (sym is) record {
    first = (s, refl, at);
    behind = λ j t g. absurd (none_in j t g);
    placed = λ j t g. elim (get_pushed [] s j t g) as (λ _. slice_get places t.vertex ≡ Some (Some j)) [
      | inl e ↦ absurd (none_in j t e.1)
      | inr e ↦ elim (get_set (replicate size None) start t.vertex (Some 0) long) as (λ _. slice_get places t.vertex ≡ Some (Some j)) [
        | inl q ↦ q.1 ∙ ap (λ (k : ℕ). Some (Some k)) (sym e.0)
        | inr q ↦ absurd (q.0 (ap (λ (u : Step). u.vertex) (sym e.1) ∙ at))
      ]
    ];
    standing = λ b j g. elim (get_set (replicate size None) start b (Some 0) long) as (λ _. (t : Step) × (slice_get (s ∷ []) j ≡ Some t) × (t.vertex ≡ b)) [
      | inl q ↦ (let same : Some (Some 0) ≡ Some (Some j) = sym q.1 ∙ g in let n : 0 ≡ j = cc in (s, subst (λ (k : ℕ). slice_get (s ∷ []) k ≡ Some s) n refl, at ∙ sym q.0))
      | inr q ↦ (let bad : Some None ≡ Some (Some j) = sym (free size b (Some j) (sym q.1 ∙ g)) ∙ sym q.1 ∙ g in absurd (cc))
    ];
    count =
        let less = count_less (replicate size None) start 0 (free_at size start inside) in
        let all = none_count size in
        let wide = length-set {A = Option ℕ} (replicate size None) start (Some 0) in
        let full = length-replicate {A = Option ℕ} size None in
        omega (arith, less, all, wide, full);
  }
    where
      places : List (Option ℕ)
      places = slice_set (replicate size None) start (Some 0)

      clear : ℕ → List (Option ℕ)
      clear n = replicate n None

      long : start < length (clear size)
      long = omega (arith, inside, length-replicate {A = Option ℕ} size None)

      free_at : (n b : ℕ) → b < n → slice_get (clear n) b ≡ Some None
      free_at zero b l = absurd (omega (arith, l))
      free_at (suc n) zero l = refl
      free_at (suc n) (suc b) l = free_at n b (omega (arith, l))

      free : (n b : ℕ) (o : Option ℕ) → slice_get (clear n) b ≡ Some o → slice_get (clear n) b ≡ Some None
      free n b o g = free_at n b (omega (arith, slice_get_within (clear n) b o g, length-replicate {A = Option ℕ} n None))

      none_count : (n : ℕ) → count_by is_none (clear n) ≡ n
      none_count n = let f : Option ℕ → ℕ = λ p. cond (is_none p) 1 0 in let all : sum_by f (clear n) ≡ n * f None = sum_by-replicate f n None in let one : f None ≡ 1 = refl in all ∙ ap (λ k. n * k) one ∙ omega arith

  -- the next step is expanded too
  pub expanded_more : (at : ℕ) (steps : List Step) (places : List (Option ℕ)) (steps' : List Step) (places' : List (Option ℕ)) (s : Step) → slice_get steps at ≡ Some s → Extends steps places steps' places'
      → ((k : ℕ) (e : Arc) → slice_get ends k ≡ Some e → e.from ≡ s.vertex → HasAmount value xs k (λ z. z ≢ pos 0) → IsPlaced places' e.to)
      → ((i : ℕ) (t : Step) → i < at → slice_get steps' i ≡ Some t → slice_get steps i ≡ Some t)
      → IsExpanded value ends xs at steps places → IsExpanded value ends xs (at + 1) steps' places'
  expanded_more at steps places steps' places' s known x here back before i k t e l g h from carries = elim (last i at l) as (λ _. IsPlaced places' e.to) [
    | inl q ↦ (let same : Some s ≡ Some t = sym (x.step at s known) ∙ ap (slice_get steps') (sym q) ∙ g in let v : s ≡ t = cc in here k e h (from ∙ ap (λ (u : Step). u.vertex) (sym v)) carries)
    | inr q ↦ (let o = before i k t e q (back i t q g) h from carries in (o.0, x.place e.to o.0 o.1))
  ]
    where
      last : (a b : ℕ) → a < b + 1 → (a ≡ b) ⊎ (a < b)
      last zero zero l = inl refl
      last zero (suc b) l = inr (omega arith)
      last (suc a) zero l = absurd (omega (arith, l))
      last (suc a) (suc b) l = elim (last a b (omega (arith, l))) as (λ _. (suc a ≡ suc b) ⊎ (suc a < suc b)) [ inl e ↦ inl (ap suc e) | inr m ↦ inr (omega (arith, m)) ]

-- what stood among the steps before stands there still
pub extends_back : (s : List Step) (p : List (Option ℕ)) (s' : List Step) (p' : List (Option ℕ)) → Extends s p s' p' → (i : ℕ) (t : Step) → i < length s → slice_get s' i ≡ Some t → slice_get s i ≡ Some t
extends_back s p s' p' x i t l g =
    let u = get_or s i t in
    let at : slice_get s i ≡ Some u = slice_get-get_or s i t l in
    let same : Some u ≡ Some t = sym (x.step i u at) ∙ g in
    at ∙ same
