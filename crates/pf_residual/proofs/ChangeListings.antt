-- Lists of pairs in rising order, pair by pair.
use Rattle.std.proofs.Common.{◌≡◌, ◌∙◌, refl, sym, ap, subst, ◌<◌, ◌≤◌, ◌+◌, ℕ, ℤ, zero, suc, pos, arith, inl, inr, ◌⊎◌, List, [], ◌∷◌, ◌++◌, length, Some}
use Rattle.std.specs.Prelude.{◌<ℤ◌, slice_get}
use Rattle.std.proofs.lemmas.Option.{slice_get_within}
use Rattle.pf_base.proofs.ListLemmas.{get-append, none_in, get_pushed}
use Rattle.pf_residual.specs.Flows.{PairTable}
use Rattle.pf_residual.specs.Networks.{Network}
use Rattle.pf_residual.specs.Listings.{ListsPairs, ListsVertices, IsBefore}
use Rattle.pf_residual.specs.Internal.Prefixes.{IsAmong, ListsFlowsBefore, ListsFlowsTo}

pub get_last : {A : Type 0} (xs : List A) (x : A) → slice_get (xs ++ x ∷ []) (length xs) ≡ Some x
get_last [] x = refl
get_last (y ∷ xs) x = get_last xs x

module _ {C : Type 0} (value : C → ℤ) (n : ℕ) (table : PairTable) where
  -- no pair is chosen
  pub lists_none : (chosen : ℕ → ℕ → Type 0) → ((a b : ℕ) → chosen a b → ⊥) → ListsPairs value n chosen table []
  lists_none chosen never = record {
    rising = λ i j d e l p q. absurd (none_in i d p);
    sound = λ i e p. absurd (none_in i e p);
    complete = λ a b l m p. absurd (never a b p);
  }

  -- the same pairs in other words
  pub lists_same : (chosen chosen' : ℕ → ℕ → Type 0) (edges : List ((ℕ × ℕ) × C)) → ((a b : ℕ) → a < n → b < n → chosen a b → chosen' a b) → ((a b : ℕ) → a < n → b < n → chosen' a b → chosen a b)
      → ListsPairs value n chosen table edges → ListsPairs value n chosen' table edges
  lists_same chosen chosen' edges to from h = record {
    rising = h.rising;
    sound = λ i e g. let s = h.sound i e g in (s.0, s.1, to e.0.0 e.0.1 s.0 s.1 s.2, s.3);
    complete = λ a b l m k. h.complete a b l m (from a b l m k);
  }

  -- one pair more, behind all others
  pub lists_more : (chosen chosen' : ℕ → ℕ → Type 0) (edges : List ((ℕ × ℕ) × C)) (e : (ℕ × ℕ) × C) → e.0.0 < n → e.0.1 < n → value e.1 ≡ table e.0.0 e.0.1
      → ((i : ℕ) (d : (ℕ × ℕ) × C) → slice_get edges i ≡ Some d → IsBefore d.0 e.0)
      → ((a b : ℕ) → a < n → b < n → chosen a b → chosen' a b) → chosen' e.0.0 e.0.1
      → ((a b : ℕ) → a < n → b < n → chosen' a b → chosen a b ⊎ ((a ≡ e.0.0) × (b ≡ e.0.1)))
      → ListsPairs value n chosen table edges → ListsPairs value n chosen' table (edges ++ e ∷ [])
  lists_more chosen chosen' edges e l m is behind to here from h = record {
    rising = λ i j d f o p q. elim (get_pushed edges e i d p) as (λ _. IsBefore d.0 f.0) [
      | inl a ↦ elim (get_pushed edges e j f q) as (λ _. IsBefore d.0 f.0) [
        | inl b ↦ h.rising i j d f o a.1 b.1
        | inr b ↦ subst (λ (t : (ℕ × ℕ) × C). IsBefore d.0 t.0) b.1 (behind i d a.1)
      ]
      | inr a ↦ elim (get_pushed edges e j f q) as (λ _. IsBefore d.0 f.0) [
        | inl b ↦ absurd (omega (arith, a.0, b.0, o))
        | inr b ↦ absurd (omega (arith, a.0, b.0, o))
      ]
    ];
    sound = λ i d g. elim (get_pushed edges e i d g) as (λ _. (d.0.0 < n) × (d.0.1 < n) × chosen' d.0.0 d.0.1 × (value d.1 ≡ table d.0.0 d.0.1)) [
      | inl a ↦ (let s = h.sound i d a.1 in (s.0, s.1, to d.0.0 d.0.1 s.0 s.1 s.2, s.3))
      | inr a ↦ subst (λ (t : (ℕ × ℕ) × C). (t.0.0 < n) × (t.0.1 < n) × chosen' t.0.0 t.0.1 × (value t.1 ≡ table t.0.0 t.0.1)) a.1 (l, m, here, is)
    ];
    complete = λ a b o p k. elim (from a b o p k) as (λ _. (i : ℕ) × (c : C) × (slice_get (edges ++ e ∷ []) i ≡ Some ((a, b), c))) [
      | inl q ↦ (let s = h.complete a b o p q in (s.0, s.1, get-append edges (e ∷ []) s.0 ((a, b), s.1) s.2))
      | inr q ↦ (
        length edges,
        e.1,
        get_last edges e ∙ ap (λ (t : ℕ × ℕ). Some (t, e.1)) (ap (λ (u : ℕ). (u, e.0.1)) (sym q.0) ∙ ap (λ (u : ℕ). (a, u)) (sym q.1)),
      )
    ];
  }

module _ {C : Type 0} (value : C → ℤ) (N : Network) (from : ℕ) (inside : from < N.vertices) (ends : List ℕ) (h : ListsVertices N.vertices (λ to. pos 0 <ℤ N.flow from to) ends) where
  pub flows_begin : (edges : List ((ℕ × ℕ) × C)) → ListsFlowsBefore value N from edges → ListsFlowsTo value N from ends 0 edges
  flows_begin edges = lists_same value N.vertices N.flow _ _ edges (λ a b l m k. inl k) (λ a b l m k. elim k as (λ _. (a < from) × (pos 0 <ℤ N.flow a b)) [ inl j ↦ j | inr j ↦ absurd (omega (arith, j.1.1)) ])

  pub flows_end : (i : ℕ) → length ends ≤ i → (edges : List ((ℕ × ℕ) × C)) → ListsFlowsTo value N from ends i edges → ListsFlowsBefore value N (from + 1) edges
  flows_end i all edges = lists_same value N.vertices N.flow _ _ edges
      (λ a b l m k. elim k as (λ _. (a < from + 1) × (pos 0 <ℤ N.flow a b)) [
        | inl j ↦ (omega (arith, j.0), j.1)
        | inr j ↦ (omega (arith, j.0), subst (λ (u : ℕ). pos 0 <ℤ N.flow u b) (sym j.0) (h.sound j.1.0 b j.1.2).1)
      ])
      (λ a b l m k. elim (split a k.0) as (λ _. ((a < from) × (pos 0 <ℤ N.flow a b)) ⊎ ((a ≡ from) × IsAmong ends i b)) [
        | inl e ↦ (let s = h.complete b m (subst (λ (u : ℕ). pos 0 <ℤ N.flow u b) e k.1) in inr (e, (s.0, omega (arith, all, slice_get_within ends s.0 b s.1), s.1)))
        | inr e ↦ inl (e, k.1)
      ])
    where
      split : (a : ℕ) → a < from + 1 → (a ≡ from) ⊎ (a < from)
      split a l = by a from l
        where
          by : (a b : ℕ) → a < b + 1 → (a ≡ b) ⊎ (a < b)
          by zero zero l = inl refl
          by zero (suc b) l = inr (omega arith)
          by (suc a) zero l = absurd (omega (arith, l))
          by (suc a) (suc b) l = elim (by a b (omega (arith, l))) as (λ _. (suc a ≡ suc b) ⊎ (suc a < suc b)) [ inl e ↦ inl (ap suc e) | inr m ↦ inr (omega (arith, m)) ]

  pub flows_more : (i to : ℕ) (c : C) → slice_get ends i ≡ Some to → value c ≡ N.flow from to → (edges : List ((ℕ × ℕ) × C)) → ListsFlowsTo value N from ends i edges → ListsFlowsTo value N from ends (i + 1) (edges ++ ((from, to), c) ∷ [])
  flows_more i to c at is edges now = lists_more value N.vertices N.flow _ _ edges ((from, to), c) inside (h.sound i to at).0 is
      (λ j d g. elim (now.sound j d g).2 as (λ _. IsBefore d.0 (from, to)) [
        | inl k ↦ inl k.0
        | inr k ↦ inr (k.0, h.rising k.1.0 i d.0.1 to k.1.1 k.1.2 at)
      ])
      (λ a b l m k. elim k as (λ _. ((a < from) × (pos 0 <ℤ N.flow a b)) ⊎ ((a ≡ from) × IsAmong ends (i + 1) b)) [
        | inl j ↦ inl j
        | inr j ↦ inr (j.0, (j.1.0, omega (arith, j.1.1), j.1.2))
      ])
      (inr (refl, (i, omega arith, at)))
      (λ a b l m k. elim k as (λ _. (((a < from) × (pos 0 <ℤ N.flow a b)) ⊎ ((a ≡ from) × IsAmong ends i b)) ⊎ ((a ≡ from) × (b ≡ to))) [
        | inl j ↦ inl (inl j)
        | inr j ↦ elim (last j.1.0 i j.1.1) as (λ _. (((a < from) × (pos 0 <ℤ N.flow a b)) ⊎ ((a ≡ from) × IsAmong ends i b)) ⊎ ((a ≡ from) × (b ≡ to))) [
          | inl e ↦ (let same : Some to ≡ Some b = sym at ∙ ap (slice_get ends) (sym e) ∙ j.1.2 in inr (j.0, cc))
          | inr e ↦ inl (inr (j.0, (j.1.0, e, j.1.2)))
        ]
      ])
      now
    where
      last : (a b : ℕ) → a < b + 1 → (a ≡ b) ⊎ (a < b)
      last zero zero l = inl refl
      last zero (suc b) l = inr (omega arith)
      last (suc a) zero l = absurd (omega (arith, l))
      last (suc a) (suc b) l = elim (last a b (omega (arith, l))) as (λ _. (suc a ≡ suc b) ⊎ (suc a < suc b)) [ inl e ↦ inl (ap suc e) | inr m ↦ inr (omega (arith, m)) ]
