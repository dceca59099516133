-- Tables whose edges are turned round.
use Rattle.std.proofs.Common.{◌≡◌, ◌⊎◌, inl, inr, ℕ, zero, suc, ◌+◌, ◌-◌, ◌<◌, ◌≤◌, refl, sym, subst, ◌∙◌, ap, arith, Bool, true, false, true≢false, List, [], ◌∷◌, ◌++◌, length, Some, take, nat_eq, if◌then◌else◌}
use Rattle.std.specs.Prelude.{ℤ, Option, None, map, slice_get}
use Rattle.std.specs.List.{cons_option}
use Rattle.std.proofs.lemmas.Bool.{eqb-true}
use Rattle.std.proofs.lemmas.Cmp.{nat_eq_equiv}
use Rattle.std.proofs.lemmas.List.{map-append}
use Rattle.pf_base.specs.Edges.{HasEdge}
use Rattle.pf_base.proofs.ListLemmas.{nat_dec, none_in}
use Rattle.pf_tables.specs.Graphs.{IsGraph, between, edges_at, filled, graph_of, present}
use Rattle.pf_tables.proofs.Faulty.{some_same}
use Rattle.pf_tables.proofs.GraphLemmas.{edge_inside, edges_within, listed}
use Rattle.pf_tables.proofs.PresentLemmas.{present_more, present_same}
use Rattle.pf_adjacency.specs.NumberedEdges.{AreSoundEdges, IsSoundEdge, ends_from}
use Rattle.pf_adjacency.specs.Reverses.{IsReverse, IsTurnedRound, turned_row, turned_below}

module _ {C : Type 0} (node : ℕ) (places : List (Option (ℕ × C))) (i : ℕ) where
  pub turned_more : (edge : ℕ × C) → slice_get places i ≡ Some (Some edge) → turned_row node (take (i + 1) places) ≡ turned_row node (take i places) ++ (edge.0, node, edge.1) ∷ []
  turned_more edge h = ap (map (λ (e : ℕ × C). (e.0, node, e.1))) (present_more places i edge h) ∙ map-append (λ (e : ℕ × C). (e.0, node, e.1)) (present (take i places)) (edge ∷ [])

  pub turned_same : slice_get places i ≡ Some None → turned_row node (take (i + 1) places) ≡ turned_row node (take i places)
  turned_same h = ap (map (λ (e : ℕ × C). (e.0, node, e.1))) (present_same places i h)

-- ---- each turned edge is sound

each_append : {X : Type 0} (P : X → Type 0) (xs ys : List X) → ((k : ℕ) (x : X) → slice_get xs k ≡ Some x → P x) → ((k : ℕ) (y : X) → slice_get ys k ≡ Some y → P y) → (k : ℕ) (z : X) → slice_get (xs ++ ys) k ≡ Some z → P z
each_append P [] ys a b k z h = b k z h
each_append P (x ∷ xs) ys a b zero z h = a 0 z h
each_append P (x ∷ xs) ys a b (suc k) z h = each_append P xs ys (λ j d s. a (suc j) d s) b k z h

each_turned : {C : Type 0} (P : ℕ × ℕ × C → Type 0) (node : ℕ) (places : List (Option (ℕ × C))) → ((k : ℕ) (e : ℕ × C) → slice_get places k ≡ Some (Some e) → P (e.0, node, e.1))
    → (k : ℕ) (t : ℕ × ℕ × C) → slice_get (turned_row node places) k ≡ Some t → P t
each_turned P node [] h k t s = absurd (none_in k t s)
each_turned P node (None ∷ ps) h k t s = each_turned P node ps (λ j d u. h (suc j) d u) k t s
each_turned P node (Some e ∷ ps) h zero t s = subst P (some_same s) (h 0 e refl)
each_turned P node (Some e ∷ ps) h (suc k) t s = each_turned P node ps (λ j d u. h (suc j) d u) k t s

module _ {C : Type 0} (value : C → ℤ) (size : ℕ) (places : ℕ → List (Option (ℕ × C))) (graph : IsGraph value size places) where
  sound_below : (n : ℕ) → n ≤ size → AreSoundEdges value size (turned_below places n)
  sound_below zero l = λ k t h. absurd (none_in k t h)
  sound_below (suc n) l = each_append (IsSoundEdge value size) (turned_below places n) (turned_row n (places n)) (sound_below n (omega arith))
      (each_turned (IsSoundEdge value size) n (places n) (λ k e s. record { source = graph.inside n k e (omega arith) s; target = omega arith; from_zero = graph.from_zero n k e (omega arith) s }))

  pub turned_sound : AreSoundEdges value size (turned_below places size)
  turned_sound = sound_below size (omega arith)

-- ---- the turned edges mirror the table

module _ {C : Type 0} (value : C → ℤ) where
  -- one of the edges comes from a, leads to b and costs z
  abbrev HasTriple : List (ℕ × ℕ × C) → ℕ → ℕ → ℤ → Type 0
  HasTriple [] a b z = ⊥
  HasTriple (t ∷ ts) a b z = ((nat_eq t.0 a ≡ true) × (nat_eq t.1 b ≡ true) × (value t.2 ≡ z)) ⊎ HasTriple ts a b z

  left : (xs ys : List (ℕ × ℕ × C)) (a b : ℕ) (z : ℤ) → HasTriple xs a b z → HasTriple (xs ++ ys) a b z
  left [] ys a b z h = absurd h
  left (x ∷ xs) ys a b z (inl h) = inl h
  left (x ∷ xs) ys a b z (inr h) = inr (left xs ys a b z h)

  right : (xs ys : List (ℕ × ℕ × C)) (a b : ℕ) (z : ℤ) → HasTriple ys a b z → HasTriple (xs ++ ys) a b z
  right [] ys a b z h = h
  right (x ∷ xs) ys a b z h = inr (right xs ys a b z h)

  either : (xs ys : List (ℕ × ℕ × C)) (a b : ℕ) (z : ℤ) → HasTriple (xs ++ ys) a b z → HasTriple xs a b z ⊎ HasTriple ys a b z
  either [] ys a b z h = inr h
  either (x ∷ xs) ys a b z (inl h) = inl (inl h)
  either (x ∷ xs) ys a b z (inr h) = elim (either xs ys a b z h) as (λ _. HasTriple (x ∷ xs) a b z ⊎ HasTriple ys a b z) [ inl l ↦ inl (inr l) | inr r ↦ inr r ]

  -- the edges from a number among edges
  listed_from : (ts : List (ℕ × ℕ × C)) (a b : ℕ) (z : ℤ) → HasTriple ts a b z → HasEdge nat_eq (edges_at value (filled (ends_from nat_eq ts a))) b z
  listed_from [] a b z h = absurd h
  listed_from (t ∷ ts) a b z h = by (nat_eq t.0 a) refl h (listed_from ts a b z)
    where
      by : (s : Bool) → nat_eq t.0 a ≡ s → HasTriple (t ∷ ts) a b z → (HasTriple ts a b z → HasEdge nat_eq (edges_at value (filled (ends_from nat_eq ts a))) b z)
          → HasEdge nat_eq (edges_at value (filled (cons_option (if s then Some (t.1, t.2) else None) (ends_from nat_eq ts a)))) b z
      by true e (inl m) rest = inl (m.1, m.2)
      by true e (inr m) rest = inr (rest m)
      by false e (inl m) rest = absurd (true≢false (sym m.0 ∙ e))
      by false e (inr m) rest = rest m

  from_listed : (ts : List (ℕ × ℕ × C)) (a b : ℕ) (z : ℤ) → HasEdge nat_eq (edges_at value (filled (ends_from nat_eq ts a))) b z → HasTriple ts a b z
  from_listed [] a b z h = absurd h
  from_listed (t ∷ ts) a b z h = by (nat_eq t.0 a) refl h (from_listed ts a b z)
    where
      by : (s : Bool) → nat_eq t.0 a ≡ s → HasEdge nat_eq (edges_at value (filled (cons_option (if s then Some (t.1, t.2) else None) (ends_from nat_eq ts a)))) b z
          → (HasEdge nat_eq (edges_at value (filled (ends_from nat_eq ts a))) b z → HasTriple ts a b z) → HasTriple (t ∷ ts) a b z
      by true e (inl m) rest = inl (e, m.0, m.1)
      by true e (inr m) rest = inr (rest m)
      by false e m rest = inr (rest m)

  -- the edges of a node, turned round
  turned_from : (node : ℕ) (ps : List (Option (ℕ × C))) (b : ℕ) (z : ℤ) → HasEdge nat_eq (edges_at value ps) b z → HasTriple (turned_row node ps) b node z
  turned_from node [] b z h = absurd h
  turned_from node (None ∷ ps) b z h = turned_from node ps b z h
  turned_from node (Some e ∷ ps) b z (inl h) = inl (h.0, nat_eq_equiv.refl node, h.1)
  turned_from node (Some e ∷ ps) b z (inr h) = inr (turned_from node ps b z h)

  from_turned : (node : ℕ) (ps : List (Option (ℕ × C))) (a b : ℕ) (z : ℤ) → HasTriple (turned_row node ps) b a z → (a ≡ node) × HasEdge nat_eq (edges_at value ps) b z
  from_turned node [] a b z h = absurd h
  from_turned node (None ∷ ps) a b z h = from_turned node ps a b z h
  from_turned node (Some e ∷ ps) a b z (inl h) = (sym (eqb-true node a h.1), inl (h.0, h.2))
  from_turned node (Some e ∷ ps) a b z (inr h) = let r = from_turned node ps a b z h in (r.0, inr r.1)

  module _ (places : ℕ → List (Option (ℕ × C))) where
    turned_at : (n a b : ℕ) (z : ℤ) → a < n → HasEdge nat_eq (edges_at value (places a)) b z → HasTriple (turned_below places n) b a z
    turned_at zero a b z l h = absurd (omega arith)
    turned_at (suc n) a b z l h = elim (nat_dec a n) as (λ _. HasTriple (turned_below places (suc n)) b a z) [
      | inl s ↦ right (turned_below places n) (turned_row n (places n)) b a z (subst (λ (m : ℕ). HasTriple (turned_row m (places m)) b a z) s (turned_from a (places a) b z h))
      | inr d ↦ left (turned_below places n) (turned_row n (places n)) b a z (turned_at n a b z (omega (arith, l, d)) h)
    ]

    at_turned : (n a b : ℕ) (z : ℤ) → HasTriple (turned_below places n) b a z → (a < n) × HasEdge nat_eq (edges_at value (places a)) b z
    at_turned zero a b z h = absurd h
    at_turned (suc n) a b z h = elim (either (turned_below places n) (turned_row n (places n)) b a z h) as (λ _. (a < suc n) × HasEdge nat_eq (edges_at value (places a)) b z) [
      | inl l ↦ let r = at_turned n a b z l in (omega (arith, r.0), r.1)
      | inr m ↦ let r = from_turned n (places n) a b z m in (omega (arith, r.0), subst (λ (k : ℕ). HasEdge nat_eq (edges_at value (places k)) b z) (sym r.0) r.1)
    ]

  module _ (size : ℕ) (places : ℕ → List (Option (ℕ × C))) (graph : IsGraph value size places) (back : List ℕ × List (ℕ × C)) (reverse : IsReverse size places back) where
    row_back : (b : ℕ) → b < size → graph_of value (length back.0 - 1) (λ n. filled (between back.0 back.1 n)) b ≡ edges_at value (filled (ends_from nat_eq (turned_below places size) b))
    row_back b l = edges_within value (length back.0 - 1) (λ n. filled (between back.0 back.1 n)) b (omega (arith, l, reverse.size)) ∙ ap (λ row. edges_at value (filled row)) (reverse.rows b l)

    pub turned_round : IsTurnedRound (graph_of value size places) (graph_of value (length back.0 - 1) (λ n. filled (between back.0 back.1 n)))
    turned_round = record {
      precedes = λ a b z h.
          let l = listed value size places a b z h in
          let inside = edge_inside value size places graph a b z h in
          subst (λ es. HasEdge nat_eq es a z) (sym (row_back b inside)) (listed_from (turned_below places size) b a z (turned_at places size a b z l.0 l.1));
      follows = λ a b z h.
          let l = listed value (length back.0 - 1) (λ n. filled (between back.0 back.1 n)) b a z h in
          let inside : b < size = omega (arith, l.0, reverse.size) in
          let r = at_turned places size a b z (from_listed (turned_below places size) b a z (subst (λ es. HasEdge nat_eq es a z) (row_back b inside) h)) in
          subst (λ es. HasEdge nat_eq es b z) (sym (edges_within value size places a r.0)) r.1;
    }
