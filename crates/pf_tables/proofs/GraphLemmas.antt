-- What `IsGraph` says of the graph that the places are.
use Rattle.std.proofs.Common.{◌≡◌, inl, inr, ℕ, suc, ◌<◌, ◌≤◌, refl, ap, subst, List, [], ◌∷◌, Bool, true, false, nat_eq}
use Rattle.std.specs.Prelude.{◌≤ℤ◌, ℤ, pos, nat_lt, if◌then◌else◌, Option, Some, None}
use Rattle.std.proofs.lemmas.Bool.{lt-ltb, le-ltb}
use Rattle.std.proofs.lemmas.Cmp.{nat_eq_equiv}
use borrow.Author.Tests.{eqb-true, ltb-true}
use Rattle.pf_base.specs.Answers.{ListsEdges}
use Rattle.pf_base.specs.Edges.{HasEdge, HasNoNegativeCost, InReach}
use Rattle.pf_base.proofs.Callers.{ListsEdges-refl}
use Rattle.pf_tables.specs.Graphs.{IsGraph, HasEdgeAt, edges_at, graph_of}

-- equal numbers have the same edges
pub nat_alike : (edges : ℕ → List (ℕ × ℤ)) (starts : List ℕ) (x y : ℕ) → InReach nat_eq edges starts x → nat_eq x y ≡ true → ListsEdges nat_eq (λ (z : ℤ). z) (edges x) (edges y)
nat_alike edges starts x y r e = subst (λ (n : ℕ). ListsEdges nat_eq (λ (z : ℤ). z) (edges x) (edges n)) (eqb-true x y e) (ListsEdges-refl nat_eq nat_eq_equiv.refl (edges x))

module _ {C : Type 0} (value : C → ℤ) where
  module _ (size : ℕ) (places : ℕ → List (Option (ℕ × C))) where
    pub edges_within : (n : ℕ) → n < size → graph_of value size places n ≡ edges_at value (places n)
    edges_within n h = ap (λ (b : Bool). if b then edges_at value (places n) else []) (lt-ltb n size h)

    pub edges_outside : (n : ℕ) → size ≤ n → (a : ℕ) → nat_eq n a ≡ true → graph_of value size places a ≡ []
    edges_outside n h a e = subst (λ (k : ℕ). graph_of value size places k ≡ []) (eqb-true n a e) (ap (λ (b : Bool). if b then edges_at value (places n) else []) (le-ltb n size h))

  -- what holds of the edge at each place holds of each edge
  pub each_edge : (P : ℕ → ℤ → Type 0) (places : List (Option (ℕ × C))) → ((k : ℕ) (e : ℕ × C) → HasEdgeAt places k e → P e.0 (value e.1)) → (b : ℕ) (z : ℤ) → HasEdge nat_eq (edges_at value places) b z → P b z
  each_edge P [] h b z m = absurd m
  each_edge P (None ∷ xs) h b z m = each_edge P xs (λ k e s. h (suc k) e s) b z m
  each_edge P (Some e ∷ xs) h b z (inl r) = subst (λ x. P x z) (eqb-true e.0 b r.0) (subst (P e.0) r.1 (h 0 e refl))
  each_edge P (Some e ∷ xs) h b z (inr r) = each_edge P xs (λ k d s. h (suc k) d s) b z r

  module _ (size : ℕ) (places : ℕ → List (Option (ℕ × C))) where
    -- an edge of the graph is one of a node below the size
    pub listed : (a b : ℕ) (z : ℤ) → HasEdge nat_eq (graph_of value size places a) b z → (a < size) × HasEdge nat_eq (edges_at value (places a)) b z
    listed a b z = by (nat_lt a size) refl
      where
        by : (t : Bool) → nat_lt a size ≡ t → HasEdge nat_eq (if t then edges_at value (places a) else []) b z → (a < size) × HasEdge nat_eq (edges_at value (places a)) b z
        by true l m = (ltb-true a size l, m)
        by false l m = absurd m

    pub edge_inside : IsGraph value size places → (a b : ℕ) (z : ℤ) → HasEdge nat_eq (graph_of value size places a) b z → b < size
    edge_inside h a b z m =
        let l = listed a b z m in
        each_edge (λ x y. x < size) (places a) (λ k e s. h.inside a k e l.0 s) b z l.1

    pub edge_from_zero : IsGraph value size places → (a b : ℕ) (z : ℤ) → HasEdge nat_eq (graph_of value size places a) b z → pos 0 ≤ℤ z
    edge_from_zero h a b z m =
        let l = listed a b z m in
        each_edge (λ x y. pos 0 ≤ℤ y) (places a) (λ k e s. h.from_zero a k e l.0 s) b z l.1

    pub no_negative_cost : IsGraph value size places → (starts : List ℕ) → HasNoNegativeCost nat_eq (graph_of value size places) starts
    no_negative_cost h starts = record { from_zero = λ a b z r m. edge_from_zero h a b z m }
