-- Lemmas on graphs that are given as lists of edges: costs from 0 up, and edges that are seen from both ends.
use Rattle.std.proofs.Common.{◌≡◌, ℤ, suc, pos, arith, refl, sym, ap, subst, ◌∙◌, inl, inr, Bool, true, false, true≢false, List, [], ◌∷◌}
use Rattle.std.specs.Prelude.{◌≤ℤ◌, All, if◌then◌else◌, Some, None}
use Rattle.std.specs.Cmp.{IsEquivalence}
use Rattle.std.specs.List.{cons_option}
use Rattle.pf_base.specs.Edges.{HasEdge, HasNoNegativeCost}
use Rattle.pf_base.specs.Mirrors.{IsMirror}
use Rattle.pf_base.specs.Walks.{HasNode}
use Rattle.pf_base.proofs.Callers.{valued}
use Rattle.test_edge_lists.specs.Chosen.{chosen}
use Rattle.test_edge_lists.specs.Lists.{edges_from, edges_to}
use Rattle.test_edge_lists.specs.Pairs.{nodes_after, nodes_before}

-- equal nodes have the same edges
pub chosen-same : {N E X : Type 0} (eq : N → N → Bool) → IsEquivalence eq → (key : E → N) (shown : E → X) (edges : List E) (x y : N) → eq x y ≡ true → chosen eq key shown edges x ≡ chosen eq key shown edges y
chosen-same eq laws key shown [] x y h = refl
chosen-same eq laws key shown (e ∷ es) x y h =
    let same : eq (key e) x ≡ eq (key e) y = laws.symm (key e) x ∙ laws.congr x y (key e) h ∙ laws.symm y (key e) in
    ap (λ (b : Bool). cons_option (if b then Some (shown e) else None) (chosen eq key shown es x)) same ∙ ap (λ r. cons_option (if eq (key e) y then Some (shown e) else None) r) (chosen-same eq laws key shown es x y h)

-- ---- with costs

module _ {N C : Type 0} (eq : N → N → Bool) (value : C → ℤ) where
  module _ (key end : N × N × C → N) where
    -- an edge of the graph costs what some edge of the list does
    pub edge_from_zero : (edges : List (N × N × C)) (n b : N) (z : ℤ) → All (λ (e : N × N × C). pos 0 ≤ℤ value e.2) edges → HasEdge eq (valued value (chosen eq key (λ e. (end e, e.2)) edges n)) b z → pos 0 ≤ℤ z
    edge_from_zero [] n b z h m = absurd m
    edge_from_zero (e ∷ es) n b z h m = by (eq (key e) n) m (edge_from_zero es n b z (λ k d l. h (suc k) d (omega (arith, l))))
      where
        by : (t : Bool) → HasEdge eq (valued value (cons_option (if t then Some (end e, e.2) else None) (chosen eq key (λ e. (end e, e.2)) es n))) b z → (HasEdge eq (valued value (chosen eq key (λ e. (end e, e.2)) es n)) b z → pos 0 ≤ℤ z) → pos 0 ≤ℤ z
        by true (inl r) rest = subst (λ (y : ℤ). pos 0 ≤ℤ y) r.1 (h 0 e (omega arith))
        by true (inr r) rest = rest r
        by false r rest = rest r

    -- an edge from a to b is one back from b to a
    across : (edges : List (N × N × C)) (a b : N) (z : ℤ) → HasEdge eq (valued value (chosen eq key (λ e. (end e, e.2)) edges a)) b z → HasEdge eq (valued value (chosen eq end (λ e. (key e, e.2)) edges b)) a z
    across [] a b z h = h
    across (e ∷ es) a b z h = by (eq (key e) a) (eq (end e) b) refl refl (λ q. across es a b z q) h
      where
        by : (s t : Bool) → eq (key e) a ≡ s → eq (end e) b ≡ t → (HasEdge eq (valued value (chosen eq key (λ e. (end e, e.2)) es a)) b z → HasEdge eq (valued value (chosen eq end (λ e. (key e, e.2)) es b)) a z)
            → HasEdge eq (valued value (cons_option (if s then Some (end e, e.2) else None) (chosen eq key (λ e. (end e, e.2)) es a))) b z → HasEdge eq (valued value (cons_option (if t then Some (key e, e.2) else None) (chosen eq end (λ e. (key e, e.2)) es b))) a z
        by true true s t rest (inl q) = inl (s, q.1)
        by true true s t rest (inr q) = inr (rest q)
        by true false s t rest (inl q) = absurd (true≢false (sym q.0 ∙ t))
        by true false s t rest (inr q) = rest q
        by false true s t rest q = inr (rest q)
        by false false s t rest q = rest q

  module _ (edges : List (N × N × C)) where
    -- an edge from a to b enters b from a, at the same cost, and the other way round
    pub enters : (a b : N) (z : ℤ) → HasEdge eq (edges_from eq edges value a) b z → HasEdge eq (edges_to eq edges value b) a z
    enters = across (λ (e : N × N × C). e.0) (λ (e : N × N × C). e.1) edges

    pub leaves : (a b : N) (z : ℤ) → HasEdge eq (edges_to eq edges value b) a z → HasEdge eq (edges_from eq edges value a) b z
    leaves a b = across (λ (e : N × N × C). e.1) (λ (e : N × N × C). e.0) edges b a

    -- where no edge of the list costs less than 0, none of the graph does
    module _ (all : All (λ (e : N × N × C). pos 0 ≤ℤ value e.2) edges) where
      pub edges_from-from_zero : (starts : List N) → HasNoNegativeCost eq (edges_from eq edges value) starts
      edges_from-from_zero starts = record { from_zero = λ a b z r m. edge_from_zero (λ (e : N × N × C). e.0) (λ (e : N × N × C). e.1) edges a b z all m }

      pub edges_to-from_zero : (ends : List N) → HasNoNegativeCost eq (edges_to eq edges value) ends
      edges_to-from_zero ends = record { from_zero = λ a b z r m. edge_from_zero (λ (e : N × N × C). e.1) (λ (e : N × N × C). e.0) edges a b z all m }

-- ---- without costs

module _ {N E : Type 0} (eq : N → N → Bool) where
  -- an edge from a to b is one back from b to a
  pub nodes_across : (key end : E → N) (edges : List E) (a b : N) → HasNode eq (chosen eq key end edges a) b → HasNode eq (chosen eq end key edges b) a
  nodes_across key end [] a b h = h
  nodes_across key end (e ∷ es) a b h = by (eq (key e) a) (eq (end e) b) refl refl (λ q. nodes_across key end es a b q) h
    where
      by : (s t : Bool) → eq (key e) a ≡ s → eq (end e) b ≡ t → (HasNode eq (chosen eq key end es a) b → HasNode eq (chosen eq end key es b) a)
          → HasNode eq (cons_option (if s then Some (end e) else None) (chosen eq key end es a)) b → HasNode eq (cons_option (if t then Some (key e) else None) (chosen eq end key es b)) a
      by true true s t rest (inl q) = inl s
      by true true s t rest (inr q) = inr (rest q)
      by true false s t rest (inl q) = absurd (true≢false (sym q ∙ t))
      by true false s t rest (inr q) = rest q
      by false true s t rest q = inr (rest q)
      by false false s t rest q = rest q

  pub nodes_mirror : (key end : E → N) (edges : List E) (starts ends : List N) → IsMirror eq (chosen eq key end edges) (chosen eq end key edges) starts ends
  nodes_mirror key end edges starts ends = record { precedes = λ a b r q h. nodes_across key end edges a b h; follows = λ a b r q h. nodes_across end key edges b a h }

pub pairs_mirror : {N : Type 0} (eq : N → N → Bool) (edges : List (N × N)) (starts ends : List N) → IsMirror eq (nodes_after eq edges) (nodes_before eq edges) starts ends
pairs_mirror {N} eq edges starts ends = nodes_mirror eq (λ (e : N × N). e.0) (λ (e : N × N). e.1) edges starts ends
