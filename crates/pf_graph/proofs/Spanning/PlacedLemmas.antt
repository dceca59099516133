-- Edges with vertices for the numbers that stand for them.
use Rattle.std.proofs.Common.{ℕ, ◌+◌, ◌<◌, ◌≡◌, ◌≢◌, sym, ◌∙◌, ap, subst, arith, false, List, [], ◌∷◌, ◌++◌, length, get_or, take, Ordering}
use Rattle.std.specs.Prelude.{Contains}
use Rattle.std.specs.declared.cmp.Ordering.TheVariants.{Greater}
use Rattle.std.specs.Ordering.{is_lt}
use Rattle.std.specs.Cmp.{IsTotalOrder}
use Rattle.std.specs.List.Sorted.{IsSorted}
use Rattle.std.proofs.lemmas.List.{map-append, length-map, get_or-map, take-map, map-id}
use Rattle.pf_graph.specs.Spanning.{AreBelow}
use Rattle.pf_graph.specs.Internal.Spanning.SpanningSteps.{placed}
use Rattle.pf_base.proofs.ListLemmas.{get_within}
use Rattle.pf_graph.proofs.Spanning.KruskalLemmas.{heavy}

module _ {V C : Type 0} (vertex : V → ℕ) where
  abbrev pub place : V × V × C → ℕ × ℕ × C
  place e = (vertex e.0, vertex e.1, e.2)

  pub placed-push : (edges : List (V × V × C)) (e : V × V × C) → placed vertex (edges ++ e ∷ []) ≡ placed vertex edges ++ place e ∷ []
  placed-push edges e = map-append place edges (e ∷ [])

  pub placed-as : (edges : List (V × V × C)) (e : V × V × C) (one other : ℕ) → one ≡ vertex e.0 → other ≡ vertex e.1 → placed vertex (edges ++ e ∷ []) ≡ placed vertex edges ++ (one, other, e.2) ∷ []
  placed-as edges e one other f h = placed-push edges e ∙ ap (λ n. placed vertex edges ++ (n, vertex e.1, e.2) ∷ []) (sym f) ∙ ap (λ n. placed vertex edges ++ (one, n, e.2) ∷ []) (sym h)

  pub placed-get : (edges : List (V × V × C)) (n : ℕ) (e : V × V × C) → n < length edges → e ≡ get_or edges n e → place e ≡ get_or (placed vertex edges) n (place e)
  placed-get edges n e inside at = ap place at ∙ sym (get_or-map place edges n e (place e) inside)

  pub placed-below : (count : ℕ) (edges : List (V × V × C)) → AreBelow count (placed vertex edges) → (n : ℕ) (e : V × V × C) → n < length edges → e ≡ get_or edges n e → (vertex e.0 < count) × (vertex e.1 < count)
  placed-below count edges below n e inside at =
      let there : n < length (placed vertex edges) = let len = length-map edges place in omega (arith, inside, len) in
      subst (λ (f : ℕ × ℕ × C). (f.0 < count) × (f.1 < count)) (sym (placed-get edges n e inside at)) (below n (place e) there)

  module _ (cmp : C → C → Ordering) where
    pub placed-sorted : (edges : List (V × V × C)) → IsSorted (λ (e f : V × V × C). cmp e.2 f.2) edges → IsSorted (λ (e f : ℕ × ℕ × C). cmp e.2 f.2) (placed vertex edges)
    placed-sorted edges up k d low h =
        let len = length-map edges place in
        let inside : k + 1 < length edges = omega (arith, h, len) in
        let m = (get_within edges k (omega (arith, inside))).0 in
        let one = get_or-map place edges k m d (omega (arith, inside)) in
        let two = get_or-map place edges (k + 1) m d inside in
        subst (λ (e : ℕ × ℕ × C). is_lt (cmp (get_or (placed vertex edges) (k + 1) d).2 e.2) ≡ false) (sym one)
        (subst (λ (e : ℕ × ℕ × C). is_lt (cmp e.2 (get_or edges k m).2) ≡ false) (sym two) (up k m low inside))

    -- in sorted edges no edge is heavier than a later one
    pub placed-heavy : IsTotalOrder cmp → (edges : List (V × V × C)) → IsSorted (λ (e f : ℕ × ℕ × C). cmp e.2 f.2) (placed vertex edges) → (n : ℕ) (e : V × V × C) → n < length edges → e ≡ get_or edges n e
        → (d : ℕ × ℕ × C) → Contains (placed vertex (take n edges)) d → cmp d.2 e.2 ≢ Greater
    placed-heavy total edges sorted n e inside at d h =
        let there : n < length (placed vertex edges) = let len = length-map edges place in omega (arith, inside, len) in
        heavy cmp total (placed vertex edges) sorted n (place e) there (placed-get edges n e inside at) d (subst (λ xs. Contains xs d) (sym (take-map place n edges)) h)

-- vertices that stand for themselves
pub placed-same : {C : Type 0} (edges : List (ℕ × ℕ × C)) → placed (λ n. n) edges ≡ edges
placed-same edges = map-id edges
