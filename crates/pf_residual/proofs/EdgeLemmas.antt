-- Edges between numbered vertices, put into a store in turn.
use Rattle.std.proofs.Common.{◌≡◌, ◌∙◌, ◌⊎◌, inl, inr, refl, sym, ap, subst, ◌<◌, ℕ, ℤ, zero, suc, pos, arith, nat_eq, List, [], ◌∷◌, ◌++◌, length, fold, take, get_or}
use Rattle.std.specs.Prelude.{◌≤ℤ◌, ◌&&◌}
use Rattle.std.proofs.lemmas.List.Sums.{fold-append}
use Rattle.pf_base.specs.declared.error.PathError.{PathError}
use Rattle.pf_base.specs.declared.error.PathError.TheVariants.{OutOfMemory}
use Rattle.pf_residual.specs.Capacities.{with_edge, edge_table, AreTaken, IsChangeRefused, IsEdgeFault, IsFirstFault, IsTaken}
use Rattle.pf_residual.specs.Flows.{PairTable, replaced, pair_sum}
use Rattle.pf_residual.specs.Networks.{Network, capacity, ChangesCapacity, HasCapacities}
use Rattle.pf_residual.specs.Internal.Filling.{IsUnused}
use Rattle.pf_residual.proofs.FillLemmas.{replaced_cases}
use Rattle.pf_residual.proofs.NamedLemmas.{pair_sum_ext, replaced_ext}

-- a list, parted at one of its places
split_at : {A : Type 0} (xs : List A) (i : ℕ) (x : A) → i < length xs → x ≡ get_or xs i x → (behind : List A) × (xs ≡ take i xs ++ x ∷ behind)
split_at [] i x l e = absurd (omega (arith, l))
split_at (y ∷ ys) zero x l e = (ys, ap (λ z. z ∷ ys) (sym e))
split_at (y ∷ ys) (suc i) x l e = let r = split_at ys i x (omega (arith, l)) e in (r.0, ap (λ zs. y ∷ zs) r.1)

module _ {C : Type 0} (value : C → ℤ) (fits : ℤ → Type 0) (n : ℕ) where
  -- edges that are taken, and one more
  taken_more : (t : PairTable) (edges : List ((ℕ × ℕ) × C)) (e : (ℕ × ℕ) × C) → AreTaken value fits n t edges → IsTaken value fits n (fold (with_edge value) t edges) e → AreTaken value fits n t (edges ++ e ∷ [])
  taken_more t [] e h k = (k, tt)
  taken_more t (x ∷ xs) e h k = (h.0, taken_more (with_edge value t x) xs e h.1 k)

  -- these edges are taken in turn, and their capacities are those of the network
  pub record HoldsTaken (edges : List ((ℕ × ℕ) × C)) (M : Network) : Type 0 where
    pub vertices : M.vertices ≡ n
    pub taken : AreTaken value fits n (λ a b. pos 0) edges
    pub capacities : HasCapacities (edge_table value edges) M

  module _ {M : Network} (edges : List ((ℕ × ℕ) × C)) (h : HoldsTaken edges M) (e : (ℕ × ℕ) × C) (from : e.0.0 < n) (to : e.0.1 < n) where
    abbrev before : PairTable
    before = edge_table value edges

    with_same : (a b : ℕ) → a < M.vertices → b < M.vertices → replaced (capacity M) e.0.0 e.0.1 (value e.1) a b ≡ with_edge value before e a b
    with_same a b l m = replaced_ext (nat_eq a e.0.0 && nat_eq b e.0.1) (value e.1) (capacity M a b) (before a b) (h.capacities.at a b l m)

    sum_same : pair_sum M.vertices (replaced (capacity M) e.0.0 e.0.1 (value e.1)) ≡ pair_sum n (with_edge value before e)
    sum_same = pair_sum_ext (replaced (capacity M) e.0.0 e.0.1 (value e.1)) (with_edge value before e) M.vertices with_same ∙ ap (λ k. pair_sum k (with_edge value before e)) h.vertices

    -- one more edge, whose capacity was put
    pub held_more : {O : Network} (more : List ((ℕ × ℕ) × C)) → more ≡ edges ++ e ∷ [] → ChangesCapacity e.0.0 e.0.1 (value e.1) M O → IsUnused fits O → HoldsTaken more O
    held_more {O} more same x w = subst (λ es. HoldsTaken es O) (sym same) (record {
      vertices = x.shape.vertices ∙ h.vertices;
      taken = taken_more (λ a b. pos 0) edges e h.taken (record {
        from = from;
        to = to;
        above = subst (λ (z : ℤ). pos 0 ≤ℤ z) (sym (x.capacities.at e.0.0 e.0.1) ∙ here (replaced_cases (capacity M) e.0.0 e.0.1 (value e.1) e.0.0 e.0.1)) (w.capacities.at e.0.0 e.0.1 (subst (λ k. e.0.0 < k) (sym count) from) (subst (λ k. e.0.1 < k) (sym count) to));
        sum = subst fits (pair_sum_ext (capacity O) (replaced (capacity M) e.0.0 e.0.1 (value e.1)) O.vertices (λ a b i j. sym (x.capacities.at a b)) ∙ ap (λ k. pair_sum k (replaced (capacity M) e.0.0 e.0.1 (value e.1))) x.shape.vertices ∙ sum_same) w.sum;
      });
      capacities = subst (λ t. HasCapacities t O) (sym (fold-append (with_edge value) (λ a b. pos 0) edges (e ∷ []))) (record {
        at = λ a b l m. sym (x.capacities.at a b) ∙ with_same a b (subst (λ k. a < k) x.shape.vertices l) (subst (λ k. b < k) x.shape.vertices m);
      });
    })
      where
        count : O.vertices ≡ n
        count = x.shape.vertices ∙ h.vertices

        here : ((e.0.0 ≡ e.0.0) × (e.0.1 ≡ e.0.1) × (replaced (capacity M) e.0.0 e.0.1 (value e.1) e.0.0 e.0.1 ≡ value e.1)) ⊎ (((e.0.0 ≡ e.0.0) → (e.0.1 ≡ e.0.1) → ⊥) × (replaced (capacity M) e.0.0 e.0.1 (value e.1) e.0.0 e.0.1 ≡ capacity M e.0.0 e.0.1)) → replaced (capacity M) e.0.0 e.0.1 (value e.1) e.0.0 e.0.1 ≡ value e.1
        here (inl p) = p.2
        here (inr p) = absurd (p.0 refl refl)

    -- why an edge whose capacity was refused is not taken
    put_fault : (r : PathError) → IsChangeRefused fits M e.0.0 e.0.1 (value e.1) r → (r ≡ OutOfMemory) ⊎ IsEdgeFault value fits n before e r
    put_fault r (inl w) = inl w
    put_fault r (inr (inl w)) = inr (inr (inl (w.0, from, to, w.1)))
    put_fault r (inr (inr w)) = inr (inr (inr (w.0, from, to, w.1, λ f. w.2 (subst fits (sym sum_same) f))))

  -- the first edge that is not taken stands at a place of the list
  pub first_fault : {M : Network} (all : List ((ℕ × ℕ) × C)) (i : ℕ) (e : (ℕ × ℕ) × C) (r : PathError) → i < length all → e ≡ get_or all i e → HoldsTaken (take i all) M → IsEdgeFault value fits n (edge_table value (take i all)) e r → IsFirstFault value fits n all r
  first_fault all i e r l is h why = let s = split_at all i e l is in record { before = take i all; edge = e; behind = s.0; listed = s.1; taken = h.taken; why = why }

  pub put_refused_at : {M : Network} (all : List ((ℕ × ℕ) × C)) (i : ℕ) (e : (ℕ × ℕ) × C) (r : PathError) → i < length all → e ≡ get_or all i e → HoldsTaken (take i all) M → e.0.0 < n → e.0.1 < n → IsChangeRefused fits M e.0.0 e.0.1 (value e.1) r → (r ≡ OutOfMemory) ⊎ IsFirstFault value fits n all r
  put_refused_at all i e r l is h from to w = elim (put_fault (take i all) h e from to r w) [ inl m ↦ inl m | inr why ↦ inr (first_fault all i e r l is h why) ]
