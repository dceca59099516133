-- The weights of edges that are chosen by number.
use Rattle.std.proofs.Common.{ℕ, ◌+◌, ◌≡◌, refl, sym, ◌∙◌, ap, subst, arith, List, [], ◌∷◌, get_or, Bool, true, false, ℤ, nat_eq, Ordering}
use Rattle.std.specs.Prelude.{All, Contains, map, ◌+ℤ◌}
use Rattle.std.specs.Borrow.{Bor}
use Rattle.std.specs.Ordering.{is_eq, is_lt}
use Rattle.std.specs.Option.{option_map}
use Rattle.std.specs.Cmp.{IsEquivalence, IsTotalOrder}
use Rattle.std.specs.List.{AllZip}
use Rattle.std.specs.List.Sorted.{IsSorted}
use Rattle.std.proofs.lemmas.Option.{slice_get-map, get_or_from_slice_get}
use Rattle.std.proofs.lemmas.List.{length-map}
use Rattle.pf_graph.specs.declared.undirected.weighed.Weighed.{Weighed}
use Rattle.pf_graph.specs.Spanning.{IsForest, IsLeastUnderEveryBound, IsLeastForest, weight_sum}
use Rattle.pf_graph.specs.Internal.Spanning.SpanningSteps.{values_sum}
use Rattle.pf_graph.specs.Internal.NumberedEdges.{IsNumbered, IsWritten}
use Rattle.pf_base.proofs.ListLemmas.{get_within}
use Rattle.pf_graph.proofs.Spanning.NameLemmas.{written_forest, written_least, written_given}

-- what is sorted by a key has sorted keys
pub sorted_keys : {A K : Type 0} (cmp : K → K → Ordering) (key : A → K) (xs : List A) → IsSorted (λ (a b : A). cmp (key a) (key b)) xs → IsSorted cmp (map key xs)
sorted_keys cmp key xs sorted = λ k d low inside.
    let len = length-map xs key in
    let a = get_within xs k (omega (arith, inside, len)) in
    let b = get_within xs (k + 1) (omega (arith, inside, len)) in
    let h = sorted k a.0 low (omega (arith, inside, len)) in
    let h2 = subst (λ x. is_lt (cmp (key x) (key (get_or xs k a.0))) ≡ false) (get_or_from_slice_get xs (k + 1) b.0 a.0 b.1) h in
    let h3 = subst (λ x. is_lt (cmp (key b.0) (key x)) ≡ false) (get_or_from_slice_get xs k a.0 a.0 a.1) h2 in
    let one : get_or (map key xs) k d ≡ key a.0 = get_or_from_slice_get (map key xs) k (key a.0) d (slice_get-map key xs k ∙ ap (option_map key) a.1) in
    let two : get_or (map key xs) (k + 1) d ≡ key b.0 = get_or_from_slice_get (map key xs) (k + 1) (key b.0) d (slice_get-map key xs (k + 1) ∙ ap (option_map key) b.1) in
    subst (λ x. is_lt (cmp x (get_or (map key xs) k d)) ≡ false) (sym two) (subst (λ x. is_lt (cmp (key b.0) x) ≡ false) (sym one) h3)

-- the edge that a numbered edge is written as
abbrev pub written_of : {N C : Type 0} → (ℕ × ℕ × Weighed N C C) → N × N × C
written_of e = (e.2.edge.now.0, e.2.edge.now.1, e.2.weight)

zip_written : {N C : Type 0} (chosen : List (ℕ × ℕ × Weighed N C C)) → AllZip IsWritten chosen (map written_of chosen)
zip_written [] = tt
zip_written (e ∷ es) = ((refl, refl, refl), zip_written es)

sum_written : {N C : Type 0} (value : C → ℤ) (chosen : List (ℕ × ℕ × Weighed N C C)) → weight_sum value (map written_of chosen) ≡ values_sum value (map (λ (e : ℕ × ℕ × Weighed N C C). e.2.weight) chosen)
sum_written value [] = refl
sum_written value (e ∷ es) = ap (λ z. value e.2.weight +ℤ z) (sum_written value es)

-- edges that are chosen by copies of their weights are a forest of least weight
pub least_forest : {N C : Type 0} {eq : N → N → Bool} (laws : IsEquivalence eq) {cmp : C → C → Ordering} (total : IsTotalOrder cmp) {ceq : C → C → Bool} (celaws : IsEquivalence ceq) (agree : (x y : C) → ceq x y ≡ is_eq (cmp x y))
    (nodes : List (Bor N)) (edges : List (N × N × C)) (numbered : List (ℕ × ℕ × Weighed N C C)) (h : IsNumbered eq nodes edges numbered) (copied : All (λ (e : ℕ × ℕ × Weighed N C C). e.2.weight ≡ e.2.edge.now.2) numbered)
    (chosen : List (ℕ × ℕ × Weighed N C C)) (given : (e : ℕ × ℕ × Weighed N C C) → Contains chosen e → Contains numbered e)
    (forest : IsForest nat_eq chosen) (least : IsLeastUnderEveryBound nat_eq (λ (s t : Weighed N C C). cmp s.weight t.weight) numbered chosen) → IsLeastForest eq cmp edges (map written_of chosen)
least_forest {C = C} laws total {ceq} celaws agree nodes edges numbered h copied chosen given forest least = record {
  no_cycle = written_forest laws nodes edges numbered h chosen (map written_of chosen) (zip_written chosen) given forest;
  least = written_least laws nodes edges numbered h chosen (map written_of chosen) (zip_written chosen) given (λ (w u : C). u ≡ w) copied total agree (λ x y e. subst (λ z. ceq x z ≡ true) (sym e) (celaws.refl x)) least;
  given = written_given laws nodes edges numbered h chosen (map written_of chosen) (zip_written chosen) given (λ (w u : C). u ≡ w) copied;
}

pub sum_of_forest : {N C : Type 0} (value : C → ℤ) (chosen : List (ℕ × ℕ × Weighed N C C)) (weights : List C) → weights ≡ map (λ (e : ℕ × ℕ × Weighed N C C). e.2.weight) chosen → values_sum value weights ≡ weight_sum value (map written_of chosen)
sum_of_forest value chosen weights e = ap (values_sum value) e ∙ sym (sum_written value chosen)
