-- An estimate that is no more than a bound which falls along no edge by more than it costs is admissible.
use Rattle.std.proofs.Common.{◌≡◌, ◌+◌, ◌≤◌, ◌||◌, ℕ, ℤ, pos, Bool, true, false, List, [], ◌∷◌, None, Some, map, refl, sym, subst, arith, inl, inr, nat_eq}
use Rattle.std.specs.Prelude.{◌≤ℤ◌, ◌+ℤ◌, All, min, if◌then◌else◌, slice_index}
use Rattle.std.specs.List.{AllByRecursion, cons_option}
use Rattle.std.proofs.Math.Nat.{min-le_right}
use Rattle.std.proofs.lemmas.Int.{ints}
use Rattle.std.proofs.lemmas.List.Elements.{recursion_from_All}
use borrow.Author.Tests.{eqb-true}
use Rattle.pf_base.specs.Edges.{HasEdge}
use Rattle.pf_informed.specs.Estimates.{IsAdmissible}
use Rattle.pf_informed.proofs.Callers.{consistent}
use Rattle.test_orders_and_estimates.specs.Listed.{ends_of, edges_of, AreBounds, estimate_of_node}

module _ (bounds : List ℕ) where
  bound : ℕ → ℕ
  bound n = slice_index bounds n

  falls_in : (es : List (ℕ × ℕ × ℕ)) → AllByRecursion (λ (e : ℕ × ℕ × ℕ). slice_index bounds e.0 ≤ e.2 + slice_index bounds e.1) es → (a b : ℕ) (z : ℤ) → HasEdge nat_eq (edges_of es a) b z → pos (slice_index bounds a) ≤ℤ (z +ℤ pos (slice_index bounds b))
  falls_in [] u a b z h = absurd h
  falls_in (e ∷ es) u a b z h = by (falls_in es u.1 a b z) (nat_eq e.0 a) refl h
    where
      here : (p q c : ℕ) (z : ℤ) → p ≤ c + q → pos c ≡ z → pos p ≤ℤ (z +ℤ pos q)
      here p q c z l k = omega (arith, ints, l, k)

      by : (HasEdge nat_eq (edges_of es a) b z → pos (slice_index bounds a) ≤ℤ (z +ℤ pos (slice_index bounds b))) → (same : Bool) → nat_eq e.0 a ≡ same
          → HasEdge nat_eq (map (λ (x : ℕ × ℕ). (x.0, pos x.1)) (cons_option (if same then Some (e.1, e.2) else None) (ends_of es a))) b z → pos (slice_index bounds a) ≤ℤ (z +ℤ pos (slice_index bounds b))
      by rest false q h = rest h
      by rest true q (inl k) =
          let from : e.0 ≡ a = eqb-true e.0 a q in
          let to : e.1 ≡ b = eqb-true e.1 b k.0 in
          subst (λ (n : ℕ). pos (slice_index bounds n) ≤ℤ (z +ℤ pos (slice_index bounds b))) from (subst (λ (n : ℕ). pos (slice_index bounds e.0) ≤ℤ (z +ℤ pos (slice_index bounds n))) to (here (slice_index bounds e.0) (slice_index bounds e.1) e.2 z u.0 k.1))
      by rest true q (inr k) = rest k

  pub bounded_where : (edges : List (ℕ × ℕ × ℕ)) (estimates : List ℕ) (from : ℕ) (passes : ℕ → Bool) → All (λ (e : ℕ × ℕ × ℕ). slice_index bounds e.0 ≤ e.2 + slice_index bounds e.1) edges → ((x : ℕ) → passes x ≡ true → slice_index bounds x ≡ 0) → IsAdmissible nat_eq (edges_of edges) (from ∷ []) passes (λ n. pos (estimate_of_node estimates bounds n))
  bounded_where edges estimates from passes along none =
      let c = consistent nat_eq (edges_of edges) (from ∷ []) passes (λ n. pos (slice_index bounds n)) (λ x y e. subst (λ (n : ℕ). pos (slice_index bounds x) ≡ pos (slice_index bounds n)) (eqb-true x y e) refl) (λ x. omega (arith, ints)) (λ x e. at_none (slice_index bounds x) (none x e)) (falls_in edges (recursion_from_All (λ (e : ℕ × ℕ × ℕ). slice_index bounds e.0 ≤ e.2 + slice_index bounds e.1) edges along)) in
      record {
        from_zero = λ x r. omega (arith, ints);
        never_above = λ x r walk u goes costs. under (slice_index estimates x) (slice_index bounds x) u (c.never_above x r walk u goes costs);
      }
    where
      at_none : (n : ℕ) → n ≡ 0 → pos n ≤ℤ pos 0
      at_none n h = omega (arith, ints, h)

      under : (n m : ℕ) (u : ℤ) → pos m ≤ℤ u → pos (min n m) ≤ℤ u
      under n m u h = omega (arith, ints, h, min-le_right n m)

  at_end : (edges : List (ℕ × ℕ × ℕ)) (to x : ℕ) → AreBounds edges bounds to → nat_eq x to ≡ true → slice_index bounds x ≡ 0
  at_end edges to x b e = subst (λ (n : ℕ). slice_index bounds n ≡ 0) (sym (eqb-true x to e)) b.at_end

  -- so it is where the bound is 0 at two ends
  pub bounded_twice : (edges : List (ℕ × ℕ × ℕ)) (estimates : List ℕ) (from : ℕ) (to : ℕ × ℕ) → AreBounds edges bounds to.0 → AreBounds edges bounds to.1 → IsAdmissible nat_eq (edges_of edges) (from ∷ []) (λ n. nat_eq n to.0 || nat_eq n to.1) (λ n. pos (estimate_of_node estimates bounds n))
  bounded_twice edges estimates from to first second = bounded_where edges estimates from (λ n. nat_eq n to.0 || nat_eq n to.1) first.along (λ x e. either x (nat_eq x to.0) refl e)
    where
      either : (x : ℕ) (same : Bool) → nat_eq x to.0 ≡ same → (same || nat_eq x to.1) ≡ true → slice_index bounds x ≡ 0
      either x true q e = at_end edges to.0 x first q
      either x false q e = at_end edges to.1 x second e
