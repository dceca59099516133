-- Graphs over numbers that are explored.
use Rattle.std.proofs.Common.{◌≡◌, ◌<◌, ◌≤◌, ℕ, zero, suc, ℤ, pos, List, [], ◌∷◌, length, Bool, true, false, Option, Some, None, nat_eq, refl, ◌∙◌, ap, subst, take, map, inl}
use Rattle.std.specs.Prelude.{◌↔◌, slice_get}
use Rattle.std.specs.List.{IsDistinct, AllByRecursion}
use Rattle.std.proofs.lemmas.Cmp.{nat_eq_equiv}
use Rattle.pf_base.specs.Answers.{ListsEdges}
use Rattle.pf_base.specs.Walks.{HasNode}
use Rattle.pf_base.specs.Edges.{InReach}
use Rattle.pf_core.specs.Hops.{unit_edges}
use Rattle.pf_core.specs.Nodes.{StandsFor}
use Rattle.pf_core.specs.Numbered.{StandsBelow}
use Rattle.pf_core.proofs.UnitLemmas.{starts_stand}
use Rattle.pf_base.proofs.ListLemmas.{none_in}
use Rattle.pf_core.proofs.NodeLemmas.{InReach-start}
use Rattle.pf_tables.specs.Graphs.{edges_at, successors_of}
use Rattle.pf_tables.proofs.GraphLemmas.{edges_within, edges_outside}
use Rattle.pf_table_breadth.specs.Internal.Numbering.{IsIndex, IsExplored, steps_at}

all_take : (P : ℕ → Type 0) (n : ℕ) (xs : List ℕ) → AllByRecursion P xs → AllByRecursion P (take n xs)
all_take P zero xs a = tt
all_take P (suc n) [] a = tt
all_take P (suc n) (x ∷ xs) a = (a.0, all_take P n xs a.1)

-- the first of distinct numbers are distinct
pub distinct_take : (n : ℕ) (xs : List ℕ) → IsDistinct nat_eq xs → IsDistinct nat_eq (take n xs)
unfolding IsDistinct
distinct_take zero xs d = tt
distinct_take (suc n) [] d = tt
distinct_take (suc n) (x ∷ xs) d = (all_take (λ y. nat_eq x y ≡ false) n xs d.0, distinct_take n xs d.1)

-- ---- the edges at places

module _ {C : Type 0} (value : C → ℤ) where
  lists_units : (places : List (Option (ℕ × C))) → ListsEdges nat_eq (λ (n : ℕ). pos n) (steps_at places) (map (λ y. (y, pos 1)) (map (λ (e : ℕ × ℤ). e.0) (edges_at value places)))
  lists_units [] = tt
  lists_units (None ∷ places) = lists_units places
  lists_units (Some e ∷ places) = ((nat_eq_equiv.refl e.0, refl), lists_units places)

  module _ (size : ℕ) (places : ℕ → List (Option (ℕ × C))) where
    pub units_listed : (n : ℕ) → n < size → ListsEdges nat_eq (λ (n : ℕ). pos n) (steps_at (places n)) (unit_edges (successors_of value size places) n)
    units_listed n h = rw (edges_within value size places n h) (lists_units (places n))

    pub successors_outside : (n : ℕ) → size ≤ n → (a : ℕ) → nat_eq n a ≡ true → successors_of value size places a ≡ []
    successors_outside n h a e = ap (map (λ (d : ℕ × ℤ). d.0)) (edges_outside value size places n h a e)

-- ---- a search begins at one node

one_distinct : (from : ℕ) → IsDistinct nat_eq (from ∷ [])
unfolding IsDistinct
one_distinct from = (tt, tt)

explored_start : {C : Type 0} (size : ℕ) (places : ℕ → List (Option (ℕ × C))) (passes : ℕ → Bool) (edges : ℕ → List (ℕ × ℤ)) (from : ℕ) (numbers : List ℕ)
    → ((n : ℕ) → n < size → ListsEdges nat_eq (λ (k : ℕ). pos k) (steps_at (places n)) (edges n)) → IsExplored size places passes (record { graph = record { starts = from ∷ []; edges = edges }; test = passes }) (from ∷ []) numbers
explored_start size places passes edges from numbers listed = record {
  listed = listed;
  tested = λ n. refl;
  distinct = one_distinct from;
  reached = λ k x h. start k x h;
}
  where
    start : (k x : ℕ) → slice_get (from ∷ []) k ≡ Some x → InReach nat_eq edges (from ∷ []) x
    start zero x h = let e : Some from ≡ Some x = h in let f : from ≡ x = cc in InReach-start nat_eq nat_eq_equiv edges (from ∷ []) from x (inl (nat_eq_equiv.refl from)) (subst (λ (n : ℕ). nat_eq from n ≡ true) f (nat_eq_equiv.refl from))
    start (suc k) x h = absurd (none_in k x h)

module _ (from : ℕ) (order : List ℕ) (one : order ≡ from ∷ []) where
  -- what stands below the number of nodes found is a start
  pub starts_below : (x : ℕ) → StandsBelow (length order) (StandsFor nat_eq order) x ↔ HasNode nat_eq (from ∷ []) x
  starts_below = rw one (starts_stand nat_eq nat_eq_equiv (from ∷ []) (from ∷ []) (λ x. ((λ h. h), (λ h. h))))

  pub explored_first : {C : Type 0} (size : ℕ) (places : ℕ → List (Option (ℕ × C))) (passes : ℕ → Bool) (edges : ℕ → List (ℕ × ℤ)) (numbers : List ℕ) (count : ℕ)
      → ((n : ℕ) → n < size → ListsEdges nat_eq (λ (k : ℕ). pos k) (steps_at (places n)) (edges n)) → IsIndex order numbers → length numbers ≡ count → count ≡ size
      → IsExplored size places passes (record { graph = record { starts = from ∷ []; edges = edges }; test = passes }) order numbers × IsIndex order numbers × (length numbers ≡ size)
  explored_first size places passes edges numbers count listed index wide is = (rw one (explored_start size places passes edges from numbers listed), index, wide ∙ is)
