-- That a discovery of a table begins at its starts.
use Rattle.std.proofs.Common.{◌≡◌, ℕ, ℤ, true, List, Option, Some, [], ◌∷◌, refl, subst, nat_eq}
use Rattle.std.specs.Prelude.{◌↔◌}
use Rattle.std.specs.Cmp.{nat_eq_equiv}
use Rattle.std.specs.List.{IsDistinct}
use Rattle.pf_base.specs.Answers.{ListsEdges, SameNodes}
use Rattle.pf_base.specs.NodeRefs.{HasSameNodes}
use Rattle.pf_base.proofs.Callers.{ListsEdges-refl, SameNodes-refl, nat_refl, nat_same}
use Rattle.pf_core.specs.Hops.{hops_from}
use Rattle.pf_core.specs.Nodes.{Explores, StandsFor}
use Rattle.pf_discovery.specs.Sources.{AnswersEdges, AnswersHops}
use Rattle.pf_discovery.proofs.SourceLemmas.{Explores-edges, Explores-successors}
use Rattle.pf_table_functions.specs.TableFunctions.{TableListsEdges, TableListsSuccessors}
use Rattle.pf_tables.specs.Graphs.{graph_of, successors_of}

-- a list of one node has no node twice
pub one_distinct : (node : ℕ) → IsDistinct nat_eq (node ∷ [])
unfolding IsDistinct
one_distinct node = (tt, tt)

-- and its nodes are its own
pub same_nodes : (keys : List ℕ) → HasSameNodes nat_eq keys keys
same_nodes keys x = (λ h. h, λ h. h)

-- the number 0 stands for the only node
pub first_stands : (node x : ℕ) → StandsFor nat_eq (node ∷ []) 0 x ↔ (nat_eq node x ≡ true)
first_stands node x = (λ s. let e : Some node ≡ Some s.0 = s.1 in let same : s.0 ≡ node = cc in subst (λ (m : ℕ). nat_eq m x ≡ true) same s.2, λ h. (node, refl, h))

module _ {C G : Type 0} (value : C → ℤ) (size : G → ℕ) (places : G → ℕ → List (Option (ℕ × C))) (table : G) where
  pub table_hops : (starts keys : List ℕ) → IsDistinct nat_eq keys → HasSameNodes nat_eq keys starts
      → Explores nat_eq (AnswersHops nat_eq (TableListsSuccessors value size places)) (hops_from starts (successors_of value (size table) (places table))) keys (record { function = table })
  table_hops starts keys once same =
      let next = successors_of value (size table) (places table) in
      Explores-successors nat_eq nat_eq_equiv (TableListsSuccessors value size places) starts keys next table once same (λ x y w e. subst (λ zs. SameNodes nat_eq (next x) zs) (nat_same next x y e) (SameNodes-refl nat_eq nat_refl (next x))) refl

  pub table_edges : (starts keys : List ℕ) → IsDistinct nat_eq keys → HasSameNodes nat_eq keys starts
      → Explores nat_eq (AnswersEdges nat_eq (TableListsEdges value size places)) (record { starts = starts; edges = graph_of value (size table) (places table) }) keys (record { function = table })
  table_edges starts keys once same =
      let edges = graph_of value (size table) (places table) in
      Explores-edges nat_eq nat_eq_equiv (TableListsEdges value size places) (record { starts = starts; edges = edges }) keys table once same (λ x y w e. subst (λ zs. ListsEdges nat_eq (λ (z : ℤ). z) (edges x) zs) (nat_same edges x y e) (ListsEdges-refl nat_eq nat_refl (edges x))) refl
