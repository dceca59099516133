-- What a search that an estimate leads answers over the numbers of a list, by name.
use Rattle.std.proofs.Common.{◌≡◌, ℕ, ℤ, nat_eq, sym, subst, Bool, List, [], ◌∷◌, length, map}
use Rattle.std.specs.Prelude.{Option, MatchOption, Vec}
use Rattle.std.specs.Borrow.{Bor}
use Rattle.std.specs.Cmp.{IsEquivalence}
use Rattle.pf_base.specs.Edges.{IsCheapestGoalPath, IsCheapestOrNone, IsSuccessor}
use Rattle.pf_base.specs.NodeRefs.{nodes_of}
use Rattle.pf_base.specs.Walks.{HasNoGoalWalk}
use Rattle.pf_informed.specs.CheapestPaths.{AreCheapestCleanPaths}
use Rattle.pf_informed.specs.Estimates.{MayOverflow}
use Rattle.pf_tables.specs.Graphs.{graph_of}
use Rattle.pf_edge_lists.specs.EdgeLists.{NamesAndEdges, edges_from, names_of, places_of}
use Rattle.pf_name_numbers.specs.Numbered.{found_by, found_in, names_with}
use Rattle.pf_name_numbers.proofs.AnswersByName.{cheapest_by_name, found_answered, no_walk_by_name}
use Rattle.pf_name_numbers.proofs.NamedNumbers.{With, edges_with, name_at, with_apart, zip_named}
use Rattle.pf_name_estimates.proofs.CheapestPathNames.{all_out}
use Rattle.pf_name_estimates.proofs.OverflowNames.{overflow_out}

abbrev pub edges_in : {N C : Type 0} → (N → N → Bool) → (C → ℤ) → NamesAndEdges N C → ℕ → List (ℕ × ℤ)
edges_in eq value list = graph_of value (length (names_of eq list)) (places_of eq list)

-- the list as the estimates have it, as it was searched, and as the names are read from it
module _ {N C : Type 0} {eq : N → N → Bool} (laws : IsEquivalence eq) (value : C → ℤ) (list searched read : NamesAndEdges N C) (searched_is : searched ≡ list) (read_is : read ≡ list) (from : N) (start : ℕ) (begins : With laws read from start from)
    (testM : ℕ → Bool) (testN : N → Bool) (tests : (k : ℕ) (x : N) → With laws list from k x → testM k ≡ testN x) where
  begins_in : With laws list from start from
  begins_in = subst (λ (l : NamesAndEdges N C). With laws l from start from) read_is begins

  pub no_walk_in : HasNoGoalWalk nat_eq (IsSuccessor nat_eq (edges_in eq value searched)) (start ∷ []) testM → HasNoGoalWalk eq (IsSuccessor eq (edges_from eq value list)) (from ∷ []) testN
  no_walk_in none = no_walk_by_name laws value list from start begins_in testM testN tests (subst (λ (l : NamesAndEdges N C). HasNoGoalWalk nat_eq (IsSuccessor nat_eq (edges_in eq value l)) (start ∷ []) testM) searched_is none)

  pub best_in : {A : Type 0} (answer : Option (Vec (Bor N) A × C)) (found : Option (Vec ℕ A × C)) → found_in answer ≡ found_by (name_at eq read from) found → IsCheapestOrNone nat_eq (edges_in eq value searched) (start ∷ []) testM value found
      → MatchOption answer (HasNoGoalWalk eq (IsSuccessor eq (edges_from eq value list)) (from ∷ []) testN) (λ a. IsCheapestGoalPath eq (edges_from eq value list) (from ∷ []) testN (nodes_of a.0.items) (value a.1))
  best_in answer found e best =
      found_answered (name_at eq list from) answer found (subst (λ (l : NamesAndEdges N C). found_in answer ≡ found_by (name_at eq l from) found) read_is e) _ _
      (λ w t. IsCheapestGoalPath nat_eq (edges_in eq value list) (start ∷ []) testM w (value t)) (λ v t. IsCheapestGoalPath eq (edges_from eq value list) (from ∷ []) testN v (value t))
      (no_walk_by_name laws value list from start begins_in testM testN tests) (λ w t b. cheapest_by_name laws value list from start begins_in testM testN tests w (value t) b)
      (subst (λ (l : NamesAndEdges N C). IsCheapestOrNone nat_eq (edges_in eq value l) (start ∷ []) testM value found) searched_is best)

  pub all_in : (paths : List (List ℕ)) (t : ℤ) → AreCheapestCleanPaths nat_eq (edges_in eq value searched) (start ∷ []) testM paths t → AreCheapestCleanPaths eq (edges_from eq value list) (from ∷ []) testN (map (map (name_at eq read from)) paths) t
  all_in paths t all =
      subst (λ (l : NamesAndEdges N C). AreCheapestCleanPaths eq (edges_from eq value list) (from ∷ []) testN (map (map (name_at eq l from)) paths) t) (sym read_is)
      (all_out laws (names_with eq list from) (with_apart laws list from) _ _ (edges_with laws list from value) start from begins_in testM testN tests (name_at eq list from) (zip_named laws list from) paths t
      (subst (λ (l : NamesAndEdges N C). AreCheapestCleanPaths nat_eq (edges_in eq value l) (start ∷ []) testM paths t) searched_is all))

  pub overflow_in : (estimateM : ℕ → ℤ) (estimateN : N → ℤ) → ((k : ℕ) (x : N) → With laws list from k x → estimateM k ≡ estimateN x) → (fits : ℤ → Type 0)
      → MayOverflow nat_eq (edges_in eq value searched) (start ∷ []) testM estimateM fits → MayOverflow eq (edges_from eq value list) (from ∷ []) testN estimateN fits
  overflow_in estimateM estimateN estimates fits h =
      overflow_out laws (names_with eq list from) (with_apart laws list from) _ _ (edges_with laws list from value) start from begins_in testM testN tests estimateM estimateN estimates fits
      (subst (λ (l : NamesAndEdges N C). MayOverflow nat_eq (edges_in eq value l) (start ∷ []) testM estimateM fits) searched_is h)
