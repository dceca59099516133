-- What a path of the numbers of a list says of its names.
use Rattle.std.proofs.Common.{◌≡◌, ℕ, ℤ, nat_eq, eq-eqb, if◌then◌else◌, true, false, refl, sym, subst, ap, Bool, List, [], ◌∷◌, length, map}
use Rattle.std.specs.Cmp.{IsEquivalence}
use Rattle.pf_base.specs.Loops.{HasNoLoop, IsBestLoop}
use Rattle.pf_base.specs.Successors.{HasSuccessor}
use Rattle.pf_base.specs.Walks.{IsGoalPath}
use Rattle.pf_tables.specs.Graphs.{successors_of}
use Rattle.pf_edge_lists.specs.EdgeLists.{NamesAndEdges, names_of, places_of, targets_from}
use Rattle.pf_edge_lists.proofs.NameWalks.{carried_next, goal_named, path_out}
use Rattle.pf_name_numbers.specs.Numbered.{names_with}
use Rattle.pf_name_numbers.proofs.NameReach.{one_start}
use Rattle.pf_name_numbers.proofs.NamedNumbers.{With, name_at, named_at, targets_with, with_apart, zip_named}
use Rattle.pf_name_searches.proofs.LoopNames.{best_named, best_out, no_loop_out}
use Rattle.pf_name_searches.proofs.TreeNames.{first_out}
use Rattle.pf_search.specs.Preorder.{IsFirstTreePath}
use borrow.Author.Tests.{eqb-true}

module _ {N C : Type 0} {eq : N → N → Bool} (laws : IsEquivalence eq) (value : C → ℤ) (list : NamesAndEdges N C) (from : N) (start : ℕ) (begins : With laws list from start from) where
  abbrev pub NextM : ℕ → List ℕ
  NextM = successors_of value (length (names_of eq list)) (places_of eq list)

  abbrev pub NextN : N → List N
  NextN = targets_from eq list

  pub no_loop_by_name : HasNoLoop nat_eq NextM (start ∷ []) → HasNoLoop eq NextN (from ∷ [])
  no_loop_by_name = no_loop_out laws (names_with eq list from) (with_apart laws list from) NextM NextN (targets_with laws list from value) (start ∷ []) (from ∷ []) (one_start laws (names_with eq list from) (with_apart laws list from) start from begins)

  pub loop_by_name : (w : List ℕ) → IsBestLoop nat_eq NextM (start ∷ []) w → IsBestLoop eq NextN (from ∷ []) (map (name_at eq list from) w)
  loop_by_name w b =
      let begin = one_start laws (names_with eq list from) (with_apart laws list from) start from begins in
      let v = best_named laws (names_with eq list from) (with_apart laws list from) NextM NextN (targets_with laws list from value) (start ∷ []) (from ∷ []) begin w b in
      best_out laws (names_with eq list from) (with_apart laws list from) NextM NextN (targets_with laws list from value) (start ∷ []) (from ∷ []) begin w (map (name_at eq list from) w) (zip_named laws list from w v.0 v.1) b

  module _ (testM : ℕ → Bool) (testN : N → Bool) (tests : (k : ℕ) (x : N) → With laws list from k x → testM k ≡ testN x) where
    pub path_by_name : (w : List ℕ) → IsGoalPath nat_eq (HasSuccessor nat_eq NextM) (start ∷ []) testM w → IsGoalPath eq (HasSuccessor eq NextN) (from ∷ []) testN (map (name_at eq list from) w)
    path_by_name w b =
        let c = carried_next laws (names_with eq list from) (with_apart laws list from) NextM NextN (targets_with laws list from value) in
        let v = goal_named laws (names_with eq list from) (with_apart laws list from) _ _ c start from begins testM w b.goes in
        path_out laws (names_with eq list from) (with_apart laws list from) _ _ c start from begins testM testN tests w (map (name_at eq list from) w) (zip_named laws list from w v.0 v.1) b

    -- the start by the name that was handed in
    abbrev from_at : ℕ → N
    from_at k = if nat_eq k start then from else name_at eq list from k

    from_named : (k : ℕ) (x : N) → With laws list from k x → With laws list from k (from_at k)
    from_named k x s = by (nat_eq k start) refl
      where
        by : (b : Bool) → nat_eq k start ≡ b → With laws list from k (if b then from else name_at eq list from k)
        by true e = subst (λ (n : ℕ). With laws list from n from) (sym (eqb-true k start e)) begins
        by false e = named_at laws list from k x s

    pub tree_by_name : (w : List ℕ) → IsGoalPath nat_eq (HasSuccessor nat_eq NextM) (start ∷ []) testM w → IsFirstTreePath nat_eq NextM start testM w → IsFirstTreePath eq NextN from testN (map (name_at eq list from) w)
    tree_by_name w p f =
        let c = carried_next laws (names_with eq list from) (with_apart laws list from) NextM NextN (targets_with laws list from value) in
        let v = goal_named laws (names_with eq list from) (with_apart laws list from) _ _ c start from begins testM w p.goes in
        first_out laws (names_with eq list from) (with_apart laws list from) NextM NextN (targets_with laws list from value) from_at from_named start from begins (ap (λ (b : Bool). if b then from else name_at eq list from start) (eq-eqb start start refl)) testM testN tests w (map (name_at eq list from) w) (zip_named laws list from w v.0 v.1) f
