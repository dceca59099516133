-- A cost overflow of a search that an estimate leads, over numbers and over the names that they stand for.
use Rattle.std.proofs.Common.{◌≡◌, ℕ, ℤ, nat_eq, sym, subst, Bool, List, [], ◌∷◌}
use Rattle.std.specs.Prelude.{◌+ℤ◌}
use Rattle.std.specs.Cmp.{IsEquivalence}
use Rattle.pf_base.specs.Edges.{IsSuccessor}
use Rattle.pf_base.specs.Walks.{NoRepeats}
use Rattle.pf_edge_lists.proofs.NameWalks.{IsCarried, Stands, SameEdges, carried_edges, costs_back, costs_out, goal_back, goal_named, path_out, test_stands}
use Rattle.pf_informed.specs.Estimates.{EstimateOverflows, MayOverflow}
use Rattle.pf_name_numbers.proofs.NameReach.{one_start, reach_named}

module _ {N : Type 0} {eq : N → N → Bool} (laws : IsEquivalence eq) (names : List N) (distinct : NoRepeats eq names) (edgesM : ℕ → List (ℕ × ℤ)) (edgesN : N → List (N × ℤ)) (alike : (a : ℕ) (x : N) → Stands laws names a x → SameEdges laws names distinct (edgesM a) (edgesN x))
    (start : ℕ) (from : N) (begins : Stands laws names start from) (testM : ℕ → Bool) (testN : N → Bool) (tests : (k : ℕ) (x : N) → Stands laws names k x → testM k ≡ testN x)
    (estimateM : ℕ → ℤ) (estimateN : N → ℤ) (estimates : (k : ℕ) (x : N) → Stands laws names k x → estimateM k ≡ estimateN x) (fits : ℤ → Type 0) where
  carried : IsCarried laws names (IsSuccessor nat_eq edgesM) (IsSuccessor eq edgesN)
  carried = carried_edges laws names distinct edgesM edgesN alike

  past_out : EstimateOverflows nat_eq edgesM (start ∷ []) estimateM fits → EstimateOverflows eq edgesN (from ∷ []) estimateN fits
  past_out p =
      let v = goal_named laws names distinct _ _ carried start from begins (λ (k : ℕ). nat_eq k p.node) p.path p.goes.goes in
      let node = reach_named laws names distinct _ _ carried (start ∷ []) (from ∷ []) (one_start laws names distinct start from begins) p.node (record { walk = p.path; goes = p.goes.goes }) in
      record {
        node = node.0;
        path = v.0;
        cost = p.cost;
        goes = path_out laws names distinct _ _ carried start from begins (λ (k : ℕ). nat_eq k p.node) (λ x. eq x node.0) (λ k x s. test_stands laws names distinct p.node node.0 node.1 k x s) p.path v.0 v.1 p.goes;
        costs = costs_out laws names distinct edgesM edgesN alike p.path v.0 p.cost v.1 p.costs;
        past = λ h. p.past (subst (λ (z : ℤ). fits (p.cost +ℤ z)) (sym (estimates p.node node.0 node.1)) h);
      }

  pub overflow_out : MayOverflow nat_eq edgesM (start ∷ []) testM estimateM fits → MayOverflow eq edgesN (from ∷ []) testN estimateN fits
  overflow_out h = (
    past_out h.0,
    λ walk u g c.
        let r = goal_back laws names distinct _ _ carried start from begins testM testN tests walk g in
        h.1 r.0 u r.2 (costs_back laws names distinct edgesM edgesN alike r.0 walk u r.1 c),
  )
