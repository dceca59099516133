-- The k cheapest clean paths while they are gathered, in any order.
use Rattle.std.specs.Prelude.{◌≡◌, ◌⊎◌, ◌≤ℤ◌, ◌<◌, ◌≤◌, ◌&&◌, ℕ, ℤ, Bool, true, false, List, [], ◌∷◌, length, sum_by, Contains}
use Rattle.pf_base.specs.declared.error.PathError.{PathError}
use Rattle.pf_base.specs.Edges.{WalkCosts, CostOverflows}
use Rattle.pf_yen.specs.Internal.Classes.{one_if}
use Rattle.pf_yen.specs.CleanPaths.{IsCleanPath, PathOverflows, WasGiven, AllGiven}

-- whether these are the same nodes, place by place
abbrev pub same_nodes : {N : Type 0} → (N → N → Bool) → List N → List N → Bool
same_nodes eq [] [] = true
same_nodes eq [] (y ∷ ys) = false
same_nodes eq (x ∷ xs) [] = false
same_nodes eq (x ∷ xs) (y ∷ ys) = eq x y && same_nodes eq xs ys

-- how often the path is listed
abbrev pub times_listed : {N C : Type 0} → (N → N → Bool) → List N → List (List N × C) → ℕ
times_listed {N} {C} eq path answer = sum_by (λ (g : List N × C). one_if (same_nodes eq g.0 path)) answer

module _ {N C : Type 0} (eq : N → N → Bool) (edges : N → List (N × ℤ)) (start : N) (test : N → Bool) (value : C → ℤ) where
  -- clean paths with their costs, none listed twice, and no other one costs less
  pub record AreCheapest (answer : List (List N × C)) : Type 0 where
    pub clean : (g : List N × C) → Contains answer g → IsCleanPath eq edges start test g.0
    pub costs : (g : List N × C) → Contains answer g → WalkCosts eq edges g.0 (value g.1)
    pub once : (path : List N) → times_listed eq path answer ≤ 1
    pub none_cheaper : (path : List N) (u : ℤ) → IsCleanPath eq edges start test path → WalkCosts eq edges path u → ¬ (WasGiven eq edges start test value answer path) → (g : List N × C) → Contains answer g → value g.1 ≤ℤ u

  -- k cheapest clean paths in any order, or all where there are fewer
  pub record AreKCheapest (k : ℕ) (answer : List (List N × C)) : Type 0 where
    pub cheapest : AreCheapest answer
    pub most : length answer ≤ k
    pub complete : length answer < k → AllGiven eq edges start test value answer

-- why k paths may not be gathered: for want of memory, or since a path and one step more cost more than fits, where some path is to be gathered; where it is one, also a cheapest path to some node and one step more
abbrev pub MayRefuse : {N : Type 0} → (N → N → Bool) → (N → List (N × ℤ)) → N → (N → Bool) → (ℤ → Type 0) → ℕ → PathError → Type 0
MayRefuse eq edges start test fits k refusal = (refusal ≡ PathError.OutOfMemory) ⊎ ((refusal ≡ PathError.CostOverflow) × (1 ≤ k) × PathOverflows eq edges start test fits × (k ≡ 1 → CostOverflows eq edges (start ∷ []) test fits))
