-- What a search to a growing depth knows of the paths that it looked through.
use Rattle.std.specs.Prelude.{◌≡◌, ◌≤◌, ◌+◌, ◌-◌, ◌++◌, ℕ, Bool, true, Some, List, length, slice_get, reverse}
use Rattle.pf_base.specs.Walks.{IsGoalPath}
use Rattle.pf_base.specs.Successors.{HasSuccessor}
use Rattle.pf_base.specs.Answers.{SameNodes}
use Rattle.pf_search.specs.declared.directed.iddfs.Deepened.{Deepened}
use Rattle.pf_search.specs.declared.directed.iddfs.Deepened.TheVariants.{Found, Missed}

module _ {N : Type 0} (eq : N → N → Bool) (next : N → List N) where
  -- a list has the nodes that follow the end of a path, the last one first
  pub record FollowsEnd (path answer : List N) : Type 0 where
    pub here : N
    pub at : slice_get path (length path - 1) ≡ Some here
    pub listed : List N
    pub same : SameNodes eq listed (next here)
    pub reversed : answer ≡ reverse listed

module _ {N : Type 0} (eq : N → N → Bool) (next : N → List N) (starts : List N) where
  -- a path from a start
  abbrev pub IsPathFrom : List N → Type 0
  IsPathFrom = IsGoalPath eq (HasSuccessor eq next) starts (λ _. true)

  -- no path that goes on from this one, by at most k nodes where paths were cut off, ends at a node that passes
  abbrev pub NoGoalBeyond : (N → Bool) → Bool → ℕ → List N → Type 0
  NoGoalBeyond test cut k path = (w : List N) → (cut ≡ true → length w ≤ k) → ¬ (IsGoalPath eq (HasSuccessor eq next) starts test (path ++ w))

  module _ (test : N → Bool) (steps : ℕ) where
    -- what is known once a search went on from a path by at most so many steps
    abbrev pub Deepens : Deepened → List N → List N → Type 0
    Deepens Found path path' = IsGoalPath eq (HasSuccessor eq next) starts test path' × (length path' ≤ length path + steps)
    Deepens (Missed cut) path path' = (path' ≡ path) × NoGoalBeyond test cut steps path
