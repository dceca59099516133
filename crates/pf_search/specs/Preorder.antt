-- Which path a search in preorder answers.
use Rattle.std.specs.Prelude.{◌≡◌, ◌++◌, Bool, false, List, [], ◌∷◌, Option, Vec, MatchOption, Contains}
use Rattle.pf_base.specs.Answers.{SameNodes}
use Rattle.pf_base.specs.Orders.{last_nodes, IsPreorder}
use Rattle.pf_base.specs.Successors.{HasSuccessor}
use Rattle.pf_base.specs.Walks.{HasNoGoalWalk, IsGoalPath}

module _ {N : Type 0} (eq : N → N → Bool) (next : N → List N) (start : N) (test : N → Bool) where
  -- Up to equality of nodes, the path is a tree path of the preorder; the last nodes of the tree paths before it do not pass.
  pub record IsFirstTreePath (path : List N) : Type 0 where
    pub earlier : List (List N)
    pub tree : List N
    pub preorder : IsPreorder eq next start (earlier ++ tree ∷ [])
    pub same : SameNodes eq tree path
    pub fails : (x : N) → Contains (last_nodes earlier) x → test x ≡ false

  -- the tree path to the first node in preorder that passes, with no node twice, or none exactly where no walk leads to such a node
  abbrev pub IsFirstTreePathOrNone : {A : Type 0} → Option (Vec N A) → Type 0
  IsFirstTreePathOrNone answer = MatchOption answer (HasNoGoalWalk eq (HasSuccessor eq next) (start ∷ []) test) (λ path. IsGoalPath eq (HasSuccessor eq next) (start ∷ []) test path.items × IsFirstTreePath path.items)
