-- Sets of nodes, each seen as the list of its nodes in the order in which they are kept.
use Rattle.std.specs.Prelude.{◌↔◌, Bool, ◌&&◌, List, Option, map}
use Rattle.std.specs.Borrow.{Bor}
use Rattle.std.specs.Iterator.{Drains}
use Rattle.std.specs.List.{list_any, list_all}
use Rattle.pf_base.specs.Walks.{HasNode}

-- the nodes that the references point to
abbrev pub nodes_of : {N : Type 0} → List (Bor N) → List N
nodes_of {N} refs = map (λ (r : Bor N). r.now) refs

module _ {N : Type 0} (eq : N → N → Bool) where
  -- each node of one is in the other
  abbrev pub HasSameNodes : List N → List N → Type 0
  HasSameNodes xs ys = (x : N) → HasNode eq xs x ↔ HasNode eq ys x

  -- whether each node of xs is in ys
  abbrev pub is_subset : List N → List N → Bool
  is_subset xs ys = list_all (λ x. list_any (λ y. eq y x) ys) xs

  -- whether each node of one is in the other
  abbrev pub has_same_nodes : List N → List N → Bool
  has_same_nodes xs ys = is_subset xs ys && is_subset ys xs

module _ {N I S : Type 0} (eq : N → N → Bool) (becomes : I → S → Type 0) (steps : S → Option (Bor N) → S → Type 0) where
  -- xs has the nodes that an iterator made of `given` gives until it ends, and no others
  pub record HasNodesGivenBy (given : I) (xs : List N) : Type 0 where
    pub iterator : S
    pub refs : List (Bor N)
    pub made : becomes given iterator
    pub drains : Drains steps iterator refs
    pub same : HasSameNodes eq xs (nodes_of refs)
