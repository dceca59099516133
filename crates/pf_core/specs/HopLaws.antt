-- That equal nodes have the same edges, where each edge costs 1.
use Rattle.std.proofs.Common.{◌≡◌, refl, sym, subst, Bool, true, List, [], ◌∷◌, inl, inr, ℤ, pos}
use Rattle.std.specs.Prelude.{map}
use Rattle.pf_base.specs.Walks.{HasNode, Follows, IsGoalWalk, IsReachable}
use Rattle.pf_base.specs.Edges.{HasEdge, IsSuccessor, InReach}
use Rattle.pf_base.specs.Successors.{HasSuccessor}
use Rattle.pf_base.specs.Answers.{SameNodes, ListsEdges}
use Rattle.pf_core.specs.Hops.{unit_edges}

module _ {N : Type 0} (eq : N → N → Bool) where
  pub next_of_edge : (xs : List N) (b : N) (z : ℤ) → HasEdge eq (map (λ y. (y, pos 1)) xs) b z → HasNode eq xs b × (z ≡ pos 1)
  next_of_edge [] b z h = absurd h
  next_of_edge (x ∷ xs) b z (inl h) = (inl h.0, sym h.1)
  next_of_edge (x ∷ xs) b z (inr h) = let q = next_of_edge xs b z h in (inr q.0, q.1)

  pub lists_unit : (xs ys : List N) → SameNodes eq xs ys → ListsEdges eq (λ z. z) (map (λ y. (y, pos 1)) xs) (map (λ y. (y, pos 1)) ys)
  lists_unit [] [] s = tt
  lists_unit [] (y ∷ ys) s = absurd s
  lists_unit (x ∷ xs) [] s = absurd s
  lists_unit (x ∷ xs) (y ∷ ys) s = ((s.0, refl), lists_unit xs ys s.1)

  module _ (next : N → List N) where
    pub follows_next : (w : List N) (a : N) → Follows (IsSuccessor eq (unit_edges next)) a w → Follows (HasSuccessor eq next) a w
    follows_next [] a f = tt
    follows_next (b ∷ w) a f = ((next_of_edge (next a) b f.0.0 f.0.1).0, follows_next w b f.1)

    module _ (starts : List N) where
      pub walk_next : (test : N → Bool) (w : List N) → IsGoalWalk eq (IsSuccessor eq (unit_edges next)) starts test w → IsGoalWalk eq (HasSuccessor eq next) starts test w
      walk_next test [] h = absurd h.walks
      walk_next test (a ∷ w) h = record { walks = follows_next w a h.walks; begins = h.begins; ends = h.ends }

      pub reach_next : (x : N) → InReach eq (unit_edges next) starts x → IsReachable eq (HasSuccessor eq next) starts x
      reach_next x r = record { walk = r.walk; goes = walk_next (λ y. eq y x) r.walk r.goes }

  pub unit_alike : (starts : List N) (edges : N → List (N × ℤ)) (next : N → List N) → edges ≡ unit_edges next
      → ((x y : N) → IsReachable eq (HasSuccessor eq next) starts x → eq x y ≡ true → SameNodes eq (next x) (next y))
      → (x y : N) → InReach eq edges starts x → eq x y ≡ true → ListsEdges eq (λ z. z) (edges x) (edges y)
  unit_alike starts edges next e same = subst (λ (f : N → List (N × ℤ)). (x y : N) → InReach eq f starts x → eq x y ≡ true → ListsEdges eq (λ z. z) (f x) (f y)) (sym e)
      (λ x y r h. lists_unit (next x) (next y) (same x y (reach_next next starts x r) h))
