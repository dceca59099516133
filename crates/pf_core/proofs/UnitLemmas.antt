-- Lemmas on graphs in which each edge costs 1.
use Rattle.std.proofs.Common.{◌≡◌, ℕ, zero, suc, ◌<◌, ◌≤◌, Bool, true, Option, Some, List, [], ◌∷◌, length, refl, sym, ap, subst, ◌∙◌, arith, Bor, inl, inr, ℤ, pos}
use Rattle.std.specs.Prelude.{◌↔◌, ◌≤ℤ◌, map}
use Rattle.std.specs.Cmp.{IsEquivalence}
use Rattle.std.specs.Iterator.{Count}
use Rattle.std.specs.Fn.{Mut}
use Rattle.std.proofs.lemmas.Int.{ints}
use Rattle.pf_base.specs.Walks.{HasNode, Follows, IsGoalWalk, HasNoGoalWalk, IsReachable}
use Rattle.pf_base.specs.NodeRefs.{HasSameNodes}
use Rattle.pf_base.specs.Edges.{HasEdge, IsSuccessor, StepCosts, StepsCost, InReach, IsCheapestGoalPath}
use Rattle.pf_base.specs.Successors.{HasSuccessor, IsFewestEdgesGoalPath}
use Rattle.pf_base.specs.Answers.{SameNodes, ListsEdges, AnswersTest, Gives}
use Rattle.pf_core.specs.Numbered.{StandsBelow}
use Rattle.pf_core.specs.Steps.{IsHop}
use Rattle.pf_core.specs.Nodes.{StandsFor, IsStep}
use Rattle.pf_core.specs.Hops.{unit_edges}
use Rattle.pf_core.specs.HopLaws.{next_of_edge, walk_next, reach_next}
use Rattle.pf_base.proofs.ListLemmas.{none_in}
use Rattle.pf_core.proofs.NodeLemmas.{Answers-weaker, Gives-weaker}
use mathlib.Core.Path.{fun_ext}

-- the nodes that follow, of a graph in which each edge costs 1
pub ends_unit : {N : Type 0} (xs : List N) → map (λ (e : N × ℤ). e.0) (map (λ y. (y, pos 1)) xs) ≡ xs
ends_unit [] = refl
ends_unit (x ∷ xs) = ap (λ ys. x ∷ ys) (ends_unit xs)

same_next : {N : Type 0} (next other : N → List N) → unit_edges next ≡ unit_edges other → next ≡ other
same_next {N} next other e = fun_ext (λ x. sym (ends_unit (next x)) ∙ ap (λ (f : N → List (N × ℤ)). map (λ (e : N × ℤ). e.0) (f x)) e ∙ ends_unit (other x))

module _ {N : Type 0} (eq : N → N → Bool) where
  pub edge_of_next : (xs : List N) (b : N) → HasNode eq xs b → HasEdge eq (map (λ y. (y, pos 1)) xs) b (pos 1)
  edge_of_next [] b h = h
  edge_of_next (x ∷ xs) b (inl h) = inl (h, refl)
  edge_of_next (x ∷ xs) b (inr h) = inr (edge_of_next xs b h)

  -- each node with the cost 1
  pub lists_ones : (xs ys : List N) → SameNodes eq xs ys → ListsEdges eq pos (map (λ y. (y, 1)) xs) (map (λ y. (y, pos 1)) ys)
  lists_ones [] [] s = tt
  lists_ones [] (y ∷ ys) s = absurd s
  lists_ones (x ∷ xs) [] s = absurd s
  lists_ones (x ∷ xs) (y ∷ ys) s = ((s.0, refl), lists_ones xs ys s.1)

  -- an answer that lists the successors says the edges
  pub hops_said : {I S : Type 0} (becomes : I → S → Type 0) (can : S → Type 0) (left : S → Count) (steps : S → Option N → S → Type 0) (edges : N → List (N × ℤ)) (next : N → List N) → edges ≡ unit_edges next
      → (x : N) (r : I) → Gives becomes can left steps (λ xs. SameNodes eq xs (next x)) r → Gives becomes can left steps (λ xs. ListsEdges eq pos (map (λ y. (y, 1)) xs) (edges x)) r
  hops_said becomes can left steps edges next e x r = Gives-weaker becomes can left steps _ _ (λ xs s. subst (λ (f : N → List (N × ℤ)). ListsEdges eq pos (map (λ y. (y, 1)) xs) (f x)) (sym e) (lists_ones xs (next x) s)) r

  pub is_hop : (starts : List N) (next : N → List N) → IsHop (IsStep eq (record { starts = starts; edges = unit_edges next }))
  is_hop starts next = record { one = λ a z b s. (next_of_edge eq (next a) b z s.1).1 }

  module _ (next : N → List N) where
    step_costs : (a b : N) (z : ℤ) → HasEdge eq (unit_edges next a) b z → StepCosts eq (unit_edges next) a b (pos 1)
    step_costs a b z h = record {
      edge = edge_of_next (next a) b (next_of_edge eq (next a) b z h).0;
      cheapest = λ y k. subst (λ (u : ℤ). pos 1 ≤ℤ u) (sym (next_of_edge eq (next a) b y k).1) (omega (arith, ints));
    }

    pub follows_edges : (w : List N) (a : N) → Follows (HasSuccessor eq next) a w → Follows (IsSuccessor eq (unit_edges next)) a w
    follows_edges [] a f = tt
    follows_edges (b ∷ w) a f = ((pos 1, edge_of_next (next a) b f.0), follows_edges w b f.1)

    -- a walk costs as much as it has edges
    costs_length : (w : List N) (a : N) → Follows (IsSuccessor eq (unit_edges next)) a w → StepsCost eq (unit_edges next) a w (pos (length w))
    costs_length [] a f = refl
    costs_length (b ∷ w) a f = (pos 1, pos (length w), step_costs a b f.0.0 f.0.1, costs_length w b f.1, omega (arith, ints))

    length_costs : (w : List N) (a : N) (u : ℤ) → StepsCost eq (unit_edges next) a w u → u ≡ pos (length w)
    length_costs [] a u h = h
    length_costs (b ∷ w) a u h =
        let s = h.2 in
        let one = (next_of_edge eq (next a) b h.0 s.edge).1 in
        let rest = length_costs w b h.1 h.3 in
        omega (arith, ints, one, rest, h.4)

    module _ (starts : List N) where
      walk_edges : (test : N → Bool) (w : List N) → IsGoalWalk eq (HasSuccessor eq next) starts test w → IsGoalWalk eq (IsSuccessor eq (unit_edges next)) starts test w
      walk_edges test [] h = absurd h.walks
      walk_edges test (a ∷ w) h = record { walks = follows_edges w a h.walks; begins = h.begins; ends = h.ends }

      pub reach_edges : (x : N) → IsReachable eq (HasSuccessor eq next) starts x → InReach eq (unit_edges next) starts x
      reach_edges x r = record { walk = r.walk; goes = walk_edges (λ y. eq y x) r.walk r.goes }

      pub no_next_walk : (test : N → Bool) → HasNoGoalWalk eq (IsSuccessor eq (unit_edges next)) starts test → HasNoGoalWalk eq (HasSuccessor eq next) starts test
      no_next_walk test none w h = none w (walk_edges test w h)

      pub fewest_of_best : (test : N → Bool) (path : List N) (t : ℤ) → IsCheapestGoalPath eq (unit_edges next) starts test path t → IsFewestEdgesGoalPath eq next starts test path
      fewest_of_best test [] t b = absurd b.costs
      fewest_of_best test (a ∷ w) t b = record {
        goes = record { goes = walk_next eq next starts test (a ∷ w) b.goes.goes; distinct = b.goes.distinct };
        fewest = shorter;
      }
        where
          shorter : (walk : List N) → IsGoalWalk eq (HasSuccessor eq next) starts test walk → length (a ∷ w) ≤ length walk
          shorter [] h = absurd h.walks
          shorter (c ∷ v) h =
              let k = walk_edges test (c ∷ v) h in
              let low = b.best (c ∷ v) (pos (length v)) k (costs_length v c k.walks) in
              let same = length_costs w a t b.costs in
              omega (arith, ints, low, same)

  -- the test is asked in reach of the starts
  pub tests_in_reach : {P : Type 0} (p_calls : Mut P (Bor N × Unit {0}) Bool) (starts : List N) (next : N → List N) (test : N → Bool) (p : P) → AnswersTest p_calls eq p (IsReachable eq (HasSuccessor eq next) starts) test → AnswersTest p_calls eq p (InReach eq (unit_edges next) starts) test
  tests_in_reach p_calls starts next test p t = record { alike = λ x y r e. t.alike x y (reach_next eq next starts x r) e; answers = Answers-weaker p_calls _ _ (reach_next eq next starts) _ _ (λ x r g. g) p t.answers }

  -- what is asked for successors answers this graph still
  pub answers_next : {F : Type 0} (answers : F → (N → Type 0) → (N → List N) → Type 0) (f : F) (starts : List N) (next other : N → List N) → unit_edges next ≡ unit_edges other
      → answers f (IsReachable eq (HasSuccessor eq other) starts) other → answers f (IsReachable eq (HasSuccessor eq next) starts) next
  answers_next answers f starts next other e = subst (λ (h : N → List N). answers f (IsReachable eq (HasSuccessor eq h) starts) h) (sym (same_next next other e))

  module _ (laws : IsEquivalence eq) where
    -- a set with the nodes of the starts stands for the starts
    stands_of : (keys : List N) (x : N) → HasNode eq keys x → StandsBelow (length keys) (StandsFor eq keys) x
    stands_of [] x h = absurd h
    stands_of (k ∷ keys) x (inl h) = (0, omega arith, (k, refl, h))
    stands_of (k ∷ keys) x (inr h) = let q = stands_of keys x h in (suc q.0, omega (arith, q.1), q.2)

    node_of : (keys : List N) (k : ℕ) (x : N) → StandsFor eq keys k x → HasNode eq keys x
    node_of [] k x h = absurd (none_in k h.0 h.1)
    node_of (m ∷ keys) zero x h =
        let e : Some m ≡ Some h.0 = h.1 in
        let f : m ≡ h.0 = cc in
        inl (subst (λ (y : N). eq y x ≡ true) (sym f) h.2)
    node_of (m ∷ keys) (suc k) x h = inr (node_of keys k x (h.0, h.1, h.2))

    pub starts_stand : (ss keys : List N) → HasSameNodes eq keys ss → (x : N) → StandsBelow (length keys) (StandsFor eq keys) x ↔ HasNode eq ss x
    starts_stand ss keys s x = (λ h. (s x).0 (node_of keys h.0 x h.2), λ h. stands_of keys x ((s x).1 h))

    -- each number below stands for some node
    pub begins_all : (keys : List N) (k : ℕ) → k < length keys → (s : N) × StandsFor eq keys k s
    begins_all [] k l = absurd (omega (arith, l))
    begins_all (m ∷ keys) zero l = (m, (m, refl, laws.refl m))
    begins_all (m ∷ keys) (suc k) l = let q = begins_all keys k (omega (arith, l)) in (q.0, (q.1.0, q.1.1, q.1.2))
