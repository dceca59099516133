-- How a caller shows that its closure over a list of edges answers the graph of that list: its call may be made, leaves the closure as it was, and makes an iterator that is seen as the edges of the node.
use Rattle.std.proofs.Common.{◌≡◌, ℤ, subst, Bool, List}
use Rattle.std.specs.Borrow.{Bor}
use Rattle.std.specs.Cmp.{IsEquivalence}
use Rattle.std.specs.Fn.{Mut, Called}
use Rattle.std.specs.Iterator.{Count, IsFinite, YieldsFirst}
use Rattle.std.proofs.lemmas.Iterator.Consumers.{YieldsList-from_first}
use Rattle.pf_base.specs.Answers.{AnswersGraph, AnswersSuccessors, Gives, ListsEdges, SameNodes}
use Rattle.pf_base.proofs.Callers.{graph_of, successors_of, valued, ListsEdges-valued, ListsEdges-refl, SameNodes-refl}
use Rattle.pf_base.proofs.Sources.{gives_chain}
use Rattle.test_edge_lists.specs.Chosen.{chosen}
use Rattle.test_edge_lists.specs.Lists.{edges_from, edges_to, ends_from, starts_to}
use Rattle.test_edge_lists.specs.Pairs.{nodes_after, nodes_before}
use Rattle.test_edge_lists.proofs.ChosenLemmas.{chosen-same}

-- whatever iterator is made of r may be called, ends, and is seen as xs
abbrev pub Shows : {I A : Type 0} → (I → List A → Type 0) → (List A → Type 0) → (List A → Count) → I → List A → Type 0
Shows {I} {A} becomes can left r xs = (it : List A) → becomes r it → can it × IsFinite (left it) × (it ≡ xs)

shown_gives : {I A : Type 0} {becomes : I → List A → Type 0} {can : List A → Type 0} {left : List A → Count} {r : I} (xs : List A) → Shows becomes can left r xs → Gives becomes can left (YieldsFirst (λ ys. ys)) (λ ys. ys ≡ xs) r
shown_gives xs shows = gives_chain (λ it b. let s = shows it b in (s.0, s.1, YieldsList-from_first (λ y. y) (λ ys. ys) xs s.2))

-- ---- with costs

module _ {F N C I : Type 0} {calls : Mut F (Bor N × Unit {0}) I} {becomes : I → List (N × C) → Type 0} {can : List (N × C) → Type 0} {left : List (N × C) → Count} {eq : N → N → Bool} {value : C → ℤ} {within : N → Type 0} (laws : IsEquivalence eq) where
  chosen_answered : {E : Type 0} (key : E → N) (shown : E → N × C) (edges : List E) {f : F}
      → ((x : Bor N) → within x.now → calls.pre f (x, tt))
      → ((x : Bor N) (r : I) (t : F) → within x.now → Called calls f (x, tt) r t → (t ≡ f) × Shows becomes can left r (chosen eq key shown edges x.now))
      → AnswersGraph calls becomes can left (YieldsFirst (λ ys. ys)) eq value f within (λ n. valued value (chosen eq key shown edges n))
  chosen_answered key shown edges takes keeps = graph_of (chosen eq key shown edges) (λ n. valued value (chosen eq key shown edges n))
      (λ x w. ListsEdges-valued eq value laws.refl (chosen eq key shown edges x))
      (λ x y w e. subst (λ xs. ListsEdges eq (λ z. z) (valued value (chosen eq key shown edges x)) (valued value xs)) (chosen-same eq laws key shown edges x y e) (ListsEdges-refl eq laws.refl (valued value (chosen eq key shown edges x))))
      takes
      (λ x r t w k. let h = keeps x r t w k in (h.0, shown_gives (chosen eq key shown edges x.now) h.1))

  pub edges_from_answered : (edges : List (N × N × C)) {f : F}
      → ((x : Bor N) → within x.now → calls.pre f (x, tt))
      → ((x : Bor N) (r : I) (t : F) → within x.now → Called calls f (x, tt) r t → (t ≡ f) × Shows becomes can left r (ends_from eq edges x.now))
      → AnswersGraph calls becomes can left (YieldsFirst (λ ys. ys)) eq value f within (edges_from eq edges value)
  edges_from_answered edges = chosen_answered (λ (e : N × N × C). e.0) (λ (e : N × N × C). (e.1, e.2)) edges

  pub edges_to_answered : (edges : List (N × N × C)) {f : F}
      → ((x : Bor N) → within x.now → calls.pre f (x, tt))
      → ((x : Bor N) (r : I) (t : F) → within x.now → Called calls f (x, tt) r t → (t ≡ f) × Shows becomes can left r (starts_to eq edges x.now))
      → AnswersGraph calls becomes can left (YieldsFirst (λ ys. ys)) eq value f within (edges_to eq edges value)
  edges_to_answered edges = chosen_answered (λ (e : N × N × C). e.1) (λ (e : N × N × C). (e.0, e.2)) edges

-- ---- without costs

module _ {F N I : Type 0} {calls : Mut F (Bor N × Unit {0}) I} {becomes : I → List N → Type 0} {can : List N → Type 0} {left : List N → Count} {eq : N → N → Bool} {within : N → Type 0} (laws : IsEquivalence eq) where
  pub nodes_answered : {E : Type 0} (key shown : E → N) (edges : List E) {f : F}
      → ((x : Bor N) → within x.now → calls.pre f (x, tt))
      → ((x : Bor N) (r : I) (t : F) → within x.now → Called calls f (x, tt) r t → (t ≡ f) × Shows becomes can left r (chosen eq key shown edges x.now))
      → AnswersSuccessors calls becomes can left (YieldsFirst (λ ys. ys)) eq f within (chosen eq key shown edges)
  nodes_answered key shown edges takes keeps = successors_of (chosen eq key shown edges) (chosen eq key shown edges)
      (λ x w. SameNodes-refl eq laws.refl (chosen eq key shown edges x))
      (λ x y w e. subst (λ xs. SameNodes eq (chosen eq key shown edges x) xs) (chosen-same eq laws key shown edges x y e) (SameNodes-refl eq laws.refl (chosen eq key shown edges x)))
      takes
      (λ x r t w k. let h = keeps x r t w k in (h.0, shown_gives (chosen eq key shown edges x.now) h.1))

  pub nodes_after_answered : (edges : List (N × N)) {f : F}
      → ((x : Bor N) → within x.now → calls.pre f (x, tt))
      → ((x : Bor N) (r : I) (t : F) → within x.now → Called calls f (x, tt) r t → (t ≡ f) × Shows becomes can left r (nodes_after eq edges x.now))
      → AnswersSuccessors calls becomes can left (YieldsFirst (λ ys. ys)) eq f within (nodes_after eq edges)
  nodes_after_answered edges = nodes_answered (λ (e : N × N). e.0) (λ (e : N × N). e.1) edges

  pub nodes_before_answered : (edges : List (N × N)) {f : F}
      → ((x : Bor N) → within x.now → calls.pre f (x, tt))
      → ((x : Bor N) (r : I) (t : F) → within x.now → Called calls f (x, tt) r t → (t ≡ f) × Shows becomes can left r (nodes_before eq edges x.now))
      → AnswersSuccessors calls becomes can left (YieldsFirst (λ ys. ys)) eq f within (nodes_before eq edges)
  nodes_before_answered edges = nodes_answered (λ (e : N × N). e.1) (λ (e : N × N). e.0) edges
