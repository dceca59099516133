-- How a caller shows that its closure answers a graph, where the closure makes an iterator that a contract sees as the list of what it gives.
use Rattle.std.proofs.Common.{◌≡◌, ℕ, ℤ, ap, subst, true, Bool, List}
use Rattle.std.specs.Borrow.{Bor}
use Rattle.std.specs.Fn.{Mut, Called}
use Rattle.std.specs.Iterator.{Count, IsFinite, YieldsFirst}
use Rattle.std.proofs.lemmas.Iterator.Consumers.{YieldsList-from_first}
use Rattle.pf_base.specs.Answers.{AnswersGraph, AnswersSuccessors, AnswersTest, Gives, ListsEdges, SameNodes}
use Rattle.pf_base.proofs.Callers.{graph_of, successors_of, test_of, valued, ListsEdges-valued, ListsEdges-refl, SameNodes-refl}
use Rattle.pf_base.proofs.Sources.{gives_chain}
use Rattle.pf_base.proofs.Tables.{pair_exact}
use Rattle.pf_bench.specs.Steps.{same_cell}

-- whatever iterator is made of r may be called, ends, and is seen as xs
abbrev pub Shows : {I A : Type 0} → (I → List A → Type 0) → (List A → Type 0) → (List A → Count) → I → List A → Type 0
Shows {I} {A} becomes can left r xs = (it : List A) → becomes r it → can it × IsFinite (left it) × (it ≡ xs)

pub shown_gives : {I A : Type 0} {becomes : I → List A → Type 0} {can : List A → Type 0} {left : List A → Count} {r : I} (xs : List A) → Shows becomes can left r xs → Gives becomes can left (YieldsFirst (λ ys. ys)) (λ ys. ys ≡ xs) r
shown_gives xs shows = gives_chain (λ it b. let s = shows it b in (s.0, s.1, YieldsList-from_first (λ y. y) (λ ys. ys) xs s.2))

-- ---- nodes of which equal ones are the same one

module _ {F N I : Type 0} {calls : Mut F (Bor N × Unit {0}) I} {eq : N → N → Bool} {within : N → Type 0} (same : (x : N) → eq x x ≡ true) (exact : (x y : N) → eq x y ≡ true → x ≡ y) where
  pub shown_graph : {C : Type 0} {becomes : I → List (N × C) → Type 0} {can : List (N × C) → Type 0} {left : List (N × C) → Count} (value : C → ℤ) (listed : N → List (N × C)) {f : F}
      → ((x : Bor N) → within x.now → calls.pre f (x, tt))
      → ((x : Bor N) (r : I) (t : F) → within x.now → Called calls f (x, tt) r t → (t ≡ f) × Shows becomes can left r (listed x.now))
      → AnswersGraph calls becomes can left (YieldsFirst (λ ys. ys)) eq value f within (λ x. valued value (listed x))
  shown_graph value listed takes keeps =
      let edges : N → List (N × ℤ) = λ x. valued value (listed x) in
      graph_of listed edges
      (λ x w. ListsEdges-valued eq value same (listed x))
      (λ x y w e. subst (λ z. ListsEdges eq (λ c. c) (edges x) (edges z)) (exact x y e) (ListsEdges-refl eq same (edges x)))
      takes
      (λ x r t w k. let h = keeps x r t w k in (h.0, shown_gives (listed x.now) h.1))

  pub shown_successors : {becomes : I → List N → Type 0} {can : List N → Type 0} {left : List N → Count} (listed : N → List N) {f : F}
      → ((x : Bor N) → within x.now → calls.pre f (x, tt))
      → ((x : Bor N) (r : I) (t : F) → within x.now → Called calls f (x, tt) r t → (t ≡ f) × Shows becomes can left r (listed x.now))
      → AnswersSuccessors calls becomes can left (YieldsFirst (λ ys. ys)) eq f within listed
  shown_successors listed takes keeps = successors_of listed listed
      (λ x w. SameNodes-refl eq same (listed x))
      (λ x y w e. subst (λ z. SameNodes eq (listed x) (listed z)) (exact x y e) (SameNodes-refl eq same (listed x)))
      takes
      (λ x r t w k. let h = keeps x r t w k in (h.0, shown_gives (listed x.now) h.1))

-- a test whether a cell is the goal
module _ {F : Type 0} {calls : Mut F (Bor (ℕ × ℕ) × Unit {0}) Bool} {within : ℕ × ℕ → Type 0} where
  pub goal_test : (goal : ℕ × ℕ) {f : F}
      → ((x : Bor (ℕ × ℕ)) → calls.pre f (x, tt))
      → ((x : Bor (ℕ × ℕ)) (r : Bool) (t : F) → Called calls f (x, tt) r t → (t ≡ f) × (r ≡ same_cell x.now goal))
      → AnswersTest calls same_cell f within (λ cell. same_cell cell goal)
  goal_test goal takes keeps = test_of (λ cell. same_cell cell goal) (λ x y w e. ap (λ cell. same_cell cell goal) (pair_exact x y e)) (λ x w. takes x) (λ x r t w k. keeps x r t k)
