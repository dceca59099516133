-- How a caller shows that its functions answer a graph, successors and a test.
-- A search asks for a graph and a proof that the given function answers it. A caller says what its function lists at each node, with costs as the code has them, and shows two facts of a call: that it may be made, and that it gives this list. `graph_by` makes the proof of that, and `nat_graph` does it for nodes that are numbers.
use Rattle.std.proofs.Common.{◌≡◌, ℕ, ℤ, refl, sym, ap, subst, Bool, true, List, [], ◌∷◌, map, Option, nat_eq, eq-eqb}
use Rattle.std.specs.Borrow.{Bor}
use Rattle.std.specs.Fn.{Mut, Called}
use Rattle.std.specs.Iterator.{Count}
use borrow.Author.Tests.{eqb-true}
use Rattle.pf_base.specs.Answers.{Answers, AnswersEach, AnswersGraph, AnswersSuccessors, AnswersTest, Gives, ListsEdges, SameNodes}

-- the edges, each with the whole number that it costs
abbrev pub valued : {N C : Type 0} → (C → ℤ) → List (N × C) → List (N × ℤ)
valued {N} {C} value xs = map (λ (x : N × C). (x.0, value x.1)) xs

-- a list of edges is what it lists
pub ListsEdges-valued : {N C : Type 0} (eq : N → N → Bool) (value : C → ℤ) → ((x : N) → eq x x ≡ true) → (xs : List (N × C)) → ListsEdges eq value xs (valued value xs)
ListsEdges-valued eq value same [] = tt
ListsEdges-valued eq value same (x ∷ xs) = ((same x.0, refl), ListsEdges-valued eq value same xs)

pub ListsEdges-refl : {N : Type 0} (eq : N → N → Bool) → ((x : N) → eq x x ≡ true) → (xs : List (N × ℤ)) → ListsEdges eq (λ z. z) xs xs
ListsEdges-refl eq same [] = tt
ListsEdges-refl eq same (x ∷ xs) = ((same x.0, refl), ListsEdges-refl eq same xs)

-- f answers at any nodes, however often, where its calls keep a fact J under which a call may be made and gives what `gives` says.
module _ {F N R : Type 0} (calls : Mut F (Bor N × Unit {0}) R) (within : N → Type 0) (gives : N → R → Type 0) (J : F → Type 0)
    (takes : (s : F) (x : Bor N) → J s → within x.now → calls.pre s (x, tt))
    (keeps : (s : F) (x : Bor N) (r : R) (t : F) → J s → within x.now → Called calls s (x, tt) r t → J t × gives x.now r) where
  each_by : (xs : List (Bor N)) (f : F) → J f → AnswersEach calls within gives f xs
  each_by [] f j = tt
  each_by (x ∷ xs) f j = λ w. (takes f x j w, λ r t k. let h = keeps f x r t j w k in (h.1, each_by xs t h.0))

  pub answers_by : (f : F) → J f → Answers calls within gives f
  answers_by f j = record { at = λ xs. each_by xs f j }

-- The graph of a function that lists `listed x` at each node x within. J is what its calls keep: of a function that a call leaves as it was, that it is still that function; of one that counts its calls, what its calls need.
module _ {F N C I S : Type 0} {calls : Mut F (Bor N × Unit {0}) I} {becomes : I → S → Type 0} {can : S → Type 0} {left : S → Count} {steps : S → Option (N × C) → S → Type 0} {eq : N → N → Bool} {value : C → ℤ} {within : N → Type 0} where
  pub graph_by : (listed : N → List (N × C)) (edges : N → List (N × ℤ)) (J : F → Type 0) {f : F} → J f
      → ((x : N) → within x → ListsEdges eq value (listed x) (edges x))
      → ((x y : N) → within x → eq x y ≡ true → ListsEdges eq (λ z. z) (edges x) (edges y))
      → ((s : F) (x : Bor N) → J s → within x.now → calls.pre s (x, tt))
      → ((s : F) (x : Bor N) (r : I) (t : F) → J s → within x.now → Called calls s (x, tt) r t → J t × Gives becomes can left steps (λ xs. xs ≡ listed x.now) r)
      → AnswersGraph calls becomes can left steps eq value f within edges
  graph_by listed edges J {f} j lists alike takes keeps = record {
    alike = alike;
    answers = answers_by _ _ _ J takes (λ s x r t i w k. let h = keeps s x r t i w k in
        (h.0, record { can_next = h.1.can_next; finite = h.1.finite; items = λ it b p g o u. subst (λ xs. ListsEdges eq value xs (edges x.now)) (sym (h.1.items it b p g o u)) (lists x.now w) })) f j;
  }

  -- the same of a function that its calls leave as it was
  pub graph_of : (listed : N → List (N × C)) (edges : N → List (N × ℤ)) {f : F}
      → ((x : N) → within x → ListsEdges eq value (listed x) (edges x))
      → ((x y : N) → within x → eq x y ≡ true → ListsEdges eq (λ z. z) (edges x) (edges y))
      → ((x : Bor N) → within x.now → calls.pre f (x, tt))
      → ((x : Bor N) (r : I) (t : F) → within x.now → Called calls f (x, tt) r t → (t ≡ f) × Gives becomes can left steps (λ xs. xs ≡ listed x.now) r)
      → AnswersGraph calls becomes can left steps eq value f within edges
  graph_of listed edges {f} lists alike takes keeps = graph_by listed edges (λ s. s ≡ f) refl lists alike
      (λ s x e w. subst (λ (q : F). calls.pre q (x, tt)) (sym e) (takes x w))
      (λ s x r t e w k. keeps x r t w (subst (λ (q : F). Called calls q (x, tt) r t) e k))

pub SameNodes-refl : {N : Type 0} (eq : N → N → Bool) → ((x : N) → eq x x ≡ true) → (xs : List N) → SameNodes eq xs xs
SameNodes-refl eq same [] = tt
SameNodes-refl eq same (x ∷ xs) = (same x, SameNodes-refl eq same xs)

-- The same without costs: a function that lists `listed x` at each node x within.
module _ {F N I S : Type 0} {calls : Mut F (Bor N × Unit {0}) I} {becomes : I → S → Type 0} {can : S → Type 0} {left : S → Count} {steps : S → Option N → S → Type 0} {eq : N → N → Bool} {within : N → Type 0} where
  pub successors_by : (listed successors : N → List N) (J : F → Type 0) {f : F} → J f
      → ((x : N) → within x → SameNodes eq (listed x) (successors x))
      → ((x y : N) → within x → eq x y ≡ true → SameNodes eq (successors x) (successors y))
      → ((s : F) (x : Bor N) → J s → within x.now → calls.pre s (x, tt))
      → ((s : F) (x : Bor N) (r : I) (t : F) → J s → within x.now → Called calls s (x, tt) r t → J t × Gives becomes can left steps (λ xs. xs ≡ listed x.now) r)
      → AnswersSuccessors calls becomes can left steps eq f within successors
  successors_by listed successors J {f} j lists alike takes keeps = record {
    alike = alike;
    answers = answers_by _ _ _ J takes (λ s x r t i w k. let h = keeps s x r t i w k in
        (h.0, record { can_next = h.1.can_next; finite = h.1.finite; items = λ it b p g o u. subst (λ xs. SameNodes eq xs (successors x.now)) (sym (h.1.items it b p g o u)) (lists x.now w) })) f j;
  }

  -- the same of a function that its calls leave as it was
  pub successors_of : (listed successors : N → List N) {f : F}
      → ((x : N) → within x → SameNodes eq (listed x) (successors x))
      → ((x y : N) → within x → eq x y ≡ true → SameNodes eq (successors x) (successors y))
      → ((x : Bor N) → within x.now → calls.pre f (x, tt))
      → ((x : Bor N) (r : I) (t : F) → within x.now → Called calls f (x, tt) r t → (t ≡ f) × Gives becomes can left steps (λ xs. xs ≡ listed x.now) r)
      → AnswersSuccessors calls becomes can left steps eq f within successors
  successors_of listed successors {f} lists alike takes keeps = successors_by listed successors (λ s. s ≡ f) refl lists alike
      (λ s x e w. subst (λ (q : F). calls.pre q (x, tt)) (sym e) (takes x w))
      (λ s x r t e w k. keeps x r t w (subst (λ (q : F). Called calls q (x, tt) r t) e k))

-- The test of a function that answers `test x` at each node x within.
module _ {F N : Type 0} {calls : Mut F (Bor N × Unit {0}) Bool} {eq : N → N → Bool} {within : N → Type 0} where
  pub test_by : (test : N → Bool) (J : F → Type 0) {f : F} → J f
      → ((x y : N) → within x → eq x y ≡ true → test x ≡ test y)
      → ((s : F) (x : Bor N) → J s → within x.now → calls.pre s (x, tt))
      → ((s : F) (x : Bor N) (r : Bool) (t : F) → J s → within x.now → Called calls s (x, tt) r t → J t × (r ≡ test x.now))
      → AnswersTest calls eq f within test
  test_by test J {f} j alike takes keeps = record { alike = alike; answers = answers_by _ _ _ J takes keeps f j }

  -- the same of a function that its calls leave as it was
  pub test_of : (test : N → Bool) {f : F}
      → ((x y : N) → within x → eq x y ≡ true → test x ≡ test y)
      → ((x : Bor N) → within x.now → calls.pre f (x, tt))
      → ((x : Bor N) (r : Bool) (t : F) → within x.now → Called calls f (x, tt) r t → (t ≡ f) × (r ≡ test x.now))
      → AnswersTest calls eq f within test
  test_of test {f} alike takes keeps = test_by test (λ s. s ≡ f) refl alike
      (λ s x e w. subst (λ (q : F). calls.pre q (x, tt)) (sym e) (takes x w))
      (λ s x r t e w k. keeps x r t w (subst (λ (q : F). Called calls q (x, tt) r t) e k))

-- ---- nodes whose `==` is identity, as that of a struct with derived equality: any list and any test will do

module _ {N : Type 0} {eq : N → N → Bool} (same : (x : N) → eq x x ≡ true) (exact : (x y : N) → eq x y ≡ true → x ≡ y) where
  exact_alike : (edges : N → List (N × ℤ)) (x y : N) → eq x y ≡ true → ListsEdges eq (λ z. z) (edges x) (edges y)
  exact_alike edges x y e = subst (λ z. ListsEdges eq (λ q. q) (edges x) (edges z)) (exact x y e) (ListsEdges-refl eq same (edges x))

  module _ {F C I S : Type 0} {calls : Mut F (Bor N × Unit {0}) I} {becomes : I → S → Type 0} {can : S → Type 0} {left : S → Count} {steps : S → Option (N × C) → S → Type 0} {value : C → ℤ} {within : N → Type 0} where
    pub exact_graph_by : (listed : N → List (N × C)) (J : F → Type 0) {f : F} → J f
        → ((s : F) (x : Bor N) → J s → within x.now → calls.pre s (x, tt))
        → ((s : F) (x : Bor N) (r : I) (t : F) → J s → within x.now → Called calls s (x, tt) r t → J t × Gives becomes can left steps (λ xs. xs ≡ listed x.now) r)
        → AnswersGraph calls becomes can left steps eq value f within (λ x. valued value (listed x))
    exact_graph_by listed J j = graph_by listed (λ x. valued value (listed x)) J j (λ x w. ListsEdges-valued eq value same (listed x)) (λ x y w e. exact_alike (λ n. valued value (listed n)) x y e)

    -- the same of a function that its calls leave as it was
    pub exact_graph : (listed : N → List (N × C)) {f : F}
        → ((x : Bor N) → within x.now → calls.pre f (x, tt))
        → ((x : Bor N) (r : I) (t : F) → within x.now → Called calls f (x, tt) r t → (t ≡ f) × Gives becomes can left steps (λ xs. xs ≡ listed x.now) r)
        → AnswersGraph calls becomes can left steps eq value f within (λ x. valued value (listed x))
    exact_graph listed = graph_of listed (λ x. valued value (listed x)) (λ x w. ListsEdges-valued eq value same (listed x)) (λ x y w e. exact_alike (λ n. valued value (listed n)) x y e)

  -- the same without costs
  pub exact_successors : {F I S : Type 0} {calls : Mut F (Bor N × Unit {0}) I} {becomes : I → S → Type 0} {can : S → Type 0} {left : S → Count} {steps : S → Option N → S → Type 0} {within : N → Type 0} (listed : N → List N) {f : F}
      → ((x : Bor N) → within x.now → calls.pre f (x, tt))
      → ((x : Bor N) (r : I) (t : F) → within x.now → Called calls f (x, tt) r t → (t ≡ f) × Gives becomes can left steps (λ xs. xs ≡ listed x.now) r)
      → AnswersSuccessors calls becomes can left steps eq f within listed
  exact_successors listed = successors_of listed listed (λ x w. SameNodes-refl eq same (listed x)) (λ x y w e. subst (λ z. SameNodes eq (listed x) (listed z)) (exact x y e) (SameNodes-refl eq same (listed x)))

  module _ {F : Type 0} {calls : Mut F (Bor N × Unit {0}) Bool} {within : N → Type 0} where
    pub exact_test_by : (test : N → Bool) (J : F → Type 0) {f : F} → J f
        → ((s : F) (x : Bor N) → J s → within x.now → calls.pre s (x, tt))
        → ((s : F) (x : Bor N) (r : Bool) (t : F) → J s → within x.now → Called calls s (x, tt) r t → J t × (r ≡ test x.now))
        → AnswersTest calls eq f within test
    exact_test_by test J j = test_by test J j (λ x y w e. ap test (exact x y e))

    -- the same of a function that its calls leave as it was
    pub exact_test : (test : N → Bool) {f : F}
        → ((x : Bor N) → within x.now → calls.pre f (x, tt))
        → ((x : Bor N) (r : Bool) (t : F) → within x.now → Called calls f (x, tt) r t → (t ≡ f) × (r ≡ test x.now))
        → AnswersTest calls eq f within test
    exact_test test = test_of test (λ x y w e. ap test (exact x y e))

-- ---- nodes that are numbers

pub nat_refl : (x : ℕ) → nat_eq x x ≡ true
nat_refl x = eq-eqb x x refl

nat_exact : (x y : ℕ) → nat_eq x y ≡ true → x ≡ y
nat_exact x y e = eqb-true x y e

pub nat_same : {X : Type 0} (f : ℕ → X) (x y : ℕ) → nat_eq x y ≡ true → f x ≡ f y
nat_same f x y h = ap f (eqb-true x y h)

module _ {F C I S : Type 0} {calls : Mut F (Bor ℕ × Unit {0}) I} {becomes : I → S → Type 0} {can : S → Type 0} {left : S → Count} {steps : S → Option (ℕ × C) → S → Type 0} {value : C → ℤ} {within : ℕ → Type 0} where
  pub nat_graph_by : (listed : ℕ → List (ℕ × C)) (J : F → Type 0) {f : F} → J f
      → ((s : F) (x : Bor ℕ) → J s → within x.now → calls.pre s (x, tt))
      → ((s : F) (x : Bor ℕ) (r : I) (t : F) → J s → within x.now → Called calls s (x, tt) r t → J t × Gives becomes can left steps (λ xs. xs ≡ listed x.now) r)
      → AnswersGraph calls becomes can left steps nat_eq value f within (λ x. valued value (listed x))
  nat_graph_by = exact_graph_by nat_refl nat_exact

  -- the same of a function that its calls leave as it was
  pub nat_graph : (listed : ℕ → List (ℕ × C)) {f : F}
      → ((x : Bor ℕ) → within x.now → calls.pre f (x, tt))
      → ((x : Bor ℕ) (r : I) (t : F) → within x.now → Called calls f (x, tt) r t → (t ≡ f) × Gives becomes can left steps (λ xs. xs ≡ listed x.now) r)
      → AnswersGraph calls becomes can left steps nat_eq value f within (λ x. valued value (listed x))
  nat_graph = exact_graph nat_refl nat_exact

pub nat_successors : {F I S : Type 0} {calls : Mut F (Bor ℕ × Unit {0}) I} {becomes : I → S → Type 0} {can : S → Type 0} {left : S → Count} {steps : S → Option ℕ → S → Type 0} {within : ℕ → Type 0} (listed : ℕ → List ℕ) {f : F}
    → ((x : Bor ℕ) → within x.now → calls.pre f (x, tt))
    → ((x : Bor ℕ) (r : I) (t : F) → within x.now → Called calls f (x, tt) r t → (t ≡ f) × Gives becomes can left steps (λ xs. xs ≡ listed x.now) r)
    → AnswersSuccessors calls becomes can left steps nat_eq f within listed
nat_successors = exact_successors nat_refl nat_exact

module _ {F : Type 0} {calls : Mut F (Bor ℕ × Unit {0}) Bool} {within : ℕ → Type 0} where
  pub nat_test_by : (test : ℕ → Bool) (J : F → Type 0) {f : F} → J f
      → ((s : F) (x : Bor ℕ) → J s → within x.now → calls.pre s (x, tt))
      → ((s : F) (x : Bor ℕ) (r : Bool) (t : F) → J s → within x.now → Called calls s (x, tt) r t → J t × (r ≡ test x.now))
      → AnswersTest calls nat_eq f within test
  nat_test_by = exact_test_by nat_refl nat_exact

  -- the same of a function that its calls leave as it was
  pub nat_test : (test : ℕ → Bool) {f : F}
      → ((x : Bor ℕ) → within x.now → calls.pre f (x, tt))
      → ((x : Bor ℕ) (r : Bool) (t : F) → within x.now → Called calls f (x, tt) r t → (t ≡ f) × (r ≡ test x.now))
      → AnswersTest calls nat_eq f within test
  nat_test = exact_test nat_refl nat_exact
