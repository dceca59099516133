-- What it means that functions that are handed in answer one graph and one test: alike for equal nodes, at every state.
use Rattle.std.specs.Prelude.{◌≡◌, ℤ, Bool, true, List, [], ◌∷◌, Option, ⊤}
use Rattle.std.specs.Borrow.{Bor}
use Rattle.std.specs.Fn.{Mut, Called}
use Rattle.std.specs.List.{AllZip}
use Rattle.std.specs.Iterator.{Count, IsFinite}
use Rattle.std.specs.Iterator.Runs.{Run, Trigger}

-- a clone equals its original
abbrev pub IsLawfulClone : {N : Type 0} → (N → N → Bool) → (N → N → Type 0) → Type 0
IsLawfulClone {N} eq is_clone = (x y : N) → is_clone x y → eq x y ≡ true

-- the same nodes, place by place
abbrev pub SameNodes : {N : Type 0} → (N → N → Bool) → List N → List N → Type 0
SameNodes {N} eq = AllZip (λ (x y : N). eq x y ≡ true)

-- the same nodes at the same costs, place by place
abbrev pub ListsEdges : {N C : Type 0} → (N → N → Bool) → (C → ℤ) → List (N × C) → List (N × ℤ) → Type 0
ListsEdges {N} {C} eq value = AllZip (λ (x : N × C) (e : N × ℤ). (eq x.0 e.0 ≡ true) × (value x.1 ≡ e.1))

module _ {I S A : Type 0} (becomes : I → S → Type 0) (can : S → Type 0) (left : S → Count) (steps : S → Option A → S → Type 0) where
  -- whatever iterator is made of r may be called and ends, and P holds of all that it gives
  pub record Gives (P : List A → Type 0) (r : I) : Type 0 where
    pub can_next : (it : S) → becomes r it → can it
    pub finite : (it : S) → becomes r it → IsFinite (left it)
    pub items : (it : S) → becomes r it → (p : Run steps) → Trigger p.len → p.from ≡ it → p.whole ≡ true → P p.items

module _ {F N R : Type 0} (calls : Mut F (Bor N × Unit {0}) R) (within : N → Type 0) (gives : N → R → Type 0) where
  -- f may be called at these nodes in turn, as far as they lie within, and each answer is what `gives` says
  abbrev pub AnswersEach : F → List (Bor N) → Type 0
  AnswersEach f [] = ⊤
  AnswersEach f (x ∷ xs) = within x.now → calls.pre f (x, tt) × ((r : R) (f' : F) → Called calls f (x, tt) r f' → gives x.now r × AnswersEach f' xs)

  -- and so at any nodes, however often
  pub record Answers (f : F) : Type 0 where
    pub at : (xs : List (Bor N)) → AnswersEach f xs

module _ {F N C I S : Type 0} (calls : Mut F (Bor N × Unit {0}) I) (becomes : I → S → Type 0) (can : S → Type 0) (left : S → Count) (steps : S → Option (N × C) → S → Type 0) (eq : N → N → Bool) (value : C → ℤ) where
  -- At each node within, now and after any calls, f may be called and lists the edges of this graph. Equal nodes have the same edges.
  pub record AnswersGraph (f : F) (within : N → Type 0) (edges : N → List (N × ℤ)) : Type 0 where
    pub alike : (x y : N) → within x → eq x y ≡ true → ListsEdges eq (λ z. z) (edges x) (edges y)
    pub answers : Answers calls within (λ x r. Gives becomes can left steps (λ xs. ListsEdges eq value xs (edges x)) r) f

module _ {F N I S : Type 0} (calls : Mut F (Bor N × Unit {0}) I) (becomes : I → S → Type 0) (can : S → Type 0) (left : S → Count) (steps : S → Option N → S → Type 0) (eq : N → N → Bool) where
  -- At each node within, now and after any calls, f may be called and lists the successors of this graph. Equal nodes have the same successors.
  pub record AnswersSuccessors (f : F) (within : N → Type 0) (successors : N → List N) : Type 0 where
    pub alike : (x y : N) → within x → eq x y ≡ true → SameNodes eq (successors x) (successors y)
    pub answers : Answers calls within (λ x r. Gives becomes can left steps (λ xs. SameNodes eq xs (successors x)) r) f

module _ {F N : Type 0} (calls : Mut F (Bor N × Unit {0}) Bool) (eq : N → N → Bool) where
  -- At each node within, now and after any calls, f may be called and answers this test. Equal nodes have the same answer.
  pub record AnswersTest (f : F) (within : N → Type 0) (test : N → Bool) : Type 0 where
    pub alike : (x y : N) → within x → eq x y ≡ true → test x ≡ test y
    pub answers : Answers calls within (λ x r. r ≡ test x) f
