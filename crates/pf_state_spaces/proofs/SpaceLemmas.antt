-- The moves of states as functions answer them.
use Rattle.std.proofs.Common.{◌≡◌, ℕ, ℤ, refl, sym, subst, inl, inr, suc, Bool, true, List, [], ◌∷◌, map, Option, Some, None}
use Rattle.std.specs.Prelude.{◌≤ℤ◌, pos, slice_get, Result, Ok, Err, IfOk}
use Rattle.std.specs.Borrow.{Bor}
use Rattle.std.specs.Cmp.{IsEquivalence}
use Rattle.std.specs.Fn.{Mut, Called}
use Rattle.std.specs.Iterator.{Count}
use Rattle.pf_base.specs.Answers.{AnswersGraph, AnswersSuccessors, AnswersTest, Gives, ListsEdges, SameNodes}
use Rattle.pf_base.specs.Edges.{HasEdge, HasNoNegativeCost}
use Rattle.pf_base.proofs.Callers.{ListsEdges-valued, SameNodes-refl, exact_graph, exact_successors, exact_test}
use Rattle.pf_state_spaces.specs.StateSpaces.{edges_by, moves_in, successors_by}

module _ {N : Type 0} {eq : N → N → Bool} (laws : IsEquivalence eq) (exact : (x y : N) → eq x y ≡ true → x ≡ y) where
  module _ {C : Type 0} (value : C → ℤ) (moves : N → List (Option (N × C))) where
    module _ {I S : Type 0} {becomes : I → S → Type 0} {can : S → Type 0} {left : S → Count} {r : I} {n : N} where
      -- what gives the moves of a state lists the edges of the graph
      pub gives_edges : {steps : S → Option (N × C) → S → Type 0} {edges : N → List (N × ℤ)} → edges ≡ edges_by moves value
          → Gives becomes can left steps (λ xs. xs ≡ moves_in (moves n)) r → Gives becomes can left steps (λ xs. ListsEdges eq value xs (edges n)) r
      gives_edges {steps} {edges} same h =
          let lists = subst (λ (f : N → List (N × ℤ)). ListsEdges eq value (moves_in (moves n)) (f n)) (sym same) (ListsEdges-valued eq value laws.refl (moves_in (moves n))) in
          record { can_next = h.can_next; finite = h.finite; items = λ it b p t o w. subst (λ xs. ListsEdges eq value xs (edges n)) (sym (h.items it b p t o w)) lists }

      -- what gives where they lead lists its successors
      pub gives_successors : {steps : S → Option N → S → Type 0} {next : N → List N} → next ≡ successors_by moves
          → Gives becomes can left steps (λ xs. xs ≡ successors_by moves n) r → Gives becomes can left steps (λ xs. SameNodes eq xs (next n)) r
      gives_successors {steps} {next} same h =
          let lists = subst (λ (f : N → List N). SameNodes eq (successors_by moves n) (f n)) (sym same) (SameNodes-refl eq laws.refl (successors_by moves n)) in
          record { can_next = h.can_next; finite = h.finite; items = λ it b p t o w. subst (λ xs. SameNodes eq xs (next n)) (sym (h.items it b p t o w)) lists }

    module _ {F I S : Type 0} {calls : Mut F (Bor N × Unit {0}) I} {becomes : I → S → Type 0} {can : S → Type 0} {left : S → Count} {within : N → Type 0} where
      -- a function that gives the moves answers the graph
      pub space_graph : {steps : S → Option (N × C) → S → Type 0} {f : F} → ((x : Bor N) → within x.now → calls.pre f (x, tt))
          → ((x : Bor N) (r : I) (t : F) → within x.now → Called calls f (x, tt) r t → (t ≡ f) × Gives becomes can left steps (λ xs. xs ≡ moves_in (moves x.now)) r)
          → AnswersGraph calls becomes can left steps eq value f within (edges_by moves value)
      space_graph takes gives = exact_graph laws.refl exact (λ x. moves_in (moves x)) takes gives

      -- a function that gives where they lead answers the successors
      pub space_successors : {steps : S → Option N → S → Type 0} {f : F} → ((x : Bor N) → within x.now → calls.pre f (x, tt))
          → ((x : Bor N) (r : I) (t : F) → within x.now → Called calls f (x, tt) r t → (t ≡ f) × Gives becomes can left steps (λ xs. xs ≡ successors_by moves x.now) r)
          → AnswersSuccessors calls becomes can left steps eq f within (successors_by moves)
      space_successors takes gives = exact_successors laws.refl exact (successors_by moves) takes gives

  -- a function that asks whether a state is a goal answers that test
  pub goal_test : {F : Type 0} {calls : Mut F (Bor N × Unit {0}) Bool} {within : N → Type 0} (test : N → Bool) {f : F}
      → ((x : Bor N) → within x.now → calls.pre f (x, tt))
      → ((x : Bor N) (r : Bool) (t : F) → within x.now → Called calls f (x, tt) r t → (t ≡ f) × (r ≡ test x.now))
      → AnswersTest calls eq f within test
  goal_test test takes gives = exact_test laws.refl exact test takes gives

module _ {N C : Type 0} (eq : N → N → Bool) (value : C → ℤ) where
  from_zero_in : (ps : List (Option (N × C))) → ((place : ℕ) (next : N) (cost : C) → slice_get ps place ≡ Some (Some (next, cost)) → pos 0 ≤ℤ value cost)
      → (b : N) (z : ℤ) → HasEdge eq (map (λ (move : N × C). (move.0, value move.1)) (moves_in ps)) b z → pos 0 ≤ℤ z
  from_zero_in [] law b z h = absurd h
  from_zero_in (None ∷ ps) law b z h = from_zero_in ps (λ k y c e. law (suc k) y c e) b z h
  from_zero_in (Some m ∷ ps) law b z (inl h) = subst (λ x. pos 0 ≤ℤ x) h.1 (law 0 m.0 m.1 refl)
  from_zero_in (Some m ∷ ps) law b z (inr h) = from_zero_in ps (λ k y c e. law (suc k) y c e) b z h

  -- no edge costs less than 0, where no move does
  pub no_negative_move : (moves : N → List (Option (N × C))) → ((state next : N) (cost : C) (place : ℕ) → slice_get (moves state) place ≡ Some (Some (next, cost)) → pos 0 ≤ℤ value cost)
      → (starts : List N) → HasNoNegativeCost eq (edges_by moves value) starts
  no_negative_move moves law starts = record { from_zero = λ a b z r h. from_zero_in (moves a) (λ k y c e. law a y c k e) b z h }

-- a value has what another thing that it has gives
pub ok_so : {T E : Type 0} (r : Result T E) (P Q : T → Type 0) → ((x : T) → P x → Q x) → IfOk r P → IfOk r Q
ok_so (Ok x) P Q f h = f x h
ok_so (Err e) P Q f h = tt
