-- The edges of a table as a function answers them.
use Rattle.std.proofs.Common.{◌≡◌, ℕ, refl, sym, ◌∙◌, ap, subst, Bool, true, false, List, [], ◌∷◌, Option, Some, None, map, nat_eq}
use Rattle.std.specs.Prelude.{ℤ, nat_lt, if◌then◌else◌}
use Rattle.std.specs.Borrow.{Bor}
use Rattle.std.specs.Fn.{Mut, Called}
use Rattle.std.specs.Iterator.{Count}
use Rattle.pf_base.specs.Answers.{AnswersGraph, AnswersSuccessors, Gives, ListsEdges, SameNodes}
use Rattle.pf_base.proofs.Callers.{nat_graph, nat_refl, valued, ListsEdges-valued, SameNodes-refl}
use Rattle.pf_base.proofs.Tables.{nat_successors}
use Rattle.pf_tables.specs.Graphs.{edges_at, graph_of, successors_of}
use Rattle.pf_table_functions.specs.Internal.Edges.{present, places_at, edges_of, ends_of}

module _ {C : Type 0} (value : C → ℤ) where
  edges_present : (ps : List (Option (ℕ × C))) → valued value (present ps) ≡ edges_at value ps
  edges_present [] = refl
  edges_present (None ∷ ps) = edges_present ps
  edges_present (Some e ∷ ps) = ap (λ (xs : List (ℕ × ℤ)). (e.0, value e.1) ∷ xs) (edges_present ps)

  ends_present : (ps : List (Option (ℕ × C))) → map (λ (e : ℕ × C). e.0) (present ps) ≡ map (λ (e : ℕ × ℤ). e.0) (edges_at value ps)
  ends_present [] = refl
  ends_present (None ∷ ps) = ends_present ps
  ends_present (Some e ∷ ps) = ap (λ (xs : List ℕ). e.0 ∷ xs) (ends_present ps)

  module _ (size : ℕ) (places : ℕ → List (Option (ℕ × C))) where
    at_node : (ps : List (Option (ℕ × C))) (b : Bool) → edges_at value (if b then ps else []) ≡ (if b then edges_at value ps else [])
    at_node ps true = refl
    at_node ps false = refl

    edges_are : (n : ℕ) → valued value (edges_of size places n) ≡ graph_of value size places n
    edges_are n = edges_present (places_at size places n) ∙ at_node (places n) (nat_lt n size)

    ends_are : (n : ℕ) → ends_of size places n ≡ successors_of value size places n
    ends_are n = ends_present (places_at size places n) ∙ ap (map (λ (e : ℕ × ℤ). e.0)) (at_node (places n) (nat_lt n size))

    module _ {F I S : Type 0} {calls : Mut F (Bor ℕ × Unit {0}) I} {becomes : I → S → Type 0} {can : S → Type 0} {left : S → Count} {within : ℕ → Type 0} where
      -- a function that gives the edges answers the graph of the table
      pub table_graph : {steps : S → Option (ℕ × C) → S → Type 0} {f : F} → ((x : Bor ℕ) → within x.now → calls.pre f (x, tt))
          → ((x : Bor ℕ) (r : I) (t : F) → within x.now → Called calls f (x, tt) r t → (t ≡ f) × Gives becomes can left steps (λ xs. xs ≡ edges_of size places x.now) r)
          → AnswersGraph calls becomes can left steps nat_eq value f within (graph_of value size places)
      table_graph {steps} {f} takes gives =
          subst (λ (edges : ℕ → List (ℕ × ℤ)). AnswersGraph calls becomes can left steps nat_eq value f within edges) (λ i n. edges_are n i) (nat_graph (edges_of size places) takes gives)

      -- a function that gives where they lead answers its successors
      pub table_successors : {steps : S → Option ℕ → S → Type 0} {f : F} → ((x : Bor ℕ) → within x.now → calls.pre f (x, tt))
          → ((x : Bor ℕ) (r : I) (t : F) → within x.now → Called calls f (x, tt) r t → (t ≡ f) × Gives becomes can left steps (λ xs. xs ≡ ends_of size places x.now) r)
          → AnswersSuccessors calls becomes can left steps nat_eq f within (successors_of value size places)
      table_successors {steps} {f} takes gives =
          subst (λ (next : ℕ → List ℕ). AnswersSuccessors calls becomes can left steps nat_eq f within next) (λ i n. ends_are n i) (nat_successors (ends_of size places) takes gives)

    module _ {I S : Type 0} {becomes : I → S → Type 0} {can : S → Type 0} {left : S → Count} {r : I} {n : ℕ} where
      -- what gives the edges at a number lists the edges of the graph
      pub gives_edges : {steps : S → Option (ℕ × C) → S → Type 0} {edges : ℕ → List (ℕ × ℤ)} → edges ≡ graph_of value size places
          → Gives becomes can left steps (λ xs. xs ≡ edges_of size places n) r → Gives becomes can left steps (λ xs. ListsEdges nat_eq value xs (edges n)) r
      gives_edges {steps} {edges} same h =
          let here : valued value (edges_of size places n) ≡ edges n = edges_are n ∙ sym (ap (λ (f : ℕ → List (ℕ × ℤ)). f n) same) in
          let lists = subst (λ zs. ListsEdges nat_eq value (edges_of size places n) zs) here (ListsEdges-valued nat_eq value nat_refl (edges_of size places n)) in
          record { can_next = h.can_next; finite = h.finite; items = λ it b p t o w. subst (λ xs. ListsEdges nat_eq value xs (edges n)) (sym (h.items it b p t o w)) lists }

      -- what gives where they lead lists its successors
      pub gives_successors : {steps : S → Option ℕ → S → Type 0} {next : ℕ → List ℕ} → next ≡ successors_of value size places
          → Gives becomes can left steps (λ xs. xs ≡ ends_of size places n) r → Gives becomes can left steps (λ xs. SameNodes nat_eq xs (next n)) r
      gives_successors {steps} {next} same h =
          let here : ends_of size places n ≡ next n = ends_are n ∙ sym (ap (λ (f : ℕ → List ℕ). f n) same) in
          let lists = subst (λ zs. SameNodes nat_eq (ends_of size places n) zs) here (SameNodes-refl nat_eq nat_refl (ends_of size places n)) in
          record { can_next = h.can_next; finite = h.finite; items = λ it b p t o w. subst (λ xs. SameNodes nat_eq xs (next n)) (sym (h.items it b p t o w)) lists }
