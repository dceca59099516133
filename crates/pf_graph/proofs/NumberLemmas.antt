-- Nodes that are numbered.
use Rattle.std.proofs.Common.{ℕ, ◌+◌, ◌<◌, ◌≡◌, sym, ◌∙◌, ap, subst, arith, eq-eqb, List, [], ◌∷◌, ◌++◌, length, get_or, take, inl, inr, Bool, true, false, Some, if◌then◌else◌, nat_eq}
use Rattle.std.specs.Prelude.{slice_get, Contains}
use Rattle.std.specs.Borrow.{Bor}
use Rattle.std.specs.Cmp.{IsEquivalence}
use Rattle.std.specs.List.{IsDistinct, list_any}
use Rattle.std.proofs.lemmas.List.{take_more}
use Rattle.std.proofs.lemmas.List.Elements.{Contains-append_left, Contains-push, Contains-push_cases}
use Rattle.std.proofs.lemmas.Bool.Decides.{nat_tests}
use Rattle.indexmap.specs.IndexSet.{insert_key}
use Rattle.pf_graph.specs.declared.undirected.weighed.Weighed.{Weighed}
use Rattle.pf_graph.specs.Internal.NumberedEdges.{IsNumbered}
use Rattle.pf_union_find.specs.Nodes.{StandsFor}
use Rattle.pf_base.proofs.ListLemmas.{get-append}
use Rattle.pf_graph.proofs.CarryLemmas.{StandsAlike}
use Rattle.pf_union_find.proofs.DistinctLemmas.{distinct_one}

module _ {N : Type 0} {eq : N → N → Bool} (laws : IsEquivalence eq) where
  -- numbers stand for nodes, and nodes have numbers
  module _ (nodes : List (Bor N)) (apart : IsDistinct (λ (p q : Bor N). eq p.now q.now) nodes) where
    pub numbers_alike : StandsAlike nat_eq eq (StandsFor eq nodes)
    numbers_alike = record {
      across = λ i j x y a b e.
          let k : i ≡ j = grind (arith, nat_tests) in
          let same : Some a.0 ≡ Some b.0 = sym a.1 ∙ ap (slice_get nodes) k ∙ b.1 in
          let s : a.0 ≡ b.0 = cc in
          laws.symm x y ∙ sym (laws.congr b.0.now y x b.2) ∙ subst (λ (m : Bor N). eq m.now x ≡ true) s a.2;
      closed = λ i j x e a. let k : i ≡ j = grind (arith, nat_tests) in (a.0, ap (slice_get nodes) k ∙ a.1, a.2);
    }

    pub nodes_alike : StandsAlike eq nat_eq (λ x i. StandsFor eq nodes i x)
    nodes_alike = record {
      across = λ x y i j a b e. eq-eqb i j (distinct_one laws nodes apart i j a.0 b.0 a.1 b.1 (laws.congr a.0.now x b.0.now a.2 ∙ laws.congr x y b.0.now e ∙ laws.symm y b.0.now ∙ b.2));
      closed = λ x y i e a. (a.0, a.1, laws.symm a.0.now x ∙ laws.congr x y a.0.now e ∙ laws.symm y a.0.now ∙ a.2);
    }

  -- a node more
  pub StandsFor-kept : (nodes : List (Bor N)) (r : Bor N) (k : ℕ) (x : N) → StandsFor eq nodes k x → StandsFor eq (insert_key (λ (p q : Bor N). eq p.now q.now) nodes r) k x
  StandsFor-kept nodes r k x s = by (list_any (λ (q : Bor N). eq r.now q.now) nodes)
    where
      by : (b : Bool) → StandsFor eq (if b then nodes else nodes ++ r ∷ []) k x
      by true = s
      by false = (s.0, get-append nodes (r ∷ []) k s.0 s.1, s.2)

  -- the numbered edges, after one more
  pub IsNumbered-more : {C W : Type 0} (nodes between after : List (Bor N)) (edges : List (N × N × C)) (numbered : List (ℕ × ℕ × Weighed N C W)) (i : ℕ) (e : ℕ × ℕ × Weighed N C W) (p q : Bor N)
      → i < length edges → e.2.edge.now ≡ get_or edges i e.2.edge.now
      → between ≡ insert_key (λ (a b : Bor N). eq a.now b.now) nodes p → after ≡ insert_key (λ (a b : Bor N). eq a.now b.now) between q
      → StandsFor eq between e.0 e.2.edge.now.0 → StandsFor eq after e.1 e.2.edge.now.1
      → IsDistinct (λ (a b : Bor N). eq a.now b.now) after
      → IsNumbered eq nodes (take i edges) numbered → IsNumbered eq after (take (i + 1) edges) (numbered ++ e ∷ [])
  IsNumbered-more {C} {W} nodes between after edges numbered i e p q inside at first second from to apart h =
      let more : take (i + 1) edges ≡ take i edges ++ e.2.edge.now ∷ [] = take_more edges i e.2.edge.now inside ∙ ap (λ x. take i edges ++ x ∷ []) (sym at) in
      let later : (k : ℕ) (x : N) → StandsFor eq between k x → StandsFor eq after k x = λ k x s. subst (λ ns. StandsFor eq ns k x) (sym second) (StandsFor-kept between q k x s) in
      let kept : (k : ℕ) (x : N) → StandsFor eq nodes k x → StandsFor eq after k x = λ k x s. later k x (subst (λ ns. StandsFor eq ns k x) (sym first) (StandsFor-kept nodes p k x s)) in
      record {
        apart = apart;
        from = λ f c. elim (Contains-push_cases numbered e f c) [
          | inl l ↦ let r = h.from f l in (subst (λ xs. Contains xs f.2.edge.now) (sym more) (Contains-append_left (take i edges) (e.2.edge.now ∷ []) f.2.edge.now r.0), kept f.0 f.2.edge.now.0 r.1, kept f.1 f.2.edge.now.1 r.2)
          | inr l ↦ subst (λ (d : ℕ × ℕ × Weighed N C W). Contains (take (i + 1) edges) d.2.edge.now × StandsFor eq after d.0 d.2.edge.now.0 × StandsFor eq after d.1 d.2.edge.now.1) l
              (subst (λ xs. Contains xs e.2.edge.now) (sym more) (Contains-push (take i edges) e.2.edge.now), later e.0 e.2.edge.now.0 from, to)
        ];
        all = λ f c. elim (Contains-push_cases (take i edges) e.2.edge.now f (subst (λ xs. Contains xs f) more c)) [
          | inl l ↦ let r = h.all f l in (r.0, Contains-append_left numbered (e ∷ []) r.0 r.1, r.2)
          | inr l ↦ (e, Contains-push numbered e, l)
        ];
      }

pub IsNumbered-none : {N C W : Type 0} (eq : N → N → Bool) → IsNumbered {N = N} eq {C = C} {W = W} [] [] []
unfolding IsDistinct
IsNumbered-none eq = record { apart = tt; from = λ e h. absurd (omega (arith, h.1)); all = λ f h. absurd (omega (arith, h.1)) }
