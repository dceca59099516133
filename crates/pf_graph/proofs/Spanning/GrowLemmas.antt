-- A tree that grows over numbered nodes, an edge at a time.
use Rattle.std.proofs.Common.{ℕ, ◌<◌, ◌≡◌, ◌≢◌, sym, ◌∙◌, subst, arith, Bool, true, false, eq-eqb, List, [], ◌∷◌, ◌++◌, length, inl, inr, ◌⊎◌, Some, Ordering}
use Rattle.std.specs.Prelude.{Contains, slice_get, slice_set, ◌↔◌}
use Rattle.std.specs.Borrow.{Bor}
use Rattle.std.specs.Cmp.{IsEquivalence, IsTotalOrder, Equal-is}
use Rattle.std.specs.Ordering.{ordering_then, is_eq}
use Rattle.std.specs.declared.cmp.Ordering.TheVariants.{Equal, Greater}
use Rattle.std.specs.declared.cmp.Reverse.{Reverse}
use Rattle.std.proofs.lemmas.List.Elements.{Contains-push_cases}
use Rattle.std.proofs.lemmas.Option.{slice_get_within}
use Rattle.pf_base.specs.Answers.{IsLawfulClone}
use Rattle.pf_graph.specs.declared.undirected.chains.Chains.{Chains}
use Rattle.pf_graph.specs.declared.undirected.steps.Step.{Step}
use Rattle.pf_union_find.specs.Nodes.{StandsFor}
use Rattle.pf_graph.specs.GrownTree.{RunsBetween, edge_order, Covers, LeavesByLeast, GrowsByLeast, AreChosenEitherWay}
use Rattle.pf_graph.specs.Internal.Spanning.Frontier.{edge_of, step_order, Runs, RunsAsWritten, IsMarked, Waits, TakesLeast, NoneLeaves, IsGrown, waiting}
use Rattle.pf_base.proofs.ListLemmas.{get_set}
use Rattle.pf_graph.proofs.Spanning.ForestLemmas.{split_push}
use Rattle.pf_graph.proofs.NumberLemmas.{numbers_alike}
use Rattle.pf_union_find.proofs.DistinctLemmas.{distinct_one}
use Rattle.pf_graph.proofs.Spanning.TreeLemmas.{Covers-kept, Covers-push, Covers-push_cases}
use Rattle.pf_graph.proofs.Spanning.FrontierLemmas.{one_mark, mark_of}

-- an empty list is not split at an element
no_split : {E : Type 0} (before after : List E) (e : E) → [] ≡ before ++ e ∷ after → ⊥
no_split [] after e h = let k : [] ≡ e ∷ after = h in cc
no_split (b ∷ bs) after e h = let k : [] ≡ b ∷ (bs ++ e ∷ after) = h in cc

module _ {N C : Type 0} {eq : N → N → Bool} (laws : IsEquivalence eq) (nodes : List (Bor N)) where
  -- a number more is marked, and the nodes that it stands for are had too
  marks_more : {A : Type 0} (edges : List (N × N × C)) (chains : Chains N C A) → RunsAsWritten eq nodes edges chains → (covered : List Bool) (n : ℕ) (y : N) (P Q : N → Type 0) → n < length covered → StandsFor eq nodes n y
      → ((k : ℕ) (x : N) → StandsFor eq nodes k x → IsMarked true covered k ↔ P x) → ((x : N) → Q x ↔ (P x ⊎ (eq y x ≡ true)))
      → (k : ℕ) (x : N) → StandsFor eq nodes k x → IsMarked true (slice_set covered n true) k ↔ Q x
  marks_more edges chains r covered n y P Q inside at before after k x s = by (get_set covered n k true inside)
    where
      by : (((k ≡ n) × (slice_get (slice_set covered n true) k ≡ Some true)) ⊎ ((k ≢ n) × (slice_get (slice_set covered n true) k ≡ slice_get covered k))) → IsMarked true (slice_set covered n true) k ↔ Q x
      by (inl e) = (λ m. (after x).1 (inr ((numbers_alike laws nodes r.apart).across n k y x at s (eq-eqb n k (sym e.0)))), λ q. e.1)
      by (inr e) = (
        λ m. (after x).1 (inl ((before k x s).0 (sym e.1 ∙ m))),
        λ q. elim ((after x).0 q) as (λ _. IsMarked true (slice_set covered n true) k) [
          | inl p ↦ e.1 ∙ (before k x s).1 p
          | inr t ↦ absurd (e.0 (distinct_one laws nodes r.apart k n s.0 at.0 s.1 at.1 (laws.congr s.0.now x at.0.now s.2 ∙ sym (laws.congr y x at.0.now t) ∙ laws.symm y at.0.now ∙ at.2)))
        ],
      )

  -- a tree without an edge covers its start alone
  start_alone : (start x : N) → Covers {C = C} eq start [] x → ⊥ ⊎ (eq start x ≡ true)
  start_alone start x c = elim c as (λ _. ⊥ ⊎ (eq start x ≡ true)) [ inl s ↦ inr s | inr e ↦ absurd (omega (arith, e.1.1)) ]

  module _ {A : Type 0} {node_cmp : N → N → Ordering} {cmp : C → C → Ordering} (total : IsTotalOrder cmp) {is_clone : C → C → Type 0} (edges : List (N × N × C)) (chains : Chains N C A) (r : RunsAsWritten eq nodes edges chains) (start : N) where
    -- the start alone is covered
    pub IsGrown-start : (covered : List Bool) (n : ℕ) → n < length covered → ((k : ℕ) → ¬ (IsMarked true covered k)) → StandsFor eq nodes n start → IsGrown eq node_cmp cmp is_clone nodes edges start (slice_set covered n true) []
    IsGrown-start covered n inside none at = record {
      marked = marks_more edges chains r covered n start (λ x. ⊥) (λ x. Covers {C = C} eq start [] x) inside at (λ k x s. (λ m. none k m, λ b. absurd b)) (λ x. (
        λ c. start_alone start x c,
        λ c. elim c as (λ _. Covers {C = C} eq start [] x) [ inl b ↦ absurd b | inr s ↦ inl s ],
      ));
      each = λ before after e h. absurd (no_split before after e h);
      written = record { as_written = λ e c. absurd (omega (arith, c.1)) };
    }

    module _ (covered : List Bool) (len : length covered ≡ length chains.lasts.items) (queue : List (Reverse (Step N C))) (w : Waits chains covered queue) (tree : List (N × N × C)) (g : IsGrown eq node_cmp cmp is_clone nodes edges start covered tree) where
      -- an edge from what is covered leads to what is covered, or a step over it waits
      leaving : (x y : N) (v : C) → RunsBetween edges x y v → Covers eq start tree x → Covers eq start tree y ⊎ ((s : Step N C) × (edge_of s ≡ (x, y, v)) × IsMarked false covered s.number × Contains queue (waiting s))
      leaving x y v runs c =
          let a = r.all x y v runs in
          let at = r.from a.0 a.1 (x, y, v) a.2 in
          let here : IsMarked true covered a.0 = (g.marked a.0 x at.0).1 c in
          let low : a.1 < length covered = subst (λ (n : ℕ). a.1 < n) (sym (len ∙ r.len)) (slice_get_within nodes a.1 at.1.0 at.1.1) in
          elim (mark_of covered a.1 low) as (λ _. Covers eq start tree y ⊎ ((s : Step N C) × (edge_of s ≡ (x, y, v)) × IsMarked false covered s.number × Contains queue (waiting s))) [
            | inl m ↦ inl ((g.marked a.1 y at.1).0 m)
            | inr m ↦ let o = w.all a.0 a.1 (x, y, v) here a.2 m in inr (o.0, o.2.0, subst (λ (n : ℕ). IsMarked false covered n) (sym o.2.1) m, o.1)
          ]

      -- no step that waits leads to a number that is not covered
      pub IsGrown-end : NoneLeaves covered queue → GrowsByLeast eq node_cmp cmp edges start tree × AreChosenEitherWay is_clone edges tree
      IsGrown-end none = (
        record {
          each = g.each;
          none_leaves = λ x y v runs c. elim (leaving x y v runs c) as (λ _. Covers eq start tree y) [ inl k ↦ k | inr k ↦ absurd (none (waiting k.0) k.3 k.2) ];
        },
        g.written,
      )

      -- the least step is taken
      module _ {ceq : C → C → Bool} (agree : (x y : C) → ceq x y ≡ is_eq (cmp x y)) (lawful : IsLawfulClone ceq is_clone) (queue' : List (Reverse (Step N C))) (s : Step N C) (t : TakesLeast node_cmp cmp covered queue queue' s) (u : C) (clone : is_clone (edge_of s).2 u) where
        abbrev edge : N × N × C
        edge = ((edge_of s).0, (edge_of s).1, u)

        tied : cmp (edge_of s).2 u ≡ Equal
        tied = (Equal-is (cmp (edge_of s).2 u)).0 (sym (agree (edge_of s).2 u) ∙ lawful (edge_of s).2 u clone)

        place : (k : ℕ) × IsMarked true covered k × Runs chains k (edge_of s) s.number
        place = w.from (waiting s) t.waited

        at : StandsFor eq nodes place.0 (edge_of s).0 × StandsFor eq nodes s.number (edge_of s).1 × RunsBetween edges (edge_of s).0 (edge_of s).1 (edge_of s).2
        at = r.from place.0 s.number (edge_of s) place.2

        -- the clone of the weight stands in its place
        edge_least : (x y : N) (v : C) (z : Step N C) → edge_of z ≡ (x, y, v) → step_order node_cmp cmp s z ≢ Greater → edge_order node_cmp cmp edge (x, y, v) ≢ Greater
        edge_least x y v z is n =
            let least : edge_order node_cmp cmp (edge_of s) (x, y, v) ≢ Greater = subst (λ (f : N × N × C). edge_order node_cmp cmp (edge_of s) f ≢ Greater) is n in
            subst (λ (o : Ordering). ordering_then o (ordering_then (node_cmp (edge_of s).0 x) (node_cmp (edge_of s).1 y)) ≢ Greater) (total.congr (edge_of s).2 u v tied) least

        leaves : LeavesByLeast eq node_cmp cmp edges start tree edge
        leaves = record {
          from_covered = (g.marked place.0 (edge_of s).0 at.0).0 place.1;
          to_new = λ c. one_mark covered s.number ((g.marked s.number (edge_of s).1 at.1).1 c) t.new;
          least = λ x y v runs c n. elim (leaving x y v runs c) as (λ _. edge_order node_cmp cmp edge (x, y, v) ≢ Greater) [
            | inl k ↦ absurd (n k)
            | inr k ↦ edge_least x y v k.0 k.1 (t.least (waiting k.0) k.3 k.2)
          ];
        }

        pub IsGrown-push : IsGrown eq node_cmp cmp is_clone nodes edges start (slice_set covered s.number true) (tree ++ ((edge_of s).0, (edge_of s).1, u) ∷ [])
        IsGrown-push = record {
          marked = marks_more edges chains r covered s.number (edge_of s).1 (λ x. Covers eq start tree x) (λ x. Covers eq start (tree ++ edge ∷ []) x) (slice_get_within covered s.number false t.new) at.1 g.marked (λ x. (
            λ c. Covers-push_cases laws start tree edge x c,
            λ c. elim c as (λ _. Covers eq start (tree ++ edge ∷ []) x) [ inl k ↦ Covers-kept laws start tree edge x k | inr k ↦ Covers-push laws start tree edge x k ],
          ));
          each = λ before after e h. elim (split_push tree before after edge e h) as (λ _. LeavesByLeast eq node_cmp cmp edges start before e) [
            | inl k ↦ subst (λ (f : N × N × C). LeavesByLeast eq node_cmp cmp edges start before f) k.1 (subst (λ es. LeavesByLeast eq node_cmp cmp edges start es edge) k.0 leaves)
            | inr k ↦ g.each before k.0 e k.1
          ];
          written = record {
            as_written = λ e c. elim (Contains-push_cases tree edge e c) as (λ _. (v : C) × RunsBetween edges e.0 e.1 v × is_clone v e.2) [
              | inl k ↦ g.written.as_written e k
              | inr k ↦ subst (λ (f : N × N × C). (v : C) × RunsBetween edges f.0 f.1 v × is_clone v f.2) k ((edge_of s).2, at.2, clone)
            ];
          };
        }
