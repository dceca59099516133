-- Kruskal's choice, an edge at a time.
use Rattle.std.proofs.Common.{ℕ, ◌-◌, ◌<◌, ◌≡◌, ◌≢◌, sym, ◌∙◌, ap, subst, arith, false, eq-eqb, List, [], ◌∷◌, ◌++◌, length, get_or, take, inl, inr, Ordering, nat_eq}
use Rattle.std.specs.Prelude.{Contains}
use Rattle.std.specs.declared.cmp.Ordering.TheVariants.{Greater}
use Rattle.std.specs.Ordering.{is_lt}
use Rattle.std.specs.Cmp.{IsTotalOrder}
use Rattle.std.specs.List.Sorted.{IsSorted}
use Rattle.std.proofs.lemmas.Cmp.{nat_eq_equiv}
use Rattle.std.proofs.lemmas.List.{get_or-take, get_or_default, length-take-le}
use Rattle.std.proofs.lemmas.List.Sorted.{sorted_far, ranks_by}
use Rattle.std.proofs.lemmas.List.Kept.{IsSortedBy-push}
use Rattle.std.proofs.lemmas.List.Elements.{Contains-append_left, Contains-push, Contains-push_cases, Contains-get_or}
use Rattle.std.proofs.lemmas.Bool.{eqb-true}
use Rattle.pf_union_find.specs.UnionFind.{IsLabelling, Merges}
use Rattle.pf_union_find.specs.Joined.{same, linked, back, chain}
use Rattle.pf_graph.specs.Spanning.{Links, LinksUnder, JoinedBy, JoinedUnder, IsForest}
use Rattle.pf_union_find.proofs.JoinedLemmas.{Joined-by, Joined-more, Joined-split}
use Rattle.pf_graph.proofs.Spanning.ForestLemmas.{link_of, Links-push, JoinedBy-more, IsForest-nil, IsForest-push}
use Rattle.pf_graph.proofs.Spanning.OrderLemmas.{le_trans, not_below, at_most}

Contains-none : {A : Type 0} (x : A) → Contains [] x → ⊥
Contains-none x h = omega (arith, h.1)

-- no edges join nothing
joined_none : {C : Type 0} {x y : ℕ} → JoinedBy {C = C} nat_eq [] x y → x ≡ y
joined_none (same e) = eqb-true _ _ e
joined_none (linked l) = absurd (Contains-none l.0 l.1)
joined_none (back j) = sym (joined_none j)
joined_none (chain j k) = joined_none j ∙ joined_none k

module _ {C : Type 0} (cmp : C → C → Ordering) where
  abbrev pub by_weight : (ℕ × ℕ × C) → (ℕ × ℕ × C) → Ordering
  by_weight e f = cmp e.2 f.2

  -- Of the edges seen so far some are chosen, and the disjoint sets are what these join.
  pub record Grown (seen chosen : List (ℕ × ℕ × C)) (parents : List ℕ) : Type 0 where
    pub label : ℕ → ℕ
    pub labels : IsLabelling label parents
    pub same_set : (x y : ℕ) → label x ≡ label y → JoinedBy nat_eq chosen x y
    pub joined : (x y : ℕ) → JoinedBy nat_eq chosen x y → label x ≡ label y
    pub least : (w : C) (x y : ℕ) → JoinedUnder nat_eq cmp w seen x y → JoinedUnder nat_eq cmp w chosen x y
    pub forest : IsForest nat_eq chosen
    pub from : (e : ℕ × ℕ × C) → Contains chosen e → Contains seen e
    pub sorted : IsSorted by_weight chosen

  pub Grown-start : (parents : List ℕ) → IsLabelling (λ x. x) parents → Grown [] [] parents
  Grown-start parents l = record {
    label = λ x. x;
    labels = l;
    same_set = λ x y e. same (eq-eqb x y e);
    joined = λ x y j. joined_none j;
    least = λ w x y j. j;
    forest = IsForest-nil;
    from = λ e h. h;
    sorted = λ k d l h. absurd (omega (arith, h));
  }

  module _ (total : IsTotalOrder cmp) (seen chosen : List (ℕ × ℕ × C)) (parents after : List ℕ) (e : ℕ × ℕ × C) (g : Grown seen chosen parents) (heavy : (d : ℕ × ℕ × C) → Contains seen d → cmp d.2 e.2 ≢ Greater) where
    -- an edge between two sets is chosen
    pub Grown-take : (label : ℕ → ℕ) → IsLabelling label after → g.label e.0 ≢ g.label e.1 → Merges g.label e.0 e.1 label → Grown (seen ++ e ∷ []) (chosen ++ e ∷ []) after
    Grown-take label labels apart merges =
        let more : (x y : ℕ) → JoinedBy nat_eq chosen x y → JoinedBy nat_eq (chosen ++ e ∷ []) x y = λ x y j. JoinedBy-more chosen (chosen ++ e ∷ []) (λ d h. Contains-append_left chosen (e ∷ []) d h) j in
        let here : JoinedBy nat_eq (chosen ++ e ∷ []) e.0 e.1 = linked (link_of (chosen ++ e ∷ []) e (Contains-push chosen e)) in
        record {
          label = label;
          labels = labels;
          same_set = λ x y h. elim ((merges x y).0 h) [
            | inl k ↦ more x y (g.same_set x y k)
            | inr (inl k) ↦ chain (more x e.0 (g.same_set x e.0 k.0)) (chain here (back (more y e.1 (g.same_set y e.1 k.1))))
            | inr (inr k) ↦ chain (more x e.1 (g.same_set x e.1 k.0)) (chain (back here) (back (more y e.0 (g.same_set y e.0 k.1))))
          ];
          joined = λ x y j. (merges x y).1 (elim (Joined-split nat_eq_equiv e.0 e.1 (Links-push chosen e) j) [
            | inl k ↦ inl (g.joined x y k)
            | inr (inl k) ↦ inr (inl (g.joined x e.0 k.0, g.joined y e.1 k.1))
            | inr (inr k) ↦ inr (inr (g.joined x e.1 k.0, g.joined y e.0 k.1))
          ]);
          least = λ w x y j. Joined-by (λ (a b : ℕ) (l : LinksUnder cmp w (seen ++ e ∷ []) a b). elim (Contains-push_cases seen e l.0 l.1) [
            | inl h ↦ Joined-more (λ p q k. (k.0, Contains-append_left chosen (e ∷ []) k.0 k.1, k.2, k.3, k.4)) (g.least w a b (linked (l.0, h, l.2, l.3, l.4)))
            | inr h ↦ linked (l.0, subst (λ d. Contains (chosen ++ e ∷ []) d) h (Contains-push chosen e), l.2, l.3, l.4)
          ]) j;
          forest = IsForest-push nat_eq_equiv chosen e g.forest (λ j. apart (g.joined e.0 e.1 j));
          from = λ d h. elim (Contains-push_cases chosen e d h) [
            | inl k ↦ Contains-append_left seen (e ∷ []) d (g.from d k)
            | inr k ↦ subst (λ f. Contains (seen ++ e ∷ []) f) k (Contains-push seen e)
          ];
          sorted = IsSortedBy-push (λ x y. is_lt (by_weight x y)) chosen e g.sorted (λ d h.
              let last : length chosen - 1 < length chosen = omega (arith, h) in
              not_below total (get_or chosen (length chosen - 1) d).2 e.2 (heavy _ (g.from _ (Contains-get_or chosen (length chosen - 1) d last))));
        }

    -- an edge within a set is not
    pub Grown-skip : (label : ℕ → ℕ) → IsLabelling label after → g.label e.0 ≡ g.label e.1 → ((x : ℕ) → label x ≡ g.label x) → Grown (seen ++ e ∷ []) chosen after
    Grown-skip label labels one alike = record {
      label = label;
      labels = labels;
      same_set = λ x y h. g.same_set x y (sym (alike x) ∙ h ∙ alike y);
      joined = λ x y j. alike x ∙ g.joined x y j ∙ sym (alike y);
      least = λ w x y j. Joined-by (λ (a b : ℕ) (l : LinksUnder cmp w (seen ++ e ∷ []) a b). elim (Contains-push_cases seen e l.0 l.1) [
        | inl h ↦ g.least w a b (linked (l.0, h, l.2, l.3, l.4))
        | inr h ↦
            let light : cmp e.2 w ≢ Greater = subst (λ (d : ℕ × ℕ × C). cmp d.2 w ≢ Greater) (sym h) l.2 in
            let k : JoinedUnder nat_eq cmp w chosen e.0 e.1 = Joined-more (λ (p q : ℕ) (m : Links chosen p q). (m.0, m.1, le_trans total m.0.2 e.2 w (heavy m.0 (g.from m.0 m.1)) light, m.2, m.3)) (g.same_set e.0 e.1 one) in
            subst (λ n. JoinedUnder nat_eq cmp w chosen n b) (ap (λ d. d.0) h ∙ l.3) (subst (λ n. JoinedUnder nat_eq cmp w chosen e.0 n) (ap (λ d. d.1) h ∙ l.4) k)
      ]) j;
      forest = g.forest;
      from = λ d h. Contains-append_left seen (e ∷ []) d (g.from d h);
      sorted = g.sorted;
    }

  -- in sorted edges no edge is heavier than a later one
  pub heavy : IsTotalOrder cmp → (edges : List (ℕ × ℕ × C)) → IsSorted by_weight edges → (n : ℕ) (e : ℕ × ℕ × C) → n < length edges → e ≡ get_or edges n e → (d : ℕ × ℕ × C) → Contains (take n edges) d → cmp d.2 e.2 ≢ Greater
  heavy total edges sorted n e inside at d h =
      let short = length-take-le n edges (omega (arith, inside)) in
      let k : h.0 < n = omega (arith, h.1, short) in
      let there : get_or edges h.0 d ≡ d = sym (get_or-take n edges h.0 d k) ∙ h.2 in
      let far = sorted_far (λ x y. is_lt (by_weight x y)) (ranks_by total (λ (x : ℕ × ℕ × C). x.2)) edges sorted h.0 n d (omega (arith, k)) inside in
      let up : get_or edges n d ≡ e = get_or_default edges n d e inside ∙ sym at in
      let here = subst (λ (x : ℕ × ℕ × C). is_lt (cmp x.2 (get_or edges h.0 d).2) ≡ false) up far in
      at_most total d.2 e.2 (subst (λ (x : ℕ × ℕ × C). is_lt (cmp e.2 x.2) ≡ false) there here)
