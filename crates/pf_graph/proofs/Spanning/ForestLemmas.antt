-- Forests that grow.
use Rattle.std.proofs.Common.{◌≡◌, refl, sym, subst, ap, ◌∙◌, inl, inr, ◌⊎◌, Bool, List, [], ◌∷◌, ◌++◌, arith}
use Rattle.std.specs.Prelude.{Contains}
use Rattle.std.specs.Cmp.{IsEquivalence}
use Rattle.std.proofs.lemmas.List.{append-nil, append_assoc}
use Rattle.std.proofs.lemmas.List.Elements.{Contains-append_left, Contains-append_right, Contains-push_cases, Contains-append_cases}
use Rattle.pf_union_find.specs.Joined.{linked, back, chain}
use Rattle.pf_graph.specs.Spanning.{Links, JoinedBy, IsForest}
use Rattle.pf_union_find.proofs.JoinedLemmas.{Joined-more, Joined-split}

-- an element of a list with one more at its end is in the list or is that one
pub split_push : {E : Type 0} (xs before after : List E) (x e : E) → xs ++ x ∷ [] ≡ before ++ e ∷ after
    → ((xs ≡ before) × (x ≡ e) × (after ≡ [])) ⊎ ((rest : List E) × (xs ≡ before ++ e ∷ rest) × (after ≡ rest ++ x ∷ []))
split_push [] [] after x e h = let k : x ∷ [] ≡ e ∷ after = h in inl (refl, (cc), (cc))
split_push [] (b ∷ []) after x e h = let k : x ∷ [] ≡ b ∷ e ∷ after = h in absurd (cc)
split_push [] (b ∷ c ∷ bs) after x e h = let k : x ∷ [] ≡ b ∷ c ∷ bs ++ e ∷ after = h in absurd (cc)
split_push (y ∷ ys) [] after x e h = let k : y ∷ (ys ++ x ∷ []) ≡ e ∷ after = h in inr (ys, (cc), (cc))
split_push (y ∷ ys) (b ∷ bs) after x e h =
    let k : y ∷ (ys ++ x ∷ []) ≡ b ∷ (bs ++ e ∷ after) = h in
    elim (split_push ys bs after x e (cc)) [
      | inl r ↦ let q : ys ≡ bs = r.0 in inl ((cc), r.1, r.2)
      | inr r ↦ let q : ys ≡ bs ++ e ∷ r.0 = r.1 in inr (r.0, (cc), r.2)
    ]

-- an edge's ends are linked
pub link_of : {N C : Type 0} (edges : List (N × N × C)) (e : N × N × C) → Contains edges e → Links edges e.0 e.1
link_of edges e h = (e, h, refl, refl)

pub Links-push : {N C : Type 0} (es : List (N × N × C)) (e : N × N × C) (x y : N) → Links (es ++ e ∷ []) x y → Links es x y ⊎ ((x ≡ e.0) × (y ≡ e.1))
Links-push es e x y l = elim (Contains-push_cases es e l.0 l.1) [
  | inl h ↦ inl (l.0, h, l.2, l.3)
  | inr h ↦ inr (sym (ap (λ d. d.0) h ∙ l.2), sym (ap (λ d. d.1) h ∙ l.3))
]

module _ {N C : Type 0} {eq : N → N → Bool} where
  pub JoinedBy-more : (es fs : List (N × N × C)) → ((e : N × N × C) → Contains es e → Contains fs e) → {x y : N} → JoinedBy eq es x y → JoinedBy eq fs x y
  JoinedBy-more es fs f j = Joined-more (λ x y l. (l.0, f l.0 l.1, l.2, l.3)) j

  pub IsForest-nil : IsForest {C = C} eq []
  IsForest-nil = record { apart = apart }
    where
      apart : (before after : List (N × N × C)) (e : N × N × C) → [] ≡ before ++ e ∷ after → ¬ (JoinedBy eq (before ++ after) e.0 e.1)
      apart [] after e h j = let k : [] ≡ e ∷ after = h in cc
      apart (b ∷ bs) after e h j = let k : [] ≡ b ∷ (bs ++ e ∷ after) = h in cc

  -- a forest, and an edge whose ends it does not join
  pub IsForest-push : (laws : IsEquivalence eq) (forest : List (N × N × C)) (e : N × N × C) → IsForest eq forest → ¬ (JoinedBy eq forest e.0 e.1) → IsForest eq (forest ++ e ∷ [])
  IsForest-push laws forest e f apart = record {
    apart = λ before after g h j. elim (split_push forest before after e g h) [
      | inl r ↦
          let k = subst (λ xs. JoinedBy eq xs g.0 g.1) (ap (λ xs. before ++ xs) r.2 ∙ append-nil before ∙ sym r.0) j in
          apart (subst (λ (d : N × N × C). JoinedBy eq forest d.0 d.1) (sym r.1) k)
      | inr r ↦
          let rest = r.0 in
          let into : (d : N × N × C) → Contains (before ++ rest) d → Contains forest d = λ d c. subst (λ xs. Contains xs d) (sym r.1) (elim (Contains-append_cases before rest d c) [
            | inl l ↦ Contains-append_left before (g ∷ rest) d l
            | inr l ↦ Contains-append_right before (g ∷ rest) d (Contains-append_right (g ∷ []) rest d l)
          ]) in
          let over : (x y : N) → JoinedBy eq (before ++ rest) x y → JoinedBy eq forest x y = λ x y k. JoinedBy-more (before ++ rest) forest into k in
          let here : JoinedBy eq forest g.0 g.1 = linked (link_of forest g (subst (λ xs. Contains xs g) (sym r.1) (Contains-append_right before (g ∷ rest) g (0, omega arith, refl)))) in
          let k = subst (λ xs. JoinedBy eq xs g.0 g.1) (ap (λ xs. before ++ xs) r.2 ∙ sym (append_assoc before rest (e ∷ []))) j in
          elim (Joined-split laws e.0 e.1 (Links-push (before ++ rest) e) k) [
            | inl q ↦ f.apart before rest g r.1 q
            | inr (inl q) ↦ apart (chain (back (over _ _ q.0)) (chain here (over _ _ q.1)))
            | inr (inr q) ↦ apart (chain (back (over _ _ q.1)) (chain (back here) (over _ _ q.0)))
          ]
    ];
  }
