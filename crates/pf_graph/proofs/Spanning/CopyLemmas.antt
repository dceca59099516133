-- Copies of edges.
use Rattle.std.proofs.Common.{ℕ, ◌+◌, ◌<◌, ◌≡◌, sym, ◌∙◌, ap, subst, List, [], ◌∷◌, ◌++◌, length, get_or, take, inl, inr, Ordering, Bool}
use Rattle.std.specs.Prelude.{Contains}
use Rattle.std.specs.List.Sorted.{IsPermutation}
use Rattle.std.proofs.lemmas.List.{take_more}
use Rattle.std.proofs.lemmas.List.Sorted.{Contains-permutation}
use Rattle.std.proofs.lemmas.List.Elements.{Contains-append_left, Contains-push, Contains-push_cases}
use Rattle.std.proofs.lemmas.List.Elements.{Contains-get_or}
use Rattle.std.specs.declared.cmp.Ordering.TheVariants.{Equal}
use Rattle.std.specs.Ordering.{is_eq}
use Rattle.std.specs.Cmp.{IsTotalOrder, Equal-is}
use Rattle.pf_base.specs.Answers.{IsLawfulClone}
use Rattle.pf_graph.specs.Spanning.{AreBelow, AreChosenFrom, LinksUnder, IsLeastUnderEveryBound}
use Rattle.pf_graph.specs.Internal.Spanning.SpanningSteps.{HoldsCopies}
use Rattle.pf_union_find.proofs.JoinedLemmas.{Joined-more}
use Rattle.pf_graph.proofs.Spanning.OrderLemmas.{le_equal}

module _ {N C : Type 0} (is_clone : C → C → Type 0) where
  pub HoldsCopies-more : (edges copies : List (N × N × C)) (i : ℕ) (g e : N × N × C) → i < length edges → g ≡ get_or edges i g → g.0 ≡ e.0 → g.1 ≡ e.1 → is_clone g.2 e.2 → HoldsCopies is_clone (take i edges) copies → HoldsCopies is_clone (take (i + 1) edges) (copies ++ e ∷ [])
  HoldsCopies-more edges copies i g e inside at first second clone h =
      let more : take (i + 1) edges ≡ take i edges ++ g ∷ [] = take_more edges i g inside ∙ ap (λ x. take i edges ++ x ∷ []) (sym at) in
      record {
        from = λ f k. elim (Contains-push_cases copies e f k) [
          | inl l ↦ let r = h.from f l in (r.0, subst (λ xs. Contains xs r.0) (sym more) (Contains-append_left (take i edges) (g ∷ []) r.0 r.1), r.2, r.3, r.4)
          | inr l ↦ (g, subst (λ xs. Contains xs g) (sym more) (Contains-push (take i edges) g), first ∙ ap (λ (x : N × N × C). x.0) l, second ∙ ap (λ (x : N × N × C). x.1) l, subst (λ (x : N × N × C). is_clone g.2 x.2) l clone)
        ];
        all = λ f k. elim (Contains-push_cases (take i edges) g f (subst (λ xs. Contains xs f) more k)) [
          | inl l ↦ let r = h.all f l in (r.0, Contains-append_left copies (e ∷ []) r.0 r.1, r.2, r.3, r.4)
          | inr l ↦ (e, Contains-push copies e, ap (λ (x : N × N × C). x.0) (sym l) ∙ first, ap (λ (x : N × N × C). x.1) (sym l) ∙ second, subst (λ (x : N × N × C). is_clone x.2 e.2) l clone)
        ];
      }

  module _ {eq : C → C → Bool} {cmp : C → C → Ordering} (total : IsTotalOrder cmp) (agree : (x y : C) → eq x y ≡ is_eq (cmp x y)) (lawful : IsLawfulClone eq is_clone) (same_node : N → N → Bool) where
    pub least_of_copies : (edges copies chosen : List (N × N × C)) → HoldsCopies is_clone edges copies → IsLeastUnderEveryBound same_node cmp copies chosen → IsLeastUnderEveryBound same_node cmp edges chosen
    least_of_copies edges copies chosen h l = record {
      joins = λ w x y j. l.joins w x y (Joined-more (λ (a b : N) (k : LinksUnder cmp w edges a b).
          let r = h.all k.0 k.1 in
          let e : cmp k.0.2 r.0.2 ≡ Equal = (Equal-is (cmp k.0.2 r.0.2)).0 (sym (agree k.0.2 r.0.2) ∙ lawful k.0.2 r.0.2 r.4) in
          (r.0, r.1, le_equal total k.0.2 r.0.2 w e k.2, sym r.2 ∙ k.3, sym r.3 ∙ k.4)) j);
    }

  pub chosen_of_copies : (edges copies chosen : List (N × N × C)) → HoldsCopies is_clone edges copies → ((e : N × N × C) → Contains chosen e → Contains copies e) → AreChosenFrom is_clone edges chosen
  chosen_of_copies edges copies chosen h f = record { as_written = λ e k. h.from e (f e k) }

-- what is least does not depend on the order of the edges
pub least_of_permutation : {N C : Type 0} {same_node : N → N → Bool} {cmp : C → C → Ordering} (edges sorted chosen : List (N × N × C)) → IsPermutation edges sorted → IsLeastUnderEveryBound same_node cmp sorted chosen → IsLeastUnderEveryBound same_node cmp edges chosen
least_of_permutation {N} {C} {cmp = cmp} edges sorted chosen p l = record {
  joins = λ w x y j. l.joins w x y (Joined-more (λ (a b : N) (k : LinksUnder cmp w edges a b). (k.0, Contains-permutation edges sorted k.0 p k.1, k.2, k.3, k.4)) j);
}

pub below_copies : {C : Type 0} (is_clone : C → C → Type 0) (n : ℕ) (edges copies : List (ℕ × ℕ × C)) → HoldsCopies is_clone edges copies → AreBelow n edges → AreBelow n copies
below_copies {C} is_clone n edges copies h b = λ k d inside.
    let r = h.from (get_or copies k d) (Contains-get_or copies k d inside) in
    let at = b r.1.0 r.0 r.1.1 in
    let e : get_or edges r.1.0 r.0 ≡ r.0 = r.1.2 in
    let low = subst (λ (x : ℕ × ℕ × C). (x.0 < n) × (x.1 < n)) e at in
    (subst (λ (m : ℕ). m < n) r.2 low.0, subst (λ (m : ℕ). m < n) r.3 low.1)
