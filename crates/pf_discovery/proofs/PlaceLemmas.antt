-- The place of a node among others.
use Rattle.std.proofs.Common.{◌≡◌, ℕ, zero, suc, Bool, true, false, Option, Some, None, List, [], ◌∷◌, ◌∙◌, slice_index_or, refl, sym, subst, true≢false}
use Rattle.std.specs.Prelude.{MatchOption}
use Rattle.std.specs.Cmp.{IsEquivalence}
use Rattle.std.specs.Option.{is_some}
use Rattle.std.specs.List.{list_any, position}
use Rattle.std.proofs.lemmas.List.Quantifiers.{position-Some}
use Rattle.pf_core.specs.Nodes.{StandsFor}
use Rattle.pf_base.proofs.ListLemmas.{or_left, or_right, at_place, none_in}
use Rattle.pf_core.proofs.NodeLemmas.{eq-sym}

module _ {N : Type 0} (eq : N → N → Bool) (laws : IsEquivalence eq) where
  none_stands : (keys : List N) (node : N) → list_any (eq node) keys ≡ false → (k : ℕ) → ¬ (StandsFor eq keys k node)
  none_stands [] node none k s = none_in k s.0 s.1
  none_stands (y ∷ ys) node none zero s =
      let f : Some y ≡ Some s.0 = s.1 in
      let h : y ≡ s.0 = cc in
      let t : eq y node ≡ true = subst (λ z. eq z node ≡ true) (sym h) s.2 in
      true≢false (sym (eq-sym eq laws y node t) ∙ or_left (eq node y) (list_any (eq node) ys) none)
  none_stands (y ∷ ys) node none (suc k) s = none_stands ys node (or_right (eq node y) (list_any (eq node) ys) none) k (s.0, s.1, s.2)

  -- what a look-up by equality finds
  pub found_place : (keys : List N) (node : N) (r : Option ℕ) → r ≡ position (eq node) keys → is_some r ≡ list_any (eq node) keys
      → MatchOption r ((k : ℕ) → ¬ (StandsFor eq keys k node)) (λ k. StandsFor eq keys k node)
  found_place keys node None is found = none_stands keys node (sym found)
  found_place keys node (Some k) is found =
      let q = position-Some (eq node) keys k node (sym is) in
      let m = slice_index_or keys k node in
      (m, at_place keys k node m q.0 refl, eq-sym eq laws node m q.1)
