-- The two sides of a search over nodes.
use Rattle.std.proofs.Common.{◌≡◌, ℕ, ◌<◌, Bool, true, Option, Some, None, List, ◌∙◌, slice_get, length, sym, subst}
use Rattle.std.specs.Prelude.{MatchOption}
use Rattle.std.specs.Cmp.{IsEquivalence}
use Rattle.pf_core.specs.Nodes.{StandsFor}
use Rattle.pf_core.specs.NodeLaws.{StandsFor-inside}
use Rattle.pf_core.proofs.NodeLemmas.{eq-sym, eq-trans}

module _ {N : Type 0} (eq : N → N → Bool) (laws : IsEquivalence eq) where
  -- the number of the node of a number in the nodes of the other side
  pub place_across : (keys others : List N) (n : ℕ) (item : N) (r : Option ℕ) → slice_get keys n ≡ Some item → MatchOption r ((k : ℕ) → ¬ (StandsFor eq others k item)) (λ k. StandsFor eq others k item)
      → MatchOption r ((x : N) → StandsFor eq keys n x → (k : ℕ) → ¬ (StandsFor eq others k x)) (λ k. (k < length others) × ((x : N) → StandsFor eq keys n x → StandsFor eq others k x))
  place_across keys others n item r at found = place r found
    where
      same_item : (x : N) → StandsFor eq keys n x → eq item x ≡ true
      same_item x s = let f : Some item ≡ Some s.0 = sym at ∙ s.1 in let h : item ≡ s.0 = cc in subst (λ z. eq z x ≡ true) (sym h) s.2

      place : (r : Option ℕ) → MatchOption r ((k : ℕ) → ¬ (StandsFor eq others k item)) (λ k. StandsFor eq others k item)
          → MatchOption r ((x : N) → StandsFor eq keys n x → (k : ℕ) → ¬ (StandsFor eq others k x)) (λ k. (k < length others) × ((x : N) → StandsFor eq keys n x → StandsFor eq others k x))
      place None none = λ x s k t. none k (t.0, t.1, eq-trans eq laws t.0 x item t.2 (eq-sym eq laws item x (same_item x s)))
      place (Some k) is = (StandsFor-inside eq others k item is, λ x s. (is.0, is.1, eq-trans eq laws is.0 item x is.2 (same_item x s)))
