-- What functions give of a list of one item more.
use Rattle.std.proofs.Common.{◌≡◌, ℕ, ◌+◌, ◌<◌, List, [], ◌∷◌, ◌++◌, map, take, length, get_or, ap, ◌∙◌, append-nil}
use Rattle.std.specs.List.{flat_map}
use Rattle.std.proofs.lemmas.List.{map-append, take_more}
use Rattle.std.proofs.lemmas.Grind.{flat_map-append}

module _ {X Y : Type 0} (xs : List X) (i : ℕ) (d : X) (below : i < length xs) where
  pub map-more : (f : X → Y) → map f (take (i + 1) xs) ≡ map f (take i xs) ++ f (get_or xs i d) ∷ []
  map-more f = ap (map f) (take_more xs i d below) ∙ map-append f (take i xs) (get_or xs i d ∷ [])

  pub flat_map-more : (f : X → List Y) → flat_map f (take (i + 1) xs) ≡ flat_map f (take i xs) ++ f (get_or xs i d)
  flat_map-more f =
      ap (flat_map f) (take_more xs i d below) ∙ flat_map-append f (take i xs) (get_or xs i d ∷ [])
      ∙ ap (λ ys. flat_map f (take i xs) ++ ys) (append-nil (f (get_or xs i d)))
