-- Calls of a function that is handed in, at one argument after another: what they ask for, and what they gave.
use Rattle.std.specs.Prelude.{◌≡◌, List, [], ◌∷◌, ◌++◌, ⊤}
use Rattle.std.specs.List.{FoldsTo}

-- f may be called at each of xs in turn, as the calls at those before it have left f
pub record CallableInTurn {F X Y : Type 0} (pre : F → X → Type 0) (step : F → X → Y → F → Type 0) (f : F) (xs : List X) : Type 0 where
  pub at : (before after : List X) (x : X) (g : F) → xs ≡ before ++ x ∷ after → FoldsTo (λ p z q. (y : Y) × step p z y q) f before g → pre g x

-- the calls of f at xs, one after another, gave ys
abbrev pub GivesEach : {F X Y : Type 0} → (F → X → Y → F → Type 0) → F → List X → List Y → Type 0
GivesEach step f [] [] = ⊤
GivesEach step f [] (y ∷ ys) = ⊥
GivesEach step f (x ∷ xs) [] = ⊥
GivesEach {F} step f (x ∷ xs) (y ∷ ys) = (g : F) × step f x y g × GivesEach step g xs ys

-- the same, as a fact that shows a lemma its arguments
pub record GivesInTurn {F X Y : Type 0} (step : F → X → Y → F → Type 0) (f : F) (xs : List X) (ys : List Y) : Type 0 where
  pub each : GivesEach step f xs ys
