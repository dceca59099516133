-- What a flood has reached so far, and what one turn of it changes.
use Rattle.std.specs.Prelude.{◌≡◌, ◌<◌, ◌⊎◌, ℕ, suc, Bool, true, false, List, [], ◌∷◌, Some, slice_get}
use Rattle.std.specs.List.{AllByRecursion}
use Rattle.pf_base.specs.Walks.{IsReachable}
use Rattle.pf_base.specs.Successors.{HasSuccessor}
use Rattle.pf_matrix.specs.Floods.{same_position}

-- the list has this position
abbrev pub Has : List (ℕ × ℕ) → ℕ × ℕ → Type 0
Has ps p = (k : ℕ) × (slice_get ps k ≡ Some p)

-- how many of the answers are yes
abbrev pub free_count : List Bool → ℕ
free_count [] = 0
free_count (true ∷ answers) = suc (free_count answers)
free_count (false ∷ answers) = free_count answers

-- The positions that were reached are in reach, positions that pass are still free or reached, and so are all around the first n that were reached.
pub record IsFlooding (next : ℕ × ℕ → List (ℕ × ℕ)) (passes : ℕ × ℕ → Bool) (start : ℕ × ℕ) (free : ℕ × ℕ → Bool) (reached : List (ℕ × ℕ)) (n : ℕ) : Type 0 where
  pub begins : slice_get reached 0 ≡ Some start
  pub sound : (p : ℕ × ℕ) → Has reached p → IsReachable same_position (HasSuccessor same_position next) (start ∷ []) p
  pub passing : (p : ℕ × ℕ) → free p ≡ true → passes p ≡ true
  pub found : (p : ℕ × ℕ) → passes p ≡ true → (free p ≡ true) ⊎ Has reached p
  pub closed : (k : ℕ) (p : ℕ × ℕ) → slice_get reached k ≡ Some p → k < n → AllByRecursion (Has reached) (next p)

-- Of the positions nearby, those that were free are reached, but for the rest.
pub record Spreads (near rest : List (ℕ × ℕ)) (free free' : ℕ × ℕ → Bool) (reached reached' : List (ℕ × ℕ)) : Type 0 where
  pub kept : (k : ℕ) (p : ℕ × ℕ) → slice_get reached k ≡ Some p → slice_get reached' k ≡ Some p
  pub new : (p : ℕ × ℕ) → Has reached' p → Has reached p ⊎ (Has near p × (free p ≡ true))
  pub closes : (p : ℕ × ℕ) → free' p ≡ true → free p ≡ true
  pub found : (p : ℕ × ℕ) → free p ≡ true → (free' p ≡ true) ⊎ Has reached' p
  pub done : (p : ℕ × ℕ) → Has near p → free p ≡ true → Has rest p ⊎ Has reached' p
  pub left : (p : ℕ × ℕ) → Has rest p → Has near p
