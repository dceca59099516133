-- What contracts say of an iterator over all cheapest paths between names.
use Rattle.std.specs.Prelude.{◌≡◌, ◌⊎◌, ℕ, Bool, true, false, List, [], ◌∷◌, Option, Some, None, Result, Ok, Err, Vec, map}
use Rattle.std.specs.Borrow.{Bor}
use Rattle.pf_base.specs.declared.error.PathError.{PathError}
use Rattle.pf_base.specs.NodeRefs.{nodes_of}
use Rattle.pf_informed.specs.CheapestPaths.{PathsToCome}

-- the paths of numbers that are to come: that which waits to be named first
abbrev pub numbers_left : {A : Type 0} → Option (Vec ℕ A) → List (List ℕ) → List (List ℕ)
numbers_left None left = left
numbers_left (Some numbers) left = numbers.items ∷ left

-- whether the end is reached: it is not where a path waits
abbrev pub is_at_end : {A : Type 0} → Option (Vec ℕ A) → Bool → Bool
is_at_end None ended = ended
is_at_end (Some numbers) ended = false

-- the paths to come, in names
abbrev pub paths_by_name : {N A : Type 0} → (ℕ → N) → Option (Vec ℕ A) → PathsToCome ℕ → Bool → PathsToCome N
paths_by_name name waiting numbers refused = record { left = map (map name) (numbers_left waiting numbers.left); refused = refused; ended = is_at_end waiting numbers.ended }

module _ {A : Type 0} where
  -- what is taken of the paths of numbers to come, where no step was refused, and how those behind it are left: a path, no path, or a refusal for want of memory
  abbrev pub IsTaken : List (List ℕ) → Bool → Result (Option (Vec ℕ A)) PathError → PathsToCome ℕ → Type 0
  IsTaken left ended (Ok (Some numbers)) t = (ended ≡ false) × (left ≡ numbers.items ∷ t.left) × (t.refused ≡ false)
  IsTaken left ended (Ok None) t = (left ≡ []) × (t.left ≡ left) × (t.ended ≡ true) × (t.refused ≡ false)
  IsTaken left ended (Err refusal) t = (refusal ≡ PathError.OutOfMemory) × (ended ≡ false) × (t.left ≡ left) × (t.ended ≡ false)

  -- what naming a path gives, and which path waits then: the names of its numbers, or a refusal for want of memory, behind which it waits; what is no path stays
  abbrev pub IsNamed : {N : Type 0} → (ℕ → N) → Result (Option (Vec ℕ A)) PathError → Option (Vec ℕ A) → Option (Vec ℕ A) → Result (Option (Vec (Bor N) A)) PathError → Type 0
  IsNamed name (Ok None) before after named = (named ≡ Ok None) × (after ≡ before)
  IsNamed name (Err refusal) before after named = (named ≡ Err refusal) × (after ≡ before)
  IsNamed {N} name (Ok (Some numbers)) before after named = ((names : Vec (Bor N) A) × (named ≡ Ok (Some names)) × (nodes_of names.items ≡ map name numbers.items) × (after ≡ before))
      ⊎ ((named ≡ Err PathError.OutOfMemory) × (after ≡ Some numbers))

  -- What a call of `next` gives, and how it leaves the iterator.
  -- a path: that which came next, and then the others are to come
  -- no path: the last step was refused, and the iterator stays as it was; or no path is to come, and the iterator is at its end from then on
  -- a refusal for want of memory: the same paths are to come
  -- At its end the iterator gives neither a path nor a refusal.
  abbrev pub PathsStepByName : {N : Type 0} → PathsToCome N → Option (Result (Vec (Bor N) A) PathError) → PathsToCome N → Type 0
  PathsStepByName s (Some (Ok names)) t = (s.refused ≡ false) × (s.ended ≡ false) × (t.refused ≡ false) × (s.left ≡ nodes_of names.items ∷ t.left)
  PathsStepByName s None t = ((s.refused ≡ true) × (t ≡ s)) ⊎ ((s.left ≡ []) × (t ≡ record s { ended = true }))
  PathsStepByName s (Some (Err refusal)) t = (refusal ≡ PathError.OutOfMemory) × (s.refused ≡ false) × (s.ended ≡ false) × (t ≡ record s { refused = true })
