-- What waits in a search: the costs of labels, with their numbers.
use Rattle.std.specs.Prelude.{◌≡◌, ◌≤ℤ◌, ℤ, ℕ, false, Contains, Option, Some}
use Rattle.pf_queue.specs.Entries.{Entries}
use Rattle.pf_core.specs.declared.labels.Label.{Label}
use Rattle.pf_core.specs.Labels.{Labels, HasLabel}

-- each entry's number has a label that costs no more, and each open label has an entry of its cost
pub record IsQueue {C : Type 0} (value : C → ℤ) (labels : Labels C) (entries : Entries C) : Type 0 where
  pub labelled : (e : C × ℕ) → Contains entries e → (l : Label C) × HasLabel labels e.1 l × (value l.cost ≤ℤ value e.0)
  pub queued : (k : ℕ) (l : Label C) → HasLabel labels k l → l.settled ≡ false → Contains entries (l.cost, k)

module _ {C : Type 0} where
  -- the entry that is known to come first is that of the number k
  abbrev pub IsFront : ℕ → Option (C × ℕ) → Type 0
  IsFront k front = (c : C) × (front ≡ Some (c, k))

  -- the number k has an open label
  abbrev pub IsOpen : Labels C → ℕ → Type 0
  IsOpen labels k = (l : Label C) × HasLabel labels k l × (l.settled ≡ false)
