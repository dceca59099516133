-- What a cost, a word and a depth tell of a label.
use Rattle.std.specs.Prelude.{ℕ, zero, suc, ◌+◌, ◌-◌, ◌^◌, Bool, true, false, if◌then◌else◌, Option, Some, None}
use Rattle.std.specs.Prelude.{nat_lt}
use Rattle.pf_core.specs.declared.labels.Label.{Label}

module _ {C : Type 0} (cost : C) where
  -- no label at 0, one at which a path begins at 1, and one behind the number n at n + 2
  abbrev pub placed : ℕ → ℕ → Bool → Option (Label C)
  placed zero above settled = None
  placed (suc zero) above settled = Some (record { cost = cost; parent = 0; depth = 0; settled = settled })
  placed (suc (suc n)) above settled = Some (record { cost = cost; parent = n; depth = above + 1; settled = settled })

  -- the same word, and 2^63 more where the label is settled
  abbrev pub label_in : ℕ → ℕ → Option (Label C)
  label_in word above = if nat_lt word (2 ^ 63) then placed word above false else placed (word - 2 ^ 63) above true
