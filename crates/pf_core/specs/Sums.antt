-- What is known of the ends of a row while its steps are looked at in turn.
use Rattle.std.specs.Prelude.{◌≡◌, ◌⊎◌, ◌+ℤ◌, ◌-◌, ◌<◌, ℕ, ℤ, Bool, true, false, ◌||◌, List, Option, Some, None, Contains, nat_eq, slice_get, take}
use Rattle.pf_core.specs.declared.labels.Label.{Label}
use Rattle.pf_core.specs.declared.sums.End.{End}
use Rattle.pf_core.specs.Labels.{Labels, HasLabel, IsReached}

-- the end of one step more: whether it is the same as the one before, and whether that is reached
abbrev pub joined_by : Bool → Bool → ℕ → Bool → Option End
joined_by true reached n b = Some (record { number = n; is_reached = b || reached })
joined_by false true n b = Some (record { number = n; is_reached = b })
joined_by false false n b = None

abbrev pub joined_end : Option End → ℕ → Bool → Option End
joined_end None n b = Some (record { number = n; is_reached = b })
joined_end (Some e) n b = joined_by (nat_eq e.number n) e.is_reached n b

module _ {C : Type 0} (value : C → ℤ) (fits : ℤ → Type 0) (labels : Labels C) (row : List (ℕ × C)) (t : ℤ) where
  abbrev pub Reached : ℕ → Type 0
  Reached = IsReached value fits labels row t

  -- no label, and none of these steps has a sum that fits
  abbrev pub IsMissed : List (ℕ × C) → ℕ → Type 0
  IsMissed steps j = ((m : Label C) → ¬ (HasLabel labels j m)) × ((d : C) → Contains steps (j, d) → ¬ (fits (t +ℤ value d)))

  -- the first n steps were looked at, and this is known of the last of them
  pub record IsLooked (n : ℕ) (last : Option End) : Type 0 where
    pub reached : (j : ℕ) (c : C) → Contains (take n row) (j, c) → Reached j ⊎ (last ≡ Some (record { number = j; is_reached = false }))
    pub hit : (e : End) → last ≡ Some e → e.is_reached ≡ true → Reached e.number
    pub missed : (e : End) → last ≡ Some e → e.is_reached ≡ false → IsMissed (take n row) e.number
    pub at : (e : End) → last ≡ Some e → (0 < n) × ((c : C) × (slice_get row (n - 1) ≡ Some (e.number, c)))
    pub nothing : last ≡ None → n ≡ 0
