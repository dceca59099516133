-- Cycles of the values that a step gives: `iterate next i start` is the value after i steps from the start.
use Rattle.std.specs.Prelude.{◌≡◌, ◌⊎◌, ◌≤◌, ◌<◌, ◌+◌, ◌-◌, ◌*◌, ◌^◌, ℕ, Bool, true}
use Rattle.std.specs.Fn.{Shared, iterate}
use Rattle.pf_base.specs.declared.error.PathError.{PathError}
use Rattle.pf_base.specs.declared.error.PathError.TheVariants.{OutOfMemory, StepOverflow}

module _ {N : Type 0} (eq : N → N → Bool) (next : N → N) (start : N) where
  -- x is the value after i steps
  abbrev pub IsAfter : ℕ → N → Type 0
  IsAfter i x = eq (iterate next i start) x ≡ true

  -- x is the value after some number of steps
  abbrev pub IsMet : N → Type 0
  IsMet x = (i : ℕ) × IsAfter i x

  -- the value after i steps is met again n steps later
  abbrev pub Repeats : ℕ → ℕ → Type 0
  Repeats i n = IsAfter i (iterate next (i + n) start)

  -- the least positive length, and the least index, at which a value is met again so many steps later
  pub record IsCycle (length index : ℕ) : Type 0 where
    pub positive : 0 < length
    pub repeats : Repeats index length
    pub least_length : (i n : ℕ) → 0 < n → Repeats i n → length ≤ n
    pub least_index : (i n : ℕ) → 0 < n → Repeats i n → index ≤ i

  -- The refusal is for memory, or for steps where there is no cycle or 4 times its index and length does not fit `usize`.
  abbrev pub IsStepRefusal : PathError → Type 0
  IsStepRefusal e = (e ≡ OutOfMemory) ⊎ ((e ≡ StepOverflow) × ((length index : ℕ) → IsCycle length index → 2 ^ 64 ≤ 4 * (index + length)))

-- The steps are 2 ^ j - 1 and the length, j the least number with 2 ^ j - 1 from the index up and 2 ^ j from the length up.
pub record IsMeetingOfBrent (length index steps : ℕ) : Type 0 where
  pub exponent : ℕ
  pub sum : steps ≡ 2 ^ exponent - 1 + length
  pub from_index : index ≤ 2 ^ exponent - 1
  pub from_length : length ≤ 2 ^ exponent
  pub least : (j : ℕ) → index ≤ 2 ^ j - 1 → length ≤ 2 ^ j → exponent ≤ j

-- the steps are the least positive multiple of the length from the index up
pub record IsMeetingOfFloyd (length index steps : ℕ) : Type 0 where
  pub positive : 0 < steps
  pub multiple : (k : ℕ) × (steps ≡ k * length)
  pub from_index : index ≤ steps
  pub least : (k : ℕ) → 0 < k * length → index ≤ k * length → steps ≤ k * length

-- the steps are 0 where the cycle begins at the start, and else the least positive multiple of its length from its index up
pub record IsMultipleOfFloyd (length index steps : ℕ) : Type 0 where
  pub at_start : index ≡ 0 → steps ≡ 0
  pub behind_start : 0 < index → IsMeetingOfFloyd length index steps

module _ {F N : Type 0} (calls : Shared F (N × Unit {0}) N) (eq : N → N → Bool) where
  -- At each value within, the function may be called and answers the next value. Equal values have equal next ones.
  pub record AnswersStep (f : F) (within : N → Type 0) (next : N → N) : Type 0 where
    pub alike : (x y : N) → within x → eq x y ≡ true → eq (next x) (next y) ≡ true
    pub callable : (x : N) → within x → calls.pre f (x, tt)
    pub answers : (x r : N) → within x → calls.post f (x, tt) r → eq (next x) r ≡ true
