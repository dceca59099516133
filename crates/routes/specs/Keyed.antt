-- What a `KeyedHasher` computes.
use Rattle.std.specs.Prelude.{ℕ, ◌*◌, ◌/◌, ◌-◌, ◌^◌, List, length, if◌then◌else◌, nat_eq, bit_and, bit_xor}
use Rattle.std.specs.Int.{w64, from_le_bytes}
use Rattle.std.specs.List.{fold}

-- the two halves of the 128 bits of a * b, joined by xor
abbrev pub folded_multiply : ℕ → ℕ → ℕ
folded_multiply a b = bit_xor (bit_and (a * b) (2 ^ 64 - 1)) (a * b / 2 ^ 64)

-- the state after one number
abbrev pub state_after : ℕ → ℕ → ℕ → ℕ
state_after factor state number = folded_multiply (bit_xor state number) factor

-- the state after bytes: eight are one number, and else each byte is one
abbrev pub state_after_bytes : ℕ → ℕ → List ℕ → ℕ
state_after_bytes factor state bytes = if nat_eq (length bytes) 8 then state_after factor state (from_le_bytes w64 bytes) else fold (state_after factor) state bytes
