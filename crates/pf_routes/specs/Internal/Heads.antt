-- The first bytes of a name, as a number.
pub mod Laws
use Rattle.std.specs.Prelude.{ℕ, List, take, length, nat_lt, if◌then◌else◌}
use Rattle.std.specs.Hash as fed
use Rattle.std.specs.Int.Digits.{number_from_digits}

-- the number whose digits to the base 256 are the first eight bytes
abbrev pub head_of : List ℕ → ℕ
head_of bytes = number_from_digits 256 (take 8 bytes)

-- what a hasher is given of a name: its head where that is all, and else all bytes
abbrev pub name_input : List ℕ → List (List ℕ)
name_input bytes = if nat_lt 8 (length bytes) then fed.slice fed.u8 bytes else fed.u64 (head_of bytes)
