-- A ring of the numbers up to a last one, of which each leads to the next lower one.
use Rattle.std.specs.Prelude.{◌+◌, ◌-◌, ◌==◌, ℕ, nat_lt, if◌then◌else◌}

-- the number after n: the next lower one, and `back` after 0
abbrev pub next_lower : ℕ → ℕ → ℕ
next_lower back n = if n == 0 then back else n - 1

-- the number before n, where `last` comes after 0: the next higher one, and 0 before the last
abbrev pub next_higher : ℕ → ℕ → ℕ
next_higher last n = if nat_lt n last then n + 1 else 0
