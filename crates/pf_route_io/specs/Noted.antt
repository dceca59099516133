-- What a `Noted` shows.
use Rattle.std.specs.Prelude.{ℕ, Bool, true, ◌&&◌, nat_lt, ◌==◌, List, length, Result, Ok, Err}
use Rattle.pf_route_io.specs.declared.noted.Noted.{Noted}

-- the reader or writer that it was made with
abbrev pub device : {D : Type 0} → Noted D → D
device n = n.inner

-- what `failed` answers
abbrev pub has_failed : {D : Type 0} → Noted D → Bool
has_failed n = n.failed

-- a write answered an error, or took none of some bytes
abbrev pub took_nothing : {E : Type 0} → Result ℕ E → List ℕ → Bool
took_nothing (Ok count) bytes = (count == 0) && nat_lt 0 (length bytes)
took_nothing (Err e) bytes = true
