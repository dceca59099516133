-- How many paths there can be.
use Rattle.std.specs.Prelude.{ℕ, zero, suc, ◌*◌}

-- how many lists without repeats there are over n nodes: the empty one, and those that have one of the n first and a list over the others behind it
unfoldable pub most_paths : ℕ → ℕ
most_paths zero = 1
most_paths (suc n) = suc (suc n * most_paths n)
