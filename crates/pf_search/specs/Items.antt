-- How many items come from a lazy walk.
use Rattle.std.specs.Prelude.{◌+◌, ◌-◌, ◌^◌, ℕ, Bool, if◌then◌else◌}

-- at most so many items come, by steps alone, from a walk that gave this many nodes: it holds the nodes that it found, which are fewer than 2^63, and a refusal may follow; where the last step was refused, none comes until the walk is resumed
abbrev pub most_items : ℕ → Bool → ℕ
most_items given refused = if refused then 0 else 2 ^ 63 - given + 1
