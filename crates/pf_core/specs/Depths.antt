-- How many steps a path has.
use Rattle.std.specs.Prelude.{ℕ, ◌+◌}
use Rattle.pf_core.specs.declared.depth.Steps.{Steps, Zero, Next', Same'}

abbrev pub depth_of_steps : Steps → ℕ
depth_of_steps Zero = 0
depth_of_steps (Next' s n) = depth_of_steps n + 1
depth_of_steps (Same' s t n) = depth_of_steps n
