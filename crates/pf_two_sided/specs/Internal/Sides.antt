-- The two sides of a search from both ends.
use Rattle.pf_two_sided.specs.declared.sides.Side.{Side}
use Rattle.pf_two_sided.specs.declared.sides.Side.TheVariants.{Forth, Back}

-- the first of the two for the way forth, the second for the way back
abbrev pub by_side : {A : Type 0} → Side → A → A → A
by_side Forth x y = x
by_side Back x y = y

abbrev pub opposite : Side → Side
opposite Forth = Back
opposite Back = Forth
