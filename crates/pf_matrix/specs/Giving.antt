-- What an iterable gives.
use Rattle.std.specs.Prelude.{List, Option}
use Rattle.std.specs.Iterator.{Yields, Drains}

module _ {I S T : Type 0} (becomes : I → S → Type 0) (steps : S → Option T → S → Type 0) where
  -- an iterator made of `given` gives these values until it ends
  pub record GivesAll (given : I) (xs : List T) : Type 0 where
    pub iterator : S
    pub made : becomes given iterator
    pub drains : Drains steps iterator xs

  -- an iterator made of `given` gives these values first
  pub record GivesFirst (given : I) (xs : List T) : Type 0 where
    pub iterator : S
    pub left : S
    pub made : becomes given iterator
    pub yields : Yields steps iterator xs left
