-- What is joined by links, directly or by chains of them.
use Rattle.std.specs.Prelude.{◌≡◌, Bool, true}

-- x and y are joined: the least equivalence that holds for nodes that are the same and for the two ends of each link
pub data Joined {N : Type 0} (eq : N → N → Bool) (link : N → N → Type 0) : N → N → Type 0 where
  same : {x y : N} → eq x y ≡ true → Joined eq link x y
  linked : {x y : N} → link x y → Joined eq link x y
  back : {x y : N} → Joined eq link y x → Joined eq link x y
  chain : {x y z : N} → Joined eq link x y → Joined eq link y z → Joined eq link x z
