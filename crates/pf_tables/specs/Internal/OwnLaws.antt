-- That no two numbers stand for one node, where each node is its own number.
use Rattle.std.proofs.Common.{◌≡◌, ℕ, ◌∙◌, sym}
use Rattle.pf_tables.specs.Internal.OwnNumbers.{IsOwn}

pub own_one : (size i j x : ℕ) → IsOwn size i x → IsOwn size j x → i ≡ j
own_one size i j x a b = a.1 ∙ sym b.1
