use Rattle.std.proofs.Common.{◌≡◌, ◌∙◌, ◌<◌, ◌*◌, ℕ, zero, suc, sym, arith}
use Rattle.test_flows.proofs.tests.squares.is_refused.Goals as goal

above_one : (n : ℕ) → n * n ≡ 4 → 1 < n
above_one zero e = let h : 0 ≡ 4 = e in omega (arith, h)
above_one (suc zero) e = let h : 1 ≡ 4 = e in omega (arith, h)
above_one (suc (suc n)) e = omega arith

pub from_vec-requires-clause-square : goal.from_vec-requires-clause-square
from_vec-requires-clause-square g c = (2, sym c.requires.four)

pub from_vec-requires-clause-source : goal.from_vec-requires-clause-source
from_vec-requires-clause-source g c = λ size e. (let h = above_one size (e ∙ c.requires.four) in omega (arith, h))

pub from_vec-requires-clause-sink : goal.from_vec-requires-clause-sink
from_vec-requires-clause-sink g c = λ size e. above_one size (e ∙ c.requires.four)
