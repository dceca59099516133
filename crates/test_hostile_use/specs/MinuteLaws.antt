-- The numbers of minutes that a day has, from 0 to 1439, and that they meet the laws of numbers.
use Rattle.std.specs.Prelude.{◌≡◌, ◌<◌, ◌≤ℤ◌, ◌↔◌, ℤ, pos, negsuc, ltb, if◌then◌else◌}
use Rattle.std.proofs.Common.{arith, lit<}
use Rattle.std.proofs.lemmas.Bool.Decides.{nat_tests}
use Rattle.std.proofs.lemmas.Int.{ints}
use Rattle.pf_base.specs.Costs.{LiesBetween}

-- z is a minute of a day
abbrev pub FitsDay : ℤ → Type 0
FitsDay (pos n) = n < 1440
FitsDay (negsuc n) = ⊥

-- a minute of a day for each number: itself where it is one, else 0
abbrev pub wrap_day : ℤ → ℤ
wrap_day (pos n) = if ltb n 1440 then pos n else pos 0
wrap_day (negsuc n) = pos 0

pub FitsDay-range : (z : ℤ) → FitsDay z ↔ LiesBetween (pos 0) (pos 1439) z
FitsDay-range (pos n) = ((λ f. (omega (arith, ints), omega (arith, ints, f))), (λ b. let top = b.1 in omega (arith, ints)))
FitsDay-range (negsuc n) = ((λ f. absurd f), (λ b. let low = b.0 in absurd (omega (arith, ints))))

pub FitsDay-between : (x y z : ℤ) → FitsDay x → FitsDay z → x ≤ℤ y → y ≤ℤ z → FitsDay y
FitsDay-between x y z f g low high =
    let from = ((FitsDay-range x).0 f).0 in
    let to = ((FitsDay-range z).0 g).1 in
    (FitsDay-range y).1 (omega (arith, ints), omega (arith, ints))

pub wrap_day-same : (z : ℤ) → FitsDay z → wrap_day z ≡ z
wrap_day-same (pos n) f = grind (arith, nat_tests)
wrap_day-same (negsuc n) f = absurd f

pub FitsDay-wrap : (z : ℤ) → FitsDay (wrap_day z)
FitsDay-wrap (pos n) = grind (arith, nat_tests)
FitsDay-wrap (negsuc n) = lit< tt
