use Rattle.std.proofs.Common.{◌≡◌, ℕ, ◌+◌, ◌-◌, ◌^◌, ◌/◌, ◌<◌, ◌≤◌, ◌∙◌, ap, sym, arith, nat_eq, ◌%◌, w64, inl, inr}
use Rattle.std.specs.Int.{bit_at}
use Rattle.std.specs.Int.Count.{count_trailing_zeros}
use Rattle.std.proofs.lemmas.Bool.{cases_lt, eq-eqb}
use Rattle.std.proofs.lemmas.Nat.{shr-shr, shr_le}
use Rattle.std.proofs.lemmas.Nat.Bits.{bit_at-trailing_zeros, bit_at_above}
use Rattle.pf_grid.proofs.WordLemmas.{no_bit}
use Rattle.pf_grid.proofs.words.first_one_of.Goals as goal

-- a bit of the word is one of the rest of it
shifted : (v from i : ℕ) → from ≤ i → bit_at v i ≡ bit_at (v / 2 ^ from) (i - from)
shifted v from i h =
    let e : from + (i - from) ≡ i = omega arith in
    sym (ap (λ n. n % 2) (shr-shr v from (i - from) ∙ ap (λ k. v / 2 ^ k) e))

pub returns-then-rest-eq0 : goal.returns-then-rest-eq0
returns-then-rest-eq0 c = λ i p q.
    ap (λ k. nat_eq k 1) (shifted c.args.word c.args.from i p ∙ ap (λ r. bit_at r (i - c.args.from)) c.if-rest-eq0.true) ∙ no_bit (i - c.args.from)

pub returns : goal.returns
returns c =
    let v = c.args.word in
    let f = c.args.from in
    let rest = v / 2 ^ f in
    let some : 0 < v / 2 ^ f = omega arith in
    let fits : v / 2 ^ f < 2 ^ 64 = omega (arith, shr_le v f) in
    let z = bit_at-trailing_zeros w64 rest some fits in
    let t = count_trailing_zeros 64 rest in
    let back : f + t - f ≡ t = omega arith in
    let one : bit_at v (f + t) ≡ 1 = shifted v f (f + t) (omega arith) ∙ ap (λ k. bit_at rest k) back ∙ z.1 in (
      omega arith,
      elim (cases_lt (f + t) 64) as (λ _. f + t < 64) [ inl p ↦ p | inr p ↦ let none = bit_at_above v 64 (f + t) c.ranges.word.fits p in absurd (omega arith) ],
      eq-eqb (bit_at v (f + t)) 1 one,
      λ j p q. ap (λ k. nat_eq k 1) (shifted v f j p ∙ z.2 (j - f) (omega arith)),
    )
