use Rattle.std.proofs.Common.{rules, arith, sym, ◌≡◌, nat_eq}
use Rattle.std.proofs.lemmas.List.Sums.{position_or_len_is}
use Rattle.pf_bench.proofs.inputs.puzzle.blank_of.Goals as goal

pub returns-then-tiles-place-eq0 : goal.returns-then-tiles-place-eq0
returns-then-tiles-place-eq0 c = sym (position_or_len_is (λ t. nat_eq t 0) c.args.tiles.now c.loop-place.place 0 (omega arith) c.loop-place.invariant (λ l. search rules))

pub returns : goal.returns
returns c =
    let end : c.loop-place.place ≡ 16 = omega arith in
    sym (position_or_len_is (λ t. nat_eq t 0) c.args.tiles.now 16 0 (omega arith) (λ k h. c.loop-place.invariant k (omega (arith, h, end))) (λ l. let none : ⊥ = omega (arith, l) in absurd none))
