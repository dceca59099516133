use Rattle.std.proofs.Common.{◌∙◌, ap, arith}
use Rattle.std.specs.Prelude.{unsigned_abs}
use Rattle.std.specs.Int.{leading_zeros}
use Rattle.std.specs.Int.Count.{leading_of_zero}
use Rattle.pf_utils.proofs.RootLemmas.{half_of_length, natural}
use Rattle.pf_utils.proofs.square_root.half_length.Goals as goal
use mir.Val.{bits}

pub overflow_sub-result : goal.overflow_sub-result
overflow_sub-result g c =
    let w = g.T.FixedWidth.width in
    let number = unsigned_abs (g.T.Number.value c.args.n) in
    let zeros = c.leading_zeros.ensures ∙ ap (leading_zeros w) (g.met.T.FixedWidth.bits_of_natural_law c.zero.result 0 (ap g.T.Number.value c.zero.ensures ∙ g.met.T.Zero.zero_law g.met.T.Integral.exact_law)) ∙ leading_of_zero (bits w) in
    let more = c.leading_zeros-2.ensures ∙ ap (leading_zeros w) (g.met.T.FixedWidth.bits_of_natural_law c.args.n number (natural _ (g.met.T.Unsigned.unsigned_law c.args.n))) in
    let h = half_of_length w number _ _ c.requires.positive (g.met.T.FixedWidth.size_law _ c.requires.in_range) zeros more in
    omega (arith, h.0)

pub overflow_sub-result-2 : goal.overflow_sub-result-2
overflow_sub-result-2 g c =
    let w = g.T.FixedWidth.width in
    let number = unsigned_abs (g.T.Number.value c.args.n) in
    let zeros = c.leading_zeros.ensures ∙ ap (leading_zeros w) (g.met.T.FixedWidth.bits_of_natural_law c.zero.result 0 (ap g.T.Number.value c.zero.ensures ∙ g.met.T.Zero.zero_law g.met.T.Integral.exact_law)) ∙ leading_of_zero (bits w) in
    let more = c.leading_zeros-2.ensures ∙ ap (leading_zeros w) (g.met.T.FixedWidth.bits_of_natural_law c.args.n number (natural _ (g.met.T.Unsigned.unsigned_law c.args.n))) in
    let h = half_of_length w number _ _ c.requires.positive (g.met.T.FixedWidth.size_law _ c.requires.in_range) zeros more in
    omega (arith, h.0)

pub returns-clause-square : goal.returns-clause-square
returns-clause-square g c =
    let w = g.T.FixedWidth.width in
    let number = unsigned_abs (g.T.Number.value c.args.n) in
    let zeros = c.leading_zeros.ensures ∙ ap (leading_zeros w) (g.met.T.FixedWidth.bits_of_natural_law c.zero.result 0 (ap g.T.Number.value c.zero.ensures ∙ g.met.T.Zero.zero_law g.met.T.Integral.exact_law)) ∙ leading_of_zero (bits w) in
    let more = c.leading_zeros-2.ensures ∙ ap (leading_zeros w) (g.met.T.FixedWidth.bits_of_natural_law c.args.n number (natural _ (g.met.T.Unsigned.unsigned_law c.args.n))) in
    (half_of_length w number _ _ c.requires.positive (g.met.T.FixedWidth.size_law _ c.requires.in_range) zeros more).1

pub returns-clause-highest : goal.returns-clause-highest
returns-clause-highest g c =
    let w = g.T.FixedWidth.width in
    let number = unsigned_abs (g.T.Number.value c.args.n) in
    let zeros = c.leading_zeros.ensures ∙ ap (leading_zeros w) (g.met.T.FixedWidth.bits_of_natural_law c.zero.result 0 (ap g.T.Number.value c.zero.ensures ∙ g.met.T.Zero.zero_law g.met.T.Integral.exact_law)) ∙ leading_of_zero (bits w) in
    let more = c.leading_zeros-2.ensures ∙ ap (leading_zeros w) (g.met.T.FixedWidth.bits_of_natural_law c.args.n number (natural _ (g.met.T.Unsigned.unsigned_law c.args.n))) in
    (half_of_length w number _ _ c.requires.positive (g.met.T.FixedWidth.size_law _ c.requires.in_range) zeros more).2
