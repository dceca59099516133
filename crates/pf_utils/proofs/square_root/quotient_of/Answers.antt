use Rattle.std.proofs.Common.{ap, sym, subst, ◌∙◌}
use Rattle.std.specs.Prelude.{unsigned_abs}
use Rattle.pf_utils.proofs.RootLemmas.{above_zero, quotient_is}
use Rattle.pf_utils.proofs.square_root.quotient_of.Goals as goal

pub div-requires : goal.div-requires
div-requires g c =
    let low = g.met.T.Unsigned.unsigned_law in
    g.met.T.Num.can_div_law _ _ (λ e. g.met.T.Num.positive_divisor_law _ _ e c.requires.n_in_range c.requires.in_range (above_zero _ (low c.args.divisor) c.requires.positive))

pub returns : goal.returns
returns g c = record {
  in_range =
      let exact = g.met.T.Integral.exact_law in
      let low = g.met.T.Unsigned.unsigned_law in
      let can = g.met.T.Num.positive_divisor_law _ _ exact c.requires.n_in_range c.requires.in_range (above_zero _ (low c.args.divisor) c.requires.positive) in
      subst g.T.Number.fits (sym (g.met.T.Num.div_law _ _ _ c.div.ensures exact)) can.1;
  quotient =
      let low = g.met.T.Unsigned.unsigned_law in
      ap unsigned_abs (g.met.T.Num.div_law _ _ _ c.div.ensures g.met.T.Integral.exact_law ∙ quotient_is _ _ (low c.args.n) (low c.args.divisor));
}
