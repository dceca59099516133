use Rattle.std.proofs.Common.{◌∙◌, ap, sym, subst, arith}
use Rattle.std.specs.Prelude.{unsigned_abs}
use Rattle.pf_utils.proofs.RootLemmas.{difference_fits, fits_below, middle_is, one_below}
use Rattle.pf_utils.proofs.square_root.middle.Goals as goal

pub sub-requires : goal.sub-requires
sub-requires g c =
    let low = g.met.T.Unsigned.unsigned_law in
    g.met.T.Num.can_sub_law _ _ (λ e. g.met.T.Num.sub_fits_law _ _ e c.requires.in_range (low c.args.low) (difference_fits _ _ (low c.args.low) (low c.args.high) c.requires.order))

pub shr-requires : goal.shr-requires
shr-requires g c = g.met.T.PrimInt.can_shr_law _ 1 (one_below g.T.FixedWidth.width)

pub add-requires : goal.add-requires
add-requires g c = g.met.T.Zero.can_add_law _ _ (λ exact.
    let low = g.met.T.Unsigned.unsigned_law in
    let less = difference_fits _ _ (low c.args.low) (low c.args.high) c.requires.order in
    let difference = g.met.T.Num.sub_law _ _ _ c.sub.ensures exact (g.met.T.Num.sub_fits_law _ _ exact c.requires.in_range (low c.args.low) less) in
    let sum = middle_is _ _ _ _ (low c.args.low) (low c.args.high) c.requires.order difference (g.met.T.PrimInt.shr_law _ _ _ c.shr.ensures) in
    let o = c.requires.order in
    subst g.T.Number.fits (sym sum) (fits_below g.T.Number.fits (λ x y z. g.T.Number.between_law x y z exact) (g.met.T.FixedWidth.small_fits_law 0 (omega arith)) _ c.requires.in_range (low c.args.high) _ (omega arith)))

pub returns : goal.returns
returns g c =
    let exact = g.met.T.Integral.exact_law in
    let low = g.met.T.Unsigned.unsigned_law in
    let less = difference_fits _ _ (low c.args.low) (low c.args.high) c.requires.order in
    let difference = g.met.T.Num.sub_law _ _ _ c.sub.ensures exact (g.met.T.Num.sub_fits_law _ _ exact c.requires.in_range (low c.args.low) less) in
    let sum = middle_is _ _ _ _ (low c.args.low) (low c.args.high) c.requires.order difference (g.met.T.PrimInt.shr_law _ _ _ c.shr.ensures) in
    let o = c.requires.order in
    let fits = subst g.T.Number.fits (sym sum) (fits_below g.T.Number.fits (λ x y z. g.T.Number.between_law x y z exact) (g.met.T.FixedWidth.small_fits_law 0 (omega arith)) _ c.requires.in_range (low c.args.high) _ (omega arith)) in
    record {
      middle = ap unsigned_abs (g.met.T.Zero.add_law _ _ _ c.add.ensures exact fits ∙ sum);
      in_range = subst g.T.Number.fits (sym (g.met.T.Zero.add_law _ _ _ c.add.ensures exact fits)) fits;
    }
