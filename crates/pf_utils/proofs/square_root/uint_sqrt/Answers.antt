use Rattle.std.proofs.Common.{◌∙◌, sym, arith}
use Rattle.pf_utils.proofs.RootLemmas.{root_is, square_fits}
use Rattle.pf_utils.proofs.square_root.uint_sqrt.Goals as goal

pub mul-requires : goal.mul-requires
mul-requires g c = g.met.T.One.can_mul_law _ _ (λ exact.
    let low = g.met.T.Unsigned.unsigned_law in
    square_fits g.T.Number.fits (λ x y z. g.T.Number.between_law x y z exact) (g.met.T.FixedWidth.small_fits_law 0 (omega arith)) _ _ c.requires.in_range (low c.args.n) (low c.candidate-root.result) c.candidate-root.ensures.below)

pub returns-then-eq-clause-found : goal.returns-then-eq-clause-found
returns-then-eq-clause-found g c =
    let exact = g.met.T.Integral.exact_law in
    let low = g.met.T.Unsigned.unsigned_law in
    let fits = square_fits g.T.Number.fits (λ x y z. g.T.Number.between_law x y z exact) (g.met.T.FixedWidth.small_fits_law 0 (omega arith)) _ _ c.requires.in_range (low c.args.n) (low c.candidate-root.result) c.candidate-root.ensures.below in
    let product = g.met.T.One.mul_law _ _ _ c.mul.ensures exact fits in
    sym product ∙ (g.met.T.Number.eq_law c.mul.result c.args.n exact).0 (sym c.eq.ensures ∙ c.if-eq.true)

pub returns-else-eq : goal.returns-else-eq
returns-else-eq g c = record {
  none =
      let exact = g.met.T.Integral.exact_law in
      let low = g.met.T.Unsigned.unsigned_law in
      let fits = square_fits g.T.Number.fits (λ x y z. g.T.Number.between_law x y z exact) (g.met.T.FixedWidth.small_fits_law 0 (omega arith)) _ _ c.requires.in_range (low c.args.n) (low c.candidate-root.result) c.candidate-root.ensures.below in
      let product = g.met.T.One.mul_law _ _ _ c.mul.ensures exact fits in
      λ root e.
      let square = root_is root _ _ (low c.candidate-root.result) (low c.args.n) c.candidate-root.ensures.only e in
      let same = (g.met.T.Number.eq_law c.mul.result c.args.n exact).1 (product ∙ square) in cc (same, c.eq.ensures, c.if-eq.false);
  found = tt;
}
