use Rattle.std.proofs.Common.{◌∙◌, ap, sym, nat_eq}
use Rattle.std.specs.Int.{bit_at}
use Rattle.pf_grid.specs.Internal.Words.{turned}
use Rattle.pf_grid.proofs.WordLemmas.{not_bit}
use Rattle.pf_grid.proofs.words.turned_if.Goals as goal

pub returns-then-inverted : goal.returns-then-inverted
returns-then-inverted c = λ i p. not_bit c.args.word i c.ranges.word.fits p ∙ ap (λ t. turned t (nat_eq (bit_at c.args.word i) 1)) (sym c.if-inverted.true)
