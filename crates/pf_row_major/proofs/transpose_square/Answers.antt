use Rattle.std.proofs.Common.{inl, arith}
use Rattle.pf_row_major.proofs.transpose_square.Goals as goal

pub returns : goal.returns
returns g c = record { values = λ r k d h b. c.exchange_band.ensures.exchanged r k d h b (inl (omega arith)) }
