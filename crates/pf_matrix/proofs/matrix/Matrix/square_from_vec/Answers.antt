use Rattle.std.proofs.Common.{sym, ap, ◌∙◌, refl}
use Rattle.std.specs.Prelude.{pos}
use Rattle.pf_matrix.proofs.matrix.Matrix.square_from_vec.Goals as goal

pub returns-in_default : goal.returns-in_default
returns-in_default g c = record {
  wrong_length = λ size e. c.in_default.ensures.none (pos size) (ap pos (e ∙ sym c.len.ensures));
  square = tt;
  values = tt;
  matrix = tt;
  refused = refl;
}

pub returns-clause-square : goal.returns-clause-square
returns-clause-square g c = refl

pub returns-clause-values : goal.returns-clause-values
returns-clause-values g c = refl

pub returns-clause-wrong_length : goal.returns-clause-wrong_length
returns-clause-wrong_length g c = tt

pub returns-clause-refused : goal.returns-clause-refused
returns-clause-refused g c = tt
