use Rattle.pf_matrix.specs.Arrange.{itself}
use Rattle.pf_matrix.proofs.TableLaws.{arranged_as, joined_itself, same_table, twice_transposed}
use Rattle.pf_matrix.proofs.laws.two_transpositions.Goals as goal

pub returns : goal.returns
returns g c = record {
  in_place = λ m n o ok a b. same_table m o ok (twice_transposed itself joined_itself m n o a b);
  copies = λ m n o f ok a b.
      let like = g.C.Clone.is_clone in
      same_table m o ok (twice_transposed itself joined_itself m n o (arranged_as like itself f _ _ _ m n a) (arranged_as like itself f _ _ _ n o b));
}
