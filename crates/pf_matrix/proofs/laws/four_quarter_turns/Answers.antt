use Rattle.pf_matrix.specs.Arrange.{itself}
use Rattle.pf_matrix.proofs.TableLaws.{arranged_as, joined_itself, same_table, four_right, four_left}
use Rattle.pf_matrix.proofs.laws.four_quarter_turns.Goals as goal

pub returns : goal.returns
returns g c = record {
  in_place = λ m ok n o p q a b d e. same_table m q ok (four_right itself joined_itself m n o p q a b d e);
  copies = λ m f ok n o p q a b d e.
      let like = g.C.Clone.is_clone in
      same_table m q ok (four_right itself joined_itself m n o p q (arranged_as like itself f _ _ _ m n a) (arranged_as like itself f _ _ _ n o b) (arranged_as like itself f _ _ _ o p d) (arranged_as like itself f _ _ _ p q e));
  in_place_back = λ m ok n o p q a b d e. same_table m q ok (four_left itself joined_itself m n o p q a b d e);
  copies_back = λ m f ok n o p q a b d e.
      let like = g.C.Clone.is_clone in
      same_table m q ok (four_left itself joined_itself m n o p q (arranged_as like itself f _ _ _ m n a) (arranged_as like itself f _ _ _ n o b) (arranged_as like itself f _ _ _ o p d) (arranged_as like itself f _ _ _ p q e));
}
