use Rattle.pf_matrix.specs.Arrange.{itself}
use Rattle.pf_matrix.proofs.TableLaws.{joined_itself, same_table, turns_back, turns_forth, rotated_as, rotated_back_as}
use Rattle.pf_matrix.proofs.laws.turns_undone.Goals as goal

pub returns : goal.returns
returns g c = record {
  in_place = λ m n o times ok a b. same_table m o ok (turns_back itself joined_itself m n o times a b);
  in_place_back = λ m n o times ok a b. same_table m o ok (turns_forth itself joined_itself m n o times a b);
  copies = λ m n o times f ok a b.
      let like = g.C.Clone.is_clone in
      same_table m o ok (turns_back itself joined_itself m n o times (rotated_as like itself f m n times a) (rotated_back_as like itself f n o times b));
  copies_back = λ m n o times f ok a b.
      let like = g.C.Clone.is_clone in
      same_table m o ok (turns_forth itself joined_itself m n o times (rotated_back_as like itself f m n times a) (rotated_as like itself f n o times b));
}
