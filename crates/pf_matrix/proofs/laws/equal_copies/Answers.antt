use Rattle.pf_matrix.proofs.TableLaws.{arranged_as, rotated_as, rotated_back_as, equals, joined_equals, equal_table, twice_lr, twice_ud, twice_transposed, four_right, four_left, turns_back, turns_forth}
use Rattle.pf_matrix.proofs.laws.equal_copies.Goals as goal

pub returns : goal.returns
returns g c = record {
  flips_lr = λ m n o lawful ok a b.
      let eq = g.C.PartialEq.eq in
      let like = g.C.Clone.is_clone in
      equal_table eq m o ok (twice_lr (equals eq) (joined_equals eq g.met.C.Eq.laws) m n o (arranged_as like (equals eq) lawful _ _ _ m n a) (arranged_as like (equals eq) lawful _ _ _ n o b));
  flips_ud = λ m n o lawful ok a b.
      let eq = g.C.PartialEq.eq in
      let like = g.C.Clone.is_clone in
      equal_table eq m o ok (twice_ud (equals eq) (joined_equals eq g.met.C.Eq.laws) m n o (arranged_as like (equals eq) lawful _ _ _ m n a) (arranged_as like (equals eq) lawful _ _ _ n o b));
  transpositions = λ m n o lawful ok a b.
      let eq = g.C.PartialEq.eq in
      let like = g.C.Clone.is_clone in
      equal_table eq m o ok (twice_transposed (equals eq) (joined_equals eq g.met.C.Eq.laws) m n o (arranged_as like (equals eq) lawful _ _ _ m n a) (arranged_as like (equals eq) lawful _ _ _ n o b));
  quarter_turns = λ m lawful ok n o p q a b d e.
      let eq = g.C.PartialEq.eq in
      let like = g.C.Clone.is_clone in
      equal_table eq m q ok
      (four_right (equals eq) (joined_equals eq g.met.C.Eq.laws) m n o p q (arranged_as like (equals eq) lawful _ _ _ m n a) (arranged_as like (equals eq) lawful _ _ _ n o b) (arranged_as like (equals eq) lawful _ _ _ o p d) (arranged_as like (equals eq) lawful _ _ _ p q e));
  quarter_turns_back = λ m lawful ok n o p q a b d e.
      let eq = g.C.PartialEq.eq in
      let like = g.C.Clone.is_clone in
      equal_table eq m q ok
      (four_left (equals eq) (joined_equals eq g.met.C.Eq.laws) m n o p q (arranged_as like (equals eq) lawful _ _ _ m n a) (arranged_as like (equals eq) lawful _ _ _ n o b) (arranged_as like (equals eq) lawful _ _ _ o p d) (arranged_as like (equals eq) lawful _ _ _ p q e));
  undone = λ m n o times lawful ok a b.
      let eq = g.C.PartialEq.eq in
      let like = g.C.Clone.is_clone in
      equal_table eq m o ok (turns_back (equals eq) (joined_equals eq g.met.C.Eq.laws) m n o times (rotated_as like (equals eq) lawful m n times a) (rotated_back_as like (equals eq) lawful n o times b));
  undone_back = λ m n o times lawful ok a b.
      let eq = g.C.PartialEq.eq in
      let like = g.C.Clone.is_clone in
      equal_table eq m o ok (turns_forth (equals eq) (joined_equals eq g.met.C.Eq.laws) m n o times (rotated_back_as like (equals eq) lawful m n times a) (rotated_as like (equals eq) lawful n o times b));
}
