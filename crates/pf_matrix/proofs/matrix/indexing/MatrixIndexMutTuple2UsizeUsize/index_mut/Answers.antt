use Rattle.std.proofs.Common.{rules, ◌+◌, ◌*◌, arith, length-set, set}
use Rattle.std.proofs.lemmas.Nat.{mul-add-lt}
use Rattle.pf_matrix.specs.Tables.{Table}
use Rattle.pf_matrix.proofs.TableLemmas.{matrix_anew}
use Rattle.pf_matrix.proofs.matrix.indexing.MatrixIndexMutTuple2UsizeUsize.index_mut.Goals as goal

pub returns : goal.returns
returns g c = search rules

pub overflow_mul-place : goal.overflow_mul-place
overflow_mul-place g c =
    let s = c.self.inside in
    let here = rw (← c.self.view_is) at c.requires in
    omega (arith, mul-add-lt c.args.position.0 s.columns c.args.position.1 s.rows here.0 here.1, c.self.invariant.fits)

pub overflow_add-place : goal.overflow_add-place
overflow_add-place g c =
    let s = c.self.inside in
    let here = rw (← c.self.view_is) at c.requires in
    omega (arith, mul-add-lt c.args.position.0 s.columns c.args.position.1 s.rows here.0 here.1, c.self.invariant.fits)

pub index_mut-requires : goal.index_mut-requires
index_mut-requires g c =
    let s = c.self.inside in
    let here = rw (← c.self.view_is) at c.requires in
    omega (arith, mul-add-lt c.args.position.0 s.columns c.args.position.1 s.rows here.0 here.1, c.self.invariant.sized, s.values.ok.0)

pub invariant_of-self-lent : goal.invariant_of-self-lent
invariant_of-self-lent g c = λ w.
    let s = c.self.inside in
    let m : Table g.row.C.Denot = record { rows = s.rows; columns = s.columns; values = s.values.items } in
    let place = c.args.position.0 * s.columns + c.args.position.1 in
    matrix_anew m (set s.values.items place w) c.self.invariant (length-set s.values.items place w)
