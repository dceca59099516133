use Rattle.std.specs.Slice.Iter.{iter_mut_rest}
use Rattle.pf_matrix.proofs.Ends.{zip_none}
use Rattle.pf_matrix.proofs.matrix.items_mut.ItemsMutIterator.next.Goals as goal

pub returns-in_err-value-clause-steps : goal.returns-in_err-value-clause-steps
returns-in_err-value-clause-steps g c =
    let none = c.in_err-value.ensures.steps in
    rw c.from_residual-in_err-value.ensures
    (zip_none c.args.self.now.keys (iter_mut_rest c.args.self.now.values) none.0, zip_none c.next.new.self (iter_mut_rest c.next-2.new.self) none.1)
