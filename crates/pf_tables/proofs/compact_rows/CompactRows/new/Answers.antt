use Rattle.std.proofs.Common.{inl, inr}
use Rattle.std.proofs.lemmas.Result.{IfOk-from_err}
use Rattle.pf_tables.proofs.OffsetLemmas.{compact}
use Rattle.pf_base.proofs.Outcomes.{refused_as}
use Rattle.pf_tables.proofs.compact_rows.CompactRows.new.Goals as goal

pub returns-in_err-check_offsets : goal.returns-in_err-check_offsets
returns-in_err-check_offsets g c =
    let r = c.from_residual in
    record {
      graph = IfOk-from_err _ _ r.ensures.0;
      sound = IfOk-from_err _ _ r.ensures.0;
      fault = refused_as _ r.result _ r.ensures.1 (inl (rw c.len.ensures at c.in_err-check_offsets.ensures));
    }

pub check_rows-requires : goal.check_rows-requires
check_rows-requires g c = rw c.len.ensures at c.in_ok-check_offsets.ensures

pub returns-in_err-check_rows : goal.returns-in_err-check_rows
returns-in_err-check_rows g c =
    let r = c.from_residual-in_err-check_rows in
    record {
      graph = IfOk-from_err _ _ r.ensures.0;
      sound = IfOk-from_err _ _ r.ensures.0;
      fault = refused_as _ r.result _ r.ensures.1 (inr (rw c.len.ensures at c.in_ok-check_offsets.ensures, c.in_err-check_rows.ensures));
    }

pub invariant_of-result : goal.invariant_of-result
invariant_of-result g c = compact _ c.args.offsets.now (g.R.Row.edges c.args.edges) (rw c.len.ensures at c.in_ok-check_offsets.ensures) c.in_ok-check_rows.ensures

pub returns-clause-sound : goal.returns-clause-sound
returns-clause-sound g c = compact _ c.args.offsets.now (g.R.Row.edges c.args.edges) (rw c.len.ensures at c.in_ok-check_offsets.ensures) c.in_ok-check_rows.ensures
