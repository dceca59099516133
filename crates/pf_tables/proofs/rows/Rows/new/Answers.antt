use Rattle.std.proofs.Common.{arith, refl}
use Rattle.std.proofs.lemmas.Result.{err_from_is_err_and}
use Rattle.pf_tables.specs.Graphs.{row_of}
use Rattle.pf_tables.proofs.Faulty.{graph_of_sound}
use Rattle.pf_tables.proofs.RowLemmas.{row_more, row_fault}
use Rattle.pf_tables.proofs.rows.Rows.new.Goals as goal

pub loop-node-preserved : goal.loop-node-preserved
loop-node-preserved g c = row_more g.R.Row.edges c.args.rows.now c.loop-node.node c.index-rows-node.result (omega arith) c.index-rows-node.is _ _ c.len.result c.len.ensures c.in_ok-check_part.ensures c.loop-node.invariant

pub returns-in_err-check_part : goal.returns-in_err-check_part
returns-in_err-check_part g c =
    let p = err_from_is_err_and c.from_residual.result c.from_residual.ensures.1 in
    rw (p.1, p.2) (record {
      graph = tt;
      sound = tt;
      fault = row_fault g.R.Row.edges c.args.rows.now c.loop-node.node c.index-rows-node.result (omega arith) c.index-rows-node.is _ _ c.len.result c.len.ensures _ (omega arith) c.in_err-check_part.ensures c.loop-node.invariant;
    })

pub invariant_of-result : goal.invariant_of-result
invariant_of-result g c = graph_of_sound (row_of g.R.Row.edges c.args.rows.now) (λ n l. c.loop-node.invariant n (omega (arith, l)))

pub bounds-rows-node : goal.bounds-rows-node
bounds-rows-node g c = c.loop-node-test.true

pub check_part-requires-clause-rising : goal.check_part-requires-clause-rising
check_part-requires-clause-rising g c = omega arith

pub check_part-requires-clause-within : goal.check_part-requires-clause-within
check_part-requires-clause-within g c = omega (arith, c.len.ensures)

pub loop-node-init : goal.loop-node-init
loop-node-init g c = λ n l. absurd (omega (arith, l))

pub loop-node-smaller : goal.loop-node-smaller
loop-node-smaller g c = omega (arith, c.loop-node-test.true)

pub returns : goal.returns
returns g c = record {
  sound = graph_of_sound (row_of g.R.Row.edges c.args.rows.now) (λ n l. c.loop-node.invariant n (omega (arith, l)));
  graph = refl;
  fault = tt;
}
