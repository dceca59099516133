use Rattle.std.proofs.Common.{◌≡◌, ◌+◌, ◌*◌, sym, subst, arith, None}
use Rattle.std.specs.Prelude.{IsSome}
use Rattle.std.proofs.lemmas.Nat.{mul-add-lt}
use Rattle.std.proofs.lemmas.Bool.{false≢true}
use Rattle.pf_matrix.proofs.TakeLemmas.{next_waits, take_none, take_one}
use Rattle.pf_matrix.proofs.matrix.transposition.take_by_columns.Goals as goal

pub loop-row-preserved : goal.loop-row-preserved
loop-row-preserved g c =
    let rows = c.args.rows in
    let columns = c.args.columns in
    let row = c.loop-row.row in
    let column = c.loop-column.column in
    let at : column * rows + (row + 1) ≡ column * rows + row + 1 = omega arith in
    let below = mul-add-lt row columns column rows (omega arith) (omega arith) in
    record {
      room = omega (arith, c.loop-row.invariant.room, c.push_reserved.ensures.capacity);
      taking = rw (c.push_reserved.ensures.items, c.take_at.ensures.rest, at)
          (take_one rows columns c.args.waiting.now c.loop-row.waiting c.loop-row.ordered.items row column (omega arith) (omega arith) c.in-Some.value
          (sym c.in-Some.ensures.value) (omega (arith, c.requires.size, below)) c.loop-row.invariant.taking);
    }

pub loop-column-preserved : goal.loop-column-preserved
loop-column-preserved g c =
    let end : c.loop-row.row ≡ c.args.rows = omega arith in
    let at : c.loop-column.column * c.args.rows + c.loop-row.row ≡ (c.loop-column.column + 1) * c.args.rows = omega (arith, end) in
    record { room = c.loop-row.invariant.room; taking = rw at at c.loop-row.invariant.taking }

pub overflow_mul-row : goal.overflow_mul-row
overflow_mul-row g c =
    let below = mul-add-lt c.loop-row.row c.args.columns c.loop-column.column c.args.rows (omega arith) (omega arith) in
    omega (arith, below, c.requires.size)

pub overflow_add-row : goal.overflow_add-row
overflow_add-row g c =
    let below = mul-add-lt c.loop-row.row c.args.columns c.loop-column.column c.args.rows (omega arith) (omega arith) in
    omega (arith, below, c.requires.size)

pub take_at-requires : goal.take_at-requires
take_at-requires g c =
    let below = mul-add-lt c.loop-row.row c.args.columns c.loop-column.column c.args.rows (omega arith) (omega arith) in
    omega (arith, below, c.requires.size)

pub loop-column-init : goal.loop-column-init
loop-column-init g c = record { room = c.requires.room; taking = take_none c.args.rows c.args.columns c.args.waiting.now c.args.ordered.items c.requires.empty }

pub loop-row-init : goal.loop-row-init
loop-row-init g c =
    let begin : c.loop-column.column * c.args.rows + 0 ≡ c.loop-column.column * c.args.rows = omega arith in
    record { room = c.loop-column.invariant.room; taking = rw begin c.loop-column.invariant.taking }

pub unreachable-requires : goal.unreachable-requires
unreachable-requires g c =
    let below = mul-add-lt c.loop-row.row c.args.columns c.loop-column.column c.args.rows (omega arith) (omega arith) in
    let waits = next_waits c.args.rows c.args.columns c.args.waiting.now c.loop-row.waiting c.loop-row.ordered.items c.loop-row.row c.loop-column.column (omega arith) (omega arith) (omega (arith, below, c.requires.size)) c.requires.all c.loop-row.invariant.taking in
    false≢true (subst IsSome (sym c.in_default.ensures.value) waits)

pub push_reserved-requires : goal.push_reserved-requires
push_reserved-requires g c =
    let below = mul-add-lt c.loop-column.column c.args.rows c.loop-row.row c.args.columns (omega arith) (omega arith) in
    omega (arith, below, c.loop-row.ordered.ok.0, c.loop-row.invariant.taking.done.size, c.loop-row.invariant.room)

pub returns : goal.returns
returns g c = record {
  values = λ r k d p q.
      let end : c.loop-column.column ≡ c.args.columns = omega arith in
      c.loop-column.invariant.taking.done.values r k None d q (rw end (omega (arith, mul-add-lt r c.args.rows k c.args.columns p q)));
  len =
      let end : c.loop-column.column ≡ c.args.columns = omega arith in
      omega (arith, c.loop-column.ordered.ok.0, rw end at c.loop-column.invariant.taking.done.size);
}
