use Rattle.std.proofs.Common.{◌+◌, ◌*◌, ap, sym, subst, ◌∙◌, arith, length, get_or, vec_len, Some, None}
use Rattle.std.specs.Prelude.{IsSome}
use Rattle.std.proofs.lemmas.Nat.{mul-add-lt}
use Rattle.pf_matrix.proofs.matrix.transposition.move_by_columns.Goals as goal

pub take_by_columns-requires-clause-all : goal.take_by_columns-requires-clause-all
take_by_columns-requires-clause-all g c = λ k h.
    subst (λ ws. IsSome (get_or ws k None)) (sym c.as_mut_slice.ensures.value)
    (c.all_waiting-waiting.ensures.some k (omega (arith, ap length c.as_mut_slice.ensures.value, c.all_waiting-waiting.result.ok.0, c.all_waiting-waiting.ensures.len)))

pub returns-clause-moved : goal.returns-clause-moved
returns-clause-moved g c = λ r k d p q.
    let at = k * c.args.columns + r in
    let below = mul-add-lt k c.args.columns r c.args.rows q p in
    let all = c.replace-all.ensures.value in
    let same = c.take_by_columns.ensures.values r k d p q ∙ ap (λ ws. get_or ws at None) c.as_mut_slice.ensures.value
    ∙ c.all_waiting-waiting.ensures.all at d (omega (arith, below, c.requires, ap (λ v. vec_len v) all)) ∙ ap (λ v. Some (get_or v.items at d)) all in
    cc same

pub all_waiting-waiting-requires-clause-room : goal.all_waiting-waiting-requires-clause-room
all_waiting-waiting-requires-clause-room g c = omega (arith, ap (λ v. vec_len v) c.replace-all.ensures.value, c.in_ok-waiting.ensures.capacity, c.len.ensures)

pub take_by_columns-requires-clause-size : goal.take_by_columns-requires-clause-size
take_by_columns-requires-clause-size g c =
    omega (arith, ap length c.as_mut_slice.ensures.value, c.all_waiting-waiting.result.ok.0, c.all_waiting-waiting.ensures.len, ap (λ v. vec_len v) c.replace-all.ensures.value, c.requires)

pub take_by_columns-requires-clause-room : goal.take_by_columns-requires-clause-room
take_by_columns-requires-clause-room g c = omega (arith, c.in_ok-ordered.ensures.capacity, c.len-2.ensures, c.requires)

pub returns-clause-len : goal.returns-clause-len
returns-clause-len g c = c.take_by_columns.ensures.len ∙ sym c.requires
