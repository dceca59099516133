use Rattle.std.proofs.Common.{rules, arith, ◌≡◌, ℕ, List, Vec, subst, sym, true, nat_eq}
use Rattle.pf_base.proofs.Callers.{nat_refl}
use Rattle.std.specs.declared.alloc.Global.{Global}
use Rattle.std.proofs.lemmas.Grind.{common_steps}
use Rattle.pf_base.proofs.Reach.{row_at, row_at-index}
use Rattle.pf_base.proofs.Tables.{rows_successors}
use Rattle.test_searches.proofs.walks.count_in_rows.Goals as goal

pub loop-node-init : goal.loop-node-init
loop-node-init c =
    let items : Vec ℕ Global → List ℕ = λ row. row.items in
    let walk = c.in_ok-walk.ensures.graph (row_at items c.args.rows.now) (rows_successors items c.args.rows.now _ (search rules) c.requires.in_range
    (λ x l. search rules) (λ x r t l k. (search rules, grind (arith, common_steps, row_at-index)))) in
    let same : c.into_iter-node-iterator.result.iter ≡ c.in_ok-walk.walk = search rules in
    (rw same ((λ x y e. subst (λ z. nat_eq x z ≡ true) (sym e) (nat_refl x)), (row_at items c.args.rows.now, c.args.from, walk)), search rules)
