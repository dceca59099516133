use Rattle.std.proofs.Common.{rules, arith, ◌≡◌, ℕ, List, [], Vec, subst, sym, true, nat_eq}
use Rattle.std.proofs.lemmas.Result.{IfOk-weaker}
use Rattle.pf_base.proofs.Callers.{nat_refl}
use Rattle.std.specs.declared.alloc.Global.{Global}
use Rattle.std.proofs.lemmas.Grind.{common_steps}
use Rattle.pf_base.proofs.Reach.{row_at, row_at-index}
use Rattle.pf_base.proofs.Tables.{rows_successors}
use Rattle.test_searches.proofs.preorder.comes_in_rows.Goals as goal

pub gives-requires : goal.gives-requires
gives-requires c =
    let items : Vec ℕ Global → List ℕ = λ row. row.items in
    let next = row_at items c.args.rows.now in
    IfOk-weaker c.dfs_reach-walk.result _ _ (λ w h. ((λ x y e. subst (λ z. nat_eq x z ≡ true) (sym e) (nat_refl x)), (next, c.args.from, [], h))) (c.dfs_reach-walk.ensures.graph next (rows_successors items c.args.rows.now _ (search rules) c.requires.in_range
    (λ x l. search rules) (λ x r t l k. (search rules, grind (arith, common_steps, row_at-index)))))
