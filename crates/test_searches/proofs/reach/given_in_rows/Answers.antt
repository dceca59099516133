use Rattle.std.proofs.Common.{rules, arith, ◌≡◌, ◌∷◌, [], ℕ, List, Vec, pos, subst, sym, true, nat_eq}
use Rattle.std.specs.declared.alloc.Global.{Global}
use Rattle.std.proofs.lemmas.Grind.{common_steps}
use Rattle.std.proofs.lemmas.Result.{IfOk-weaker}
use Rattle.pf_base.proofs.Callers.{nat_refl}
use Rattle.pf_base.proofs.Reach.{row_at, row_at-index, unsigned_cost}
use Rattle.pf_base.proofs.Tables.{rows_graph}
use Rattle.test_searches.specs.Rows.{edges_of}
use Rattle.test_searches.proofs.reach.given_in_rows.Goals as goal

pub gathered-requires : goal.gathered-requires
gathered-requires c =
    let items : Vec (ℕ × ℕ) Global → List (ℕ × ℕ) = λ row. row.items in
    let rows = c.args.rows.now in
    let costs = unsigned_cost nat_eq (row_at items rows) (c.args.from ∷ []) in
    IfOk-weaker c.dijkstra_reach-walk.result _ _ (λ w h. ((λ x y e. subst (λ z. nat_eq x z ≡ true) (sym e) (nat_refl x)), (edges_of rows, c.args.from, h (edges_of rows) (rows_graph (λ z. pos z) items rows c.args.from c.requires.inside c.requires.in_range (λ x l. search rules) (λ x r t l k. (search rules, grind (arith, common_steps, row_at-index)))) costs))) c.dijkstra_reach-walk.ensures.graph
