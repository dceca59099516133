use Rattle.std.proofs.Common.{◌∙◌, ℕ, ◌++◌, ◌∷◌, [], ap, sym, arith, get_or}
use Rattle.std.proofs.lemmas.List.{map_more, take_all}
use Rattle.std.proofs.lemmas.Result.{IfOk-from_err}
use Rattle.pf_base.proofs.Outcomes.{refused_by}
use Rattle.pf_table_searches.specs.Internal.Trails.{nodes_along}
use Rattle.pf_table_searches.proofs.deepening.nodes_of.Goals as goal

pub entries-init : goal.entries-init
entries-init g c = c.new-nodes.ensures.items

pub bounds-entries-entry-index : goal.bounds-entries-entry-index
bounds-entries-entry-index g c = c.entries-test.true

pub returns-in_err-push-clause-nodes : goal.returns-in_err-push-clause-nodes
returns-in_err-push-clause-nodes g c = IfOk-from_err _ _ c.from_residual.ensures.0

pub returns-in_err-push-clause-refused : goal.returns-in_err-push-clause-refused
returns-in_err-push-clause-refused g c = refused_by _ c.from_residual.result c.from_residual.ensures.1

pub entries-smaller : goal.entries-smaller
entries-smaller g c = omega (arith, c.entries-test.true)

pub entries-preserved : goal.entries-preserved
entries-preserved g c =
    let node = λ (e : ℕ × ℕ). e.0 in
    let i = c.entries.entry-index in
    let all = c.args.entries.now in
    c.in_ok-push.ensures.items ∙ ap (λ ns. ns ++ (get_or all i (0, 0)).0 ∷ []) c.entries.invariant ∙ sym (map_more node all i (0, 0) c.entries-test.true)

pub returns-clause-nodes : goal.returns-clause-nodes
returns-clause-nodes g c = c.entries.invariant ∙ ap nodes_along (take_all c.entries.entry-index c.args.entries.now c.entries-test.false)
