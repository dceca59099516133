use Rattle.std.proofs.Common.{◌∷◌, []}
use Rattle.std.proofs.lemmas.Result.{IfOk-weaker}
use Rattle.pf_base.specs.Loops.{IsBestLoop}
use Rattle.pf_edge_lists.specs.EdgeLists.{targets_from}
use Rattle.pf_name_numbers.proofs.NamedNumbers.{name_at}
use Rattle.pf_name_numbers.proofs.AnswersByName.{answered}
use Rattle.pf_name_searches.proofs.PathByName.{loop_by_name, no_loop_by_name}
use Rattle.pf_name_searches.proofs.loops.bfs_loop.Goals as goal

pub returns-clause-best : goal.returns-clause-best
returns-clause-best g c =
    let laws = g.met.N.Eq.laws in
    let list = c.args.list.now in
    let from = c.args.from.now in
    let start = c.number_or_next-start.result in
    let begins = c.number_or_next-start.ensures in
    IfOk-weaker c.named_path.result _ _ (λ answer e. answered (name_at g.N.PartialEq.eq list from) answer c.in_ok-path.path e _ _ _ (IsBestLoop g.N.PartialEq.eq (targets_from g.N.PartialEq.eq list) (from ∷ []))
    (no_loop_by_name laws g.C.Number.value list from start begins) (λ w b. loop_by_name laws g.C.Number.value list from start begins w.items b) (rw c.in_ok-starts.ensures.one at c.in_ok-path.ensures.best)) c.named_path.ensures.names
