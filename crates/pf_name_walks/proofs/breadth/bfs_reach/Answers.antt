use Rattle.std.proofs.Common.{refl}
use Rattle.pf_name_walks.proofs.BreadthNames.{begun_given, begun_over, begun_refused, begun_waiting, over_by_name}
use Rattle.pf_name_walks.proofs.Progress.{ok_is}
use Rattle.pf_name_walks.proofs.breadth.bfs_reach.Goals as goal

pub invariant_of-result : goal.invariant_of-result
invariant_of-result g c = begun_over g.met.N.Eq.laws g.C.Number.value c.args.list.now c.args.from.now c.in_ok-walk.walk c.number_or_next-start.result c.number_or_next-start.ensures (ok_is _ _ c.in_ok-walk.ensures.begins) c.in_ok-walk.ensures.graph

pub returns-clause-begins : goal.returns-clause-begins
returns-clause-begins g c =
    let laws = g.met.N.Eq.laws in
    let value = g.C.Number.value in
    let list = c.args.list.now in
    let from = c.args.from.now in
    let s = c.in_ok-walk.walk in
    let e = ok_is _ _ c.in_ok-walk.ensures.begins in
    let start = c.number_or_next-start.result in
    let stands = c.number_or_next-start.ensures in
    (refl, refl, begun_given laws value list from s start stands e, begun_waiting laws value list from s start stands e, begun_refused laws value list from s start stands e)

pub returns-clause-graph : goal.returns-clause-graph
returns-clause-graph g c = over_by_name g.met.N.Eq.laws g.C.Number.value c.args.list.now c.args.from.now c.in_ok-walk.walk (invariant_of-result g c)
