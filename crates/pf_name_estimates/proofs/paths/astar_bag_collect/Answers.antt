use Rattle.std.proofs.Common.{◌≡◌, ◌∙◌, Err, ap, sym, subst, [], ◌∷◌, map}
use Rattle.pf_base.proofs.Outcomes.{error_of}
use Rattle.pf_edge_lists.specs.EdgeLists.{edges_from}
use Rattle.pf_informed.specs.CheapestPaths.{AreCheapestCleanPaths}
use Rattle.pf_name_numbers.specs.Numbered.{lists_in, named_lists_in}
use Rattle.pf_name_numbers.proofs.NamedNumbers.{name_at}
use Rattle.pf_name_estimates.proofs.SearchNames.{all_in, no_walk_in, overflow_in}
use Rattle.pf_name_estimates.proofs.paths.astar_bag_collect.Goals as goal

pub returns-in_err-found-clause-overflow : goal.returns-in_err-found-clause-overflow
returns-in_err-found-clause-overflow g c = λ e.
    let f = error_of c.from_residual.result _ _ c.from_residual.ensures.1 e in
    overflow_in g.met.N.Eq.laws g.C.Number.value c.args.estimates.now.list c.guide.result.table c.list-list.result.now c.guide.ensures.list c.list-list.ensures c.args.from.now c.number_or_next-start.result c.number_or_next-start.ensures
    _ _ c.guide.ensures.goal _ _ c.guide.ensures.estimates g.C.Number.fits (c.in_err-found.ensures.overflow (ap Err f))

pub returns-in_default-clause-all : goal.returns-in_default-clause-all
returns-in_default-clause-all g c =
    no_walk_in g.met.N.Eq.laws g.C.Number.value c.args.estimates.now.list c.guide.result.table c.list-list.result.now c.guide.ensures.list c.list-list.ensures c.args.from.now c.number_or_next-start.result c.number_or_next-start.ensures
    _ _ c.guide.ensures.goal (rw c.in_default.is at c.in_ok-found.ensures.all)

pub returns-clause-all : goal.returns-clause-all
returns-clause-all g c =
    let eq = g.N.PartialEq.eq in
    let value = g.C.Number.value in
    let estimates = c.args.estimates.now in
    let from = c.args.from.now in
    let name = name_at eq c.list-list.result.now from in
    let all = rw c.in-Some.is at c.in_ok-found.ensures.all in
    let named : named_lists_in c.in_ok-named.named.items ≡ map (map name) (lists_in c.in-Some.paths.items) = c.in_ok-named.ensures.names ∙ ap (λ ps. map (map name) (lists_in ps)) c.deref.ensures.value in
    subst (λ ps. AreCheapestCleanPaths eq (edges_from eq value estimates.list) (from ∷ []) (λ x. eq x estimates.to) ps (value c.in-Some.cost)) (sym named)
    (all_in g.met.N.Eq.laws value estimates.list c.guide.result.table c.list-list.result.now c.guide.ensures.list c.list-list.ensures from c.number_or_next-start.result c.number_or_next-start.ensures _ _ c.guide.ensures.goal (lists_in c.in-Some.paths.items) (value c.in-Some.cost) all)
