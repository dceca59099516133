use Rattle.std.proofs.Common.{◌≡◌, ◌∙◌, ap, sym, subst, length}
use Rattle.std.specs.Prelude.{List}
use Rattle.pf_edge_lists.specs.EdgeLists.{names_of, places_of}
use Rattle.pf_estimated_graphs.specs.EstimatesInTables.{AreConsistent, estimate_at}
use Rattle.pf_name_numbers.specs.Numbered.{is_numbered}
use Rattle.pf_name_numbers.proofs.NamedNumbers.{stands_with}
use Rattle.pf_estimated_names.specs.EstimatesByName.{EstimatedNames, estimate_of}
use Rattle.pf_estimated_names.proofs.NameEstimateLemmas.{consistent_back, estimate_with}
use Rattle.pf_estimated_names.proofs.estimates.NameEstimates.guide.Goals as goal

pub from_consistent-requires : goal.from_consistent-requires
from_consistent-requires g c =
    let laws = g.met.N.Eq.laws in
    let inside = c.self.inside in
    let names : EstimatedNames g.row.N.Denot g.row.C.Denot = record { list = inside.list.now; to = inside.to.now; given = inside.given.now } in
    let eq = g.N.PartialEq.eq in
    let value = g.C.Number.value in
    let is = c.self.invariant in
    subst (λ (ns : List g.row.C.Denot). AreConsistent value (length (names_of eq inside.list.now)) (places_of eq inside.list.now) (is_numbered c.goal_of.result.number) ns) (sym c.deref.ensures.value)
    (consistent_back laws value names inside.numbers.items is.right (is_numbered c.goal_of.result.number)
    (λ k x s. c.goal_of.ensures k x (stands_with laws inside.list.now c.args.from.now k x (x, s, laws.refl x))) is.complete is.consistent)

pub returns-clause-estimates : goal.returns-clause-estimates
returns-clause-estimates g c = λ k x s.
    let laws = g.met.N.Eq.laws in
    let inside = c.self.inside in
    let names : EstimatedNames g.row.N.Denot g.row.C.Denot = record { list = inside.list.now; to = inside.to.now; given = inside.given.now } in
    let eq = g.N.PartialEq.eq in
    let value = g.C.Number.value in
    let is = c.self.invariant in
    let made : c.from_consistent.result.estimates ≡ inside.numbers.items = ap (λ r. r.estimates) c.from_consistent.ensures ∙ c.deref.ensures.value in
    ap (λ ns. estimate_at value ns k) made
    ∙ estimate_with laws value names inside.numbers.items is.right c.args.from.now is.complete k x (rw (← c.self.view_is) at s)
    ∙ ap (λ (ns : EstimatedNames g.row.N.Denot g.row.C.Denot). estimate_of eq value ns x) c.self.view_is
