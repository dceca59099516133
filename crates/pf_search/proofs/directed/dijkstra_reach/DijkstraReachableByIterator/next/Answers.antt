use Rattle.std.proofs.Common.{arith, sym, ap, length, ◌∙◌}
use Rattle.pf_search.specs.CheapestFirst.{CheapestWalk}
use Rattle.pf_search.proofs.CheapestLemmas.{step_of, bars_of, seen}
use Rattle.pf_search.proofs.GivenLemmas.{given_below}
use Rattle.pf_search.proofs.ItemLemmas.{of_node, progress, cheapest_counts}
use Rattle.pf_search.proofs.directed.dijkstra_reach.DijkstraReachableByIterator.next.Goals as goal

pub returns-clause-steps : goal.returns-clause-steps
returns-clause-steps g c = λ edges start w.
    let i = c.self-2.inside in
    let e = rw (← c.self-2.view_is) at (c.step-step.ensures.steps edges start w) in
    let same = rw (← c.self-2.view_is) at c.step-step.ensures.same in
    let h = sym (ap (λ (v : CheapestWalk g.row.N.Denot g.row.C.Denot g.row.F.Denot). v.refused) c.self.view_is) ∙ c.if-self.false in
    let t = seen (g.M.Numbering.keys i.discovery.nodes) i.search.labels.items i.search.queue.front i.refused i.discovery.source.function in
    let step = step_of g.N.PartialEq.eq g.met.N.Eq.laws g.C.Number.value _ edges start g.C.Number.fits c.args.self.now t c.step-step.result h same e in
    rw (c.transpose.ensures, c.is_err-self-inside.ensures.value)
    (step.0, step.1, bars_of g.N.PartialEq.eq g.C.Number.value edges start g.C.Number.fits c.args.self.now t c.step-step.result (rw (← c.self-2.view_is) at (c.step-step.ensures.bars edges start w)))

pub returns-clause-again : goal.returns-clause-again
returns-clause-again g c =
    let r = c.requires in
    (r.0, (r.1.0, r.1.1, (returns-clause-steps g c r.1.0 r.1.1 r.1.2).0))

pub returns-then-self-clause-goes : goal.returns-then-self-clause-goes
returns-then-self-clause-goes g c = record { on = λ f. tt; keeps = tt; rests = λ f. f }

pub returns-clause-goes : goal.returns-clause-goes
returns-clause-goes g c =
    let r = c.requires in
    let i = c.self-2.inside in
    let labels = i.search.labels in
    let one = rw (← c.self-2.view_is) at c.step-step.ensures.counts in
    let counts = cheapest_counts g.N.PartialEq.eq g.C.Number.value r.1.0 r.1.1 g.C.Number.fits c.args.self.now c.transpose.result _ (returns-clause-steps g c r.1.0 r.1.1 r.1.2).1 (rw c.transpose.ensures (of_node _ c.step-step.result one)) (omega (arith, given_below (g.M.Numbering.keys i.discovery.nodes) labels.items, labels.ok, labels.small)) in
    progress (λ (w : CheapestWalk g.row.N.Denot g.row.C.Denot g.row.F.Denot). length w.given) (λ (w : CheapestWalk g.row.N.Denot g.row.C.Denot g.row.F.Denot). w.refused) _ c.args.self.now c.transpose.result _ (returns-clause-again g c) counts

pub step-step-requires-clause-clones : goal.step-step-requires-clause-clones
step-step-requires-clause-clones g c = c.requires.0
