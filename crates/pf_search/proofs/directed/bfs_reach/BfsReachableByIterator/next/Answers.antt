use Rattle.std.proofs.Common.{sym, ap, length, ◌∙◌}
use Rattle.pf_search.specs.Breadth.{BreadthWalk}
use Rattle.pf_search.specs.Internal.Breadth.{found_or}
use Rattle.pf_search.proofs.BreadthSteps.{step_of}
use Rattle.pf_search.proofs.ItemLemmas.{of_node, progress, breadth_counts}
use Rattle.pf_search.proofs.directed.bfs_reach.BfsReachableByIterator.next.Goals as goal

pub returns-clause-steps : goal.returns-clause-steps
returns-clause-steps g c = λ next start w.
    let i = c.self-2.inside in
    let e = rw (← c.self-2.view_is) at (c.step-step.ensures.steps next start w) in
    let same = rw (← c.self-2.view_is) at c.step-step.ensures.same in
    let h = sym (ap (λ (v : BreadthWalk g.row.N.Denot g.row.F.Denot). v.refused) c.self.view_is) ∙ c.if-self.false in
    rw (c.transpose.ensures, c.is_err-self-inside.ensures.value) (step_of g.N.PartialEq.eq g.met.N.Eq.laws _ next start c.args.self.now (found_or i.start (g.M.Numbering.keys i.discovery.nodes)) i.given i.refused i.discovery.source.function c.step-step.result h same c.step-step.ensures.refused e)

pub returns-clause-again : goal.returns-clause-again
returns-clause-again g c =
    let r = c.requires in
    (r.0, (r.1.0, r.1.1, (returns-clause-steps g c r.1.0 r.1.1 r.1.2).0))

pub returns-then-self-clause-goes : goal.returns-then-self-clause-goes
returns-then-self-clause-goes g c = record { on = λ f. tt; keeps = tt; rests = λ f. f }

pub returns-clause-goes : goal.returns-clause-goes
returns-clause-goes g c =
    let r = c.requires in
    let few = rw (← c.self-2.view_is) at c.step-step.ensures.few in
    let counts = breadth_counts g.N.PartialEq.eq r.1.0 r.1.1 c.args.self.now c.transpose.result _ (returns-clause-steps g c r.1.0 r.1.1 r.1.2).1 (rw c.transpose.ensures (of_node _ c.step-step.result few)) in
    progress (λ (w : BreadthWalk g.row.N.Denot g.row.F.Denot). length w.given) (λ (w : BreadthWalk g.row.N.Denot g.row.F.Denot). w.refused) _ c.args.self.now c.transpose.result _ (returns-clause-again g c) counts

pub step-step-requires-clause-clones : goal.step-step-requires-clause-clones
step-step-requires-clause-clones g c = c.requires.0
