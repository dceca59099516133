use Rattle.std.proofs.Common.{arith, sym, ap, length, refl, inl, ◌∙◌}
use Rattle.pf_search.specs.DepthWalks.{DepthWalk, IsDepthWalk}
use Rattle.pf_search.specs.Internal.Breadth.{found_or}
use Rattle.pf_search.specs.Internal.Depth.{stack_of, walk_with}
use Rattle.pf_search.proofs.DepthWalkLemmas.{step_of, goes_again, as_many}
use Rattle.pf_search.proofs.ItemLemmas.{progress, depth_counts}
use Rattle.pf_search.proofs.directed.dfs_reach.DfsReachableByIterator.next.Goals as goal

pub returns-clause-steps : goal.returns-clause-steps
returns-clause-steps g c = λ next start paths w.
    let e = rw (← c.self-2.view_is) at (c.step-step.ensures.walks next start paths w) in
    let h = sym (ap (λ (v : DepthWalk g.row.N.Denot g.row.F.Denot). v.refused) c.self.view_is) ∙ c.if-self.false in
    let i = c.self-2.inside in
    let m : DepthWalk g.row.N.Denot g.row.F.Denot = walk_with (found_or i.start (g.M.Numbering.keys i.graph.nodes)) (stack_of i.walk) i.refused i.graph.source.function in
    rw (c.transpose.ensures, c.is_err-self-inside.ensures.value) (step_of g.N.PartialEq.eq g.met.N.Eq.laws _ next start paths c.args.self.now m c.step-step.result w c.step-step.ensures.refused h e)

pub returns-clause-again : goal.returns-clause-again
returns-clause-again g c =
    let r = c.requires in
    let a = goes_again g.N.PartialEq.eq g.met.N.Eq.laws _ r.1.0 r.1.1 r.1.2 c.args.self.now _ c.transpose.result (returns-clause-steps g c r.1.0 r.1.1 r.1.2 r.1.3) in
    (r.0, (r.1.0, r.1.1, a.0, a.1))

pub returns-then-self-clause-goes : goal.returns-then-self-clause-goes
returns-then-self-clause-goes g c = record { on = λ f. tt; keeps = tt; rests = λ f. f }

pub returns-clause-goes : goal.returns-clause-goes
returns-clause-goes g c =
    let r = c.requires in
    let i = c.self-2.inside in
    let given = i.walk.given in
    let many = as_many i.start (g.M.Numbering.keys i.graph.nodes) given c.self-2.invariant.0 in
    let counts = depth_counts g.N.PartialEq.eq r.1.0 r.1.1 (IsDepthWalk g.N.PartialEq.eq g.F.SuccessorFunction.answers r.1.0 r.1.1) r.1.2 c.args.self.now c.transpose.result _ (returns-clause-steps g c r.1.0 r.1.1 r.1.2 r.1.3) (omega (arith, many, c.self-2.invariant.1)) in
    progress (λ (w : DepthWalk g.row.N.Denot g.row.F.Denot). length w.given) (λ (w : DepthWalk g.row.N.Denot g.row.F.Denot). w.refused) _ c.args.self.now c.transpose.result _ (returns-clause-again g c) counts

pub returns-then-self-clause-refused : goal.returns-then-self-clause-refused
returns-then-self-clause-refused g c = tt

pub step-step-requires-clause-clones : goal.step-step-requires-clause-clones
step-step-requires-clause-clones g c = c.requires.0

pub returns-then-self-clause-steps : goal.returns-then-self-clause-steps
returns-then-self-clause-steps g c = λ next start paths w. rw (← c.self.view_is) (refl, rw (← c.self.view_is) at w, inl (c.if-self.true, refl))
