use Rattle.std.proofs.Common.{◌≤◌, ◌<◌, ◌+◌, length, false, refl, ap, arith}
use Rattle.std.proofs.lemmas.List.{length-take}
use Rattle.std.proofs.lemmas.Result.{IfOk-from_err}
use Rattle.pf_base.proofs.Callers.{SameNodes-refl}
use Rattle.pf_search.specs.Internal.Breadth.{found_or}
use Rattle.pf_search.proofs.BreadthSteps.{turn_refused, none_waits, start_waits, placed, marked}
use Rattle.pf_base.proofs.Outcomes.{refused_as}
use Rattle.pf_search.proofs.directed.bfs_reach.BfsReachableBy.step.Goals as goal

pub returns-in_err-put_start-clause-steps : goal.returns-in_err-put_start-clause-steps
returns-in_err-put_start-clause-steps g c = λ next start w.
    let eq = g.N.PartialEq.eq in
    let laws = g.met.N.Eq.laws in
    let s = c.in_err-put_start.ensures.stays in
    let i = c.self.inside in
    let keys = found_or i.start (g.M.Numbering.keys i.discovery.nodes) in
    let v = rw (← c.self.view_is) at w in
    rw (← c.self.view_is, s.2, s.3) (v, turn_refused eq laws _ next start keys keys i.given i.refused i.discovery.source.function i.discovery.source.function c.from_residual.result (start_waits i.start (g.M.Numbering.keys i.discovery.nodes) i.given s.0 c.self.invariant s.1) c.from_residual.ensures.0 (SameNodes-refl eq laws.refl keys) v)

pub returns-then-self-len-clause-steps : goal.returns-then-self-len-clause-steps
returns-then-self-len-clause-steps g c = λ next start w.
    let eq = g.N.PartialEq.eq in
    let laws = g.met.N.Eq.laws in
    let s = c.in_ok-put_start.ensures.put in
    let i = c.self.inside in
    let keys = found_or i.start (g.M.Numbering.keys i.discovery.nodes) in
    let v = rw (← c.self.view_is) at w in
    let past : length keys ≤ i.given = omega (arith, ap length s.1, c.len.ensures.len, c.if-self-len.true) in
    rw (← c.self.view_is, s.0, s.1) (v, (none_waits eq laws _ next start keys i.given i.refused i.discovery.source.function v past, refl))

pub returns-in_err-node-clause-steps : goal.returns-in_err-node-clause-steps
returns-in_err-node-clause-steps g c = λ next start w.
    let eq = g.N.PartialEq.eq in
    let laws = g.met.N.Eq.laws in
    let s = c.in_ok-put_start.ensures.put in
    let i = c.self.inside in
    let keys = found_or i.start (g.M.Numbering.keys i.discovery.nodes) in
    let v = rw (← c.self.view_is) at w in
    let keys' = g.M.Numbering.keys c.give.new.discovery.nodes in
    let f' = c.give.new.discovery.source.function in
    let within : i.given < length keys = omega (arith, ap length s.1, c.len.ensures.len, c.if-self-len.false) in
    let e = c.in_err-node.ensures in
    let at = marked eq laws _ next start keys i.given i.refused false i.discovery.source.function v in
    let on = (e.walk next start (rw s.1 at)).1 in
    rw (← c.self.view_is, s.0) (marked eq laws _ next start keys' i.given false i.refused f' on, turn_refused eq laws _ next start keys keys' i.given i.refused i.discovery.source.function f' c.from_residual-in_err-node.result within c.from_residual-in_err-node.ensures.0 (rw s.1 at e.stays) v)

pub returns-clause-steps : goal.returns-clause-steps
returns-clause-steps g c = λ next start w.
    let eq = g.N.PartialEq.eq in
    let laws = g.met.N.Eq.laws in
    let s = c.in_ok-put_start.ensures.put in
    let i = c.self.inside in
    let keys = found_or i.start (g.M.Numbering.keys i.discovery.nodes) in
    let v = rw (← c.self.view_is) at w in
    let keys' = g.M.Numbering.keys c.give.new.discovery.nodes in
    let f' = c.give.new.discovery.source.function in
    let e = c.in_ok-node.ensures in
    let at = marked eq laws _ next start keys i.given i.refused false i.discovery.source.function v in
    let on = (e.walk next start (rw s.1 at)).0 in
    rw (← c.self.view_is, s.0) (marked eq laws _ next start keys' (i.given + 1) false i.refused f' on.0, (rw s.1 at on.1, rw s.1 at e.given))

pub returns-in_err-put_start-clause-few : goal.returns-in_err-put_start-clause-few
returns-in_err-put_start-clause-few g c = IfOk-from_err _ _ c.from_residual.ensures.0

pub returns-then-self-len-clause-few : goal.returns-then-self-len-clause-few
returns-then-self-len-clause-few g c = tt

pub returns-in_err-node-clause-few : goal.returns-in_err-node-clause-few
returns-in_err-node-clause-few g c = IfOk-from_err _ _ c.from_residual-in_err-node.ensures.0

pub returns-clause-few : goal.returns-clause-few
returns-clause-few g c = omega (arith, length-take (c.self.inside.given + 1) (found_or c.put_start.new.start (g.M.Numbering.keys c.give.new.discovery.nodes)), c.len.ensures.small, c.if-self-len.false)

pub give-requires-clause-clones : goal.give-requires-clause-clones
give-requires-clause-clones g c = c.requires.clones

pub returns-in_err-put_start-clause-refused : goal.returns-in_err-put_start-clause-refused
returns-in_err-put_start-clause-refused g c = refused_as _ c.from_residual.result c.in_err-put_start.field-0.0 c.from_residual.ensures.1 c.in_err-put_start.ensures.refused

pub returns-then-self-len-clause-refused : goal.returns-then-self-len-clause-refused
returns-then-self-len-clause-refused g c = tt

pub returns-in_err-node-clause-refused : goal.returns-in_err-node-clause-refused
returns-in_err-node-clause-refused g c = refused_as _ c.from_residual-in_err-node.result c.in_err-node.field-0.0 c.from_residual-in_err-node.ensures.1 c.in_err-node.ensures.refused

pub give-requires-clause-inside : goal.give-requires-clause-inside
give-requires-clause-inside g c = omega (arith, c.len.ensures.len, c.if-self-len.false)

pub give-requires-clause-walk : goal.give-requires-clause-walk
give-requires-clause-walk g c =
    let r = c.requires.walk in
    let i = c.self.inside in
    let v = rw (← c.self.view_is) at r.2 in
    (r.0, r.1, rw c.in_ok-put_start.ensures.put.1 (marked g.N.PartialEq.eq g.met.N.Eq.laws _ r.0 r.1 (found_or i.start (g.M.Numbering.keys i.discovery.nodes)) i.given i.refused false i.discovery.source.function v))

pub invariant_of-self : goal.invariant_of-self
invariant_of-self g c = let s = c.in_err-put_start.ensures.stays in rw (s.2, s.3) c.self.invariant

pub invariant_of-self-then-self-len : goal.invariant_of-self-then-self-len
invariant_of-self-then-self-len g c =
    let s = c.in_ok-put_start.ensures.put in
    let i = c.self.inside in
    rw (s.0, s.1) (placed i.start (g.M.Numbering.keys i.discovery.nodes) i.given c.self.invariant)

pub invariant_of-self-in_err-node : goal.invariant_of-self-in_err-node
invariant_of-self-in_err-node g c = rw c.in_ok-put_start.ensures.put.0 (omega (arith, c.in_err-node.ensures.more, c.len.ensures.len, c.if-self-len.false))

pub invariant_of-self-2 : goal.invariant_of-self-2
invariant_of-self-2 g c = rw c.in_ok-put_start.ensures.put.0 (omega (arith, c.in_ok-node.ensures.more, c.len.ensures.len, c.if-self-len.false))
