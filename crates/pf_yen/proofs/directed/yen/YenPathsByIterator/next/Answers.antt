use Rattle.std.proofs.Common.{◌≡◌, ◌∙◌, sym, false, true, inl, refl}
use Rattle.pf_yen.proofs.WalkLemmas.{step_of, bars_of, progress}
use Rattle.pf_yen.proofs.directed.yen.YenPathsByIterator.next.Goals as goal

pub returns-clause-steps : goal.returns-clause-steps
returns-clause-steps g c = λ edges start test w.
    let e = rw (← c.self-2.view_is) at (c.step-step.ensures.steps edges start test w) in
    let after = c.after-self-inside.ensures in
    let free : c.args.self.now.refused ≡ false = rw (← c.self.view_is) (sym c.was_refused.ensures ∙ c.if-was_refused.false) in
    let step = step_of e.0 c.args.self.now c.step-step.result _ free after.barred.0 e.1 in
    let bars = rw (← c.self-2.view_is) at (bars_of c.args.self.now c.step-step.new.self c.step-step.result _ c.step-step.ensures.bars after.barred) in
    rw (c.transpose.ensures, after.refused) (step.0, step.1, bars)

pub returns-clause-again : goal.returns-clause-again
returns-clause-again g c =
    let r = c.requires in
    (r.0, (r.1.0, r.1.1, r.1.2, (returns-clause-steps g c r.1.0 r.1.1 r.1.2 r.1.3).0))

pub returns-clause-goes : goal.returns-clause-goes
returns-clause-goes g c =
    let r = c.requires.1 in
    let q = returns-clause-steps g c r.0 r.1 r.2 r.3 in
    progress q.0 g.met.N.Eq.laws _ c.args.self.now c.transpose.result (returns-clause-again g c) q.1

pub step-step-requires-clause-clones : goal.step-step-requires-clause-clones
step-step-requires-clause-clones g c = c.requires.0

pub step-step-requires-clause-walk : goal.step-step-requires-clause-walk
step-step-requires-clause-walk g c = c.requires.1

pub returns-then-was_refused-clause-again : goal.returns-then-was_refused-clause-again
returns-then-was_refused-clause-again g c = c.requires

pub returns-then-was_refused-clause-steps : goal.returns-then-was_refused-clause-steps
returns-then-was_refused-clause-steps g c = λ edges start test w.
    let r : c.args.self.now.refused ≡ true = rw (← c.self.view_is) (sym c.was_refused.ensures ∙ c.if-was_refused.true) in
    (w, (inl r, refl, refl), (λ b. r, (λ b. b, λ b. b)))

pub returns-then-was_refused-clause-goes : goal.returns-then-was_refused-clause-goes
returns-then-was_refused-clause-goes g c = record { on = λ f. tt; keeps = tt; rests = λ f. f }

pub invariant_of-self : goal.invariant_of-self
invariant_of-self g c = c.self-2.invariant
