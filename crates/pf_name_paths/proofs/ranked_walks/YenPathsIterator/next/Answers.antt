use Rattle.std.proofs.Common.{◌≡◌, ◌⊎◌, inl, inr, refl, true}
use Rattle.std.specs.Prelude.{None}
use Rattle.pf_name_paths.specs.PathWalks.{taken_path}
use Rattle.pf_name_paths.proofs.PathWalkSteps.{goes_after, listed_after, rested, steps_after}
use Rattle.pf_name_paths.proofs.ranked_walks.YenPathsIterator.next.Goals.{then-self-via-then-self, then-self-via-else-self+then-self-2}
use Rattle.pf_name_paths.proofs.ranked_walks.YenPathsIterator.next.Goals as goal

pub returns-then-self-clause-steps : goal.returns-then-self-clause-steps
returns-then-self-clause-steps g c =
    let i = c.self.inside in
    let off = elim c.then-self.branch as (λ _. (i.refused ≡ true) ⊎ (i.ended ≡ true)) [
      | then-self-via-then-self w ↦ inl w.if-self.true
      | then-self-via-else-self+then-self-2 w ↦ inr w.if-self-2.true
    ] in
    rw (← c.self.view_is) (rested g.met.N.Eq.laws g.C.Number.value g.C.Number.fits i.list.now i.from.now i.to.value {A = g.row.B.Denot} i.walk (taken_path i.waiting) i.refused i.ended c.self.invariant off None refl)

pub invariant_of-self : goal.invariant_of-self
invariant_of-self g c =
    let i = c.self.inside in
    let p = c.next_numbers-path in
    let n = c.name_path-named in
    listed_after g.met.N.Eq.laws g.C.Number.value g.C.Number.fits i.list.now i.from.now i.to.value i.walk p.new.walk i.waiting i.refused i.ended c.if-self.false c.if-self-2.false c.self.invariant p.result p.ensures.path p.new.waiting p.ensures.none
    (taken_path n.new.waiting) n.result n.ensures c.is_refusal-self-inside.result c.is_none-self-inside.result c.is_refusal-self-inside.ensures c.is_none-self-inside.ensures

pub returns-clause-steps : goal.returns-clause-steps
returns-clause-steps g c =
    let i = c.self.inside in
    let p = c.next_numbers-path in
    let n = c.name_path-named in
    rw (← c.self.view_is) (steps_after g.met.N.Eq.laws g.C.Number.value g.C.Number.fits i.list.now i.from.now i.to.value i.walk p.new.walk i.waiting i.refused i.ended c.if-self.false c.if-self-2.false c.self.invariant p.result p.ensures.path p.new.waiting p.ensures.none
    (taken_path n.new.waiting) n.result n.ensures c.is_refusal-self-inside.result c.is_none-self-inside.result c.is_refusal-self-inside.ensures c.is_none-self-inside.ensures)

pub returns-clause-goes : goal.returns-clause-goes
returns-clause-goes g c =
    let i = c.self.inside in
    let p = c.next_numbers-path in
    let n = c.name_path-named in
    rw (← c.self.view_is) (goes_after g.met.N.Eq.laws g.C.Number.value g.C.Number.fits i.list.now i.from.now i.to.value i.walk p.new.walk i.waiting i.refused i.ended c.if-self.false c.if-self-2.false c.self.invariant p.result p.ensures.path p.new.waiting p.ensures.none
    (taken_path n.new.waiting) n.result n.ensures c.is_refusal-self-inside.result c.is_none-self-inside.result c.is_refusal-self-inside.ensures c.is_none-self-inside.ensures _ tt)
