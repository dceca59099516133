use Rattle.std.proofs.Common.{refl, ◌∙◌, sym, arith, None}
use Rattle.pf_state_spaces.proofs.MoveLemmas.{moves_from, none_left, passes, shorter, shortens, stands_still, yields}
use Rattle.pf_state_spaces.proofs.moves.MovesIterator.next.Goals as goal

pub loop-self-init : goal.loop-self-init
loop-self-init g c = record { same = (refl, refl, refl); within = c.self.invariant.0; all = c.self.invariant.1; left = refl }

pub invariant_of-self : goal.invariant_of-self
invariant_of-self g c = (c.loop-self.invariant.within, c.loop-self.invariant.all)

pub invariant_of-self-then-is_some : goal.invariant_of-self-then-is_some
invariant_of-self-then-is_some g c = (omega (arith, c.loop-self-test.true), c.loop-self.invariant.all)

pub returns-then-is_some : goal.returns-then-is_some
returns-then-is_some g c =
    let s = c.loop-self.self-inside in
    let found = c.move_at-found.result in
    let inv = c.loop-self.invariant in
    let first = moves_from (g.S.StateSpace.moves s.space.now s.state) s.next found c.move_at-found.ensures in
    record {
      steps = yields found _ _ (sym (c.is_some.ensures) ∙ c.if-is_some.true) (sym c.self.view_is ∙ sym inv.left ∙ first);
      goes = shortens found _ _ (sym (c.is_some.ensures) ∙ c.if-is_some.true) tt (sym c.self.view_is ∙ sym inv.left ∙ first);
    }

pub loop-self-smaller : goal.loop-self-smaller
loop-self-smaller g c = shorter c.loop-self.self-inside.next c.loop-self.self-inside.end c.loop-self-test.true

pub loop-self-preserved : goal.loop-self-preserved
loop-self-preserved g c =
    let s = c.loop-self.self-inside in
    let found = c.move_at-found.result in
    let inv = c.loop-self.invariant in
    let first = moves_from (g.S.StateSpace.moves s.space.now s.state) s.next found c.move_at-found.ensures in
    record { same = inv.same; within = omega arith; all = inv.all; left = passes found _ _ (sym (c.is_some.ensures) ∙ c.if-is_some.false) first ∙ inv.left }

pub returns : goal.returns
returns g c = record {
  steps =
      let s = c.loop-self.self-inside in
      let inv = c.loop-self.invariant in
      none_left (g.S.StateSpace.moves s.space.now s.state) s.next s.end c.loop-self-test.false inv.all (inv.left ∙ c.self.view_is);
  goes = stands_still None refl;
}
