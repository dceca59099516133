use Rattle.std.proofs.Common.{inl, inr, arith}
use Rattle.pf_core.proofs.SlotLemmas.{IsRest, parent_at, flat_at}
use Rattle.pf_core.proofs.slot.Slot.parent.Goals.{then-self-ge-SETTLED, else-self-ge-SETTLED}
use Rattle.pf_core.proofs.slot.Slot.parent.Goals as goal

pub returns-then-word-gt-FIRST : goal.returns-then-word-gt-FIRST
returns-then-word-gt-FIRST g c =
    let rest = elim c.if-self-ge-SETTLED.branch as (λ _. IsRest c.self.inside.cost c.self.inside.word c.if-self-ge-SETTLED.word) [
      | then-self-ge-SETTLED w ↦ inl (w.if-self-ge-SETTLED.true, w.word-is)
      | else-self-ge-SETTLED w ↦ inr (omega (arith, w.if-self-ge-SETTLED.false), w.word-is)
    ] in
    parent_at c.self.inside.cost c.args.self.now c.self.inside.word _ c.self.inside.above c.self.view_is rest c.if-word-gt-FIRST.true

pub returns-else-word-gt-FIRST : goal.returns-else-word-gt-FIRST
returns-else-word-gt-FIRST g c =
    let rest = elim c.if-self-ge-SETTLED.branch as (λ _. IsRest c.self.inside.cost c.self.inside.word c.if-self-ge-SETTLED.word) [
      | then-self-ge-SETTLED w ↦ inl (w.if-self-ge-SETTLED.true, w.word-is)
      | else-self-ge-SETTLED w ↦ inr (omega (arith, w.if-self-ge-SETTLED.false), w.word-is)
    ] in
    flat_at c.self.inside.cost c.args.self.now c.self.inside.word _ c.self.inside.above c.self.view_is rest (omega (arith, c.if-word-gt-FIRST.false))
