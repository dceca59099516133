use Rattle.std.proofs.Common.{[], ◌∷◌, refl, ap, ◌∙◌, arith}
use Rattle.std.specs.Prelude.{reverse}
use Rattle.std.proofs.lemmas.List.{reverse-append}
use Rattle.pf_deepening.proofs.way.Way.leave.Goals as goal

pub returns-clause-below : goal.returns-clause-below
returns-clause-below g c = (
  c.in-Some.parent,
  reverse c.pop.new.self.items,
  ap reverse c.in-Some.ensures.items ∙ reverse-append c.pop.new.self.items (c.in-Some.parent ∷ []),
  refl,
  refl,
  c.unmark.ensures,
)

pub returns-clause-cut_off : goal.returns-clause-cut_off
returns-clause-cut_off g c = refl

pub overflow_add-self : goal.overflow_add-self
overflow_add-self g c =
    let trail = c.pop.new.self.items in
    let below = c.requires.room c.in-Some.parent (reverse trail) (ap reverse c.in-Some.ensures.items ∙ reverse-append trail (c.in-Some.parent ∷ [])) in
    omega (arith, below)
