use Rattle.std.proofs.Common.{◌≡◌, refl, sym, ◌∙◌, subst, arith, inl, inr, ℕ, ℤ, Some, None}
use Rattle.std.specs.Prelude.{◌≤ℤ◌}
use Rattle.std.proofs.lemmas.Int.{ints}
use Rattle.std.proofs.lemmas.Option.{same_Some}
use Rattle.pf_base.specs.Places.{number}
use Rattle.pf_assignment.proofs.kuhn_munkres.tree.Tree.nearer.Goals as goal

at_most_itself : (z : ℤ) → z ≤ℤ z
at_most_itself z = omega (arith, ints)

pub is_nearer-requires-clause-second : goal.is_nearer-requires-clause-second
is_nearer-requires-clause-second g c = c.requires.other c.in-Some.other c.in-Some.is

pub returns-then-is_nearer : goal.returns-then-is_nearer
returns-then-is_nearer g c = record {
  one = inl refl;
  here = at_most_itself _;
  before = λ n e.
      let d = number g.C.Number.value c.args.self.now.distances.items in
      subst (λ (k : ℕ). d c.args.column ≤ℤ d k) (same_Some _ _ (sym c.in-Some.is ∙ e)) c.if-is_nearer.ensures;
}

pub returns-else-is_nearer : goal.returns-else-is_nearer
returns-else-is_nearer g c = record {
  one = inr c.in-Some.is;
  here = c.if-is_nearer.ensures;
  before = λ n e.
      let d = number g.C.Number.value c.args.self.now.distances.items in
      subst (λ (k : ℕ). d c.in-Some.other ≤ℤ d k) (same_Some _ _ (sym c.in-Some.is ∙ e)) (at_most_itself _);
}

pub returns-in-None : goal.returns-in-None
returns-in-None g c = record {
  one = inl refl;
  here = at_most_itself _;
  before = λ n e. absurd (let none : None ≡ Some n = sym c.in-None.is ∙ e in cc);
}
