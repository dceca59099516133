use Rattle.std.proofs.Common.{rules, ◌∙◌, ℕ, sym, ap, subst, length, List, Option, None, Some, arith}
use Rattle.std.specs.Iterator.{YieldsFirst}
use Rattle.pf_utils.proofs.MoveLemmas.{ray_from}
use Rattle.pf_utils.proofs.directions.InDirectionIterator.next.Goals as goal

pub returns-in_err-target-clause-steps : goal.returns-in_err-target-clause-steps
returns-in_err-target-clause-steps c =
    let none = sym c.self.view_is ∙ ray_from c.self.inside.last c.self.inside.direction c.self.inside.dimensions None c.in_err-target.ensures in
    subst (λ (o : Option (ℕ × ℕ)). YieldsFirst {S = List (ℕ × ℕ)} (λ s. s) c.args.self.now o c.args.self.now) (sym c.from_residual.ensures) (none, none)

pub returns : goal.returns
returns c = record {
  steps = sym c.self.view_is ∙ ray_from c.self.inside.last c.self.inside.direction c.self.inside.dimensions (Some c.in_ok-target.target) c.in_ok-target.ensures;
  goes =
      let steps = sym c.self.view_is ∙ ray_from c.self.inside.last c.self.inside.direction c.self.inside.dimensions (Some c.in_ok-target.target) c.in_ok-target.ensures in
      record { on = λ _. (tt, search rules, omega (arith, ap (λ (ps : List (ℕ × ℕ)). length ps) steps)); keeps = tt; rests = λ _. tt };
}
