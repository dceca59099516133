use Rattle.std.proofs.Common.{ap, map}
use Rattle.pf_grid.proofs.grid.edges.next_edge.Goals as goal

pub next_step-requires : goal.next_step-requires
next_step-requires g c = record { steps = c.requires.steps; inside = c.requires.inside }

pub returns-in_err-end : goal.returns-in_err-end
returns-in_err-end g c = record {
  steps = c.next_step.ensures.steps;
  inside = c.next_step.ensures.inside;
  edge =
      let none = c.in_err-end.ensures.step in
      rw c.from_residual.ensures (ap (map (λ q. (c.args.from, q))) none.0, none.1);
}

pub returns : goal.returns
returns g c = record {
  steps = c.next_step.ensures.steps;
  inside = c.next_step.ensures.inside;
  edge = ap (map (λ q. (c.args.from, q))) c.in_ok-end.ensures.step;
}
