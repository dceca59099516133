use Rattle.std.proofs.Common.{ap, ◌∙◌, ◌+◌}
use Rattle.pf_base.specs.Tallies.{ticks_of}
use Rattle.pf_base.proofs.tally.Tally.tick.Goals as goal

pub returns : goal.returns
returns c = ap ticks_of c.of-2.ensures ∙ ap (λ s. ticks_of s.value + 1) c.replace-old.ensures.value ∙ ap (λ n. n + 1) c.self.view_is
