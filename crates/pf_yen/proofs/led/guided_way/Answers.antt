use Rattle.std.proofs.Common.{◌<◌, ℕ, subst}
use Rattle.pf_yen.proofs.SplitLemmas.{spur_inside}
use Rattle.pf_yen.proofs.led.guided_way.Goals as goal

pub led_way-requires-clause-inside : goal.led_way-requires-clause-inside
led_way-requires-clause-inside g c =
    let s = c.args.filtered.now in
    subst (λ (n : ℕ). s.spur < n) c.requires.wide (spur_inside s.adjacency.now s.onward.items s.spur _ c.requires.prefix.filtered)
