use Rattle.std.proofs.Common.{arith}
use Rattle.pf_informed.proofs.ways.Ways.open.Goals as goal

pub overflow_add-branch : goal.overflow_add-branch
overflow_add-branch g c = omega (arith, c.requires.few, c.args.self.now.way.ok, c.args.self.now.way.small)
