use Rattle.std.proofs.Common.{arith}
use Rattle.pf_core.proofs.LabelLemmas.{HasLabel-inside, settled_at}
use Rattle.pf_core.proofs.bfs.settle.Goals as goal

pub index_mut-slot-requires : goal.index_mut-slot-requires
index_mut-slot-requires g c = omega (arith, HasLabel-inside c.args.labels.now.items c.args.number c.requires.0 c.requires.1)

pub returns : goal.returns
returns g c = λ l at. settled_at c.args.labels.now.items c.args.number c.index_mut-slot.result.now _ c.label.result c.in-Some.label l c.settle.new.self c.index_mut-slot.ensures.value c.label.ensures c.in-Some.is c.settle.ensures at
