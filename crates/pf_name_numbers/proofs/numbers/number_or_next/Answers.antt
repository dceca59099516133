use Rattle.pf_name_numbers.proofs.NamedNumbers.{next_stands, stands_with}
use Rattle.pf_name_numbers.proofs.numbers.number_or_next.Goals as goal

pub returns-in-Some : goal.returns-in-Some
returns-in-Some g c = stands_with g.met.N.Eq.laws c.args.list.now c.args.name.now c.in-Some.number c.args.name.now c.in-Some.ensures

pub returns-in-None : goal.returns-in-None
returns-in-None g c = let laws = g.met.N.Eq.laws in next_stands laws c.args.list.now c.args.name.now c.in-None.ensures c.len.result c.len.ensures c.args.name.now (laws.refl c.args.name.now)
