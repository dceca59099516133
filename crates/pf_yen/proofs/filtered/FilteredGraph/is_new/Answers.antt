use Rattle.pf_yen.proofs.NamedLemmas.{new_by_spur, not_new_by}
use Rattle.pf_yen.proofs.filtered.FilteredGraph.is_new.Goals as goal

pub returns-then-is_none : goal.returns-then-is_none
returns-then-is_none g c = let s = c.args.self.now in new_by_spur s.onward.items s.spur c.args.number c.index.result.now c.requires c.index.ensures c.is_none.result c.is_none.ensures c.if-is_none.true

pub returns-else-is_none : goal.returns-else-is_none
returns-else-is_none g c = let s = c.args.self.now in not_new_by s.onward.items s.spur c.args.number c.index.result.now c.requires c.index.ensures c.is_none.result c.is_none.ensures c.if-is_none.false
