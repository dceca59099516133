use Rattle.pf_yen.specs.Internal.Filtered.{graph_filtered_by}
use Rattle.pf_yen.proofs.FilteredLemmas.{allows_onward, allows_closed, allows_away, allows_at_spur}
use Rattle.pf_yen.proofs.filtered.FilteredGraph.allows.Goals as goal

pub returns-in-Some : goal.returns-in-Some
returns-in-Some g c = allows_onward (graph_filtered_by c.args.self.now) c.args.from c.args.to c.index.result.now c.requires.0 c.index.ensures c.in-Some.only c.in-Some.is

pub returns-then-from-self : goal.returns-then-from-self
returns-then-from-self g c = let i = c.index-in-None in allows_away (graph_filtered_by c.args.self.now) c.args.from c.args.to c.index.result.now c.requires.0 c.index.ensures c.in-None.is i.result.now c.requires.1 i.ensures c.is_none.result c.is_none.ensures c.if-is_none.true c.if-from-self.true

pub returns-else-from-self : goal.returns-else-from-self
returns-else-from-self g c = let i = c.index-in-None in allows_at_spur (graph_filtered_by c.args.self.now) c.args.from c.args.to c.index.result.now c.requires.0 c.index.ensures c.in-None.is i.result.now c.requires.1 i.ensures c.is_none.result c.is_none.ensures c.if-is_none.true c.if-from-self.false c.has.result c.has.ensures

pub returns-else-is_none : goal.returns-else-is_none
returns-else-is_none g c = let i = c.index-in-None in allows_closed (graph_filtered_by c.args.self.now) c.args.from c.args.to c.index.result.now c.requires.0 c.index.ensures c.in-None.is i.result.now c.requires.1 i.ensures c.is_none.result c.is_none.ensures c.if-is_none.false
