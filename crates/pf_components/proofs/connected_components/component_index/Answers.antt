use Rattle.std.proofs.Common.{ap, take_all, subst}
use Rattle.std.specs.Map.{lookup}
use Rattle.pf_components.specs.Components.{MapsToGreatest}
use Rattle.pf_components.proofs.IndexLemmas.{MapsToGreatest-none, MapsToGreatest-more}
use Rattle.pf_components.proofs.connected_components.component_index.Goals as goal

pub loop-index-init : goal.loop-index-init
loop-index-init g c = MapsToGreatest-none c.new-of_node.result (λ x. ap (lookup (g.N.PartialEq.eq x)) c.new-of_node.ensures.empty)

pub loop-index-preserved : goal.loop-index-preserved
loop-index-preserved g c = MapsToGreatest-more c.args.components.now c.loop-index.index c.index-components-index.result c.loop-index.of_node c.index_nodes.new.of_node c.loop-index-test.true c.index-components-index.is c.in_ok-index_nodes.ensures.indexed c.loop-index.invariant

pub returns-clause-greatest : goal.returns-clause-greatest
returns-clause-greatest g c = subst (λ sets. MapsToGreatest g.N.PartialEq.eq sets c.loop-index.of_node) (take_all c.loop-index.index c.args.components.now c.loop-index-test.false) c.loop-index.invariant
