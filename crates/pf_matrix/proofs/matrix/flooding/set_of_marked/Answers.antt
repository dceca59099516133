use Rattle.std.proofs.Common.{rules, tests}
use Rattle.std.specs.BTreeSet.{IsFromIterResult}
use Rattle.std.proofs.lemmas.Iterator.Adapters.{fact_from_collect}
use Rattle.std.proofs.lemmas.Iterator.Consumers.{YieldsList-at, YieldsList-from_filter_map, YieldsList-from_first}
use Rattle.pf_matrix.specs.Internal.PositionOrder.{position_cmp}
use Rattle.pf_matrix.specs.Positions.{items_of}
use Rattle.pf_matrix.proofs.MarkLemmas.{kept}
use Rattle.pf_matrix.proofs.matrix.flooding.set_of_marked.Goals as goal

pub returns-clause-marked : goal.returns-clause-marked
returns-clause-marked g c = fact_from_collect (IsFromIterResult position_cmp) c.collect.result c.collect.ensures.ran
    (YieldsList-from_filter_map _ kept (YieldsList-at c.filter_map.ensures.source (YieldsList-from_first (λ item. (item.0, item.1.now)) (λ items. items) (items_of c.args.table.now) c.items.ensures)) c.filter_map.ensures.closure (λ x r q k. search (rules, tests)))
