use Rattle.std.proofs.Common.{◌∙◌}
use Rattle.std.proofs.lemmas.Result.{IfOk-weaker}
use Rattle.pf_name_numbers.specs.Numbered.{lists_in, named_lists_in}
use Rattle.pf_name_orders.proofs.ByName.{components_by_name}
use Rattle.pf_name_orders.proofs.components.strongly_connected_components.Goals as goal

pub returns-clause-components : goal.returns-clause-components
returns-clause-components g c =
    IfOk-weaker c.listed_groups.result _ _ (λ named e. components_by_name g.met.N.Eq.laws g.C.Number.value c.args.list.now c.deref.result.now (c.deref.ensures.value ∙ c.in_ok-numbers.ensures.numbers)
    (lists_in c.in_ok-components.components.items) c.in_ok-components.ensures.components (named_lists_in named.items) e) (rw c.deref-2.ensures.value at c.listed_groups.ensures.names)
