use Rattle.std.proofs.Common.{sym, subst}
use Rattle.std.proofs.lemmas.Result.{IfOk-weaker}
use Rattle.pf_components.specs.Internal.Around.{AreGroupsAround}
use Rattle.pf_components.proofs.AroundLemmas.{components_around}
use Rattle.pf_components.proofs.connected_components.connected_components.Goals as goal

pub returns-clause-components : goal.returns-clause-components
returns-clause-components g c = IfOk-weaker c.components.result _ _ (λ sets h next a.
    components_around g.N.PartialEq.eq next c.args.starts.now c.deref.result.now (subst (AreGroupsAround g.N.PartialEq.eq next c.args.starts.now) (sym c.deref.ensures.value) (c.in_ok-groups.ensures.groups next a)) sets.items h) c.components.ensures.components
