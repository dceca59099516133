use Rattle.std.proofs.Common.{◌∙◌, List, ℕ, ap}
use Rattle.std.specs.List.{each_same}
use Rattle.pf_informed.specs.declared.predecessors.Link.{Link}
use Rattle.pf_informed.specs.Internal.Chains.{lists_at}
use Rattle.pf_informed.proofs.ChainLemmas.{chained_same}
use Rattle.pf_informed.proofs.predecessors.PredecessorsClone.clone.Goals as goal

pub invariant_of-result : goal.invariant_of-result
invariant_of-result g c = chained_same _ _ _ _ (each_same _ _ c.in_ok-heads.ensures.cases.0) (each_same _ _ c.in_ok-links.ensures.cases.0) c.self.invariant

pub returns : goal.returns
returns g c =
    let heads = each_same _ _ c.in_ok-heads.ensures.cases.0 in
    let links = each_same _ _ c.in_ok-links.ensures.cases.0 in
    record { cases = ap (λ (hs : List ℕ). lists_at c.in_ok-links.links.items hs) heads ∙ ap (λ (ls : List Link). lists_at ls c.self.inside.heads.items) links ∙ c.self.view_is }
