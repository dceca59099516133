use Rattle.std.proofs.Common.{◌≡◌, ◌∙◌, [], subst, nat_eq}
use Rattle.std.proofs.lemmas.Result.{IfOk-from_err}
use Rattle.std.proofs.lemmas.Iterator.{items_from_drains}
use Rattle.std.proofs.lemmas.Iterator.Consumers.{YieldsList-from_first}
use Rattle.std.proofs.lemmas.List.{map-append}
use Rattle.pf_base.specs.NodeRefs.{HasSameNodes, nodes_of}
use Rattle.pf_base.proofs.ListLemmas.{none_in}
use Rattle.pf_table_functions.proofs.NumberLemmas.{same_added, distinct_from}
use Rattle.pf_table_searches.proofs.loops.table_nodes_at.Goals as goal

pub starts-init : goal.starts-init
starts-init g c = rw c.new-found.ensures (λ x. (λ h. h, λ h. h), distinct_from [] (λ i j x s t. absurd (none_in i x s)))

pub starts-preserved : goal.starts-preserved
starts-preserved g c =
    let e = c.in_ok-number_of.ensures in (
      rw map-append (same_added c.starts.found c.number_of.new.self (nodes_of c.starts.yielded) _ _ e.added e.numbered c.starts.invariant.0),
      e.added.distinct c.starts.invariant.1,
    )

pub returns-clause-same : goal.returns-clause-same
returns-clause-same g c =
    let all : nodes_of c.starts.yielded ≡ c.args.starts.now =
    items_from_drains c.starts.yielded (c.starts.start-iterator, c.starts.yielded_by, λ _. (c.next.new.self, c.in-None.ensures.steps)) (YieldsList-from_first (λ r. r.now) (λ s. s) c.args.starts.now (c.into_iter-start-iterator.ensures.into_iter_gives ∙ c.iter-start-items.ensures.nodes)) in
    subst (HasSameNodes nat_eq c.starts.found) all c.starts.invariant.0

pub starts-smaller : goal.starts-smaller
starts-smaller g c = (c.in-Some.ensures.goes.on c.starts.iterator.1).2

pub returns-in_err-number_of-clause-same : goal.returns-in_err-number_of-clause-same
returns-in_err-number_of-clause-same g c = IfOk-from_err _ _ c.from_residual.ensures.0

pub returns-in_err-number_of-clause-distinct : goal.returns-in_err-number_of-clause-distinct
returns-in_err-number_of-clause-distinct g c = IfOk-from_err _ _ c.from_residual.ensures.0

pub returns-clause-distinct : goal.returns-clause-distinct
returns-clause-distinct g c = c.starts.invariant.1
