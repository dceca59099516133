use Rattle.std.proofs.Common.{◌≡◌, ◌∙◌, Err, ap, inl, inr}
use Rattle.pf_base.specs.NodeRefs.{nodes_of}
use Rattle.pf_base.specs.declared.error.PathError.{PathError}
use Rattle.pf_base.proofs.Outcomes.{refused_as}
use Rattle.pf_name_numbers.specs.Numbered.{named_lists_in}
use Rattle.pf_name_orders.proofs.ByName.{depths_by_name, groups_by_name, none_unknown, remaining_by_name}
use Rattle.pf_name_orders.proofs.orders.topological_sort_into_groups.Goals as goal

pub returns-in_err-groups-clause-errors : goal.returns-in_err-groups-clause-errors
returns-in_err-groups-clause-errors g c =
    let r = c.from_residual-in_err-groups in
    let e = c.in_err-groups.ensures in
    let all = c.deref.ensures.value ∙ c.in_ok-numbers.ensures.numbers in
    refused_as _ r.result _ r.ensures.1 (elim e.errors as (λ _. c.in_err-groups.field-0.0 ≡ PathError.OutOfMemory) [
      | inl o ↦ o
      | inr u ↦
          let x = e.unknown (ap Err u) in
          absurd (none_unknown g.met.N.Eq.laws g.C.Number.value c.args.list.now c.deref.result.now all x.0 x.1 x.2 x.3 x.4)
    ])

pub returns-in-Ok-clause-groups : goal.returns-in-Ok-clause-groups
returns-in-Ok-clause-groups g c =
    let laws = g.met.N.Eq.laws in
    let list = c.args.list.now in
    let all = c.deref.ensures.value ∙ c.in_ok-numbers.ensures.numbers in
    let h = rw c.in-Ok.is at c.in_ok-groups.ensures.groups in (
      groups_by_name laws g.C.Number.value list c.deref.result.now all c.in-Ok.groups.items h.0 (named_lists_in c.in_ok-listed_groups-in-Ok.field-0.items) (rw c.deref-in-Ok.ensures.value at c.in_ok-listed_groups-in-Ok.ensures.names),
      depths_by_name laws g.C.Number.value list c.deref.result.now all h.1,
    )

pub returns-clause-cycle : goal.returns-clause-cycle
returns-clause-cycle g c =
    let laws = g.met.N.Eq.laws in
    let list = c.args.list.now in
    let all = c.deref.ensures.value ∙ c.in_ok-numbers.ensures.numbers in
    let h = rw c.in-Err.is at c.in_ok-groups.ensures.cycle in
    let left = remaining_by_name laws g.C.Number.value list c.deref.result.now all c.in-Err.remaining.items h.1 (nodes_of c.in_ok-remaining-in-Err.remaining.items) (rw c.deref-in-Err-2.ensures.value at c.in_ok-remaining-in-Err.ensures.names) in (
      groups_by_name laws g.C.Number.value list c.deref.result.now all c.in-Err.groups.items h.0 (named_lists_in c.in_ok-groups-in-Err.groups.items) (rw c.deref-in-Err.ensures.value at c.in_ok-groups-in-Err.ensures.names),
      left.0,
      λ none. left.1 h.2 (ap nodes_of none),
    )
