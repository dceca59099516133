use Rattle.std.proofs.Common.{◌≡◌, ◌∙◌, ◌+◌, ap, length, take, take_all, arith}
use Rattle.std.proofs.lemmas.List.{length-set}
use Rattle.pf_edge_lists.specs.EdgeLists.{names_of}
use Rattle.pf_estimated_graphs.specs.EstimatesInTables.{estimate_at}
use Rattle.pf_estimated_names.specs.EstimatesByName.{last_given}
use Rattle.pf_estimated_names.proofs.NameEstimateLemmas.{pass_last, set_last}
use Rattle.pf_estimated_names.proofs.numbers.numbers_given.Goals.{in-Some, in_default}
use Rattle.pf_estimated_names.proofs.numbers.numbers_given.Goals as goal

pub loop-entry-preserved : goal.loop-entry-preserved
loop-entry-preserved g c =
    let laws = g.met.N.Eq.laws in
    let value = g.C.Number.value in
    let list = c.args.list.now in
    let given = c.args.given.now in
    let i = c.loop-entry.entry-index in
    let numbers = c.loop-entry.numbers.items in
    let entry = c.entry-item.result in
    let is = c.loop-entry.invariant in
    record {
      complete = elim c.match-number_of.branch as (λ _. length c.match-number_of.numbers.items ≡ length (names_of g.N.PartialEq.eq list)) [
        | in-Some w ↦ ap (λ v. length v.items) w.numbers-is ∙ length-set numbers w.in-Some.node entry.1 ∙ is.complete
        | in_default w ↦ ap (λ v. length v.items) w.numbers-is ∙ is.complete
      ];
      last = λ k x s. elim c.match-number_of.branch as (λ _. estimate_at value c.match-number_of.numbers.items k ≡ last_given g.N.PartialEq.eq value (take (i + 1) given) x) [
        | in-Some w ↦ ap (λ v. estimate_at value v.items k) w.numbers-is ∙ set_last laws value list numbers is.complete given i entry c.loop-entry-test.true c.entry-item.is is.last w.in-Some.node w.in-Some.ensures k x s
        | in_default w ↦ ap (λ v. estimate_at value v.items k) w.numbers-is ∙ pass_last laws value list numbers is.complete given i entry c.loop-entry-test.true c.entry-item.is is.last w.in_default.ensures k x s
      ];
    }

pub returns-clause-last : goal.returns-clause-last
returns-clause-last g c = λ k x s.
    c.loop-entry.invariant.last k x s
    ∙ ap (λ es. last_given g.N.PartialEq.eq g.C.Number.value es x) (take_all c.loop-entry.entry-index c.args.given.now (omega (arith, c.loop-entry-test.false)))
