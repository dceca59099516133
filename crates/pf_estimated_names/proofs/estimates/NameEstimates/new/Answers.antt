use Rattle.std.proofs.Common.{◌≡◌, ◌∙◌, ℕ, Some, sym, subst, length, slice_get}
use Rattle.std.specs.Prelude.{IfErr, IfOk, List, None, Result, Ok, Err}
use Rattle.std.specs.Result.{result_err}
use Rattle.pf_edge_lists.specs.EdgeLists.{names_of}
use Rattle.pf_estimated_graphs.specs.EstimatesInTables.{estimate_at}
use Rattle.pf_name_numbers.specs.Numbered.{is_numbered}
use Rattle.pf_tables.proofs.Faulty.{some_same}
use Rattle.pf_estimated_names.specs.EstimatesByName.{EstimatedNames, estimate_of}
use Rattle.pf_estimated_names.proofs.NameEstimateLemmas.{consistent_out, estimate_inside, goal_agrees}
use Rattle.pf_estimated_names.proofs.NameFaults.{fault_named}
use Rattle.pf_estimated_names.proofs.estimates.NameEstimates.new.Goals as goal

fault_of : {A E : Type 0} (r : Result A E) (e : E) (P : E → Type 0) → result_err r ≡ Some e → IfErr r P → P e
fault_of (Ok x) e P is h = absurd cc
fault_of (Err d) e P is h = subst P (some_same is) h

held : {A E : Type 0} (r : Result A E) (P : Type 0) → result_err r ≡ None → IfOk r (λ _. P) → P
held (Ok x) P is h = h
held (Err d) P is h = absurd cc

pub returns-in-Some-clause-fault : goal.returns-in-Some-clause-fault
returns-in-Some-clause-fault g c =
    let laws = g.met.N.Eq.laws in
    let eq = g.N.PartialEq.eq in
    let value = g.C.Number.value in
    let list = c.args.list.now in
    let names : EstimatedNames g.row.N.Denot g.row.C.Denot = record { list = list; to = c.args.to.now; given = c.args.estimates.now } in
    let same = sym c.deref.ensures.value in
    let complete = subst (λ (ns : List g.row.C.Denot). length ns ≡ length (names_of eq list)) same c.in-Ok.ensures.complete in
    let right : (k : ℕ) (x : g.row.N.Denot) → slice_get (names_of eq list) k ≡ Some x → estimate_at value c.deref.result.now k ≡ estimate_of eq value names x =
    λ k x s. subst (λ (ns : List g.row.C.Denot). estimate_at value ns k ≡ estimate_of eq value names x) same (c.in-Ok.ensures.last k x s ∙ sym (estimate_inside laws value names k x s)) in
    fault_named laws value names c.deref.result.now complete right (is_numbered c.number_of.result) (goal_agrees laws value names c.number_of.result c.number_of.ensures) c.in-Some.fault c.named_fault.result c.named_fault.ensures
    (fault_of c.new.result c.in-Some.fault _ (sym c.err.ensures.value ∙ c.in-Some.is) c.new.ensures.fault)

pub invariant_of-result : goal.invariant_of-result
invariant_of-result g c =
    let laws = g.met.N.Eq.laws in
    let eq = g.N.PartialEq.eq in
    let value = g.C.Number.value in
    let list = c.args.list.now in
    let names : EstimatedNames g.row.N.Denot g.row.C.Denot = record { list = list; to = c.args.to.now; given = c.args.estimates.now } in
    let right : (k : ℕ) (x : g.row.N.Denot) → slice_get (names_of eq list) k ≡ Some x → estimate_at value c.in-Ok.numbers.items k ≡ estimate_of eq value names x =
    λ k x s. c.in-Ok.ensures.last k x s ∙ sym (estimate_inside laws value names k x s) in
    record {
      complete = c.in-Ok.ensures.complete;
      right = right;
      consistent = consistent_out laws value names c.in-Ok.numbers.items right (is_numbered c.number_of.result) (goal_agrees laws value names c.number_of.result c.number_of.ensures)
          (rw c.deref.ensures.value at (held c.new.result _ (sym c.err.ensures.value ∙ c.in-None.is) c.new.ensures.consistent));
    }

pub returns-clause-consistent : goal.returns-clause-consistent
returns-clause-consistent g c = (invariant_of-result g c).consistent
