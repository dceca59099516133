use Rattle.std.proofs.Common.{[], ◌∷◌, ◌++◌, inl, inr, sym, subst}
use Rattle.std.specs.Prelude.{OnOk, Result, Ok, Err}
use Rattle.pf_informed.specs.Internal.Rows.{IsCheapestOf}
use Rattle.pf_informed.proofs.RowLemmas.{cheapest_same, cheapest_lowered, cheapest_pushed}
use Rattle.std.proofs.lemmas.Option.{slice_get_within}
use Rattle.pf_informed.proofs.directed.idastar.cheapest_row.CheapestRowRow.add.Goals as goal

pub returns-in-Some-clause-added : goal.returns-in-Some-clause-added
returns-in-Some-clause-added g c = λ steps h.
    let value = g.C.Number.value in
    let at = c.in-Some.ensures in
    let n = c.args.number in
    let p = c.args.cost in
    rw c.lower.ensures.places (elim (c.lower.ensures.lowered n at.0 at.1) as (λ _. IsCheapestOf value c.lower.new.self.steps.items c.args.self.now.places.items (steps ++ (n, p) ∷ [])) [
      | inl q ↦ rw q.0 (cheapest_same value c.args.self.now.steps.items c.args.self.now.places.items steps h n p c.in-Some.place at.0 at.1 q.1)
      | inr q ↦ rw q.0 (cheapest_lowered value c.args.self.now.steps.items c.args.self.now.places.items steps h n p c.in-Some.place at.0 at.1 q.1)
    ])

pub lower-requires : goal.lower-requires
lower-requires g c = slice_get_within c.args.self.now.steps.items c.in-Some.place _ c.in-Some.ensures.1

pub returns-in-Some-clause-refused : goal.returns-in-Some-clause-refused
returns-in-Some-clause-refused g c = tt

pub returns-in-None-clause-refused : goal.returns-in-None-clause-refused
returns-in-None-clause-refused g c = c.put.ensures.refused

pub returns-in-None-clause-added : goal.returns-in-None-clause-added
returns-in-None-clause-added g c =
    let value = g.C.Number.value in
    let steps = c.args.self.now.steps.items in
    let places = c.args.self.now.places.items in
    let n = c.args.number in
    let p = c.args.cost in
    let e = c.put.ensures in
    pushed c.put.result _ _ _ _ e.steps e.placed e.others (λ q r o s h. subst (λ xs. IsCheapestOf value xs c.put.new.self.places.items (s ++ (n, p) ∷ [])) (sym q) (cheapest_pushed value steps places s h n p c.put.new.self.places.items c.in-None.ensures r o))
  where
    pushed : {X E : Type 0} (r : Result X E) (P Q R S : Type 0) → OnOk r P → OnOk r Q → OnOk r R → (P → Q → R → S) → OnOk r S
    pushed (Ok x) P Q R S p q o f = f p q o
    pushed (Err e) P Q R S p q o f = tt
