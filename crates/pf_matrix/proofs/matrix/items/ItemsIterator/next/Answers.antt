use Rattle.std.proofs.Common.{sym, ap, ◌∙◌, length, ◌≡◌, ◌∷◌, arith, List, Option, None}
use Rattle.std.specs.Slice.Iter.{iter_rest}
use Rattle.pf_matrix.proofs.Ends.{zip_none}
use Rattle.std.specs.List.{zip}
use Rattle.std.specs.Iterator.{MakesProgress, item_count}
use Rattle.pf_matrix.proofs.Ends.{progress_one}
use Rattle.pf_matrix.proofs.matrix.items.ItemsIterator.next.Goals as goal

-- at the end nothing is left
progress_none : {S A B : Type 0} {can : S → Type 0} (rest : S → List B) (s t : S) (r : Option A) → r ≡ None → MakesProgress can (item_count {A = B} rest) s r t
progress_none rest s t r e = rw e (record { on = λ f. tt; keeps = tt; rests = λ f. f })

pub returns-in_err-value-clause-steps : goal.returns-in_err-value-clause-steps
returns-in_err-value-clause-steps g c =
    let none = c.in_err-value.ensures.steps in
    rw c.from_residual-in_err-value.ensures (
      sym c.self.view_is ∙ zip_none c.self.inside.keys (iter_rest c.self.inside.values) none.0,
      zip_none c.next.new.self (iter_rest c.next-2.new.self) (ap (λ s. length (iter_rest s)) none.1 ∙ none.0),
    )

pub returns-in_err-position-clause-steps : goal.returns-in_err-position-clause-steps
returns-in_err-position-clause-steps g c =
    let none = c.in_err-position.ensures.steps in
    let values = iter_rest c.self.inside.values in
    rw c.from_residual.ensures (sym c.self.view_is ∙ ap (λ ks. zip ks values) none.0, ap (λ ks. zip ks values) none.1)

pub returns-in_err-position-clause-goes : goal.returns-in_err-position-clause-goes
returns-in_err-position-clause-goes g c = progress_none (λ items. items) _ _ c.from_residual.result c.from_residual.ensures

pub returns-in_err-value-clause-goes : goal.returns-in_err-value-clause-goes
returns-in_err-value-clause-goes g c = progress_none (λ items. items) _ _ c.from_residual-in_err-value.result c.from_residual-in_err-value.ensures

pub returns-clause-steps : goal.returns-clause-steps
returns-clause-steps g c =
    let s = c.self.inside in
    sym c.self.view_is ∙ ap (λ ks. zip ks (iter_rest s.values)) c.in_ok-position.ensures.steps ∙ ap (λ xs. zip (c.in_ok-position.position ∷ c.next.new.self) xs) c.in_ok-value.ensures.steps

pub returns-clause-goes : goal.returns-clause-goes
returns-clause-goes g c = progress_one (λ items. items) _ _ _ tt (omega (arith, ap length (returns-clause-steps g c)))
