use Rattle.std.proofs.Common.{◌∙◌, ◌++◌, ◌∷◌, [], List, ℕ, ap, take, refl, rules}
use Rattle.pf_base.proofs.Outcomes.{on_err, on_refused, refused_as}
use Rattle.pf_informed.proofs.ways.Ways.enter.Goals as goal

pub returns-in_err-reserve-clause-before : goal.returns-in_err-reserve-clause-before
returns-in_err-reserve-clause-before g c = refl

pub returns-in_err-reserve-clause-waiting : goal.returns-in_err-reserve-clause-waiting
returns-in_err-reserve-clause-waiting g c = refl

pub returns-in_err-reserve-clause-way : goal.returns-in_err-reserve-clause-way
returns-in_err-reserve-clause-way g c = on_refused _ c.from_residual.result _ c.from_residual.ensures.1

pub returns-in_err-reserve-clause-places : goal.returns-in_err-reserve-clause-places
returns-in_err-reserve-clause-places g c = on_refused _ c.from_residual.result _ c.from_residual.ensures.1

pub returns-in_err-reserve-clause-stays : goal.returns-in_err-reserve-clause-stays
returns-in_err-reserve-clause-stays g c = on_err c.from_residual.result (c.reserve.ensures.items, refl)

pub returns-in_err-reserve-clause-refused : goal.returns-in_err-reserve-clause-refused
returns-in_err-reserve-clause-refused g c = refused_as _ c.from_residual.result _ c.from_residual.ensures.1 refl

pub index_mut-requires : goal.index_mut-requires
index_mut-requires g c = search (c.args.self.now.places.ok.0, c.requires.inside, rules)

pub returns-in_err-push-clause-before : goal.returns-in_err-push-clause-before
returns-in_err-push-clause-before g c = refl

pub returns-in_err-push-clause-waiting : goal.returns-in_err-push-clause-waiting
returns-in_err-push-clause-waiting g c = refl

pub returns-in_err-push-clause-way : goal.returns-in_err-push-clause-way
returns-in_err-push-clause-way g c = on_refused _ c.from_residual-in_err-push.result _ c.from_residual-in_err-push.ensures.1

pub returns-in_err-push-clause-places : goal.returns-in_err-push-clause-places
returns-in_err-push-clause-places g c = on_refused _ c.from_residual-in_err-push.result _ c.from_residual-in_err-push.ensures.1

pub returns-in_err-push-clause-refused : goal.returns-in_err-push-clause-refused
returns-in_err-push-clause-refused g c = refused_as _ c.from_residual-in_err-push.result _ c.from_residual-in_err-push.ensures.1 refl

pub returns-clause-before : goal.returns-clause-before
returns-clause-before g c = refl

pub returns-clause-waiting : goal.returns-clause-waiting
returns-clause-waiting g c = refl

pub returns-clause-way : goal.returns-clause-way
returns-clause-way g c = c.in_ok-push.ensures.items ∙ ap (λ (xs : List ℕ). xs ++ c.args.branch.number ∷ []) (c.truncate.ensures.items ∙ ap (λ (xs : List ℕ). take c.args.branch.depth xs) c.reserve.ensures.items)

pub returns-clause-places : goal.returns-clause-places
returns-clause-places g c = refl
