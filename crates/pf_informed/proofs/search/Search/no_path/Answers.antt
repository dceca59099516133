use Rattle.std.proofs.Common.{◌∙◌, ap, sym, subst, refl, take_all, true≢false}
use Rattle.std.specs.Prelude.{All, IsSome, Option, is_some}
use Rattle.std.proofs.lemmas.List.Elements.{All-get_or, All-more, All-nil}
use Rattle.pf_core.specs.declared.labels.Label.{Label}
use Rattle.pf_core.specs.Labels.{Labels}
use Rattle.pf_informed.proofs.search.Search.no_path.Goals as goal

pub slots-init : goal.slots-init
slots-init g c = All-nil (λ (o : Option (Label g.row.C.Denot)). IsSome o)

pub slots-preserved : goal.slots-preserved
slots-preserved g c = All-more (λ (o : Option (Label g.row.C.Denot)). IsSome o) c.deref-slot-items.result.now c.slots.slot-index c.slot-item.result c.slots-test.true c.slots.invariant (subst (λ (o : Option (Label g.row.C.Denot)). IsSome o) (c.label.ensures ∙ c.slot-item.is) c.if-is_none.ensures)

pub returns-then-is_none : goal.returns-then-is_none
returns-then-is_none g c = record {
  none = tt;
  past = (
    refl,
    λ all.
        let listed = subst (λ (xs : Labels g.row.C.Denot). All (λ o. IsSome o) xs) (sym c.deref-slot-items.ensures.value) all in
        let here = All-get_or (λ (o : Option (Label g.row.C.Denot)). IsSome o) c.deref-slot-items.result.now c.slots.slot-index c.slot-item.result c.slots-test.true listed in
        true≢false (sym here ∙ sym (ap is_some (c.label.ensures ∙ c.slot-item.is)) ∙ c.if-is_none.ensures),
  );
}

pub returns : goal.returns
returns g c = record {
  none = (refl, subst (λ (xs : Labels g.row.C.Denot). All (λ o. IsSome o) xs) (take_all c.slots.slot-index c.deref-slot-items.result.now c.slots-test.false ∙ c.deref-slot-items.ensures.value) c.slots.invariant);
  past = tt;
}
