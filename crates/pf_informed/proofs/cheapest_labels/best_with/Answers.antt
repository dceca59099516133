use Rattle.std.proofs.Common.{◌≡◌, ◌∙◌, Option, None, Some, is_some, true≢false, false, sym, ap, subst, refl, inl, inr}
use Rattle.pf_core.proofs.SearchLemmas.{Grows-refl}
use Rattle.pf_informed.proofs.cheapest_labels.best_with.Goals as goal

none_is : {A : Type 0} (o : Option A) → is_some o ≡ false → o ≡ None
none_is None e = refl
none_is (Some x) e = absurd (true≢false e)

apart : {A : Type 0} (x : A) → Some x ≡ None → ⊥
apart x e = cc

joined : {A : Type 0} (x y : A) → Some x ≡ Some y → x ≡ y
joined x y e = cc

pub is_goal-requires : goal.is_goal-requires
is_goal-requires g c = record { inside = c.requires.inside; graph = c.requires.graph }

pub returns-then-is_some : goal.returns-then-is_some
returns-then-is_some g c = record {
  grows = Grows-refl _ _;
  same = refl;
  graph = λ h x. x;
  «open» = λ e. absurd (true≢false (sym (sym c.is_some.ensures ∙ c.if-is_some.true) ∙ ap is_some e));
  found = λ b is. inl is;
}

pub returns-then-is_goal : goal.returns-then-is_goal
returns-then-is_goal g c =
    let none : c.args.best ≡ None = none_is c.args.best (sym c.is_some.ensures ∙ c.if-is_some.false) in
    record {
      grows = c.is_goal.ensures.grows;
      same = c.is_goal.ensures.same;
      graph = λ h x. (c.is_goal.ensures.graph h x).0;
      «open» = λ e. absurd (apart c.args.cost e);
      found = λ b is.
          let same = joined c.args.cost b is in
          inr (none, sym same, subst (λ (q : g.row.C.Denot). g.C.Number.fits (g.C.Number.value q)) same c.known.ensures, λ h y x s. sym ((c.is_goal.ensures.graph h x).1 y s) ∙ c.if-is_goal.true);
    }

pub returns : goal.returns
returns g c =
    let none : c.args.best ≡ None = none_is c.args.best (sym c.is_some.ensures ∙ c.if-is_some.false) in
    record {
      grows = c.is_goal.ensures.grows;
      same = c.is_goal.ensures.same;
      graph = λ h x. (c.is_goal.ensures.graph h x).0;
      «open» = λ e. (none, λ h y x s. sym ((c.is_goal.ensures.graph h x).1 y s) ∙ c.if-is_goal.false);
      found = λ b is. absurd (apart b (sym is));
    }
