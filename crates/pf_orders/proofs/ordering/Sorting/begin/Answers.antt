use Rattle.std.proofs.Common.{refl, ◌≡◌, ◌<◌, ◌++◌, ℕ, sym, subst, arith, inl, inr, List, [], ◌∷◌}
use Rattle.std.specs.Prelude.{Contains, reverse}
use Rattle.std.proofs.lemmas.Result.{IfOk-from_err}
use Rattle.pf_base.proofs.ListLemmas.{nat_dec, Contains-append_one, Contains-reverse}
use Rattle.pf_orders.specs.declared.ordering.Turn.{Turn}
use Rattle.pf_orders.specs.declared.ordering.Mark.TheVariants.{New}
use Rattle.pf_orders.proofs.ComponentLists.{resized_none}
use Rattle.pf_base.proofs.Outcomes.{refused_as}
use Rattle.pf_orders.proofs.OrderLemmas.{Contains-left, Contains-last, to_reverse}
use Rattle.pf_orders.proofs.ordering.Sorting.begin.Goals as goal

pub returns-in_err-resize : goal.returns-in_err-resize
returns-in_err-resize g c =
    let r = c.from_residual in
    record {
      begun = IfOk-from_err _ _ r.ensures.0;
      refused = refused_as _ r.result _ r.ensures.1 refl;
    }

pub returns-in_err-turns : goal.returns-in_err-turns
returns-in_err-turns g c =
    let r = c.from_residual-in_err-turns in
    record {
      begun = IfOk-from_err _ _ r.ensures.0;
      refused = refused_as _ r.result _ r.ensures.1 refl;
    }

pub roots-init : goal.roots-init
roots-init g c = record {
  marks = resized_none c.args.found _ c.new-marks.result.items _ New c.in_ok-resize.ensures.items c.new-marks.ensures.items c.new-marks.ensures.len;
  listed = λ k l. absurd (omega (arith, l));
  only = λ t h. absurd (let i = subst (λ (ts : List Turn). Contains ts t) c.in_ok-turns.ensures.items h in omega (arith, i.1));
}

pub returns-in_err-push : goal.returns-in_err-push
returns-in_err-push g c =
    let r = c.from_residual-in_err-push in
    record {
      begun = IfOk-from_err _ _ r.ensures.0;
      refused = refused_as _ r.result _ r.ensures.1 refl;
    }

pub roots-preserved : goal.roots-preserved
roots-preserved g c =
    let old = c.roots.turns.items in
    let root = c.roots.root in
    let e : c.push.new.self.items ≡ old ++ Turn.Enter root ∷ [] = c.in_ok-push.ensures.items in
    record {
      marks = c.roots.invariant.marks;
      listed = λ k l. subst (λ (ts : List Turn). Contains ts (Turn.Enter k)) (sym e) (elim (nat_dec k root) as (λ _. Contains (old ++ Turn.Enter root ∷ []) (Turn.Enter k)) [
        | inl q ↦ subst (λ (i : ℕ). Contains (old ++ Turn.Enter root ∷ []) (Turn.Enter i)) (sym q) (Contains-last old (Turn.Enter root))
        | inr n ↦ Contains-left old (Turn.Enter root ∷ []) (Turn.Enter k) (c.roots.invariant.listed k (omega (arith, l, n)))
      ]);
      only = λ t h. elim (Contains-append_one old (Turn.Enter root) t (subst (λ (ts : List Turn). Contains ts t) e h)) as (λ _. (k : ℕ) × (k < c.args.found) × (t ≡ Turn.Enter k)) [
        | inl i ↦ c.roots.invariant.only t i
        | inr q ↦ (root, omega (arith, c.roots-test.true, c.roots.auto.root-end), sym q)
      ];
    }

pub returns : goal.returns
returns g c =
    let e : c.reverse.new.self.items ≡ reverse c.roots.turns.items = c.reverse.ensures.items in
    record {
      begun = record {
        marks = c.roots.invariant.marks;
        turns = (
          (λ k l. subst (λ (ts : List Turn). Contains ts (Turn.Enter k)) (sym e) (to_reverse c.roots.turns.items (Turn.Enter k) (c.roots.invariant.listed k (omega (arith, l, c.roots-test.false, c.roots.auto.root-end))))),
          (λ t h. c.roots.invariant.only t (Contains-reverse c.roots.turns.items t (subst (λ (ts : List Turn). Contains ts t) e h))),
        );
        left = c.new.ensures.items;
      };
      refused = tt;
    }
