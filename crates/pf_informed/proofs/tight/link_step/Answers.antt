use Rattle.std.proofs.Common.{◌<◌, subst, arith, ℕ, length, inl, inr, nat_eq}
use Rattle.pf_base.specs.Walks.{HasNode}
use Rattle.pf_core.proofs.LabelLemmas.{HasLabel-inside}
use Rattle.pf_base.proofs.Outcomes.{on_ok}
use Rattle.pf_informed.specs.Internal.Chains.{before_in}
use Rattle.pf_informed.specs.Internal.Tight.{IsTightStep}
use Rattle.pf_informed.proofs.TightLemmas.{linked_in, linked_rows}
use Rattle.pf_informed.proofs.tight.link_step.Goals as goal

pub returns-then-not-is_tight-clause-linked : goal.returns-then-not-is_tight-clause-linked
returns-then-not-is_tight-clause-linked g c = λ j k. (
  (λ h. inl h),
  (λ h. elim h as (λ _. HasNode nat_eq (before_in c.args.before.now j) k) [
    | inl i ↦ i
    | inr e ↦ absurd (c.if-not-is_tight.ensures (subst (λ (n : ℕ). IsTightStep g.C.Number.value c.args.labels.now n (g.C.Number.value c.args.cost) c.args.price) e.1 e.2))
  ]),
)

pub link-requires : goal.link-requires
link-requires g c =
    let t = c.if-not-is_tight.ensures in
    omega (arith, HasLabel-inside c.args.labels.now c.args.next t.0 t.1, c.requires.rows.wide)

pub returns-clause-rows : goal.returns-clause-rows
returns-clause-rows g c =
    let t = c.if-not-is_tight.ensures in
    let inside : c.args.next < length c.args.before.now = omega (arith, HasLabel-inside c.args.labels.now c.args.next t.0 t.1, c.requires.rows.wide) in
    on_ok c.link.result c.link.ensures.linked (λ l. linked_rows c.args.before.now c.link.new.self c.args.next c.args.number inside l c.requires.rows)

pub returns-clause-linked : goal.returns-clause-linked
returns-clause-linked g c =
    let t = c.if-not-is_tight.ensures in
    let inside : c.args.next < length c.args.before.now = omega (arith, HasLabel-inside c.args.labels.now c.args.next t.0 t.1, c.requires.rows.wide) in
    on_ok c.link.result c.link.ensures.linked (λ l. linked_in c.args.before.now c.link.new.self c.args.next c.args.number inside l (λ j. IsTightStep g.C.Number.value c.args.labels.now j (g.C.Number.value c.args.cost) c.args.price) t)

pub returns-then-not-is_tight-clause-rows : goal.returns-then-not-is_tight-clause-rows
returns-then-not-is_tight-clause-rows g c = c.requires.rows
