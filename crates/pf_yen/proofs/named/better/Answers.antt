use Rattle.std.proofs.Common.{◌∙◌, sym, Some, None, true≢false}
use Rattle.pf_yen.specs.Internal.NamedWays.{is_first, IsBestFirst}
use Rattle.pf_yen.proofs.NamedLemmas.{best_kept, best_taken, kept_dearer}
use Rattle.pf_yen.proofs.named.better.Goals.{else-is_better-via-then-is_better+else-may_be_first, else-is_better-via-else-is_better}
use Rattle.pf_yen.proofs.named.better.Goals as goal

pub returns-in_default : goal.returns-in_default
returns-in_default g c = λ steps more keeps there from b.
    let s = c.args.filtered.now in
    best_kept g.C.Number.value (is_first s.onward.items s.spur s.banned) c.args.costs.now steps more c.args.next c.args.price keeps there from c.args.best (λ y k. absurd (rw c.in_default.is at c.cost_at.ensures y k)) b

pub returns-in_default-checked_add : goal.returns-in_default-checked_add
returns-in_default-checked_add g c =
    let known = rw c.in-Some.is at c.cost_at.ensures in
    let over = g.met.C.CheckedAdd.checked_add_law c.args.price c.in-Some.rest None (rw c.in_default-checked_add.is at c.checked_add.ensures) in
    absurd (over (c.requires.fits c.in-Some.rest known))

pub returns-then-may_be_first : goal.returns-then-may_be_first
returns-then-may_be_first g c = λ steps more keeps there from b.
    let s = c.args.filtered.now in
    let known = rw c.in-Some.is at c.cost_at.ensures in
    let adds = g.met.C.CheckedAdd.checked_add_law c.args.price c.in-Some.rest (Some c.in-Some-checked_add.sum) (rw c.in-Some-checked_add.is at c.checked_add.ensures) in
    best_taken g.C.Number.value (is_first s.onward.items s.spur s.banned) c.args.costs.now steps more c.args.next c.args.price keeps there from c.args.best c.in-Some.rest c.in-Some-checked_add.sum
    (sym c.may_be_first.ensures ∙ c.if-may_be_first.true) known adds.1 (rw c.if-is_better.true at c.is_better.ensures) b

pub returns-else-is_better : goal.returns-else-is_better
returns-else-is_better g c = λ steps more keeps there from b.
    let s = c.args.filtered.now in
    let value = g.C.Number.value in
    let first = is_first s.onward.items s.spur s.banned in
    let known = rw c.in-Some.is at c.cost_at.ensures in
    let adds = g.met.C.CheckedAdd.checked_add_law c.args.price c.in-Some.rest (Some c.in-Some-checked_add.sum) (rw c.in-Some-checked_add.is at c.checked_add.ensures) in
    elim c.else-is_better.branch as (λ _. IsBestFirst value first c.args.costs.now more c.args.best) [
      | else-is_better-via-then-is_better+else-may_be_first w ↦
          best_kept value first c.args.costs.now steps more c.args.next c.args.price keeps there from c.args.best (λ y k f. absurd (true≢false (sym f ∙ sym w.may_be_first.ensures ∙ w.if-may_be_first.false))) b
      | else-is_better-via-else-is_better w ↦
          let d = rw w.if-is_better.false at c.is_better.ensures in
          best_kept value first c.args.costs.now steps more c.args.next c.args.price keeps there from c.args.best (λ y k f. kept_dearer value c.args.costs.now c.args.best c.args.next c.args.price c.in-Some.rest y c.in-Some-checked_add.sum known k adds.1 d) b
    ]
