use Rattle.std.proofs.Common.{◌≡◌, ◌∙◌, ◌&&◌, sym, ap, ℕ, Bool, true, false, not, ltb, leb, length, refl}
use Rattle.std.specs.Prelude.{slice_index}
use Rattle.std.proofs.lemmas.Bool.{le-ltb, lt-ltb, leb-true, leb-false}
use Rattle.pf_flow.proofs.cuts.leaves_reached.Goals as goal

not_below : (n k : ℕ) (b : Bool) → leb n k ≡ b → leb n k ≡ not (ltb k n)
not_below n k true e = e ∙ ap not (sym (le-ltb k n (leb-true n k e)))
not_below n k false e = e ∙ ap not (sym (lt-ltb k n (leb-false n k e)))

pub returns-then-levels-from : goal.returns-then-levels-from
returns-then-levels-from c =
    let levels = c.args.levels.now in
    not_below (length levels) (slice_index levels c.args.to) _ refl
    ∙ ap (λ b. b && not (ltb (slice_index levels c.args.to) (length levels))) (sym (lt-ltb (slice_index levels c.args.from) (length levels) c.if-levels-from.true))

pub returns-else-levels-from : goal.returns-else-levels-from
returns-else-levels-from c =
    let levels = c.args.levels.now in
    let far = le-ltb (slice_index levels c.args.from) (length levels) c.if-levels-from.false in
    far ∙ ap (λ b. b && not (ltb (slice_index levels c.args.to) (length levels))) (sym far)
