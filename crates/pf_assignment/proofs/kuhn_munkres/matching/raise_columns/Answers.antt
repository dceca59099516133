use Rattle.std.proofs.Common.{refl, ◌≡◌, ◌<◌, arith, ap, sym, subst, ◌∙◌, ℕ, true, false, length}
use Rattle.std.specs.Prelude.{◌-ℤ◌, ◌+ℤ◌, slice_set}
use Rattle.pf_base.specs.Places.{number}
use Rattle.pf_assignment.specs.Internal.AssignmentSteps.{flag, raised}
use Rattle.pf_assignment.proofs.MatchingNumbers.{number-at, number-set_same, number-set_other, below_written, raised_true, raised_false}
use Rattle.pf_assignment.proofs.kuhn_munkres.matching.raise_columns.Goals as goal
use Rattle.pf_assignment.proofs.kuhn_munkres.matching.raise_columns.Goals.{then-visited-column, else-visited-column}

pub minus-by-requires : goal.minus-by-requires
minus-by-requires g c =
    let n = number-at g.C.Number.value c.args.distances.now c.loop-column.column c.index-distances-column.result (omega arith) c.index-distances-column.is in
    let f : flag c.args.visited.now c.loop-column.column ≡ true = c.if-visited-column.true in
    subst (λ z. g.C.Number.fits (g.C.Number.value c.args.depth -ℤ z)) n (c.requires.difference c.loop-column.column (omega arith) f)

pub plus-requires : goal.plus-requires
plus-requires g c =
    let n = number-at g.C.Number.value c.args.distances.now c.loop-column.column c.index-distances-column.result (omega arith) c.index-distances-column.is in
    let m = number-at g.C.Number.value c.loop-column.potentials c.loop-column.column c.index-potentials-column.result (omega arith) c.index-potentials-column.is in
    let f : flag c.args.visited.now c.loop-column.column ≡ true = c.if-visited-column.true in
    let r = c.loop-column.invariant.rest c.loop-column.column (omega arith) in
    subst (λ z. g.C.Number.fits (z +ℤ g.C.Number.value c.minus-by.result)) (sym r ∙ m)
    (subst (λ z. g.C.Number.fits (number g.C.Number.value c.args.potentials.now c.loop-column.column +ℤ z)) (ap (λ z. g.C.Number.value c.args.depth -ℤ z) n ∙ sym c.minus-by.ensures) (c.requires.sum c.loop-column.column (omega arith) f))

pub loop-column-preserved : goal.loop-column-preserved
loop-column-preserved g c =
    let value = g.C.Number.value in
    let k = c.loop-column.column in
    let i = c.loop-column.invariant in
    let target = λ (j : ℕ). raised (flag c.args.visited.now j) (number value c.args.potentials.now j) (value c.args.depth -ℤ number value c.args.distances.now j) in
    let here : k < length c.loop-column.potentials = omega arith in
    let r = i.rest k (omega arith) in
    elim c.if-visited-column.branch [
      | then-visited-column w ↦ (
          let n = number-at value c.args.distances.now k w.index-distances-column.result (omega arith) w.index-distances-column.is in
          let m = number-at value c.loop-column.potentials k w.index-potentials-column.result here w.index-potentials-column.is in
          let f : flag c.args.visited.now k ≡ true = w.if-visited-column.true in
          let x = w.plus.result in
          let e : number value (slice_set c.loop-column.potentials k x) k ≡ target k =
          number-set_same value c.loop-column.potentials k x here ∙ w.plus.ensures ∙ ap (λ z. z +ℤ value w.minus-by.result) (sym m ∙ r) ∙ ap (λ z. number value c.args.potentials.now k +ℤ z) (w.minus-by.ensures ∙ ap (λ z. value c.args.depth -ℤ z) (sym n)) ∙ sym (raised_true (flag c.args.visited.now k) (number value c.args.potentials.now k) (value c.args.depth -ℤ number value c.args.distances.now k) f) in
          record {
            done = λ j h. ap (λ xs. number value xs j) w.potentials-is ∙ below_written (number value (slice_set c.loop-column.potentials k x)) (number value c.loop-column.potentials) target k e (λ j d. number-set_other value c.loop-column.potentials k j x d) i.done j h;
            rest = λ j h. ap (λ xs. number value xs j) w.potentials-is ∙ number-set_other value c.loop-column.potentials k j x (λ e. omega (arith, e, h)) ∙ i.rest j (omega (arith, h));
          }
          )
      | else-visited-column w ↦ (
          let f : flag c.args.visited.now k ≡ false = w.if-visited-column.false in
          let e : number value c.loop-column.potentials k ≡ target k = r ∙ sym (raised_false (flag c.args.visited.now k) (number value c.args.potentials.now k) (value c.args.depth -ℤ number value c.args.distances.now k) f) in
          record {
            done = λ j h. ap (λ xs. number value xs j) w.potentials-is ∙ below_written (number value c.loop-column.potentials) (number value c.loop-column.potentials) target k e (λ j d. refl) i.done j h;
            rest = λ j h. ap (λ xs. number value xs j) w.potentials-is ∙ i.rest j (omega (arith, h));
          }
          )
    ]
