use Rattle.std.proofs.Common.{refl, ◌≡◌, ◌<◌, arith, ap, sym, subst, ◌∙◌, ℕ, true, false, length}
use Rattle.std.specs.Prelude.{◌-ℤ◌, ◌+ℤ◌, neg_ℤ, slice_set, slice_index}
use Rattle.std.proofs.lemmas.Int.{ints}
use Rattle.pf_base.specs.Places.{number}
use Rattle.pf_assignment.specs.Internal.AssignmentSteps.{flag, raised}
use Rattle.pf_assignment.proofs.MatchingNumbers.{number-at, number-set_same, number-set_other, below_written, raised_true, raised_false}
use Rattle.pf_assignment.proofs.kuhn_munkres.matching.lower_rows.Goals as goal
use Rattle.pf_assignment.proofs.kuhn_munkres.matching.lower_rows.Goals.{then-visited-column, else-visited-column}

pub minus-by-requires : goal.minus-by-requires
minus-by-requires g c =
    let k = c.loop-row.row in
    let q = slice_index c.args.column_of.now k in
    let inside = c.requires.columns k (omega arith) in
    let n = number-at g.C.Number.value c.args.distances.now q c.index-distances-column.result (omega (arith, inside)) c.index-distances-column.is in
    let f : flag c.args.visited.now q ≡ true = c.if-visited-column.true in
    subst (λ z. g.C.Number.fits (g.C.Number.value c.args.depth -ℤ z)) n (c.requires.difference q inside f)

pub minus-requires : goal.minus-requires
minus-requires g c =
    let k = c.loop-row.row in
    let q = slice_index c.args.column_of.now k in
    let inside = c.requires.columns k (omega arith) in
    let n = number-at g.C.Number.value c.args.distances.now q c.index-distances-column.result (omega (arith, inside)) c.index-distances-column.is in
    let m = number-at g.C.Number.value c.loop-row.potentials k c.index-potentials-row.result (omega arith) c.index-potentials-row.is in
    let f : flag c.args.visited.now q ≡ true = c.if-visited-column.true in
    let r = c.loop-row.invariant.rest k (omega arith) in
    subst (λ z. g.C.Number.fits (z -ℤ g.C.Number.value c.minus-by.result)) (sym r ∙ m)
    (subst (λ z. g.C.Number.fits (number g.C.Number.value c.args.potentials.now k -ℤ z)) (ap (λ z. g.C.Number.value c.args.depth -ℤ z) n ∙ sym c.minus-by.ensures) (c.requires.rest k (omega arith) f))

pub loop-row-preserved : goal.loop-row-preserved
loop-row-preserved g c =
    let value = g.C.Number.value in
    let k = c.loop-row.row in
    let q = slice_index c.args.column_of.now k in
    let inside = c.requires.columns k (omega arith) in
    let i = c.loop-row.invariant in
    let by = λ (j : ℕ). neg_ℤ (value c.args.depth -ℤ number value c.args.distances.now (slice_index c.args.column_of.now j)) in
    let target = λ (j : ℕ). raised (flag c.args.visited.now (slice_index c.args.column_of.now j)) (number value c.args.potentials.now j) (by j) in
    let here : k < length c.loop-row.potentials = omega arith in
    let r = i.rest k (omega arith) in
    elim c.if-visited-column.branch [
      | then-visited-column w ↦ (
          let n = number-at value c.args.distances.now q w.index-distances-column.result (omega (arith, inside)) w.index-distances-column.is in
          let m = number-at value c.loop-row.potentials k w.index-potentials-row.result here w.index-potentials-row.is in
          let f : flag c.args.visited.now q ≡ true = w.if-visited-column.true in
          let x = w.minus.result in
          let s = w.minus.ensures in
          let b = w.minus-by.ensures in
          let o : value x ≡ number value c.args.potentials.now k +ℤ by k = omega (arith, ints, s, b, n, m, r) in
          let e : number value (slice_set c.loop-row.potentials k x) k ≡ target k =
          number-set_same value c.loop-row.potentials k x here ∙ o ∙ sym (raised_true (flag c.args.visited.now q) (number value c.args.potentials.now k) (by k) f) in
          record {
            done = λ j h. ap (λ xs. number value xs j) w.potentials-is ∙ below_written (number value (slice_set c.loop-row.potentials k x)) (number value c.loop-row.potentials) target k e (λ j d. number-set_other value c.loop-row.potentials k j x d) i.done j h;
            rest = λ j h. ap (λ xs. number value xs j) w.potentials-is ∙ number-set_other value c.loop-row.potentials k j x (λ e. omega (arith, e, h)) ∙ i.rest j (omega (arith, h));
          }
          )
      | else-visited-column w ↦ (
          let f : flag c.args.visited.now q ≡ false = w.if-visited-column.false in
          let e : number value c.loop-row.potentials k ≡ target k = r ∙ sym (raised_false (flag c.args.visited.now q) (number value c.args.potentials.now k) (by k) f) in
          record {
            done = λ j h. ap (λ xs. number value xs j) w.potentials-is ∙ below_written (number value c.loop-row.potentials) (number value c.loop-row.potentials) target k e (λ j d. refl) i.done j h;
            rest = λ j h. ap (λ xs. number value xs j) w.potentials-is ∙ i.rest j (omega (arith, h));
          }
          )
    ]
