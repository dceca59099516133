use Rattle.std.proofs.Common.{rules, ℕ, ◌≡◌, ◌<◌, ◌+◌, refl, sym, subst, arith, ap, ◌∙◌, Some, None, false, true, length, Option, ◌≤◌, true≢false}
use Rattle.std.specs.Prelude.{slice_index, ◌+ℤ◌, ◌-ℤ◌, is_some}
use Rattle.std.proofs.lemmas.List.{get_or_default}
use Rattle.pf_base.specs.Places.{number}
use Rattle.pf_assignment.specs.Internal.AssignmentSteps.{flag, IsRelaxed, IsNearest}
use Rattle.pf_assignment.proofs.MatchingNumbers.{number-at}
use Rattle.pf_assignment.proofs.MatchingScan.{IsScannedTo, scan_skips, scan_relaxes, scan_nearest}
use Rattle.pf_assignment.proofs.kuhn_munkres.tree.Tree.scan.Goals as goal
use Rattle.pf_assignment.proofs.kuhn_munkres.tree.Tree.scan.Goals.{then-not-index, else-not-index}

pub plus-bound-requires : goal.plus-bound-requires
plus-bound-requires g c =
    let n = number-at g.C.Number.value c.args.matching.now.column_potentials.items c.loop-column.column c.index-then-not-index.result.now (omega arith) c.index-then-not-index.ensures in
    let f : flag c.args.self.now.visited.items c.loop-column.column ≡ false = subst (λ xs. flag xs c.loop-column.column ≡ false) c.loop-column.invariant.visited (search rules) in
    subst (λ z. g.C.Number.fits (g.C.Number.value c.args.offset +ℤ z)) n (c.requires.sum c.loop-column.column (omega arith) f)

pub minus-through-requires : goal.minus-through-requires
minus-through-requires g c =
    let n = number-at g.C.Number.value c.args.matching.now.column_potentials.items c.loop-column.column c.index-then-not-index.result.now (omega arith) c.index-then-not-index.ensures in
    let f : flag c.args.self.now.visited.items c.loop-column.column ≡ false = subst (λ xs. flag xs c.loop-column.column ≡ false) c.loop-column.invariant.visited (search rules) in
    let e : g.C.Number.value c.args.offset +ℤ number g.C.Number.value c.args.matching.now.column_potentials.items c.loop-column.column ≡ g.C.Number.value c.plus-bound.result = ap (λ z. g.C.Number.value c.args.offset +ℤ z) n ∙ sym c.plus-bound.ensures in
    subst (λ z. g.C.Number.fits (z -ℤ g.C.Number.value c.at.result)) e
    (subst (λ z. g.C.Number.fits (g.C.Number.value c.args.offset +ℤ number g.C.Number.value c.args.matching.now.column_potentials.items c.loop-column.column -ℤ z)) (sym c.at.ensures) (c.requires.difference c.loop-column.column (omega arith) f))

pub nearer-requires-clause-other : goal.nearer-requires-clause-other
nearer-requires-clause-other g c = λ n e. let l = (c.loop-column.invariant.scanned.some n e).0 in let d : length c.relax.new.self.distances.items ≡ (g.W.Weights.table c.args.weights.now).columns = c.relax.new.self.wide.0 ∙ ap length (c.relax.ensures.visited ∙ c.loop-column.invariant.visited) ∙ c.requires.wide in omega (arith, l, d)

pub loop-column-preserved : goal.loop-column-preserved
loop-column-preserved g c =
    let value = g.C.Number.value in
    let i = c.loop-column.invariant in
    let k = c.loop-column.column in
    let through = λ (j : ℕ). value c.args.offset +ℤ number value c.args.matching.now.column_potentials.items j -ℤ (g.W.Weights.table c.args.weights.now).at c.args.row j in
    elim c.if-not-index.branch [
      | then-not-index w ↦ (
          let f : flag c.args.self.now.visited.items k ≡ false = subst (λ xs. flag xs k ≡ false) i.visited (search rules) in
          let n = number-at value c.args.matching.now.column_potentials.items k w.index-then-not-index.result.now (omega arith) w.index-then-not-index.ensures in
          let e : value w.minus-through.result ≡ through k = w.minus-through.ensures ∙ ap (λ z. z -ℤ value w.at.result) (w.plus-bound.ensures ∙ ap (λ z. value c.args.offset +ℤ z) (sym n)) ∙ ap (λ z. value c.args.offset +ℤ number value c.args.matching.now.column_potentials.items k -ℤ z) w.at.ensures in
          let so = scan_relaxes through c.args.place (flag c.args.self.now.visited.items) (number value c.args.self.now.distances.items) (slice_index c.args.self.now.places.items) k (number value c.loop-column.self.distances.items) (slice_index c.loop-column.self.places.items) c.loop-column.nearest i.scanned f (number value w.relax.new.self.distances.items) (slice_index w.relax.new.self.places.items)
          (subst (λ z. IsRelaxed false z c.args.place (number value c.loop-column.self.distances.items k) (slice_index c.loop-column.self.places.items k) (number value w.relax.new.self.distances.items k) (slice_index w.relax.new.self.places.items k)) e w.relax.ensures.here) w.relax.ensures.distances w.relax.ensures.places w.nearer.result w.nearer.ensures.one w.nearer.ensures.here w.nearer.ensures.before in
          record {
            scanned = subst (λ t. IsScannedTo (k + 1) through c.args.place (flag c.args.self.now.visited.items) (number value c.args.self.now.distances.items) (slice_index c.args.self.now.places.items) (number value t.distances.items) (slice_index t.places.items) c.if-not-index.nearest) (sym w.self-is)
                (subst (λ o. IsScannedTo (k + 1) through c.args.place (flag c.args.self.now.visited.items) (number value c.args.self.now.distances.items) (slice_index c.args.self.now.places.items) (number value w.relax.new.self.distances.items) (slice_index w.relax.new.self.places.items) o) (sym w.nearest-is) so);
            rows = subst (λ t. t.rows.items ≡ c.args.self.now.rows.items) (sym w.self-is) (w.relax.ensures.rows ∙ i.rows);
            visited = subst (λ t. t.visited.items ≡ c.args.self.now.visited.items) (sym w.self-is) (w.relax.ensures.visited ∙ i.visited);
          }
          )
      | else-not-index w ↦ (
          let seen : c.index.result.now ≡ true = search rules in
          let f : flag c.args.self.now.visited.items k ≡ true = subst (λ xs. flag xs k ≡ true) i.visited (get_or_default c.loop-column.self.visited.items k false c.index.result.now (omega (arith, ap length i.visited)) ∙ sym c.index.ensures ∙ seen) in
          let so = scan_skips through c.args.place (flag c.args.self.now.visited.items) (number value c.args.self.now.distances.items) (slice_index c.args.self.now.places.items) k (number value c.loop-column.self.distances.items) (slice_index c.loop-column.self.places.items) c.loop-column.nearest i.scanned f in
          record {
            scanned = subst (λ t. IsScannedTo (k + 1) through c.args.place (flag c.args.self.now.visited.items) (number value c.args.self.now.distances.items) (slice_index c.args.self.now.places.items) (number value t.distances.items) (slice_index t.places.items) c.if-not-index.nearest) (sym w.self-is)
                (subst (λ o. IsScannedTo (k + 1) through c.args.place (flag c.args.self.now.visited.items) (number value c.args.self.now.distances.items) (slice_index c.args.self.now.places.items) (number value c.loop-column.self.distances.items) (slice_index c.loop-column.self.places.items) o) (sym w.nearest-is) so);
            rows = subst (λ t. t.rows.items ≡ c.args.self.now.rows.items) (sym w.self-is) i.rows;
            visited = subst (λ t. t.visited.items ≡ c.args.self.now.visited.items) (sym w.self-is) i.visited;
          }
          )
    ]

pub loop-column-init : goal.loop-column-init
loop-column-init g c = record {
  scanned = record {
    relaxed = λ j h. absurd (omega (arith, h));
    distances = λ j h. refl;
    places = λ j h. refl;
    none = λ e j h. absurd (omega (arith, h));
    some = λ n e. absurd (let none : None ≡ Some n = e in cc);
  };
  rows = refl;
  visited = refl;
}

pub returns : goal.returns
returns g c = record {
  nearest =
      let value = g.C.Number.value in
      let k = c.loop-column.column in
      let through = λ (j : ℕ). value c.args.offset +ℤ number value c.args.matching.now.column_potentials.items j -ℤ (g.W.Weights.table c.args.weights.now).at c.args.row j in
      let e : k ≡ (g.W.Weights.table c.args.weights.now).columns = omega arith in
      subst (λ n. IsNearest n (flag c.loop-column.self.visited.items) (number value c.loop-column.self.distances.items) c.unwrap.result) e
      (subst (λ xs. IsNearest k (flag xs) (number value c.loop-column.self.distances.items) c.unwrap.result) (sym c.loop-column.invariant.visited)
      (scan_nearest through c.args.place (flag c.args.self.now.visited.items) (number value c.args.self.now.distances.items) (slice_index c.args.self.now.places.items) k (number value c.loop-column.self.distances.items) (slice_index c.loop-column.self.places.items) c.loop-column.nearest c.loop-column.invariant.scanned c.unwrap.result c.unwrap.ensures));
  scanned =
      let e : c.loop-column.column ≡ (g.W.Weights.table c.args.weights.now).columns = omega arith in
      record { relaxed = λ j h. c.loop-column.invariant.scanned.relaxed j (subst (λ (n : ℕ). j < n) (sym e) h) };
  rows = c.loop-column.invariant.rows;
  visited = c.loop-column.invariant.visited;
  wide = ap length c.loop-column.invariant.visited ∙ c.requires.wide;
}

some_of : {T : Type 0} (o : Option T) → ¬ (o ≡ None) → is_some o ≡ true
some_of None h = absurd (h refl)
some_of (Some x) h = refl

below_end : (j end k : ℕ) → j < end → end ≤ k → j < k
below_end j end k l h = omega arith

pub unwrap-requires : goal.unwrap-requires
unwrap-requires g c =
    let left = c.requires.left in
    let within = subst (λ (n : ℕ). left.0 < n) (sym c.columns-column-end.ensures) left.1 in
    some_of c.loop-column.nearest (λ e. true≢false (sym (c.loop-column.invariant.scanned.none e left.0 (below_end _ _ _ within c.loop-column-test.false)) ∙ left.2))

pub relax-requires : goal.relax-requires
relax-requires g c = record { inside = subst (λ (n : ℕ). c.loop-column.column < n) (sym (ap length c.loop-column.invariant.visited ∙ c.requires.wide)) (subst (λ (n : ℕ). c.loop-column.column < n) c.columns-column-end.ensures c.loop-column-test.true) }

pub nearer-requires-clause-inside : goal.nearer-requires-clause-inside
nearer-requires-clause-inside g c = subst (λ (n : ℕ). c.loop-column.column < n) (sym (c.relax.new.self.wide.0 ∙ ap length (c.relax.ensures.visited ∙ c.loop-column.invariant.visited) ∙ c.requires.wide)) (subst (λ (n : ℕ). c.loop-column.column < n) c.columns-column-end.ensures c.loop-column-test.true)

pub nearer-requires-clause-wide : goal.nearer-requires-clause-wide
nearer-requires-clause-wide g c = ap length c.deref.ensures.value ∙ c.requires.row_of ∙ sym (c.relax.new.self.wide.0 ∙ ap length (c.relax.ensures.visited ∙ c.loop-column.invariant.visited) ∙ c.requires.wide)
