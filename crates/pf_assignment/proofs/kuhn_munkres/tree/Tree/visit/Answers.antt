use Rattle.std.proofs.Common.{◌≡◌, ◌<◌, arith, ap, sym, subst, ◌∙◌, ◌∷◌, [], length, length-set, true, false, Some, None}
use Rattle.std.specs.Prelude.{◌+ℤ◌, slice_index, slice_set}
use Rattle.std.proofs.lemmas.List.{get_or-set_other, length-append}
use Rattle.pf_base.specs.Places.{number}
use Rattle.pf_assignment.specs.Internal.AssignmentSteps.{holder, flag, IsScanned, IsTreeOf}
use Rattle.pf_assignment.proofs.MatchingNumbers.{number-at}
use Rattle.pf_assignment.proofs.MatchingBounds.{free, unvisited, row_sum, path_sum, path_difference}
use Rattle.pf_assignment.proofs.MatchingWeights.{IsInterval}
use Rattle.pf_assignment.proofs.MatchingTree.{tree_of_more}
use Rattle.std.proofs.lemmas.Result.{IfOk-from_err}
use Rattle.pf_base.proofs.Outcomes.{refused_by}
use Rattle.pf_assignment.proofs.kuhn_munkres.tree.Tree.visit.Goals as goal

pub index-requires-2 : goal.index-requires-2
index-requires-2 g c =
    let o = (c.requires.next.matched.matching.from c.args.row c.args.column c.requires.row).0 in
    let r = c.requires.next.matched.rows in
    let l : c.args.row < length c.args.matching.now.row_potentials.items = omega (arith, o, r) in
    subst (λ n. c.args.row < n) (sym c.args.matching.now.row_potentials.ok.0) l

pub plus-offset-requires : goal.plus-offset-requires
plus-offset-requires g c =
    let value = g.C.Number.value in
    let o = (c.requires.next.matched.matching.from c.args.row c.args.column c.requires.row).0 in
    let r = c.requires.next.matched.rows in
    let n = number-at value c.args.matching.now.row_potentials.items c.args.row c.index-2.result.now (omega (arith, o, r)) c.index-2.ensures in
    let i = c.requires.tree.nearest.inside in
    let q = c.requires.tree.tree.distances_len in
    let m = number-at value c.args.self.now.distances.items c.args.column c.index.result.now (omega (arith, i, q)) c.index.ensures in
    subst (λ z. g.C.Number.fits (value c.index.result.now +ℤ z)) n
    (subst (λ z. g.C.Number.fits (z +ℤ number value c.args.matching.now.row_potentials.items c.args.row)) m
    (row_sum g.C.Number.fits (λ x y z. g.C.Number.between_law x y z g.met.C.Integral.exact_law) c.requires.next c.requires.tree.tree c.args.column c.requires.tree.nearest c.args.row o))

pub scan-requires : goal.scan-requires
scan-requires g c =
    let value = g.C.Number.value in
    let next = c.requires.next in
    let tree = c.requires.tree.tree in
    let nearest = c.requires.tree.nearest in
    let interval : IsInterval g.C.Number.fits = λ x y z. g.C.Number.between_law x y z g.met.C.Integral.exact_law in
    let o = (next.matched.matching.from c.args.row c.args.column c.requires.row).0 in
    let l = next.left in
    let r = next.matched.rows in
    let n = number-at value c.args.matching.now.row_potentials.items c.args.row c.index-2.result.now (omega (arith, o, r)) c.index-2.ensures in
    let i = nearest.inside in
    let q = tree.distances_len in
    let m = number-at value c.args.self.now.distances.items c.args.column c.index.result.now (omega (arith, i, q)) c.index.ensures in
    let sum : value c.plus-offset.result ≡ number value c.args.self.now.distances.items c.args.column +ℤ number value c.args.matching.now.row_potentials.items c.args.row = c.plus-offset.ensures ∙ ap (λ z. z +ℤ value c.index-2.result.now) (sym m) ∙ ap (λ z. number value c.args.self.now.distances.items c.args.column +ℤ z) (sym n) in
    let f = free g.C.Number.fits interval next in
    let u = unvisited g.C.Number.fits interval next tree f.0 f.2 in
    record {
      inside = omega (arith, o, l);
      row_of = next.matched.wide;
      potentials = next.matched.columns;
      wide = length-set c.args.self.now.visited.items c.args.column true ∙ tree.visited_len;
      left = (f.0, f.1, get_or-set_other c.args.self.now.visited.items c.args.column f.0 true false (λ e. absurd (let k : Some c.args.row ≡ None = sym c.requires.row ∙ ap (holder c.args.matching.now.row_of.items) (sym e) ∙ f.2 in cc)) ∙ u);
      sum = λ j h f. path_sum g.C.Number.fits interval next tree c.args.column nearest c.args.row o (value c.plus-offset.result) sum j h;
      difference = λ j h f. path_difference g.C.Number.fits interval next tree c.args.column nearest c.args.row o (value c.plus-offset.result) sum j h;
    }

pub returns : goal.returns
returns g c = record {
  tree =
      let value = g.C.Number.value in
      let t = g.W.Weights.table c.args.weights.now in
      let o = (c.requires.next.matched.matching.from c.args.row c.args.column c.requires.row).0 in
      let r = c.requires.next.matched.rows in
      let n = number-at value c.args.matching.now.row_potentials.items c.args.row c.index-2.result.now (omega (arith, o, r)) c.index-2.ensures in
      let i = c.requires.tree.nearest.inside in
      let q = c.requires.tree.tree.distances_len in
      let m = number-at value c.args.self.now.distances.items c.args.column c.index.result.now (omega (arith, i, q)) c.index.ensures in
      let sum : value c.plus-offset.result ≡ number value c.args.self.now.distances.items c.args.column +ℤ number value c.args.matching.now.row_potentials.items c.args.row = c.plus-offset.ensures ∙ ap (λ z. z +ℤ value c.index-2.result.now) (sym m) ∙ ap (λ z. number value c.args.self.now.distances.items c.args.column +ℤ z) (sym n) in
      let count : c.len-place.result ≡ length c.args.self.now.rows.items = c.len-place.ensures ∙ c.args.self.now.rows.ok.0 in
      let scanned =
      subst (λ k. IsScanned t.at t.columns c.args.row k (value c.plus-offset.result) (number value c.args.matching.now.column_potentials.items) (flag (slice_set c.args.self.now.visited.items c.args.column true)) (number value c.args.self.now.distances.items) (slice_index c.args.self.now.places.items) (number value c.scan.new.self.distances.items) (slice_index c.scan.new.self.places.items)) count
      c.scan.ensures.scanned in
      let m = c.args.matching.now in
      record {
        tree = subst (λ xs. IsTreeOf value t m.column_of.items m.row_of.items m.row_potentials.items m.column_potentials.items xs c.scan.new.self.visited.items c.scan.new.self.distances.items c.scan.new.self.places.items) (sym c.scan.ensures.rows)
            (subst (λ xs. IsTreeOf value t m.column_of.items m.row_of.items m.row_potentials.items m.column_potentials.items c.push.new.self.items xs c.scan.new.self.distances.items c.scan.new.self.places.items) (sym c.scan.ensures.visited)
            (tree_of_more c.requires.next.matched c.args.self.now.rows.items c.args.self.now.visited.items c.args.self.now.distances.items c.args.self.now.places.items c.requires.tree.tree c.args.column c.args.row c.requires.tree.nearest c.requires.row (value c.plus-offset.result) sum c.push.new.self.items c.in_ok-push.ensures.items c.scan.new.self.distances.items c.scan.new.self.places.items scanned (length-set c.args.self.now.visited.items c.args.column true ∙ c.requires.tree.tree.visited_len) (c.scan.new.self.wide.0 ∙ c.scan.ensures.wide) (c.scan.new.self.wide.1 ∙ c.scan.ensures.wide)));
        nearest = c.scan.ensures.nearest;
      };
  more = ap length c.scan.ensures.rows ∙ ap length c.in_ok-push.ensures.items ∙ length-append c.args.self.now.rows.items (c.args.row ∷ []);
  wide = c.scan.ensures.wide;
  refused = tt;
}

pub returns-in_err-push : goal.returns-in_err-push
returns-in_err-push g c = record {
  tree = IfOk-from_err _ _ c.from_residual.ensures.0;
  more = IfOk-from_err _ _ c.from_residual.ensures.0;
  wide = c.requires.tree.tree.visited_len;
  refused = refused_by _ c.from_residual.result c.from_residual.ensures.1;
}
