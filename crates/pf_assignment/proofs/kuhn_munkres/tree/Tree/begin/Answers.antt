use Rattle.std.proofs.Common.{◌≡◌, ◌<◌, ◌++◌, ◌∷◌, [], arith, ap, sym, subst, ◌∙◌, ℕ, length}
use Rattle.std.specs.Prelude.{pos, ◌+ℤ◌, ◌-ℤ◌, slice_index}
use Rattle.pf_base.specs.Places.{number}
use Rattle.pf_assignment.specs.Internal.AssignmentSteps.{flag, IsFresh, IsScanned, IsTreeOf}
use Rattle.pf_assignment.proofs.MatchingBounds.{root_sum, root_difference}
use Rattle.pf_assignment.proofs.MatchingWeights.{IsInterval}
use Rattle.pf_assignment.proofs.MatchingTree.{tree_of_root}
use Rattle.std.proofs.lemmas.Result.{IfOk-from_err}
use Rattle.pf_base.proofs.Outcomes.{refused_by}
use Rattle.pf_assignment.proofs.kuhn_munkres.tree.Tree.begin.Goals as goal

pub scan-requires : goal.scan-requires
scan-requires g c =
    let value = g.C.Number.value in
    let next = c.requires.next in
    let interval : IsInterval g.C.Number.fits = λ x y z. g.C.Number.between_law x y z g.met.C.Integral.exact_law in
    let none : value c.zero.result ≡ pos 0 = ap value c.zero.ensures ∙ g.met.C.Zero.zero_law g.met.C.Integral.exact_law in
    let root : c.len-root.result ≡ length c.args.matching.now.column_of.items = c.len-root.ensures ∙ c.args.matching.now.column_of.ok.0 in
    let left = next.left in
    let shape = next.shape in
    record {
      inside = omega (arith, root, left);
      row_of = next.matched.wide;
      potentials = next.matched.columns;
      wide = c.clear-2.ensures.wide ∙ c.requires.wide;
      left = (0, omega (arith, left, shape), c.clear-2.ensures.fresh.unvisited 0);
      sum = λ j h f. root_sum g.C.Number.fits interval next (value c.zero.result) none j h;
      difference = λ j h f.
          subst (λ r. g.C.Number.fits (value c.zero.result +ℤ number value c.args.matching.now.column_potentials.items j -ℤ (g.W.Weights.table c.args.weights.now).at r j)) (sym root)
          (root_difference g.C.Number.fits interval next (value c.zero.result) none j h);
    }

pub returns : goal.returns
returns g c = record {
  tree =
      let value = g.C.Number.value in
      let t = g.W.Weights.table c.args.weights.now in
      let none : value c.zero.result ≡ pos 0 = ap value c.zero.ensures ∙ g.met.C.Zero.zero_law g.met.C.Integral.exact_law in
      let root : c.len-root.result ≡ length c.args.matching.now.column_of.items = c.len-root.ensures ∙ c.args.matching.now.column_of.ok.0 in
      let rows = c.in_ok-push.ensures.items ∙ ap (λ xs. xs ++ c.len-root.result ∷ []) c.clear.ensures.items ∙ ap (λ r. r ∷ []) root in
      let top = value g.C.Cost.greatest in
      let far = λ (j : ℕ) (h : j < t.columns). ((g.met.C.Cost.range_law (value c.zero.result +ℤ number value c.args.matching.now.column_potentials.items j -ℤ t.at (length c.args.matching.now.column_of.items) j)).0
      (root_difference g.C.Number.fits (λ x y z. g.C.Number.between_law x y z g.met.C.Integral.exact_law) c.requires.next (value c.zero.result) none j h)).1 in
      let fresh = subst (λ n. IsFresh top n (flag c.clear-2.new.self.visited.items) (number value c.clear-2.new.self.distances.items) (slice_index c.clear-2.new.self.places.items)) c.requires.wide c.clear-2.ensures.fresh in
      let scanned =
      subst (λ r. IsScanned t.at t.columns r 0 (value c.zero.result) (number value c.args.matching.now.column_potentials.items) (flag c.clear-2.new.self.visited.items) (number value c.clear-2.new.self.distances.items) (slice_index c.clear-2.new.self.places.items) (number value c.scan.new.self.distances.items) (slice_index c.scan.new.self.places.items)) root
      c.scan.ensures.scanned in
      record {
        tree = subst (λ xs. IsTreeOf value t c.args.matching.now.column_of.items c.args.matching.now.row_of.items c.args.matching.now.row_potentials.items c.args.matching.now.column_potentials.items xs c.scan.new.self.visited.items c.scan.new.self.distances.items c.scan.new.self.places.items) (sym (c.scan.ensures.rows ∙ c.clear-2.ensures.rows))
            (subst (λ xs. IsTreeOf value t c.args.matching.now.column_of.items c.args.matching.now.row_of.items c.args.matching.now.row_potentials.items c.args.matching.now.column_potentials.items c.push.new.self.items xs c.scan.new.self.distances.items c.scan.new.self.places.items) (sym c.scan.ensures.visited)
            (tree_of_root c.requires.next.matched c.push.new.self.items rows top (value c.zero.result) none far c.clear-2.new.self.visited.items c.clear-2.new.self.distances.items c.scan.new.self.distances.items c.clear-2.new.self.places.items c.scan.new.self.places.items fresh scanned (c.clear-2.ensures.wide ∙ c.requires.wide) (c.scan.new.self.wide.0 ∙ c.scan.ensures.wide) (c.scan.new.self.wide.1 ∙ c.scan.ensures.wide)));
        nearest = c.scan.ensures.nearest;
      };
  one = ap length (c.scan.ensures.rows ∙ c.clear-2.ensures.rows ∙ c.in_ok-push.ensures.items ∙ ap (λ xs. xs ++ c.len-root.result ∷ []) c.clear.ensures.items);
  wide = c.scan.ensures.wide;
  refused = tt;
}

pub returns-in_err-push : goal.returns-in_err-push
returns-in_err-push g c = record {
  tree = IfOk-from_err _ _ c.from_residual.ensures.0;
  one = IfOk-from_err _ _ c.from_residual.ensures.0;
  wide = c.requires.wide;
  refused = refused_by _ c.from_residual.result c.from_residual.ensures.1;
}
