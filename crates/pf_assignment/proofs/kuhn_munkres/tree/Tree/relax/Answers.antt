use Rattle.std.proofs.Common.{◌<◌, refl, sym, subst, inl, inr, arith}
use Rattle.std.specs.Prelude.{◌≤ℤ◌, ◌<ℤ◌}
use Rattle.std.proofs.lemmas.Int.{ints}
use Rattle.std.proofs.lemmas.List.{get_or-set_same}
use Rattle.pf_assignment.proofs.MatchingNumbers.{number-at, number-set_same, number-set_other}
use Rattle.pf_assignment.proofs.kuhn_munkres.tree.Tree.relax.Goals as goal

pub returns-then-is_below-clause-here : goal.returns-then-is_below-clause-here
returns-then-is_below-clause-here g c =
    let value = g.C.Number.value in
    let e = number-at value c.args.self.now.distances.items c.args.column c.index.result.now (subst (λ n. c.args.column < n) (sym c.args.self.now.wide.0) c.requires.inside) c.index.ensures in
    let l : value c.args.through <ℤ value c.index.result.now = c.if-is_below.ensures in
    inr (
      number-set_same value c.args.self.now.distances.items c.args.column c.args.through (subst (λ n. c.args.column < n) (sym c.args.self.now.wide.0) c.requires.inside),
      get_or-set_same c.args.self.now.places.items c.args.column c.args.place 0 (subst (λ n. c.args.column < n) (sym c.args.self.now.wide.1) c.requires.inside),
      refl,
      omega (arith, ints, e, l),
    )

pub returns-then-is_below-clause-distances : goal.returns-then-is_below-clause-distances
returns-then-is_below-clause-distances g c = λ j h. number-set_other g.C.Number.value c.args.self.now.distances.items c.args.column j c.args.through h

pub returns-else-is_below-clause-here : goal.returns-else-is_below-clause-here
returns-else-is_below-clause-here g c =
    let value = g.C.Number.value in
    let e = number-at value c.args.self.now.distances.items c.args.column c.index.result.now (subst (λ n. c.args.column < n) (sym c.args.self.now.wide.0) c.requires.inside) c.index.ensures in
    let l : value c.index.result.now ≤ℤ value c.args.through = c.if-is_below.ensures in
    inl (refl, refl, inr (omega (arith, ints, e, l)))
