use Rattle.std.proofs.Common.{arith}
use Rattle.std.specs.Prelude.{◌≤ℤ◌, ◌<ℤ◌}
use Rattle.std.proofs.lemmas.Int.{ints}
use Rattle.pf_assignment.proofs.MatchingNumbers.{number-at, level_means}
use Rattle.pf_assignment.proofs.kuhn_munkres.tree.Tree.is_nearer.Goals as goal

pub returns-then-is_below : goal.returns-then-is_below
returns-then-is_below g c =
    let e = number-at g.C.Number.value c.args.self.now.distances.items c.args.column c.index-here.result.now c.requires.first c.index-here.ensures in
    let f = number-at g.C.Number.value c.args.self.now.distances.items c.args.other c.index-there.result.now c.requires.second c.index-there.ensures in
    let l : g.C.Number.value c.index-here.result.now <ℤ g.C.Number.value c.index-there.result.now = c.if-is_below.ensures in
    omega (arith, ints, e, f, l)

pub returns-then-is_below-2 : goal.returns-then-is_below-2
returns-then-is_below-2 g c =
    let e = number-at g.C.Number.value c.args.self.now.distances.items c.args.column c.index-here.result.now c.requires.first c.index-here.ensures in
    let f = number-at g.C.Number.value c.args.self.now.distances.items c.args.other c.index-there.result.now c.requires.second c.index-there.ensures in
    let l : g.C.Number.value c.index-there.result.now <ℤ g.C.Number.value c.index-here.result.now = c.if-is_below-2.ensures in
    omega (arith, ints, e, f, l)

pub returns-else-is_below-2 : goal.returns-else-is_below-2
returns-else-is_below-2 g c =
    let e = number-at g.C.Number.value c.args.self.now.distances.items c.args.column c.index-here.result.now c.requires.first c.index-here.ensures in
    let f = number-at g.C.Number.value c.args.self.now.distances.items c.args.other c.index-there.result.now c.requires.second c.index-there.ensures in
    let l : g.C.Number.value c.index-there.result.now ≤ℤ g.C.Number.value c.index-here.result.now = c.if-is_below.ensures in
    let m : g.C.Number.value c.index-here.result.now ≤ℤ g.C.Number.value c.index-there.result.now = c.if-is_below-2.ensures in
    level_means c.is_none.result _ _ (omega (arith, ints, e, f, m)) (omega (arith, ints, e, f, l))
