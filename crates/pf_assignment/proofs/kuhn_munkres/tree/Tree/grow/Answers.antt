use Rattle.std.proofs.Common.{arith}
use Rattle.pf_assignment.proofs.MatchingTree.{tree_count}
use Rattle.pf_base.proofs.Outcomes.{if_refused, refused_as}
use Rattle.pf_assignment.proofs.kuhn_munkres.tree.Tree.grow.Goals as goal

pub returns-in_err-column-2 : goal.returns-in_err-column-2
returns-in_err-column-2 g c =
    let e = c.in_err-column-2.ensures in
    let i = c.visits.invariant in
    let t = i.rounds in
    let k = tree_count c.requires.next.matched i.tree.tree in
    record {
      tree = if_refused _ c.from_residual-in_err-column-2.result _ c.from_residual-in_err-column-2.ensures.1;
      free = if_refused _ c.from_residual-in_err-column-2.result _ c.from_residual-in_err-column-2.ensures.1;
      wide = e.wide;
      refused = refused_as _ c.from_residual-in_err-column-2.result _ c.from_residual-in_err-column-2.ensures.1 e.refused;
      ticked = i.ticked;
      rounds = omega (arith, t, k);
    }

pub visits-smaller : goal.visits-smaller
visits-smaller g c =
    let k = tree_count c.requires.next.matched c.visits.invariant.tree.tree in
    let l = tree_count c.requires.next.matched c.in_ok-column-2.ensures.tree.tree in
    let m = c.in_ok-column-2.ensures.more in
    omega (arith, l, m)

pub returns-clause-rounds : goal.returns-clause-rounds
returns-clause-rounds g c =
    let t = c.visits.invariant.rounds in
    let k = tree_count c.requires.next.matched c.visits.invariant.tree.tree in
    omega (arith, t, k)

pub visits-init : goal.visits-init
visits-init g c =
    let e = c.in_ok-column.ensures in
    let one = e.one in
    record { tree = e.tree; ticked = omega arith; rounds = omega (arith, one) }

pub visits-preserved : goal.visits-preserved
visits-preserved g c =
    let e = c.in_ok-column-2.ensures in
    let i = c.visits.invariant in
    let more = e.more in
    let ticked = i.ticked in
    let rounds = i.rounds in
    record { tree = e.tree; ticked = omega (arith, ticked); rounds = omega (arith, more, rounds) }

pub returns-in_err-column : goal.returns-in_err-column
returns-in_err-column g c = record {
  tree = if_refused _ c.from_residual.result _ c.from_residual.ensures.1;
  free = if_refused _ c.from_residual.result _ c.from_residual.ensures.1;
  wide = c.in_err-column.ensures.wide;
  refused = refused_as _ c.from_residual.result _ c.from_residual.ensures.1 c.in_err-column.ensures.refused;
  ticked = omega arith;
  rounds = omega arith;
}

pub visit-requires-clause-tree : goal.visit-requires-clause-tree
visit-requires-clause-tree g c = c.visits.invariant.tree

pub returns-clause-tree : goal.returns-clause-tree
returns-clause-tree g c = c.visits.invariant.tree

pub returns-clause-wide : goal.returns-clause-wide
returns-clause-wide g c = c.visits.invariant.tree.tree.visited_len

pub returns-clause-ticked : goal.returns-clause-ticked
returns-clause-ticked g c = c.visits.invariant.ticked
