use Rattle.std.proofs.Common.{arith, refl, ap, length}
use Rattle.std.specs.List.{each_same}
use Rattle.std.proofs.lemmas.Slice.Zip.{AllZip-long}
use Rattle.pf_informed.specs.Internal.Ways.{nothing_waits}
use Rattle.pf_informed.proofs.CloneLemmas.{ways_clone, left_clone}
use Rattle.pf_informed.proofs.directed.astar_bag.AstarSolutionByClone.clone.Goals as goal

pub invariant_of-result : goal.invariant_of-result
invariant_of-result g c =
    let w = c.in_ok-ways.ensures.cases in
    let k = g.met.M.CloneNumbering.clone_law c.self.inside.nodes c.in_ok-nodes.nodes c.in_ok-nodes.ensures.cases in (
      ways_clone c.self.inside.ways.before c.in_ok-ways.ways.before w.0 _ _ _ _ _ _ (each_same _ _ w.1.0.0) (each_same _ _ w.1.1.0.0) (each_same _ _ w.1.1.1.0) c.self.invariant.0,
      omega (arith, ap length w.0, AllZip-long _ _ _ k, c.self.invariant.1),
    )

pub returns : goal.returns
returns g c =
    let w = c.in_ok-ways.ensures.cases in
    let k = g.met.M.CloneNumbering.clone_law c.self.inside.nodes c.in_ok-nodes.nodes c.in_ok-nodes.ensures.cases in
    rw (← c.self.view_is) (record { cases = (left_clone c.self.inside.ways.before c.in_ok-ways.ways.before w.0 g.N.Clone.is_clone _ _ k _ _ _ _ (each_same _ _ w.1.0.0) (each_same _ _ w.1.1.1.0), refl, ap nothing_waits (each_same _ _ w.1.1.1.0)) })
