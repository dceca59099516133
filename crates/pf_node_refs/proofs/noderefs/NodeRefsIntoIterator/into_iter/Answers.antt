use Rattle.std.proofs.Common.{◌≡◌, ℕ, ◌<◌, ◌^◌, sym, ◌∙◌, ap, subst, arith, length}
use Rattle.std.proofs.lemmas.List.{length-map}
use Rattle.pf_base.specs.Walks.{NoRepeats}
use Rattle.pf_base.specs.NodeRefs.{nodes_of}
use Rattle.pf_node_refs.proofs.noderefs.NodeRefsIntoIterator.into_iter.Goals as goal

below_room : (k n : ℕ) → k ≡ n → n < 2 ^ 63 → k < 2 ^ 64
below_room k n e l = omega arith

pub returns : goal.returns
returns g c =
    let keys = c.self.inside.nodes.keys in
    let given = c.into_iter.ensures.into_iter_gives in
    record {
      into_iter_gives = (
        ap nodes_of given.0 ∙ c.self.view_is,
        subst (NoRepeats g.N.PartialEq.eq) c.self.view_is c.self.invariant,
        below_room (length c.args.self) (length keys) (ap length (sym c.self.view_is) ∙ length-map keys _) given.1,
      );
    }
