use Rattle.std.proofs.Common.{◌≡◌, ◌∙◌, Some, ap, refl, sym, arith, slice_get}
use Rattle.pf_base.proofs.ListLemmas.{at_place}
use Rattle.pf_tables.proofs.Faulty.{some_same}
use borrow.Author.Tests.{eqb-true}
use Rattle.pf_table_breadth.proofs.explored.ExploredGoalGraphU8.is_goal.Goals as goal

pub index-node-requires : goal.index-node-requires
index-node-requires g c = omega (arith, c.requires.inside, c.args.self.now.numbering.order.ok)

pub returns : goal.returns
returns g c =
    let order = c.args.self.now.numbering.order.items in
    let read : slice_get order c.args.node ≡ Some c.index-node.result.now = at_place order c.args.node c.index-node.result.now _ c.requires.inside (sym c.index-node.ensures) in
    record {
      grows = record { more = omega arith; stays = λ k x h. h; back = λ k x i h. h };
      same = refl;
      graph = λ h e. (
        e,
        λ x s.
            let same : c.index-node.result.now ≡ s.0 = some_same (sym read ∙ s.1) in
            c.is_goal.ensures ∙ ap (g.T.Goals.passes c.args.self.now.goals) (same ∙ eqb-true s.0 x s.2) ∙ e.0.tested x,
      );
    }
