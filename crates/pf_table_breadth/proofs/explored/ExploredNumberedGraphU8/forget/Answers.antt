use Rattle.std.proofs.Common.{◌≡◌, ◌∙◌, subst, sym, ap, arith, Some, slice_get, length, take, nat_eq}
use Rattle.std.proofs.lemmas.List.{length-take}
use Rattle.pf_base.proofs.ListLemmas.{take_get}
use Rattle.pf_core.proofs.NodeLemmas.{Grows-from_take}
use Rattle.pf_table_breadth.proofs.ExploreLemmas.{distinct_take}
use Rattle.pf_table_breadth.proofs.explored.ExploredNumberedGraphU8.forget.Goals as goal

pub returns-clause-graph : goal.returns-clause-graph
returns-clause-graph g c = λ h x. (
  record {
    listed = x.0.listed;
    tested = x.0.tested;
    distinct = rw c.forget.ensures.left (distinct_take c.args.first c.args.self.now.numbering.order.items x.0.distinct);
    reached = λ k y q. x.0.reached k y (take_get c.args.first c.args.self.now.numbering.order.items k y (subst (λ (ks : _). slice_get ks k ≡ Some y) c.forget.ensures.left q));
  },
  c.forget.ensures.index,
  c.forget.ensures.wide ∙ x.2,
)

pub forget-requires-clause-index : goal.forget-requires-clause-index
forget-requires-clause-index g c = c.requires.1

pub forget-requires-clause-inside : goal.forget-requires-clause-inside
forget-requires-clause-inside g c = c.requires.0

pub returns-clause-left : goal.returns-clause-left
returns-clause-left g c = omega (arith, c.requires.0, ap length c.forget.ensures.left, length-take c.args.first c.args.self.now.numbering.order.items)

pub returns-clause-shrinks : goal.returns-clause-shrinks
returns-clause-shrinks g c =
    let keys = c.args.self.now.numbering.order.items in
    let left = c.forget.ensures.left in
    let long : length c.forget.new.self.order.items ≡ c.args.first = omega (arith, c.requires.0, ap length left, length-take c.args.first keys) in
    Grows-from_take nat_eq c.forget.new.self.order.items keys (omega (arith, c.requires.0, long)) (ap (λ n. take n keys) long ∙ sym left)
