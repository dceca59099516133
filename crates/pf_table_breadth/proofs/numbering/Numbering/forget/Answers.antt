use Rattle.std.proofs.Common.{rules, ◌≡◌, ◌+◌, ◌≤◌, arith, refl, sym, ◌∙◌, ap, length, length-append, take, take_all, ◌∷◌, []}
use Rattle.std.proofs.lemmas.List.{take-append-le, length-set}
use Rattle.std.proofs.lemmas.Option.{slice_get_within}
use Rattle.pf_table_breadth.proofs.IndexLemmas.{index_pop}
use Rattle.pf_base.proofs.ListLemmas.{get_at_end}
use Rattle.pf_table_breadth.proofs.numbering.Numbering.forget.Goals as goal

pub nodes-init : goal.nodes-init
nodes-init g c = record { index = c.requires.index; wide = refl; more = c.requires.inside; kept = refl }

pub index_mut-requires : goal.index_mut-requires
index_mut-requires g c =
    let i = rw c.in-Some.ensures.items at c.nodes.invariant.index in
    let at = i.at (length c.pop.new.self.items) c.in-Some.node (get_at_end c.pop.new.self.items c.in-Some.node) in
    let l = slice_get_within c.nodes.self.numbers.items c.in-Some.node _ at in
    omega (arith, l, c.nodes.self.numbers.ok)

pub nodes-preserved-in-Some : goal.nodes-preserved-in-Some
nodes-preserved-in-Some g c =
    let v = c.nodes.invariant in
    let e = c.in-Some.ensures.items in
    let xs = c.pop.new.self.items in
    let len : length c.nodes.self.order.items ≡ length xs + 1 = ap length e ∙ length-append xs (c.in-Some.node ∷ []) in
    let more : c.args.first ≤ length xs = omega (arith, len, c.nodes-test.true, c.len.ensures, c.nodes.self.order.ok) in
    record {
      index = index_pop xs c.nodes.self.numbers.items c.in-Some.node (rw e at v.index);
      wide = length-set c.nodes.self.numbers.items c.in-Some.node 0 ∙ v.wide;
      more = more;
      kept = sym (take-append-le c.args.first xs (c.in-Some.node ∷ []) more) ∙ ap (take c.args.first) (sym e) ∙ v.kept;
    }

pub nodes-preserved : goal.nodes-preserved
nodes-preserved g c =
    let e : c.nodes.self.order.items ≡ c.pop.new.self.items = search rules in
    rw (← e) c.nodes.invariant

pub returns : goal.returns
returns g c = record {
  index = c.nodes.invariant.index;
  wide = c.nodes.invariant.wide;
  left =
      let short : length c.nodes.self.order.items ≤ c.args.first = omega (arith, c.nodes-test.false, c.len.ensures, c.nodes.self.order.ok) in
      sym (take_all c.args.first c.nodes.self.order.items short) ∙ c.nodes.invariant.kept;
}
