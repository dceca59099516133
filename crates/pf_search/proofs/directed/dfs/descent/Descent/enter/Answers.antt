use Rattle.std.proofs.Common.{◌∙◌, ◌++◌, ◌∷◌, [], ℕ, List, ap, sym, subst, length, reverse, take}
use Rattle.std.proofs.lemmas.List.{append_assoc}
use Rattle.pf_base.specs.Walks.{HasNode}
use Rattle.pf_core.specs.Nodes.{AddsNode}
use Rattle.pf_search.proofs.DescentLemmas.{held_more, taken_out}
use Rattle.pf_search.proofs.directed.dfs.descent.Descent.enter.Goals as goal

pub returns-in-Some-2-clause-entered : goal.returns-in-Some-2-clause-entered
returns-in-Some-2-clause-entered g c =
    let i = c.waiting.invariant in
    let e = c.in_ok-number.ensures in
    let v = rw c.in-Some-2.is at e.visited in
    let next = c.in-Some.next in
    let order = taken_out _ i.dropped.0 c.pop.new.self.items c.waiting.self.waiting.items next i.dropped.1 c.in-Some.ensures.items in (
      i.dropped.0,
      next,
      order ∙ ap (λ l. i.dropped.0 ++ next ∷ l) (ap reverse (sym e.waiting)),
      i.dropped.2,
      v.0 ∙ ap length i.keys,
      v.1 ∙ ap (λ (ks : List g.row.N.Denot). ks ++ next.node ∷ []) i.keys,
      v.2,
      subst (λ (ks : List g.row.N.Denot). AddsNode g.N.PartialEq.eq next.node ks (g.M.Numbering.keys c.visit.new.self.visited)) i.keys e.added,
      v.3 ∙ ap (λ (ns : List ℕ). take next.depth ns ++ c.in-Some-2.number ∷ []) i.path,
    )

pub waiting-preserved : goal.waiting-preserved
waiting-preserved g c =
    let i = c.waiting.invariant in
    let e = c.in_ok-number.ensures in
    let v = rw c.in_default-2.is at e.visited in
    let next = c.in-Some.next in
    let order = taken_out _ i.dropped.0 c.pop.new.self.items c.waiting.self.waiting.items next i.dropped.1 c.in-Some.ensures.items in
    record {
      keys = v.1 ∙ i.keys;
      path = v.2 ∙ i.path;
      dropped = (
        i.dropped.0 ++ next ∷ [],
        order ∙ ap (λ l. i.dropped.0 ++ next ∷ l) (ap reverse (sym e.waiting)) ∙ sym (append_assoc i.dropped.0 (next ∷ []) _),
        held_more g.N.PartialEq.eq (g.M.Numbering.keys c.args.self.now.visited) i.dropped.0 next i.dropped.2 (subst (λ (ks : List g.row.N.Denot). HasNode g.N.PartialEq.eq ks next.node) i.keys v.0),
      );
    }
