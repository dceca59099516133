use Rattle.std.proofs.Common.{refl, arith, ◌≡◌, ◌∙◌, ◌++◌, ◌-◌, ◌≤◌, ℕ, sym, subst, ap, List, [], ◌∷◌, length, take, take_all, replicate}
use Rattle.std.specs.Prelude.{Contains, reverse, slice_set}
use Rattle.std.specs.List.{AllZip}
use Rattle.std.proofs.lemmas.List.{append_assoc}
use Rattle.pf_discovery.proofs.DepthFirstLemmas.{ends_stand}
use Rattle.pf_base.proofs.Outcomes.{on_ok, on_any, on_failed, refused_as}
use Rattle.pf_orders.specs.declared.ordering.Turn.{Turn}
use Rattle.pf_orders.specs.declared.ordering.Mark.{Mark}
use Rattle.pf_orders.specs.Internal.Orderings.{entries}
use Rattle.pf_orders.proofs.ComponentLists.{set_length}
use Rattle.pf_orders.proofs.OrderLemmas.{step_of}
use Rattle.pf_orders.proofs.ordering.Sorting.enter.Goals as goal

-- the marks, with the number open and those of what was found now new
marks_opened : (old new : List Mark) (number found found' n : ℕ) → new ≡ take found (slice_set old number Mark.Open) ++ replicate (found - n) Mark.New → n ≡ length old → found ≡ found' → length old ≤ found' → new ≡ slice_set old number Mark.Open ++ replicate (found' - length old) Mark.New
marks_opened old new number found found' n e long same le =
    let all : length (slice_set old number Mark.Open) ≤ found = omega (arith, set_length old number Mark.Open, le, same) in
    let more : found - n ≡ found' - length old = omega (arith, long, same) in
    e ∙ ap (λ (ms : List Mark). ms ++ replicate (found - n) Mark.New) (take_all found (slice_set old number Mark.Open) all) ∙ ap (λ (m : ℕ). slice_set old number Mark.Open ++ replicate m Mark.New) more

pub expand-requires-clause-inside : goal.expand-requires-clause-inside
expand-requires-clause-inside g c = c.requires.inside

pub expand-requires-clause-graph : goal.expand-requires-clause-graph
expand-requires-clause-graph g c = c.requires.graph

pub returns-in_err-expand : goal.returns-in_err-expand
returns-in_err-expand g c =
    let r = c.from_residual in
    record {
      grows = c.in_err-expand.ensures.grows;
      graph = c.in_err-expand.ensures.graph;
      marks = on_failed _ _ r.ensures.0;
      left = on_failed _ _ r.ensures.0;
      turns = on_failed _ _ r.ensures.0;
      refused = refused_as _ r.result _ r.ensures.1 c.in_err-expand.ensures.refused.0;
    }

pub index_mut-requires : goal.index_mut-requires
index_mut-requires g c = omega (arith, c.requires.inside, c.requires.marked, c.args.self.now.marks.ok)

pub returns-in_err-resize : goal.returns-in_err-resize
returns-in_err-resize g c =
    let r = c.from_residual-in_err-resize in
    record {
      grows = c.in_ok-expand.ensures.grows;
      graph = c.in_ok-expand.ensures.graph;
      marks = on_failed _ _ r.ensures.0;
      left = on_failed _ _ r.ensures.0;
      turns = on_failed _ _ r.ensures.0;
      refused = refused_as _ r.result _ r.ensures.1 refl;
    }

pub returns-in_err-push : goal.returns-in_err-push
returns-in_err-push g c =
    let r = c.from_residual-in_err-push in
    record {
      grows = c.in_ok-expand.ensures.grows;
      graph = c.in_ok-expand.ensures.graph;
      marks = on_failed _ _ r.ensures.0;
      left = on_failed _ _ r.ensures.0;
      turns = on_failed _ _ r.ensures.0;
      refused = refused_as _ r.result _ r.ensures.1 refl;
    }

pub returns : goal.returns
returns g c = record {
  grows = c.in_ok-expand.ensures.grows;
  graph = c.in_ok-expand.ensures.graph;
  left = on_any c.put_entries.result refl;
  turns =
      let old = c.args.self.now.turns.items in
      let number = c.args.number in
      let row = c.expand.new.row.items in
      let pushed : c.push.new.self.items ≡ old ++ Turn.Leave number ∷ [] = c.in_ok-push.ensures.items in
      let turned : c.deref.result.now ≡ reverse row = c.deref.ensures.value ∙ c.reverse.ensures.items in
      let p = c.in_ok-expand.ensures.placed in
      let l = c.in_ok-expand.ensures.listed in
      on_ok c.put_entries.result c.put_entries.ensures.put (λ put. (
        row,
        put ∙ ap (λ ts. ts ++ entries c.deref.result.now) pushed ∙ append_assoc old (Turn.Leave number ∷ []) (entries c.deref.result.now) ∙ ap (λ ks. old ++ Turn.Leave number ∷ entries ks) turned,
        (λ k h. let q = step_of l.0 k (subst (λ (ks : List ℕ). Contains ks k) l.1 h) in l.2 k q.0 q.1),
        (λ h e x s. subst (λ ns. AllZip (g.G.NumberedGraph.stands c.expand.new.self) ns (g.G.NumberedGraph.successors h x)) (sym p.1) (ends_stand _ p.0 _ (p.2 h e x s))),
      ));
  refused = c.put_entries.ensures.refused;
  marks =
      let r = c.requires in
      let e = c.in_ok-expand.ensures in
      on_any c.put_entries.result (marks_opened c.args.self.now.marks.items c.resize.new.self.items c.args.number c.node_count.result _ _ c.in_ok-resize.ensures.items c.args.self.now.marks.ok.0 c.node_count.ensures (subst (λ (n : ℕ). n ≤ g.G.NumberedGraph.node_count c.expand.new.self) (sym r.marked) e.grows.more));
}
