use Rattle.std.proofs.Common.{[], ◌∷◌, ◌++◌, sym, ap, ◌∙◌, refl, Some, if◌then◌else◌}
use Rattle.std.specs.HashMap.{get}
use Rattle.std.specs.List.{list_any}
use Rattle.std.proofs.lemmas.List.{append_assoc, append-nil}
use Rattle.pf_components.proofs.IndexLemmas.{index_more}
use Rattle.std.proofs.lemmas.Result.{IfOk-from_err}
use Rattle.pf_base.proofs.Outcomes.{refused_by}
use Rattle.pf_components.proofs.connected_components.index_nodes.Goals as goal

pub loop-node-init : goal.loop-node-init
loop-node-init g c = record { done = []; all = c.into_iter-node-iterator.ensures.into_iter_gives.0; indexed = λ x. refl }

pub loop-node-preserved : goal.loop-node-preserved
loop-node-preserved g c =
    let i = c.loop-node.invariant in
    let node = c.in-Some.node.now in
    record {
      done = i.done ++ node ∷ [];
      all = append_assoc i.done (node ∷ []) c.next.new.self ∙ ap (λ xs. i.done ++ xs) (sym c.in-Some.ensures.steps) ∙ i.all;
      indexed = λ x. index_more g.met.N.Eq.laws i.done node _ x c.args.index _ _ _ (c.requires.clones node _ c.in_ok-clone.ensures.cases) (i.indexed x) (c.in_ok-insert.ensures.updates.0 x);
    }

pub returns : goal.returns
returns g c = record {
  indexed = λ x.
      let i = c.loop-node.invariant in
      i.indexed x ∙ ap (λ xs. if list_any (g.N.PartialEq.eq x) xs then Some c.args.index else get g.N.PartialEq.eq c.args.of_node.now x) (sym (append-nil i.done) ∙ ap (λ xs. i.done ++ xs) (sym c.in-None.ensures.steps.0) ∙ i.all);
  refused = tt;
}

pub returns-in_err-clone : goal.returns-in_err-clone
returns-in_err-clone g c = record {
  indexed = IfOk-from_err _ _ c.from_residual.ensures.0;
  refused = refused_by _ c.from_residual.result c.from_residual.ensures.1;
}

pub returns-in_err-insert : goal.returns-in_err-insert
returns-in_err-insert g c = record {
  indexed = IfOk-from_err _ _ c.from_residual-in_err-insert.ensures.0;
  refused = refused_by _ c.from_residual-in_err-insert.result c.from_residual-in_err-insert.ensures.1;
}
