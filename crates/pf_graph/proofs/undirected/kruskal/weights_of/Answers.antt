use Rattle.std.proofs.Common.{ℕ, ◌∙◌, ◌++◌, ◌∷◌, [], sym, ap, take, take_all}
use Rattle.std.specs.Prelude.{map}
use Rattle.std.proofs.lemmas.List.{map-append, take_more}
use Rattle.pf_graph.specs.declared.undirected.weighed.Weighed.{Weighed}
use Rattle.pf_graph.proofs.undirected.kruskal.weights_of.Goals as goal

pub loop-numbered-preserved : goal.loop-numbered-preserved
loop-numbered-preserved g c =
    let weight = λ (e : ℕ × ℕ × Weighed g.row.N.Denot g.row.C.Denot g.row.C.Denot). e.2.weight in
    let so_far = take c.loop-numbered.numbered-index c.args.chosen.now in
    c.in_ok-push.ensures.items ∙ ap (λ ws. ws ++ c.numbered-item.result.2.weight ∷ []) c.loop-numbered.invariant ∙ sym (map-append weight so_far (c.numbered-item.result ∷ []))
    ∙ ap (map weight) (ap (λ e. so_far ++ e ∷ []) c.numbered-item.is ∙ sym (take_more c.args.chosen.now c.loop-numbered.numbered-index c.numbered-item.result c.loop-numbered-test.true))

pub returns : goal.returns
returns g c = record {
  weights = c.loop-numbered.invariant ∙ ap (map (λ (e : ℕ × ℕ × Weighed g.row.N.Denot g.row.C.Denot g.row.C.Denot). e.2.weight)) (take_all c.loop-numbered.numbered-index c.args.chosen.now c.loop-numbered-test.false);
  refused = tt;
}
