use Rattle.std.proofs.Common.{◌≡◌, [], ◌∷◌, ◌++◌, sym, ap, subst, ◌∙◌, refl, length, vec_len}
use Rattle.std.specs.Prelude.{map}
use Rattle.std.specs.List.{AllZip}
use Rattle.std.proofs.lemmas.List.{map-append, map-id}
use Rattle.std.proofs.lemmas.Iterator.Adapters.{YieldsList-from_vec}
use Rattle.std.proofs.lemmas.Iterator.Consumers.{YieldsList-end}
use Rattle.indexmap.proofs.SetLemmas.{AllZip-push}
use Rattle.pf_graph.specs.EdgesByReference.{shown}
use Rattle.pf_graph.specs.Internal.NumberedEdges.{IsWritten}
use Rattle.pf_graph.proofs.undirected.kruskal.as_written.Goals as goal

pub loop-numbered-init : goal.loop-numbered-init
loop-numbered-init g c = subst (λ xs. AllZip IsWritten [] (map shown xs)) (sym c.in_ok-edges.ensures.items) tt

pub loop-numbered-preserved : goal.loop-numbered-preserved
loop-numbered-preserved g c =
    subst (λ xs. AllZip IsWritten (c.loop-numbered.yielded ++ c.in-Some.numbered ∷ []) xs) (sym (ap (map shown) c.in_ok-push.ensures.items ∙ map-append shown c.loop-numbered.edges.items _))
    (AllZip-push IsWritten c.loop-numbered.yielded (map shown c.loop-numbered.edges.items) c.in-Some.numbered _ c.loop-numbered.invariant (refl, refl, refl))

pub returns : goal.returns
returns g c = record {
  written =
      let len : vec_len c.args.chosen ≡ length c.args.chosen.items = c.args.chosen.ok.0 in
      let road = YieldsList-from_vec c.args.chosen.items c.into_iter-numbered-iterator.ensures.into_iter_gives.0 (c.into_iter-numbered-iterator.ensures.into_iter_gives.1 ∙ len) in
      let all = YieldsList-end road c.loop-numbered.yielded c.loop-numbered.numbered-iterator c.loop-numbered.yielded_by c.next.result c.next.new.self c.in-None.is c.next.ensures.steps in
      subst (λ xs. AllZip IsWritten xs (map shown c.loop-numbered.edges.items)) (sym (map-id c.loop-numbered.yielded) ∙ all.0) c.loop-numbered.invariant;
  refused = tt;
}
