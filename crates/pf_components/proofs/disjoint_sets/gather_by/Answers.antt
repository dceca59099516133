use Rattle.std.proofs.Common.{ap, sym, subst, ◌∙◌, [], length, Result, Ok, Err, IfOk}
use Rattle.std.specs.Prelude.{map}
use Rattle.std.proofs.lemmas.List.{length-map}
use Rattle.std.proofs.lemmas.Result.{IfOk-weaker}
use Rattle.pf_components.specs.Internal.DisjointSets.{IsGathered}
use Rattle.pf_union_find.specs.UnionFind.{IsSound, IsLabelling}
use Rattle.pf_components.proofs.DisjointSetLemmas.{IsGathered-none}
use Rattle.pf_components.proofs.disjoint_sets.gather_by.Goals as goal

both : {T E : Type 0} (r : Result T E) (P Q : T → Type 0) → IfOk r P → IfOk r Q → IfOk r (λ x. P x × Q x)
both (Ok x) P Q p q = (p, q)
both (Err e) P Q p q = tt

pub gather-requires-clause-none : goal.gather-requires-clause-none
gather-requires-clause-none g c =
    let e = sym c.as_mut_slice-parents.ensures.value in
    let stands = g.V.VertexNumber.stands_for in
    let ps = map stands c.as_mut_slice-parents.result.now in
    let sound = subst (λ vs. IsSound (map stands vs)) e c.in_ok-sets.ensures.sound in
    let alone = subst (λ vs. IsLabelling (λ x. x) (map stands vs)) e c.in_ok-sets.ensures.labels in
    subst (λ ns. IsGathered g.N.PartialEq.eq [] ns c.args.first.now.items ps) (sym c.requires.none.0)
    (subst (λ fs. IsGathered g.N.PartialEq.eq [] [] fs ps) (sym c.requires.none.1) (IsGathered-none g.N.PartialEq.eq ps sound alone))

pub gather-requires-clause-inside : goal.gather-requires-clause-inside
gather-requires-clause-inside g c = ap length c.as_mut_slice-parents.ensures.value ∙ c.in_ok-sets.ensures.len

pub identify-requires-clause-sound : goal.identify-requires-clause-sound
identify-requires-clause-sound g c = c.in_ok-gather.ensures.gathered.sound

pub identify-requires-clause-len : goal.identify-requires-clause-len
identify-requires-clause-len g c = c.gather.auto.parents ∙ ap length c.as_mut_slice-parents.ensures.value ∙ c.in_ok-sets.ensures.len

pub returns : goal.returns
returns g c = record {
  united =
      let h = c.in_ok-gather.ensures.gathered in
      let after = map g.V.VertexNumber.stands_for c.gather.new.parents in
      let n = length-map c.gather.new.parents g.V.VertexNumber.stands_for ∙ c.gather.auto.parents ∙ ap length c.as_mut_slice-parents.ensures.value ∙ c.in_ok-sets.ensures.len in
      IfOk-weaker c.identify.result _ _ (λ ids r. (after, h, r.1 h.label h.labels, r.0, n)) (both c.identify.result _ _ c.identify.ensures.len c.identify.ensures.identified);
  refused = c.identify.ensures.refused;
}
