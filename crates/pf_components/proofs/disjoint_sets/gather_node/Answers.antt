use Rattle.std.proofs.Common.{◌≡◌, sym, subst, ◌∙◌, ◌∷◌, ◌++◌, [], length, ◌<◌, refl, arith}
use Rattle.std.specs.Borrow.{Bor}
use Rattle.std.specs.List.{IsDistinct}
use Rattle.std.proofs.lemmas.Option.{slice_get_read, slice_get_within}
use Rattle.pf_components.specs.Internal.DisjointSets.{IsGathered}
use Rattle.std.specs.Prelude.{slice_get, Some, map}
use Rattle.std.proofs.lemmas.List.{length-map}
use Rattle.pf_components.proofs.DisjointSetLemmas.{added_new, added_known, merged_anyway, gathered_again, gathered_new}
use Rattle.std.proofs.lemmas.Result.{IfOk-from_err}
use Rattle.pf_base.proofs.Outcomes.{refused_by}
use Rattle.pf_components.proofs.disjoint_sets.gather_node.Goals as goal

pub returns-in_ok-push : goal.returns-in_ok-push
returns-in_ok-push g c = record {
  gathered = λ pairs h.
      let eq = g.N.PartialEq.eq in
      let same = λ (p q : Bor g.row.N.Denot). eq p.now q.now in
      let ps = map g.V.VertexNumber.stands_for c.args.parents.now in
      let inside = subst (λ n. c.args.group < n) (sym (length-map c.args.parents.now g.V.VertexNumber.stands_for)) c.requires.inside in
      let new = added_new same c.args.nodes.now.keys c.insert_full.new.self.keys c.args.node c.in_ok-number.added c.in_ok-number.ensures.added c.in_ok-number.ensures.keys c.if-added.true in
      subst (λ fs. IsGathered eq (pairs ++ (c.args.group, c.args.node.now) ∷ []) c.insert_full.new.self.keys fs ps) (sym c.in_ok-push.ensures.items)
      (subst (λ ks. IsGathered eq (pairs ++ (c.args.group, c.args.node.now) ∷ []) ks (c.args.first.now.items ++ c.args.group ∷ []) ps) (sym new.1)
      (gathered_new g.met.N.Eq.laws pairs c.args.nodes.now.keys c.args.first.now.items ps h c.args.group c.args.node new.0 (subst (λ ks. IsDistinct same ks) new.1 c.insert_full.ensures.unique) inside));
  refused = tt;
}

pub returns-else-added : goal.returns-else-added
returns-else-added g c = record {
  gathered = λ pairs h.
      let eq = g.N.PartialEq.eq in
      let same = λ (p q : Bor g.row.N.Denot). eq p.now q.now in
      let stands = g.V.VertexNumber.stands_for in
      let ps = map stands c.args.parents.now in
      let after = map stands c.unite.new.parents in
      let long : length after ≡ length ps = length-map c.unite.new.parents stands ∙ c.unite.auto.parents ∙ sym (length-map c.args.parents.now stands) in
      let known = added_known same c.args.nodes.now.keys c.insert_full.new.self.keys c.args.node c.in_ok-number.added c.in_ok-number.ensures.added c.in_ok-number.ensures.keys c.if-added.false in
      let at = c.in_ok-number.ensures.stored in
      let here = subst (λ ks. slice_get ks c.in_ok-number.number ≡ Some at.0) known at.1 in
      let low = slice_get_within c.args.nodes.now.keys c.in_ok-number.number at.0 here in
      let inside : c.in_ok-number.number < length c.args.first.now.items = omega (arith, low, h.len) in
      let u = c.unite.ensures.labels h.label h.labels in
      subst (λ ks. IsGathered eq (pairs ++ (c.args.group, c.args.node.now) ∷ []) ks c.args.first.now.items after) (sym known)
      (gathered_again g.met.N.Eq.laws pairs c.args.nodes.now.keys c.args.first.now.items ps h c.args.group c.args.node c.in_ok-number.number c.index.result.now at.0 here (g.met.N.Eq.laws.symm _ _ ∙ at.2) (slice_get_read c.args.first.now.items (length c.args.first.now.items) c.in_ok-number.number c.index.result.now refl inside c.index.ensures) after c.unite.ensures.sound long u.0 u.1 (merged_anyway c.unite.result h.label u.0 c.args.group c.index.result.now u.2));
  refused = tt;
}

pub unite-requires-clause-sound : goal.unite-requires-clause-sound
unite-requires-clause-sound g c = c.requires.gathered.1.sound

pub returns-in_err-number : goal.returns-in_err-number
returns-in_err-number g c = record {
  gathered = IfOk-from_err _ _ c.from_residual.ensures.0;
  refused = refused_by _ c.from_residual.result c.from_residual.ensures.1;
}

pub returns-in_err-push : goal.returns-in_err-push
returns-in_err-push g c = record {
  gathered = IfOk-from_err _ _ c.from_residual-in_err-push.ensures.0;
  refused = refused_by _ c.from_residual-in_err-push.result c.from_residual-in_err-push.ensures.1;
}
