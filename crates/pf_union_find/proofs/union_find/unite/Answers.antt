use Rattle.std.proofs.Common.{◌≡◌, ◌<◌, refl, sym, subst, ◌∙◌, ap, arith, length, map, set}
use Rattle.std.proofs.lemmas.List.{length-map, map-set}
use Rattle.pf_union_find.specs.UnionFind.{IsSound, IsLabelling}
use Rattle.pf_union_find.proofs.UnionFindLemmas.{joined_sound, label_joined, IsLabelling-joined, Merges-joined, Merges-at, Merges-at_other}
use Rattle.pf_union_find.proofs.union_find.unite.Goals as goal

pub returns-then-first-second-2 : goal.returns-then-first-second-2
returns-then-first-second-2 g c =
    let stands = g.V.VertexNumber.stands_for in
    let one = c.find-first.ensures in
    let two = c.find-second.ensures in
    let ps = map stands c.find-second.new.parents in
    let first = c.find-first.result in
    let second = c.find-second.result in
    let root = two.roots first one.root in
    let less = c.if-first-second-2.true in
    let inside : second < length ps = let l = length-map c.find-second.new.parents stands in let r = two.inside in omega (arith, l, r) in
    let written : map stands (set c.find-second.new.parents second c.of.result) ≡ set ps second first = map-set stands c.find-second.new.parents second c.of.result ∙ ap (set ps second) c.of.ensures in
    record {
      sound = subst IsSound (sym written) (joined_sound ps two.sound first second root two.root less inside);
      labels = λ label l.
          let a = one.labels label l in
          let b = two.labels label a.0 in (
            label_joined ps two.sound first second root two.root less inside label b.0,
            subst (IsLabelling (label_joined ps two.sound first second root two.root less inside label b.0)) (sym written) (IsLabelling-joined ps two.sound first second root two.root less inside label b.0),
            (
              λ e. c.if-first-second.false (a.1 ∙ e ∙ sym b.1),
              Merges-at label _ _ _ _ _ (b.0.at_root first root ∙ a.1) (b.0.at_root second two.root ∙ b.1) (Merges-joined ps two.sound first second root two.root less inside label b.0),
            ),
          );
    }

pub returns-else-first-second-2 : goal.returns-else-first-second-2
returns-else-first-second-2 g c =
    let stands = g.V.VertexNumber.stands_for in
    let one = c.find-first.ensures in
    let two = c.find-second.ensures in
    let ps = map stands c.find-second.new.parents in
    let first = c.find-first.result in
    let second = c.find-second.result in
    let root = two.roots first one.root in
    let less : second < first = omega (arith, c.if-first-second.false, c.if-first-second-2.false) in
    let inside : first < length ps = let l = length-map c.find-second.new.parents stands in let r = one.inside in omega (arith, l, r, c.find-second.auto.parents) in
    let written : map stands (set c.find-second.new.parents first c.of-else-first-second-2.result) ≡ set ps first second = map-set stands c.find-second.new.parents first c.of-else-first-second-2.result ∙ ap (set ps first) c.of-else-first-second-2.ensures in
    record {
      sound = subst IsSound (sym written) (joined_sound ps two.sound second first two.root root less inside);
      labels = λ label l.
          let a = one.labels label l in
          let b = two.labels label a.0 in (
            label_joined ps two.sound second first two.root root less inside label b.0,
            subst (IsLabelling (label_joined ps two.sound second first two.root root less inside label b.0)) (sym written) (IsLabelling-joined ps two.sound second first two.root root less inside label b.0),
            (
              λ e. c.if-first-second.false (a.1 ∙ e ∙ sym b.1),
              Merges-at_other label _ _ _ _ _ (b.0.at_root first root ∙ a.1) (b.0.at_root second two.root ∙ b.1) (Merges-joined ps two.sound second first two.root root less inside label b.0),
            ),
          );
    }

pub returns-then-first-second-clause-labels : goal.returns-then-first-second-clause-labels
returns-then-first-second-clause-labels g c = λ label l.
    let a = c.find-first.ensures.labels label l in
    let b = c.find-second.ensures.labels label a.0 in
    (label, b.0, (sym a.1 ∙ c.if-first-second.true ∙ b.1, λ x. refl))
