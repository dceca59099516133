-- Groups by depth over numbers and over the names that they stand for.
use Rattle.std.proofs.Common.{◌≡◌, ℕ, zero, suc, nat_eq, refl, sym, subst, ap, ◌∙◌, arith, Bool, List, [], ◌∷◌, map, slice_get}
use Rattle.std.specs.Prelude.{Some, Vec}
use Rattle.std.specs.Cmp.{IsEquivalence}
use Rattle.std.specs.List.{AllZip}
use Rattle.std.proofs.lemmas.Slice.Zip.{AllZip-long}
use Rattle.pf_base.specs.Walks.{HasNode, NoRepeats}
use Rattle.pf_base.specs.Successors.{HasSuccessor}
use Rattle.pf_edge_lists.proofs.NameWalks.{IsCarried, Stands, carried_next, node_out, repeats_out, test_stands}
use Rattle.pf_name_numbers.specs.Numbered.{lists_in}
use Rattle.pf_name_numbers.proofs.NameReach.{SameStarts, Zip, node_numbered, walk_back, walk_named, walk_out, zip_all}
use Rattle.pf_name_orders.specs.NameGroups.{AreNameGroups}
use Rattle.pf_orders.specs.GroupDepths.{AreDepthGroups, HasDepth, HaveNoDepth}

module _ {N : Type 0} {eq : N → N → Bool} (laws : IsEquivalence eq) (names : List N) (distinct : NoRepeats eq names) (nextM : ℕ → List ℕ) (nextN : N → List N) (alike : (a : ℕ) (x : N) → Stands laws names a x → AllZip (Stands laws names) (nextM a) (nextN x))
    (startsM : List ℕ) (startsN : List N) (begin : SameStarts laws names distinct startsM startsN) where
  carried : IsCarried laws names (HasSuccessor nat_eq nextM) (HasSuccessor eq nextN)
  carried = carried_next laws names distinct nextM nextN alike

  module _ (k : ℕ) (x : N) (s : Stands laws names k x) (d : ℕ) where
    pub depth_out : HasDepth nat_eq nextM startsM k d → HasDepth eq nextN startsN x d
    depth_out h =
        let tests = test_stands laws names distinct k x s in
        let v = walk_named laws names distinct _ _ carried startsM startsN begin (λ y. nat_eq y k) h.walk h.comes in
        record {
          walk = v.0;
          comes = walk_out laws names distinct _ _ carried startsM startsN begin (λ y. nat_eq y k) (λ y. eq y x) tests h.walk v.0 v.1 h.comes;
          steps = AllZip-long (Stands laws names) h.walk v.0 v.1 ∙ h.steps;
          longest = λ u g.
              let w = walk_back laws names distinct _ _ carried startsM startsN begin (λ y. nat_eq y k) (λ y. eq y x) tests u g in
              omega (arith, h.longest w.0 w.2, AllZip-long (Stands laws names) w.0 u w.1);
        }

    pub depth_back : HasDepth eq nextN startsN x d → HasDepth nat_eq nextM startsM k d
    depth_back h =
        let tests = test_stands laws names distinct k x s in
        let w = walk_back laws names distinct _ _ carried startsM startsN begin (λ y. nat_eq y k) (λ y. eq y x) tests h.walk h.comes in
        record {
          walk = w.0;
          comes = w.2;
          steps = sym (AllZip-long (Stands laws names) w.0 h.walk w.1) ∙ h.steps;
          longest = λ u g.
              let v = walk_named laws names distinct _ _ carried startsM startsN begin (λ y. nat_eq y k) u g in
              let out = walk_out laws names distinct _ _ carried startsM startsN begin (λ y. nat_eq y k) (λ y. eq y x) tests u v.0 v.1 g in
              omega (arith, h.longest v.0 out, AllZip-long (Stands laws names) u v.0 v.1);
        }

  -- those without a depth
  pub none_named : (w : List ℕ) → HaveNoDepth nat_eq nextM startsM w → (v : List N) × Zip laws names distinct w v
  none_named w h = zip_all laws names distinct w (λ k n. begin.named k ((h.exact k).0 n).0)

  pub none_out : (w : List ℕ) (v : List N) → Zip laws names distinct w v → HaveNoDepth nat_eq nextM startsM w → HaveNoDepth eq nextN startsN v
  none_out w v z h = record {
    exact = λ x. (
      λ n.
          let k = node_numbered laws names distinct w v x z n in
          let e = (h.exact k.0).0 k.2 in
          (begin.out k.0 x k.1 e.0, λ d depth. e.1 d (depth_back k.0 x k.1 d depth)),
      λ e.
          let k = begin.back x e.0 in
          node_out laws names distinct w v k.0 x z k.1 ((h.exact k.0).1 (k.2, λ d depth. e.1 d (depth_out k.0 x k.1 d depth))),
    );
    once = repeats_out laws names distinct w v z h.once;
  }

  -- each has a depth
  pub depths_out : ((k : ℕ) → HasNode nat_eq startsM k → (d : ℕ) × HasDepth nat_eq nextM startsM k d) → (x : N) → HasNode eq startsN x → (d : ℕ) × HasDepth eq nextN startsN x d
  depths_out all x h =
      let k = begin.back x h in
      let d = all k.0 k.2 in
      (d.0, depth_out k.0 x k.1 d.0 d.1)

  module _ (named : List ℕ → List N) (zips : (w : List ℕ) (v : List N) → Zip laws names distinct w v → Zip laws names distinct w (named w)) where
    at_group : {A : Type 0} (groups : List (Vec ℕ A)) (i : ℕ) (g : List N) → slice_get (map named (lists_in groups)) i ≡ Some g → (group : Vec ℕ A) × (slice_get groups i ≡ Some group) × (named group.items ≡ g)
    at_group [] i g h = cc
    at_group (v ∷ groups) zero g h = (v, refl, cc)
    at_group (v ∷ groups) (suc i) g h = at_group groups i g h

    group_at : {A : Type 0} (groups : List (Vec ℕ A)) (i : ℕ) (group : Vec ℕ A) → slice_get groups i ≡ Some group → slice_get (map named (lists_in groups)) i ≡ Some (named group.items)
    group_at [] i group h = cc
    group_at (v ∷ groups) zero group h = let e : v ≡ group = cc in ap (λ (u : Vec ℕ _). Some (named u.items)) e
    group_at (v ∷ groups) (suc i) group h = group_at groups i group h

    module _ {A : Type 0} (groups : List (Vec ℕ A)) (h : AreDepthGroups nat_eq nextM startsM groups) where
      group_zip : (i : ℕ) (group : Vec ℕ A) → slice_get groups i ≡ Some group → Zip laws names distinct group.items (named group.items)
      group_zip i group at =
          let v = zip_all laws names distinct group.items (λ k n. begin.named k ((h.exact i k).0 (group, at, n)).0) in
          zips group.items v.0 v.1

      -- the names of groups by depth are groups by depth
      pub groups_out : AreNameGroups eq nextN startsN (map named (lists_in groups))
      groups_out = record {
        exact = λ d x. (
          λ n.
              let g = at_group groups d n.0 n.1 in
              let z = group_zip d g.0 g.1 in
              let k = node_numbered laws names distinct g.0.items (named g.0.items) x z (subst (λ xs. HasNode eq xs x) (sym g.2) n.2) in
              let e = (h.exact d k.0).0 (g.0, g.1, k.2) in
              (begin.out k.0 x k.1 e.0, depth_out k.0 x k.1 d e.1),
          λ e.
              let k = begin.back x e.0 in
              let g = (h.exact d k.0).1 (k.2, depth_back k.0 x k.1 d e.1) in
              (named g.0.items, group_at groups d g.0 g.1, node_out laws names distinct g.0.items (named g.0.items) k.0 x (group_zip d g.0 g.1) k.1 g.2),
        );
        full = λ i group at none.
            let g = at_group groups i group at in
            h.full.full i g.0 g.1 (empty g.0.items (named g.0.items) (group_zip i g.0 g.1) (g.2 ∙ none));
        once = λ i group at.
            let g = at_group groups i group at in
            subst (NoRepeats eq) g.2 (repeats_out laws names distinct g.0.items (named g.0.items) (group_zip i g.0 g.1) (h.full.once i g.0 g.1));
      }
        where
          empty : (w : List ℕ) (v : List N) → Zip laws names distinct w v → v ≡ [] → w ≡ []
          empty [] v z e = refl
          empty (k ∷ w) [] z e = absurd z
          empty (k ∷ w) (x ∷ v) z e = cc
