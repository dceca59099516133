-- Strong components over numbers and over the names that they stand for.
use Rattle.std.proofs.Common.{◌≡◌, ℕ, zero, suc, ◌<◌, nat_eq, refl, sym, subst, ap, arith, Bool, List, [], ◌∷◌, length, map, slice_get}
use Rattle.std.specs.Prelude.{Some}
use Rattle.std.specs.Cmp.{IsEquivalence}
use Rattle.std.specs.List.{AllZip}
use Rattle.std.proofs.lemmas.Slice.Zip.{AllZip-long}
use Rattle.pf_base.specs.Walks.{HasNode, NoRepeats}
use Rattle.pf_base.specs.Successors.{HasSuccessor}
use Rattle.pf_edge_lists.proofs.NameWalks.{IsCarried, Stands, carried_next, node_out, repeats_out}
use Rattle.pf_name_numbers.proofs.NameReach.{SameStarts, Zip, node_numbered, one_start, reach_back, reach_named, reach_numbered, reach_out, zip_all}
use Rattle.pf_orders.specs.StrongComponents.{AreStrongComponents, IsInComponent, IsStrongComponentOf, Reaches, StronglyConnected}

module _ {N : Type 0} {eq : N → N → Bool} (laws : IsEquivalence eq) (names : List N) (distinct : NoRepeats eq names) (nextM : ℕ → List ℕ) (nextN : N → List N) (alike : (a : ℕ) (x : N) → Stands laws names a x → AllZip (Stands laws names) (nextM a) (nextN x)) where
  carried : IsCarried laws names (HasSuccessor nat_eq nextM) (HasSuccessor eq nextN)
  carried = carried_next laws names distinct nextM nextN alike

  module _ (j k : ℕ) (x y : N) (s : Stands laws names j x) (t : Stands laws names k y) where
    reaches_out : Reaches nat_eq nextM j k → Reaches eq nextN x y
    reaches_out r = reach_out laws names distinct _ _ carried (j ∷ []) (x ∷ []) (one_start laws names distinct j x s) k y t r

    reaches_back : Reaches eq nextN x y → Reaches nat_eq nextM j k
    reaches_back r = reach_back laws names distinct _ _ carried (j ∷ []) (x ∷ []) (one_start laws names distinct j x s) k y t r

  connected_out : (j k : ℕ) (x y : N) → Stands laws names j x → Stands laws names k y → StronglyConnected nat_eq nextM j k → StronglyConnected eq nextN x y
  connected_out j k x y s t c = record { forth = reaches_out j k x y s t c.forth; back = reaches_out k j y x t s c.back }

  connected_back : (j k : ℕ) (x y : N) → Stands laws names j x → Stands laws names k y → StronglyConnected eq nextN x y → StronglyConnected nat_eq nextM j k
  connected_back j k x y s t c = record { forth = reaches_back j k x y s t c.forth; back = reaches_back k j y x t s c.back }

  -- the component of one name
  module _ (j : ℕ) (x : N) (s : Stands laws names j x) where
    pub component_named : (w : List ℕ) → IsStrongComponentOf nat_eq nextM j w → (v : List N) × Zip laws names distinct w v
    component_named w c = zip_all laws names distinct w (λ k n. reach_named laws names distinct _ _ carried (j ∷ []) (x ∷ []) (one_start laws names distinct j x s) k ((c.has k).0 n).forth)

    pub component_out : (w : List ℕ) (v : List N) → Zip laws names distinct w v → IsStrongComponentOf nat_eq nextM j w → IsStrongComponentOf eq nextN x v
    component_out w v z c = record {
      has = λ y. (
        λ n.
            let k = node_numbered laws names distinct w v y z n in
            connected_out j k.0 x y s k.1 ((c.has k.0).0 k.2),
        λ h.
            let k = reach_numbered laws names distinct _ _ carried (j ∷ []) (x ∷ []) (one_start laws names distinct j x s) y h.forth in
            node_out laws names distinct w v k.0 y z k.1 ((c.has k.0).1 (connected_back j k.0 x y s k.1 h)),
      );
      distinct = repeats_out laws names distinct w v z c.distinct;
    }

  -- the components of all in reach
  module _ (startsM : List ℕ) (startsN : List N) (begin : SameStarts laws names distinct startsM startsN) (named : List ℕ → List N) (zips : (w : List ℕ) (v : List N) → Zip laws names distinct w v → Zip laws names distinct w (named w)) where
    at_list : (lists : List (List ℕ)) (i : ℕ) (g : List N) → slice_get (map named lists) i ≡ Some g → (w : List ℕ) × (slice_get lists i ≡ Some w) × (named w ≡ g)
    at_list [] i g h = cc
    at_list (v ∷ lists) zero g h = (v, refl, cc)
    at_list (v ∷ lists) (suc i) g h = at_list lists i g h

    list_at : (lists : List (List ℕ)) (i : ℕ) (w : List ℕ) → slice_get lists i ≡ Some w → slice_get (map named lists) i ≡ Some (named w)
    list_at [] i w h = cc
    list_at (v ∷ lists) zero w h = let e : v ≡ w = cc in ap (λ u. Some (named u)) e
    list_at (v ∷ lists) (suc i) w h = list_at lists i w h

    module _ (lists : List (List ℕ)) (h : AreStrongComponents nat_eq nextM startsM lists) where
      list_zip : (i : ℕ) (w : List ℕ) → slice_get lists i ≡ Some w → Zip laws names distinct w (named w)
      list_zip i w at =
          let v = zip_all laws names distinct w (λ k n. reach_named laws names distinct _ _ carried startsM startsN begin k (h.reached i k (w, at, n))) in
          zips w v.0 v.1

      in_numbers : (i : ℕ) (x : N) → IsInComponent eq (map named lists) i x → (k : ℕ) × Stands laws names k x × IsInComponent nat_eq lists i k
      in_numbers i x n =
          let g = at_list lists i n.0 n.1 in
          let k = node_numbered laws names distinct g.0 (named g.0) x (list_zip i g.0 g.1) (subst (λ xs. HasNode eq xs x) (sym g.2) n.2) in
          (k.0, k.1, (g.0, g.1, k.2))

      pub components_out : AreStrongComponents eq nextN startsN (map named lists)
      components_out = record {
        complete = λ x r.
            let k = reach_numbered laws names distinct _ _ carried startsM startsN begin x r in
            let c = h.complete k.0 (reach_back laws names distinct _ _ carried startsM startsN begin k.0 x k.1 r) in
            (c.0, (named c.1.0, list_at lists c.0 c.1.0 c.1.1, node_out laws names distinct c.1.0 (named c.1.0) k.0 x (list_zip c.0 c.1.0 c.1.1) k.1 c.1.2));
        reached = λ i x n.
            let k = in_numbers i x n in
            reach_out laws names distinct _ _ carried startsM startsN begin k.0 x k.1 (h.reached i k.0 k.2);
        same = λ i j x y n m.
            let k = in_numbers i x n in
            let l = in_numbers j y m in
            let s = h.same i j k.0 l.0 k.2 l.2 in
            (λ e. connected_out k.0 l.0 x y k.1 l.1 (s.0 e), λ c. s.1 (connected_back k.0 l.0 x y k.1 l.1 c));
        distinct = λ i c at.
            let g = at_list lists i c at in
            subst (NoRepeats eq) g.2 (repeats_out laws names distinct g.0 (named g.0) (list_zip i g.0 g.1) (h.distinct i g.0 g.1));
        filled = λ i c at.
            let g = at_list lists i c at in
            let long : length (named g.0) ≡ length g.0 = AllZip-long (Stands laws names) g.0 (named g.0) (list_zip i g.0 g.1) in
            subst (λ xs. 0 < length xs) g.2 (omega (arith, h.filled i g.0 g.1, long));
        behind = λ i j x y n m r.
            let k = in_numbers i x n in
            let l = in_numbers j y m in
            h.behind i j k.0 l.0 k.2 l.2 (reaches_back k.0 l.0 x y k.1 l.1 r);
      }
