-- The vertices of groups, each with the number of its group.
use Rattle.std.proofs.Common.{ℕ, zero, suc, ◌+◌, ◌<◌, ◌≡◌, ◌≢◌, refl, sym, ◌∙◌, ap, subst, arith, List, [], ◌∷◌, ◌++◌, length, get_or, take, inl, inr, Bool, true, Some, Vec, nat_eq}
use Rattle.std.specs.Prelude.{slice_get, Contains, map, All, ◌↔◌}
use Rattle.std.specs.Borrow.{Bor}
use Rattle.std.specs.Option.{option_map}
use Rattle.std.specs.HashMap.{HashMap}
use Rattle.std.specs.Cmp.{IsEquivalence}
use Rattle.std.proofs.lemmas.List.{map-append, append_assoc, append-nil, take_more, length-take-le}
use Rattle.std.proofs.lemmas.List.Elements.{Contains-append_left, Contains-append_right, Contains-append_cases}
use Rattle.std.proofs.lemmas.Option.{same_Some, slice_get-map, slice_get-get_or}
use Rattle.pf_base.specs.Walks.{HasNode}
use Rattle.pf_union_find.specs.Joined.{Joined}
use Rattle.pf_components.specs.Internal.DisjointSets.{pair_with, pairs_from, PairsLink, IsGathered, IsIdOf, Identifies, MapsByFirst}
use Rattle.pf_components.specs.Components.{InGroup, ShareBy, AreChained, AreIdentified, MapsVertices}
use Rattle.pf_union_find.proofs.ListLemmas.{get_contains, contains_get}
use Rattle.pf_base.proofs.ListLemmas.{none_in, get_within}
use Rattle.pf_union_find.proofs.JoinedLemmas.{Joined-more}
use Rattle.pf_union_find.proofs.DistinctLemmas.{distinct_one}

pub pairs_more : {N : Type 0} (pairs : List (ℕ × N)) (k : ℕ) (members : List N) (i : ℕ) (x : N) → i < length members → x ≡ get_or members i x → (pairs ++ map (pair_with k) (take i members)) ++ (k, x) ∷ [] ≡ pairs ++ map (pair_with k) (take (i + 1) members)
pairs_more pairs k members i x inside at =
    let more : take (i + 1) members ≡ take i members ++ x ∷ [] = take_more members i x inside ∙ ap (λ y. take i members ++ y ∷ []) (sym at) in
    append_assoc pairs (map (pair_with k) (take i members)) ((k, x) ∷ []) ∙ ap (λ ps. pairs ++ ps) (sym (map-append (pair_with k) (take i members) (x ∷ []))) ∙ ap (λ ms. pairs ++ map (pair_with k) ms) (sym more)

pairs_from-push : {N A : Type 0} (k : ℕ) (gs : List (Vec N A)) (g : Vec N A) → pairs_from k (gs ++ g ∷ []) ≡ pairs_from k gs ++ map (pair_with (k + length gs)) g.items
pairs_from-push k [] g = append-nil (map (pair_with k) g.items) ∙ ap (λ (n : ℕ). map (pair_with n) g.items) (omega arith)
pairs_from-push k (h ∷ gs) g =
    ap (λ ps. map (pair_with k) h.items ++ ps) (pairs_from-push (suc k) gs g)
    ∙ sym (append_assoc (map (pair_with k) h.items) (pairs_from (suc k) gs) (map (pair_with (suc k + length gs)) g.items))
    ∙ ap (λ (n : ℕ). (map (pair_with k) h.items ++ pairs_from (suc k) gs) ++ map (pair_with n) g.items) (omega arith)

pub pairs_from-more : {N A : Type 0} (gs : List (Vec N A)) (i : ℕ) (g : Vec N A) → i < length gs → g ≡ get_or gs i g → pairs_from 0 (take i gs) ++ map (pair_with i) g.items ≡ pairs_from 0 (take (i + 1) gs)
pairs_from-more gs i g inside at =
    let more : take (i + 1) gs ≡ take i gs ++ g ∷ [] = take_more gs i g inside ∙ ap (λ y. take i gs ++ y ∷ []) (sym at) in
    let n : i ≡ 0 + length (take i gs) = let l = length-take-le i gs (omega (arith, inside)) in omega (arith, l) in
    ap (λ (k : ℕ). pairs_from 0 (take i gs) ++ map (pair_with k) g.items) n ∙ sym (pairs_from-push 0 (take i gs) g) ∙ ap (pairs_from 0) (sym more)

map_contains : {A B : Type 0} (f : A → B) (xs : List A) (x : A) → Contains xs x → Contains (map f xs) (f x)
map_contains f xs x h = let at = contains_get xs x h in get_contains (map f xs) at.0 (f x) (slice_get-map f xs at.0 ∙ ap (option_map f) at.1)

contains_map : {A B : Type 0} (f : A → B) (xs : List A) (y : B) → Contains (map f xs) y → (x : A) × Contains xs x × (f x ≡ y)
contains_map f [] y h = absurd (omega (arith, h.1))
contains_map f (x ∷ xs) y (zero, l, e) = (x, (0, omega arith, refl), e)
contains_map f (x ∷ xs) y (suc k, l, e) = let r = contains_map f xs y (k, omega (arith, l), e) in (r.0, (suc r.1.0, omega (arith, r.1.1), r.1.2), r.2)

-- a pair is a vertex of a group
pub pair_in : {N A : Type 0} (k : ℕ) (gs : List (Vec N A)) (p : ℕ × N) → Contains (pairs_from k gs) p → (i : ℕ) × (g : Vec N A) × (slice_get gs i ≡ Some g) × Contains g.items p.1 × (p.0 ≡ k + i)
pair_in k [] p h = absurd (omega (arith, h.1))
pair_in k (g ∷ gs) p h = elim (Contains-append_cases (map (pair_with k) g.items) (pairs_from (suc k) gs) p h) [
  | inl c ↦ let r = contains_map (pair_with k) g.items p c in (0, g, refl, subst (λ x. Contains g.items x) (ap (λ q. q.1) r.2) r.1, ap (λ q. q.0) (sym r.2) ∙ omega arith)
  | inr c ↦ let r = pair_in (suc k) gs p c in (suc r.0, r.1, r.2, r.3, r.4 ∙ omega arith)
]

pub in_pair : {N A : Type 0} (k : ℕ) (gs : List (Vec N A)) (i : ℕ) (g : Vec N A) (x : N) → slice_get gs i ≡ Some g → Contains g.items x → Contains (pairs_from k gs) (k + i, x)
in_pair k [] i g x h c = absurd (none_in i g h)
in_pair k (h ∷ gs) zero g x e c = Contains-append_left (map (pair_with k) h.items) (pairs_from (suc k) gs) (k + zero, x) (subst (λ (n : ℕ). Contains (map (pair_with k) h.items) (n, x)) (omega arith) (map_contains (pair_with k) h.items x (subst (λ v. Contains v.items x) (sym (same_Some h g e)) c)))
in_pair k (h ∷ gs) (suc i) g x e c = Contains-append_right (map (pair_with k) h.items) (pairs_from (suc k) gs) (k + suc i, x) (subst (λ (n : ℕ). Contains (pairs_from (suc k) gs) (n, x)) (omega arith) (in_pair (suc k) gs i g x e c))

node_in : {N : Type 0} (eq : N → N → Bool) (xs : List N) (x : N) → HasNode eq xs x → (y : N) × Contains xs y × (eq y x ≡ true)
node_in eq [] x h = absurd h
node_in eq (y ∷ ys) x (inl e) = (y, (0, omega arith, refl), e)
node_in eq (y ∷ ys) x (inr h) = let r = node_in eq ys x h in (r.0, (suc r.1.0, omega (arith, r.1.1), r.1.2), r.2)

in_node : {N : Type 0} (eq : N → N → Bool) (xs : List N) (x y : N) → Contains xs y → eq y x ≡ true → HasNode eq xs x
in_node eq [] x y h e = absurd (omega (arith, h.1))
in_node eq (z ∷ zs) x y (zero, l, i) e = inl (ap (λ w. eq w x) i ∙ e)
in_node eq (z ∷ zs) x y (suc k, l, i) e = inr (in_node eq zs x y (k, omega (arith, l), i) e)

module _ {N A : Type 0} {eq : N → N → Bool} (laws : IsEquivalence eq) (groups : List (Vec N A)) where
  pub in_group : (p : ℕ × N) (x : N) → Contains (pairs_from 0 groups) p → eq p.1 x ≡ true → InGroup eq groups p.0 x
  in_group p x c e = let r = pair_in 0 groups p c in (r.1, ap (slice_get groups) (r.4 ∙ omega arith) ∙ r.2, in_node eq r.1.items x p.1 r.3 e)

  -- a vertex of a group stands in a pair
  pub pair_of : (i : ℕ) (x : N) → InGroup eq groups i x → (y : N) × Contains (pairs_from 0 groups) (i, y) × (eq y x ≡ true)
  pair_of i x h = let r = node_in eq h.0.items x h.2 in (r.0, subst (λ (n : ℕ). Contains (pairs_from 0 groups) (n, r.0)) (omega arith) (in_pair 0 groups i h.0 r.0 h.1 r.1), r.2)

  chained : (i j : ℕ) → Joined nat_eq (PairsLink eq (pairs_from 0 groups)) i j → AreChained eq groups i j
  chained i j h = Joined-more (λ (a b : ℕ) (l : PairsLink eq (pairs_from 0 groups) a b). (l.0.1, subst (λ n. InGroup eq groups n l.0.1) l.4 (in_group l.0 l.0.1 l.2 (laws.refl l.0.1)), subst (λ n. InGroup eq groups n l.0.1) l.5 (in_group l.1 l.0.1 l.3 (laws.symm l.1.1 l.0.1 ∙ l.6)))) h

  by_pairs : (i j : ℕ) → AreChained eq groups i j → Joined nat_eq (PairsLink eq (pairs_from 0 groups)) i j
  by_pairs i j h = Joined-more (λ (a b : ℕ) (l : ShareBy (InGroup eq groups) a b).
      let p = pair_of a l.0 l.1 in
      let q = pair_of b l.0 l.2 in
      ((a, p.0), (b, q.0), p.1, q.1, refl, refl, laws.congr p.0 l.0 q.0 p.2 ∙ laws.symm l.0 q.0 ∙ q.2)) h

  module _ (nodes : List (Bor N)) (first : List ℕ) (parents : List ℕ) (g : IsGathered eq (pairs_from 0 groups) nodes first parents) where
    pub same_label : (i j : ℕ) → (g.label i ≡ g.label j) ↔ AreChained eq groups i j
    same_label i j = (λ e. chained i j (g.same_set i j e), λ h. g.joined i j (by_pairs i j h))

    -- ---- identifiers

    module _ (ids : List ℕ) (identified : Identifies g.label (length groups) groups ids) (len : length ids ≡ length groups) where
      -- a group with a vertex has its label
      pub id_is : (i : ℕ) (x : N) → InGroup eq groups i x → (id : ℕ) → slice_get ids i ≡ Some id → (id ≡ g.label i) × (id < length groups)
      id_is i x h id at =
          let r = identified i h.0 h.1 in
          let same : r.0 ≡ id = same_Some r.0 id (sym r.1 ∙ at) in
          subst (λ (n : ℕ). (n ≡ g.label i) × (n < length groups)) same (of_members h.0.items h.2 r.2)
        where
          of_members : {id : ℕ} (members : List N) → HasNode eq members x → IsIdOf g.label (length groups) i members id → (id ≡ g.label i) × (id < length groups)
          of_members [] n k = absurd n
          of_members (y ∷ ys) n k = k

      pub are_identified : AreIdentified eq groups ids
      are_identified = record {
        len = len;
        empty = λ i h at none. let r = identified i h at in r.1 ∙ ap Some (subst (λ ms. IsIdOf g.label (length groups) i ms r.0) none r.2);
        below = λ i h id at some found.
            let r = identified i h at in
            let same : r.0 ≡ id = same_Some r.0 id (sym r.1 ∙ found) in
            subst (λ (n : ℕ). n < length groups) same (below_some i r.0 h.items some r.2);
        same = λ i j x y a b in_i in_j at_i at_j.
            let p = id_is i x in_i a at_i in
            let q = id_is j y in_j b at_j in
            let s = same_label i j in
            (λ e. s.0 (sym p.0 ∙ e ∙ q.0), λ h. p.0 ∙ s.1 h ∙ sym q.0);
      }
        where
          below_some : (i id : ℕ) (members : List N) → members ≢ [] → IsIdOf g.label (length groups) i members id → id < length groups
          below_some i id [] n k = absurd (n refl)
          below_some i id (y ∷ ys) n k = k.1

      -- ---- the map

      pub maps_vertices : {S : Type 0} (of_vertex : HashMap (Bor N) ℕ S) → MapsByFirst eq nodes first ids of_vertex → MapsVertices eq groups ids of_vertex
      maps_vertices of_vertex m = record {
        maps = λ r id. (
          λ h.
              let f = m.found r id h in
              let p = g.found f.0 f.2 f.1 f.3 f.5 in
              (f.2, subst (λ n. InGroup eq groups n r.now) p.2 (in_group p.0 r.now p.1 (laws.congr p.0.1 f.1.now r.now p.3 ∙ f.4)), f.6),
          λ h.
              let p = pair_of h.0 r.now h.1 in
              let n = g.noted (h.0, p.0) p.1 in
              let s = m.noted n.0 n.2.0 n.1 n.2.1 n.3 r (laws.congr n.2.0.now p.0 r.now n.2.2 ∙ p.2) in
              let f = m.found r s.0 s.1 in
              let same_place : f.0 ≡ n.0 = distinct_one laws nodes g.apart f.0 n.0 f.1 n.2.0 f.3 n.2.1 (laws.congr f.1.now r.now n.2.0.now f.4 ∙ laws.symm r.now n.2.0.now ∙ laws.congr n.2.0.now p.0 r.now n.2.2 ∙ p.2) in
              let same_first : f.2 ≡ n.1 = same_Some f.2 n.1 (sym f.5 ∙ ap (slice_get first) same_place ∙ n.3) in
              let q = g.found f.0 f.2 f.1 f.3 f.5 in
              let here = id_is f.2 r.now (subst (λ k. InGroup eq groups k r.now) q.2 (in_group q.0 r.now q.1 (laws.congr q.0.1 f.1.now r.now q.3 ∙ f.4))) s.0 f.6 in
              let there = id_is h.0 r.now h.1 id h.2 in
              s.1 ∙ ap Some (here.0 ∙ ap g.label same_first ∙ n.4 ∙ sym there.0),
        );
      }

      -- the identifier of a first group is below the number of groups
      pub first_id_below : All (λ (m : ℕ). (id : ℕ) → slice_get ids m ≡ Some id → id < length ids) first
      first_id_below = λ k d inside id at.
          let node = get_within nodes k (omega (arith, inside, g.len)) in
          let f = g.found k (get_or first k d) node.0 node.1 (slice_get-get_or first k d inside) in
          let e = id_is (get_or first k d) node.0.now (subst (λ n. InGroup eq groups n node.0.now) f.2 (in_group f.0 node.0.now f.1 f.3)) id at in
          omega (arith, e.1, len)
