-- From what a search for strong components says of numbers to nodes.
use Rattle.std.proofs.Common.{◌≡◌, ℕ, ℤ, pos, zero, suc, ◌<◌, ◌≤◌, ◌+◌, Bool, true, List, [], ◌∷◌, length, Some, refl, sym, ap, subst, arith, inl, inr, nat_eq}
use Rattle.std.specs.Cmp.{IsEquivalence}
use Rattle.std.specs.List.{AllZip}
use Rattle.std.proofs.lemmas.Option.{slice_get_within}
use borrow.Author.Tests.{eqb-true}
use Rattle.pf_base.specs.Walks.{HasNode, NoRepeats, Follows, IsWalk, BeginsAt, EndsAt, end_of, IsReachable}
use Rattle.pf_base.specs.Edges.{InReach}
use Rattle.pf_base.specs.Successors.{HasSuccessor}
use Rattle.pf_core.specs.Nodes.{StandsFor, IsStep, Explores}
use Rattle.pf_core.specs.Hops.{hops_from, unit_edges}
use Rattle.pf_core.specs.HopLaws.{next_of_edge, reach_next}
use Rattle.pf_core.specs.NodeLaws.{StandsFor-one}
use Rattle.pf_base.proofs.ListLemmas.{none_in}
use Rattle.pf_core.proofs.NodeLemmas.{eq-sym, eq-trans, StandsFor-same, InReach-same, InReach-start, InReach-more, edge_of_same}
use Rattle.pf_core.proofs.UnitLemmas.{edge_of_next}
use Rattle.pf_core.proofs.WalkLemmas.{distinct_nodes}
use Rattle.pf_orders.specs.StrongComponents.{IsInComponent, Reaches, StronglyConnected, IsStrongComponentOf, AreStrongComponents}
use Rattle.pf_orders.specs.Internal.ComponentSearch.{IsAt, IsMember, IsLink, Leads, AreNumberedComponents}
use Rattle.pf_orders.proofs.ComponentLists.{at_one}

-- ---- lists place by place

module _ {A B : Type 0} (P : A → B → Type 0) where
  zip_left : (xs : List A) (ys : List B) (i : ℕ) (x : A) → AllZip P xs ys → IsAt xs i x → (y : B) × IsAt ys i y × P x y
  zip_left [] ys i x z h = absurd (none_in i x h)
  zip_left (a ∷ xs) [] i x z h = absurd z
  zip_left (a ∷ xs) (b ∷ ys) zero x z h = let e : Some a ≡ Some x = h in let f : a ≡ x = cc in (b, refl, subst (λ (c : A). P c b) f z.0)
  zip_left (a ∷ xs) (b ∷ ys) (suc i) x z h = zip_left xs ys i x z.1 h

  zip_right : (xs : List A) (ys : List B) (i : ℕ) (y : B) → AllZip P xs ys → IsAt ys i y → (x : A) × IsAt xs i x × P x y
  zip_right xs [] i y z h = absurd (none_in i y h)
  zip_right [] (b ∷ ys) i y z h = absurd z
  zip_right (a ∷ xs) (b ∷ ys) zero y z h = let e : Some b ≡ Some y = h in let f : b ≡ y = cc in (a, refl, subst (λ (c : B). P a c) f z.0)
  zip_right (a ∷ xs) (b ∷ ys) (suc i) y z h = zip_right xs ys i y z.1 h

  zip_filled : (xs : List A) (ys : List B) → AllZip P xs ys → 0 < length xs → 0 < length ys
  zip_filled [] ys z l = absurd (omega (arith, l))
  zip_filled (a ∷ xs) [] z l = absurd z
  zip_filled (a ∷ xs) (b ∷ ys) z l = omega arith

-- numbers that stand at one place each do not repeat
number_at : (ks : List ℕ) (k : ℕ) → HasNode nat_eq ks k → (p : ℕ) × IsAt ks p k
number_at [] k h = absurd h
number_at (j ∷ ks) k (inl e) = (0, ap Some (eqb-true j k e))
number_at (j ∷ ks) k (inr h) = let q = number_at ks k h in (suc q.0, q.1)

numbers_once : (ks : List ℕ) → ((p q k : ℕ) → IsAt ks p k → IsAt ks q k → p ≡ q) → NoRepeats nat_eq ks
numbers_once [] h = tt
numbers_once (k ∷ ks) h = (
  λ n. let q = number_at ks k n in let e : 0 ≡ suc q.0 = h 0 (suc q.0) k refl q.1 in omega (arith, e),
  numbers_once ks (λ p q j a b. let e : suc p ≡ suc q = h (suc p) (suc q) j a b in omega (arith, e)),
)

module _ {N S : Type 0} (eq : N → N → Bool) (laws : IsEquivalence eq) {answers : S → List N → (N → List (N × ℤ)) → Type 0} (next : N → List N) {starts keys : List N} {source : S} (explores : Explores eq answers (hops_from starts next) keys source)
    (named : (a : N) → HasNode eq starts a → (k : ℕ) × (k < length keys) × StandsFor eq keys k a)
    (ks : List (List ℕ)) (cs : List (List N)) (h : AreNumberedComponents (IsStep eq (hops_from starts next)) (StandsFor eq keys) (length keys) ks) (zipped : AllZip (AllZip (StandsFor eq keys)) ks cs) where
  same_node : (k : ℕ) (x y : N) → StandsFor eq keys k x → StandsFor eq keys k y → eq x y ≡ true
  same_node k x y a b = let e = at_one keys k a.0 b.0 a.1 b.1 in eq-trans eq laws x a.0 y (eq-sym eq laws a.0 x a.2) (subst (λ (m : N). eq m y ≡ true) (sym e) b.2)

  -- the nodes along numbers that lead on
  nodes_along : (w : List ℕ) (u : ℕ) (x : N) → StandsFor eq keys u x → Follows (IsLink (IsStep eq (hops_from starts next)) (StandsFor eq keys)) u w → (v : List N) × Follows (HasSuccessor eq next) x v × StandsFor eq keys (end_of u w) (end_of x v)
  nodes_along [] u x s f = ([], tt, s)
  nodes_along (b ∷ w) u x s f =
      let l = f.0 in
      let edge = edge_of_same eq laws (unit_edges next) starts explores.alike l.0 x l.2 l.1 l.4.0 (same_node u l.0 x l.3 s) l.4.1 in
      let q = nodes_along w b l.2 l.5 f.1 in
      (l.2 ∷ q.0, ((next_of_edge eq (next x) l.2 l.1 edge).0, q.1), q.2)

  leads_reach : (u v : ℕ) (x y : N) → StandsFor eq keys u x → StandsFor eq keys v y → Leads (IsStep eq (hops_from starts next)) (StandsFor eq keys) u v → Reaches eq next x y
  leads_reach u v x y s t l =
      let q = nodes_along l.0 u x s l.1 in
      record {
        walk = x ∷ q.0;
        goes = record {
          walks = q.1;
          begins = inl (laws.refl x);
          ends = same_node v (end_of x q.0) y (subst (λ (n : ℕ). StandsFor eq keys n (end_of x q.0)) l.2 q.2) t;
        };
      }

  -- a walk leads to no later component
  falls : (w : List N) (i u : ℕ) (x : N) → InReach eq (unit_edges next) starts x → StandsFor eq keys u x → IsMember ks i u → Follows (HasSuccessor eq next) x w
      → (j : ℕ) × (v : ℕ) × (j ≤ i) × IsMember ks j v × StandsFor eq keys v (end_of x w)
  falls [] i u x r s m f = (i, u, omega arith, m, s)
  falls (b ∷ w) i u x r s m f =
      let edge = edge_of_next eq (next x) b f.0 in
      let q = h.closing.before i u m x (pos 1) b s (r, edge) in
      let d = falls w q.2.0 q.0 b (InReach-more eq laws (unit_edges next) starts explores.alike x b (pos 1) r edge) q.1 q.2.2 f.1 in
      (d.0, d.1, omega (arith, d.2, q.2.1), d.3, d.4)

  falls_to : (i u : ℕ) (x y : N) → InReach eq (unit_edges next) starts x → StandsFor eq keys u x → IsMember ks i u → Reaches eq next x y → (j : ℕ) × (v : ℕ) × (j ≤ i) × IsMember ks j v × StandsFor eq keys v y
  falls_to i u x y r s m walk = by walk.walk walk.goes.walks walk.goes.begins walk.goes.ends
    where
      by : (w : List N) → IsWalk (HasSuccessor eq next) w → BeginsAt eq (x ∷ []) w → EndsAt eq (λ z. eq z y) w → (j : ℕ) × (v : ℕ) × (j ≤ i) × IsMember ks j v × StandsFor eq keys v y
      by [] f b e = absurd f
      by (a ∷ w) f (inl b) e =
          let d = falls w i u a (InReach-same eq laws (unit_edges next) starts x a r b) (StandsFor-same eq laws keys u x a s b) m f in
          (d.0, d.1, d.2, d.3, StandsFor-same eq laws keys d.1 (end_of a w) y d.4 e)
      by (a ∷ w) f (inr b) e = absurd b

  -- ---- nodes in components

  node_at : (c : List ℕ) (xs : List N) (x : N) → AllZip (StandsFor eq keys) c xs → HasNode eq xs x → (p : ℕ) × (k : ℕ) × IsAt c p k × StandsFor eq keys k x
  node_at [] [] x z n = absurd n
  node_at [] (y ∷ xs) x z n = absurd z
  node_at (k ∷ c) [] x z n = absurd z
  node_at (k ∷ c) (y ∷ xs) x z (inl e) = (0, k, refl, StandsFor-same eq laws keys k y x z.0 e)
  node_at (k ∷ c) (y ∷ xs) x z (inr n) = let q = node_at c xs x z.1 n in (suc q.0, q.1, q.2, q.3)

  at_node : (c : List ℕ) (xs : List N) (p k : ℕ) (x : N) → AllZip (StandsFor eq keys) c xs → IsAt c p k → StandsFor eq keys k x → HasNode eq xs x
  at_node [] xs p k x z a s = absurd (none_in p k a)
  at_node (j ∷ c) [] p k x z a s = absurd z
  at_node (j ∷ c) (y ∷ xs) zero k x z a s = let e : Some j ≡ Some k = a in let f : j ≡ k = cc in inl (same_node k y x (subst (λ (n : ℕ). StandsFor eq keys n y) f z.0) s)
  at_node (j ∷ c) (y ∷ xs) (suc p) k x z a s = inr (at_node c xs p k x z.1 a s)

  number_of : (i : ℕ) (x : N) → IsInComponent eq cs i x → (k : ℕ) × IsMember ks i k × StandsFor eq keys k x
  number_of i x m =
      let c = zip_right (AllZip (StandsFor eq keys)) ks cs i m.0 zipped m.1 in
      let q = node_at c.0 m.0 x c.2 m.2 in
      (q.1, (c.0, q.0, c.1, q.2), q.3)

  node_of : (i k : ℕ) (x : N) → IsMember ks i k → StandsFor eq keys k x → IsInComponent eq cs i x
  node_of i k x m s =
      let c = zip_left (AllZip (StandsFor eq keys)) ks cs i m.0 zipped m.2 in
      (c.0, c.1, at_node m.0 c.0 m.1 k x c.2 m.3 s)

  in_reach : (k : ℕ) (x : N) → StandsFor eq keys k x → InReach eq (unit_edges next) starts x
  in_reach k x s = InReach-same eq laws (unit_edges next) starts s.0 x (explores.reached k s.0 s.1) s.2

  no_later : (i j : ℕ) (x y : N) → IsInComponent eq cs i x → IsInComponent eq cs j y → Reaches eq next x y → j ≤ i
  no_later i j x y a b r =
      let u = number_of i x a in
      let v = number_of j y b in
      let d = falls_to i u.0 x y (in_reach u.0 x u.2) u.2 u.1 r in
      let e = StandsFor-one eq laws keys explores.distinct d.1 v.0 y d.4 v.2 in
      let f = h.apart.once d.0 j v.0 (subst (λ (n : ℕ). IsMember ks d.0 n) e d.3) v.1 in
      omega (arith, d.2, f)

  reached_in : (x : N) → IsReachable eq (HasSuccessor eq next) starts x → (i : ℕ) × IsInComponent eq cs i x
  reached_in x r = by r.walk r.goes.walks r.goes.begins r.goes.ends
    where
      by : (w : List N) → IsWalk (HasSuccessor eq next) w → BeginsAt eq starts w → EndsAt eq (λ z. eq z x) w → (i : ℕ) × IsInComponent eq cs i x
      by [] f b e = absurd f
      by (a ∷ w) f b e =
          let k = named a b in
          let m = h.complete k.0 k.1 in
          let d = falls w m.0 k.0 a (InReach-start eq laws (unit_edges next) starts a a b (laws.refl a)) k.2 m.1 f in
          (d.0, node_of d.0 d.1 x d.3 (StandsFor-same eq laws keys d.1 (end_of a w) x d.4 e))

  pub strong_components_of : AreStrongComponents eq next starts cs
  strong_components_of = record {
    complete = reached_in;
    reached = λ i x a. let u = number_of i x a in reach_next eq next starts x (in_reach u.0 x u.2);
    same = λ i j x y a b. (
      λ e.
          let u = number_of i x a in
          let v = number_of j y b in
          let m = subst (λ (n : ℕ). IsMember ks n v.0) (sym e) v.1 in
          record {
            forth = leads_reach u.0 v.0 x y u.2 v.2 (h.closing.joined i u.0 v.0 u.1 m);
            back = leads_reach v.0 u.0 y x v.2 u.2 (h.closing.joined i v.0 u.0 m u.1);
          },
      λ s. let l = no_later i j x y a b s.forth in let m = no_later j i y x b a s.back in omega (arith, l, m),
    );
    distinct = λ i c a.
        let k = zip_right (AllZip (StandsFor eq keys)) ks cs i c zipped a in
        distinct_nodes eq laws keys (StandsFor-one eq laws keys explores.distinct) k.0 c k.2 (numbers_once k.0 (λ p q n x y. h.apart.distinct i k.0 p q n k.1 x y));
    filled = λ i c a. let k = zip_right (AllZip (StandsFor eq keys)) ks cs i c zipped a in zip_filled (StandsFor eq keys) k.0 c k.2 (h.apart.filled i k.0 k.1);
    behind = no_later;
  }

-- ---- the component of one node is the last one

some_node : {N : Type 0} (eq : N → N → Bool) → IsEquivalence eq → (xs : List N) → 0 < length xs → (x : N) × HasNode eq xs x
some_node eq laws [] l = absurd (omega (arith, l))
some_node eq laws (x ∷ xs) l = (x, inl (laws.refl x))

module _ {N : Type 0} (eq : N → N → Bool) (laws : IsEquivalence eq) (next : N → List N) (start : N) (cs : List (List N)) (h : AreStrongComponents eq next (start ∷ []) cs) where
  own_reach : Reaches eq next start start
  own_reach = record { walk = start ∷ []; goes = record { walks = tt; begins = inl (laws.refl start); ends = laws.refl start } }

  pub some_component : 0 < length cs
  some_component = let i = h.complete start own_reach in let l = slice_get_within cs i.0 i.1.0 i.1.1 in omega (arith, l)

  pub last_component : (n : ℕ) (c : List N) → IsAt cs n c → n + 1 ≡ length cs → IsStrongComponentOf eq next start c
  last_component n c at last = record { has = λ y. (λ m. of_last y m, λ s. to_last y s); distinct = h.distinct n c at }
    where
      in_last : IsInComponent eq cs n start
      in_last =
          let y = some_node eq laws c (h.filled n c at) in
          let i = h.complete start own_reach in
          let l = slice_get_within cs i.0 i.1.0 i.1.1 in
          let b = h.behind i.0 n start y.0 i.1 (c, at, y.1) (h.reached n y.0 (c, at, y.1)) in
          let e : i.0 ≡ n = omega (arith, l, b, last) in
          subst (λ (k : ℕ). IsInComponent eq cs k start) e i.1

      of_last : (y : N) → HasNode eq c y → StronglyConnected eq next start y
      of_last y m = (h.same n n start y in_last (c, at, m)).0 refl

      to_last : (y : N) → StronglyConnected eq next start y → HasNode eq c y
      to_last y s =
          let j = h.complete y s.forth in
          let e = (h.same n j.0 start y in_last j.1).1 s in
          let f = at_one cs n j.1.0 c (subst (λ (k : ℕ). IsAt cs k j.1.0) (sym e) j.1.1) at in
          subst (λ (xs : List N). HasNode eq xs y) f j.1.2
