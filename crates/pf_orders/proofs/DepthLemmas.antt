-- From numbers in groups to nodes in groups by depth.
use Rattle.std.proofs.Common.{◌≡◌, ℕ, zero, suc, ◌<◌, ◌≤◌, ◌+◌, ◌∙◌, refl, sym, ap, subst, arith, inl, inr, Bool, true, List, [], ◌∷◌, ◌++◌, length, length-append, nat_eq, Some, slice_get, add-one, ℤ}
use Rattle.std.specs.Prelude.{Contains, Vec}
use Rattle.std.specs.Cmp.{IsEquivalence}
use Rattle.std.specs.List.{AllZip, IsDistinct}
use Rattle.pf_base.specs.NodeRefs.{HasSameNodes}
use Rattle.pf_base.specs.Successors.{HasSuccessor}
use Rattle.pf_base.specs.Walks.{HasNode, Follows, IsGoalWalk, end_of}
use Rattle.pf_core.specs.NodeLaws.{StandsFor-one}
use Rattle.pf_core.specs.Nodes.{StandsFor, Explores}
use Rattle.pf_core.specs.Hops.{hops_from}
use Rattle.pf_core.specs.Numbered.{Grows, StandsBelow}
use Rattle.pf_core.proofs.FrontierLemmas.{end_more}
use Rattle.pf_discovery.proofs.LoopWalks.{last_cut, follows_cut}
use Rattle.pf_base.proofs.ListLemmas.{Contains-cases, Contains-head, Contains-tail, none_in}
use Rattle.pf_core.proofs.NodeLemmas.{eq-sym, eq-trans, StandsFor-same, follows_more}
use Rattle.pf_core.proofs.UnitLemmas.{starts_stand, begins_all}
use Rattle.pf_core.proofs.WalkLemmas.{HasNode-same, distinct_nodes}
use Rattle.pf_orders.specs.GroupDepths.{InGroup, AreClosed, HasDepth, AreDepthGroups, HaveNoDepth}
use Rattle.pf_orders.specs.Internal.Rounds.{Targets, AreCounted, AreLevels, AreNodesAt}
use Rattle.pf_orders.proofs.OrderLemmas.{member_of, of_member}
use Rattle.pf_orders.proofs.RoundLemmas.{get_below}
use Rattle.pf_orders.proofs.SortLemmas.{unit_targets, target_of, of_target, node_in, number_in}

-- the rows of the numbers of the nodes
pub record AreRows {N A : Type 0} (eq : N → N → Bool) (next : N → List N) (nodes keys : List N) (rows : List (Vec ℕ A)) : Type 0 where
  pub same : HasSameNodes eq keys nodes
  pub distinct : IsDistinct eq keys
  pub wide : length rows ≡ length keys
  pub inside : (i j : ℕ) → Targets rows i j → j < length keys
  pub listed : (k : ℕ) (row : Vec ℕ A) (x : N) → slice_get rows k ≡ Some row → StandsFor eq keys k x → AllZip (StandsFor eq keys) row.items (unit_targets next x)

module _ {N A : Type 0} {eq : N → N → Bool} (laws : IsEquivalence eq) {next : N → List N} {nodes keys : List N} {rows : List (Vec ℕ A)} (read : AreRows eq next nodes keys rows) where
  one : (i j : ℕ) (x : N) → StandsFor eq keys i x → StandsFor eq keys j x → i ≡ j
  one = StandsFor-one eq laws keys read.distinct

  -- a number whose node is one of the nodes
  number_of : (x : N) → HasNode eq nodes x → StandsBelow (length keys) (StandsFor eq keys) x
  number_of x h = (starts_stand eq laws nodes keys read.same x).1 h

  is_given : (k : ℕ) (x : N) → k < length keys → StandsFor eq keys k x → HasNode eq nodes x
  is_given k x l s = (starts_stand eq laws nodes keys read.same x).0 (k, l, s)

  row_number : (ks : List ℕ) (ys : List N) (y : N) → AllZip (StandsFor eq keys) ks ys → Contains ys y → (j : ℕ) × HasNode nat_eq ks j × StandsFor eq keys j y
  row_number [] [] y z h = absurd (omega (arith, h.1))
  row_number [] (v ∷ ys) y z h = absurd z
  row_number (k ∷ ks) [] y z h = absurd z
  row_number (k ∷ ks) (v ∷ ys) y z h = elim (Contains-cases ys v y h) as (λ _. (j : ℕ) × HasNode nat_eq (k ∷ ks) j × StandsFor eq keys j y) [
    | inl e ↦ (k, member_of (k ∷ ks) k (Contains-head ks k), subst (λ (u : N). StandsFor eq keys k u) e z.0)
    | inr t ↦ let q = row_number ks ys y z.1 t in (q.0, inr q.1, q.2)
  ]

  row_node : (ks : List ℕ) (ys : List N) (j : ℕ) → AllZip (StandsFor eq keys) ks ys → Contains ks j → (y : N) × Contains ys y × StandsFor eq keys j y
  row_node [] ys j z h = absurd (omega (arith, h.1))
  row_node (k ∷ ks) [] j z h = absurd z
  row_node (k ∷ ks) (v ∷ ys) j z h = elim (Contains-cases ks k j h) as (λ _. (y : N) × Contains (v ∷ ys) y × StandsFor eq keys j y) [
    | inl e ↦ (v, Contains-head ys v, subst (λ (i : ℕ). StandsFor eq keys i v) e z.0)
    | inr t ↦ let q = row_node ks ys j z.1 t in (q.0, Contains-tail ys v q.0 q.1, q.2)
  ]

  -- a successor's number is in the row
  target_from : (i : ℕ) (x y : N) → i < length keys → StandsFor eq keys i x → HasSuccessor eq next x y → (j : ℕ) × Targets rows i j × StandsFor eq keys j y
  target_from i x y l s h =
      let row = get_below rows i (omega (arith, l, read.wide)) in
      let t = target_of eq laws next x y h in
      let q = row_number row.0.items (unit_targets next x) t.0 (read.listed i row.0 x row.1 s) t.1 in
      (q.0, (row.0, row.1, q.1), StandsFor-same eq laws keys q.0 t.0 y q.2 t.2)

  -- a number in the row is a successor's
  successor_from : (i j : ℕ) (x y : N) → StandsFor eq keys i x → StandsFor eq keys j y → Targets rows i j → HasSuccessor eq next x y
  successor_from i j x y s t h =
      let q = row_node h.0.items (unit_targets next x) j (read.listed i h.0 x h.1 s) (of_member h.0.items j h.2) in
      let m = q.2 in
      let e : eq q.0 y ≡ true = eq-trans eq laws q.0 m.0 y (eq-sym eq laws m.0 q.0 m.2) (by m.0 t m.1) in
      HasNode-same eq laws (next x) q.0 y e (of_target eq laws next x q.0 q.1)
    where
      by : (n : N) → StandsFor eq keys j y → slice_get keys j ≡ Some n → eq n y ≡ true
      by n u at = let e : Some u.0 ≡ Some n = sym u.1 ∙ at in let f : u.0 ≡ n = cc in subst (λ (v : N). eq v y ≡ true) f u.2

  pub closed : AreClosed eq next nodes
  closed x y h s =
      let i = number_of x h in
      let q = target_from i.0 x y i.1 i.2 s in
      is_given q.0 y (read.inside i.0 q.0 q.1) q.2

  walk_closed : (w : List N) (a : N) → HasNode eq nodes a → Follows (HasSuccessor eq next) a w → HasNode eq nodes (end_of a w)
  walk_closed [] a h f = h
  walk_closed (b ∷ w) a h f = walk_closed w b (closed a b h f.0) f.1

  -- a walk from one of the nodes to x
  abbrev pub Comes : N → List N → Type 0
  Comes x w = IsGoalWalk eq (HasSuccessor eq next) nodes (λ y. eq y x) w

  comes_more : (x y : N) (w : List N) → Comes x w → ((z : N) → eq z x ≡ true → HasSuccessor eq next z y) → Comes y (w ++ y ∷ [])
  comes_more x y [] c s = absurd c.walks
  comes_more x y (a ∷ w) c s = record {
    walks = follows_more eq laws (HasSuccessor eq next) w a y c.walks (s (end_of a w) c.ends);
    begins = c.begins;
    ends = subst (λ (z : N). eq z y ≡ true) (sym (end_more w a y)) (laws.refl y);
  }

  module _ {groups : List (Vec ℕ A)} {remaining : List ℕ} (levels : AreLevels (length rows) rows groups remaining) where
    v : AreLevels (length keys) rows groups remaining
    v = subst (λ (n : ℕ). AreLevels n rows groups remaining) read.wide levels

    -- no walk to a node of group k has more than k steps
    high : (m k j : ℕ) (x a : N) (w : List N) → length w ≤ m → InGroup nat_eq groups k j → StandsFor eq keys j x → HasNode eq nodes a → Follows (HasSuccessor eq next) a w → eq (end_of a w) x ≡ true → length w ≤ k
    high m k j x a [] l i s h f e = omega arith
    high zero k j x a (b ∷ w) l i s h f e = absurd (omega (arith, l))
    high (suc m) k j x a (b ∷ w) l i s h f e =
        let q = last_cut b w in
        let size : length (b ∷ w) ≡ length q.0 + 1 = ap length q.2 ∙ length-append q.0 (q.1 ∷ []) in
        let r = follows_cut (HasSuccessor eq next) q.0 a q.1 (subst (Follows (HasSuccessor eq next) a) q.2 f) in
        let last : eq q.1 x ≡ true = subst (λ (z : N). eq z x ≡ true) (ap (end_of a) q.2 ∙ end_more q.0 a q.1) e in
        let y = end_of a q.0 in
        let n = number_of y (walk_closed q.0 a h r.0) in
        let t = target_from n.0 y q.1 n.1 n.2 r.1 in
        let same_number : t.0 ≡ j = one t.0 j x (StandsFor-same eq laws keys t.0 q.1 x t.2 last) s in
        let b4 = v.before k n.0 j i (subst (Targets rows n.0) same_number t.1) in
        let rest = high m b4.0 n.0 y a q.0 (omega (arith, l, size)) b4.2 n.2 h r.0 (laws.refl y) in
        omega (arith, rest, b4.1, size)

    -- some walk to a node of group k has k steps
    low : (k j : ℕ) (x : N) → InGroup nat_eq groups k j → StandsFor eq keys j x → (w : List N) × Comes x w × (length w ≡ k + 1)
    low zero j x i s = (x ∷ [], record { walks = tt; begins = is_given j x (v.below zero j i) s; ends = laws.refl x }, refl)
    low (suc k) j x i s =
        let b = v.behind k j (subst (λ (n : ℕ). InGroup nat_eq groups n j) (sym (add-one k)) i) in
        let y = begins_all eq laws keys b.0 (v.below k b.0 b.1) in
        let r = low k b.0 y.0 b.1 y.1 in (
          r.0 ++ x ∷ [],
          comes_more y.0 x r.0 r.1 (λ z e. successor_from b.0 j z x (StandsFor-same eq laws keys b.0 y.0 z y.1 (eq-sym eq laws z y.0 e)) s b.2),
          omega (arith, length-append r.0 (x ∷ []), r.2),
        )

    -- walks of any length lead to a node that remains
    far : (m j : ℕ) (x : N) → HasNode nat_eq remaining j → StandsFor eq keys j x → (w : List N) × Comes x w × (length w ≡ m + 1)
    far zero j x h s = (x ∷ [], record { walks = tt; begins = is_given j x (v.left_below j h) s; ends = laws.refl x }, refl)
    far (suc m) j x h s =
        let b = v.left_behind j h in
        let y = begins_all eq laws keys b.0 (v.left_below b.0 b.1) in
        let r = far m b.0 y.0 b.1 y.1 in (
          r.0 ++ x ∷ [],
          comes_more y.0 x r.0 r.1 (λ z e. successor_from b.0 j z x (StandsFor-same eq laws keys b.0 y.0 z y.1 (eq-sym eq laws z y.0 e)) s b.2),
          omega (arith, length-append r.0 (x ∷ []), r.2),
        )

    at_depth : (k j : ℕ) (x : N) → InGroup nat_eq groups k j → StandsFor eq keys j x → HasDepth eq next nodes x k
    at_depth k j x i s = let r = low k j x i s in record { walk = r.0; comes = r.1; steps = r.2; longest = by }
      where
        by : (w : List N) → Comes x w → length w ≤ k + 1
        by [] c = absurd c.walks
        by (a ∷ w) c = let l = high (length w) k j x a w (omega arith) i s c.begins c.walks c.ends in omega (arith, l)

    one_depth : (x : N) (k m : ℕ) → HasDepth eq next nodes x k → HasDepth eq next nodes x m → k ≡ m
    one_depth x k m d e =
        let a = d.longest e.walk e.comes in
        let b = e.longest d.walk d.comes in
        omega (arith, a, b, d.steps, e.steps)

    no_depth : (j : ℕ) (x : N) → HasNode nat_eq remaining j → StandsFor eq keys j x → (k : ℕ) → ¬ (HasDepth eq next nodes x k)
    no_depth j x h s k d = let r = far (k + 1) j x h s in let l = d.longest r.0 r.1 in omega (arith, l, r.2)

    zip_at : (gs : List (Vec ℕ A)) (hs : List (Vec N A)) (k : ℕ) (h : Vec N A) → AllZip (AreNodesAt eq keys) gs hs → slice_get hs k ≡ Some h → (g : Vec ℕ A) × (slice_get gs k ≡ Some g) × AllZip (StandsFor eq keys) g.items h.items
    zip_at [] [] k h z e = absurd (none_in k h e)
    zip_at [] (y ∷ hs) k h z e = absurd z
    zip_at (x ∷ gs) [] k h z e = absurd z
    zip_at (x ∷ gs) (y ∷ hs) zero h z e = let q : Some y ≡ Some h = e in let r : y ≡ h = cc in (x, refl, subst (λ (u : Vec N A). AllZip (StandsFor eq keys) x.items u.items) r z.0)
    zip_at (x ∷ gs) (y ∷ hs) (suc k) h z e = zip_at gs hs k h z.1 e

    zip_of : (gs : List (Vec ℕ A)) (hs : List (Vec N A)) (k : ℕ) (g : Vec ℕ A) → AllZip (AreNodesAt eq keys) gs hs → slice_get gs k ≡ Some g → (h : Vec N A) × (slice_get hs k ≡ Some h) × AllZip (StandsFor eq keys) g.items h.items
    zip_of [] [] k g z e = absurd (none_in k g e)
    zip_of [] (y ∷ hs) k g z e = absurd z
    zip_of (x ∷ gs) [] k g z e = absurd z
    zip_of (x ∷ gs) (y ∷ hs) zero g z e = let q : Some x ≡ Some g = e in let r : x ≡ g = cc in (y, refl, subst (λ (u : Vec ℕ A). AllZip (StandsFor eq keys) u.items y.items) r z.0)
    zip_of (x ∷ gs) (y ∷ hs) (suc k) g z e = zip_of gs hs k g z.1 e

    empty_zip : (ks : List ℕ) (ys : List N) → AllZip (StandsFor eq keys) ks ys → ys ≡ [] → ks ≡ []
    empty_zip [] ys z e = refl
    empty_zip (k ∷ ks) [] z e = absurd z
    empty_zip (k ∷ ks) (y ∷ ys) z e = absurd (omega (arith, ap length e))

    pub depth_groups : (answer : List (Vec N A)) → AllZip (AreNodesAt eq keys) groups answer → AreDepthGroups eq next nodes answer
    depth_groups answer z = record {
      exact = λ k x. (
        (λ h.
            let g = zip_at groups answer k h.0 z h.1 in
            let j = number_in eq laws keys g.0.items h.0.items x g.2 h.2 in
            let i : InGroup nat_eq groups k j.0 = (g.0, g.1, j.1) in
            (is_given j.0 x (v.below k j.0 i) j.2, at_depth k j.0 x i j.2)),
        (λ h.
            let j = number_of x h.0 in
            elim (v.every j.0 j.1) as (λ _. InGroup eq answer k x) [
              | inl t ↦
                  let e = one_depth x t.0 k (at_depth t.0 j.0 x t.1 j.2) h.1 in
                  let i = subst (λ (n : ℕ). InGroup nat_eq groups n j.0) e t.1 in
                  let a = zip_of groups answer k i.0 z i.1 in
                  (a.0, a.1, node_in eq laws keys i.0.items a.0.items j.0 x a.2 i.2 j.2)
              | inr r ↦ absurd (no_depth j.0 x r j.2 k h.1)
            ]),
      );
      full = record {
        full = λ k h e n. let g = zip_at groups answer k h z e in v.full k g.0 g.1 (empty_zip g.0.items h.items g.2 n);
        once = λ k h e. let g = zip_at groups answer k h z e in distinct_nodes eq laws keys one g.0.items h.items g.2 (v.once k g.0 g.1);
      };
    }

    pub all_have : remaining ≡ [] → (x : N) → HasNode eq nodes x → (k : ℕ) × HasDepth eq next nodes x k
    all_have nil x h =
        let j = number_of x h in
        elim (v.every j.0 j.1) as (λ _. (k : ℕ) × HasDepth eq next nodes x k) [
          | inl t ↦ (t.0, at_depth t.0 j.0 x t.1 j.2)
          | inr r ↦ absurd (subst (λ (ks : List ℕ). HasNode nat_eq ks j.0) nil r)
        ]

    pub have_none : (left : List N) → AllZip (StandsFor eq keys) remaining left → HaveNoDepth eq next nodes left
    have_none left z = record {
      exact = λ x. (
        (λ h. let j = number_in eq laws keys remaining left x z h in (is_given j.0 x (v.left_below j.0 j.1) j.2, no_depth j.0 x j.1 j.2)),
        (λ h.
            let j = number_of x h.0 in
            elim (v.every j.0 j.1) as (λ _. HasNode eq left x) [
              | inl t ↦ absurd (h.1 t.0 (at_depth t.0 j.0 x t.1 j.2))
              | inr r ↦ node_in eq laws keys remaining left j.0 x z r j.2
            ]),
      );
      once = distinct_nodes eq laws keys one remaining left z v.left_once;
    }

    pub some_left : (left : List N) → AllZip (StandsFor eq keys) remaining left → ¬ (remaining ≡ []) → ¬ (left ≡ [])
    some_left left z n e = n (empty_zip remaining left z e)

-- where no node was found, the rows that were read are those of the nodes
pub are_rows : {N A S : Type 0} {eq : N → N → Bool} {answers : S → List N → (N → List (N × ℤ)) → Type 0} {next : N → List N} {nodes keys : List N} {source : S} {rows : List (Vec ℕ A)} {counts : List ℕ} (first : List N)
    → IsEquivalence eq → HasSameNodes eq first nodes → Explores eq answers (hops_from nodes next) keys source → Grows (length first) (length keys) (StandsFor eq first) (StandsFor eq keys) → length keys ≡ length first
    → AreCounted rows counts → length rows ≡ length first → length counts ≡ length first → ((k : ℕ) (row : Vec ℕ A) (x : N) → slice_get rows k ≡ Some row → StandsFor eq keys k x → AllZip (StandsFor eq keys) row.items (unit_targets next x))
    → AreRows eq next nodes keys rows
are_rows {eq = eq} {nodes = nodes} {keys = keys} first laws same explores grown size counted wide long listed = record {
  same = λ x.
      let old = starts_stand eq laws nodes first same x in
      let new = starts_stand eq laws keys keys (λ z. ((λ h. h), (λ h. h))) x in (
        (λ h. let k = new.1 h in let l = k.1 in old.0 (k.0, omega (arith, l, size), grown.back k.0 x (omega (arith, l, size)) k.2)),
        (λ h. let k = old.1 h in let l = k.1 in new.0 (k.0, omega (arith, l, size), grown.stays k.0 x k.2)),
      );
  distinct = explores.distinct;
  wide = wide ∙ sym size;
  inside = λ i j t. subst (λ (n : ℕ). j < n) (long ∙ sym size) (counted.inside i j t);
  listed = listed;
}
