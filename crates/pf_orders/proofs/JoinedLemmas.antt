-- Groups by depth, joined in order, are a topological order.
use Rattle.std.proofs.Common.{◌≡◌, ℕ, zero, suc, ◌<◌, ◌≤◌, ◌+◌, ◌∙◌, refl, sym, ap, subst, arith, inl, inr, Bool, true, false, cond, List, [], ◌∷◌, ◌++◌, length, length-append, Some, slice_get}
use Rattle.std.specs.Prelude.{◌⊎◌, Vec, IsPermutation, count_by}
use Rattle.std.specs.Cmp.{IsEquivalence}
use Rattle.std.proofs.lemmas.List.Sorted.{sum_by-IsPermutation}
use Rattle.std.proofs.lemmas.List.Sums.{sum_by-cons}
use Rattle.pf_base.specs.Successors.{HasSuccessor}
use Rattle.pf_base.specs.Walks.{HasNode, NoRepeats, Follows, IsGoalWalk, end_of}
use Rattle.pf_core.proofs.FrontierLemmas.{end_more}
use Rattle.pf_base.proofs.ListLemmas.{none_in}
use Rattle.pf_core.proofs.NodeLemmas.{eq-sym, follows_more}
use Rattle.pf_core.proofs.WalkLemmas.{HasNode-same}
use Rattle.pf_orders.specs.GroupDepths.{InGroup, AreClosed, HasDepth, AreDepthGroups}
use Rattle.pf_orders.specs.JoinedGroups.{AreJoined}
use Rattle.pf_orders.specs.TopologicalOrders.{LeadsForward, IsTopologicalOrder}

module _ {N : Type 0} (eq : N → N → Bool) (laws : IsEquivalence eq) where
  -- ---- how often a node stands in a list

  abbrev count : N → List N → ℕ
  count x xs = count_by (λ y. eq y x) xs

  count-cons : (x y : N) (ys : List N) → count x (y ∷ ys) ≡ cond (eq y x) 1 0 + count x ys
  count-cons x y ys = sum_by-cons (λ z. cond (eq z x) 1 0) y ys

  count-here : (x y : N) (ys : List N) → eq y x ≡ true → count x (y ∷ ys) ≡ 1 + count x ys
  count-here x y ys e = count-cons x y ys ∙ ap (λ b. cond b 1 0 + count x ys) e

  count-there : (x y : N) (ys : List N) → eq y x ≡ false → count x (y ∷ ys) ≡ count x ys
  count-there x y ys e = let c = count-cons x y ys ∙ ap (λ b. cond b 1 0 + count x ys) e in omega (arith, c)

  of_count : (xs : List N) (x : N) → 1 ≤ count x xs → HasNode eq xs x
  of_count [] x l = absurd (omega (arith, l))
  of_count (y ∷ ys) x l = by (eq y x) refl (of_count ys x)
    where
      by : (b : Bool) → eq y x ≡ b → (1 ≤ count x ys → HasNode eq ys x) → HasNode eq (y ∷ ys) x
      by true e rest = inl e
      by false e rest = let c = count-there x y ys e in inr (rest (omega (arith, l, c)))

  to_count : (xs : List N) (x : N) → HasNode eq xs x → 1 ≤ count x xs
  to_count [] x h = absurd h
  to_count (y ∷ ys) x (inl e) = let c = count-here x y ys e in omega (arith, c)
  to_count (y ∷ ys) x (inr h) = let c = count-cons x y ys in let r = to_count ys x h in omega (arith, c, r)

  count_once : (xs : List N) → NoRepeats eq xs → (x : N) → count x xs ≤ 1
  count_once [] n x = omega arith
  count_once (y ∷ ys) n x = by (eq y x) refl (count_once ys n.1 x) (count x ys) refl
    where
      by : (b : Bool) → eq y x ≡ b → count x ys ≤ 1 → (m : ℕ) → count x ys ≡ m → count x (y ∷ ys) ≤ 1
      by false e r m q = let c = count-there x y ys e in omega (arith, c, r)
      by true e r zero q = let c = count-here x y ys e in omega (arith, c, q)
      by true e r (suc m) q = absurd (n.0 (HasNode-same eq laws ys x y (eq-sym eq laws y x e) (of_count ys x (omega (arith, q)))))

  once_of : (xs : List N) → ((x : N) → count x xs ≤ 1) → NoRepeats eq xs
  once_of [] f = tt
  once_of (y ∷ ys) f = (
    (λ h. let a = to_count ys y h in let b = f y in let c = count-here y y ys (laws.refl y) in omega (arith, a, b, c)),
    once_of ys (λ x. let b = f x in let c = count-cons x y ys in omega (arith, b, c)),
  )

  module _ (xs ys : List N) (p : IsPermutation xs ys) where
    same_count : (x : N) → count x ys ≡ count x xs
    same_count x = sum_by-IsPermutation (λ y. cond (eq y x) 1 0) xs ys p

    has_forth : (x : N) → HasNode eq xs x → HasNode eq ys x
    has_forth x h = let a = to_count xs x h in let s = same_count x in of_count ys x (omega (arith, a, s))

    has_back : (x : N) → HasNode eq ys x → HasNode eq xs x
    has_back x h = let a = to_count ys x h in let s = same_count x in of_count xs x (omega (arith, a, s))

    once_still : NoRepeats eq xs → NoRepeats eq ys
    once_still n = once_of ys (λ x. let a = count_once xs n x in let s = same_count x in omega (arith, a, s))

  -- ---- one list behind another

  in_left : (xs ys : List N) (x : N) → HasNode eq xs x → HasNode eq (xs ++ ys) x
  in_left [] ys x h = absurd h
  in_left (z ∷ xs) ys x (inl e) = inl e
  in_left (z ∷ xs) ys x (inr h) = inr (in_left xs ys x h)

  in_right : (xs ys : List N) (x : N) → HasNode eq ys x → HasNode eq (xs ++ ys) x
  in_right [] ys x h = h
  in_right (z ∷ xs) ys x h = inr (in_right xs ys x h)

  in_both : (xs ys : List N) (x : N) → HasNode eq (xs ++ ys) x → HasNode eq xs x ⊎ HasNode eq ys x
  in_both [] ys x h = inr h
  in_both (z ∷ xs) ys x (inl e) = inl (inl e)
  in_both (z ∷ xs) ys x (inr h) = elim (in_both xs ys x h) as (λ _. HasNode eq (z ∷ xs) x ⊎ HasNode eq ys x) [ inl a ↦ inl (inr a) | inr b ↦ inr b ]

  once_both : (xs ys : List N) → NoRepeats eq xs → NoRepeats eq ys → ((x : N) → HasNode eq xs x → ¬ (HasNode eq ys x)) → NoRepeats eq (xs ++ ys)
  once_both [] ys n m apart = m
  once_both (z ∷ xs) ys n m apart = (
    (λ h. elim (in_both xs ys z h) as (λ _. ⊥) [ inl a ↦ n.0 a | inr b ↦ apart z (inl (laws.refl z)) b ]),
    once_both xs ys n.1 m (λ x h. apart x (inr h)),
  )

  module _ (next : N → List N) where
    forward_both : (xs ys : List N) → ((x y : N) → HasNode eq xs x → HasSuccessor eq next x y → HasNode eq ys y) → LeadsForward eq next ys → LeadsForward eq next (xs ++ ys)
    forward_both [] ys f l = l
    forward_both (z ∷ xs) ys f l = ((λ y s. in_right xs ys y (f z y (inl (laws.refl z)) s)), forward_both xs ys (λ x y h. f x y (inr h)) l)

    -- ---- groups

    module _ {A : Type 0} where
      -- the groups of which a node is in just one, and each edge leads to a later one
      record AreLayers (groups : List (Vec N A)) : Type 0 where
        pub once : (k : ℕ) (group : Vec N A) → slice_get groups k ≡ Some group → NoRepeats eq group.items
        pub unique : (k m : ℕ) (x : N) → InGroup eq groups k x → InGroup eq groups m x → k ≡ m
        pub later : (k : ℕ) (x y : N) → InGroup eq groups k x → HasSuccessor eq next x y → (m : ℕ) × (k < m) × InGroup eq groups m y

      layers_behind : (group : Vec N A) (groups : List (Vec N A)) → AreLayers (group ∷ groups) → AreLayers groups
      layers_behind group groups l = record {
        once = λ k g e. l.once (suc k) g e;
        unique = λ k m x h i. let e = l.unique (suc k) (suc m) x h i in omega (arith, e);
        later = λ k x y h s. by k (l.later (suc k) x y h s);
      }
        where
          by : {y : N} (k : ℕ) → ((m : ℕ) × (suc k < m) × InGroup eq (group ∷ groups) m y) → (m : ℕ) × (k < m) × InGroup eq groups m y
          by k (zero, l, i) = absurd (omega (arith, l))
          by k (suc m, l, i) = (m, omega (arith, l), i)

      joined_in : (groups : List (Vec N A)) (order : List N) → AreJoined groups order → (x : N) → HasNode eq order x → (k : ℕ) × InGroup eq groups k x
      joined_in [] order j x h = absurd (subst (λ (ys : List N). HasNode eq ys x) j h)
      joined_in (group ∷ groups) order j x h =
          elim (in_both j.0 j.1 x (subst (λ (ys : List N). HasNode eq ys x) j.3 h)) as (λ _. (k : ℕ) × InGroup eq (group ∷ groups) k x) [
            | inl a ↦ (zero, (group, refl, has_back group.items j.0 j.2 x a))
            | inr b ↦ let r = joined_in groups j.1 j.4 x b in (suc r.0, r.1)
          ]

      in_joined : (groups : List (Vec N A)) (order : List N) → AreJoined groups order → (k : ℕ) (x : N) → InGroup eq groups k x → HasNode eq order x
      in_joined [] order j k x i = absurd (none_in k i.0 i.1)
      in_joined (group ∷ groups) order j zero x i =
          let e : Some group ≡ Some i.0 = i.1 in
          let same : i.0 ≡ group = cc in
          subst (λ (ys : List N). HasNode eq ys x) (sym j.3) (in_left j.0 j.1 x (has_forth group.items j.0 j.2 x (subst (λ (g : Vec N A). HasNode eq g.items x) same i.2)))
      in_joined (group ∷ groups) order j (suc k) x i = subst (λ (ys : List N). HasNode eq ys x) (sym j.3) (in_right j.0 j.1 x (in_joined groups j.1 j.4 k x i))

      joined_once : (groups : List (Vec N A)) (order : List N) → AreJoined groups order → AreLayers groups → NoRepeats eq order
      joined_once [] order j l = subst (λ (ys : List N). NoRepeats eq ys) (sym j) tt
      joined_once (group ∷ groups) order j l =
          subst (λ (ys : List N). NoRepeats eq ys) (sym j.3)
          (once_both j.0 j.1 (once_still group.items j.0 j.2 (l.once zero group refl)) (joined_once groups j.1 j.4 (layers_behind group groups l))
          (λ x a b.
          let r = joined_in groups j.1 j.4 x b in
          let e = l.unique zero (suc r.0) x (group, refl, has_back group.items j.0 j.2 x a) r.1 in
          omega (arith, e)))

      joined_forward : (groups : List (Vec N A)) (order : List N) → AreJoined groups order → AreLayers groups → LeadsForward eq next order
      joined_forward [] order j l = subst (λ (ys : List N). LeadsForward eq next ys) (sym j) tt
      joined_forward (group ∷ groups) order j l =
          subst (λ (ys : List N). LeadsForward eq next ys) (sym j.3)
          (forward_both j.0 j.1
          (λ x y a s. behind y (l.later zero x y (group, refl, has_back group.items j.0 j.2 x a) s))
          (joined_forward groups j.1 j.4 (layers_behind group groups l)))
        where
          behind : (y : N) → ((m : ℕ) × (zero < m) × InGroup eq (group ∷ groups) m y) → HasNode eq j.1 y
          behind y (zero, l, i) = absurd (omega (arith, l))
          behind y (suc m, l, i) = in_joined groups j.1 j.4 m y i

      -- ---- groups by depth

      module _ (nodes : List N) (closed : AreClosed eq next nodes) (groups : List (Vec N A)) (deep : AreDepthGroups eq next nodes groups) (all : (x : N) → HasNode eq nodes x → (k : ℕ) × HasDepth eq next nodes x k) where
        one_depth : (x : N) (k m : ℕ) → HasDepth eq next nodes x k → HasDepth eq next nodes x m → k ≡ m
        one_depth x k m d e =
            let a = d.longest e.walk e.comes in
            let b = e.longest d.walk d.comes in
            omega (arith, a, b, d.steps, e.steps)

        -- the same walk, which ends at x itself
        last_as : (w : List N) (a b x : N) → Follows (HasSuccessor eq next) a (b ∷ w) → eq (end_of b w) x ≡ true → (v : List N) × Follows (HasSuccessor eq next) a v × (end_of a v ≡ x) × (length v ≡ suc (length w))
        last_as [] a b x f e = (x ∷ [], (HasNode-same eq laws (next a) b x e f.0, tt), refl, refl)
        last_as (c ∷ w) a b x f e = let r = last_as w b c x f.1 e in (b ∷ r.0, (f.0, r.1), r.2, ap suc r.3)

        comes_more : (x y : N) (w : List N) → HasSuccessor eq next x y → IsGoalWalk eq (HasSuccessor eq next) nodes (λ z. eq z x) w → (v : List N) × IsGoalWalk eq (HasSuccessor eq next) nodes (λ z. eq z y) v × (length v ≡ length w + 1)
        comes_more x y [] s c = absurd c.walks
        comes_more x y (a ∷ []) s c = (x ∷ y ∷ [], record { walks = (s, tt); begins = HasNode-same eq laws nodes a x c.ends c.begins; ends = laws.refl y }, refl)
        comes_more x y (a ∷ b ∷ w) s c =
            let r = last_as w a b x c.walks c.ends in (
              a ∷ r.0 ++ y ∷ [],
              record {
                walks = follows_more eq laws (HasSuccessor eq next) r.0 a y r.1 (subst (λ (z : N). HasSuccessor eq next z y) (sym r.2) s);
                begins = c.begins;
                ends = subst (λ (z : N). eq z y ≡ true) (sym (end_more r.0 a y)) (laws.refl y);
              },
              omega (arith, length-append r.0 (y ∷ []), r.3),
            )

        layers : AreLayers groups
        layers = record {
          once = deep.full.once;
          unique = λ k m x h i. one_depth x k m ((deep.exact k x).0 h).1 ((deep.exact m x).0 i).1;
          later = λ k x y h s.
              let d = (deep.exact k x).0 h in
              let given = closed x y d.0 s in
              let e = all y given in
              let w = comes_more x y d.1.walk s d.1.comes in
              let l = e.1.longest w.0 w.1 in
              (e.0, omega (arith, l, w.2, d.1.steps), (deep.exact e.0 y).1 (given, e.1));
        }

        pub joined_order : (order : List N) → AreJoined groups order → IsTopologicalOrder eq next (HasNode eq nodes) order
        joined_order order j = record {
          complete = λ x h. let e = all x h in in_joined groups order j e.0 x ((deep.exact e.0 x).1 (h, e.1));
          sound = λ x h. let i = joined_in groups order j x h in ((deep.exact i.0 x).0 i.1).0;
          distinct = joined_once groups order j layers;
          forward = joined_forward groups order j layers;
        }
