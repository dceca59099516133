-- Lemmas on chains of parents in a map.
use Rattle.std.proofs.Common.{arith, ◌<◌, ◌≡◌, ℕ, suc, ◌≤◌, Bool, true, false, true≢false, Option, Some, None, List, [], ◌∷◌, ◌++◌, ◌∙◌, length, refl, sym, ap, subst, inl, inr, cond}
use Rattle.std.specs.Prelude.{reverse, IsSome}
use Rattle.std.specs.Cmp.{IsEquivalence}
use Rattle.std.specs.HashMap.{HashMap, get, hash_map_len}
use Rattle.std.specs.List.{IsDistinct, AllByRecursion, list_any}
use Rattle.std.specs.Map.{lookup}
use Rattle.std.proofs.lemmas.Map.Steps.{length-le_from_keys}
use Rattle.std.proofs.lemmas.Option.{none-some}
use Rattle.pf_base.specs.Walks.{HasNode, NoRepeats, Follows, IsWalk, end_of}
use Rattle.pf_base.proofs.ListLemmas.{bool_dec, or_cases, reverse-cons}
use Rattle.pf_core.proofs.NodeLemmas.{eq-sym}
use Rattle.pf_search.specs.Parents.{HasEntry, IsParent, IsChainOfParents, MeetsNoneTwice}

pub length_end : {A : Type 0} (xs : List A) (x : A) → length (xs ++ x ∷ []) ≡ suc (length xs)
length_end [] x = refl
length_end (y ∷ ys) x = ap suc (length_end ys x)

module _ {N : Type 0} (eq : N → N → Bool) (laws : IsEquivalence eq) where
  all_apart : (xs : List N) (x : N) → ¬ (HasNode eq xs x) → AllByRecursion (λ y. eq x y ≡ false) xs
  all_apart [] x n = tt
  all_apart (y ∷ ys) x n = (
    elim (bool_dec (eq x y)) as (λ _. eq x y ≡ false) [ inl e ↦ absurd (n (inl (eq-sym eq laws x y e))) | inr f ↦ f ],
    all_apart ys x (λ h. n (inr h)),
  )

  pub distinct_of : (xs : List N) → NoRepeats eq xs → IsDistinct eq xs
  unfolding IsDistinct
  distinct_of [] n = tt
  distinct_of (x ∷ xs) n = (all_apart xs x n.0, distinct_of xs n.1)

  has_of_any : (xs : List N) (q : N) → list_any (eq q) xs ≡ true → HasNode eq xs q
  has_of_any [] q h = absurd (true≢false (sym h))
  has_of_any (x ∷ xs) q h = elim (or_cases (eq q x) (list_any (eq q) xs) h) as (λ _. HasNode eq (x ∷ xs) q) [ inl e ↦ inl (eq-sym eq laws q x e) | inr r ↦ inr (has_of_any xs q r) ]

  lookup_same : {X : Type 0} (es : List (N × X)) (x y : N) → eq x y ≡ true → lookup (eq x) es ≡ lookup (eq y) es
  lookup_same [] x y e = refl
  lookup_same (p ∷ es) x y e = ap (λ b. cond b (Some p.1) (lookup (eq x) es)) (laws.congr x y p.0 e) ∙ ap (λ o. cond (eq y p.0) (Some p.1) o) (lookup_same es x y e)

  -- what a map has for equal nodes
  pub get_same : {X S : Type 0} (m : HashMap N X S) (x y : N) → eq x y ≡ true → get eq m x ≡ get eq m y
  get_same m x y e = lookup_same m.entries x y e

  module _ {C S : Type 0} (m : HashMap N (N × C) S) where
    abbrev entry : N → Option (N × C)
    entry = get eq m

    -- each node of a walk along parents save the first has an entry
    behind_first : (w : List N) (a q : N) → Follows (IsParent eq (get eq m)) a w → HasNode eq w q → HasEntry eq (get eq m) q
    behind_first [] a q f h = absurd h
    behind_first (b ∷ w) a q f (inl e) = (f.0.0, f.0.1, sym (get_same m b q e) ∙ f.0.2)
    behind_first (b ∷ w) a q f (inr h) = behind_first w b q f.1 h

    some_of : (q : N) → HasEntry eq (get eq m) q → IsSome (get eq m q)
    some_of q h = subst IsSome (sym h.2) refl

    -- a walk along parents that meets no node twice and whose first node has an entry is no longer than the map
    walk_length : (a : N) (w : List N) → IsWalk (IsParent eq (get eq m)) (a ∷ w) → NoRepeats eq (a ∷ w) → HasEntry eq (get eq m) a → length (a ∷ w) ≤ hash_map_len m
    walk_length a w f n h = length-le_from_keys laws (a ∷ w) m.entries (distinct_of (a ∷ w) n) (λ q t. some_of q (elim (has_of_any (a ∷ w) q t) as (λ _. HasEntry eq (get eq m) q) [ inl e ↦ (h.0, h.1, sym (get_same m a q e) ∙ h.2) | inr k ↦ behind_first w a q f k ]))

    -- the nodes from the target up to `at`, the last of which is a clone of it
    pub record Climbed (target at : N) (path : List N) : Type 0 where
      pub top : N
      pub below : List N
      pub is : reverse path ≡ top ∷ below
      pub same : eq at top ≡ true
      pub follows : Follows (IsParent eq (get eq m)) top below
      pub ends : eq (end_of top below) target ≡ true

    pub climbed_first : (target first : N) → eq target first ≡ true → (path : List N) → path ≡ first ∷ [] → Climbed target target path
    climbed_first target first e path is = record { top = first; below = []; is = ap reverse is; same = e; follows = tt; ends = eq-sym eq laws target first e }

    pub climbed_more : (target at parent copy : N) (cost : C) (path path' : List N) → Climbed target at path → get eq m at ≡ Some (parent, cost) → eq parent copy ≡ true → path' ≡ path ++ copy ∷ [] → Climbed target parent path'
    climbed_more target at parent copy cost path path' c e same is = record {
      top = copy;
      below = c.top ∷ c.below;
      is = ap reverse is ∙ reverse_end path copy ∙ ap (λ xs. copy ∷ xs) c.is;
      same = same;
      follows = ((parent, cost, sym (get_same m at c.top c.same) ∙ e, same), c.follows);
      ends = c.ends;
    }
      where
        reverse_end : {A : Type 0} (xs : List A) (x : A) → reverse (xs ++ x ∷ []) ≡ x ∷ reverse xs
        reverse_end [] x = refl
        reverse_end (y ∷ ys) x = reverse-cons y (ys ++ x ∷ []) ∙ ap (λ zs. zs ++ y ∷ []) (reverse_end ys x) ∙ ap (λ zs. x ∷ zs) (sym (reverse-cons y ys))

    length_reverse : {A : Type 0} (xs : List A) → length (reverse xs) ≡ length xs
    length_reverse [] = refl
    length_reverse (x ∷ xs) = ap length (reverse-cons x xs) ∙ length_end (reverse xs) x ∙ ap suc (length_reverse xs)

    -- what was climbed is no longer than the map, where it goes on
    pub climbed_length : (target at : N) (path : List N) → Climbed target at path → MeetsNoneTwice eq (get eq m) target → HasEntry eq (get eq m) at → length path ≤ hash_map_len m
    climbed_length target at path c none h =
        let l = walk_length c.top c.below c.follows (none (c.top ∷ c.below) c.follows c.ends) (h.0, h.1, sym (get_same m at c.top c.same) ∙ h.2) in
        subst (λ (n : ℕ). n ≤ hash_map_len m) (sym (ap length c.is) ∙ length_reverse path) l

    pub climbed_chain : (target at : N) (path : List N) → Climbed target at path → get eq m at ≡ None → IsChainOfParents eq (get eq m) target (reverse path)
    climbed_chain target at path c none = subst (IsChainOfParents eq (get eq m) target) (sym c.is) chain
      where
        chain : IsChainOfParents eq (get eq m) target (c.top ∷ c.below)
        chain = record { begins = sym (get_same m at c.top c.same) ∙ none; linked = c.follows; ends = c.ends }

    -- a chain that ends at a node without an entry is that node alone
    pub chain_alone : (target : N) (path : List N) → IsChainOfParents eq (get eq m) target path → get eq m target ≡ None → length path ≡ 1
    chain_alone target [] c none = absurd c.linked
    chain_alone target (a ∷ []) c none = refl
    chain_alone target (a ∷ b ∷ w) c none =
        let h = behind_first (b ∷ w) a target c.linked (last w b target c.ends) in
        absurd (none-some _ (sym none ∙ h.2))
      where
        last : (w : List N) (b x : N) → eq (end_of b w) x ≡ true → HasNode eq (b ∷ w) x
        last [] b x e = inl e
        last (d ∷ w) b x e = inr (last w d x e)

-- Where the parent of each entry has a lesser rank than the entry, no node is met twice.
module _ {N C : Type 0} (eq : N → N → Bool) (entry : N → Option (N × C)) (rank : N → ℕ) (same : (x y : N) → eq x y ≡ true → rank x ≡ rank y) (falls : (x parent : N) (cost : C) → entry x ≡ Some (parent, cost) → rank parent < rank x) where
  ranks_behind : (w : List N) (a y : N) → Follows (IsParent eq entry) a w → HasNode eq w y → rank a < rank y
  ranks_behind [] a y f h = absurd h
  ranks_behind (b ∷ w) a y f (inl e) = let p = f.0 in omega (arith, same p.0 a p.3, falls b p.0 p.1 p.2, same b y e)
  ranks_behind (b ∷ w) a y f (inr h) = let p = f.0 in omega (arith, same p.0 a p.3, falls b p.0 p.1 p.2, ranks_behind w b y f.1 h)

  all_differ : (w : List N) (a : N) → Follows (IsParent eq entry) a w → NoRepeats eq (a ∷ w)
  all_differ [] a f = ((λ h. h), tt)
  all_differ (b ∷ w) a f = ((λ h. omega (arith, ranks_behind (b ∷ w) a a f h)), all_differ w b f.1)

  pub none_twice : (x : N) → MeetsNoneTwice eq entry x
  none_twice x [] f e = absurd f
  none_twice x (a ∷ w) f e = all_differ w a f
