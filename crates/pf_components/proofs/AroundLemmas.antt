-- Groups around starts, and their components.
use Rattle.std.proofs.Common.{ℕ, zero, suc, arith, ◌<◌, ◌+◌, ◌≡◌, sym, ◌∙◌, ap, subst, inl, inr, ◌⊎◌, List, [], ◌∷◌, ◌++◌, Bool, true, length, get_or, take, Vec}
use Rattle.std.specs.Cmp.{IsEquivalence}
use Rattle.std.specs.HashSet.{HashSet}
use Rattle.std.proofs.lemmas.List.{take_more}
use Rattle.indexmap.proofs.SetLemmas.{AllZip-push}
use Rattle.pf_base.specs.Walks.{HasNode}
use Rattle.pf_base.specs.Answers.{SameNodes}
use Rattle.pf_components.specs.Components.{InGroup, IsAround, AreChainedBy, IsComponents, IsComponentsAround}
use Rattle.pf_components.specs.Internal.Around.{IsGroupAround, AreGroupsAround}
use Rattle.pf_union_find.proofs.ListLemmas.{zip_get, zip_get_left}
use Rattle.pf_union_find.proofs.JoinedLemmas.{Joined-more}

module _ {N : Type 0} (eq : N → N → Bool) where
  HasNode-cases : (xs ys : List N) (x : N) → HasNode eq (xs ++ ys) x → HasNode eq xs x ⊎ HasNode eq ys x
  HasNode-cases [] ys x h = inr h
  HasNode-cases (y ∷ xs) ys x (inl e) = inl (inl e)
  HasNode-cases (y ∷ xs) ys x (inr h) = elim (HasNode-cases xs ys x h) as (λ _. HasNode eq (y ∷ xs) x ⊎ HasNode eq ys x) [
    | inl k ↦ inl (inr k)
    | inr k ↦ inr k
  ]

  HasNode-left : (xs ys : List N) (x : N) → HasNode eq xs x → HasNode eq (xs ++ ys) x
  HasNode-left [] ys x h = absurd h
  HasNode-left (y ∷ xs) ys x (inl e) = inl e
  HasNode-left (y ∷ xs) ys x (inr h) = inr (HasNode-left xs ys x h)

  HasNode-right : (xs ys : List N) (x : N) → HasNode eq ys x → HasNode eq (xs ++ ys) x
  HasNode-right [] ys x h = h
  HasNode-right (y ∷ xs) ys x h = inr (HasNode-right xs ys x h)

  module _ (laws : IsEquivalence eq) where
    -- a node is what equal nodes are
    node_same : (x y z : N) → eq x y ≡ true → eq x z ≡ true → eq y z ≡ true
    node_same x y z e f = sym (laws.congr x y z e) ∙ f

    HasNode-alike : (xs ys : List N) (x : N) → SameNodes eq xs ys → HasNode eq xs x → HasNode eq ys x
    HasNode-alike [] ys x s h = absurd h
    HasNode-alike (a ∷ xs) [] x s h = absurd s
    HasNode-alike (a ∷ xs) (b ∷ ys) x s (inl e) = inl (node_same a b x s.0 e)
    HasNode-alike (a ∷ xs) (b ∷ ys) x s (inr h) = inr (HasNode-alike xs ys x s.1 h)

    HasNode-alike_back : (xs ys : List N) (x : N) → SameNodes eq xs ys → HasNode eq ys x → HasNode eq xs x
    HasNode-alike_back [] [] x s h = absurd h
    HasNode-alike_back [] (b ∷ ys) x s h = absurd s
    HasNode-alike_back (a ∷ xs) [] x s h = absurd s
    HasNode-alike_back (a ∷ xs) (b ∷ ys) x s (inl e) = inl (laws.congr a b x s.0 ∙ e)
    HasNode-alike_back (a ∷ xs) (b ∷ ys) x s (inr h) = inr (HasNode-alike_back xs ys x s.1 h)

    -- the nodes next to s, as they were listed, and a copy of s
    pub group_made : {A : Type 0} (adjacent : N → List N) (s copy : N) (xs : List N) (group : Vec N A) → group.items ≡ xs ++ copy ∷ [] → eq s copy ≡ true → SameNodes eq xs (adjacent s) → IsGroupAround eq adjacent s group
    group_made adjacent s copy xs group is same listed = λ x. (
      λ h. elim (HasNode-cases xs (copy ∷ []) x (subst (λ ys. HasNode eq ys x) is h)) as (λ _. HasNode eq (s ∷ adjacent s) x) [
        | inl k ↦ inr (HasNode-alike xs (adjacent s) x listed k)
        | inr k ↦ elim k as (λ _. HasNode eq (s ∷ adjacent s) x) [
          | inl e ↦ inl (laws.congr s copy x same ∙ e)
          | inr f ↦ absurd f
        ]
      ],
      λ h. subst (λ ys. HasNode eq ys x) (sym is) (elim h as (λ _. HasNode eq (xs ++ copy ∷ []) x) [
        | inl e ↦ HasNode-right xs (copy ∷ []) x (inl (node_same s copy x same e))
        | inr k ↦ HasNode-left xs (copy ∷ []) x (HasNode-alike_back xs (adjacent s) x listed k)
      ]),
    )

-- one start more
pub groups_more : {N A : Type 0} (eq : N → N → Bool) (adjacent : N → List N) (starts : List N) (groups : List (Vec N A)) (i : ℕ) (s : N) (group : Vec N A) → i < length starts → s ≡ get_or starts i s
    → AreGroupsAround eq adjacent (take i starts) groups → IsGroupAround eq adjacent s group → AreGroupsAround eq adjacent (take (i + 1) starts) (groups ++ group ∷ [])
groups_more eq adjacent starts groups i s group inside at h around =
    subst (λ xs. AreGroupsAround eq adjacent xs (groups ++ group ∷ [])) (ap (λ x. take i starts ++ x ∷ []) at ∙ sym (take_more starts i s inside))
    (AllZip-push (IsGroupAround eq adjacent) (take i starts) groups s group h around)

-- the components of groups around starts are the components around the starts
module _ {N A : Type 0} (eq : N → N → Bool) (adjacent : N → List N) (starts : List N) (groups : List (Vec N A)) (z : AreGroupsAround eq adjacent starts groups) where
  around_group : (i : ℕ) (x : N) → InGroup eq groups i x → IsAround eq adjacent starts i x
  around_group i x h = let r = zip_get (IsGroupAround eq adjacent) starts groups i h.0 z h.1 in (r.0, r.1, (r.2 x).0 h.2)

  group_around : (i : ℕ) (x : N) → IsAround eq adjacent starts i x → InGroup eq groups i x
  group_around i x h = let r = zip_get_left (IsGroupAround eq adjacent) starts groups i h.0 z h.1 in (r.0, r.1, (r.2 x).1 h.2)

  chained_around : {i j : ℕ} → AreChainedBy (InGroup eq groups) i j → AreChainedBy (IsAround eq adjacent starts) i j
  chained_around = Joined-more (λ i j s. (s.0, around_group i s.0 s.1, around_group j s.0 s.2))

  chained_groups : {i j : ℕ} → AreChainedBy (IsAround eq adjacent starts) i j → AreChainedBy (InGroup eq groups) i j
  chained_groups = Joined-more (λ i j s. (s.0, group_around i s.0 s.1, group_around j s.0 s.2))

  pub components_around : {S : Type 0} (sets : List (HashSet N S)) → IsComponents eq groups sets → IsComponentsAround eq adjacent starts sets
  components_around sets h = record {
    each = λ k s at.
        let r = h.each k s at in (
          r.0,
          r.1,
          around_group r.0 r.1 r.2,
          λ x. (
            λ c. let q = (r.3 x).0 c in (q.0, chained_around q.1, around_group q.0 x q.2),
            λ q. (r.3 x).1 (q.0, chained_groups q.1, group_around q.0 x q.2),
          ),
        );
    all = λ i x a. h.all i x (group_around i x a);
    once = h.once;
  }

-- a node that stands in a list
pub node_at : {N : Type 0} (eq : N → N → Bool) (laws : IsEquivalence eq) (xs : List N) (i : ℕ) (x : N) → i < length xs → x ≡ get_or xs i x → HasNode eq xs x
node_at eq laws [] i x inside at = absurd (omega arith)
node_at eq laws (y ∷ ys) zero x inside at = inl (subst (λ z. eq z x ≡ true) at (laws.refl x))
node_at eq laws (y ∷ ys) (suc i) x inside at = inr (node_at eq laws ys i x (omega arith) at)
