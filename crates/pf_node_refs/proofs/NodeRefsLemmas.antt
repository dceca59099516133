-- The words of NodeRefs.antt against those of `indexmap`, whose sets are lists of references here.
use Rattle.std.proofs.Common.{◌≡◌, refl, sym, subst, ◌∙◌, inl, inr, ◌⊎◌, Bool, true, false, true≢false, ◌&&◌, ◌||◌, if◌then◌else◌, List, [], ◌∷◌, ◌++◌, Option}
use Rattle.std.specs.Prelude.{◌↔◌}
use Rattle.std.specs.Borrow.{Bor}
use Rattle.std.specs.Cmp.{IsEquivalence}
use Rattle.std.proofs.lemmas.Iterator.{YieldsList, items_from_drains}
use Rattle.std.specs.List.{list_any, list_all, IsDistinct, AllByRecursion}
use Rattle.indexmap.specs.IndexSet.{IndexSet, insert_key, insert_all, index_set_eq}
use Rattle.pf_base.specs.Walks.{HasNode, NoRepeats}
use Rattle.pf_base.specs.NodeRefs.{nodes_of, HasSameNodes, is_subset, has_same_nodes, HasNodesGivenBy}
use Rattle.pf_node_refs.specs.Internal.NodeRefsLaws.{HasNode-any, any-HasNode, HasNode-equal}

module _ {N : Type 0} {eq : N → N → Bool} (laws : IsEquivalence eq) where
  -- ---- references are compared by the nodes that they point to

  any_refs : (refs : List (Bor N)) (x : N) → list_any (λ (r : Bor N). eq x r.now) refs ≡ list_any (λ y. eq y x) (nodes_of refs)
  any_refs [] x = refl
  any_refs (r ∷ rs) x = λ i. laws.symm x r.now i || any_refs rs x i

  all_refs : (refs others : List (Bor N)) → list_all (λ (q : Bor N). list_any (λ (r : Bor N). eq q.now r.now) others) refs ≡ is_subset eq (nodes_of refs) (nodes_of others)
  all_refs [] others = refl
  all_refs (q ∷ refs) others = λ i. any_refs others q.now i && all_refs refs others i

  pub same_nodes-refs : {S : Type 0} (s t : IndexSet (Bor N) S) → index_set_eq (λ (q r : Bor N). eq q.now r.now) s t ≡ has_same_nodes eq (nodes_of s.keys) (nodes_of t.keys)
  same_nodes-refs s t = λ i. all_refs s.keys t.keys i && all_refs t.keys s.keys i

  -- ---- tests

  pub HasNode-found : (refs : List (Bor N)) (x : N) → list_any (λ (r : Bor N). eq x r.now) refs ≡ true → HasNode eq (nodes_of refs) x
  HasNode-found refs x h = HasNode-any eq (nodes_of refs) x (sym (any_refs refs x) ∙ h)

  pub found-HasNode : (refs : List (Bor N)) (x : N) → HasNode eq (nodes_of refs) x → list_any (λ (r : Bor N). eq x r.now) refs ≡ true
  found-HasNode refs x h = any_refs refs x ∙ any-HasNode eq (nodes_of refs) x h

  apart_from : (refs : List (Bor N)) (x : N) → AllByRecursion (λ (r : Bor N). eq x r.now ≡ false) refs → ¬ (HasNode eq (nodes_of refs) x)
  apart_from [] x a h = h
  apart_from (r ∷ rs) x a (inl e) = true≢false (sym (laws.symm x r.now ∙ e) ∙ a.0)
  apart_from (r ∷ rs) x a (inr h) = apart_from rs x a.1 h

  pub NoRepeats-distinct : (refs : List (Bor N)) → IsDistinct (λ (q r : Bor N). eq q.now r.now) refs → NoRepeats eq (nodes_of refs)
  unfolding IsDistinct
  NoRepeats-distinct [] d = tt
  NoRepeats-distinct (r ∷ rs) d = (apart_from rs r.now d.0, NoRepeats-distinct rs d.1)

  -- ---- a set into which nodes are inserted

  has_pushed : (refs : List (Bor N)) (r : Bor N) (x : N) → HasNode eq (nodes_of (refs ++ r ∷ [])) x ↔ (HasNode eq (nodes_of refs) x ⊎ (eq r.now x ≡ true))
  has_pushed [] r x = (λ h. elim h [ inl e ↦ inr e | inr n ↦ absurd n ], λ h. elim h [ inl n ↦ absurd n | inr e ↦ inl e ])
  has_pushed (q ∷ refs) r x = let rest = has_pushed refs r x in (
    λ h. elim h [ inl e ↦ inl (inl e) | inr n ↦ elim (rest.0 n) [ inl m ↦ inl (inr m) | inr e ↦ inr e ] ],
    λ h. elim h [ inl n ↦ elim n [ inl e ↦ inl e | inr m ↦ inr (rest.1 (inl m)) ] | inr e ↦ inr (rest.1 (inr e)) ],
  )

  has_inserted : (refs : List (Bor N)) (r : Bor N) (x : N) → HasNode eq (nodes_of (insert_key (λ (p q : Bor N). eq p.now q.now) refs r)) x ↔ (HasNode eq (nodes_of refs) x ⊎ (eq r.now x ≡ true))
  has_inserted refs r x = by (list_any (λ (q : Bor N). eq r.now q.now) refs) refl
    where
      by : (b : Bool) → list_any (λ (q : Bor N). eq r.now q.now) refs ≡ b → HasNode eq (nodes_of (if b then refs else refs ++ r ∷ [])) x ↔ (HasNode eq (nodes_of refs) x ⊎ (eq r.now x ≡ true))
      by true found = (λ h. inl h, λ h. elim h [ inl n ↦ n | inr e ↦ HasNode-equal laws (nodes_of refs) r.now x e (HasNode-found refs r.now found) ])
      by false found = has_pushed refs r x

  has_all : (refs given : List (Bor N)) (x : N) → HasNode eq (nodes_of (insert_all (λ (p q : Bor N). eq p.now q.now) refs given)) x ↔ (HasNode eq (nodes_of refs) x ⊎ HasNode eq (nodes_of given) x)
  has_all refs [] x = (λ h. inl h, λ h. elim h [ inl n ↦ n | inr n ↦ absurd n ])
  has_all refs (r ∷ given) x =
      let first = has_inserted refs r x in
      let rest = has_all (insert_key (λ (p q : Bor N). eq p.now q.now) refs r) given x in (
        λ h. elim (rest.0 h) [ inl n ↦ elim (first.0 n) [ inl m ↦ inl m | inr e ↦ inr (inl e) ] | inr n ↦ inr (inr n) ],
        λ h. elim h [ inl n ↦ rest.1 (inl (first.1 (inl n))) | inr n ↦ elim n [ inl e ↦ rest.1 (inl (first.1 (inr e))) | inr m ↦ rest.1 (inr m) ] ],
      )

  -- a set that was made of references has their nodes
  pub HasSameNodes-insert_all : (keys given : List (Bor N)) → keys ≡ insert_all (λ (p q : Bor N). eq p.now q.now) [] given → HasSameNodes eq (nodes_of keys) (nodes_of given)
  HasSameNodes-insert_all keys given e = subst (λ ks. HasSameNodes eq (nodes_of ks) (nodes_of given)) (sym e)
      (λ x. (λ h. elim ((has_all [] given x).0 h) [ inl n ↦ absurd n | inr n ↦ n ], λ h. (has_all [] given x).1 (inr h)))

-- ---- for callers of `from_nodes`

-- the set has the nodes ys where the iterator is a chain that gives ys
pub HasSameNodes-given : {N I S : Type 0} {eq : N → N → Bool} {becomes : I → S → Type 0} {steps : S → Option (Bor N) → S → Type 0} {given : I} {xs ys : List N}
    → HasNodesGivenBy eq becomes steps given xs → ((it : S) → becomes given it → YieldsList steps (λ (r : Bor N). r.now) it ys) → HasSameNodes eq xs ys
HasSameNodes-given {eq = eq} {xs = xs} h chain =
    let d = h.drains in
    subst (λ zs. HasSameNodes eq xs zs) (items_from_drains h.refs (d.1.0, d.1.1, λ _. (d.0, d.1.2)) (chain h.iterator h.made)) h.same
