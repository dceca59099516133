-- Groups that are gathered, a vertex of a group at a time.
use Rattle.std.proofs.Common.{ℕ, zero, suc, ◌+◌, ◌<◌, ◌≡◌, ◌≢◌, refl, sym, ◌∙◌, ap, subst, arith, true≢false, eq-eqb, List, [], ◌∷◌, ◌++◌, length, inl, inr, Bool, true, false, not, Some, if◌then◌else◌, nat_eq, length-append, get_or, take, Vec}
use Rattle.std.specs.Prelude.{slice_get, Contains, ◌||◌, MatchBool}
use Rattle.std.specs.Borrow.{Bor}
use Rattle.std.specs.Cmp.{IsEquivalence}
use Rattle.std.specs.HashMap.{HashMap, get}
use Rattle.std.specs.Map.{lookup}
use Rattle.std.proofs.lemmas.List.{take_more, length-take-le}
use Rattle.std.specs.List.{IsDistinct, list_any}
use Rattle.std.proofs.lemmas.Option.{same_Some, slice_get_within, none-some}
use Rattle.std.proofs.lemmas.List.Elements.{Contains-append_left, Contains-push, Contains-push_cases}
use Rattle.std.proofs.lemmas.Bool.Decides.{nat_tests}
use Rattle.indexmap.specs.IndexSet.{insert_key}
use Rattle.pf_union_find.specs.Joined.{Joined, same, linked, back, chain}
use Rattle.pf_union_find.specs.UnionFind.{IsSound, IsLabelling, Merges}
use Rattle.pf_components.specs.Internal.DisjointSets.{PairsLink, IsGathered, IsIdOf, Identifies, MapsByFirst}
use Rattle.pf_base.proofs.ListLemmas.{none_in, get_push, get-append, get_at_end}
use Rattle.pf_union_find.proofs.JoinedLemmas.{Joined-more}
use Rattle.pf_union_find.proofs.DistinctLemmas.{distinct_one}

-- what a function gives both ends of each link, it gives all that links join
pub Joined-fold : {link : ℕ → ℕ → Type 0} (f : ℕ → ℕ) → ((x y : ℕ) → link x y → f x ≡ f y) → {x y : ℕ} → Joined nat_eq link x y → f x ≡ f y
Joined-fold f h (same {x} {y} e) = let k : x ≡ y = grind (arith, nat_tests) in ap f k
Joined-fold f h (linked l) = h _ _ l
Joined-fold f h (back j) = sym (Joined-fold f h j)
Joined-fold f h (chain j k) = Joined-fold f h j ∙ Joined-fold f h k

or_right : (a b : Bool) → b ≡ true → (a || b) ≡ true
or_right true b h = refl
or_right false b h = h

not_true : (b c : Bool) → b ≡ not c → b ≡ true → c ≡ false
not_true b true e f = absurd (true≢false (sym f ∙ e))
not_true b false e f = refl

not_false : (b c : Bool) → b ≡ not c → b ≡ false → c ≡ true
not_false b true e f = refl
not_false b false e f = absurd (true≢false (sym e ∙ f))

-- what a set answers of a new key, and of one that it has
pub added_new : {A : Type 0} (test : A → A → Bool) (keys after : List A) (k : A) (b : Bool) → b ≡ not (list_any (test k) keys) → after ≡ insert_key test keys k → b ≡ true → (list_any (test k) keys ≡ false) × (after ≡ keys ++ k ∷ [])
added_new test keys after k b a h e = let n = not_true b (list_any (test k) keys) a e in (n, h ∙ ap (λ t. if t then keys else keys ++ k ∷ []) n)

pub added_known : {A : Type 0} (test : A → A → Bool) (keys after : List A) (k : A) (b : Bool) → b ≡ not (list_any (test k) keys) → after ≡ insert_key test keys k → b ≡ false → after ≡ keys
added_known test keys after k b a h e = h ∙ ap (λ t. if t then keys else keys ++ k ∷ []) (not_false b (list_any (test k) keys) a e)

-- where two sets were one already, nothing changed
pub merged_anyway : (r : Bool) (label after : ℕ → ℕ) (i j : ℕ) → MatchBool r ((label i ≢ label j) × Merges label i j after) ((label i ≡ label j) × ((x : ℕ) → after x ≡ label x)) → Merges label i j after
merged_anyway true label after i j h = h.1
merged_anyway false label after i j h = λ x y. (
  λ e. inl (sym (h.1 x) ∙ e ∙ h.1 y),
  λ e. h.1 x ∙ elim e [
    | inl f ↦ f
    | inr (inl f) ↦ f.0 ∙ h.0 ∙ sym f.1
    | inr (inr f) ↦ f.0 ∙ sym h.0 ∙ sym f.1
  ] ∙ sym (h.1 y),
)

-- a key that equals x is found
any_found : {A : Type 0} (test : A → Bool) (xs : List A) (k : ℕ) (m : A) → slice_get xs k ≡ Some m → test m ≡ true → list_any test xs ≡ true
any_found test [] k m h e = absurd (none_in k m h)
any_found test (y ∷ ys) zero m h e = ap (λ b. b || list_any test ys) (ap test (same_Some y m h) ∙ e)
any_found test (y ∷ ys) (suc k) m h e = or_right (test y) (list_any test ys) (any_found test ys k m h e)

module _ {N : Type 0} {eq : N → N → Bool} (laws : IsEquivalence eq) (pairs : List (ℕ × N)) (nodes : List (Bor N)) (first : List ℕ) (parents : List ℕ) (g : IsGathered eq pairs nodes first parents) (i : ℕ) (r : Bor N) where
  abbrev more : List (ℕ × N)
  more = pairs ++ (i, r.now) ∷ []

  wider : (a b : ℕ) → PairsLink eq pairs a b → PairsLink eq more a b
  wider a b l = (l.0, l.1, Contains-append_left pairs ((i, r.now) ∷ []) l.0 l.2, Contains-append_left pairs ((i, r.now) ∷ []) l.1 l.3, l.4, l.5, l.6)

  -- a node that is there: its first group and this one are united
  module _ (k j : ℕ) (m : Bor N) (at : slice_get nodes k ≡ Some m) (is : eq m.now r.now ≡ true) (first_is : slice_get first k ≡ Some j) (after : List ℕ) (sound : IsSound after) (len : length after ≡ length parents)
      (label : ℕ → ℕ) (labels : IsLabelling label after) (merges : Merges g.label i j label) where
    met : label i ≡ label j
    met = (merges i j).1 (inr (inl (refl, refl)))

    kept : (a b : ℕ) → g.label a ≡ g.label b → label a ≡ label b
    kept a b e = (merges a b).1 (inl e)

    -- the first group of a node that equals r
    first_of : (p : ℕ × N) → Contains pairs p → eq p.1 r.now ≡ true → g.label p.0 ≡ g.label j
    first_of p c e =
        let n = g.noted p c in
        let same_place : n.0 ≡ k = distinct_one laws nodes g.apart n.0 k n.2.0 m n.2.1 at (laws.congr n.2.0.now p.1 m.now n.2.2 ∙ laws.congr p.1 r.now m.now e ∙ laws.symm r.now m.now ∙ is) in
        let same_first : n.1 ≡ j = same_Some n.1 j (sym n.3 ∙ ap (slice_get first) same_place ∙ first_is) in
        sym n.4 ∙ ap g.label same_first

    here : Joined nat_eq (PairsLink eq more) i j
    here =
        let p = g.found k j m at first_is in
        linked ((i, r.now), p.0, Contains-push pairs (i, r.now), Contains-append_left pairs ((i, r.now) ∷ []) p.0 p.1, refl, p.2, laws.symm r.now p.0.1 ∙ laws.congr p.0.1 m.now r.now p.3 ∙ is)

    old : (a b : ℕ) → g.label a ≡ g.label b → Joined nat_eq (PairsLink eq more) a b
    old a b e = Joined-more wider (g.same_set a b e)

    linked_alike : (a b : ℕ) → PairsLink eq more a b → label a ≡ label b
    linked_alike a b l = elim (Contains-push_cases pairs (i, r.now) l.0 l.2) [
      | inl c ↦ elim (Contains-push_cases pairs (i, r.now) l.1 l.3) [
        | inl d ↦ kept a b (g.joined a b (linked (l.0, l.1, c, d, l.4, l.5, l.6)))
        | inr d ↦
            let e : eq l.0.1 r.now ≡ true = subst (λ (q : ℕ × N). eq l.0.1 q.1 ≡ true) (sym d) l.6 in
            ap label (sym l.4) ∙ kept l.0.0 j (first_of l.0 c e) ∙ sym met ∙ ap label (ap (λ (q : ℕ × N). q.0) d ∙ l.5)
      ]
      | inr c ↦ elim (Contains-push_cases pairs (i, r.now) l.1 l.3) [
        | inl d ↦
            let e : eq l.1.1 r.now ≡ true = laws.symm l.1.1 r.now ∙ subst (λ (q : ℕ × N). eq q.1 l.1.1 ≡ true) (sym c) l.6 in
            ap label (sym (ap (λ (q : ℕ × N). q.0) c ∙ l.4)) ∙ met ∙ sym (kept l.1.0 j (first_of l.1 d e)) ∙ ap label l.5
        | inr d ↦ ap label (sym (ap (λ (q : ℕ × N). q.0) c ∙ l.4) ∙ ap (λ (q : ℕ × N). q.0) d ∙ l.5)
      ]
    ]

    pub gathered_again : IsGathered eq more nodes first after
    gathered_again = record {
      sound = sound;
      label = label;
      labels = labels;
      apart = g.apart;
      len = g.len;
      inside = λ a b h. subst (λ (n : ℕ). b < n) (sym len) (g.inside a b h);
      found = λ a b n h f. let p = g.found a b n h f in (p.0, Contains-append_left pairs ((i, r.now) ∷ []) p.0 p.1, p.2, p.3);
      noted = λ p c. elim (Contains-push_cases pairs (i, r.now) p c) [
        | inl d ↦ let n = g.noted p d in (n.0, n.1, n.2, n.3, kept n.1 p.0 n.4)
        | inr d ↦ (k, j, (m, at, subst (λ (q : ℕ × N). eq m.now q.1 ≡ true) d is), first_is, sym met ∙ ap label (ap (λ (q : ℕ × N). q.0) d))
      ];
      same_set = λ a b e. elim ((merges a b).0 e) [
        | inl f ↦ old a b f
        | inr (inl f) ↦ chain (old a i f.0) (chain here (back (old b j f.1)))
        | inr (inr f) ↦ chain (old a j f.0) (chain (back here) (back (old b i f.1)))
      ];
      joined = λ a b l. Joined-fold label linked_alike l;
    }

  -- a new node: this is its first group
  module _ (none : list_any (λ (q : Bor N). eq r.now q.now) nodes ≡ false) (apart : IsDistinct (λ (p q : Bor N). eq p.now q.now) (nodes ++ r ∷ [])) (in_range : i < length parents) where
    no_pair : (p : ℕ × N) → Contains pairs p → eq p.1 r.now ≡ true → ⊥
    no_pair p c e =
        let n = g.noted p c in
        true≢false (sym (any_found (λ (q : Bor N). eq r.now q.now) nodes n.0 n.2.0 n.2.1 (laws.symm r.now n.2.0.now ∙ laws.congr n.2.0.now p.1 r.now n.2.2 ∙ e)) ∙ none)

    linked_as_before : (a b : ℕ) → PairsLink eq more a b → g.label a ≡ g.label b
    linked_as_before a b l = elim (Contains-push_cases pairs (i, r.now) l.0 l.2) [
      | inl c ↦ elim (Contains-push_cases pairs (i, r.now) l.1 l.3) [
        | inl d ↦ g.joined a b (linked (l.0, l.1, c, d, l.4, l.5, l.6))
        | inr d ↦ absurd (no_pair l.0 c (subst (λ (q : ℕ × N). eq l.0.1 q.1 ≡ true) (sym d) l.6))
      ]
      | inr c ↦ elim (Contains-push_cases pairs (i, r.now) l.1 l.3) [
        | inl d ↦ absurd (no_pair l.1 d (laws.symm l.1.1 r.now ∙ subst (λ (q : ℕ × N). eq q.1 l.1.1 ≡ true) (sym c) l.6))
        | inr d ↦ ap g.label (sym (ap (λ (q : ℕ × N). q.0) c ∙ l.4) ∙ ap (λ (q : ℕ × N). q.0) d ∙ l.5)
      ]
    ]

    pub gathered_new : IsGathered eq more (nodes ++ r ∷ []) (first ++ i ∷ []) parents
    gathered_new = record {
      sound = g.sound;
      label = g.label;
      labels = g.labels;
      apart = apart;
      len = omega (arith, length-append {A = ℕ} first (i ∷ []), length-append {A = Bor N} nodes (r ∷ []), g.len);
      inside = λ a b h. elim (get_push first i a b h) [
        | inl f ↦ g.inside a b f
        | inr f ↦ subst (λ (n : ℕ). n < length parents) f.1 in_range
      ];
      found = λ a b n h f. elim (get_push nodes r a n h) [
        | inl u ↦ elim (get_push first i a b f) [
          | inl v ↦ let p = g.found a b n u v in (p.0, Contains-append_left pairs ((i, r.now) ∷ []) p.0 p.1, p.2, p.3)
          | inr v ↦ let low = slice_get_within nodes a n u in absurd (omega (arith, low, v.0, g.len))
        ]
        | inr u ↦ elim (get_push first i a b f) [
          | inl v ↦ let low = slice_get_within first a b v in absurd (omega (arith, low, u.0, g.len))
          | inr v ↦ ((i, r.now), Contains-push pairs (i, r.now), v.1, subst (λ (q : Bor N). eq r.now q.now ≡ true) u.1 (laws.refl r.now))
        ]
      ];
      noted = λ p c. elim (Contains-push_cases pairs (i, r.now) p c) [
        | inl d ↦ let n = g.noted p d in (n.0, n.1, (n.2.0, get-append nodes (r ∷ []) n.0 n.2.0 n.2.1, n.2.2), get-append first (i ∷ []) n.0 n.1 n.3, n.4)
        | inr d ↦ (length nodes, i, (r, get_at_end nodes r, subst (λ (q : ℕ × N). eq r.now q.1 ≡ true) d (laws.refl r.now)), subst (λ (n : ℕ). slice_get (first ++ i ∷ []) n ≡ Some i) g.len (get_at_end first i), ap g.label (ap (λ (q : ℕ × N). q.0) d))
      ];
      same_set = λ a b e. Joined-more wider (g.same_set a b e);
      joined = λ a b l. Joined-fold g.label linked_as_before l;
    }

-- ---- the first and the last of the gathering

pub IsGathered-none : {N : Type 0} (eq : N → N → Bool) (parents : List ℕ) → IsSound parents → IsLabelling (λ x. x) parents → IsGathered eq [] [] [] parents
unfolding IsDistinct
IsGathered-none eq parents s l = record {
  sound = s;
  label = λ x. x;
  labels = l;
  apart = tt;
  len = refl;
  inside = λ k j h. absurd (none_in k j h);
  found = λ k j m h f. absurd (none_in k m h);
  noted = λ p c. absurd (omega (arith, c.1));
  same_set = λ i j e. same (eq-eqb i j e);
  joined = λ i j l. Joined-fold (λ x. x) (λ x y k. absurd (omega (arith, k.2.1))) l;
}

-- one more identifier
pub Identifies-more : {N A : Type 0} (label : ℕ → ℕ) (n : ℕ) (groups : List (Vec N A)) (ids : List ℕ) (i : ℕ) (g : Vec N A) (id : ℕ) → i < length groups → g ≡ get_or groups i g → length ids ≡ i → IsIdOf label n i g.items id
    → Identifies label n (take i groups) ids → Identifies label n (take (i + 1) groups) (ids ++ id ∷ [])
Identifies-more label n groups ids i g id inside at len is h = λ j k e.
    let more : take (i + 1) groups ≡ take i groups ++ g ∷ [] = take_more groups i g inside ∙ ap (λ y. take i groups ++ y ∷ []) (sym at) in
    let short : length (take i groups) ≡ i = length-take-le i groups (omega (arith, inside)) in
    elim (get_push (take i groups) g j k (subst (λ xs. slice_get xs j ≡ Some k) more e)) [
      | inl f ↦ let r = h j k f in (r.0, get-append ids (id ∷ []) j r.0 r.1, r.2)
      | inr f ↦
          let place : i ≡ j = sym short ∙ sym f.0 in
          (id, subst (λ (m : ℕ). slice_get (ids ++ id ∷ []) m ≡ Some id) (len ∙ place) (get_at_end ids id), subst (λ (m : ℕ). IsIdOf label n m k.items id) place (subst (λ v. IsIdOf label n i v.items id) f.1 is))
    ]

-- ---- the map from nodes to identifiers

pub MapsByFirst-more : {N S : Type 0} {eq : N → N → Bool} (laws : IsEquivalence eq) (nodes : List (Bor N)) (first ids : List ℕ) (m after : HashMap (Bor N) ℕ S) (i : ℕ) (r : Bor N) (j id : ℕ)
    → ((q : Bor N) → get (λ (a b : Bor N). eq a.now b.now) after q ≡ (if eq r.now q.now then Some id else get (λ (a b : Bor N). eq a.now b.now) m q))
    → i < length first → j ≡ get_or first i j → slice_get nodes i ≡ Some r → slice_get ids j ≡ Some id
    → MapsByFirst eq nodes (take i first) ids m → MapsByFirst eq nodes (take (i + 1) first) ids after
MapsByFirst-more {N} {S} {eq} laws nodes first ids m after i r j id puts inside at node_at id_at h = record {
  found = λ q x e. found_by q x (eq r.now q.now) refl e;
  noted = λ k n l n_at first_at q same.
      let more : take (i + 1) first ≡ take i first ++ j ∷ [] = take_more first i j inside ∙ ap (λ y. take i first ++ y ∷ []) (sym at) in
      let short : length (take i first) ≡ i = length-take-le i first (omega (arith, inside)) in
      elim (get_push (take i first) j k l (subst (λ xs. slice_get xs k ≡ Some l) more first_at)) [
        | inl f ↦ noted_by q (h.noted k n l n_at f q same) (eq r.now q.now) refl
        | inr f ↦
            let is : n ≡ r = same_Some n r (sym n_at ∙ ap (slice_get nodes) (f.0 ∙ short) ∙ node_at) in
            let e : eq r.now q.now ≡ true = subst (λ (b : Bor N). eq b.now q.now ≡ true) is same in
            (id, puts q ∙ ap (λ t. if t then Some id else get (λ (a b : Bor N). eq a.now b.now) m q) e)
      ];
}
  where
    first_here : slice_get (take (i + 1) first) i ≡ Some j
    first_here =
        let more : take (i + 1) first ≡ take i first ++ j ∷ [] = take_more first i j inside ∙ ap (λ y. take i first ++ y ∷ []) (sym at) in
        let short : length (take i first) ≡ i = length-take-le i first (omega (arith, inside)) in
        subst (λ xs. slice_get xs i ≡ Some j) (sym more) (subst (λ (n : ℕ). slice_get (take i first ++ j ∷ []) n ≡ Some j) short (get_at_end (take i first) j))

    first_kept : (k l : ℕ) → slice_get (take i first) k ≡ Some l → slice_get (take (i + 1) first) k ≡ Some l
    first_kept k l e =
        let more : take (i + 1) first ≡ take i first ++ j ∷ [] = take_more first i j inside ∙ ap (λ y. take i first ++ y ∷ []) (sym at) in
        subst (λ xs. slice_get xs k ≡ Some l) (sym more) (get-append (take i first) (j ∷ []) k l e)

    found_by : (q : Bor N) (x : ℕ) (t : Bool) → eq r.now q.now ≡ t → get (λ (a b : Bor N). eq a.now b.now) after q ≡ Some x
        → (k : ℕ) × (n : Bor N) × (l : ℕ) × (slice_get nodes k ≡ Some n) × (eq n.now q.now ≡ true) × (slice_get (take (i + 1) first) k ≡ Some l) × (slice_get ids l ≡ Some x)
    found_by q x true e h' =
        let s : id ≡ x = same_Some id x (sym (puts q ∙ ap (λ t. if t then Some id else get (λ (a b : Bor N). eq a.now b.now) m q) e) ∙ h') in
        (i, r, j, node_at, e, first_here, id_at ∙ ap Some s)
    found_by q x false e h' =
        let f = h.found q x (sym (puts q ∙ ap (λ t. if t then Some id else get (λ (a b : Bor N). eq a.now b.now) m q) e) ∙ h') in
        (f.0, f.1, f.2, f.3, f.4, first_kept f.0 f.2 f.5, f.6)

    noted_by : (q : Bor N) → (x : ℕ) × (get (λ (a b : Bor N). eq a.now b.now) m q ≡ Some x) → (t : Bool) → eq r.now q.now ≡ t → (x : ℕ) × (get (λ (a b : Bor N). eq a.now b.now) after q ≡ Some x)
    noted_by q old true e = (id, puts q ∙ ap (λ t. if t then Some id else get (λ (a b : Bor N). eq a.now b.now) m q) e)
    noted_by q old false e = (old.0, puts q ∙ ap (λ t. if t then Some id else get (λ (a b : Bor N). eq a.now b.now) m q) e ∙ old.1)

pub MapsByFirst-none : {N S : Type 0} (eq : N → N → Bool) (nodes : List (Bor N)) (first ids : List ℕ) (m : HashMap (Bor N) ℕ S) → m.entries ≡ [] → MapsByFirst eq nodes (take 0 first) ids m
MapsByFirst-none {N} {S} eq nodes first ids m none = record {
  found = λ r id h. absurd (none-some id (sym (ap (lookup (λ (q : Bor N). eq r.now q.now)) none) ∙ h));
  noted = λ k n j n_at first_at r e. absurd (none_in k j (subst (λ xs. slice_get xs k ≡ Some j) (take-zero first) first_at));
}
  where
    take-zero : {A : Type 0} (xs : List A) → take 0 xs ≡ []
    take-zero [] = refl
    take-zero (x ∷ xs) = refl
