-- Names that are numbered, and the edges between them.
use Rattle.std.proofs.Common.{◌≡◌, inl, inr, ℕ, zero, suc, ◌+◌, ◌<◌, refl, sym, subst, ◌∙◌, ap, arith, Bool, true, false, true≢false, eq-eqb, nat_eq, cond, not, ◌||◌, if◌then◌else◌, List, [], ◌∷◌, ◌++◌, length, take, map, append_assoc, append-nil}
use Rattle.std.specs.Prelude.{Some, None, slice_get}
use Rattle.std.specs.Borrow.{Bor}
use Rattle.std.specs.Cmp.{IsEquivalence}
use Rattle.std.specs.List.{cons_option, list_any, position_or_len}
use Rattle.std.proofs.lemmas.Bool.{eqb-true}
use Rattle.std.proofs.lemmas.Grind.{flat_map-append}
use Rattle.std.proofs.lemmas.List.{map-append}
use Rattle.std.proofs.lemmas.List.Folds.{list_any-append}
use Rattle.std.proofs.lemmas.List.Sums.{fold-append}
use Rattle.std.proofs.lemmas.Option.{slice_get_within}
use Rattle.indexmap.specs.IndexSet.{insert_key, insert_all}
use Rattle.pf_base.specs.Walks.{HasNode, NoRepeats}
use Rattle.pf_base.specs.NodeRefs.{nodes_of, HasSameNodes}
use Rattle.pf_base.proofs.ListLemmas.{bool_dec, or_true, none_in}
use Rattle.pf_core.proofs.NodeLemmas.{HasSameNodes-insert, eq-sym}
use Rattle.pf_core.proofs.PathLemmas.{NoRepeats-append}
use Rattle.pf_base.specs.Places.{number_of}
use Rattle.pf_adjacency.specs.NumberedEdges.{ends_from}
use Rattle.pf_adjacency.proofs.LayoutLemmas.{take_at}
use Rattle.pf_edge_lists.specs.EdgeLists.{NamesAndEdges, ends_of, mentions_of, names_of}

same_item : {A : Type 0} {x y : A} → Some x ≡ Some y → x ≡ y
same_item e = cc

-- both names of an edge are among the names
abbrev pub IsNamed : {N C : Type 0} → (N → N → Bool) → List N → N × N × C → Type 0
IsNamed eq names e = (list_any (eq e.0) names ≡ true) × (list_any (eq e.1) names ≡ true)

abbrev pub AreNamed : {N C : Type 0} → (N → N → Bool) → List N → List (N × N × C) → Type 0
AreNamed {N} {C} eq names edges = (k : ℕ) (e : N × N × C) → slice_get edges k ≡ Some e → IsNamed eq names e

-- an edge between the numbers of its names
abbrev pub numbered : {N C : Type 0} → (N → N → Bool) → List N → N × N × C → ℕ × ℕ × C
numbered eq names e = (number_of eq names e.0, number_of eq names e.1, e.2)

module _ {N : Type 0} {eq : N → N → Bool} (laws : IsEquivalence eq) where
  -- ---- a name more

  kept : (names : List N) (x y : N) → list_any (eq y) names ≡ true → list_any (eq y) (insert_key eq names x) ≡ true
  kept names x y h = by (list_any (eq x) names)
    where
      by : (b : Bool) → list_any (eq y) (if b then names else names ++ x ∷ []) ≡ true
      by true = h
      by false = list_any-append (eq y) names (x ∷ []) ∙ ap (λ b. b || list_any (eq y) (x ∷ [])) h

  added : (names : List N) (x : N) → list_any (eq x) (insert_key eq names x) ≡ true
  added names x = by (list_any (eq x) names) refl
    where
      by : (b : Bool) → list_any (eq x) names ≡ b → list_any (eq x) (if b then names else names ++ x ∷ []) ≡ true
      by true h = h
      by false h = list_any-append (eq x) names (x ∷ []) ∙ or_true (list_any (eq x) names) _ (ap (λ b. b || false) (laws.refl x))

  number_append : (names more : List N) (y : N) → list_any (eq y) names ≡ true → number_of eq (names ++ more) y ≡ number_of eq names y
  number_append [] more y h = absurd (true≢false (sym h))
  number_append (z ∷ names) more y h = by (eq y z) h (number_append names more y)
    where
      by : (b : Bool) → (b || list_any (eq y) names) ≡ true → (list_any (eq y) names ≡ true → number_of eq (names ++ more) y ≡ number_of eq names y)
          → cond (not b) (1 + number_of eq (names ++ more) y) 0 ≡ cond (not b) (1 + number_of eq names y) 0
      by true k rest = refl
      by false k rest = ap (λ (n : ℕ). 1 + n) (rest k)

  number_push : (names : List N) (x : N) → number_of eq (names ++ x ∷ []) x ≡ number_of eq names x
  number_push [] x = ap (λ b. cond (not b) (1 + number_of eq [] x) 0) (laws.refl x)
  number_push (z ∷ names) x = ap (λ (n : ℕ). cond (not (eq x z)) (1 + n) 0) (number_push names x)

  number_kept : (names : List N) (x y : N) → list_any (eq y) names ≡ true → number_of eq (insert_key eq names x) y ≡ number_of eq names y
  number_kept names x y h = by (list_any (eq x) names)
    where
      by : (b : Bool) → number_of eq (if b then names else names ++ x ∷ []) y ≡ number_of eq names y
      by true = refl
      by false = number_append names (x ∷ []) y h

  number_added : (names : List N) (x : N) → number_of eq (insert_key eq names x) x ≡ number_of eq names x
  number_added names x = by (list_any (eq x) names)
    where
      by : (b : Bool) → number_of eq (if b then names else names ++ x ∷ []) x ≡ number_of eq names x
      by true = refl
      by false = number_push names x

  kept_all : (names more : List N) (y : N) → list_any (eq y) names ≡ true → list_any (eq y) (insert_all eq names more) ≡ true
  kept_all names [] y h = h
  kept_all names (x ∷ more) y h = kept_all (insert_key eq names x) more y (kept names x y h)

  given_from : (names given : List N) (k : ℕ) (x : N) → slice_get given k ≡ Some x → list_any (eq x) (insert_all eq names given) ≡ true
  given_from names [] k x h = absurd (none_in k x h)
  given_from names (y ∷ given) zero x h = kept_all (insert_key eq names y) given x (subst (λ z. list_any (eq z) (insert_key eq names y) ≡ true) (same_item h) (added names y))
  given_from names (y ∷ given) (suc k) x h = given_from (insert_key eq names y) given k x h

  module _ {C : Type 0} where
    -- names to which those of edges were added have both names of each edge
    pub named_from : (names : List N) (edges : List (N × N × C)) → AreNamed eq (insert_all eq names (ends_of edges)) edges
    named_from names [] k e h = absurd (none_in k e h)
    named_from names (d ∷ edges) zero e h = subst (IsNamed eq (insert_all eq names (ends_of (d ∷ edges)))) (same_item h) (
      kept_all (insert_key eq (insert_key eq names d.0) d.1) (ends_of edges) d.0 (kept (insert_key eq names d.0) d.1 d.0 (added names d.0)),
      kept_all (insert_key eq (insert_key eq names d.0) d.1) (ends_of edges) d.1 (added (insert_key eq names d.0) d.1),
    )
    named_from names (d ∷ edges) (suc k) e h = named_from (insert_key eq (insert_key eq names d.0) d.1) edges k e h

    -- the names are those that are given, each once, and those of the edges after them
    pub names_from : (list : NamesAndEdges N C) → insert_all eq (insert_all eq [] list.names) (ends_of list.edges) ≡ names_of eq list
    names_from list = sym (fold-append (insert_key eq) [] list.names (ends_of list.edges))

    -- the names have both names of each edge
    pub all_named : (list : NamesAndEdges N C) → AreNamed eq (names_of eq list) list.edges
    all_named list = subst (λ ns. AreNamed eq ns list.edges) (names_from list) (named_from (insert_all eq [] list.names) list.edges)

    -- and each name that is given
    pub all_given : (list : NamesAndEdges N C) (k : ℕ) (x : N) → slice_get list.names k ≡ Some x → list_any (eq x) (names_of eq list) ≡ true
    all_given list k x h = subst (λ ns. list_any (eq x) ns ≡ true) (names_from list) (kept_all (insert_all eq [] list.names) (ends_of list.edges) x (given_from [] list.names k x h))

    names_push : (before : List N) (edges : List (N × N × C)) (e : N × N × C) → insert_all eq before (ends_of (edges ++ e ∷ [])) ≡ insert_key eq (insert_key eq (insert_all eq before (ends_of edges)) e.0) e.1
    names_push before edges e =
        ap (insert_all eq before) (flat_map-append (λ (d : N × N × C). d.0 ∷ d.1 ∷ []) edges (e ∷ []))
        ∙ fold-append (insert_key eq) before (ends_of edges) (e.0 ∷ e.1 ∷ [])

    same_numbers : (names after : List N) → ((y : N) → list_any (eq y) names ≡ true → number_of eq after y ≡ number_of eq names y) → (edges : List (N × N × C)) → AreNamed eq names edges → map (numbered eq after) edges ≡ map (numbered eq names) edges
    same_numbers names after stay [] h = refl
    same_numbers names after stay (e ∷ es) h =
        let first = h 0 e refl in
        let one : numbered eq after e ≡ numbered eq names e = ap (λ (n : ℕ). (n, number_of eq after e.1, e.2)) (stay e.0 first.0) ∙ ap (λ (n : ℕ). (number_of eq names e.0, n, e.2)) (stay e.1 first.1) in
        ap (λ x. x ∷ map (numbered eq after) es) one ∙ ap (λ xs. numbered eq names e ∷ xs) (same_numbers names after stay es (λ k d s. h (suc k) d s))

    -- the names and the numbers after one more edge
    module _ (first : List N) (edges : List (N × N × C)) (i : ℕ) (e : N × N × C) (stands : slice_get edges i ≡ Some e) where
      pub more_names : insert_all eq first (ends_of (take (i + 1) edges)) ≡ insert_key eq (insert_key eq (insert_all eq first (ends_of (take i edges))) e.0) e.1
      more_names = ap (λ es. insert_all eq first (ends_of es)) (take_at edges i e stands) ∙ names_push first (take i edges) e

      pub more_numbers : map (numbered eq (insert_all eq first (ends_of (take i edges)))) (take i edges)
          ++ (number_of eq (insert_all eq first (ends_of (take i edges))) e.0, number_of eq (insert_key eq (insert_all eq first (ends_of (take i edges))) e.0) e.1, e.2) ∷ []
          ≡ map (numbered eq (insert_all eq first (ends_of (take (i + 1) edges)))) (take (i + 1) edges)
      more_numbers =
          let before : List N = insert_all eq first (ends_of (take i edges)) in
          let middle : List N = insert_key eq before e.0 in
          let after : List N = insert_key eq middle e.1 in
          let stay : (y : N) → list_any (eq y) before ≡ true → number_of eq after y ≡ number_of eq before y = λ y h. number_kept middle e.1 y (kept before e.0 y h) ∙ number_kept before e.0 y h in
          let rest : map (numbered eq after) (take i edges) ≡ map (numbered eq before) (take i edges) = same_numbers before after stay (take i edges) (named_from first (take i edges)) in
          let from : number_of eq after e.0 ≡ number_of eq before e.0 = number_kept middle e.1 e.0 (added before e.0) ∙ number_added before e.0 in
          let to : number_of eq after e.1 ≡ number_of eq middle e.1 = number_added middle e.1 in
          let last : numbered eq after e ≡ (number_of eq before e.0, number_of eq middle e.1, e.2) = ap (λ (n : ℕ). (n, number_of eq after e.1, e.2)) from ∙ ap (λ (n : ℕ). (number_of eq before e.0, n, e.2)) to in
          sym (
          ap (λ ns. map (numbered eq ns) (take (i + 1) edges)) more_names
          ∙ ap (map (numbered eq after)) (take_at edges i e stands)
          ∙ map-append (numbered eq after) (take i edges) (e ∷ [])
          ∙ ap (λ xs. xs ++ numbered eq after e ∷ []) rest
          ∙ ap (λ x. map (numbered eq before) (take i edges) ++ x ∷ []) last
          )

  -- ---- the set of references to names

  any_named : (refs : List (Bor N)) (x : N) → list_any (λ (q : Bor N). eq x q.now) refs ≡ list_any (eq x) (nodes_of refs)
  any_named [] x = refl
  any_named (r ∷ refs) x = ap (λ b. eq x r.now || b) (any_named refs x)

  pub refs_insert : (refs : List (Bor N)) (r : Bor N) → nodes_of (insert_key (λ (p q : Bor N). eq p.now q.now) refs r) ≡ insert_key eq (nodes_of refs) r.now
  refs_insert refs r = by (list_any (λ (q : Bor N). eq r.now q.now) refs) ∙ ap (λ (b : Bool). if b then nodes_of refs else nodes_of refs ++ r.now ∷ []) (any_named refs r.now)
    where
      by : (b : Bool) → nodes_of (if b then refs else refs ++ r ∷ []) ≡ (if b then nodes_of refs else nodes_of refs ++ r.now ∷ [])
      by true = refl
      by false = map-append (λ (q : Bor N). q.now) refs (r ∷ [])

  pub refs_number : (refs : List (Bor N)) (x : N) → position_or_len (λ (q : Bor N). eq x q.now) refs ≡ number_of eq (nodes_of refs) x
  refs_number [] x = refl
  refs_number (r ∷ refs) x = ap (λ (n : ℕ). cond (not (eq x r.now)) (1 + n) 0) (refs_number refs x)

  -- ---- names and their numbers

  -- the number of one of the names
  pub number_stands : (names : List N) (x : N) → list_any (eq x) names ≡ true → (m : N) × (slice_get names (number_of eq names x) ≡ Some m) × (eq m x ≡ true)
  number_stands [] x h = absurd (true≢false (sym h))
  number_stands (z ∷ names) x h = by (eq x z) refl h (number_stands names x)
    where
      by : (b : Bool) → eq x z ≡ b → (b || list_any (eq x) names) ≡ true → (list_any (eq x) names ≡ true → (m : N) × (slice_get names (number_of eq names x) ≡ Some m) × (eq m x ≡ true))
          → (m : N) × (slice_get (z ∷ names) (cond (not b) (1 + number_of eq names x) 0) ≡ Some m) × (eq m x ≡ true)
      by true e k rest = (z, refl, laws.symm z x ∙ e)
      by false e k rest = let r = rest k in (r.0, ap (slice_get (z ∷ names)) (let f : 1 + number_of eq names x ≡ suc (number_of eq names x) = omega arith in f) ∙ r.1, r.2)

  pub number_inside : (names : List N) (x : N) → list_any (eq x) names ≡ true → number_of eq names x < length names
  number_inside names x h = let s = number_stands names x h in slice_get_within names (number_of eq names x) s.0 s.1

  pub has_at : (names : List N) (k : ℕ) (m x : N) → slice_get names k ≡ Some m → eq m x ≡ true → HasNode eq names x
  has_at [] k m x h e = absurd (none_in k m h)
  has_at (z ∷ names) zero m x h e = inl (ap (λ y. eq y x) (same_item h) ∙ e)
  has_at (z ∷ names) (suc k) m x h e = inr (has_at names k m x h e)

  -- no other number stands for a name
  pub number_is : (names : List N) (k : ℕ) (m x : N) → NoRepeats eq names → slice_get names k ≡ Some m → eq m x ≡ true → number_of eq names x ≡ k
  number_is [] k m x d h e = absurd (none_in k m h)
  number_is (z ∷ names) zero m x d h e = ap (λ b. cond (not b) (1 + number_of eq names x) 0) (laws.symm x z ∙ ap (λ y. eq y x) (same_item h) ∙ e)
  number_is (z ∷ names) (suc k) m x d h e = elim (bool_dec (eq x z)) as (λ _. number_of eq (z ∷ names) x ≡ suc k) [
    | inl t ↦ absurd (d.0 (has_at names k m z h (laws.congr m x z e ∙ t)))
    | inr f ↦ ap (λ b. cond (not b) (1 + number_of eq names x) 0) f ∙ (let g : 1 + number_of eq names x ≡ suc (number_of eq names x) = omega arith in g) ∙ ap suc (number_is names k m x d.1 h e)
  ]

  module _ (names : List N) (distinct : NoRepeats eq names) (node : ℕ) (x : N) (at : slice_get names node ≡ Some x) where
    same_test : (y : N) → list_any (eq y) names ≡ true → nat_eq (number_of eq names y) node ≡ eq y x
    same_test y h = elim (bool_dec (eq y x)) as (λ _. nat_eq (number_of eq names y) node ≡ eq y x) [
      | inl t ↦ eq-eqb (number_of eq names y) node (number_is names node x y distinct at (laws.symm x y ∙ t)) ∙ sym t
      | inr f ↦ elim (bool_dec (nat_eq (number_of eq names y) node)) as (λ _. nat_eq (number_of eq names y) node ≡ eq y x) [
        | inl t ↦
            let s = number_stands names y h in
            let same : s.0 ≡ x = same_item (sym s.1 ∙ ap (slice_get names) (eqb-true (number_of eq names y) node t) ∙ at) in
            absurd (true≢false (sym (laws.symm y x ∙ ap (λ z. eq z y) (sym same) ∙ s.2) ∙ f))
        | inr g ↦ g ∙ sym f
      ]
    ]

    -- the edges from the number of a name are those from the name
    pub from_number : {C : Type 0} (edges : List (N × N × C)) → AreNamed eq names edges → ends_from nat_eq (map (numbered eq names) edges) node ≡ map (λ (e : N × C). (number_of eq names e.0, e.1)) (ends_from eq edges x)
    from_number [] h = refl
    from_number {C} (e ∷ es) h =
        ap (λ (b : Bool). cons_option (if b then Some (number_of eq names e.1, e.2) else None) (ends_from nat_eq (map (numbered eq names) es) node)) (same_test e.0 (h 0 e refl).0)
        ∙ by (eq e.0 x) (from_number es (λ k d s. h (suc k) d s))
      where
        by : (b : Bool) → ends_from nat_eq (map (numbered eq names) es) node ≡ map (λ (d : N × C). (number_of eq names d.0, d.1)) (ends_from eq es x)
            → cons_option (if b then Some (number_of eq names e.1, e.2) else None) (ends_from nat_eq (map (numbered eq names) es) node)
            ≡ map (λ (d : N × C). (number_of eq names d.0, d.1)) (cons_option (if b then Some (e.1, e.2) else None) (ends_from eq es x))
        by true k = ap (λ xs. (number_of eq names e.1, e.2) ∷ xs) k
        by false k = k

  -- ---- the names are those that are mentioned

  same_ends : (names before more : List N) → HasSameNodes eq names before → HasSameNodes eq (insert_all eq names more) (before ++ more)
  same_ends names before [] h = subst (HasSameNodes eq names) (sym (append-nil before)) h
  same_ends names before (x ∷ more) h = subst (HasSameNodes eq (insert_all eq (insert_key eq names x) more)) (append_assoc before (x ∷ []) more)
      (same_ends (insert_key eq names x) (before ++ x ∷ []) more (HasSameNodes-insert eq laws before names (insert_key eq names x) x x h (laws.refl x) refl))

  -- ---- no name is listed twice

  pub any_of_node : (names : List N) (x : N) → HasNode eq names x → list_any (eq x) names ≡ true
  any_of_node [] x h = absurd h
  any_of_node (z ∷ names) x (inl e) = ap (λ b. b || list_any (eq x) names) (laws.symm x z ∙ e)
  any_of_node (z ∷ names) x (inr h) = or_true (eq x z) (list_any (eq x) names) (any_of_node names x h)

  pub one_apart : (names : List N) (x : N) → NoRepeats eq names → NoRepeats eq (insert_key eq names x)
  one_apart names x d = by (list_any (eq x) names) refl
    where
      by : (b : Bool) → list_any (eq x) names ≡ b → NoRepeats eq (if b then names else names ++ x ∷ [])
      by true h = d
      by false h = NoRepeats-append eq (eq-sym eq laws) names x d (λ k. true≢false (sym (any_of_node names x k) ∙ h))

  all_apart : (names more : List N) → NoRepeats eq names → NoRepeats eq (insert_all eq names more)
  all_apart names [] d = d
  all_apart names (x ∷ more) d = all_apart (insert_key eq names x) more (one_apart names x d)

  pub names_apart : {C : Type 0} (list : NamesAndEdges N C) → NoRepeats eq (names_of eq list)
  names_apart list = all_apart [] (mentions_of list) tt

  pub names_are_mentions : {C : Type 0} (list : NamesAndEdges N C) → HasSameNodes eq (names_of eq list) (mentions_of list)
  names_are_mentions list = same_ends [] [] (mentions_of list) (λ x. ((λ h. h), (λ h. h)))

-- what holds of each edge holds of those from x
pub each_end : {N C : Type 0} (eq : N → N → Bool) (P : N × C → Type 0) (edges : List (N × N × C)) (x : N) → ((k : ℕ) (e : N × N × C) → slice_get edges k ≡ Some e → P (e.1, e.2))
    → (place : ℕ) (t : N × C) → slice_get (ends_from eq edges x) place ≡ Some t → P t
each_end eq P [] x h place t s = absurd (none_in place t s)
each_end {N} {C} eq P (e ∷ es) x h place t s = by (eq e.0 x) place s (λ n. each_end eq P es x (λ i d u. h (suc i) d u) n t)
  where
    by : (b : Bool) (n : ℕ) → slice_get (cons_option (if b then Some (e.1, e.2) else None) (ends_from eq es x)) n ≡ Some t → ((m : ℕ) → slice_get (ends_from eq es x) m ≡ Some t → P t) → P t
    by true zero k rest = subst P (same_item k) (h 0 e refl)
    by true (suc n) k rest = rest n k
    by false n k rest = rest n k
