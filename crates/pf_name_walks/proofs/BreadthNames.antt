-- Walks in breadth order over the numbers of a list and over its names.
use Rattle.std.proofs.Common.{rules, ◌≡◌, ◌<◌, ◌≤◌, ◌⊎◌, inl, inr, ℕ, ℤ, zero, suc, nat_eq, refl, sym, subst, ap, ◌∙◌, arith, Bool, true, false, List, [], ◌∷◌, ◌++◌, length, take, map}
use Rattle.std.specs.Prelude.{Some, None, Ok, Err, Option, Result, slice_get}
use Rattle.std.specs.Borrow.{Bor}
use Rattle.std.specs.Cmp.{IsEquivalence}
use Rattle.std.proofs.lemmas.List.{map-append}
use Rattle.std.proofs.lemmas.Slice.Zip.{AllZip-long}
use Rattle.pf_base.specs.declared.error.PathError.{PathError}
use Rattle.pf_base.specs.Answers.{SameNodes}
use Rattle.pf_base.specs.Orders.{AllGiven, IsBreadthOrder, IsNextInBreadth, found_from}
use Rattle.pf_base.specs.Walks.{HasNode}
use Rattle.pf_edge_lists.specs.EdgeLists.{NamesAndEdges, names_of, places_of, targets_from}
use Rattle.pf_edge_lists.proofs.NameWalks.{Stands, carried_next, same_name}
use Rattle.pf_name_numbers.specs.Numbered.{names_with}
use Rattle.pf_name_numbers.proofs.ListedNames.{listed_at}
use Rattle.pf_name_numbers.proofs.NameReach.{Zip}
use Rattle.pf_name_numbers.proofs.NamedNumbers.{With, name_at, named_at, stands_with, targets_with, with_apart, zip_named}
use Rattle.pf_name_walks.specs.NameWalks.{BreadthStepByName, IsBreadthWalkByName, NameWalk, breadth_by_name, named_result, result_by_name}
use Rattle.pf_name_walks.proofs.FoundNames.{equal_numbers, found_zip, same_names, same_refl, zip_found, zip_get, zip_got, zip_take}
use Rattle.pf_search.specs.Breadth.{BreadthStep, BreadthWalk, IsBreadthWalk}
use Rattle.pf_table_functions.specs.TableFunctions.{TableListsSuccessors}
use Rattle.pf_table_searches.specs.TableWalks.{BreadthStepInTable, IsBreadthWalkInTable, TableWalk}
use Rattle.pf_tables.specs.Graphs.{successors_of}
use Rattle.pf_tables.proofs.GraphLemmas.{edges_outside}
use borrow.Author.Tests.{eqb-true}

-- a number is below another, or it is not
below_or : (a n : ℕ) → (a < n) ⊎ (n ≤ a)
below_or a zero = inr (omega arith)
below_or zero (suc n) = inl (omega arith)
below_or (suc a) (suc n) = elim (below_or a n) as (λ _. (suc a < suc n) ⊎ (suc n ≤ suc a)) [ inl l ↦ inl (omega (arith, l)) | inr m ↦ inr (omega (arith, m)) ]

module _ {N C : Type 0} {eq : N → N → Bool} (laws : IsEquivalence eq) (value : C → ℤ) (list : NamesAndEdges N C) (from : N) (start : ℕ) (begins : With laws list from start from) where
  abbrev pub NextM : ℕ → List ℕ
  NextM = successors_of value (length (names_of eq list)) (places_of eq list)

  abbrev pub NextN : N → List N
  NextN = targets_from eq list

  abbrev W : List N
  W = names_with eq list from

  abbrev Z : List ℕ → List N → Type 0
  Z = Zip laws W (with_apart laws list from)

  abbrev pub Named : List ℕ → List N
  Named ks = map (name_at eq list from) ks

  -- what an edge leads to stands for a name
  pub next_named : (a b : ℕ) → HasNode nat_eq (NextM a) b → (x : N) × With laws list from b x
  next_named a b h = elim (below_or a (length (names_of eq list))) as (λ _. (x : N) × With laws list from b x) [
    | inl l ↦
        let x = listed_at laws list a l in
        (carried_next laws W (with_apart laws list from) NextM NextN (targets_with laws list from value)).named a b x.0 (stands_with laws list from a x.0 x.1) h
    | inr m ↦ absurd (subst (λ es. HasNode nat_eq (map (λ (e : ℕ × ℤ). e.0) es) b) (edges_outside value (length (names_of eq list)) (places_of eq list) a m a (search rules)) h)
  ]

  found : (ks : List ℕ) (xs : List N) → Z ks xs → Z (found_from nat_eq NextM start ks) (found_from eq NextN from xs)
  found = zip_found laws W (with_apart laws list from) NextM NextN (targets_with laws list from value) start from begins

  -- the next number stands for the next name
  next_out : (ks : List ℕ) (xs : List N) (k : ℕ) (x : N) → Z ks xs → With laws list from k x → IsNextInBreadth nat_eq NextM start ks k → IsNextInBreadth eq NextN from xs x
  next_out ks xs k x z s n =
      let long : length xs ≡ length ks = AllZip-long (Stands laws W) ks xs z in
      let y = zip_get laws W (with_apart laws list from) _ _ (length ks) n.0 (found ks xs z) n.1 in
      (y.0, ap (slice_get (found_from eq NextN from xs)) long ∙ y.1, same_name laws W k y.0 x (subst (λ (i : ℕ). With laws list from i y.0) (eqb-true n.0 k n.2) y.2) s)

  -- the numbers in breadth order stand for the names in breadth order
  order_out : (ks : List ℕ) (xs : List N) → Z ks xs → IsBreadthOrder nat_eq NextM start ks → IsBreadthOrder eq NextN from xs
  order_out ks xs z o n x h =
      let k = zip_got laws W (with_apart laws list from) ks xs n x z h in
      next_out (take n ks) (take n xs) k.0 x (zip_take laws W (with_apart laws list from) n ks xs z) k.2 (o n k.0 k.1)

  given_out : (ks : List ℕ) (xs : List N) → Z ks xs → AllGiven nat_eq NextM start ks → AllGiven eq NextN from xs
  given_out ks xs z h = omega (arith, h, AllZip-long (Stands laws W) ks xs z, AllZip-long (Stands laws W) _ _ (found ks xs z))

  given_back : (ks : List ℕ) (xs : List N) → Z ks xs → AllGiven eq NextN from xs → AllGiven nat_eq NextM start ks
  given_back ks xs z h = omega (arith, h, AllZip-long (Stands laws W) ks xs z, AllZip-long (Stands laws W) _ _ (found ks xs z))

  abbrev IsWalk : BreadthWalk ℕ (NamesAndEdges N C) → Type 0
  IsWalk w = IsBreadthWalk nat_eq (TableListsSuccessors value (λ l. length (names_of eq l)) (places_of eq)) NextM start w

  module _ (w : BreadthWalk ℕ (NamesAndEdges N C)) (h : IsWalk w) where
    both_named : Z (w.given ++ w.waiting) (Named (w.given ++ w.waiting))
    both_named =
        let v = found_zip laws W (with_apart laws list from) NextM NextN (targets_with laws list from value) start from begins next_named w.given (w.given ++ w.waiting) h.found in
        zip_named laws list from (w.given ++ w.waiting) v.0 v.1

    pub given_named : Z w.given (Named w.given)
    given_named = left w.given w.waiting both_named
      where
        left : (ks js : List ℕ) → Z (ks ++ js) (Named (ks ++ js)) → Z ks (Named ks)
        left [] js z = tt
        left (k ∷ ks) js z = (z.0, left ks js z.1)

    -- the walk in names is one of the graph of the list
    pub walk_by_name : IsBreadthWalkByName eq (breadth_by_name eq list from w)
    walk_by_name = record {
      answered = refl;
      ordered = order_out w.given (Named w.given) given_named h.ordered;
      found = subst (λ xs. SameNodes eq xs (found_from eq NextN from (Named w.given))) (map-append (name_at eq list from) w.given w.waiting)
          (same_names laws W (with_apart laws list from) (w.given ++ w.waiting) _ _ both_named
          (subst (λ ks. Z ks (found_from eq NextN from (Named w.given))) (sym (equal_numbers laws W (with_apart laws list from) (w.given ++ w.waiting) (found_from nat_eq NextM start w.given) h.found)) (found w.given (Named w.given) given_named)));
    }

  -- equal numbers have equal names
  named_same : (ks js : List ℕ) → SameNodes nat_eq ks js → SameNodes eq (Named ks) (Named js)
  named_same ks js s = subst (λ is. SameNodes eq (Named ks) (Named is)) (equal_numbers laws W (with_apart laws list from) ks js s) (same_refl laws W (with_apart laws list from) (Named ks))

  module _ (w t : BreadthWalk ℕ (NamesAndEdges N C)) (h : IsWalk w) (i : IsWalk t) where
    abbrev Step : Option (Result N PathError) → Type 0
    Step q = BreadthStep eq NextN from (breadth_by_name eq list from w).walk q (breadth_by_name eq list from t).walk

    pub step_by_name : (r : Option (Result ℕ PathError)) (q : Option (Result N PathError)) → q ≡ result_by_name eq list from r → BreadthStep nat_eq NextM start w r t → Step q
    step_by_name None q e s = subst Step (sym e) (
      elim s.0 as (λ _. (w.refused ≡ true) ⊎ AllGiven eq NextN from (Named w.given)) [ inl r ↦ inl r | inr a ↦ inr (given_out w.given (Named w.given) (given_named w h) a) ],
      ap (λ v. (breadth_by_name eq list from v).walk) s.1,
    )
    step_by_name (Some (Ok k)) q e s =
        let same = equal_numbers laws W (with_apart laws list from) t.given (w.given ++ k ∷ []) s.3 in
        let here = stands_last w.given k (subst (λ ks. Z ks (Named ks)) same (given_named t i)) in
        subst Step (sym e) (
          s.0,
          s.1,
          next_out w.given (Named w.given) k (name_at eq list from k) (given_named w h) here s.2,
          subst (λ xs. SameNodes eq (Named t.given) xs) (map-append (name_at eq list from) w.given (k ∷ [])) (named_same t.given (w.given ++ k ∷ []) s.3),
        )
      where
        stands_last : (ks : List ℕ) (j : ℕ) → Z (ks ++ j ∷ []) (Named (ks ++ j ∷ [])) → With laws list from j (name_at eq list from j)
        stands_last [] j z = z.0
        stands_last (x ∷ ks) j z = stands_last ks j z.1
    step_by_name (Some (Err refusal)) q e s = subst Step (sym e) (
      s.0,
      s.1,
      s.2,
      λ a. s.3 (given_back w.given (Named w.given) (given_named w h) a),
      named_same t.given w.given s.4,
      named_same t.waiting w.waiting s.5,
    )

-- ---- walks over the table that a list is

module _ {N C : Type 0} {eq : N → N → Bool} (laws : IsEquivalence eq) (value : C → ℤ) (list : NamesAndEdges N C) (from : N) where
  abbrev pub Numbers : Type 0
  Numbers = TableWalk (NamesAndEdges N C) (BreadthWalk ℕ (NamesAndEdges N C))

  abbrev size : NamesAndEdges N C → ℕ
  size l = length (names_of eq l)

  -- the walk goes over this list from a number of this name
  abbrev pub IsOver : Numbers → Type 0
  IsOver s = (s.table ≡ list) × With laws list from s.start from × IsBreadthWalkInTable value size (places_of eq) s

  abbrev ByName : Numbers → NameWalk N C (BreadthWalk N (NamesAndEdges N C))
  ByName s = breadth_by_name eq list from s.walk

  pub over_by_name : (s : Numbers) → IsOver s → IsBreadthWalkByName eq (ByName s)
  over_by_name s o = walk_by_name laws value list from s.start o.1 s.walk (subst (λ l. IsBreadthWalk nat_eq (TableListsSuccessors value size (places_of eq)) (successors_of value (size l) (places_of eq l)) s.start s.walk) o.0 o.2)

  pub still_over : (s t : Numbers) → IsOver s → t.table ≡ s.table → t.start ≡ s.start → IsBreadthWalkInTable value size (places_of eq) t → IsOver t
  still_over s t o e f h = (e ∙ o.0, subst (λ (k : ℕ). With laws list from k from) (sym f) o.1, h)

  pub step_over : (s t : Numbers) → IsOver s → (r : Option (Result ℕ PathError)) (result : Option (Result (Bor N) PathError)) → named_result result ≡ result_by_name eq list from r → BreadthStepInTable value size (places_of eq) s r t → BreadthStepByName eq (ByName s) result (ByName t)
  step_over s t o r result e h =
      let u = still_over s t o h.0 h.1 h.2 in
      let at_table = subst (λ l. IsBreadthWalk nat_eq (TableListsSuccessors value size (places_of eq)) (successors_of value (size l) (places_of eq l)) t.start t.walk) u.0 u.2 in
      let after = subst (λ (k : ℕ). IsBreadthWalk nat_eq (TableListsSuccessors value size (places_of eq)) (successors_of value (size list) (places_of eq list)) k t.walk) h.1 at_table in
      let before = subst (λ l. IsBreadthWalk nat_eq (TableListsSuccessors value size (places_of eq)) (successors_of value (size l) (places_of eq l)) s.start s.walk) o.0 o.2 in
      (refl, refl, over_by_name t u, step_by_name laws value list from s.start o.1 s.walk t.walk before after r (named_result result) e (subst (λ l. BreadthStep nat_eq (successors_of value (size l) (places_of eq l)) s.start s.walk r t.walk) o.0 h.3))

  -- a walk at its beginning
  module _ (s : Numbers) (start : ℕ) (begins : With laws list from start from) (e : s ≡ record { table = list; start = start; walk = record { given = []; waiting = start ∷ []; refused = false; successors = list } }) where
    pub begun_over : IsBreadthWalkInTable value size (places_of eq) s → IsOver s
    begun_over h = (ap (λ w. w.table) e, subst (λ (k : ℕ). With laws list from k from) (sym (ap (λ w. w.start) e)) begins, h)

    pub begun_given : (ByName s).walk.given ≡ []
    begun_given = ap (λ w. (ByName w).walk.given) e

    pub begun_waiting : SameNodes eq (ByName s).walk.waiting (from ∷ [])
    begun_waiting = subst (λ w. SameNodes eq (ByName w).walk.waiting (from ∷ [])) (sym e) (same_name laws (names_with eq list from) start (name_at eq list from start) from (named_at laws list from start from begins) begins, tt)

    pub begun_refused : (ByName s).walk.refused ≡ false
    begun_refused = ap (λ w. w.walk.refused) e
