-- Lazy walks in preorder over the numbers of a list, in names.
use Rattle.std.proofs.Common.{◌≡◌, ◌-◌, ◌⊎◌, inl, inr, ℕ, ℤ, nat_eq, eq-eqb, refl, sym, subst, ap, ◌∙◌, arith, Bool, true, false, List, [], ◌∷◌, ◌++◌, length, map, if◌then◌else◌}
use Rattle.std.specs.Prelude.{Some, None, Ok, Err, Option, Result}
use Rattle.std.specs.Borrow.{Bor}
use Rattle.std.specs.Cmp.{IsEquivalence}
use Rattle.std.proofs.lemmas.List.{length-map, map-append}
use Rattle.std.proofs.lemmas.Slice.Zip.{AllZip-long}
use Rattle.pf_base.specs.declared.error.PathError.{PathError}
use Rattle.pf_base.specs.Answers.{SameNodes}
use Rattle.pf_base.specs.Orders.{IsNextTreePath, IsWholePreorder, found_from, last_nodes}
use Rattle.pf_base.specs.Walks.{end_of}
use Rattle.pf_edge_lists.specs.EdgeLists.{NamesAndEdges, names_of, places_of, targets_from}
use Rattle.pf_name_numbers.specs.Numbered.{names_with}
use Rattle.pf_name_numbers.proofs.NameReach.{Zip}
use Rattle.pf_name_numbers.proofs.NamedNumbers.{With, name_at, named_at, targets_with, with_apart, zip_named}
use Rattle.pf_name_searches.proofs.TreeNames.{last_mapped, last_stands, preorder_out, tree_out, tree_stands, zip_of}
use Rattle.pf_name_walks.specs.NameWalks.{HasGoneAlong, IsPreorderWalkAlongNames, IsPreorderWalkByName, NameWalk, NumberedWalk, PreorderStepByName, named_result, preorder_by_name, result_by_name, tree_name}
use Rattle.pf_name_walks.proofs.FoundNames.{equal_numbers, same_names, same_refl, zip_found}
use Rattle.pf_name_walks.proofs.PreorderNames.{end_mapped, end_stand, lasts_stand, whole_back, whole_out}
use Rattle.pf_search.specs.DepthWalks.{DepthStep, DepthWalk, IsDepthWalk}
use Rattle.pf_table_functions.specs.TableFunctions.{TableListsSuccessors}
use Rattle.pf_table_searches.specs.TableWalks.{IsPreorderWalkAlong, IsPreorderWalkInTable, PreorderStepInTable}
use Rattle.pf_tables.specs.Graphs.{successors_of}
use borrow.Author.Tests.{eqb-true}

module _ {N C : Type 0} {eq : N → N → Bool} (laws : IsEquivalence eq) (value : C → ℤ) (list : NamesAndEdges N C) (from : N) (start : ℕ) (begins : With laws list from start from) where
  abbrev NextM : ℕ → List ℕ
  NextM = successors_of value (length (names_of eq list)) (places_of eq list)

  abbrev NextN : N → List N
  NextN = targets_from eq list

  abbrev W : List N
  W = names_with eq list from

  abbrev Z : List ℕ → List N → Type 0
  Z = Zip laws W (with_apart laws list from)

  abbrev Named : List ℕ → List N
  Named ks = map (name_at eq list from) ks

  abbrev tree : ℕ → N
  tree = tree_name eq list from start

  tree_named : (k : ℕ) (x : N) → With laws list from k x → With laws list from k (tree k)
  tree_named k x s = by (nat_eq k start) refl
    where
      by : (b : Bool) → nat_eq k start ≡ b → With laws list from k (if b then from else name_at eq list from k)
      by true e = subst (λ (n : ℕ). With laws list from n from) (sym (eqb-true k start e)) begins
      by false e = named_at laws list from k x s

  is_from : tree start ≡ from
  is_from = ap (λ (b : Bool). if b then from else name_at eq list from start) (eq-eqb start start refl)

  abbrev Trees : List (List ℕ) → List (List N)
  Trees paths = map (map tree) paths

  abbrev At : DepthWalk ℕ (NamesAndEdges N C) → NumberedWalk N C
  At w = record { table = list; start = start; walk = w }

  abbrev IsAlong : List (List ℕ) → DepthWalk ℕ (NamesAndEdges N C) → Type 0
  IsAlong paths w = IsDepthWalk nat_eq (TableListsSuccessors value (λ l. length (names_of eq l)) (places_of eq)) NextM start paths w

  -- what the numbers of a list that stand for names are named
  both_named : (ks js : List ℕ) (xs : List N) → SameNodes nat_eq ks js → Z js xs → SameNodes eq (Named ks) xs
  both_named ks js xs s z = subst (λ is. SameNodes eq (Named is) xs) (sym (equal_numbers laws W (with_apart laws list from) ks js s)) (same_names laws W (with_apart laws list from) js (Named js) xs (zip_named laws list from js xs z) z)

  named_both : (ks js : List ℕ) (xs : List N) → SameNodes nat_eq ks js → Z ks xs → SameNodes eq xs (Named js)
  named_both ks js xs s z = subst (λ is. SameNodes eq xs (Named is)) (equal_numbers laws W (with_apart laws list from) ks js s) (same_names laws W (with_apart laws list from) ks xs (Named ks) z (zip_named laws list from ks xs z))

  module _ (paths : List (List ℕ)) (w : DepthWalk ℕ (NamesAndEdges N C)) (h : IsAlong paths w) where
    lasts_zip : Z (last_nodes paths) (map tree (last_nodes paths))
    lasts_zip = zip_of laws W (with_apart laws list from) NextM NextN (targets_with laws list from value) tree tree_named (last_nodes paths) (lasts_stand laws W (with_apart laws list from) NextM NextN (targets_with laws list from value) tree tree_named start from begins is_from paths h.stands.preorder)

    lasts_are : last_nodes (Trees paths) ≡ map tree (last_nodes paths)
    lasts_are = last_mapped laws W (with_apart laws list from) NextM NextN (targets_with laws list from value) tree tree_named paths

    found_zip : Z (found_from nat_eq NextM start (last_nodes paths)) (found_from eq NextN from (last_nodes (Trees paths)))
    found_zip = zip_found laws W (with_apart laws list from) NextM NextN (targets_with laws list from value) start from begins (last_nodes paths) (last_nodes (Trees paths)) (subst (Z (last_nodes paths)) (sym lasts_are) lasts_zip)

    -- the walk has gone along the names of the tree paths
    pub along_by_name : HasGoneAlong eq value list from (Trees paths) (preorder_by_name eq list from (At w)).walk
    along_by_name = record {
      preorder = preorder_out laws W (with_apart laws list from) NextM NextN (targets_with laws list from value) tree tree_named start from begins is_from [] [] paths (λ k c. absurd (omega (arith, c.1))) (λ k c. absurd (omega (arith, c.1))) h.stands.preorder;
      given = subst (SameNodes eq (Named w.given)) (sym lasts_are) (both_named w.given (last_nodes paths) (map tree (last_nodes paths)) h.stands.given lasts_zip);
      found = both_named w.found (found_from nat_eq NextM start (last_nodes paths)) (found_from eq NextN from (last_nodes (Trees paths))) h.stands.found found_zip;
      numbers = paths;
      along = h;
      named = refl;
    }

  -- equal numbers have equal names
  named_same : (ks js : List ℕ) → SameNodes nat_eq ks js → SameNodes eq (Named ks) (Named js)
  named_same ks js s = subst (λ is. SameNodes eq (Named ks) (Named is)) (equal_numbers laws W (with_apart laws list from) ks js s) (same_refl laws W (with_apart laws list from) (Named ks))

  module _ (w t : DepthWalk ℕ (NamesAndEdges N C)) (paths : List (List ℕ)) (h : IsAlong paths w) where
    abbrev Step : Option (Result N PathError) → Type 0
    Step q = DepthStep eq NextN from (HasGoneAlong eq value list from) (Trees paths) (preorder_by_name eq list from (At w)).walk q (preorder_by_name eq list from (At t)).walk

    pub step_by_name : (r : Option (Result ℕ PathError)) (q : Option (Result N PathError)) → q ≡ result_by_name eq list from r → DepthStep nat_eq NextM start IsAlong paths w r t → Step q
    step_by_name None q e s = subst Step (sym e) (
      s.0,
      along_by_name paths t s.1,
      elim s.2 as (λ _. ((w.refused ≡ true) × ((preorder_by_name eq list from (At t)).walk ≡ (preorder_by_name eq list from (At w)).walk)) ⊎ IsWholePreorder eq NextN (Trees paths)) [
        | inl i ↦ inl (i.0, ap (λ v. (preorder_by_name eq list from (At v)).walk) i.1)
        | inr i ↦ inr (whole_out laws W (with_apart laws list from) NextM NextN (targets_with laws list from value) tree tree_named start from begins is_from paths h.stands.preorder i)
      ],
    )
    step_by_name (Some (Ok k)) q e s =
        let path = s.3.0 in
        let last : SameNodes nat_eq (last_nodes (path ∷ [])) (k ∷ []) = s.3.2 in
        let next : IsAlong (paths ++ path ∷ []) t = s.3.3 in
        let joined = map-append (map tree) paths (path ∷ []) in
        let on = along_by_name (paths ++ path ∷ []) t next in
        let lasts = lasts_stand laws W (with_apart laws list from) NextM NextN (targets_with laws list from value) tree tree_named start from begins is_from paths h.stands.preorder in
        let ends = end_stand laws W (with_apart laws list from) NextM NextN (targets_with laws list from value) tree tree_named start from begins is_from paths h.stands.preorder in
        let out = tree_out laws W (with_apart laws list from) NextM NextN (targets_with laws list from value) tree tree_named start from begins is_from (last_nodes paths) (end_of [] paths) path lasts ends s.3.1 in
        let stands = tree_stands laws W (with_apart laws list from) NextM NextN (targets_with laws list from value) tree tree_named start from begins is_from (last_nodes paths) (end_of [] paths) path lasts ends s.3.1 in
        subst Step (sym e) (
          s.0,
          s.1,
          subst (λ xs. SameNodes eq (Named t.given) xs) (map-append (name_at eq list from) w.given (k ∷ [])) (named_same t.given (w.given ++ k ∷ []) s.2),
          (
            map tree path,
            subst (λ gs. IsNextTreePath eq NextN from gs (end_of [] (Trees paths)) (map tree path)) (sym (lasts_are paths w h))
                (subst (λ p. IsNextTreePath eq NextN from (map tree (last_nodes paths)) p (map tree path)) (sym (end_mapped laws W (with_apart laws list from) NextM NextN (targets_with laws list from value) tree tree_named [] paths)) out),
            subst (λ xs. SameNodes eq xs (Named (k ∷ []))) (sym (last_mapped laws W (with_apart laws list from) NextM NextN (targets_with laws list from value) tree tree_named (path ∷ [])))
                (named_both (last_nodes (path ∷ [])) (k ∷ []) (map tree (last_nodes (path ∷ []))) last
                (zip_of laws W (with_apart laws list from) NextM NextN (targets_with laws list from value) tree tree_named (last_nodes (path ∷ [])) (last_stands laws W (with_apart laws list from) NextM NextN (targets_with laws list from value) tree tree_named start from begins is_from path stands))),
            subst (λ ps. HasGoneAlong eq value list from ps (preorder_by_name eq list from (At t)).walk) joined on,
          ),
        )
    step_by_name (Some (Err refusal)) q e s = subst Step (sym e) (
      s.0,
      s.1,
      s.2,
      λ a. s.3 (whole_back laws W (with_apart laws list from) NextM NextN (targets_with laws list from value) tree tree_named start from begins is_from paths h.stands.preorder a),
      named_same t.given w.given s.4,
      named_same t.found w.found s.5,
      along_by_name paths t s.6,
    )

  module _ (w t : DepthWalk ℕ (NamesAndEdges N C)) where
    abbrev Walk : DepthWalk ℕ (NamesAndEdges N C) → NameWalk N C (DepthWalk N (NumberedWalk N C))
    Walk v = preorder_by_name eq list from (At v)

    -- behind whatever tree paths the walk has gone along, a step of the numbers is one of the names
    pub step_along : (r : Option (Result ℕ PathError)) (result : Option (Result (Bor N) PathError)) → named_result result ≡ result_by_name eq list from r → PreorderStepInTable value (λ l. length (names_of eq l)) (places_of eq) (At w) r (At t) → PreorderStepByName eq value (Walk w) result (Walk t)
    step_along r result e h = (
      refl,
      refl,
      (Trees h.2.0, along_by_name h.2.0 w h.2.1),
      (Trees h.3.0, along_by_name h.3.0 t h.3.1),
      λ paths a. subst (λ ps. DepthStep eq NextN from (HasGoneAlong eq value list from) ps (Walk w).walk (named_result result) (Walk t).walk) (sym a.named) (step_by_name w t a.numbers a.along r (named_result result) e (h.4 a.numbers a.along)),
    )

-- ---- walks over the table that a list is

module _ {N C : Type 0} {eq : N → N → Bool} (laws : IsEquivalence eq) (value : C → ℤ) (list : NamesAndEdges N C) (from : N) where
  abbrev size : NamesAndEdges N C → ℕ
  size l = length (names_of eq l)

  -- the walk goes over this list from a number of this name
  abbrev pub IsOver : NumberedWalk N C → Type 0
  IsOver s = (s.table ≡ list) × With laws list from s.start from × IsPreorderWalkInTable value size (places_of eq) s

  abbrev Seen : NumberedWalk N C → NameWalk N C (DepthWalk N (NumberedWalk N C))
  Seen s = preorder_by_name eq list from s

  -- the walk, with its list and a start that is the same
  same_walk : (s : NumberedWalk N C) (start : ℕ) → s.table ≡ list → s.start ≡ start → s ≡ record { table = list; start = start; walk = s.walk }
  same_walk s start e f = ap (λ l. record { table = l; start = s.start; walk = s.walk }) e ∙ ap (λ (k : ℕ). record { table = list; start = k; walk = s.walk }) f

  pub still_over : (s t : NumberedWalk N C) → IsOver s → t.table ≡ s.table → t.start ≡ s.start → IsPreorderWalkInTable value size (places_of eq) t → IsOver t
  still_over s t o e f h = (e ∙ o.0, subst (λ (k : ℕ). With laws list from k from) (sym f) o.1, h)

  pub along_over : (s : NumberedWalk N C) → IsOver s → (paths : List (List ℕ)) → IsPreorderWalkAlong value size (places_of eq) paths s → IsPreorderWalkAlongNames eq value (map (map (tree_name eq list from s.start)) paths) (Seen s)
  along_over s o paths a =
      let is = same_walk s s.start o.0 refl in
      subst (λ v. HasGoneAlong eq value list from (map (map (tree_name eq list from s.start)) paths) (Seen v).walk) (sym is) (along_by_name laws value list from s.start o.1 paths s.walk (subst (IsPreorderWalkAlong value size (places_of eq) paths) is a))

  pub over_by_name : (s : NumberedWalk N C) → IsOver s → IsPreorderWalkByName eq value (Seen s)
  over_by_name s o = (map (map (tree_name eq list from s.start)) o.2.0, along_over s o o.2.0 o.2.1)

  pub step_over : (s t : NumberedWalk N C) → IsOver s → (r : Option (Result ℕ PathError)) (result : Option (Result (Bor N) PathError)) → named_result result ≡ result_by_name eq list from r → PreorderStepInTable value size (places_of eq) s r t → PreorderStepByName eq value (Seen s) result (Seen t)
  step_over s t o r result e h =
      let is = same_walk s s.start o.0 refl in
      let on = same_walk t s.start (h.0 ∙ o.0) h.1 in
      let step = step_along laws value list from s.start o.1 s.walk t.walk r result e (subst (λ v. PreorderStepInTable value size (places_of eq) v r (record { table = list; start = s.start; walk = t.walk })) is (subst (PreorderStepInTable value size (places_of eq) s r) on h)) in
      subst (λ v. PreorderStepByName eq value v result (Seen t)) (ap Seen (sym is)) (subst (PreorderStepByName eq value (Seen (record { table = list; start = s.start; walk = s.walk })) result) (ap Seen (sym on)) step)

  -- paths that a walk has gone along are those of the same walk with its mark lowered
  pub still_along : (s t : NumberedWalk N C) → IsOver s → IsOver t → t.start ≡ s.start → ((paths : List (List ℕ)) → IsPreorderWalkAlong value size (places_of eq) paths s → IsPreorderWalkAlong value size (places_of eq) paths t)
      → (paths : List (List N)) → IsPreorderWalkAlongNames eq value paths (Seen s) → IsPreorderWalkAlongNames eq value paths (Seen t)
  still_along s t o u f h paths a = subst (λ ps. IsPreorderWalkAlongNames eq value ps (Seen t)) (ap (λ (k : ℕ). map (map (tree_name eq list from k)) a.numbers) f ∙ sym a.named) (along_over t u a.numbers (h a.numbers a.along))

  -- as many names are found and not given as numbers
  pub left_over : (s : NumberedWalk N C) → IsOver s → (left : ℕ) → ((paths : List (List ℕ)) → IsPreorderWalkAlong value size (places_of eq) paths s → left ≡ length (found_from nat_eq (successors_of value (size s.table) (places_of eq s.table)) s.start (last_nodes paths)) - length paths)
      → (paths : List (List N)) → IsPreorderWalkAlongNames eq value paths (Seen s) → left ≡ length (found_from eq (targets_from eq list) from (last_nodes paths)) - length paths
  left_over s o left h paths a =
      let found : length (found_from eq (targets_from eq list) from (last_nodes paths)) ≡ length s.walk.found = AllZip-long _ (Seen s).walk.found _ a.found ∙ length-map s.walk.found (λ number. name_at eq list from number) in
      let numbers : length (found_from nat_eq (successors_of value (size s.table) (places_of eq s.table)) s.start (last_nodes a.numbers)) ≡ length s.walk.found = AllZip-long _ s.walk.found _ a.along.stands.found in
      let count : length paths ≡ length a.numbers = ap length a.named ∙ length-map a.numbers (map (tree_name eq list from s.start)) in
      h a.numbers a.along ∙ ap (λ (n : ℕ). n - length a.numbers) (numbers ∙ sym found) ∙ ap (λ (n : ℕ). length (found_from eq (targets_from eq list) from (last_nodes paths)) - n) (sym count)

  pub left_named : (s : NumberedWalk N C) (left : ℕ) → left ≡ length s.walk.found - length s.walk.given → left ≡ length (Seen s).walk.found - length (Seen s).walk.given
  left_named s left e =
      let name : ℕ → N = λ number. name_at eq list from number in
      e ∙ ap (λ (n : ℕ). n - length s.walk.given) (sym (length-map s.walk.found name)) ∙ ap (λ (n : ℕ). length (map name s.walk.found) - n) (sym (length-map s.walk.given name))
