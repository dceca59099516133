-- What a map of parents of the numbers of a list says of its names.
use Rattle.std.proofs.Common.{◌≡◌, inl, inr, ℕ, ℤ, nat_eq, eq-eqb, refl, sym, ap, ◌∙◌, Bool, true, false, true≢false, List, [], ◌∷◌, ◌||◌, length, map, if◌then◌else◌}
use Rattle.std.specs.Prelude.{Option, Some, None}
use Rattle.std.specs.Cmp.{IsEquivalence}
use Rattle.std.specs.List.{filter_map, list_any, range_with_len}
use Rattle.std.specs.Option.{option_map}
use Rattle.pf_base.specs.Walks.{HasNode, NoRepeats}
use Rattle.pf_base.proofs.ListLemmas.{or_true}
use Rattle.pf_tables.specs.Graphs.{graph_of}
use Rattle.pf_edge_lists.specs.EdgeLists.{NamesAndEdges, edges_from, names_of, places_of}
use Rattle.pf_edge_lists.proofs.NameWalks.{one}
use Rattle.pf_name_numbers.specs.Numbered.{names_with}
use Rattle.pf_name_numbers.proofs.ListedNames.{in_range, listed_at, listed_inside, range_apart, range_within}
use Rattle.pf_name_numbers.proofs.NamedNumbers.{With, edges_with, name_at, named_at, next_stands, stands_with, with_apart, with_cases}
use Rattle.pf_name_searches.specs.NameParents.{entry_of, name_entry}
use Rattle.pf_name_searches.proofs.ParentNames.{by_name, listed_once, look_up, look_up_numbered, map_out, partial_out, sound_map, sound_partial}
use Rattle.pf_search.specs.Parents.{IsCheapestMap, IsPartialMap}
use borrow.Author.Tests.{eqb-true}

module _ {N C : Type 0} {eq : N → N → Bool} (laws : IsEquivalence eq) (list : NamesAndEdges N C) (from : N) where
  -- a number of the list stands for a name
  numbers : (k : ℕ) → HasNode nat_eq (range_with_len 0 (length (names_of eq list))) k → (x : N) × With laws list from k x
  numbers k h = let x = listed_at laws list k (range_within (length (names_of eq list)) k h) in (x.0, stands_with laws list from k x.0 x.1)

  any_of : (k : ℕ) (ks : List ℕ) → HasNode nat_eq ks k → list_any (nat_eq k) ks ≡ true
  any_of k [] h = absurd h
  any_of k (j ∷ ks) (inl e) = ap (λ b. b || list_any (nat_eq k) ks) (eq-eqb k j (sym (eqb-true j k e)))
  any_of k (j ∷ ks) (inr h) = or_true (nat_eq k j) (list_any (nat_eq k) ks) (any_of k ks h)

  pub once_by_name : (entry : ℕ → Option (ℕ × C)) → NoRepeats eq (map (λ (e : N × (N × C)). e.0) (filter_map (name_entry eq list from entry) (range_with_len 0 (length (names_of eq list)))))
  once_by_name entry = listed_once laws (names_with eq list from) (with_apart laws list from) (name_at eq list from) (named_at laws list from) entry _ numbers (range_apart 0 (length (names_of eq list)))

  module _ (value : C → ℤ) (entry : ℕ → Option (ℕ × C)) (start : ℕ) (begins : With laws list from start from) (free : (e : ℕ × C) → entry start ≡ Some e → ⊥) where
    abbrev pub names_by : N → Option (N × C)
    names_by = entry_of eq (filter_map (name_entry eq list from entry) (range_with_len 0 (length (names_of eq list))))

    agrees : (k : ℕ) (x : N) → With laws list from k x → names_by x ≡ option_map (by_name laws (names_with eq list from) (with_apart laws list from) (name_at eq list from) (named_at laws list from) entry) (entry k)
    agrees k x s =
        let look = look_up laws (names_with eq list from) (with_apart laws list from) (name_at eq list from) (named_at laws list from) entry _ numbers k x s in
        elim (with_cases laws list from k x s) as (λ _. names_by x ≡ option_map (by_name laws (names_with eq list from) (with_apart laws list from) (name_at eq list from) (named_at laws list from) entry) (entry k)) [
          | inl i ↦ look ∙ ap (λ b. if b then option_map (by_name laws (names_with eq list from) (with_apart laws list from) (name_at eq list from) (named_at laws list from) entry) (entry k) else None)
              (any_of k _ (in_range (length (names_of eq list)) k (listed_inside laws list k x i)))
          | inr i ↦
              let here = next_stands laws list from i.0 k i.1 from (laws.refl from) in
              let same : start ≡ k = one laws (names_with eq list from) (with_apart laws list from) start k from begins here in
              let none : entry k ≡ None = no_entry (entry k) refl same in
              look ∙ ap (λ o. if list_any (nat_eq k) (range_with_len 0 (length (names_of eq list))) then option_map (by_name laws (names_with eq list from) (with_apart laws list from) (name_at eq list from) (named_at laws list from) entry) o else None) none
              ∙ both (list_any (nat_eq k) (range_with_len 0 (length (names_of eq list)))) ∙ sym (ap (option_map (by_name laws (names_with eq list from) (with_apart laws list from) (name_at eq list from) (named_at laws list from) entry)) none)
        ]
      where
        both : (b : Bool) → (if b then option_map (by_name laws (names_with eq list from) (with_apart laws list from) (name_at eq list from) (named_at laws list from) entry) None else None) ≡ option_map (by_name laws (names_with eq list from) (with_apart laws list from) (name_at eq list from) (named_at laws list from) entry) None
        both true = refl
        both false = refl

        no_entry : (o : Option (ℕ × C)) → entry k ≡ o → start ≡ k → entry k ≡ None
        no_entry None e same = e
        no_entry (Some p) e same = absurd (free p (ap entry same ∙ e))

    numbered : (x : N) (r : N × C) → names_by x ≡ Some r → (k : ℕ) × With laws list from k x
    numbered = look_up_numbered laws (names_with eq list from) (with_apart laws list from) (name_at eq list from) (named_at laws list from) entry _ numbers

    pub whole_by_name : IsCheapestMap nat_eq (graph_of value (length (names_of eq list)) (places_of eq list)) start value entry → IsCheapestMap eq (edges_from eq value list) from value names_by
    whole_by_name h = map_out laws (names_with eq list from) (with_apart laws list from) (name_at eq list from) (named_at laws list from) entry _ _ (edges_with laws list from value) start from begins value (sound_map laws (names_with eq list from) (with_apart laws list from) (name_at eq list from) (named_at laws list from) entry _ _ (edges_with laws list from value) start from begins value h) names_by agrees numbered h

    pub part_by_name : (testM : ℕ → Bool) (testN : N → Bool) → ((k : ℕ) (x : N) → With laws list from k x → testM k ≡ testN x) → (stop : Option ℕ) → IsPartialMap nat_eq (graph_of value (length (names_of eq list)) (places_of eq list)) start value entry testM stop
        → IsPartialMap eq (edges_from eq value list) from value names_by testN (option_map (name_at eq list from) stop)
    part_by_name testM testN tests stop h = partial_out laws (names_with eq list from) (with_apart laws list from) (name_at eq list from) (named_at laws list from) entry _ _ (edges_with laws list from value) start from begins value (sound_partial laws (names_with eq list from) (with_apart laws list from) (name_at eq list from) (named_at laws list from) entry _ _ (edges_with laws list from value) start from begins value testM stop h) names_by agrees numbered testM testN tests stop h

  module _ (value : C → ℤ) (entry : ℕ → Option (ℕ × C)) (start : ℕ) (begins : With laws list from start from) where
    pub map_by_name : IsCheapestMap nat_eq (graph_of value (length (names_of eq list)) (places_of eq list)) start value entry
        → IsCheapestMap eq (edges_from eq value list) from value (entry_of eq (filter_map (name_entry eq list from entry) (range_with_len 0 (length (names_of eq list)))))
    map_by_name h = whole_by_name value entry start begins (λ e is. true≢false (sym (eq-eqb start start refl) ∙ ((h.reached start).0 (e.0, e.1, is)).1)) h

    pub partial_by_name : (testM : ℕ → Bool) (testN : N → Bool) → ((k : ℕ) (x : N) → With laws list from k x → testM k ≡ testN x) → (stop : Option ℕ) → IsPartialMap nat_eq (graph_of value (length (names_of eq list)) (places_of eq list)) start value entry testM stop
        → IsPartialMap eq (edges_from eq value list) from value (entry_of eq (filter_map (name_entry eq list from entry) (range_with_len 0 (length (names_of eq list))))) testN (option_map (name_at eq list from) stop)
    partial_by_name testM testN tests stop h = part_by_name value entry start begins (λ e is. true≢false (sym (eq-eqb start start refl) ∙ ((h.reached start).0 (e.0, e.1, is)).0)) testM testN tests stop h
