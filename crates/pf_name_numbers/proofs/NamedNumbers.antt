-- The numbers of the names of a list and of one more name: the graph over them is the graph over the names.
use Rattle.std.proofs.Common.{rules, ◌≡◌, inl, inr, ◌⊎◌, ℕ, ℤ, nat_eq, sym, subst, ◌∙◌, ap, arith, Bool, true, false, true≢false, List, [], ◌∷◌, ◌++◌, length, map, if◌then◌else◌, slice_get, get_or}
use Rattle.std.specs.Prelude.{Some}
use Rattle.std.specs.Cmp.{IsEquivalence}
use Rattle.std.specs.List.{AllZip, list_any}
use Rattle.std.proofs.lemmas.List.{get_or_past}
use Rattle.std.proofs.lemmas.Option.{get_or_from_slice_get}
use Rattle.pf_base.specs.Walks.{HasNode, NoRepeats}
use Rattle.pf_base.proofs.ListLemmas.{bool_dec, get-append, get_at_end, get_pushed}
use Rattle.pf_core.specs.Nodes.{StandsFor}
use Rattle.pf_core.proofs.NodeLemmas.{eq-trans}
use Rattle.pf_core.proofs.PathLemmas.{AllZip-map}
use Rattle.pf_tables.specs.Graphs.{graph_of, successors_of}
use Rattle.pf_tables.proofs.GraphLemmas.{edges_outside}
use Rattle.pf_edge_lists.specs.EdgeLists.{NamesAndEdges, edges_from, names_of, places_of, targets_from}
use Rattle.pf_edge_lists.proofs.NameWalks.{Stands, SameEdges, ends_zip, test_stands}
use Rattle.pf_edge_lists.proofs.NamedGraph.{no_edges_from, same_edges, targets_same}
use Rattle.pf_edge_lists.proofs.NumberedNames.{any_of_node, has_at, names_apart, number_stands, one_apart}
use Rattle.pf_name_numbers.specs.Numbered.{names_with}

-- the name of a number
abbrev pub name_at : {N C : Type 0} → (N → N → Bool) → NamesAndEdges N C → N → ℕ → N
name_at eq list other k = get_or (names_of eq list) k other

module _ {N C : Type 0} {eq : N → N → Bool} (laws : IsEquivalence eq) (list : NamesAndEdges N C) (other : N) where
  abbrev pub With : ℕ → N → Type 0
  With = Stands laws (names_with eq list other)

  pub with_apart : NoRepeats eq (names_with eq list other)
  with_apart = one_apart laws (names_of eq list) other (names_apart laws list)

  listed : list_any (eq other) (names_of eq list) ≡ true → names_with eq list other ≡ names_of eq list
  listed h = ap (λ (b : Bool). if b then names_of eq list else names_of eq list ++ other ∷ []) h

  unlisted : list_any (eq other) (names_of eq list) ≡ false → names_with eq list other ≡ names_of eq list ++ other ∷ []
  unlisted h = ap (λ (b : Bool). if b then names_of eq list else names_of eq list ++ other ∷ []) h

  pub none_listed : list_any (eq other) (names_of eq list) ≡ false → ¬ (HasNode eq (names_of eq list) other)
  none_listed h n = true≢false (sym (any_of_node laws (names_of eq list) other n) ∙ h)

  pub not_any : ¬ (HasNode eq (names_of eq list) other) → list_any (eq other) (names_of eq list) ≡ false
  not_any none = elim (bool_dec (list_any (eq other) (names_of eq list))) as (λ _. list_any (eq other) (names_of eq list) ≡ false) [
    | inl t ↦ let s = number_stands laws (names_of eq list) other t in absurd (none (has_at laws (names_of eq list) _ s.0 other s.1 s.2))
    | inr f ↦ f
  ]

  -- a number of the list stands for the same name
  pub stands_with : (k : ℕ) (x : N) → StandsFor eq (names_of eq list) k x → StandsFor eq (names_with eq list other) k x
  stands_with k x s = elim (bool_dec (list_any (eq other) (names_of eq list))) as (λ _. StandsFor eq (names_with eq list other) k x) [
    | inl t ↦ subst (λ ns. StandsFor eq ns k x) (sym (listed t)) s
    | inr f ↦ subst (λ ns. StandsFor eq ns k x) (sym (unlisted f)) (s.0, get-append (names_of eq list) (other ∷ []) k s.0 s.1, s.2)
  ]

  -- the number behind all of them stands for the name that is handed in
  pub next_stands : ¬ (HasNode eq (names_of eq list) other) → (k : ℕ) → k ≡ length (names_of eq list) → (x : N) → eq other x ≡ true → StandsFor eq (names_with eq list other) k x
  next_stands none k e x same = subst (λ ns. StandsFor eq ns k x) (sym (unlisted (not_any none))) (other, subst (λ (n : ℕ). slice_get (names_of eq list ++ other ∷ []) n ≡ Some other) (sym e) (get_at_end (names_of eq list) other), same)

  -- what a number stands for
  pub with_cases : (k : ℕ) (x : N) → With k x → StandsFor eq (names_of eq list) k x ⊎ (¬ (HasNode eq (names_of eq list) other) × (k ≡ length (names_of eq list)) × (eq other x ≡ true))
  with_cases k x s = elim (bool_dec (list_any (eq other) (names_of eq list))) as (λ _. StandsFor eq (names_of eq list) k x ⊎ (¬ (HasNode eq (names_of eq list) other) × (k ≡ length (names_of eq list)) × (eq other x ≡ true))) [
    | inl t ↦ inl (subst (λ ns. StandsFor eq ns k x) (listed t) s)
    | inr f ↦
        elim (get_pushed (names_of eq list) other k s.0 (ap (λ ns. slice_get ns k) (sym (unlisted f)) ∙ s.1))
        as (λ _. StandsFor eq (names_of eq list) k x ⊎ (¬ (HasNode eq (names_of eq list) other) × (k ≡ length (names_of eq list)) × (eq other x ≡ true))) [
          | inl i ↦ inl (s.0, i.1, s.2)
          | inr i ↦ inr (none_listed f, i.0, ap (λ m. eq m x) i.1 ∙ s.2)
        ]
  ]

  -- a number stands for its name
  pub named_at : (k : ℕ) (x : N) → With k x → With k (name_at eq list other k)
  named_at k x s = elim (with_cases k x s) as (λ _. With k (name_at eq list other k)) [
    | inl i ↦ stands_with k (name_at eq list other k) (i.0, i.1, ap (eq i.0) (get_or_from_slice_get (names_of eq list) k i.0 other i.1) ∙ laws.refl i.0)
    | inr i ↦ next_stands i.0 k i.1 (name_at eq list other k) (past i.1)
  ]
    where
      past : k ≡ length (names_of eq list) → eq other (name_at eq list other k) ≡ true
      past e = ap (eq other) (get_or_past (names_of eq list) k other (omega (arith, e))) ∙ laws.refl other

  pub zip_named : (ks : List ℕ) (xs : List N) → AllZip With ks xs → AllZip With ks (map (name_at eq list other) ks)
  zip_named [] [] z = tt
  zip_named [] (x ∷ xs) z = absurd z
  zip_named (k ∷ ks) [] z = absurd z
  zip_named (k ∷ ks) (x ∷ xs) z = (named_at k x z.0, zip_named ks xs z.1)

  module _ (value : C → ℤ) where
    -- a number has the edges of the name that it stands for
    pub edges_with : (a : ℕ) (x : N) → With a x → SameEdges laws (names_with eq list other) with_apart (graph_of value (length (names_of eq list)) (places_of eq list) a) (edges_from eq value list x)
    edges_with a x s = elim (with_cases a x s) as (λ _. SameEdges laws (names_with eq list other) with_apart (graph_of value (length (names_of eq list)) (places_of eq list) a) (edges_from eq value list x)) [
      | inl i ↦ AllZip-map _ _ (λ e f h. (stands_with e.0 f.0 h.0, h.1)) _ _ (same_edges laws value list a x i)
      | inr i ↦
          subst (λ es. SameEdges laws (names_with eq list other) with_apart es (edges_from eq value list x)) (sym (edges_outside value (length (names_of eq list)) (places_of eq list) a (omega (arith, i.1)) a (search rules)))
          (subst (λ es. SameEdges laws (names_with eq list other) with_apart [] es) (sym (no_edges_from laws value list other i.0 x i.2)) tt)
    ]

    pub targets_with : (a : ℕ) (x : N) → With a x → AllZip With (successors_of value (length (names_of eq list)) (places_of eq list) a) (targets_from eq list x)
    targets_with a x s = subst (AllZip With (successors_of value (length (names_of eq list)) (places_of eq list) a)) (targets_same laws value list _)
        (ends_zip laws (names_with eq list other) with_apart _ _ (edges_with a x s))

  -- the test for a goal
  pub goal_listed : (to : N) (goal : ℕ) → StandsFor eq (names_of eq list) goal to → (k : ℕ) (x : N) → With k x → nat_eq k goal ≡ eq x to
  goal_listed to goal s k x h = test_stands laws (names_with eq list other) with_apart goal to (stands_with goal to s) k x h

  pub goal_next : (to : N) → ¬ (HasNode eq (names_of eq list) to) → eq other to ≡ true → (goal : ℕ) → goal ≡ length (names_of eq list) → (k : ℕ) (x : N) → With k x → nat_eq k goal ≡ eq x to
  goal_next to none same goal e k x h = test_stands laws (names_with eq list other) with_apart goal to (next_stands unlisted_too goal e to same) k x h
    where
      unlisted_too : ¬ (HasNode eq (names_of eq list) other)
      unlisted_too n = none (alike (names_of eq list) n)
        where
          alike : (xs : List N) → HasNode eq xs other → HasNode eq xs to
          alike [] a = a
          alike (y ∷ xs) (inl a) = inl (eq-trans eq laws y other to a same)
          alike (y ∷ xs) (inr a) = inr (alike xs a)

  pub goal_nowhere : (to : N) → ¬ (HasNode eq (names_of eq list) to) → eq other to ≡ false → (k : ℕ) (x : N) → With k x → false ≡ eq x to
  goal_nowhere to none other_than k x h = elim (bool_dec (eq x to)) as (λ _. false ≡ eq x to) [
    | inr f ↦ sym f
    | inl t ↦ elim (with_cases k x h) as (λ _. false ≡ eq x to) [
      | inl i ↦ absurd (none (has_at laws (names_of eq list) k i.0 to i.1 (eq-trans eq laws i.0 x to i.2 t)))
      | inr i ↦ absurd (true≢false (sym (eq-trans eq laws other x to i.2 t) ∙ other_than))
    ]
  ]
