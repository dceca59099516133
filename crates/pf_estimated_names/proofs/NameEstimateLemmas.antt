-- Estimates over the numbers of names and estimates over the names.
use Rattle.std.proofs.Common.{◌≡◌, inl, inr, ℕ, ◌<◌, ℤ, refl, sym, subst, ◌∙◌, ap, arith, Bool, true, false, List, [], ◌∷◌, ◌++◌, length, map, if◌then◌else◌, slice_get, take, get_or, ◌+◌}
use Rattle.std.specs.Prelude.{◌≤ℤ◌, ◌+ℤ◌, pos, Option, Some, None, MatchOption, cond, reverse, slice_set}
use Rattle.std.specs.Cmp.{IsEquivalence}
use Rattle.std.specs.List.{list_any}
use Rattle.std.specs.Map.{lookup}
use Rattle.std.specs.Option.{option_map_or}
use Rattle.std.proofs.lemmas.List.{reverse-append, take_more}
use Rattle.std.proofs.lemmas.Option.{slice_get_past, slice_get_within}
use Rattle.pf_base.specs.Walks.{HasNode}
use Rattle.pf_base.specs.Places.{number_of}
use Rattle.pf_base.proofs.ListLemmas.{bool_dec, get_set, get_within, none_in}
use Rattle.pf_tables.proofs.Faulty.{some_same}
use Rattle.pf_tables.specs.Graphs.{HasEdgeAt}
use Rattle.pf_adjacency.specs.NumberedEdges.{ends_from}
use Rattle.pf_edge_lists.specs.EdgeLists.{NamesAndEdges, edges_from, names_of, numbered_from, places_of}
use Rattle.pf_edge_lists.proofs.EdgeListLemmas.{ends_alike, has_edges_by_name}
use Rattle.pf_edge_lists.proofs.NamedGraph.{no_edges_from}
use Rattle.pf_edge_lists.proofs.NameWalks.{Stands, one, same_name, test_stands}
use Rattle.pf_edge_lists.proofs.NumberedNames.{all_named, any_of_node, each_end, has_at, names_apart, number_stands}
use Rattle.pf_estimated_graphs.specs.EstimatesInTables.{AreConsistent, FallsAt, IsSoundAt, estimate_at}
use Rattle.pf_name_numbers.specs.Numbered.{is_numbered}
use Rattle.pf_name_numbers.proofs.MappedLists.{at_mapped, got_mapped}
use Rattle.pf_name_numbers.proofs.NamedNumbers.{With, none_listed, not_any, with_cases}
use Rattle.pf_estimated_names.specs.EstimatesByName.{AreConsistentByName, EstimatedNames, FallsAlong, IsSoundFor, estimate_of, last_given}

-- one number more
pub last_more : {N C : Type 0} (eq : N → N → Bool) (value : C → ℤ) (given : List (N × C)) (entry : N × C) (x : N) → last_given eq value (given ++ entry ∷ []) x ≡ (if eq x entry.0 then value entry.1 else last_given eq value given x)
last_more eq value given entry x = ap (λ es. option_map_or value (lookup (eq x) es) (pos 0)) (reverse-append given (entry ∷ [])) ∙ by (eq x entry.0)
  where
    by : (b : Bool) → option_map_or value (cond b (Some entry.1) (lookup (eq x) (reverse given))) (pos 0) ≡ (if b then value entry.1 else last_given eq value given x)
    by true = refl
    by false = refl

-- what was given last once one more entry is read
module _ {N C : Type 0} {eq : N → N → Bool} (laws : IsEquivalence eq) (value : C → ℤ) (list : NamesAndEdges N C) (numbers : List C) (complete : length numbers ≡ length (names_of eq list)) (given : List (N × C)) (i : ℕ) (entry : N × C) (inside : i < length given) (is : entry ≡ get_or given i entry)
    (last : (k : ℕ) (x : N) → slice_get (names_of eq list) k ≡ Some x → estimate_at value numbers k ≡ last_given eq value (take i given) x) where
  read : (x : N) (b : Bool) → eq x entry.0 ≡ b → last_given eq value (take (i + 1) given) x ≡ (if b then value entry.1 else last_given eq value (take i given) x)
  read x b e =
      ap (λ es. last_given eq value es x) (take_more given i entry inside ∙ ap (λ (d : N × C). take i given ++ d ∷ []) (sym is)) ∙ last_more eq value (take i given) entry x
      ∙ ap (λ (b : Bool). if b then value entry.1 else last_given eq value (take i given) x) e

  pub set_last : (node : ℕ) → Stands laws (names_of eq list) node entry.0 → (k : ℕ) (x : N) → slice_get (names_of eq list) k ≡ Some x → estimate_at value (slice_set numbers node entry.1) k ≡ last_given eq value (take (i + 1) given) x
  set_last node stands k x s =
      let room : node < length numbers = subst (λ (n : ℕ). node < n) (sym complete) (slice_get_within (names_of eq list) node stands.0 stands.1) in
      elim (get_set numbers node k entry.1 room) as (λ _. estimate_at value (slice_set numbers node entry.1) k ≡ last_given eq value (take (i + 1) given) x) [
        | inl h ↦
            let here : Stands laws (names_of eq list) node x = (x, subst (λ (n : ℕ). slice_get (names_of eq list) n ≡ Some x) h.0 s, laws.refl x) in
            ap (λ o. option_map_or value o (pos 0)) h.1 ∙ sym (read x true (same_name laws (names_of eq list) node x entry.0 here stands))
        | inr h ↦ ap (λ o. option_map_or value o (pos 0)) h.1 ∙ last k x s ∙ sym (elim (bool_dec (eq x entry.0)) as (λ _. last_given eq value (take (i + 1) given) x ≡ last_given eq value (take i given) x) [
          | inl e ↦ absurd (h.0 (one laws (names_of eq list) (names_apart laws list) k node entry.0 (x, s, e) stands))
          | inr f ↦ read x false f
        ])
      ]

  pub pass_last : ¬ (HasNode eq (names_of eq list) entry.0) → (k : ℕ) (x : N) → slice_get (names_of eq list) k ≡ Some x → estimate_at value numbers k ≡ last_given eq value (take (i + 1) given) x
  pass_last none k x s = last k x s ∙ sym (elim (bool_dec (eq x entry.0)) as (λ _. last_given eq value (take (i + 1) given) x ≡ last_given eq value (take i given) x) [
    | inl e ↦ absurd (none (has_at laws (names_of eq list) k x entry.0 s e))
    | inr f ↦ read x false f
  ])

module _ {N C : Type 0} {eq : N → N → Bool} (laws : IsEquivalence eq) (value : C → ℤ) (names : EstimatedNames N C) where
  abbrev Estimate : N → ℤ
  Estimate = estimate_of eq value names

  abbrev Names : List N
  Names = names_of eq names.list

  -- equal names have one estimate
  pub estimate_alike : (x y : N) → eq x y ≡ true → Estimate x ≡ Estimate y
  estimate_alike x y e =
      let same : eq x ≡ eq y = λ i z. laws.congr x y z e i in
      ap (λ (t : N → Bool). if list_any t Names then option_map_or value (lookup t (reverse names.given)) (pos 0) else pos 0) same

  pub estimate_outside : (x : N) → ¬ (HasNode eq Names x) → Estimate x ≡ pos 0
  estimate_outside x none = ap (λ (b : Bool). if b then last_given eq value names.given x else pos 0) (not_any laws names.list x none)

  pub estimate_inside : (k : ℕ) (x : N) → slice_get Names k ≡ Some x → Estimate x ≡ last_given eq value names.given x
  estimate_inside k x s = ap (λ (b : Bool). if b then last_given eq value names.given x else pos 0) (any_of_node laws Names x (has_at laws Names k x x s (laws.refl x)))

  stands_at : (k : ℕ) (x : N) → slice_get Names k ≡ Some x → Stands laws Names k x
  stands_at k x s = (x, s, laws.refl x)

  -- the edge of a name at a place of its node
  edge_named : (k : ℕ) (x : N) → slice_get Names k ≡ Some x → (place : ℕ) (edge : N × ℤ) → slice_get (edges_from eq value names.list x) place ≡ Some edge
      → (target : ℕ × C) × HasEdgeAt (places_of eq names.list k) place target × Stands laws Names target.0 edge.0 × (value target.1 ≡ edge.1)
  edge_named k x s place edge h =
      let d = got_mapped (λ (e : N × C). (e.0, value e.1)) (ends_from eq names.list.edges x) place edge h in
      let named = each_end eq (λ (e : N × C). list_any (eq e.0) Names ≡ true) names.list.edges x (λ i e u. (all_named laws names.list i e u).1) place d.0 d.1 in
      let target : ℕ × C = (number_of eq Names d.0.0, d.0.1) in
      let there : slice_get (numbered_from eq names.list x) place ≡ Some target = at_mapped (λ (e : N × C). (number_of eq Names e.0, e.1)) (ends_from eq names.list.edges x) place d.0 d.1 in (
        target,
        ap (λ ps. slice_get ps place) (has_edges_by_name laws names.list k x (stands_at k x s)) ∙ at_mapped (λ (e : ℕ × C). Some e) (numbered_from eq names.list x) place target there,
        subst (λ (e : N × ℤ). Stands laws Names (number_of eq Names d.0.0) e.0) d.2 (number_stands laws Names d.0.0 named),
        ap (λ (e : N × ℤ). e.1) d.2,
      )

  -- the name that the edge at a place of a node leads to
  pub edge_numbered : (k : ℕ) (x : N) → slice_get Names k ≡ Some x → (place : ℕ) (target : ℕ × C) → HasEdgeAt (places_of eq names.list k) place target
      → (y : N) × (slice_get (edges_from eq value names.list x) place ≡ Some (y, value target.1)) × Stands laws Names target.0 y
  edge_numbered k x s place target h =
      let there = got_mapped (λ (e : ℕ × C). Some e) (numbered_from eq names.list x) place (Some target) (ap (λ ps. slice_get ps place) (sym (has_edges_by_name laws names.list k x (stands_at k x s))) ∙ h) in
      let d = got_mapped (λ (e : N × C). (number_of eq Names e.0, e.1)) (ends_from eq names.list.edges x) place there.0 there.1 in
      let is : (number_of eq Names d.0.0, d.0.1) ≡ target = d.2 ∙ some_same there.2 in
      let named = each_end eq (λ (e : N × C). list_any (eq e.0) Names ≡ true) names.list.edges x (λ i e u. (all_named laws names.list i e u).1) place d.0 d.1 in (
        d.0.0,
        at_mapped (λ (e : N × C). (e.0, value e.1)) (ends_from eq names.list.edges x) place d.0 d.1 ∙ ap (λ (t : ℕ × C). Some (d.0.0, value t.1)) is,
        subst (λ (t : ℕ × C). Stands laws Names t.0 d.0.0) is (number_stands laws Names d.0.0 named),
      )

  module _ (numbers : List C) (right : (k : ℕ) (x : N) → slice_get Names k ≡ Some x → estimate_at value numbers k ≡ Estimate x) where
    pub estimate_stands : (k : ℕ) (x : N) → Stands laws Names k x → estimate_at value numbers k ≡ Estimate x
    estimate_stands k x s = right k s.0 s.1 ∙ estimate_alike s.0 x s.2

    -- also where one more name is handed in
    pub estimate_with : (from : N) → length numbers ≡ length Names → (k : ℕ) (x : N) → With laws names.list from k x → estimate_at value numbers k ≡ Estimate x
    estimate_with from complete k x s = elim (with_cases laws names.list from k x s) as (λ _. estimate_at value numbers k ≡ Estimate x) [
      | inl i ↦ estimate_stands k x i
      | inr i ↦ ap (λ o. option_map_or value o (pos 0)) (slice_get_past numbers k (omega (arith, complete, i.1))) ∙ sym (estimate_outside from i.0) ∙ estimate_alike from x i.2
    ]

    pub falls_out : (k : ℕ) (x : N) → slice_get Names k ≡ Some x → (place : ℕ) → FallsAt value (places_of eq names.list) numbers k place → FallsAlong eq value names x place
    falls_out k x s place falls edge h =
        let t = edge_named k x s place edge h in
        let below = falls t.0 t.1 in
        subst (λ (z : ℤ). Estimate x ≤ℤ (z +ℤ Estimate edge.0)) t.3
        (subst (λ (z : ℤ). Estimate x ≤ℤ (value t.0.1 +ℤ z)) (estimate_stands t.0.0 edge.0 t.2) (subst (λ (z : ℤ). z ≤ℤ (value t.0.1 +ℤ estimate_at value numbers t.0.0)) (right k x s) below))

    falls_back : (k : ℕ) (x : N) → slice_get Names k ≡ Some x → (place : ℕ) → FallsAlong eq value names x place → FallsAt value (places_of eq names.list) numbers k place
    falls_back k x s place falls edge h =
        let y = edge_numbered k x s place edge h in
        let below = falls (y.0, value edge.1) y.1 in
        subst (λ (z : ℤ). estimate_at value numbers k ≤ℤ (value edge.1 +ℤ z)) (sym (estimate_stands edge.0 y.0 y.2)) (subst (λ (z : ℤ). z ≤ℤ (value edge.1 +ℤ Estimate y.0)) (sym (right k x s)) below)

    module _ (passes : ℕ → Bool) (agrees : (k : ℕ) (x : N) → slice_get Names k ≡ Some x → passes k ≡ eq x names.to) where
      pub sound_out : (k : ℕ) (x : N) → slice_get Names k ≡ Some x → IsSoundAt value passes numbers k → IsSoundFor eq value names x
      sound_out k x s h = record { from_zero = subst (λ (z : ℤ). pos 0 ≤ℤ z) (right k x s) h.from_zero; at_goal = λ e. sym (right k x s) ∙ h.at_goal (agrees k x s ∙ e) }

      sound_back : (k : ℕ) (x : N) → slice_get Names k ≡ Some x → IsSoundFor eq value names x → IsSoundAt value passes numbers k
      sound_back k x s h = record { from_zero = subst (λ (z : ℤ). pos 0 ≤ℤ z) (sym (right k x s)) h.from_zero; at_goal = λ e. right k x s ∙ h.at_goal (sym (agrees k x s) ∙ e) }

      -- what holds of each number holds of each name
      pub all_sound : ((k : ℕ) → k < length Names → IsSoundAt value passes numbers k) → (x : N) → IsSoundFor eq value names x
      all_sound h x = elim (bool_dec (list_any (eq x) Names)) as (λ _. IsSoundFor eq value names x) [
        | inl t ↦
            let m = number_stands laws Names x t in
            let there = sound_out _ m.0 m.1 (h _ (slice_get_within Names _ m.0 m.1)) in
            record { from_zero = subst (λ (z : ℤ). pos 0 ≤ℤ z) (estimate_alike m.0 x m.2) there.from_zero; at_goal = λ e. sym (estimate_alike m.0 x m.2) ∙ there.at_goal (laws.congr m.0 x names.to m.2 ∙ e) }
        | inr f ↦ let is : Estimate x ≡ pos 0 = ap (λ (b : Bool). if b then last_given eq value names.given x else pos 0) f in record { from_zero = subst (λ (z : ℤ). pos 0 ≤ℤ z) (sym is) (search arith); at_goal = λ _. is }
      ]

      pub consistent_out : AreConsistent value (length Names) (places_of eq names.list) passes numbers → AreConsistentByName eq value names
      consistent_out h = record { sound = all_sound h.sound; falls = falls }
        where
          falls : (x : N) (place : ℕ) → FallsAlong eq value names x place
          falls x place = elim (bool_dec (list_any (eq x) Names)) as (λ _. FallsAlong eq value names x place) [
            | inl t ↦ λ edge e.
                let m = number_stands laws Names x t in
                let same = ap (λ es. map (λ (d : N × C). (d.0, value d.1)) es) (ends_alike laws names.list.edges m.0 x m.2) in
                subst (λ (z : ℤ). z ≤ℤ (edge.1 +ℤ Estimate edge.0)) (estimate_alike m.0 x m.2)
                (falls_out _ m.0 m.1 place (h.falls _ place (slice_get_within Names _ m.0 m.1)) edge (ap (λ es. slice_get es place) same ∙ e))
            | inr f ↦ λ edge e. absurd (none_in place edge (ap (λ es. slice_get es place) (sym (no_edges_from laws value names.list x (none_listed laws names.list x f) x (laws.refl x))) ∙ e))
          ]

      pub consistent_back : length numbers ≡ length Names → AreConsistentByName eq value names → AreConsistent value (length Names) (places_of eq names.list) passes numbers
      consistent_back complete h = record {
        complete = complete;
        sound = λ k l. let x = get_within Names k l in sound_back k x.0 x.1 (h.sound x.0);
        falls = λ k place l. let x = get_within Names k l in falls_back k x.0 x.1 place (h.falls x.0 place);
      }

  -- the goal of the tests over numbers
  pub goal_agrees : (goal : Option ℕ) → MatchOption goal (¬ (HasNode eq Names names.to)) (λ node. Stands laws Names node names.to) → (k : ℕ) (x : N) → slice_get Names k ≡ Some x → is_numbered goal k ≡ eq x names.to
  goal_agrees None none k x s = elim (bool_dec (eq x names.to)) as (λ _. false ≡ eq x names.to) [
    | inl e ↦ absurd (none (has_at laws Names k x names.to s e))
    | inr f ↦ sym f
  ]
  goal_agrees (Some node) is k x s = test_stands laws Names (names_apart laws names.list) node names.to is k x (stands_at k x s)
