-- Walks by rising cost over the numbers of a list and over its names.
use Rattle.std.proofs.Common.{◌≡◌, ◌⊎◌, inl, inr, ℕ, ℤ, suc, nat_eq, eq-eqb, refl, sym, subst, ap, ◌∙◌, Bool, true, false, List, [], ◌∷◌, length, map, if◌then◌else◌}
use Rattle.std.specs.Prelude.{Some, None, Ok, Err, Option, Result, MatchOption, pos, slice_get}
use Rattle.std.specs.Borrow.{Bor}
use Rattle.std.specs.Cmp.{IsEquivalence}
use Rattle.std.specs.List.{AllByRecursion, IsDistinct}
use Rattle.std.specs.Option.{option_map}
use Rattle.std.proofs.lemmas.Slice.Zip.{AllZip-long}
use Rattle.pf_base.specs.declared.error.PathError.{PathError}
use Rattle.pf_base.specs.Answers.{ListsEdges, SameNodes}
use Rattle.pf_base.specs.Edges.{InReach, IsCheapestGoalPath, IsSuccessor}
use Rattle.pf_base.proofs.Callers.{ListsEdges-refl}
use Rattle.pf_core.specs.Labels.{Labels, by_cost}
use Rattle.pf_core.specs.Nodes.{IsStep, StandsFor}
use Rattle.pf_core.specs.Search.{IsSearch}
use Rattle.pf_edge_lists.specs.EdgeLists.{NamesAndEdges, edges_from, names_of, places_of}
use Rattle.pf_edge_lists.proofs.EdgeListLemmas.{ends_alike}
use Rattle.pf_edge_lists.proofs.NameWalks.{IsCarried, Stands, carried_edges, cheapest_out, edge_back, edge_out, goal_named, least_out, one, same_name, step_out, test_stands}
use Rattle.pf_name_numbers.specs.Numbered.{names_with}
use Rattle.pf_name_numbers.proofs.NameReach.{SameStarts, Zip, one_start, reach_back, reach_named, reach_numbered, reach_out, stands_same}
use Rattle.pf_name_numbers.proofs.NamedNumbers.{With, edges_with, name_at, named_at, with_apart}
use Rattle.pf_name_walks.specs.NameWalks.{CheapestStepByName, IsBarredByName, IsCheapestWalkByName, NameWalk, cheapest_by_name, item_by_name, item_result_by_name, named_item_result}
use Rattle.pf_name_walks.proofs.FoundNames.{equal_numbers, same_refl, zip_get, zip_got}
use Rattle.pf_search.specs.CheapestFirst.{AllGiven, CheapestStep, CheapestWalk, GivesMore, GivesNoMore, IsBarred, IsBehind, IsCheapestWalk, IsGiven, IsLeft, IsNew, IsNextByCost, NextOverflows, NoNewNodeBelow, RefusedFor, StepKeepsBar, given_nodes}
use Rattle.pf_search.specs.Internal.CheapestSearch.{given_of}
use Rattle.pf_search.proofs.GivenLemmas.{IsSettled, given_of_settled, settled_of_given}
use Rattle.pf_search.specs.declared.directed.dijkstra_reach.DijkstraReachableItem.{DijkstraReachableItem}
use Rattle.pf_table_functions.specs.TableFunctions.{TableListsEdges}
use Rattle.pf_table_searches.specs.TableWalks.{CheapestStepInTable, IsBarredInTable, IsCheapestWalkInTable, TableWalk}
use Rattle.pf_tables.specs.Graphs.{graph_of}
use borrow.Author.Tests.{eqb-true}

module _ {N C : Type 0} {eq : N → N → Bool} (laws : IsEquivalence eq) (value : C → ℤ) (list : NamesAndEdges N C) (from : N) (start : ℕ) (begins : With laws list from start from) where
  abbrev pub EdgesM : ℕ → List (ℕ × ℤ)
  EdgesM = graph_of value (length (names_of eq list)) (places_of eq list)

  abbrev pub EdgesN : N → List (N × ℤ)
  EdgesN = edges_from eq value list

  abbrev W : List N
  W = names_with eq list from

  abbrev Z : List ℕ → List N → Type 0
  Z = Zip laws W (with_apart laws list from)

  abbrev pub Named : List ℕ → List N
  Named ks = map (name_at eq list from) ks

  carried : IsCarried laws W (IsSuccessor nat_eq EdgesM) (IsSuccessor eq EdgesN)
  carried = carried_edges laws W (with_apart laws list from) EdgesM EdgesN (edges_with laws list from value)

  begin : SameStarts laws W (with_apart laws list from) (start ∷ []) (from ∷ [])
  begin = one_start laws W (with_apart laws list from) start from begins

  -- ---- reach and steps

  reached : (k : ℕ) → InReach nat_eq EdgesM (start ∷ []) k → (x : N) × With laws list from k x
  reached = reach_named laws W (with_apart laws list from) _ _ carried (start ∷ []) (from ∷ []) begin

  numbered : (x : N) → InReach eq EdgesN (from ∷ []) x → (k : ℕ) × With laws list from k x
  numbered = reach_numbered laws W (with_apart laws list from) _ _ carried (start ∷ []) (from ∷ []) begin

  in_reach : (k : ℕ) (x : N) → With laws list from k x → InReach nat_eq EdgesM (start ∷ []) k → InReach eq EdgesN (from ∷ []) x
  in_reach k x s = reach_out laws W (with_apart laws list from) _ _ carried (start ∷ []) (from ∷ []) begin k x s

  back_reach : (k : ℕ) (x : N) → With laws list from k x → InReach eq EdgesN (from ∷ []) x → InReach nat_eq EdgesM (start ∷ []) k
  back_reach k x s = reach_back laws W (with_apart laws list from) _ _ carried (start ∷ []) (from ∷ []) begin k x s

  abbrev StepM : ℕ → ℤ → ℕ → Type 0
  StepM = IsStep nat_eq (record { starts = start ∷ []; edges = EdgesM })

  abbrev StepN : N → ℤ → N → Type 0
  StepN = IsStep eq (record { starts = from ∷ []; edges = EdgesN })

  pub goes_out : (a b : ℕ) (x y : N) (z : ℤ) → With laws list from a x → With laws list from b y → StepM a z b → StepN x z y
  goes_out a b x y z s t h = (in_reach a x s h.0, edge_out laws W (with_apart laws list from) _ _ b y z (edges_with laws list from value a x s) t h.1)

  pub goes_back : (a b : ℕ) (x y : N) (z : ℤ) → With laws list from a x → With laws list from b y → StepN x z y → StepM a z b
  goes_back a b x y z s t h = (back_reach a x s h.0, edge_back laws W (with_apart laws list from) _ _ b y z (edges_with laws list from value a x s) t h.1)

  -- the name of what a step leads to, and its number
  end_named : (a b : ℕ) (x : N) (z : ℤ) → With laws list from a x → StepM a z b → (y : N) × With laws list from b y
  end_named a b x z s h = carried.named a b x s (z, h.1)

  end_numbered : (a : ℕ) (x y : N) (z : ℤ) → With laws list from a x → StepN x z y → (b : ℕ) × With laws list from b y
  end_numbered a x y z s h = carried.numbered a x y s (z, h.1)

  -- ---- found numbers and found names

  all_at : (ks : List ℕ) → ((n k : ℕ) → slice_get ks n ≡ Some k → (x : N) × With laws list from k x) → Z ks (Named ks)
  all_at [] h = tt
  all_at (k ∷ ks) h = let x = h 0 k refl in (named_at laws list from k x.0 x.1, all_at ks (λ n j e. h (suc n) j e))

  module _ (ks : List ℕ) (z : Z ks (Named ks)) where
    pub place_out : (n a : ℕ) (x : N) → With laws list from a x → StandsFor nat_eq ks n a → StandsFor eq (Named ks) n x
    place_out n a x s h =
        let y = zip_get laws W (with_apart laws list from) ks (Named ks) n h.0 z h.1 in
        (y.0, y.1, same_name laws W a y.0 x (subst (λ (i : ℕ). With laws list from i y.0) (eqb-true h.0 a h.2) y.2) s)

    pub place_back : (n : ℕ) (x : N) → StandsFor eq (Named ks) n x → (a : ℕ) × StandsFor nat_eq ks n a × With laws list from a x
    place_back n x h =
        let a = zip_got laws W (with_apart laws list from) ks (Named ks) n h.0 z h.1 in
        (a.0, (a.0, a.1, eq-eqb a.0 a.0 refl), stands_same laws W (with_apart laws list from) a.0 h.0 x a.2 h.2)

    pub place_named : (n a : ℕ) → StandsFor nat_eq ks n a → With laws list from a (name_at eq list from a)
    place_named n a h =
        let y = zip_get laws W (with_apart laws list from) ks (Named ks) n h.0 z h.1 in
        named_at laws list from a y.0 (subst (λ (i : ℕ). With laws list from i y.0) (eqb-true h.0 a h.2) y.2)

    -- the number of a name at the same place
    place_is : (n a : ℕ) (x : N) → With laws list from a x → StandsFor eq (Named ks) n x → StandsFor nat_eq ks n a
    place_is n a x s h =
        let b = place_back n x h in
        subst (StandsFor nat_eq ks n) (one laws W (with_apart laws list from) b.0 a x b.2 s) b.1

    module _ (labels : Labels C) where
      search_out : IsSearch (by_cost value) StepM (λ k. nat_eq k 0) (StandsFor nat_eq ks) labels → IsSearch (by_cost value) StepN (λ k. nat_eq k 0) (StandsFor eq (Named ks)) labels
      search_out h = record {
        start = h.start;
        rooted = λ k l at d.
            let r = h.rooted k l at d in
            let s = place_named k r.1.0 r.1.1 in
            (r.0, (name_at eq list from r.1.0, place_out k r.1.0 (name_at eq list from r.1.0) s r.1.1), r.2);
        linked = λ k l m at d up x st.
            let a = place_back l.parent x st in
            let r = h.linked k l m at d up a.0 a.1 in
            let y = end_named a.0 r.0 x r.1 a.2 r.2 in
            (y.0, r.1, goes_out a.0 r.0 x y.0 r.1 a.2 y.1 r.2, place_out k r.0 y.0 y.1 r.3, r.4);
        cut = record {
          along = λ k d x settled st z y step.
              let a = place_back k x st in
              let b = end_numbered a.0 x y z a.2 step in
              let r = h.cut.along k d a.0 settled a.1 z b.0 (goes_back a.0 b.0 x y z a.2 b.1 step) in
              (r.0, r.1, r.2, place_out r.0 b.0 y b.1 r.3, r.4);
        };
        low = h.low;
      }

  apart_from : (k : ℕ) (ks : List ℕ) → With laws list from k (name_at eq list from k) → Z ks (Named ks) → AllByRecursion (λ (j : ℕ). nat_eq k j ≡ false) ks → AllByRecursion (λ y. eq (name_at eq list from k) y ≡ false) (Named ks)
  apart_from k [] s z a = a
  apart_from k (j ∷ ks) s z a = (sym (test_stands laws W (with_apart laws list from) j (name_at eq list from j) z.0 k (name_at eq list from k) s) ∙ a.0, apart_from k ks s z.1 a.1)

  distinct_out : (ks : List ℕ) → Z ks (Named ks) → IsDistinct nat_eq ks → IsDistinct eq (Named ks)
  unfolding IsDistinct
  distinct_out [] z h = h
  distinct_out (k ∷ ks) z h = (apart_from k ks z.0 z.1 h.0, distinct_out ks z.1 h.1)

  given_names : (ks : List ℕ) (labels : Labels C) → map (λ (g : ℕ × C). (name_at eq list from g.0, g.1)) (given_of ks labels) ≡ given_of (Named ks) labels
  given_names [] labels = refl
  given_names (k ∷ ks) [] = refl
  given_names (k ∷ ks) (None ∷ labels) = given_names ks labels
  given_names (k ∷ ks) (Some l ∷ labels) = by l.settled (given_names ks labels)
    where
      by : (b : Bool) → map (λ (g : ℕ × C). (name_at eq list from g.0, g.1)) (given_of ks labels) ≡ given_of (Named ks) labels
          → map (λ (g : ℕ × C). (name_at eq list from g.0, g.1)) (if b then (k, l.cost) ∷ given_of ks labels else given_of ks labels) ≡ (if b then (name_at eq list from k, l.cost) ∷ given_of (Named ks) labels else given_of (Named ks) labels)
      by true rest = ap (λ gs. (name_at eq list from k, l.cost) ∷ gs) rest
      by false rest = rest

  abbrev pub WalkM : Type 0
  WalkM = CheapestWalk ℕ C (NamesAndEdges N C)

  abbrev pub IsWalk : WalkM → Type 0
  IsWalk w = IsCheapestWalk nat_eq value EdgesM start (TableListsEdges value (λ l. length (names_of eq l)) (places_of eq)) w

  abbrev pub ByName : WalkM → CheapestWalk N C (NamesAndEdges N C)
  ByName w = (cheapest_by_name eq list from w).walk

  -- ---- the walk in names is one of the graph of the list

  module _ (w : WalkM) (h : IsWalk w) where
    pub nodes_zip : Z w.search.nodes (Named w.search.nodes)
    nodes_zip = all_at w.search.nodes (λ n k e. reached k (h.explored.reached n k e))

    pub told : (ByName w).given ≡ given_of (ByName w).search.nodes (ByName w).search.labels
    told = ap (map (λ (g : ℕ × C). (name_at eq list from g.0, g.1))) h.given ∙ given_names w.search.nodes w.search.labels

    pub walk_by_name : IsCheapestWalkByName eq value (cheapest_by_name eq list from w)
    walk_by_name = record {
      explored = record {
        alike = λ x y r e. subst (λ es. ListsEdges eq (λ z. z) (EdgesN x) (map (λ (f : N × C). (f.0, value f.1)) es)) (ends_alike laws list.edges x y e) (ListsEdges-refl eq laws.refl (EdgesN x));
        answered = refl;
        distinct = distinct_out w.search.nodes nodes_zip h.explored.distinct;
        reached = λ n x e.
            let k = zip_got laws W (with_apart laws list from) w.search.nodes (Named w.search.nodes) n x nodes_zip e in
            in_reach k.0 x k.2 (h.explored.reached n k.0 k.1);
      };
      costs = record {
        from_zero = λ x y z r e.
            let a = numbered x r in
            let b = carried.numbered a.0 x y a.1 (z, e) in
            h.costs.from_zero a.0 b.0 z (back_reach a.0 x a.1 r) (edge_back laws W (with_apart laws list from) _ _ b.0 y z (edges_with laws list from value a.0 x a.1) b.1 e);
      };
      begins = λ x. (first_out x, first_back x);
      wide = h.wide ∙ sym (AllZip-long (Stands laws W) w.search.nodes (Named w.search.nodes) nodes_zip);
      search = search_out w.search.nodes nodes_zip w.search.labels h.search;
      given = told;
    }
      where
        first_out : (x : N) → StandsFor eq (Named w.search.nodes) 0 x → eq from x ≡ true
        first_out x st =
            let a = place_back w.search.nodes nodes_zip 0 x st in
            let is = eqb-true start a.0 ((h.begins a.0).0 a.1) in
            same_name laws W a.0 from x (subst (λ (i : ℕ). With laws list from i from) is begins) a.2

        first_back : (x : N) → eq from x ≡ true → StandsFor eq (Named w.search.nodes) 0 x
        first_back x e = place_out w.search.nodes nodes_zip 0 start x (stands_same laws W (with_apart laws list from) start from x begins e) ((h.begins start).1 (eq-eqb start start refl))

    -- ---- what was given

    settled_out : (a : ℕ) (x : N) (cost : C) → With laws list from a x → IsSettled nat_eq w.search a cost → IsSettled eq (ByName w).search x cost
    settled_out a x cost s h = (h.0, h.1, place_out w.search.nodes nodes_zip h.0 a x s h.2, h.3, h.4, h.5)

    settled_back : (a : ℕ) (x : N) (cost : C) → With laws list from a x → IsSettled eq (ByName w).search x cost → IsSettled nat_eq w.search a cost
    settled_back a x cost s h = (h.0, h.1, place_is w.search.nodes nodes_zip h.0 a x s h.2, h.3, h.4, h.5)

    pub given_out : (a : ℕ) (x : N) (cost : C) → With laws list from a x → IsGiven nat_eq w a cost → IsGiven eq (ByName w) x cost
    given_out a x cost s g = given_of_settled eq (ByName w) told x cost (settled_out a x cost s (settled_of_given nat_eq w h.given a cost g))

    pub given_back : (a : ℕ) (x : N) (cost : C) → With laws list from a x → IsGiven eq (ByName w) x cost → IsGiven nat_eq w a cost
    given_back a x cost s g = given_of_settled nat_eq w h.given a cost (settled_back a x cost s (settled_of_given eq (ByName w) told x cost g))

    -- the number of a name that was given, and the name of a number
    pub given_numbered : (x : N) (cost : C) → IsGiven eq (ByName w) x cost → (a : ℕ) × With laws list from a x
    given_numbered x cost g =
        let s = settled_of_given eq (ByName w) told x cost g in
        let a = place_back w.search.nodes nodes_zip s.0 x s.2 in
        (a.0, a.2)

    pub given_named : (a : ℕ) (cost : C) → IsGiven nat_eq w a cost → With laws list from a (name_at eq list from a)
    given_named a cost g =
        let s = settled_of_given nat_eq w h.given a cost g in
        place_named w.search.nodes nodes_zip s.0 a s.2

    pub new_out : (a : ℕ) (x : N) → With laws list from a x → IsNew nat_eq w a → IsNew eq (ByName w) x
    new_out a x s n cost g = n cost (given_back a x cost s g)

    pub new_back : (a : ℕ) (x : N) → With laws list from a x → IsNew eq (ByName w) x → IsNew nat_eq w a
    new_back a x s n cost g = n cost (given_out a x cost s g)

    pub below_out : (t : ℤ) → NoNewNodeBelow nat_eq value EdgesM start w t → NoNewNodeBelow eq value EdgesN from (ByName w) t
    below_out t b x n v u g c =
        let k = numbered x (record { walk = v; goes = g }) in
        least_out laws W (with_apart laws list from) EdgesM EdgesN (edges_with laws list from value) start from begins (λ y. nat_eq y k.0) (λ y. eq y x) (test_stands laws W (with_apart laws list from) k.0 x k.1) t (b k.0 (new_back k.0 x k.1 n)) v u g c

    pub all_out : AllGiven nat_eq value EdgesM start w → AllGiven eq value EdgesN from (ByName w)
    all_out all x r =
        let k = numbered x r in
        let g = all k.0 (back_reach k.0 x k.1 r) in
        (g.0, given_out k.0 x g.0 k.1 g.1)

    pub left_out : IsLeft nat_eq value EdgesM start w → IsLeft eq value EdgesN from (ByName w)
    left_out l =
        let x = reached l.0 l.1 in
        (x.0, in_reach l.0 x.0 x.1 l.1, new_out l.0 x.0 x.1 l.2)

    -- ---- the next name, and what does not fit

    cheapest_named : (a : ℕ) (x : N) → With laws list from a x → (path : List ℕ) (t : ℤ) → IsCheapestGoalPath nat_eq EdgesM (start ∷ []) (λ y. nat_eq y a) path t → (v : List N) × IsCheapestGoalPath eq EdgesN (from ∷ []) (λ y. eq y x) v t
    cheapest_named a x s path t b =
        let v = goal_named laws W (with_apart laws list from) _ _ carried start from begins (λ y. nat_eq y a) path b.goes.goes in
        (v.0, cheapest_out laws W (with_apart laws list from) EdgesM EdgesN (edges_with laws list from value) start from begins (λ y. nat_eq y a) (λ y. eq y x) (test_stands laws W (with_apart laws list from) a x s) path v.0 t v.1 b)

    -- the last number of a cheapest path is in reach
    ends_at : (a : ℕ) (path : List ℕ) (t : ℤ) → IsCheapestGoalPath nat_eq EdgesM (start ∷ []) (λ y. nat_eq y a) path t → (x : N) × With laws list from a x
    ends_at a path t b = reached a (record { walk = path; goes = b.goes.goes })

    pub behind_out : (p a : ℕ) (x : N) (t : ℤ) → With laws list from a x → IsBehind nat_eq value EdgesM start w p a t → IsBehind eq value EdgesN from (ByName w) (name_at eq list from p) x t
    behind_out p a x t s b =
        let up = given_named p b.cost b.given in
        record {
          cost = b.cost;
          given = given_out p (name_at eq list from p) b.cost up b.given;
          price = b.price;
          step = step_out laws W (with_apart laws list from) EdgesM EdgesN (edges_with laws list from value) p a (name_at eq list from p) x b.price up s b.step;
          sum = b.sum;
        }

    -- an item with the names of its numbers
    abbrev pub ItemByName : DijkstraReachableItem ℕ C → DijkstraReachableItem N C
    ItemByName item = item_by_name eq list from item

    pub item_named : (item : DijkstraReachableItem ℕ C) → IsNextByCost nat_eq value EdgesM start w item → With laws list from item.node (name_at eq list from item.node)
    item_named item n = let x = ends_at item.node n.path (value item.total_cost) n.cheapest in named_at laws list from item.node x.0 x.1

    pub next_out : (item : DijkstraReachableItem ℕ C) → IsNextByCost nat_eq value EdgesM start w item → IsNextByCost eq value EdgesN from (ByName w) (ItemByName item)
    next_out item n =
        let s = item_named item n in
        let v = cheapest_named item.node (name_at eq list from item.node) s n.path (value item.total_cost) n.cheapest in
        record {
          new = new_out item.node (name_at eq list from item.node) s n.new;
          path = v.0;
          cheapest = v.1;
          rising = λ x cost g. let a = given_numbered x cost g in n.rising a.0 cost (given_back a.0 x cost a.1 g);
          none_cheaper = below_out (value item.total_cost) n.none_cheaper;
          behind = by item.parent n.behind s;
        }
      where
        by : (parent : Option ℕ) → MatchOption parent ((nat_eq start item.node ≡ true) × (value item.total_cost ≡ pos 0)) (λ p. IsBehind nat_eq value EdgesM start w p item.node (value item.total_cost)) → With laws list from item.node (name_at eq list from item.node)
            → MatchOption (option_map (name_at eq list from) parent) ((eq from (name_at eq list from item.node) ≡ true) × (value item.total_cost ≡ pos 0)) (λ p. IsBehind eq value EdgesN from (ByName w) p (name_at eq list from item.node) (value item.total_cost))
        by None b s = (same_name laws W item.node from (name_at eq list from item.node) (subst (λ (i : ℕ). With laws list from i from) (eqb-true start item.node b.0) begins) s, b.1)
        by (Some p) b s = behind_out p item.node (name_at eq list from item.node) (value item.total_cost) s b

    pub past_by_name : (fits : ℤ → Type 0) → NextOverflows nat_eq value EdgesM start fits w → NextOverflows eq value EdgesN from fits (ByName w)
    past_by_name fits o =
        let x = ends_at o.node o.path o.cost o.cheapest in
        let v = cheapest_named o.node x.0 x.1 o.path o.cost o.cheapest in
        let y = carried.named o.node o.next x.0 x.1 (o.price, o.step.edge) in
        record {
          node = x.0;
          new = new_out o.node x.0 x.1 o.new;
          path = v.0;
          cost = o.cost;
          cheapest = v.1;
          none_cheaper = below_out o.cost o.none_cheaper;
          next = y.0;
          price = o.price;
          step = step_out laws W (with_apart laws list from) EdgesM EdgesN (edges_with laws list from value) o.node o.next x.0 y.0 o.price x.1 y.1 o.step;
          past = o.past;
        }

    -- a barred step of the numbers is one of the names, and back
    pub barred_out : (fits : ℤ → Type 0) → IsBarred nat_eq value EdgesM start fits w → IsBarred eq value EdgesN from fits (ByName w)
    barred_out fits b =
        let s = place_named w.search.nodes nodes_zip b.number b.node b.here in
        let x = name_at eq list from b.node in
        let y = end_named b.node b.step.next x b.step.price s b.step.edge in
        record {
          number = b.number;
          label = b.label;
          least = b.least;
          next = b.next;
          node = x;
          here = place_out w.search.nodes nodes_zip b.number b.node x s b.here;
          step = record {
            next = y.0;
            price = b.step.price;
            edge = goes_out b.node b.step.next x y.0 b.step.price s y.1 b.step.edge;
            new = λ j st. b.step.new j (place_is w.search.nodes nodes_zip j b.step.next y.0 y.1 st);
            all_past = λ z e. b.step.all_past z (goes_back b.node b.step.next x y.0 z s y.1 e);
          };
        }

    pub barred_back : (fits : ℤ → Type 0) → IsBarred eq value EdgesN from fits (ByName w) → IsBarred nat_eq value EdgesM start fits w
    barred_back fits b =
        let a = place_back w.search.nodes nodes_zip b.number b.node b.here in
        let k = end_numbered a.0 b.node b.step.next b.step.price a.2 b.step.edge in
        record {
          number = b.number;
          label = b.label;
          least = b.least;
          next = b.next;
          node = a.0;
          here = a.1;
          step = record {
            next = k.0;
            price = b.step.price;
            edge = goes_back a.0 k.0 b.node b.step.next b.step.price a.2 k.1 b.step.edge;
            new = λ j st. b.step.new j (place_out w.search.nodes nodes_zip j k.0 b.step.next k.1 st);
            all_past = λ z e. b.step.all_past z (goes_out a.0 k.0 b.node b.step.next z a.2 k.1 e);
          };
        }

  -- ---- what a call of `next` gives

  pair_names : (gs : List (ℕ × C)) → map (λ (g : N × C). g.0) (map (λ (g : ℕ × C). (name_at eq list from g.0, g.1)) gs) ≡ Named (map (λ (g : ℕ × C). g.0) gs)
  pair_names [] = refl
  pair_names (g ∷ gs) = ap (λ xs. name_at eq list from g.0 ∷ xs) (pair_names gs)

  named_same : (ks js : List ℕ) → SameNodes nat_eq ks js → SameNodes eq (Named ks) (Named js)
  named_same ks js s = subst (λ is. SameNodes eq (Named ks) (Named is)) (equal_numbers laws W (with_apart laws list from) ks js s) (same_refl laws W (with_apart laws list from) (Named ks))

  module _ (fits : ℤ → Type 0) (w t : WalkM) (h : IsWalk w) (i : IsWalk t) where
    no_more_out : GivesNoMore nat_eq w t → GivesNoMore eq (ByName w) (ByName t)
    no_more_out s x cost = (
      λ g. let a = given_numbered t i x cost g in given_out w h a.0 x cost a.1 ((s a.0 cost).0 (given_back t i a.0 x cost a.1 g)),
      λ g. let a = given_numbered w h x cost g in given_out t i a.0 x cost a.1 ((s a.0 cost).1 (given_back w h a.0 x cost a.1 g)),
    )

    more_out : (item : DijkstraReachableItem ℕ C) → With laws list from item.node (name_at eq list from item.node) → GivesMore nat_eq w item t → GivesMore eq (ByName w) (item_by_name eq list from item) (ByName t)
    more_out item here s x cost = (to, back)
      where
        to : IsGiven eq (ByName t) x cost → IsGiven eq (ByName w) x cost ⊎ ((eq (name_at eq list from item.node) x ≡ true) × (item.total_cost ≡ cost))
        to g =
            let a = given_numbered t i x cost g in
            elim ((s a.0 cost).0 (given_back t i a.0 x cost a.1 g)) as (λ _. IsGiven eq (ByName w) x cost ⊎ ((eq (name_at eq list from item.node) x ≡ true) × (item.total_cost ≡ cost))) [
              | inl j ↦ inl (given_out w h a.0 x cost a.1 j)
              | inr j ↦ inr (same_name laws W a.0 (name_at eq list from item.node) x (subst (λ (k : ℕ). With laws list from k (name_at eq list from item.node)) (eqb-true item.node a.0 j.0) here) a.1, j.1)
            ]

        back : IsGiven eq (ByName w) x cost ⊎ ((eq (name_at eq list from item.node) x ≡ true) × (item.total_cost ≡ cost)) → IsGiven eq (ByName t) x cost
        back (inl g) = let a = given_numbered w h x cost g in given_out t i a.0 x cost a.1 ((s a.0 cost).1 (inl (given_back w h a.0 x cost a.1 g)))
        back (inr g) = given_out t i item.node x cost (stands_same laws W (with_apart laws list from) item.node (name_at eq list from item.node) x here g.0) ((s item.node cost).1 (inr (eq-eqb item.node item.node refl, g.1)))

    abbrev Step : Option (Result (DijkstraReachableItem N C) PathError) → Type 0
    Step q = CheapestStep eq value EdgesN from fits (ByName w) q (ByName t)

    pub step_by_name : (r : Option (Result (DijkstraReachableItem ℕ C) PathError)) (q : Option (Result (DijkstraReachableItem N C) PathError)) → q ≡ item_result_by_name eq list from r → CheapestStep nat_eq value EdgesM start fits w r t → Step q
    step_by_name None q e s = subst Step (sym e) (
      elim s.0 as (λ _. (w.refused ≡ true) ⊎ AllGiven eq value EdgesN from (ByName w)) [ inl r ↦ inl r | inr a ↦ inr (all_out w h a) ],
      ap ByName s.1,
    )
    step_by_name (Some (Ok item)) q e s = subst Step (sym e) (s.0, s.1, next_out w h item s.2, more_out item (item_named w h item s.2) s.3)
    step_by_name (Some (Err refusal)) q e s = subst Step (sym e) (
      s.0,
      s.1,
      elim s.2 as (λ _. RefusedFor eq value EdgesN from fits (ByName w) refusal) [ inl m ↦ inl m | inr o ↦ inr (o.0, past_by_name w h fits o.1) ],
      left_out w h s.3,
      no_more_out s.4,
      subst (λ xs. SameNodes eq xs (given_nodes (ByName w))) (sym (pair_names t.given)) (subst (SameNodes eq (Named (given_nodes t))) (sym (pair_names w.given)) (named_same (given_nodes t) (given_nodes w) s.5)),
      (s.6.0, named_same t.search.nodes w.search.nodes s.6.1),
    )

    abbrev Bar : Option (Result (DijkstraReachableItem N C) PathError) → Type 0
    Bar q = StepKeepsBar eq value EdgesN from fits (ByName w) q (ByName t)

    pub bar_by_name : (r : Option (Result (DijkstraReachableItem ℕ C) PathError)) (q : Option (Result (DijkstraReachableItem N C) PathError)) → q ≡ item_result_by_name eq list from r → StepKeepsBar nat_eq value EdgesM start fits w r t → Bar q
    bar_by_name None q e s = subst Bar (sym e) (λ b. s (barred_back w h fits b))
    bar_by_name (Some (Ok item)) q e s = subst Bar (sym e) (λ b. s (barred_back w h fits b))
    bar_by_name (Some (Err refusal)) q e s = subst Bar (sym e) (λ b.
        barred_out t i fits (s (elim b as (λ _. (refusal ≡ PathError.CostOverflow) ⊎ IsBarred nat_eq value EdgesM start fits w) [ inl o ↦ inl o | inr p ↦ inr (barred_back w h fits p) ])))

-- ---- walks over the table that a list is

module _ {N C : Type 0} {eq : N → N → Bool} (laws : IsEquivalence eq) (value : C → ℤ) (list : NamesAndEdges N C) (from : N) where
  abbrev pub Numbers : Type 0
  Numbers = TableWalk (NamesAndEdges N C) (CheapestWalk ℕ C (NamesAndEdges N C))

  abbrev size : NamesAndEdges N C → ℕ
  size l = length (names_of eq l)

  abbrev graph : NamesAndEdges N C → ℕ → List (ℕ × ℤ)
  graph l = graph_of value (size l) (places_of eq l)

  -- the walk goes over this list from a number of this name
  abbrev pub IsOver : Numbers → Type 0
  IsOver s = (s.table ≡ list) × With laws list from s.start from × IsCheapestWalkInTable value size (places_of eq) s

  abbrev Seen : Numbers → NameWalk N C (CheapestWalk N C (NamesAndEdges N C))
  Seen s = cheapest_by_name eq list from s.walk

  at_list : (s : Numbers) → IsOver s → IsCheapestWalk nat_eq value (graph list) s.start (TableListsEdges value size (places_of eq)) s.walk
  at_list s o = subst (λ l. IsCheapestWalk nat_eq value (graph l) s.start (TableListsEdges value size (places_of eq)) s.walk) o.0 o.2

  pub over_by_name : (s : Numbers) → IsOver s → IsCheapestWalkByName eq value (Seen s)
  over_by_name s o = walk_by_name laws value list from s.start o.1 s.walk (at_list s o)

  pub still_over : (s t : Numbers) → IsOver s → t.table ≡ s.table → t.start ≡ s.start → IsCheapestWalkInTable value size (places_of eq) t → IsOver t
  still_over s t o e f h = (e ∙ o.0, subst (λ (k : ℕ). With laws list from k from) (sym f) o.1, h)

  pub step_over : (fits : ℤ → Type 0) (s t : Numbers) → IsOver s → (r : Option (Result (DijkstraReachableItem ℕ C) PathError)) (result : Option (Result (DijkstraReachableItem (Bor N) C) PathError)) → named_item_result result ≡ item_result_by_name eq list from r
      → CheapestStepInTable value size (places_of eq) fits s r t → CheapestStepByName eq value fits (Seen s) result (Seen t)
  step_over fits s t o r result e h =
      let u = still_over s t o h.0 h.1 h.2 in
      let after = subst (λ (k : ℕ). IsCheapestWalk nat_eq value (graph list) k (TableListsEdges value size (places_of eq)) t.walk) h.1 (at_list t u) in
      let step = subst (λ l. CheapestStep nat_eq value (graph l) s.start fits s.walk r t.walk) o.0 h.3 in
      let bar = subst (λ l. StepKeepsBar nat_eq value (graph l) s.start fits s.walk r t.walk) o.0 h.4 in (
        refl,
        refl,
        over_by_name t u,
        step_by_name laws value list from s.start o.1 fits s.walk t.walk (at_list s o) after r (named_item_result result) e step,
        bar_by_name laws value list from s.start o.1 fits s.walk t.walk (at_list s o) after r (named_item_result result) e bar,
      )

  -- a walk that stands before a step that does not fit stands so over numbers, and back
  pub bar_over : (fits : ℤ → Type 0) (s t : Numbers) → IsOver s → IsOver t → (IsBarredInTable value size (places_of eq) fits s → IsBarredInTable value size (places_of eq) fits t) → IsBarredByName eq value fits (Seen s) → IsBarredByName eq value fits (Seen t)
  bar_over fits s t o u h b =
      let numbers = barred_back laws value list from s.start o.1 s.walk (at_list s o) fits b in
      let on = h (subst (λ l. IsBarred nat_eq value (graph l) s.start fits s.walk) (sym o.0) numbers) in
      barred_out laws value list from t.start u.1 t.walk (at_list t u) fits (subst (λ l. IsBarred nat_eq value (graph l) t.start fits t.walk) u.0 on)
