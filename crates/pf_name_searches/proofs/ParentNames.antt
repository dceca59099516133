-- Maps of parents over numbers and over the names that they stand for.
use Rattle.std.proofs.Common.{◌≡◌, inl, inr, ℕ, ℤ, nat_eq, eq-eqb, refl, sym, subst, ap, ◌∙◌, Bool, true, false, cond, ◌||◌, List, [], ◌∷◌, map, if◌then◌else◌, ◌++◌}
use Rattle.std.specs.Prelude.{Option, Some, None, MatchOption}
use Rattle.std.specs.Cmp.{IsEquivalence}
use Rattle.std.specs.List.{cons_option, filter_map, list_any, AllZip}
use Rattle.std.specs.Option.{option_map}
use Rattle.std.proofs.lemmas.List.{map-append}
use Rattle.pf_base.specs.Walks.{HasNode, NoRepeats, Follows, BeginsAt, end_of}
use Rattle.pf_base.specs.Edges.{InReach, IsSuccessor}
use Rattle.pf_base.proofs.ListLemmas.{bool_dec}
use Rattle.pf_edge_lists.proofs.NameWalks.{IsCarried, Stands, SameEdges, carried_edges, cheapest_out, end_stands, follows_back, goal_named, one, repeats_out, same_name, step_out, test_stands, goal_back, goal_out, costs_back, costs_out, node_out, step_back}
use Rattle.pf_name_numbers.proofs.NameReach.{SameStarts, one_start, reach_back, reach_named, reach_numbered, reach_out, repeats_back, stands_same, node_numbered}
use Rattle.pf_name_searches.specs.NameParents.{entry_of}
use Rattle.pf_search.specs.Parents.{HasEntry, IsParent, IsLeastCost, IsStepFrom, CostsNoMore, CostsNoMoreThanStop, MeetsNoneTwice, IsChainOfParents, IsCheapestMap, IsPartialMap, RisesInCost, asked_nodes}
use borrow.Author.Tests.{eqb-true}

module _ {N C : Type 0} {eq : N → N → Bool} (laws : IsEquivalence eq) (names : List N) (distinct : NoRepeats eq names) (name : ℕ → N) (named : (k : ℕ) (x : N) → Stands laws names k x → Stands laws names k (name k)) (entry : ℕ → Option (ℕ × C)) where
  -- the parent by name
  abbrev pub by_name : ℕ × C → N × C
  by_name e = (name e.0, e.1)

  -- an entry by name
  abbrev pub listed : ℕ → Option (N × (N × C))
  listed k = option_map (λ (e : ℕ × C). (name k, (name e.0, e.1))) (entry k)

  -- what stands beside the name of a number is what the number has
  pub look_up : (ks : List ℕ) → ((k : ℕ) → HasNode nat_eq ks k → (x : N) × Stands laws names k x) → (k : ℕ) (x : N) → Stands laws names k x → entry_of eq (filter_map listed ks) x ≡ (if list_any (nat_eq k) ks then option_map by_name (entry k) else None)
  look_up [] all k x s = refl
  look_up (j ∷ ks) all k x s =
      let z = all j (inl (eq-eqb j j refl)) in
      let rest = look_up ks (λ i h. all i (inr h)) k x s in
      let test : nat_eq k j ≡ eq x (name j) = test_stands laws names distinct j (name j) (named j z.0 z.1) k x s in
      by (entry j) refl (nat_eq k j) refl test rest
    where
      by : (o : Option (ℕ × C)) → entry j ≡ o → (b : Bool) → nat_eq k j ≡ b → b ≡ eq x (name j)
          → entry_of eq (filter_map listed ks) x ≡ (if list_any (nat_eq k) ks then option_map by_name (entry k) else None)
          → entry_of eq (cons_option (option_map (λ (e : ℕ × C). (name j, (name e.0, e.1))) o) (filter_map listed ks)) x ≡ (if b || list_any (nat_eq k) ks then option_map by_name (entry k) else None)
      by None e true is test rest =
          let same : entry k ≡ None = ap entry (eqb-true k j is) ∙ e in
          rest ∙ ap (λ o. if list_any (nat_eq k) ks then option_map by_name o else None) same ∙ both (list_any (nat_eq k) ks) ∙ sym (ap (option_map by_name) same)
        where
          both : (c : Bool) → (if c then option_map by_name None else None) ≡ option_map by_name None
          both true = refl
          both false = refl
      by None e false is test rest = rest
      by (Some p) e true is test rest =
          let same : entry k ≡ Some p = ap entry (eqb-true k j is) ∙ e in
          ap (λ c. cond c (Some (by_name p)) (entry_of eq (filter_map listed ks) x)) (sym test) ∙ sym (ap (option_map by_name) same)
      by (Some p) e false is test rest = ap (λ c. cond c (Some (by_name p)) (entry_of eq (filter_map listed ks) x)) (sym test) ∙ rest

  -- what is listed has a number
  pub look_up_numbered : (ks : List ℕ) → ((k : ℕ) → HasNode nat_eq ks k → (x : N) × Stands laws names k x) → (x : N) (r : N × C) → entry_of eq (filter_map listed ks) x ≡ Some r → (k : ℕ) × Stands laws names k x
  look_up_numbered [] all x r h = cc
  look_up_numbered (j ∷ ks) all x r h =
      let z = all j (inl (eq-eqb j j refl)) in
      by (entry j) (named j z.0 z.1) h (λ k. look_up_numbered ks (λ i n. all i (inr n)) x r k)
    where
      by : (o : Option (ℕ × C)) → Stands laws names j (name j) → entry_of eq (cons_option (option_map (λ (e : ℕ × C). (name j, (name e.0, e.1))) o) (filter_map listed ks)) x ≡ Some r
          → (entry_of eq (filter_map listed ks) x ≡ Some r → (k : ℕ) × Stands laws names k x) → (k : ℕ) × Stands laws names k x
      by None s k rest = rest k
      by (Some p) s k rest = elim (bool_dec (eq x (name j))) as (λ _. (i : ℕ) × Stands laws names i x) [
        | inl t ↦ (j, stands_same laws names distinct j (name j) x s (laws.symm (name j) x ∙ t))
        | inr f ↦ rest (sym (ap (λ c. cond c (Some (by_name p)) (entry_of eq (filter_map listed ks) x)) f) ∙ k)
      ]

  -- a name that is listed is that of one of the numbers
  listed_of : (ks : List ℕ) (x : N) → HasNode eq (map (λ (e : N × (N × C)). e.0) (filter_map listed ks)) x → (k : ℕ) × HasNode nat_eq ks k × (eq (name k) x ≡ true)
  listed_of [] x h = absurd h
  listed_of (j ∷ ks) x h = by (entry j) h (listed_of ks x)
    where
      by : (o : Option (ℕ × C)) → HasNode eq (map (λ (e : N × (N × C)). e.0) (cons_option (option_map (λ (e : ℕ × C). (name j, (name e.0, e.1))) o) (filter_map listed ks))) x
          → (HasNode eq (map (λ (e : N × (N × C)). e.0) (filter_map listed ks)) x → (k : ℕ) × HasNode nat_eq ks k × (eq (name k) x ≡ true)) → (k : ℕ) × HasNode nat_eq (j ∷ ks) k × (eq (name k) x ≡ true)
      by None n rest = let r = rest n in (r.0, inr r.1, r.2)
      by (Some p) (inl e) rest = (j, inl (eq-eqb j j refl), e)
      by (Some p) (inr n) rest = let r = rest n in (r.0, inr r.1, r.2)

  -- no name is listed twice
  pub listed_once : (ks : List ℕ) → ((k : ℕ) → HasNode nat_eq ks k → (x : N) × Stands laws names k x) → NoRepeats nat_eq ks → NoRepeats eq (map (λ (e : N × (N × C)). e.0) (filter_map listed ks))
  listed_once [] all d = tt
  listed_once (j ∷ ks) all d = by (entry j) (listed_once ks (λ i h. all i (inr h)) d.1)
    where
      by : (o : Option (ℕ × C)) → NoRepeats eq (map (λ (e : N × (N × C)). e.0) (filter_map listed ks)) → NoRepeats eq (map (λ (e : N × (N × C)). e.0) (cons_option (option_map (λ (e : ℕ × C). (name j, (name e.0, e.1))) o) (filter_map listed ks)))
      by None rest = rest
      by (Some p) rest = (
        λ h.
            let k = listed_of ks (name j) h in
            let zj = all j (inl (eq-eqb j j refl)) in
            let zk = all k.0 (inr k.1) in
            let sj = named j zj.0 zj.1 in
            let sk = stands_same laws names distinct k.0 (name k.0) (name j) (named k.0 zk.0 zk.1) k.2 in
            d.0 (subst (HasNode nat_eq ks) (one laws names distinct k.0 j (name j) sk sj) k.1),
        rest,
      )

  -- nodes that were asked before the stopping one were asked
  asked_of : (before : List ℕ) (o : Option ℕ) (k : ℕ) → HasNode nat_eq before k → HasNode nat_eq (asked_nodes before o) k
  asked_of before None k n = n
  asked_of [] (Some j) k n = absurd n
  asked_of (b ∷ before) (Some j) k (inl e) = inl e
  asked_of (b ∷ before) (Some j) k (inr n) = inr (asked_of before (Some j) k n)

  -- entries and parents stand for names, who follows parents meets none twice, and ends at the start
  pub record IsSound (start : ℕ) : Type 0 where
    pub here : (k p : ℕ) (cost : C) → entry k ≡ Some (p, cost) → (x : N) × Stands laws names k x
    pub parent : (k p : ℕ) (cost : C) → entry k ≡ Some (p, cost) → (x : N) × Stands laws names p x
    pub no_ring : (k : ℕ) → MeetsNoneTwice nat_eq entry k
    pub to_start : (k : ℕ) (path : List ℕ) → HasEntry nat_eq entry k → IsChainOfParents nat_eq entry k path → BeginsAt nat_eq (start ∷ []) path

  module _ (edgesM : ℕ → List (ℕ × ℤ)) (edgesN : N → List (N × ℤ)) (alike : (a : ℕ) (x : N) → Stands laws names a x → SameEdges laws names distinct (edgesM a) (edgesN x)) (start : ℕ) (from : N) (begins : Stands laws names start from) (value : C → ℤ) where
    carried : IsCarried laws names (IsSuccessor nat_eq edgesM) (IsSuccessor eq edgesN)
    carried = carried_edges laws names distinct edgesM edgesN alike

    begin : SameStarts laws names distinct (start ∷ []) (from ∷ [])
    begin = one_start laws names distinct start from begins

    named_in_reach : (k : ℕ) → InReach nat_eq edgesM (start ∷ []) k → (x : N) × Stands laws names k x
    named_in_reach k r = reach_named laws names distinct _ _ carried (start ∷ []) (from ∷ []) begin k r

    with_least : (k : ℕ) (t : ℤ) → IsLeastCost nat_eq edgesM start k t → (x : N) × Stands laws names k x
    with_least k t l = named_in_reach k (record { walk = l.0; goes = l.1.goes.goes })

    least_named : (k : ℕ) (x : N) → Stands laws names k x → (t : ℤ) → IsLeastCost nat_eq edgesM start k t → IsLeastCost eq edgesN from x t
    least_named k x s t l =
        let v = goal_named laws names distinct _ _ carried start from begins (λ y. nat_eq y k) l.0 l.1.goes.goes in
        (v.0, cheapest_out laws names distinct edgesM edgesN alike start from begins (λ y. nat_eq y k) (λ y. eq y x) (test_stands laws names distinct k x s) l.0 v.0 t v.1 l.1)

    -- and back
    least_back : (k : ℕ) (x : N) → Stands laws names k x → (t : ℤ) → IsLeastCost eq edgesN from x t → IsLeastCost nat_eq edgesM start k t
    least_back k x s t l =
        let tests = test_stands laws names distinct k x s in
        let r = goal_back laws names distinct _ _ carried start from begins (λ y. nat_eq y k) (λ y. eq y x) tests l.0 l.1.goes.goes in (
          r.0,
          record {
            goes = record { goes = r.2; distinct = repeats_back laws names distinct r.0 l.0 r.1 l.1.goes.distinct };
            costs = costs_back laws names distinct edgesM edgesN alike r.0 l.0 t r.1 l.1.costs;
            best = λ w u g c.
                let v = goal_named laws names distinct _ _ carried start from begins (λ y. nat_eq y k) w g in
                l.1.best v.0 u (goal_out laws names distinct _ _ carried start from begins (λ y. nat_eq y k) (λ y. eq y x) tests w v.0 v.1 g) (costs_out laws names distinct edgesM edgesN alike w v.0 u v.1 c);
          },
        )

    pub sound_map : IsCheapestMap nat_eq edgesM start value entry → IsSound start
    sound_map h = record {
      here = λ k p cost e. named_in_reach k ((h.reached k).0 (p, cost, e)).0;
      parent = λ k p cost e. let l = (h.behind k p cost e).least in with_least p (h.behind k p cost e).cost l;
      no_ring = h.no_ring;
      to_start = h.to_start;
    }

    pub sound_partial : (test : ℕ → Bool) (stop : Option ℕ) → IsPartialMap nat_eq edgesM start value entry test stop → IsSound start
    sound_partial test stop h = record {
      here = λ k p cost e.
          let r = ((h.reached k).0 (p, cost, e)).1 in
          let x = named_in_reach r.0 (h.in_reach r.0 (asked_of h.before stop r.0 r.1)) in
          carried.named r.0 k x.0 x.1 r.2;
      parent = λ k p cost e. let b = (h.behind k p cost e).1 in with_least p b.cost b.least;
      no_ring = h.no_ring;
      to_start = h.to_start;
    }

    module _ (sound : IsSound start) (entryN : N → Option (N × C)) (agrees : (k : ℕ) (x : N) → Stands laws names k x → entryN x ≡ option_map by_name (entry k)) (numbered : (x : N) (r : N × C) → entryN x ≡ Some r → (k : ℕ) × Stands laws names k x) where
      -- the entry of the number of a name
      pub record Numbered (x parent : N) (cost : C) : Type 0 where
        pub k : ℕ
        pub here : Stands laws names k x
        pub p : ℕ
        pub at : entry k ≡ Some (p, cost)
        pub names_it : name p ≡ parent
        pub stands : Stands laws names p parent

      parent_named : (k p : ℕ) (cost : C) → entry k ≡ Some (p, cost) → Stands laws names p (name p)
      parent_named k p cost e = let r = sound.parent k p cost e in named p r.0 r.1

      back_of : (o : Option (ℕ × C)) (parent : N) (cost : C) → option_map by_name o ≡ Some (parent, cost) → (p : ℕ) × (o ≡ Some (p, cost)) × (name p ≡ parent)
      back_of None parent cost e = cc
      back_of (Some q) parent cost e = let f : by_name q ≡ (parent, cost) = cc in (q.0, ap (λ c. Some (q.0, c)) (ap (λ (t : N × C). t.1) f), ap (λ (t : N × C). t.0) f)

      numbered_entry : (x parent : N) (cost : C) → entryN x ≡ Some (parent, cost) → Numbered x parent cost
      numbered_entry x parent cost e =
          let k = numbered x (parent, cost) e in
          let b = back_of (entry k.0) parent cost (sym (agrees k.0 x k.1) ∙ e) in
          record { k = k.0; here = k.1; p = b.0; at = b.1; names_it = b.2; stands = subst (Stands laws names b.0) b.2 (parent_named k.0 b.0 cost b.1) }

      entry_out : (k : ℕ) (x : N) → Stands laws names k x → (p : ℕ) (cost : C) → entry k ≡ Some (p, cost) → entryN x ≡ Some (name p, cost)
      entry_out k x s p cost e = agrees k x s ∙ ap (option_map by_name) e

      -- parents by number and by name
      carried_parents : IsCarried laws names (IsParent nat_eq entry) (IsParent eq entryN)
      carried_parents = record {
        out = λ a b x y s t w.
            let is : w.0 ≡ a = eqb-true w.0 a w.3 in
            let p = parent_named b w.0 w.1 w.2 in
            (name w.0, w.1, entry_out b y t w.0 w.1 w.2, same_name laws names w.0 (name w.0) x p (subst (λ (n : ℕ). Stands laws names n x) (sym is) s));
        back = λ a b x y s t w.
            let o = back_of (entry b) w.0 w.1 (sym (agrees b y t) ∙ w.2) in
            let p = subst (Stands laws names o.0) o.2 (parent_named b o.0 w.1 o.1) in
            (o.0, w.1, o.1, eq-eqb o.0 a (one laws names distinct o.0 a x (stands_same laws names distinct o.0 w.0 x p w.3) s));
        named = λ a b x s w. sound.here b w.0 w.1 w.2;
        numbered = λ a x y s w. numbered y (w.0, w.1) w.2;
      }

      -- the first of names that lead to a name with a number
      first_numbered : (y : N) (v : List N) (x : N) (k : ℕ) → Stands laws names k x → Follows (IsParent eq entryN) y v → eq (end_of y v) x ≡ true → (a : ℕ) × Stands laws names a y
      first_numbered y [] x k s f e = (k, stands_same laws names distinct k x y s (laws.symm x y ∙ e))
      first_numbered y (b ∷ v) x k s f e =
          let n = numbered_entry b f.0.0 f.0.1 f.0.2 in
          (n.p, stands_same laws names distinct n.p f.0.0 y n.stands f.0.3)

      -- who follows parents meets no name twice
      no_ring_out : (x : N) → MeetsNoneTwice eq entryN x
      no_ring_out x [] walks ends = absurd walks
      no_ring_out x (y ∷ []) walks ends = ((λ n. n), tt)
      no_ring_out x (y ∷ b ∷ v) walks ends =
          let n = numbered_entry b walks.0.0 walks.0.1 walks.0.2 in
          let a = stands_same laws names distinct n.p walks.0.0 y n.stands walks.0.3 in
          let w = follows_back laws names distinct _ _ carried_parents n.p y (b ∷ v) a walks in
          let last = end_stands laws names n.p y w.0 (b ∷ v) a w.1 in
          repeats_out laws names distinct (n.p ∷ w.0) (y ∷ b ∷ v) (a, w.1) (sound.no_ring (end_of n.p w.0) (n.p ∷ w.0) w.2 (eq-eqb (end_of n.p w.0) (end_of n.p w.0) refl))

      none_back : (o : Option (ℕ × C)) → option_map by_name o ≡ None → o ≡ None
      none_back None e = refl
      none_back (Some q) e = cc

      ends_at_start : (x : N) (path : List N) → HasEntry eq entryN x → IsChainOfParents eq entryN x path → BeginsAt eq (from ∷ []) path
      ends_at_start x [] e c = absurd c.linked
      ends_at_start x (y ∷ v) e c =
          let n = numbered_entry x e.0 e.1 e.2 in
          let a = first_numbered y v x n.k n.here c.linked c.ends in
          let w = follows_back laws names distinct _ _ carried_parents a.0 y v a.1 c.linked in
          let last = end_stands laws names a.0 y w.0 v a.1 w.1 in
          let chain : IsChainOfParents nat_eq entry n.k (a.0 ∷ w.0) = record {
            begins = none_back (entry a.0) (sym (agrees a.0 y a.1) ∙ c.begins);
            linked = w.2;
            ends = test_stands laws names distinct n.k x n.here (end_of a.0 w.0) (end_of y v) last ∙ c.ends;
          } in
          begin.out a.0 y a.1 (sound.to_start n.k (a.0 ∷ w.0) (n.p, e.1, n.at) chain)

      -- a map of the numbers is one of the names
      pub map_out : IsCheapestMap nat_eq edgesM start value entry → IsCheapestMap eq edgesN from value entryN
      map_out h = record {
        reached = λ x. (
          λ e.
              let n = numbered_entry x e.0 e.1 e.2 in
              let r = (h.reached n.k).0 (n.p, e.1, n.at) in
              (reach_out laws names distinct _ _ carried (start ∷ []) (from ∷ []) begin n.k x n.here r.0, sym (test_stands laws names distinct n.k x n.here start from begins) ∙ r.1),
          λ r.
              let k = reach_numbered laws names distinct _ _ carried (start ∷ []) (from ∷ []) begin x r.0 in
              let e = (h.reached k.0).1 (reach_back laws names distinct _ _ carried (start ∷ []) (from ∷ []) begin k.0 x k.1 r.0, test_stands laws names distinct k.0 x k.1 start from begins ∙ r.1) in
              (name e.0, e.1, entry_out k.0 x k.1 e.0 e.1 e.2),
        );
        cheapest = λ x parent cost e.
            let n = numbered_entry x parent cost e in
            least_named n.k x n.here (value cost) (h.cheapest n.k n.p cost n.at);
        behind = λ x parent cost e.
            let n = numbered_entry x parent cost e in
            let b = h.behind n.k n.p cost n.at in
            record {
              cost = b.cost;
              least = least_named n.p parent n.stands b.cost b.least;
              price = b.price;
              step = step_out laws names distinct edgesM edgesN alike n.p n.k parent x b.price n.stands n.here b.step;
              sum = b.sum;
            };
        no_ring = no_ring_out;
        to_start = ends_at_start;
      }

      -- ---- a map of a search that ends at the first stopping node

      module _ (testM : ℕ → Bool) (testN : N → Bool) (tests : (k : ℕ) (x : N) → Stands laws names k x → testM k ≡ testN x) (stop : Option ℕ) (h : IsPartialMap nat_eq edgesM start value entry testM stop) where
        abbrev asked : List ℕ
        asked = asked_nodes h.before stop

        abbrev asked_names : List N
        asked_names = asked_nodes (map name h.before) (option_map name stop)

        names_of_asked : (before : List ℕ) (o : Option ℕ) → map name (asked_nodes before o) ≡ asked_nodes (map name before) (option_map name o)
        names_of_asked before None = refl
        names_of_asked before (Some k) = map-append name before (k ∷ [])

        left_of : (before : List ℕ) (o : Option ℕ) → AllZip (Stands laws names) (asked_nodes before o) (map name (asked_nodes before o)) → AllZip (Stands laws names) before (map name before)
        left_of before None z = z
        left_of [] (Some k) z = tt
        left_of (b ∷ before) (Some k) z = (z.0, left_of before (Some k) z.1)

        zip_asked : AllZip (Stands laws names) asked (map name asked)
        zip_asked = zip_by asked (λ k n. let x = named_in_reach k (h.in_reach k n) in named k x.0 x.1)
          where
            zip_by : (ks : List ℕ) → ((k : ℕ) → HasNode nat_eq ks k → Stands laws names k (name k)) → AllZip (Stands laws names) ks (map name ks)
            zip_by [] all = tt
            zip_by (k ∷ ks) all = (all k (inl (eq-eqb k k refl)), zip_by ks (λ j n. all j (inr n)))

        zip_before : AllZip (Stands laws names) h.before (map name h.before)
        zip_before = left_of h.before stop zip_asked

        in_asked : (x : N) → HasNode eq asked_names x → (k : ℕ) × Stands laws names k x × HasNode nat_eq asked k
        in_asked x n = node_numbered laws names distinct asked (map name asked) x zip_asked (subst (λ xs. HasNode eq xs x) (sym (names_of_asked h.before stop)) n)

        in_before : (x : N) → HasNode eq (map name h.before) x → (k : ℕ) × Stands laws names k x × HasNode nat_eq h.before k
        in_before x n = node_numbered laws names distinct h.before (map name h.before) x zip_before n

        out_asked : (k : ℕ) (x : N) → Stands laws names k x → HasNode nat_eq asked k → HasNode eq asked_names x
        out_asked k x s n = subst (λ xs. HasNode eq xs x) (names_of_asked h.before stop) (node_out laws names distinct asked (map name asked) k x zip_asked s n)

        out_before : (k : ℕ) (x : N) → Stands laws names k x → HasNode nat_eq h.before k → HasNode eq (map name h.before) x
        out_before k x s n = node_out laws names distinct h.before (map name h.before) k x zip_before s n

        costs_no_more : (j k : ℕ) (x y : N) → Stands laws names j x → Stands laws names k y → CostsNoMore nat_eq edgesM start j k → CostsNoMore eq edgesN from x y
        costs_no_more j k x y s t c u v a b = c u v (least_back j x s u a) (least_back k y t v b)

        rising_out : (ks : List ℕ) (xs : List N) → AllZip (Stands laws names) ks xs → RisesInCost nat_eq edgesM start ks → RisesInCost eq edgesN from xs
        rising_out [] [] z r = tt
        rising_out [] (x ∷ xs) z r = absurd z
        rising_out (k ∷ ks) [] z r = absurd z
        rising_out (k ∷ ks) (x ∷ xs) z r = (
          λ y n. let j = node_numbered laws names distinct ks xs y z.1 n in costs_no_more k j.0 x y z.0 j.1 (r.0 j.0 j.2),
          rising_out ks xs z.1 r.1,
        )

        first_out : (ks : List ℕ) → AllZip (Stands laws names) ks (map name ks) → BeginsAt nat_eq (start ∷ []) ks → BeginsAt eq (from ∷ []) (map name ks)
        first_out [] z n = n
        first_out (k ∷ ks) z n = begin.out k (name k) z.0 n

        step_from_out : (p k : ℕ) (parent x : N) (t : ℤ) → Stands laws names p parent → Stands laws names k x → IsStepFrom nat_eq edgesM start p k t → IsStepFrom eq edgesN from parent x t
        step_from_out p k parent x t s r b = record {
          cost = b.cost;
          least = least_named p parent s b.cost b.least;
          price = b.price;
          step = step_out laws names distinct edgesM edgesN alike p k parent x b.price s r b.step;
          sum = b.sum;
        }

        step_from_back : (p k : ℕ) (parent x : N) (t : ℤ) → Stands laws names p parent → Stands laws names k x → IsStepFrom eq edgesN from parent x t → IsStepFrom nat_eq edgesM start p k t
        step_from_back p k parent x t s r b = record {
          cost = b.cost;
          least = least_back p parent s b.cost b.least;
          price = b.price;
          step = step_back laws names distinct edgesM edgesN alike p k parent x b.price s r b.step;
          sum = b.sum;
        }

        stopped_out : (o : Option ℕ) → AllZip (Stands laws names) (asked_nodes h.before o) (map name (asked_nodes h.before o)) → MatchOption o ((k : ℕ) → InReach nat_eq edgesM (start ∷ []) k → HasNode nat_eq h.before k) (λ node. testM node ≡ true)
            → MatchOption (option_map name o) ((x : N) → InReach eq edgesN (from ∷ []) x → HasNode eq (map name h.before) x) (λ node. testN node ≡ true)
        stopped_out None z all = λ x r.
            let k = reach_numbered laws names distinct _ _ carried (start ∷ []) (from ∷ []) begin x r in
            out_before k.0 x k.1 (all k.0 (reach_back laws names distinct _ _ carried (start ∷ []) (from ∷ []) begin k.0 x k.1 r))
        stopped_out (Some j) z t = sym (tests j (name j) (last_of h.before j z)) ∙ t
          where
            last_of : (before : List ℕ) (i : ℕ) → AllZip (Stands laws names) (before ++ i ∷ []) (map name (before ++ i ∷ [])) → Stands laws names i (name i)
            last_of [] i y = y.0
            last_of (b ∷ before) i y = last_of before i y.1

        than_stop_back : (o : Option ℕ) → AllZip (Stands laws names) (asked_nodes h.before o) (map name (asked_nodes h.before o)) → (t : ℤ) → CostsNoMoreThanStop eq edgesN from (option_map name o) t → CostsNoMoreThanStop nat_eq edgesM start o t
        than_stop_back None z t c = tt
        than_stop_back (Some j) z t c = (c.0, least_back j (name j) (last_of h.before j z) c.0 c.1, c.2)
          where
            last_of : (before : List ℕ) (i : ℕ) → AllZip (Stands laws names) (before ++ i ∷ []) (map name (before ++ i ∷ [])) → Stands laws names i (name i)
            last_of [] i y = y.0
            last_of (b ∷ before) i y = last_of before i y.1

        -- a map of the numbers is one of the names
        pub partial_out : IsPartialMap eq edgesN from value entryN testN (option_map name stop)
        partial_out = record {
          before = map name h.before;
          in_reach = λ x n. let k = in_asked x n in reach_out laws names distinct _ _ carried (start ∷ []) (from ∷ []) begin k.0 x k.1 (h.in_reach k.0 k.2);
          first = subst (BeginsAt eq (from ∷ [])) (names_of_asked h.before stop) (first_out asked zip_asked h.first);
          rising = subst (RisesInCost eq edgesN from) (names_of_asked h.before stop) (rising_out asked (map name asked) zip_asked h.rising);
          none_skipped = λ x y n none u v a b.
              let k = in_asked x n in
              let j = reach_numbered laws names distinct _ _ carried (start ∷ []) (from ∷ []) begin y (record { walk = b.0; goes = b.1.goes.goes }) in
              h.none_skipped k.0 j.0 k.2 (λ m. none (out_asked j.0 y j.1 m)) u v (least_back k.0 x k.1 u a) (least_back j.0 y j.1 v b);
          passed = λ x n. let k = in_before x n in sym (tests k.0 x k.1) ∙ h.passed k.0 k.2;
          stopped = stopped_out stop zip_asked h.stopped;
          reached = λ x. (
            λ e.
                let n = numbered_entry x e.0 e.1 e.2 in
                let r = (h.reached n.k).0 (n.p, e.1, n.at) in
                let y = named_in_reach r.1.0 (h.in_reach r.1.0 (asked_of h.before stop r.1.0 r.1.1)) in
                (sym (test_stands laws names distinct n.k x n.here start from begins) ∙ r.0, (y.0, out_before r.1.0 y.0 y.1 r.1.1, carried.out r.1.0 n.k y.0 x y.1 n.here r.1.2)),
            λ r.
                let j = in_before r.1.0 r.1.1 in
                let k = carried.numbered j.0 r.1.0 x j.1 r.1.2 in
                let e = (h.reached k.0).1 (test_stands laws names distinct k.0 x k.1 start from begins ∙ r.0, (j.0, j.2, carried.back j.0 k.0 r.1.0 x j.1 k.1 r.1.2)) in
                (name e.0, e.1, entry_out k.0 x k.1 e.0 e.1 e.2),
          );
          behind = λ x parent cost e.
              let n = numbered_entry x parent cost e in
              let b = h.behind n.k n.p cost n.at in
              (out_before n.p parent n.stands b.0, step_from_out n.p n.k parent x (value cost) n.stands n.here b.1);
          least = λ x parent node cost t e m b.
              let n = numbered_entry x parent cost e in
              let j = in_before node m in
              h.least n.k n.p j.0 cost t n.at j.2 (step_from_back j.0 n.k node x t j.1 n.here b);
          cheapest = λ x parent cost e c.
              let n = numbered_entry x parent cost e in
              least_named n.k x n.here (value cost) (h.cheapest n.k n.p cost n.at (than_stop_back stop zip_asked (value cost) c));
          no_ring = no_ring_out;
          to_start = ends_at_start;
        }
