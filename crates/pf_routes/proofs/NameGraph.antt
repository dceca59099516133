-- The graph of numbered nodes stands for the graph over their names.
use Rattle.std.proofs.Common.{◌≡◌, ℕ, ℤ, pos, zero, suc, ◌<◌, ◌==◌, nat_eq, nat_lt, Bool, true, false, cond, List, [], ◌∷◌, map, filter, length, refl, sym, ap, ◌∙◌, arith, subst, Bor, eq-eqb, true≢false}
use Rattle.std.specs.Prelude.{All, Contains}
use Rattle.std.specs.List.{IsDistinct, AllByRecursion}
use Rattle.std.specs.Cmp.{IsEquivalence}
use Rattle.std.specs.Str.{bytes_eq}
use Rattle.std.specs.Int.{FitsUnsignedBits}
use Rattle.std.proofs.lemmas.Slice.Eq.{bytes_eq-Decides}
use Rattle.std.proofs.lemmas.Map.Keys.{IsDistinct-head, IsDistinct-tail}
use Rattle.std.proofs.lemmas.Bool.Decides.{nat_tests}
use borrow.Author.Tests.{eqb-true}
use Rattle.pf_routes.specs.EdgeText.{Edge}
use Rattle.pf_yen.specs.KCheapest.{IsKCheapest}
use Rattle.pf_routes.specs.Roads.{edges_from, HasNoWalk, IsCheapestPath, HasCostOverflow, IsFewestEdgesPath, AreCheapestPaths, HasPathOverflow}
use Rattle.pf_routes.specs.Internal.Links.{name_at, edge_between, edges_between, AllBelow, links_from, steps_from}
use Rattle.pf_routes.specs.Internal.Numbers.{edges_of}
use Rattle.pf_routes.specs.declared.routes.links.Link.{Link}
use Rattle.pf_base.specs.Walks.{HasNoGoalWalk, IsGoalWalk}
use Rattle.pf_base.specs.Edges.{IsSuccessor, IsCheapestGoalPath, CostOverflows}
use Rattle.pf_base.specs.Successors.{IsFewestEdgesGoalPath}
use Rattle.pf_yen.specs.CleanPaths.{PathOverflows}
use Rattle.pf_routes.proofs.Costless.{targets_of}
use Rattle.pf_routes.proofs.Naming.{AllNodes, AllTargets, goal_known, IsNaming, none_named, best_named, fewest_named, past_named}
use Rattle.pf_routes.proofs.CleanNames.{path_past_in}
use Rattle.pf_routes.proofs.RankedNames.{ranked_known, ranked_in}
use Rattle.pf_routes.proofs.Numbering.{below-tail}

abbrev same_key : Bor (List ℕ) → Bor (List ℕ) → Bool
same_key a b = bytes_eq a.now b.now

all-named : (x : Bor (List ℕ)) (keys : List (Bor (List ℕ))) → AllByRecursion (λ y. same_key x y ≡ false) keys → (n : ℕ) → n < length keys → bytes_eq x.now (name_at keys n) ≡ false
all-named x [] all n lt = absurd (omega (arith, lt))
all-named x (y ∷ keys) all zero lt = all.0
all-named x (y ∷ keys) all (suc n) lt = all-named x keys all.1 n (omega (arith, lt))

-- two numbers have two names
names-differ : (keys : List (Bor (List ℕ))) → IsDistinct same_key keys → (a b : ℕ) → a < b → b < length keys → bytes_eq (name_at keys a) (name_at keys b) ≡ false
names-differ [] distinct a b less lt = absurd (omega (arith, lt))
names-differ (x ∷ keys) distinct a zero less lt = absurd (omega (arith, less))
names-differ (x ∷ keys) distinct zero (suc b) less lt = all-named x keys (IsDistinct-head same_key x keys distinct) b (omega (arith, lt))
names-differ (x ∷ keys) distinct (suc a) (suc b) less lt = names-differ keys (IsDistinct-tail same_key x keys distinct) a b (omega (arith, less)) (omega (arith, lt))

differs : (x y : List ℕ) → bytes_eq x y ≡ false → bytes_eq y x ≡ false
differs x y apart = by (bytes_eq y x) refl
  where
    by : (b : Bool) → bytes_eq y x ≡ b → b ≡ false
    by false e = refl
    by true e = absurd (true≢false (sym ((bytes_eq-Decides x y).1 (sym ((bytes_eq-Decides y x).0 e))) ∙ apart))

same_either_way : (x y : List ℕ) (b : Bool) → bytes_eq x y ≡ b → bytes_eq x y ≡ bytes_eq y x
same_either_way x y true e = e ∙ sym ((bytes_eq-Decides y x).1 (sym ((bytes_eq-Decides x y).0 e)))
same_either_way x y false e = e ∙ sym (differs x y e)

pub names-equivalence : IsEquivalence bytes_eq
names-equivalence = record {
  refl = λ x. (bytes_eq-Decides x x).1 refl;
  symm = λ x y. same_either_way x y (bytes_eq x y) refl;
  congr = λ x y z e. ap (λ w. bytes_eq w z) ((bytes_eq-Decides x y).0 e);
}

module _ (keys : List (Bor (List ℕ))) (distinct : IsDistinct same_key keys) where
  -- numbers are equal where their names are
  pub names-same : (a b : ℕ) → a < length keys → b < length keys → nat_eq a b ≡ bytes_eq (name_at keys a) (name_at keys b)
  names-same a b la lb = by (nat_lt a b) (nat_lt b a) refl refl
    where
      by : (s t : Bool) → nat_lt a b ≡ s → nat_lt b a ≡ t → nat_eq a b ≡ bytes_eq (name_at keys a) (name_at keys b)
      by true t hs ht =
          let less : a < b = grind (arith, nat_tests) in
          let no : nat_eq a b ≡ false = grind (arith, nat_tests) in
          no ∙ sym (names-differ keys distinct a b less lb)
      by false true hs ht =
          let less : b < a = grind (arith, nat_tests) in
          let no : nat_eq a b ≡ false = grind (arith, nat_tests) in
          no ∙ sym (differs (name_at keys b) (name_at keys a) (names-differ keys distinct b a less la))
      by false false hs ht =
          let same : a ≡ b = grind (arith, nat_tests) in
          eq-eqb a b same ∙ sym ((bytes_eq-Decides (name_at keys a) (name_at keys b)).1 (ap (name_at keys) same))

  -- the edges that leave a name are the links that leave its number
  pub carried-links : (links : List Link) → AllBelow (length keys) links → (n : ℕ) → n < length keys
      → edges_from (edges_between keys links) (name_at keys n) ≡ map (λ (e : ℕ × ℤ). (name_at keys e.0, e.1)) (edges_of (steps_from n links))
  carried-links [] below n lt = refl
  carried-links (l ∷ links) below n lt = by (nat_eq l.source n) refl (carried-links links (below-tail (length keys) l links below) n lt)
    where
      same : nat_eq l.source n ≡ bytes_eq (name_at keys l.source) (name_at keys n)
      same = names-same l.source n (below 0 l (omega arith)).0 lt

      goal : Bool → Bool → Type 0
      goal b c = map {A = Edge} {B = List ℕ × ℤ} (λ e. (e.to, pos e.cost)) (cond b (edge_between keys l ∷ filter (λ (e : Edge). bytes_eq e.from (name_at keys n)) (edges_between keys links)) (filter (λ (e : Edge). bytes_eq e.from (name_at keys n)) (edges_between keys links)))
          ≡ map {A = ℕ × ℤ} {B = List ℕ × ℤ} (λ e. (name_at keys e.0, e.1)) (edges_of (map {A = Link} {B = ℕ × ℕ} (λ l. (l.target, l.cost)) (cond c (l ∷ links_from n links) (links_from n links))))

      by : (b : Bool) → nat_eq l.source n ≡ b → edges_from (edges_between keys links) (name_at keys n) ≡ map (λ (e : ℕ × ℤ). (name_at keys e.0, e.1)) (edges_of (steps_from n links)) → goal (bytes_eq (name_at keys l.source) (name_at keys n)) (nat_eq l.source n)
      by true h ih = let e : List ℕ × ℤ = (name_at keys l.target, pos l.cost) in rw (sym same ∙ h, h) (ap (λ es. e ∷ es) ih)
      by false h ih = rw (sym same ∙ h, h) ih

all-targets : (count : ℕ) (steps : List (ℕ × ℕ)) → All (λ (s : ℕ × ℕ). s.0 < count) steps → AllTargets (λ n. n < count) (edges_of steps)
all-targets count [] all = tt
all-targets count (s ∷ steps) all = (all 0 s (omega arith), all-targets count steps (λ k d lt. all (suc k) d (omega (arith, lt))))

-- the targets of a node's links
pub targets-below : (count : ℕ) (links : List Link) → AllBelow count links → (n : ℕ) → All (λ (s : ℕ × ℕ). s.0 < count) (steps_from n links)
targets-below count [] below n = λ k d lt. absurd (omega (arith, lt))
targets-below count (l ∷ links) below n = by (l.source == n) (targets-below count links (below-tail count l links below) n)
  where
    by : (b : Bool) → All (λ (s : ℕ × ℕ). s.0 < count) (steps_from n links) → All (λ (s : ℕ × ℕ). s.0 < count) (map {A = Link} {B = ℕ × ℕ} (λ l. (l.target, l.cost)) (cond b (l ∷ links_from n links) (links_from n links)))
    by false ih k d lt = ih k d lt
    by true ih zero d lt = (below 0 l (omega arith)).1
    by true ih (suc k) d lt = ih k d (omega (arith, lt))

module _ (keys : List (Bor (List ℕ))) (distinct : IsDistinct same_key keys) (links : List Link) (below : AllBelow (length keys) links) (row : ℕ → List (ℕ × ℕ))
    (rows : (n : ℕ) → n < length keys → row n ≡ steps_from n links) where
  abbrev pub numbered : ℕ → List (ℕ × ℤ)
  numbered n = edges_of (row n)

  naming : IsNaming nat_eq bytes_eq (name_at keys) (λ n. n < length keys) numbered (edges_from (edges_between keys links))
  naming = record {
    same = names-same keys distinct;
    spread = λ a b p h. subst (λ n. n < length keys) (eqb-true a b h) p;
    decides = λ x y. (bytes_eq-Decides x y).0;
    targets = λ a lt. subst (λ l. AllTargets (λ n. n < length keys) (edges_of l)) (sym (rows a lt)) (all-targets (length keys) (steps_from a links) (targets-below (length keys) links below a));
    carried = λ a lt. carried-links keys distinct links below a lt ∙ sym (ap (λ l. map (λ (e : ℕ × ℤ). (name_at keys e.0, e.1)) (edges_of l)) (rows a lt));
  }

  module _ (from to : List ℕ) (start goal : ℕ) (within : start < length keys) (within_goal : goal < length keys) (from_is : name_at keys start ≡ from) (to_is : name_at keys goal ≡ to) where
    tests : (m : ℕ) → m < length keys → (m == goal) ≡ bytes_eq (name_at keys m) to
    tests m lt = names-same keys distinct m goal lt within_goal ∙ ap (bytes_eq (name_at keys m)) to_is

    pub no_walk : HasNoGoalWalk nat_eq (IsSuccessor nat_eq numbered) (start ∷ []) (λ n. n == goal) → HasNoWalk (edges_between keys links) from to
    no_walk h = subst (λ f. HasNoWalk (edges_between keys links) f to) from_is (none_named _ _ _ _ _ _ naming start within (λ n. n == goal) (λ name. bytes_eq name to) tests h)

    pub cheapest : (path : List ℕ) (cost : ℕ) → IsCheapestGoalPath nat_eq numbered (start ∷ []) (λ n. n == goal) path (pos cost) → IsCheapestPath (edges_between keys links) from to (map (name_at keys) path) cost
    cheapest path cost h =
        subst (λ f. IsCheapestPath (edges_between keys links) f to (map (name_at keys) path) cost) from_is (best_named _ _ _ _ _ _ naming start within (λ n. n == goal) (λ name. bytes_eq name to) tests path (pos cost) h)

    pub fewest : (path : List ℕ) → IsFewestEdgesGoalPath nat_eq (λ n. targets_of (numbered n)) (start ∷ []) (λ n. n == goal) path → IsFewestEdgesPath (edges_between keys links) from to (map (name_at keys) path)
    fewest path h =
        subst (λ f. IsFewestEdgesPath (edges_between keys links) f to (map (name_at keys) path)) from_is (fewest_named _ _ _ _ _ _ naming start within (λ n. n == goal) (λ name. bytes_eq name to) tests path h)

    pub overflow : CostOverflows nat_eq numbered (start ∷ []) (λ n. n == goal) (FitsUnsignedBits 64) → HasCostOverflow (edges_between keys links) from to
    overflow h = subst (λ f. HasCostOverflow (edges_between keys links) f to) from_is (past_named _ _ _ _ _ _ naming start within (λ n. n == goal) (λ name. bytes_eq name to) tests (FitsUnsignedBits 64) h)

    pub path-known : (path : List ℕ) → IsGoalWalk nat_eq (IsSuccessor nat_eq numbered) (start ∷ []) (λ n. n == goal) path → AllNodes (λ n. n < length keys) path
    path-known path g = goal_known _ _ _ _ _ _ naming start within (λ n. n == goal) (λ name. bytes_eq name to) tests path g

    pub path_overflow : PathOverflows nat_eq numbered start (λ n. n == goal) (FitsUnsignedBits 64) → HasPathOverflow (edges_between keys links) from to
    path_overflow h = subst (λ f. HasPathOverflow (edges_between keys links) f to) from_is (path_past_in _ _ _ _ _ _ naming start within (λ n. n == goal) (λ name. bytes_eq name to) tests (FitsUnsignedBits 64) h)

    module _ (count : ℕ) (paths : List (List ℕ × ℕ)) (h : IsKCheapest nat_eq numbered start (λ n. n == goal) (λ (cost : ℕ). pos cost) count paths) where
      -- the paths over names
      pub cheapest_paths : AreCheapestPaths (edges_between keys links) from to count (map (λ (p : List ℕ × ℕ). (map (name_at keys) p.0, p.1)) paths)
      cheapest_paths = subst (λ f. AreCheapestPaths (edges_between keys links) f to count (map (λ (p : List ℕ × ℕ). (map (name_at keys) p.0, p.1)) paths)) from_is
          (ranked_in _ _ _ _ _ _ naming start within (λ n. n == goal) (λ name. bytes_eq name to) tests (λ (cost : ℕ). pos cost) count paths h)

      pub paths_known : (p : List ℕ × ℕ) → Contains paths p → AllNodes (λ n. n < length keys) p.0
      paths_known p c = ranked_known _ _ _ _ _ _ naming start within (λ n. n == goal) (λ name. bytes_eq name to) tests (λ (cost : ℕ). pos cost) count paths h p c
