-- A walk over numbers goes along the tree paths of the preorder.
use Rattle.std.proofs.Common.{◌≡◌, ℕ, zero, suc, ◌<◌, ◌≤◌, ◌+◌, ◌-◌, Bool, true, false, Option, Some, List, [], ◌∷◌, ◌++◌, ◌∙◌, length, length-append, take, take_all, reverse, refl, sym, ap, subst, arith, inl, inr, ℤ, pos, map}
use Rattle.std.specs.Prelude.{◌⊎◌, ◌↔◌, Contains, Result, Ok, Err, None, IsErr, IfErr, is_err, slice_get}
use Rattle.std.specs.Result.{result_transpose}
use Rattle.std.specs.Cmp.{IsEquivalence}
use Rattle.std.specs.List.{AllZip, AllByRecursion, IsDistinct}
use Rattle.indexmap.specs.IndexSet.{insert_all}
use Rattle.std.proofs.lemmas.List.Elements.{Contains-append_left, Contains-append_right, Contains-append_cases}
use Rattle.std.proofs.lemmas.List.{append_assoc, reverse-append, reverse-reverse, length-reverse}
use Rattle.pf_base.specs.Walks.{HasNode, end_of, IsReachable}
use Rattle.pf_base.specs.Successors.{HasSuccessor}
use Rattle.pf_base.specs.Answers.{SameNodes}
use Rattle.pf_base.specs.declared.error.PathError.{PathError}
use Rattle.pf_base.proofs.Callers.{SameNodes-refl}
use Rattle.pf_base.specs.Orders.{found_from, last_nodes, IsNextPath, IsNextTreePath, IsPreorder, IsWholePreorder}
use Rattle.pf_discovery.specs.declared.depth_first.Branch.{Branch}
use Rattle.pf_discovery.specs.DepthFirst.{IsVisited, IsNextBranch, branches_at, not_visited, AreVisited, IsPending}
use Rattle.pf_core.specs.NodeLaws.{StandsFor-inside, StandsFor-one}
use Rattle.pf_core.specs.Numbered.{Grows, NumbersInOrder}
use Rattle.pf_base.specs.Edges.{targets}
use Rattle.pf_core.specs.Nodes.{StandsFor, Explores}
use Rattle.pf_discovery.specs.Sources.{AnswersHops}
use Rattle.pf_core.specs.Hops.{unit_edges}
use Rattle.pf_discovery.proofs.DepthFirstLemmas.{IsSpent, drop_passed, all_spent, way_on, unvisited_left, visit_pending, pending_stays, cut_path}
use Rattle.pf_core.proofs.NodeLemmas.{eq-sym, eq-trans, StandsFor-same}
use Rattle.pf_discovery.proofs.SourceLemmas.{Explores-successors}
use Rattle.pf_base.proofs.ListLemmas.{AllZip-append}
use Rattle.pf_core.proofs.PathLemmas.{AllZip-map, HasNode-append_cases}
use Rattle.pf_core.proofs.OrderLemmas.{Same-trans}
use Rattle.pf_search.proofs.BreadthLaws.{get_below}
use Rattle.pf_search.proofs.BreadthLemmas.{Same-append, Same-sym, Same-length, Same-insert_all, found-push}
use Rattle.pf_search.proofs.BreadthSteps.{inserted_in_order, kept_places, kept_all}
use Rattle.pf_search.specs.Internal.Breadth.{BeginsEmpty, found_or}
use Rattle.pf_search.specs.Internal.Depth.{nodes_at, walk_with, ArePlaces}
use Rattle.pf_search.specs.Internal.DepthStack.{DepthStack, IsStack}
use Rattle.pf_search.specs.DepthWalks.{DepthWalk, StandsAt, IsDepthWalk, DepthStep}
use Rattle.pf_search.specs.Internal.DepthTurns.{DepthGoes}
use Rattle.pf_search.proofs.PreorderLemmas.{only, end_of_push, last_node_of, last_nodes_push, HasNode-left, HasNode-right, HasNode-found, preorder_push, same_node}

all_append : {A : Type 0} (P : A → Type 0) (xs ys : List A) → AllByRecursion P (xs ++ ys) → AllByRecursion P xs × AllByRecursion P ys
all_append P [] ys h = (tt, h)
all_append P (x ∷ xs) ys h = let q = all_append P xs ys h.1 in ((h.0, q.0), q.1)

all_push : {A : Type 0} (P : A → Type 0) (xs : List A) (x : A) → AllByRecursion P xs → P x → AllByRecursion P (xs ++ x ∷ [])
all_push P [] x h p = (p, tt)
all_push P (y ∷ xs) x h p = (h.0, all_push P xs x h.1 p)

all_reverse : {A : Type 0} (P : A → Type 0) (xs : List A) → AllByRecursion P xs → AllByRecursion P (reverse xs)
all_reverse P [] h = tt
all_reverse P (x ∷ xs) h = subst (AllByRecursion P) (sym (reverse-append (x ∷ []) xs)) (all_push P (reverse xs) x (all_reverse P xs h.1) h.0)

-- the places of two lists, cut in two
split_zip : {A B : Type 0} (R : A → B → Type 0) (xs ys : List A) (zs : List B) → AllZip R (xs ++ ys) zs → (us : List B) × (vs : List B) × (zs ≡ us ++ vs) × AllZip R xs us × AllZip R ys vs
split_zip R [] ys zs h = ([], zs, refl, tt, h)
split_zip R (x ∷ xs) ys [] h = absurd h
split_zip R (x ∷ xs) ys (z ∷ zs) h = let q = split_zip R xs ys zs h.1 in (z ∷ q.0, q.1, ap (λ l. z ∷ l) q.2, (h.0, q.3), q.4)

-- a place of the first list has its node in the second
pub node_at : {A B : Type 0} (R : A → B → Type 0) (x : A) (xs : List A) (ys : List B) → AllZip R xs ys → Contains xs x → (y : B) × Contains ys y × R x y
node_at R x [] ys z (k, l, e) = absurd (omega (arith, l))
node_at R x (a ∷ xs) [] z c = absurd z
node_at R x (a ∷ xs) (b ∷ ys) z (zero, l, e) = (b, (0, omega arith, refl), subst (λ i. R i b) e z.0)
node_at R x (a ∷ xs) (b ∷ ys) z (suc k, l, e) = let q = node_at R x xs ys z.1 (k, omega (arith, l), e) in (q.0, Contains-append_right (b ∷ []) ys q.0 q.1, q.2)

zip_length : {A B : Type 0} (R : A → B → Type 0) (xs : List A) (ys : List B) → AllZip R xs ys → length xs ≡ length ys
zip_length R [] [] z = refl
zip_length R [] (b ∷ ys) z = absurd z
zip_length R (a ∷ xs) [] z = absurd z
zip_length R (a ∷ xs) (b ∷ ys) z = ap suc (zip_length R xs ys z.1)

-- a node of the second list has its place in the first
at_place : {A B : Type 0} (R : A → B → Type 0) (P : A → Type 0) (xs : List A) (ys : List B) (y : B) → AllZip R xs ys → AllByRecursion P xs → Contains ys y → (x : A) × P x × R x y
at_place R P [] [] y z a (k, l, e) = absurd (omega (arith, l))
at_place R P [] (b ∷ ys) y z a c = absurd z
at_place R P (x ∷ xs) [] y z a c = absurd z
at_place R P (x ∷ xs) (b ∷ ys) y z a (zero, l, e) = (x, a.0, subst (R x) e z.0)
at_place R P (x ∷ xs) (b ∷ ys) y z a (suc k, l, e) = at_place R P xs ys y z.1 a.1 (k, omega (arith, l), e)

alone : {N : Type 0} (eq : N → N → Bool) (x : N) → IsDistinct eq (x ∷ [])
unfolding IsDistinct
alone eq x = (tt, tt)

-- before the start was put in, no node was found, and none given
pub empty_before : {N : Type 0} (start : Option N) (nodes : List N) (given : List ℕ) → ArePlaces start nodes given → BeginsEmpty start nodes
empty_before None nodes given h = tt
empty_before (Some x) nodes given h = h.0

pub none_given : {N : Type 0} (start : Option N) (nodes : List N) (given : List ℕ) (x : N) → ArePlaces start nodes given → start ≡ Some x → given ≡ []
none_given None nodes given x h e = cc
none_given (Some y) nodes given x h e = h.1

no_place : (k : ℕ) → Contains [] k → ⊥
no_place k (i, l, e) = absurd (omega (arith, l))

-- places stay such once the start was put in, where no node was taken away
pub same_places : {N : Type 0} (start start' : Option N) (nodes nodes' : List N) (given given' : List ℕ) → ArePlaces start nodes given → start' ≡ None → length (found_or start nodes) ≤ length nodes' → given' ≡ given → ArePlaces start' nodes' given'
same_places start start' nodes nodes' given given' h e more same = rw (e, same) (by start h more)
  where
    by : (start : Option _) → ArePlaces start nodes given → length (found_or start nodes) ≤ length nodes' → ArePlaces None nodes' given
    by None h more k c = omega (arith, h k c, more)
    by (Some x) h more k c = absurd (no_place k (rw h.1 at c))

-- one place more, where no node was taken away
pub more_places : {N : Type 0} (start : Option N) (nodes nodes' : List N) (given given' : List ℕ) (n : ℕ) → ArePlaces start nodes given → start ≡ None → length nodes ≤ length nodes' → n < length nodes → given' ≡ given ++ n ∷ [] → ArePlaces start nodes' given'
more_places start nodes nodes' given given' n h e more inside same =
    let before = rw e at h in
    rw (e, same) (λ k c. elim (Contains-append_cases given (n ∷ []) k c) as (λ _. k < length nodes') [ inl g ↦ omega (arith, before k g, more) | inr g ↦ omega (arith, only n k g, inside, more) ])

-- as many nodes were given as places
pub as_many : {N : Type 0} (start : Option N) (nodes : List N) (given : List ℕ) → ArePlaces start nodes given → length (nodes_at (found_or start nodes) given) ≡ length given
as_many None nodes given h = by given h
  where
    by : (given : List ℕ) → ((k : ℕ) → Contains given k → k < length nodes) → length (nodes_at nodes given) ≡ length given
    by [] h = refl
    by (k ∷ ks) h =
        let x = get_below nodes k (h k (0, omega arith, refl)) in
        rw x.1 (ap suc (by ks (λ j c. h j (Contains-append_right (k ∷ []) ks j c))))
as_many (Some x) nodes given h = rw h.1 refl

module _ {N : Type 0} (eq : N → N → Bool) (laws : IsEquivalence eq) (next : N → List N) (start : N) where
  -- a number stands for one node, up to equality
  same_node_of : (keys : List N) (k : ℕ) (x y : N) → StandsFor eq keys k x → StandsFor eq keys k y → eq x y ≡ true
  same_node_of keys k x y a b =
      let e : Some a.0 ≡ Some b.0 = sym a.1 ∙ b.1 in
      let same : a.0 ≡ b.0 = cc in
      eq-trans eq laws x a.0 y (eq-sym eq laws a.0 x a.2) (subst (λ z. eq z y ≡ true) (sym same) b.2)

  -- at numbers that stand for nodes are the same nodes
  same_at : (keys : List N) (places : List ℕ) (nodes : List N) → AllZip (StandsFor eq keys) places nodes → SameNodes eq (nodes_at keys places) nodes
  same_at keys [] [] z = tt
  same_at keys [] (y ∷ ys) z = absurd z
  same_at keys (k ∷ ks) [] z = absurd z
  same_at keys (k ∷ ks) (y ∷ ys) z = rw z.0.1 (z.0.2, same_at keys ks ys z.1)

  next_tree : (given path path' : List N) → IsNextPath eq next given path path' → IsNextTreePath eq next start given path path'
  next_tree given [] path' n = absurd (none n.front n.from)
    where
      none : (front : List N) → [] ≡ front ++ n.here ∷ n.back → ⊥
      none [] e = cc
      none (x ∷ front) e = cc
  next_tree given (a ∷ w) path' n = n

  -- the ends of edges at cost 1 are the successors
  pub unit_ends : (x : N) → targets (unit_edges next) x ≡ next x
  unit_ends x = same (next x)
    where
      same : (xs : List N) → map (λ (e : N × ℤ). e.0) (map (λ (y : N). (y, pos 1)) xs) ≡ xs
      same [] = refl
      same (y ∷ ys) = ap (λ l. y ∷ l) (same ys)

  -- a clone of a found node
  pub clone_same : (keys : List N) (k : ℕ) (last at node : N) → StandsFor eq keys k last → slice_get keys k ≡ Some at → eq at node ≡ true → eq last node ≡ true
  clone_same keys k last at node s g e = same_node_of keys k last node s (at, g, e)

module _ {N F : Type 0} (eq : N → N → Bool) (laws : IsEquivalence eq) (next : N → List N) (start : N) where
  -- where a walk stands, whose given nodes are those at the places of its stack
  stands : (paths : List (List N)) (s : DepthWalk N F) → s.given ≡ nodes_at s.found s.stack.given → IsPreorder eq next start paths → SameNodes eq s.found (found_from eq next start (last_nodes paths)) → IsStack eq next start paths s.found s.stack → StandsAt eq next start paths s
  stands paths s given preorder found stack = record {
    preorder = preorder;
    given = rw given (same_at eq laws next start s.found s.stack.given (last_nodes paths) stack.given);
    found = found;
    stack = stack;
  }

  -- nodes that were visited were given
  visited_given : (paths : List (List N)) (s : DepthWalk N F) → StandsAt eq next start paths s → (ys : List N) → AreVisited next (StandsFor eq s.found) (IsVisited s.stack.visited) ys → (y : N) → HasNode eq ys y → HasNode eq (last_nodes paths) y
  visited_given paths s h ys v y a =
      let f = HasNode-found eq ys y a in
      let j = v f.0 f.1 in
      let x = h.stack.seen j.0 j.1 in
      same_node eq laws next start (last_nodes paths) x.0 y (eq-trans eq laws x.0 f.0 y (same_node_of eq laws next start s.found j.0 x.0 f.0 x.1 j.2) f.2) x.2

  -- branches to visited numbers can be dropped
  pub dropped : (paths : List (List N)) (s t : DepthWalk N F) (passed : List Branch) → StandsAt eq next start paths s → t.given ≡ nodes_at t.found t.stack.given → t.found ≡ s.found → t.stack.given ≡ s.stack.given → t.stack.visited ≡ s.stack.visited → t.stack.path ≡ s.stack.path
      → s.stack.waiting ≡ t.stack.waiting ++ passed → AllByRecursion (λ (b : Branch). IsVisited s.stack.visited b.number) passed → StandsAt eq next start paths t
  dropped paths s t passed h at f g v p w a =
      let pending : IsPending next (StandsFor eq s.found) (IsVisited s.stack.visited) (reverse s.stack.path) (reverse t.stack.waiting) =
      drop_passed next (StandsFor eq s.found) (IsVisited s.stack.visited) (reverse s.stack.path) passed t.stack.waiting a (subst (λ l. IsPending next (StandsFor eq s.found) (IsVisited s.stack.visited) (reverse s.stack.path) (reverse l)) w h.stack.pending) in
      stands paths t at h.preorder (rw f h.found) (record {
        count = ap length g ∙ h.stack.count;
        given = rw (f, g) h.stack.given;
        first = rw f h.stack.first;
        seen = rw (f, v) h.stack.seen;
        marked = rw (f, v) h.stack.marked;
        path = rw (f, p) h.stack.path;
        pending = rw (f, v, p) pending;
      })

  -- where nothing waits, the preorder has ended
  pub ended : (paths : List (List N)) (s : DepthWalk N F) → StandsAt eq next start paths s → s.stack.waiting ≡ [] → ¬ (length s.stack.given ≡ 0) → IsWholePreorder eq next paths
  ended [] s h w some = absurd (some h.stack.count)
  ended (p ∷ paths) s h w some =
      let S = StandsFor eq s.found in
      let V = IsVisited s.stack.visited in
      let all = all_spent next S V (reverse s.stack.path) (subst (λ l. IsPending next S V (reverse s.stack.path) (reverse l)) w h.stack.pending) in
      let spent : AllByRecursion (IsSpent next S V) s.stack.path = subst (AllByRecursion (IsSpent next S V)) (reverse-reverse s.stack.path) (all_reverse (IsSpent next S V) (reverse s.stack.path) all) in
      λ x c y a.
      let q = at_place S (IsSpent next S V) s.stack.path (end_of p paths) x h.stack.path spent c in
      visited_given (p ∷ paths) s h (next x) (q.1 x q.2) y a

  -- the branch that waits first leads to a found node, behind a number of the path
  pub inside : (paths : List (List N)) (s : DepthWalk N F) (rest : List Branch) (b : Branch) → StandsAt eq next start paths s → s.stack.waiting ≡ rest ++ b ∷ [] → (b.number < length s.found) × (b.depth ≤ length s.stack.path)
  inside paths s rest b h w =
      let S = StandsFor eq s.found in
      let V = IsVisited s.stack.visited in
      let k = way_on next S V (reverse s.stack.path) b (reverse rest) (subst (λ l. IsPending next S V (reverse s.stack.path) l) (ap reverse w ∙ reverse-append rest (b ∷ [])) h.stack.pending) in
      let n = k.next k.pending.3.0 k.pending.3.1 in
      (StandsFor-inside eq s.found b.number n.1 n.5, omega (arith, k.deep, ap length k.split, length-append k.back (k.here ∷ k.up), length-reverse s.stack.path))

  -- one more number was visited
  pub record Visits (b : Branch) (s t : DepthWalk N F) : Type 0 where
    pub stays : (k : ℕ) (x : N) → StandsFor eq s.found k x → StandsFor eq t.found k x
    pub back : (k : ℕ) (x : N) → k < length s.found → StandsFor eq t.found k x → StandsFor eq s.found k x
    pub one : (i j : ℕ) (x : N) → StandsFor eq s.found i x → StandsFor eq s.found j x → i ≡ j
    pub at : t.given ≡ nodes_at t.found t.stack.given
    pub given : t.stack.given ≡ s.stack.given ++ b.number ∷ []
    pub visited : (k : ℕ) → IsVisited t.stack.visited k ↔ (IsVisited s.stack.visited k ⊎ (k ≡ b.number))
    pub path : t.stack.path ≡ take b.depth s.stack.path ++ b.number ∷ []
    pub numbers : List ℕ
    pub waiting : t.stack.waiting ≡ s.stack.waiting ++ branches_at (length t.stack.path) (reverse (not_visited t.stack.visited numbers))
    pub lists : (x : N) → StandsFor eq s.found b.number x → AllZip (StandsFor eq t.found) numbers (next x)
    pub found : (x : N) → StandsFor eq s.found b.number x → SameNodes eq (insert_all eq s.found (next x)) t.found

  -- the walk has gone along one more tree path, to a number
  abbrev pub Went : List (List N) → DepthWalk N F → DepthWalk N F → Branch → Type 0
  Went paths s t b = (path : List N) × (last : N) × IsNextTreePath eq next start (last_nodes paths) (end_of [] paths) path × (last_nodes (path ∷ []) ≡ last ∷ []) × StandsFor eq s.found b.number last × StandsAt eq next start (paths ++ path ∷ []) t

  -- what is left to show of the new tree path
  went : (paths : List (List N)) (s t : DepthWalk N F) (b : Branch) (kept : List N) (last : N) → StandsAt eq next start paths s → Visits b s t → IsNextTreePath eq next start (last_nodes paths) (end_of [] paths) (kept ++ last ∷ [])
      → StandsFor eq s.found b.number last → AllZip (StandsFor eq t.found) t.stack.path (kept ++ last ∷ []) → IsPending next (StandsFor eq t.found) (IsVisited t.stack.visited) (reverse t.stack.path) (reverse t.stack.waiting) → Went paths s t b
  went paths s t b kept last h v n at z pending = (
    kept ++ last ∷ [],
    last,
    n,
    last_node_of kept last,
    at,
    stands (paths ++ (kept ++ last ∷ []) ∷ []) t v.at (preorder_push eq laws next start paths (kept ++ last ∷ []) h.preorder n)
        (subst (λ l. SameNodes eq t.found (found_from eq next start l)) (sym all) (subst (λ l. SameNodes eq t.found l) (sym (found-push eq laws next start (last_nodes paths) last))
        (Same-trans eq laws t.found (insert_all eq s.found (next last)) (insert_all eq (found_from eq next start (last_nodes paths)) (next last)) (Same-sym eq laws (insert_all eq s.found (next last)) t.found (v.found last at))
        (Same-insert_all eq laws s.found (found_from eq next start (last_nodes paths)) (next last) (next last) h.found (SameNodes-refl eq laws.refl (next last))))))
        (record {
          count = omega (arith, ap length v.given, length-append s.stack.given (b.number ∷ []), h.stack.count, length-append paths ((kept ++ last ∷ []) ∷ []));
          given = rw (v.given, all) (AllZip-append (StandsFor eq t.found) s.stack.given (last_nodes paths) b.number last (AllZip-map (StandsFor eq s.found) (StandsFor eq t.found) (λ i x. v.stays i x) s.stack.given (last_nodes paths) h.stack.given) (v.stays b.number last at));
          first = v.stays 0 start h.stack.first;
          seen = λ k i. elim ((v.visited k).0 i) as (λ _. (x : N) × StandsFor eq t.found k x × HasNode eq (last_nodes (paths ++ (kept ++ last ∷ []) ∷ [])) x) [
            | inl o ↦ let q = h.stack.seen k o in (q.0, v.stays k q.0 q.1, subst (λ l. HasNode eq l q.0) (sym all) (HasNode-left eq (last_nodes paths) (last ∷ []) q.0 q.2))
            | inr e ↦ (last, subst (λ j. StandsFor eq t.found j last) (sym e) (v.stays b.number last at), subst (λ l. HasNode eq l last) (sym all) (HasNode-right eq (last_nodes paths) (last ∷ []) last (inl (laws.refl last))))
          ];
          marked = λ x i. elim (HasNode-append_cases eq (last_nodes paths) last x (subst (λ l. HasNode eq l x) all i)) as (λ _. (k : ℕ) × IsVisited t.stack.visited k × StandsFor eq t.found k x) [
            | inl o ↦ let q = h.stack.marked x o in (q.0, (v.visited q.0).1 (inl q.1), v.stays q.0 x q.2)
            | inr e ↦ (b.number, (v.visited b.number).1 (inr refl), StandsFor-same eq laws t.found b.number last x (v.stays b.number last at) e)
          ];
          path = subst (λ l. AllZip (StandsFor eq t.found) t.stack.path l) (sym (end_of_push [] paths (kept ++ last ∷ []))) z;
          pending = pending;
        }),
  )
    where
      all : last_nodes (paths ++ (kept ++ last ∷ []) ∷ []) ≡ last_nodes paths ++ last ∷ []
      all = last_nodes_push paths (kept ++ last ∷ []) ∙ ap (λ l. last_nodes paths ++ l) (last_node_of kept last)

  -- the first branch that waits, to a number not visited, leads to the last node of the next tree path
  pub goes_along : (paths : List (List N)) (s t : DepthWalk N F) (rest : List Branch) (b : Branch) → StandsAt eq next start paths s → s.stack.waiting ≡ rest ++ b ∷ [] → ¬ (IsVisited s.stack.visited b.number) → Visits b s t → Went paths s t b
  goes_along paths s t rest b h w fresh v =
      let S = StandsFor eq s.found in
      let V = IsVisited s.stack.visited in
      let order : reverse s.stack.waiting ≡ b ∷ reverse rest = ap reverse w ∙ reverse-append rest (b ∷ []) in
      let k = way_on next S V (reverse s.stack.path) b (reverse rest) (subst (λ l. IsPending next S V (reverse s.stack.path) l) order h.stack.pending) in
      let cut = cut_path s.stack.path k.back k.up k.here b.depth k.split k.deep in
      let zip = split_zip S (reverse (k.here ∷ k.up)) (reverse k.back) (end_of [] paths) (subst (λ l. AllZip S l (end_of [] paths)) cut.1 h.stack.path) in
      let kept = zip.0 in
      let turned : reverse (k.here ∷ k.up) ≡ reverse k.up ++ k.here ∷ [] = reverse-append (k.here ∷ []) k.up in
      let ends = split_zip S (reverse k.up) (k.here ∷ []) kept (subst (λ l. AllZip S l kept) turned zip.3) in
      by S k.here ends.0 ends.1 ends.2 ends.4 (λ front here whole at.
      let n = k.next here at in
      let first = n.1 in
      let path' : t.stack.path ≡ reverse (k.here ∷ k.up) ++ b.number ∷ [] = v.path ∙ ap (λ l. l ++ b.number ∷ []) cut.0 in
      let back : reverse t.stack.path ≡ b.number ∷ k.here ∷ k.up = ap reverse path' ∙ reverse-append (reverse (k.here ∷ k.up)) (b.number ∷ []) ∙ ap (λ l. b.number ∷ l) (reverse-reverse (k.here ∷ k.up)) in
      let long : length t.stack.path ≡ length (k.here ∷ k.up) + 1 = omega (arith, ap length path', length-append (reverse (k.here ∷ k.up)) (b.number ∷ []), length-reverse (k.here ∷ k.up)) in
      let spent = all_reverse (IsSpent next S V) k.back k.passed in
      let step : IsNextPath eq next (last_nodes paths) (end_of [] paths) (kept ++ first ∷ []) = record {
        front = front;
        here = here;
        back = zip.1;
        next = first;
        from = zip.2 ∙ ap (λ l. l ++ zip.1) whole ∙ append_assoc front (here ∷ []) zip.1;
        to = ap (λ l. l ++ first ∷ []) whole ∙ append_assoc front (here ∷ []) (first ∷ []);
        passed = λ x c y a. let q = at_place S (IsSpent next S V) (reverse k.back) zip.1 x zip.4 spent c in visited_given paths s h (next x) (q.1 x q.2) y a;
        before = n.0;
        first = first;
        after = n.2;
        answer = n.3;
        same = laws.refl first;
        earlier = λ y a. visited_given paths s h n.0 n.4 y a;
        new = λ a. let q = h.stack.marked first a in fresh (subst V (v.one q.0 b.number first q.2 n.5) q.1);
      } in
      went paths s t b kept first h v (next_tree eq laws next start (last_nodes paths) (end_of [] paths) (kept ++ first ∷ []) step) n.5
      (subst (λ l. AllZip (StandsFor eq t.found) l (kept ++ first ∷ [])) (sym path')
      (AllZip-append (StandsFor eq t.found) (reverse (k.here ∷ k.up)) kept b.number first (AllZip-map S (StandsFor eq t.found) (λ i x. v.stays i x) (reverse (k.here ∷ k.up)) kept zip.3) (v.stays b.number first n.5)))
      (subst (λ l. IsPending next (StandsFor eq t.found) (IsVisited t.stack.visited) l (reverse t.stack.waiting)) (sym back)
      (visit_pending next S (StandsFor eq t.found) V (IsVisited t.stack.visited) v.stays (λ i x y a c. v.back i y (StandsFor-inside eq s.found i x a) c) (λ i o. (v.visited i).1 (inl o)) (k.here ∷ k.up) (not_visited t.stack.visited v.numbers) s.stack.waiting t.stack.waiting b first
      (subst (λ l. IsPending next S V (k.here ∷ k.up) l) (sym order) k.pending) (v.stays b.number first n.5)
      (λ y a. unvisited_left next (StandsFor eq t.found) t.stack.visited v.numbers (next y) (v.lists y (v.back b.number y (StandsFor-inside eq s.found b.number first n.5) a)))
      (v.waiting ∙ ap (λ m. s.stack.waiting ++ branches_at m (reverse (not_visited t.stack.visited v.numbers))) long))))
    where
      by : {kept : List N} {G : Type 0} (S : ℕ → N → Type 0) (k : ℕ) (front ends : List N) → kept ≡ front ++ ends → AllZip S (k ∷ []) ends → ((front : List N) (here : N) → kept ≡ front ++ here ∷ [] → S k here → G) → G
      by S k front [] e z f = absurd z
      by S k front (x ∷ []) e z f = f front x e z.0
      by S k front (x ∷ y ∷ ends) e z f = absurd z.1

  -- the start is the first tree path alone
  pub begins : (paths : List (List N)) (s t : DepthWalk N F) (b : Branch) → b.number ≡ 0 → b.depth ≡ 0 → StandsAt eq next start paths s → length s.stack.given ≡ 0 → Visits b s t → Went paths s t b
  begins (p ∷ paths) s t b z d h none v = absurd (omega (arith, h.stack.count, none))
  begins [] s t b z d h none v =
      let S' = StandsFor eq t.found in
      let empty : s.stack.path ≡ [] = no_path s.stack.path h.stack.path in
      let at : StandsFor eq s.found b.number start = subst (λ k. StandsFor eq s.found k start) (sym z) h.stack.first in
      let path' : t.stack.path ≡ b.number ∷ [] = v.path ∙ ap (λ l. take b.depth l ++ b.number ∷ []) empty ∙ ap (λ l. l ++ b.number ∷ []) (take_none b.depth) in
      let nothing : reverse s.stack.waiting ≡ [] = subst (λ l. IsPending next (StandsFor eq s.found) (IsVisited s.stack.visited) (reverse l) (reverse s.stack.waiting)) empty h.stack.pending in
      went [] s t b [] start h v refl at (subst (λ l. AllZip S' l (start ∷ [])) (sym path') (v.stays b.number start at, tt))
      (subst (λ l. IsPending next S' (IsVisited t.stack.visited) (reverse l) (reverse t.stack.waiting)) (sym path')
      (visit_pending next (StandsFor eq s.found) S' (IsVisited s.stack.visited) (IsVisited t.stack.visited) v.stays (λ i x y a c. v.back i y (StandsFor-inside eq s.found i x a) c) (λ i o. (v.visited i).1 (inl o)) [] (not_visited t.stack.visited v.numbers) s.stack.waiting t.stack.waiting b start
      nothing (v.stays b.number start at) (λ y a. unvisited_left next S' t.stack.visited v.numbers (next y) (v.lists y (v.back b.number y (StandsFor-inside eq s.found b.number start at) a)))
      (v.waiting ∙ ap (λ m. s.stack.waiting ++ branches_at m (reverse (not_visited t.stack.visited v.numbers))) (ap length path'))))
    where
      no_path : (ks : List ℕ) → AllZip (StandsFor eq s.found) ks [] → ks ≡ []
      no_path [] z = refl
      no_path (k ∷ ks) z = absurd z

      take_none : (n : ℕ) → take {A = ℕ} n [] ≡ []
      take_none zero = refl
      take_none (suc n) = refl

  -- a refused visit leaves the walk where it is
  pub stays_put : (paths : List (List N)) (s t : DepthWalk N F) → StandsAt eq next start paths s → t.given ≡ nodes_at t.found t.stack.given → t.stack.given ≡ s.stack.given → t.stack.path ≡ s.stack.path → t.stack.waiting ≡ s.stack.waiting → ((k : ℕ) → IsVisited t.stack.visited k ↔ IsVisited s.stack.visited k)
      → ((k : ℕ) (x : N) → StandsFor eq s.found k x → StandsFor eq t.found k x) → ((k : ℕ) (x : N) → k < length s.found → StandsFor eq t.found k x → StandsFor eq s.found k x) → SameNodes eq s.found t.found → StandsAt eq next start paths t
  stays_put paths s t h at g p w v stays back same = stands paths t at h.preorder (Same-trans eq laws t.found s.found (found_from eq next start (last_nodes paths)) (Same-sym eq laws s.found t.found same) h.found) (record {
    count = ap length g ∙ h.stack.count;
    given = rw g (AllZip-map (StandsFor eq s.found) (StandsFor eq t.found) (λ i x. stays i x) s.stack.given (last_nodes paths) h.stack.given);
    first = stays 0 start h.stack.first;
    seen = λ k i. let q = h.stack.seen k ((v k).0 i) in (q.0, stays k q.0 q.1, q.2);
    marked = λ x i. let q = h.stack.marked x i in (q.0, (v q.0).1 q.1, stays q.0 x q.2);
    path = subst (λ l. AllZip (StandsFor eq t.found) l (end_of [] paths)) (sym p) (AllZip-map (StandsFor eq s.found) (StandsFor eq t.found) (λ i x. stays i x) s.stack.path (end_of [] paths) h.stack.path);
    pending = subst (λ l. IsPending next (StandsFor eq t.found) (IsVisited t.stack.visited) (reverse l) (reverse t.stack.waiting)) (sym p)
        (subst (λ l. IsPending next (StandsFor eq t.found) (IsVisited t.stack.visited) (reverse s.stack.path) (reverse l)) (sym w)
        (pending_stays next (StandsFor eq s.found) (StandsFor eq t.found) (IsVisited s.stack.visited) (IsVisited t.stack.visited) stays (λ i x y a c. back i y (StandsFor-inside eq s.found i x a) c) (λ i o. (v i).1 o) (reverse s.stack.path) (reverse s.stack.waiting) h.stack.pending));
  })

  -- the branch to take leads to a found node, behind numbers of the path
  pub leads_inside : (paths : List (List N)) (s : DepthWalk N F) (b : Branch) → StandsAt eq next start paths s → IsNextBranch (length s.stack.given) s.stack.visited s.stack.waiting b → (b.number < length s.found) × (b.depth ≤ length s.stack.path)
  leads_inside paths s b h (inl n) = let i = StandsFor-inside eq s.found 0 start h.stack.first in (omega (arith, i, n.1), omega (arith, n.2))
  leads_inside paths s b h (inr n) = inside paths s n.1.0 b h n.1.1

  -- a branch that waits, to a number not visited, leads on from a node of the last tree path
  waits_on : (paths : List (List N)) (s : DepthWalk N F) (rest : List Branch) (b : Branch) → StandsAt eq next start paths s → ((i j : ℕ) (x : N) → StandsFor eq s.found i x → StandsFor eq s.found j x → i ≡ j)
      → s.stack.waiting ≡ rest ++ b ∷ [] → ¬ (IsVisited s.stack.visited b.number) → ¬ (IsWholePreorder eq next paths)
  waits_on [] s rest b h one w fresh whole = whole
  waits_on (p ∷ paths) s rest b h one w fresh whole =
      let S = StandsFor eq s.found in
      let V = IsVisited s.stack.visited in
      let order : reverse s.stack.waiting ≡ b ∷ reverse rest = ap reverse w ∙ reverse-append rest (b ∷ []) in
      let k = way_on next S V (reverse s.stack.path) b (reverse rest) (subst (λ l. IsPending next S V (reverse s.stack.path) l) order h.stack.pending) in
      let cut = cut_path s.stack.path k.back k.up k.here b.depth k.split k.deep in
      let zip = split_zip S (reverse (k.here ∷ k.up)) (reverse k.back) (end_of p paths) (subst (λ l. AllZip S l (end_of p paths)) cut.1 h.stack.path) in
      let here = ends_at S k.here k.up zip.0 zip.3 in
      let n = k.next here.0 here.2 in
      let there : Contains (end_of p paths) here.0 = subst (λ l. Contains l here.0) (sym zip.2) (Contains-append_left zip.0 zip.1 here.0 here.1) in
      let follows : HasNode eq (next here.0) n.1 = subst (λ l. HasNode eq l n.1) (sym n.3) (HasNode-right eq n.0 (n.1 ∷ n.2) n.1 (inl (laws.refl n.1))) in
      let q = h.stack.marked n.1 (whole here.0 there n.1 follows) in
      fresh (subst V (one q.0 b.number n.1 q.2 n.5) q.1)
    where
      ends_at : (S : ℕ → N → Type 0) (k : ℕ) (up : List ℕ) (nodes : List N) → AllZip S (reverse (k ∷ up)) nodes → (x : N) × Contains nodes x × S k x
      ends_at S k up nodes z = node_at S k (reverse (k ∷ up)) nodes z (subst (λ l. Contains l k) (sym (reverse-append (k ∷ []) up)) (Contains-append_right (reverse up) (k ∷ []) k (0, omega arith, refl)))

  -- where there is a branch to take, the preorder has not ended
  pub goes_further : (paths : List (List N)) (s : DepthWalk N F) (b : Branch) → StandsAt eq next start paths s → ((i j : ℕ) (x : N) → StandsFor eq s.found i x → StandsFor eq s.found j x → i ≡ j) → IsNextBranch (length s.stack.given) s.stack.visited s.stack.waiting b → ¬ (IsWholePreorder eq next paths)
  goes_further [] s b h one n whole = whole
  goes_further (p ∷ paths) s b h one (inl n) whole = omega (arith, h.stack.count, n.0)
  goes_further (p ∷ paths) s b h one (inr n) whole = waits_on (p ∷ paths) s n.1.0 b h one n.1.1 n.2 whole

  -- nothing was given yet
  pub unbegun : (paths : List (List N)) (s : DepthWalk N F) → StandsAt eq next start paths s → length s.stack.given ≡ 0 → ¬ (IsWholePreorder eq next paths)
  unbegun [] s h none whole = whole
  unbegun (p ∷ paths) s h none whole = omega (arith, h.stack.count, none)

  -- how many nodes are found and not yet given
  pub low_bound : (paths : List (List N)) (s : DepthWalk N F) → StandsAt eq next start paths s → length s.found - length s.given ≡ length (found_from eq next start (last_nodes paths)) - length paths
  low_bound paths s h =
      let found = Same-length eq s.found (found_from eq next start (last_nodes paths)) h.found in
      let given = Same-length eq s.given (last_nodes paths) h.given in
      omega (arith, found, given, zip_length (StandsFor eq s.found) s.stack.given (last_nodes paths) h.stack.given, h.stack.count)

  -- where the branch to take leads, and how the walk goes on
  pub goes_to : (paths : List (List N)) (s t : DepthWalk N F) (b : Branch) → StandsAt eq next start paths s → IsNextBranch (length s.stack.given) s.stack.visited s.stack.waiting b → Visits b s t → Went paths s t b
  goes_to paths s t b h (inl n) v = begins paths s t b n.1 n.2 h n.0 v
  goes_to paths s t b h (inr n) v = goes_along paths s t n.1.0 b h n.1.1 n.2 v

module _ {N F : Type 0} (eq : N → N → Bool) (laws : IsEquivalence eq) (answers : F → (N → Type 0) → (N → List N) → Type 0) (next : N → List N) (start : N) where
  -- a refused step stays
  pub err_goes : {E : Type 0} (paths : List (List N)) (t : DepthWalk N F) → ¬ (IsWholePreorder eq next paths) → IsDepthWalk eq answers next start paths t → (r : Result (Option N) E) → IsErr r → DepthGoes eq next start (λ done. IsDepthWalk eq answers next start done t) paths r
  err_goes paths t n w (Ok x) h = cc
  err_goes paths t n w (Err e) h = (n, w)

  -- how a walk goes whose start was put in
  pub goes_put : (paths : List (List N)) (o : Option N) (keys : List N) (stack : DepthStack) (refused : Bool) (f : F) (r : Result (Option N) PathError) → o ≡ None → DepthGoes eq next start (λ done. IsDepthWalk eq answers next start done (walk_with keys stack refused f)) paths r
      → DepthGoes eq next start (λ done. IsDepthWalk eq answers next start done (walk_with (found_or o keys) stack refused f)) paths r
  goes_put paths o keys stack refused f r e h = subst (λ (q : Option N). DepthGoes eq next start (λ done. IsDepthWalk eq answers next start done (walk_with (found_or q keys) stack refused f)) paths r) (sym e) h

  -- what holds once the branch to take was looked up
  pub looked : (paths : List (List N)) (s t : DepthWalk N F) (passed : List Branch) → IsDepthWalk eq answers next start paths s → t.given ≡ nodes_at t.found t.stack.given → t.found ≡ s.found → t.stack.given ≡ s.stack.given → t.stack.visited ≡ s.stack.visited → t.stack.path ≡ s.stack.path → t.successors ≡ s.successors
      → s.stack.waiting ≡ t.stack.waiting ++ passed → AllByRecursion (λ (b : Branch). IsVisited s.stack.visited b.number) passed → IsDepthWalk eq answers next start paths t
  looked paths s t passed w at f g v p e q a = record {
    stands = dropped eq laws next start paths s t passed w.stands at f g v p q a;
    explores = subst (λ l. Explores eq (AnswersHops eq answers) (record { starts = start ∷ []; edges = unit_edges next }) l (record { function = t.successors })) (sym f)
        (subst (λ l. Explores eq (AnswersHops eq answers) (record { starts = start ∷ []; edges = unit_edges next }) s.found (record { function = l })) (sym e) w.explores);
  }

  -- where there is a branch to take, the preorder has not ended
  pub still_goes : (paths : List (List N)) (s : DepthWalk N F) (b : Branch) → IsDepthWalk eq answers next start paths s → IsNextBranch (length s.stack.given) s.stack.visited s.stack.waiting b → ¬ (IsWholePreorder eq next paths)
  still_goes paths s b w n = goes_further eq laws next start paths s b w.stands (λ i j x a c. StandsFor-one eq laws s.found w.explores.distinct i j x a c) n

  module _ (paths : List (List N)) (s t : DepthWalk N F) (w : IsDepthWalk eq answers next start paths s) (grown : Grows (length s.found) (length t.found) (StandsFor eq s.found) (StandsFor eq t.found))
      (explores : Explores eq (AnswersHops eq answers) (record { starts = start ∷ []; edges = unit_edges next }) t.found (record { function = t.successors })) (at : t.given ≡ nodes_at t.found t.stack.given) where
    -- a refused visit leaves the walk where it is
    pub refused_visit : length t.found ≡ length s.found → t.stack.given ≡ s.stack.given → t.stack.path ≡ s.stack.path → t.stack.waiting ≡ s.stack.waiting → ((k : ℕ) → IsVisited t.stack.visited k ↔ IsVisited s.stack.visited k) → IsDepthWalk eq answers next start paths t
    refused_visit l g p q v = record { stands = stays_put eq laws next start paths s t w.stands at g p q v grown.stays grown.back (kept_all eq laws s.found t.found grown l); explores = explores }

    -- a visit goes along the next tree path
    pub visited_node : (b : Branch) (node here : N) → IsNextBranch (length s.stack.given) s.stack.visited s.stack.waiting b → t.stack.given ≡ s.stack.given ++ b.number ∷ [] → ((k : ℕ) → IsVisited t.stack.visited k ↔ (IsVisited s.stack.visited k ⊎ (k ≡ b.number))) → t.stack.path ≡ take b.depth s.stack.path ++ b.number ∷ []
        → (numbers : List ℕ) → t.stack.waiting ≡ s.stack.waiting ++ branches_at (length t.stack.path) (reverse (not_visited t.stack.visited numbers)) → ((x : N) → StandsFor eq s.found b.number x → AllZip (StandsFor eq t.found) numbers (targets (unit_edges next) x))
        → ((x : N) → StandsFor eq s.found b.number x → NumbersInOrder (StandsFor eq t.found) (length s.found) (targets (unit_edges next) x) (length t.found))
        → slice_get s.found b.number ≡ Some here → eq here node ≡ true
        → (path : List N) × IsNextTreePath eq next start (last_nodes paths) (end_of [] paths) path × SameNodes eq (last_nodes (path ∷ [])) (node ∷ []) × IsDepthWalk eq answers next start (paths ++ path ∷ []) t
    visited_node b node here n g v p numbers q l o there e =
        let r = goes_to eq laws next start paths s t b w.stands n (record {
          stays = grown.stays;
          back = grown.back;
          one = λ i j x a c. StandsFor-one eq laws s.found w.explores.distinct i j x a c;
          at = at;
          given = g;
          visited = v;
          path = p;
          numbers = numbers;
          waiting = q;
          lists = λ x a. subst (λ ys. AllZip (StandsFor eq t.found) numbers ys) (unit_ends eq laws next start x) (l x a);
          found = λ x a.
              let in_order : NumbersInOrder (StandsFor eq t.found) (length s.found) (next x) (length t.found) = subst (λ ys. NumbersInOrder (StandsFor eq t.found) (length s.found) ys (length t.found)) (unit_ends eq laws next start x) (o x a) in
              subst (λ zs. SameNodes eq (insert_all eq s.found (next x)) zs) (take_all (length t.found) t.found (omega arith))
              (inserted_in_order eq laws t.found explores.distinct s.found (next x) (length s.found) (length t.found) refl (kept_places eq laws s.found t.found grown) in_order);
        }) in (
          r.0,
          r.2,
          subst (λ ys. SameNodes eq ys (node ∷ [])) (sym r.3) (clone_same eq laws next start s.found b.number r.1 here node r.4 there e, tt),
          record { stands = r.5; explores = explores },
        )

  -- the mark of a refusal says nothing of where the walk stands
  pub marked : (paths : List (List N)) (m : DepthWalk N F) (b : Bool) → IsDepthWalk eq answers next start paths m → IsDepthWalk eq answers next start paths (record m { refused = b })
  marked paths m b w =
      let h = w.stands in
      record { stands = record { preorder = h.preorder; given = h.given; found = h.found; stack = h.stack }; explores = w.explores }

  -- where the walk stands says which nodes were given and found
  same_place : (paths : List (List N)) (s t : DepthWalk N F) → StandsAt eq next start paths s → StandsAt eq next start paths t → SameNodes eq t.given s.given × SameNodes eq t.found s.found
  same_place paths s t h k = (
    Same-trans eq laws t.given (last_nodes paths) s.given k.given (Same-sym eq laws s.given (last_nodes paths) h.given),
    Same-trans eq laws t.found (found_from eq next start (last_nodes paths)) s.found k.found (Same-sym eq laws s.found (found_from eq next start (last_nodes paths)) h.found),
  )

  -- one more node was given
  given_more : (paths : List (List N)) (path : List N) (s t : DepthWalk N F) (node : N) → StandsAt eq next start paths s → StandsAt eq next start (paths ++ path ∷ []) t → SameNodes eq (last_nodes (path ∷ [])) (node ∷ []) → SameNodes eq t.given (s.given ++ node ∷ [])
  given_more paths path s t node h k n =
      Same-trans eq laws t.given (last_nodes paths ++ last_nodes (path ∷ [])) (s.given ++ node ∷ []) (subst (λ l. SameNodes eq t.given l) (last_nodes_push paths path) k.given)
      (Same-append eq (last_nodes paths) s.given (last_nodes (path ∷ [])) (node ∷ []) (Same-sym eq laws s.given (last_nodes paths) h.given) n)

  pub step_of : (paths : List (List N)) (s m : DepthWalk N F) (r : Result (Option N) PathError) → IsDepthWalk eq answers next start paths s → IfErr r (λ e. e ≡ PathError.OutOfMemory) → s.refused ≡ false → DepthGoes eq next start (λ done. IsDepthWalk eq answers next start done m) paths r
      → DepthStep eq next start (λ done w. IsDepthWalk eq answers next start done w) paths s (result_transpose r) (record m { refused = is_err r })
  step_of paths s m (Ok (Some node)) w o h d = (h, refl, given_more paths d.0 s m node w.stands d.3.stands d.2, (d.0, d.1, d.2, marked (paths ++ d.0 ∷ []) m false d.3))
  step_of paths s m (Ok None) w o h d = (sym h, marked paths m false d.1, inr d.0)
  step_of paths s m (Err e) w o h d = let q = same_place paths s m w.stands d.1.stands in (o, h, refl, d.0, q.0, q.1, marked paths m true d.1)

  -- some tree paths are those that the walk has gone along
  pub goes_again : (paths : List (List N)) (s t : DepthWalk N F) (r : Option (Result N PathError)) → DepthStep eq next start (λ done w. IsDepthWalk eq answers next start done w) paths s r t → (done : List (List N)) × IsDepthWalk eq answers next start done t
  goes_again paths s t None d = (paths, d.1)
  goes_again paths s t (Some (Ok node)) d = (paths ++ d.3.0 ∷ [], d.3.3)
  goes_again paths s t (Some (Err e)) d = (paths, d.6)

  -- a walk begins with no tree path
  pub begun : (s : DepthWalk N F) → s.given ≡ nodes_at s.found s.stack.given → s.found ≡ start ∷ [] → s.stack.given ≡ [] → s.stack.visited ≡ [] → s.stack.path ≡ [] → s.stack.waiting ≡ [] → ((x y : N) → IsReachable eq (HasSuccessor eq next) (start ∷ []) x → eq x y ≡ true → SameNodes eq (next x) (next y))
      → answers s.successors (IsReachable eq (HasSuccessor eq next) (start ∷ [])) next → IsDepthWalk eq answers next start [] s
  begun s at f g v p w alike a = record {
    stands = stands eq laws next start [] s at tt (subst (λ l. SameNodes eq l (found_from eq next start [])) (sym f) (laws.refl start, tt)) (record {
      count = ap length g;
      given = rw g tt;
      first = (start, ap (λ l. slice_get l 0) f, laws.refl start);
      seen = λ k i. absurd (none k (subst (λ l. IsVisited l k) v i));
      marked = λ x h. absurd h;
      path = subst (λ l. AllZip (StandsFor eq s.found) l []) (sym p) tt;
      pending = subst (λ l. IsPending next (StandsFor eq s.found) (IsVisited s.stack.visited) (reverse l) (reverse s.stack.waiting)) (sym p) (ap reverse w);
    });
    explores = subst (λ l. Explores eq (AnswersHops eq answers) (record { starts = start ∷ []; edges = unit_edges next }) l (record { function = s.successors })) (sym f)
        (Explores-successors eq laws answers (start ∷ []) (start ∷ []) next s.successors (alone eq start) (λ x. ((λ h. h), (λ h. h))) alike a);
  }
    where
      none : (k : ℕ) → IsVisited [] k → ⊥
      none zero i = cc
      none (suc k) i = cc
