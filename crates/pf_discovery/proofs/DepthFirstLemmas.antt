-- Lemmas on depth-first walks over numbers.
use Rattle.std.proofs.Common.{◌≡◌, ℕ, ◌+◌, zero, suc, Bool, true, false, cond, not, slice_index_or, List, [], ◌∷◌, ◌++◌, ◌∙◌, map, length, take, reverse, refl, sym, ap, subst, arith, inl, inr}
use Rattle.std.specs.Prelude.{Contains}
use Rattle.std.specs.List.{AllZip, AllByRecursion}
use Rattle.std.proofs.lemmas.List.{append-nil, append_assoc, reverse-append, reverse-reverse, length-reverse}
use Rattle.pf_discovery.specs.declared.depth_first.Branch.{Branch}
use Rattle.pf_discovery.specs.DepthFirst.{IsVisited, branches_at, not_visited, WasVisited, AreVisited, AreLeft, IsPending}
use Rattle.pf_discovery.proofs.MarkLemmas.{marked_at}

-- the ends of steps stand for what the steps lead to
pub ends_stand : {X C : Type 0} (stands : ℕ → X → Type 0) (steps : List (ℕ × C)) (ys : List X) → AllZip (λ (r : ℕ × C) (y : X). stands r.0 y) steps ys → AllZip stands (map (λ (s : ℕ × C). s.0) steps) ys
ends_stand stands [] [] h = tt
ends_stand stands [] (y ∷ ys) h = absurd h
ends_stand stands (s ∷ steps) [] h = absurd h
ends_stand stands (s ∷ steps) (y ∷ ys) h = (h.0, ends_stand stands steps ys h.1)

-- an end of a step is a number of the steps
pub end_of_step : {C : Type 0} (steps : List (ℕ × C)) (k : ℕ) → Contains (map (λ (s : ℕ × C). s.0) steps) k → (c : C) × Contains steps (k, c)
end_of_step [] k h = absurd (omega (arith, h.1))
end_of_step ((j, c) ∷ steps) k (zero, l, e) = (c, (0, omega arith, ap (λ (i : ℕ). (i, c)) e))
end_of_step (s ∷ steps) k (suc i, l, e) = let q = end_of_step steps k (i, omega (arith, l), e) in (q.0, (suc q.1.0, omega (arith, q.1.1), q.1.2))

module _ {X : Type 0} (succ : X → List X) (S : ℕ → X → Type 0) (V : ℕ → Type 0) where
  -- all successors of the number's node were visited
  abbrev pub IsSpent : ℕ → Type 0
  IsSpent k = (x : X) → S k x → AreVisited succ S V (succ x)

  -- the number follows the last number of the path that has a successor not visited, and is the first such successor
  pub record IsWayOn (path : List ℕ) (b : Branch) (waiting : List Branch) : Type 0 where
    pub back : List ℕ
    pub here : ℕ
    pub up : List ℕ
    pub split : path ≡ back ++ here ∷ up
    pub deep : b.depth ≡ length up + 1
    pub passed : AllByRecursion IsSpent back
    pub next : (x : X) → S here x → (before : List X) × (first : X) × (after : List X) × (succ x ≡ before ++ first ∷ after) × AreVisited succ S V before × S b.number first
    pub pending : IsPending succ S V (here ∷ up) waiting

  one_more : (numbers : List ℕ) (y : X) (ys : List X) → WasVisited succ S V y → AreLeft succ S V numbers ys → AreLeft succ S V numbers (y ∷ ys)
  one_more [] y ys w h = (w, h)
  one_more (n ∷ numbers) y ys w h = inr (w, h)

  visited_cons : (y : X) (ys : List X) → WasVisited succ S V y → AreVisited succ S V ys → AreVisited succ S V (y ∷ ys)
  visited_cons y ys w v = λ u c. by u c
    where
      by : (u : X) → Contains (y ∷ ys) u → WasVisited succ S V u
      by u (zero, l, e) = subst (WasVisited succ S V) e w
      by u (suc k, l, e) = v u (k, omega (arith, l), e)

  none_visited : AreVisited succ S V []
  none_visited = λ u c. absurd (omega (arith, c.1))

  -- where no number is left, all were visited
  all_visited : (ys : List X) → AreLeft succ S V [] ys → AreVisited succ S V ys
  all_visited [] h = none_visited
  all_visited (y ∷ ys) h = visited_cons y ys h.0 (all_visited ys h.1)

  spent : (k : ℕ) → ((x : X) → S k x → AreLeft succ S V [] (succ x)) → IsSpent k
  spent k h x s = all_visited (succ x) (h x s)

  -- the first number was visited
  step_left : (n : ℕ) (own : List ℕ) (ys : List X) → V n → AreLeft succ S V (n ∷ own) ys → AreLeft succ S V own ys
  step_left n own [] v h = cc
  step_left n own (y ∷ ys) v (inl h) = one_more own y ys (n, v, h.0) h.1
  step_left n own (y ∷ ys) v (inr h) = one_more own y ys h.0 (step_left n own ys v h.1)

  -- a branch to a visited number can be dropped
  drop_one : (path : List ℕ) (b : Branch) (rest : List Branch) → V b.number → IsPending succ S V path (b ∷ rest) → IsPending succ S V path rest
  drop_one [] b rest v h = cc
  drop_one (k ∷ up) b rest v h = go (drop_one up b rest v) h.0 h.2 h.4
    where
      go : (IsPending succ S V up (b ∷ rest) → IsPending succ S V up rest) → (own : List ℕ) → b ∷ rest ≡ branches_at (length up + 1) own ++ h.1 → ((x : X) → S k x → AreLeft succ S V own (succ x)) → IsPending succ S V (k ∷ up) rest
      go deeper [] e r = ([], rest, refl, h.3, r, deeper (subst (λ w. IsPending succ S V up w) (sym e) h.5))
      go deeper (n ∷ own) e r =
          let first : b ≡ record { number = n; depth = length up + 1 } = cc in
          let others : rest ≡ branches_at (length up + 1) own ++ h.1 = cc in
          (own, h.1, others, h.3, λ x s. step_left n own (succ x) (subst (λ (c : Branch). V c.number) first v) (r x s), h.5)

  -- branches to visited numbers can be dropped
  pub drop_passed : (path : List ℕ) (passed waiting : List Branch) → AllByRecursion (λ (b : Branch). V b.number) passed → IsPending succ S V path (reverse (waiting ++ passed)) → IsPending succ S V path (reverse waiting)
  drop_passed path [] waiting a h = subst (λ w. IsPending succ S V path (reverse w)) (append-nil waiting) h
  drop_passed path (b ∷ passed) waiting a h =
      let all : IsPending succ S V path (reverse (waiting ++ b ∷ [])) = drop_passed path passed (waiting ++ b ∷ []) a.1 (subst (λ w. IsPending succ S V path (reverse w)) (sym (append_assoc waiting (b ∷ []) passed)) h) in
      drop_one path b (reverse waiting) a.0 (subst (λ w. IsPending succ S V path w) (reverse-append waiting (b ∷ [])) all)

  -- where nothing waits, all successors of the path were visited
  pub all_spent : (path : List ℕ) → IsPending succ S V path [] → AllByRecursion IsSpent path
  all_spent [] h = tt
  all_spent (k ∷ up) h = go (all_spent up) h.0 h.2 h.4
    where
      go : (IsPending succ S V up [] → AllByRecursion IsSpent up) → (own : List ℕ) → [] ≡ branches_at (length up + 1) own ++ h.1 → ((x : X) → S k x → AreLeft succ S V own (succ x)) → AllByRecursion IsSpent (k ∷ up)
      go deeper [] e r = (spent k r, deeper (subst (λ w. IsPending succ S V up w) (sym e) h.5))
      go deeper (n ∷ own) e r = cc

  -- the branch that waits first is the way on
  pub way_on : (path : List ℕ) (b : Branch) (rest : List Branch) → IsPending succ S V path (b ∷ rest) → IsWayOn path b (b ∷ rest)
  way_on [] b rest h = cc
  way_on (k ∷ up) b rest h = go (way_on up b rest) h.0 h.2 h.4
    where
      first_of : (n : ℕ) (own : List ℕ) → b ≡ record { number = n; depth = length up + 1 } → (ys : List X) → AreLeft succ S V (n ∷ own) ys
          → (before : List X) × (first : X) × (after : List X) × (ys ≡ before ++ first ∷ after) × AreVisited succ S V before × S b.number first
      first_of n own same [] z = cc
      first_of n own same (y ∷ ys) (inl z) = ([], y, ys, refl, none_visited, subst (λ (c : Branch). S c.number y) (sym same) z.0)
      first_of n own same (y ∷ ys) (inr z) = let q = first_of n own same ys z.1 in (y ∷ q.0, q.1, q.2, ap (λ l. y ∷ l) q.3, visited_cons y q.0 z.0 q.4, q.5)

      go : (IsPending succ S V up (b ∷ rest) → IsWayOn up b (b ∷ rest)) → (own : List ℕ) → b ∷ rest ≡ branches_at (length up + 1) own ++ h.1 → ((x : X) → S k x → AreLeft succ S V own (succ x)) → IsWayOn (k ∷ up) b (b ∷ rest)
      go deeper [] e r =
          let w = deeper (subst (λ w. IsPending succ S V up w) (sym e) h.5) in
          record {
            back = k ∷ w.back;
            here = w.here;
            up = w.up;
            split = ap (λ l. k ∷ l) w.split;
            deep = w.deep;
            passed = (spent k r, w.passed);
            next = w.next;
            pending = w.pending;
          }
      go deeper (n ∷ own) e r =
          let first : b ≡ record { number = n; depth = length up + 1 } = cc in
          record {
            back = [];
            here = k;
            up = up;
            split = refl;
            deep = subst (λ (c : Branch). c.depth ≡ length up + 1) (sym first) refl;
            passed = tt;
            next = λ x s. first_of n own first (succ x) (r x s);
            pending = h;
          }

-- what waits stays so while numbers are added and more are visited
module _ {X : Type 0} (succ : X → List X) (S S' : ℕ → X → Type 0) (V V' : ℕ → Type 0) (stays : (k : ℕ) (x : X) → S k x → S' k x) (back : (k : ℕ) (x y : X) → S k x → S' k y → S k y) (more : (k : ℕ) → V k → V' k) where
  left_stays : (numbers : List ℕ) (ys : List X) → AreLeft succ S V numbers ys → AreLeft succ S' V' numbers ys
  left_stays numbers [] h = h
  left_stays [] (y ∷ ys) h = ((h.0.0, more h.0.0 h.0.1, stays h.0.0 y h.0.2), left_stays [] ys h.1)
  left_stays (n ∷ numbers) (y ∷ ys) (inl h) = inl (stays n y h.0, left_stays numbers ys h.1)
  left_stays (n ∷ numbers) (y ∷ ys) (inr h) = inr ((h.0.0, more h.0.0 h.0.1, stays h.0.0 y h.0.2), left_stays (n ∷ numbers) ys h.1)

  pub pending_stays : (path : List ℕ) (waiting : List Branch) → IsPending succ S V path waiting → IsPending succ S' V' path waiting
  pending_stays [] waiting h = h
  pending_stays (k ∷ up) waiting h = (h.0, h.1, h.2, (h.3.0, stays k h.3.0 h.3.1), λ x s. left_stays h.0 (succ x) (h.4 x (back k h.3.0 x h.3.1 s)), pending_stays up h.1 h.5)

  -- one more number is visited
  pub visit_pending : (path numbers : List ℕ) (waiting new : List Branch) (b : Branch) (x : X) → IsPending succ S V path (reverse waiting) → S' b.number x → ((y : X) → S' b.number y → AreLeft succ S' V' numbers (succ y))
      → new ≡ waiting ++ branches_at (length path + 1) (reverse numbers) → IsPending succ S' V' (b.number ∷ path) (reverse new)
  visit_pending path numbers waiting new b x h s z e = (
    numbers,
    reverse waiting,
    ap reverse e ∙ reverse-append waiting (branches_at (length path + 1) (reverse numbers)) ∙ ap (λ l. l ++ reverse waiting) (turned (length path + 1) (reverse numbers) ∙ ap (branches_at (length path + 1)) (reverse-reverse numbers)),
    (x, s),
    z,
    pending_stays path (reverse waiting) h,
  )
    where
      turned : (d : ℕ) (ns : List ℕ) → reverse (branches_at d ns) ≡ branches_at d (reverse ns)
      turned d [] = refl
      turned d (n ∷ ns) =
          let one : Branch = record { number = n; depth = d } in
          reverse-append (one ∷ []) (branches_at d ns) ∙ ap (λ l. l ++ one ∷ []) (turned d ns) ∙ sym (ap (branches_at d) (reverse-append (n ∷ []) ns) ∙ pushed d (reverse ns) n)
        where
          pushed : (d : ℕ) (ns : List ℕ) (n : ℕ) → branches_at d (ns ++ n ∷ []) ≡ branches_at d ns ++ record { number = n; depth = d } ∷ []
          pushed d [] n = refl
          pushed d (m ∷ ns) n = ap (λ l. record { number = m; depth = d } ∷ l) (pushed d ns n)

module _ {X : Type 0} (succ : X → List X) (S : ℕ → X → Type 0) (visited : List Bool) where
  -- the numbers of all nodes of a list, but for those that were visited
  pub unvisited_left : (numbers : List ℕ) (ys : List X) → AllZip S numbers ys → AreLeft succ S (IsVisited visited) (not_visited visited numbers) ys
  unvisited_left [] [] z = refl
  unvisited_left [] (y ∷ ys) z = absurd z
  unvisited_left (n ∷ numbers) [] z = absurd z
  unvisited_left (n ∷ numbers) (y ∷ ys) z = by (slice_index_or visited n false) refl (unvisited_left numbers ys z.1)
    where
      by : (b : Bool) → slice_index_or visited n false ≡ b → AreLeft succ S (IsVisited visited) (not_visited visited numbers) ys → AreLeft succ S (IsVisited visited) (cond (not b) (n ∷ not_visited visited numbers) (not_visited visited numbers)) (y ∷ ys)
      by true e h = one_more succ S (IsVisited visited) (not_visited visited numbers) y ys (n, marked_at visited n e, z.0) h
      by false e h = inl (z.0, h)

take_front : {A : Type 0} (xs ys : List A) → take (length xs) (xs ++ ys) ≡ xs
take_front [] ys = refl
take_front (x ∷ xs) ys = ap (λ l. x ∷ l) (take_front xs ys)

-- the path up to the number that the way on follows
pub cut_path : (path back up : List ℕ) (here depth : ℕ) → reverse path ≡ back ++ here ∷ up → depth ≡ length up + 1 → (take depth path ≡ reverse (here ∷ up)) × (path ≡ reverse (here ∷ up) ++ reverse back)
cut_path path back up here depth e d =
    let whole : path ≡ reverse (here ∷ up) ++ reverse back = sym (reverse-reverse path) ∙ ap reverse e ∙ reverse-append back (here ∷ up) in
    let long : depth ≡ length (reverse (here ∷ up)) = omega (arith, d, length-reverse (here ∷ up)) in
    (ap (take depth) whole ∙ subst (λ n. take n (reverse (here ∷ up) ++ reverse back) ≡ reverse (here ∷ up)) (sym long) (take_front (reverse (here ∷ up)) (reverse back)), whole)
