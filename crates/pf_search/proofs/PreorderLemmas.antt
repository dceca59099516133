-- What follows from the definition of a preorder.
use Rattle.std.proofs.Common.{◌≡◌, zero, suc, Bool, true, List, [], ◌∷◌, ◌++◌, ◌∙◌, refl, sym, ap, subst, arith, inl, inr}
use Rattle.std.specs.Prelude.{◌⊎◌, Contains}
use Rattle.std.specs.Cmp.{IsEquivalence}
use Rattle.std.proofs.lemmas.List.{append-nil, append_assoc}
use Rattle.std.proofs.lemmas.List.Elements.{Contains-append_left, Contains-append_right, Contains-append_cases}
use Rattle.pf_base.specs.Walks.{HasNode, NoRepeats, end_of, Follows, IsWalk, BeginsAt, EndsAt, IsReachable}
use Rattle.pf_base.specs.Answers.{SameNodes}
use Rattle.pf_base.specs.Successors.{HasSuccessor}
use Rattle.pf_base.specs.Orders.{last_nodes, IsNextTreePath, GoesOnInPreorder, IsPreorder, IsWholePreorder}
use Rattle.pf_core.proofs.NodeLemmas.{eq-sym, eq-trans}
use Rattle.pf_core.proofs.PathLemmas.{HasNode-append_cases, NoRepeats-append}

pub end_of_push : {N : Type 0} (y : N) (ys : List N) (x : N) → end_of y (ys ++ x ∷ []) ≡ x
end_of_push y [] x = refl
end_of_push y (z ∷ ys) x = end_of_push z ys x

pub last_node_of : {N : Type 0} (xs : List N) (x : N) → last_nodes ((xs ++ x ∷ []) ∷ []) ≡ x ∷ []
last_node_of [] x = refl
last_node_of (y ∷ ys) x = ap (λ z. z ∷ []) (end_of_push y ys x)

pub last_nodes_push : {N : Type 0} (paths : List (List N)) (path : List N) → last_nodes (paths ++ path ∷ []) ≡ last_nodes paths ++ last_nodes (path ∷ [])
last_nodes_push [] path = refl
last_nodes_push ([] ∷ paths) path = last_nodes_push paths path
last_nodes_push ((x ∷ w) ∷ paths) path = ap (λ l. end_of x w ∷ l) (last_nodes_push paths path)

module _ {N : Type 0} (eq : N → N → Bool) where
  pub HasNode-left : (xs ys : List N) (x : N) → HasNode eq xs x → HasNode eq (xs ++ ys) x
  HasNode-left [] ys x h = absurd h
  HasNode-left (a ∷ xs) ys x (inl h) = inl h
  HasNode-left (a ∷ xs) ys x (inr h) = inr (HasNode-left xs ys x h)

  pub HasNode-right : (xs ys : List N) (x : N) → HasNode eq ys x → HasNode eq (xs ++ ys) x
  HasNode-right [] ys x h = h
  HasNode-right (a ∷ xs) ys x h = inr (HasNode-right xs ys x h)

  NoRepeats-front : (xs ys : List N) → NoRepeats eq (xs ++ ys) → NoRepeats eq xs
  NoRepeats-front [] ys h = tt
  NoRepeats-front (x ∷ xs) ys h = ((λ a. h.0 (HasNode-left xs ys x a)), NoRepeats-front xs ys h.1)

  pub HasNode-contains : (laws : IsEquivalence eq) (xs : List N) (x : N) → Contains xs x → HasNode eq xs x
  HasNode-contains laws [] x (k, l, e) = absurd (omega (arith, l))
  HasNode-contains laws (a ∷ xs) x (zero, l, e) = inl (subst (λ z. eq z x ≡ true) (sym e) (laws.refl x))
  HasNode-contains laws (a ∷ xs) x (suc k, l, e) = inr (HasNode-contains laws xs x (k, omega (arith, l), e))

  pub HasNode-found : (xs : List N) (x : N) → HasNode eq xs x → (y : N) × Contains xs y × (eq y x ≡ true)
  HasNode-found [] x h = absurd h
  HasNode-found (a ∷ xs) x (inl h) = (a, (0, omega arith, refl), h)
  HasNode-found (a ∷ xs) x (inr h) = let q = HasNode-found xs x h in (q.0, Contains-append_right (a ∷ []) xs q.0 q.1, q.2)

pub only : {N : Type 0} (a x : N) → Contains (a ∷ []) x → a ≡ x
only a x (zero, l, e) = e
only a x (suc k, l, e) = absurd (omega (arith, l))

module _ {N : Type 0} (eq : N → N → Bool) (laws : IsEquivalence eq) (next : N → List N) (start : N) where
  abbrev Step : N → N → Type 0
  Step = HasSuccessor eq next

  -- what holds of the given nodes and the last tree path
  pub record IsWalked (given path : List N) : Type 0 where
    pub held : (x : N) → HasNode eq path x → HasNode eq given x
    pub distinct : NoRepeats eq path
    pub once : NoRepeats eq given
    pub walk : ((path ≡ []) × (given ≡ [])) ⊎ ((w : List N) × (path ≡ start ∷ w) × Follows Step start w × Contains given start)
    pub closed : (x : N) → Contains given x → Contains path x ⊎ ((y : N) → HasNode eq (next x) y → HasNode eq given y)
    pub reached : (x : N) → Contains given x → (w : List N) × Follows Step start w × (end_of start w ≡ x)

  goes_on : (front back : List N) (here new s : N) (w : List N) → s ∷ w ≡ front ++ here ∷ back → Follows Step s w → Step here new
      → (v : List N) × (front ++ here ∷ new ∷ [] ≡ s ∷ v) × Follows Step s v × (end_of s v ≡ new)
  goes_on [] back here new s w e f h =
      let same : s ≡ here = cc in
      subst (λ a. (v : List N) × (here ∷ new ∷ [] ≡ a ∷ v) × Follows Step a v × (end_of a v ≡ new)) (sym same) (new ∷ [], refl, (h, tt), refl)
  goes_on (a ∷ []) back here new s [] e f h = cc
  goes_on (a ∷ b ∷ front) back here new s [] e f h = cc
  goes_on (a ∷ front) back here new s (b ∷ w) e f h =
      let same : s ≡ a = cc in
      let rest : b ∷ w ≡ front ++ here ∷ back = cc in
      let q = goes_on front back here new b w rest f.1 h in
      subst (λ c. (v : List N) × (c ∷ front ++ here ∷ new ∷ [] ≡ s ∷ v) × Follows Step s v × (end_of s v ≡ new)) same
      (b ∷ q.0, ap (λ l. s ∷ l) q.1, (f.0, q.2), q.3)

  -- the new path ends with a new node behind what is kept of the last path
  walked_on : (given path kept back : List N) (new : N) → IsWalked given path → path ≡ kept ++ back → ¬ (HasNode eq given new)
      → ((x : N) → Contains back x → (y : N) → HasNode eq (next x) y → HasNode eq given y)
      → (w : List N) × (kept ++ new ∷ [] ≡ start ∷ w) × Follows Step start w × Contains given start × (end_of start w ≡ new)
      → IsWalked (given ++ new ∷ []) (kept ++ new ∷ [])
  walked_on given path kept back new i from fresh passed way =
      let within : (x : N) → HasNode eq kept x → HasNode eq given x = λ x h. i.held x (subst (λ l. HasNode eq l x) (sym from) (HasNode-left eq kept back x h)) in
      record {
        held = λ x h. elim (HasNode-append_cases eq kept new x h) as (λ _. HasNode eq (given ++ new ∷ []) x) [
          | inl k ↦ HasNode-left eq given (new ∷ []) x (within x k)
          | inr e ↦ HasNode-right eq given (new ∷ []) x (inl e)
        ];
        distinct = NoRepeats-append eq (eq-sym eq laws) kept new (NoRepeats-front eq kept back (subst (NoRepeats eq) from i.distinct)) (λ h. fresh (within new h));
        once = NoRepeats-append eq (eq-sym eq laws) given new i.once fresh;
        walk = inr (way.0, way.1, way.2, Contains-append_left given (new ∷ []) start way.3);
        closed = λ x c. elim (Contains-append_cases given (new ∷ []) x c) as (λ _. Contains (kept ++ new ∷ []) x ⊎ ((y : N) → HasNode eq (next x) y → HasNode eq (given ++ new ∷ []) y)) [
          | inl g ↦ elim (i.closed x g) as (λ _. Contains (kept ++ new ∷ []) x ⊎ ((y : N) → HasNode eq (next x) y → HasNode eq (given ++ new ∷ []) y)) [
            | inl p ↦ elim (Contains-append_cases kept back x (subst (λ l. Contains l x) from p)) as (λ _. Contains (kept ++ new ∷ []) x ⊎ ((y : N) → HasNode eq (next x) y → HasNode eq (given ++ new ∷ []) y)) [
              | inl k ↦ inl (Contains-append_left kept (new ∷ []) x k)
              | inr b ↦ inr (λ y h. HasNode-left eq given (new ∷ []) y (passed x b y h))
            ]
            | inr f ↦ inr (λ y h. HasNode-left eq given (new ∷ []) y (f y h))
          ]
          | inr n ↦ inl (Contains-append_right kept (new ∷ []) x n)
        ];
        reached = λ x c. elim (Contains-append_cases given (new ∷ []) x c) as (λ _. (w : List N) × Follows Step start w × (end_of start w ≡ x)) [
          | inl g ↦ i.reached x g
          | inr n ↦ (way.0, way.2, way.4 ∙ only new x n)
        ];
      }

  walked_next : (given path path' : List N) → IsWalked given path → IsNextTreePath eq next start given path path' → IsWalked (given ++ last_nodes (path' ∷ [])) path'
  walked_next given [] path' i e =
      subst (λ p. IsWalked (given ++ last_nodes (p ∷ [])) p) (sym e) (elim i.walk as (λ _. IsWalked (given ++ start ∷ []) (start ∷ [])) [
        | inl b ↦ subst (λ g. IsWalked (g ++ start ∷ []) (start ∷ [])) (sym b.1) (record {
          held = λ x h. h;
          distinct = ((λ h. h), tt);
          once = ((λ h. h), tt);
          walk = inr ([], refl, tt, (0, omega arith, refl));
          closed = λ x c. inl c;
          reached = λ x c. ([], tt, only start x c);
        })
        | inr b ↦ cc
      ])
  walked_next given (a ∷ p) path' i n =
      let kept = n.front ++ n.here ∷ [] in
      let from : a ∷ p ≡ kept ++ n.back = n.from ∙ sym (append_assoc n.front (n.here ∷ []) n.back) in
      let to : path' ≡ kept ++ n.next ∷ [] = n.to ∙ sym (append_assoc n.front (n.here ∷ []) (n.next ∷ [])) in
      let step : Step n.here n.next = subst (λ l. HasNode eq l n.next) (sym n.answer) (HasNode-right eq n.before (n.first ∷ n.after) n.next (inl n.same)) in
      let way : (w : List N) × (kept ++ n.next ∷ [] ≡ start ∷ w) × Follows Step start w × Contains given start × (end_of start w ≡ n.next) =
      elim i.walk as (λ _. (w : List N) × (kept ++ n.next ∷ [] ≡ start ∷ w) × Follows Step start w × Contains given start × (end_of start w ≡ n.next)) [
        | inl b ↦ cc
        | inr b ↦ let q = goes_on n.front n.back n.here n.next start b.0 (sym b.1 ∙ n.from) b.2 step in (q.0, append_assoc n.front (n.here ∷ []) (n.next ∷ []) ∙ q.1, q.2, b.3, q.3)
      ] in
      subst (λ q. IsWalked (given ++ last_nodes (q ∷ [])) q) (sym to)
      (subst (λ l. IsWalked (given ++ l) (kept ++ n.next ∷ [])) (sym (last_node_of kept n.next)) (walked_on given (a ∷ p) kept n.back n.next i from n.new n.passed way))

  walked_all : (paths : List (List N)) (given path : List N) → IsWalked given path → GoesOnInPreorder eq next start given path paths → IsWalked (given ++ last_nodes paths) (end_of path paths)
  walked_all [] given path i g = subst (λ l. IsWalked l path) (sym (append-nil given)) i
  walked_all (p ∷ paths) given path i g =
      let i' = walked_next given path p i g.0 in
      subst (λ l. IsWalked l (end_of p paths)) (append_assoc given (last_nodes (p ∷ [])) (last_nodes paths) ∙ ap (λ l. given ++ l) (sym (last_nodes_push_front p paths)))
      (walked_all paths (given ++ last_nodes (p ∷ [])) p i' g.1)
    where
      last_nodes_push_front : (p : List N) (paths : List (List N)) → last_nodes (p ∷ paths) ≡ last_nodes (p ∷ []) ++ last_nodes paths
      last_nodes_push_front [] paths = refl
      last_nodes_push_front (x ∷ w) paths = refl

  -- what holds of a preorder
  pub walked : (paths : List (List N)) → IsPreorder eq next start paths → IsWalked (last_nodes paths) (end_of [] paths)
  walked paths g = walked_all paths [] [] (record {
    held = λ x h. absurd h;
    distinct = tt;
    once = tt;
    walk = inl (refl, refl);
    closed = λ x c. inl c;
    reached = λ x c. absurd (none x c);
  }) g
    where
      none : (x : N) → Contains [] x → ⊥
      none x (k, l, e) = absurd (omega (arith, l))

  goes_on_push : (paths : List (List N)) (given path path' : List N) → GoesOnInPreorder eq next start given path paths → IsNextTreePath eq next start (given ++ last_nodes paths) (end_of path paths) path' → GoesOnInPreorder eq next start given path (paths ++ path' ∷ [])
  goes_on_push [] given path path' g n = (subst (λ l. IsNextTreePath eq next start l path path') (append-nil given) n, tt)
  goes_on_push (p ∷ paths) given path path' g n = (g.0, goes_on_push paths (given ++ last_nodes (p ∷ [])) p path' g.1 (subst (λ l. IsNextTreePath eq next start l (end_of p paths) path') (moved p) n))
    where
      moved : (p : List N) → given ++ last_nodes (p ∷ paths) ≡ (given ++ last_nodes (p ∷ [])) ++ last_nodes paths
      moved [] = ap (λ l. l ++ last_nodes paths) (sym (append-nil given))
      moved (x ∷ w) = sym (append_assoc given (last_nodes ((x ∷ w) ∷ [])) (last_nodes paths))

  -- one more tree path
  pub preorder_push : (paths : List (List N)) (path : List N) → IsPreorder eq next start paths → IsNextTreePath eq next start (last_nodes paths) (end_of [] paths) path → IsPreorder eq next start (paths ++ path ∷ [])
  preorder_push paths path g n = goes_on_push paths [] [] path g n

  pub same_node : (xs : List N) (a b : N) → eq a b ≡ true → HasNode eq xs a → HasNode eq xs b
  same_node [] a b e h = h
  same_node (x ∷ xs) a b e (inl h) = inl (eq-trans eq laws x a b h e)
  same_node (x ∷ xs) a b e (inr h) = inr (same_node xs a b e h)

  pub same_list : (xs ys : List N) (b : N) → SameNodes eq xs ys → HasNode eq ys b → HasNode eq xs b
  same_list [] [] b s h = h
  same_list [] (y ∷ ys) b s h = absurd s
  same_list (x ∷ xs) [] b s h = absurd s
  same_list (x ∷ xs) (y ∷ ys) b s (inl h) = inl (eq-trans eq laws x y b s.0 h)
  same_list (x ∷ xs) (y ∷ ys) b s (inr h) = inr (same_list xs ys b s.1 h)

  -- a node that a walk from the start leads to
  pub reachable : (w : List N) (x : N) → Follows Step start w → eq (end_of start w) x ≡ true → IsReachable eq Step (start ∷ []) x
  reachable w x f e = record { walk = start ∷ w; goes = record { walks = f; begins = inl (laws.refl start); ends = e } }

  pub given_reachable : (paths : List (List N)) → IsPreorder eq next start paths → (x : N) → HasNode eq (last_nodes paths) x → IsReachable eq Step (start ∷ []) x
  given_reachable paths g x h =
      let f = HasNode-found eq (last_nodes paths) x h in
      let r = (walked paths g).reached f.0 f.1 in
      reachable r.0 x r.1 (subst (λ y. eq y x ≡ true) (sym r.2) f.2)

  module _ (alike : (x y : N) → IsReachable eq Step (start ∷ []) x → eq x y ≡ true → SameNodes eq (next x) (next y)) where
    all_given : (paths : List (List N)) → IsPreorder eq next start paths → ((x : N) → Contains (last_nodes paths) x → (y : N) → HasNode eq (next x) y → HasNode eq (last_nodes paths) y)
        → (w : List N) (x a : N) → Contains (last_nodes paths) x → eq x a ≡ true → Follows Step a w → HasNode eq (last_nodes paths) (end_of a w)
    all_given paths g full [] x a c e f = same_node (last_nodes paths) x a e (HasNode-contains eq laws (last_nodes paths) x c)
    all_given paths g full (b ∷ w) x a c e f =
        let here = given_reachable paths g x (HasNode-contains eq laws (last_nodes paths) x c) in
        let found = HasNode-found eq (last_nodes paths) b (full x c b (same_list (next x) (next a) b (alike x a here e) f.0)) in
        all_given paths g full w found.0 b found.1 found.2 f.1

    -- where the preorder ends, all that is in reach was given
    pub whole_reach : (paths : List (List N)) → IsPreorder eq next start paths → IsWholePreorder eq next paths → (x : N) → IsReachable eq Step (start ∷ []) x → HasNode eq (last_nodes paths) x
    whole_reach [] g e x r = absurd e
    whole_reach (p ∷ paths) g e x r =
        let i = walked (p ∷ paths) g in
        let given = last_nodes (p ∷ paths) in
        let full : (x : N) → Contains given x → (y : N) → HasNode eq (next x) y → HasNode eq given y =
        λ z c y h. elim (i.closed z c) as (λ _. HasNode eq given y) [ inl k ↦ e z k y h | inr f ↦ f y h ] in
        let begun : Contains given start = elim i.walk as (λ _. Contains given start) [
          | inl b ↦ absurd (first p g.0 (b.1))
          | inr b ↦ b.3
        ] in
        from r.walk r.goes.walks r.goes.begins r.goes.ends (λ w a q. all_given (p ∷ paths) g full w start a begun q)
      where
        first : (p : List N) → p ≡ start ∷ [] → last_nodes (p ∷ paths) ≡ [] → ⊥
        first [] q h = cc
        first (a ∷ w) q h = cc

        from : (walk : List N) → IsWalk Step walk → BeginsAt eq (start ∷ []) walk → EndsAt eq (λ y. eq y x) walk → ((w : List N) (a : N) → eq start a ≡ true → Follows Step a w → HasNode eq (last_nodes (p ∷ paths)) (end_of a w)) → HasNode eq (last_nodes (p ∷ paths)) x
        from [] f b t k = absurd f
        from (a ∷ w) f (inl b) t k = same_node (last_nodes (p ∷ paths)) (end_of a w) x t (k w a b f)
        from (a ∷ w) f (inr b) t k = absurd b
