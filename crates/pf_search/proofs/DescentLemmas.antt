-- A depth-first search whose nodes wait by themselves goes along the tree paths of the preorder.
use Rattle.std.proofs.Common.{◌≡◌, ◌+◌, ◌<◌, ◌≤◌, ℕ, zero, suc, Some, Bool, true, false, true≢false, List, [], ◌∷◌, ◌++◌, ◌∙◌, drop, length, length-append, refl, sym, ap, subst, arith, inl, inr, take, take_all}
use Rattle.std.specs.Prelude.{Contains, reverse, slice_get}
use Rattle.std.specs.Cmp.{IsEquivalence}
use Rattle.std.specs.List.{AllByRecursion, AllZip, IsDistinct}
use Rattle.std.proofs.lemmas.List.{append-nil, append_assoc, drop_at, length-reverse, reverse-append, reverse-reverse, take_at}
use Rattle.std.proofs.Math.ListN.{drop_of_length-le}
use Rattle.pf_base.proofs.ListLemmas.{AllZip-append, Contains-cases, Contains-reverse, get_at_end, none_in, reverse-cons}
use Rattle.pf_base.specs.Successors.{HasSuccessor}
use Rattle.pf_base.specs.Walks.{HasNode, IsGoalPath, IsReachable, end_of}
use Rattle.pf_base.specs.Answers.{SameNodes}
use Rattle.pf_base.specs.Orders.{last_nodes, IsNextPath, IsNextTreePath, IsPreorder, IsWholePreorder}
use Rattle.pf_core.specs.Nodes.{AddsNode, StandsFor}
use Rattle.pf_core.specs.NodeLaws.{StandsFor-inside, StandsFor-one}
use Rattle.pf_core.proofs.NodeLemmas.{AddsNode-stays, eq-sym, eq-trans}
use Rattle.pf_core.proofs.PathLemmas.{AllZip-map, HasNode-append_cases}
use Rattle.pf_search.specs.declared.directed.dfs.descent.Waiting.{Waiting}
use Rattle.pf_search.specs.Internal.Descents.{waiting_at, AllHeld, IsRest, IsLeft, IsDescent, StandsBefore}
use Rattle.pf_core.proofs.WalkLemmas.{same_of}
use Rattle.pf_search.specs.Preorder.{IsFirstTreePath}
use Rattle.pf_search.proofs.BreadthLemmas.{Same-sym}
use Rattle.pf_search.proofs.PreorderPaths.{is_goal}
use Rattle.pf_search.proofs.PreorderLemmas.{HasNode-left, HasNode-right, end_of_push, given_reachable, last_node_of, last_nodes_push, preorder_push, same_list}

all_last : {A : Type 0} (P : A → Type 0) (xs : List A) (y : A) → AllByRecursion P (xs ++ y ∷ []) → P y
all_last P [] y h = h.0
all_last P (x ∷ xs) y h = all_last P xs y h.1

zip_take : {A B : Type 0} (R : A → B → Type 0) (ks : List A) (xs ys : List B) → AllZip R ks (xs ++ ys) → AllZip R (take (length xs) ks) xs
zip_take R [] [] ys z = tt
zip_take R (k ∷ ks) [] ys z = tt
zip_take R [] (x ∷ xs) ys z = absurd z
zip_take R (k ∷ ks) (x ∷ xs) ys z = (z.0, zip_take R ks xs ys z.1)

zip_length : {A B : Type 0} (R : A → B → Type 0) (ks : List A) (xs : List B) → AllZip R ks xs → length ks ≡ length xs
zip_length R [] [] z = refl
zip_length R [] (x ∷ xs) z = absurd z
zip_length R (k ∷ ks) [] z = absurd z
zip_length R (k ∷ ks) (x ∷ xs) z = ap suc (zip_length R ks xs z.1)

reverse_split : {A : Type 0} (back : List A) (here : A) (up : List A) → reverse (back ++ here ∷ up) ≡ reverse up ++ here ∷ reverse back
reverse_split back here up = reverse-append back (here ∷ up) ∙ ap (λ l. l ++ reverse back) (reverse-cons here up) ∙ append_assoc (reverse up) (here ∷ []) (reverse back)

first_is : {A : Type 0} (x y : A) (xs ys : List A) → x ∷ xs ≡ y ∷ ys → x ≡ y
first_is x y xs ys e = cc

rest_is : {A : Type 0} (x y : A) (xs ys : List A) → x ∷ xs ≡ y ∷ ys → xs ≡ ys
rest_is x y xs ys e = cc

not_empty : {A : Type 0} (x : A) (xs : List A) → x ∷ xs ≡ [] → ⊥
not_empty x xs e = cc

module _ {N : Type 0} (eq : N → N → Bool) (laws : IsEquivalence eq) where
  none_distinct : IsDistinct eq []
  unfolding IsDistinct
  none_distinct = tt

  -- a new key is none of the others
  pub fresh_last : (keys : List N) (y : N) → IsDistinct eq (keys ++ y ∷ []) → ¬ (HasNode eq keys y)
  unfolding IsDistinct
  fresh_last [] y d h = h
  fresh_last (x ∷ keys) y d (inl e) = true≢false (sym e ∙ all_last (λ z. eq x z ≡ false) keys y d.0)
  fresh_last (x ∷ keys) y d (inr h) = fresh_last keys y d.1 h

  held : (keys : List N) (k : ℕ) (x : N) → StandsFor eq keys k x → HasNode eq keys x
  held [] k x s = absurd (none_in k s.0 s.1)
  held (y ∷ keys) zero x s = inl (let e : Some y ≡ Some s.0 = s.1 in let one : y ≡ s.0 = cc in subst (λ z. eq z x ≡ true) (sym one) s.2)
  held (y ∷ keys) (suc k) x s = inr (held keys k x s)

  -- the number of a node that was put in is one of those before, or the next one
  pub known : (keys keys' : List N) (x : N) (k : ℕ) → IsDistinct eq keys → AddsNode eq x keys keys' → StandsFor eq keys' k x → k < length keys → HasNode eq keys x × (keys' ≡ keys)
  known keys keys' x k d a s l = elim a.grown as (λ _. HasNode eq keys x × (keys' ≡ keys)) [
    | inl e ↦ (held keys k x (subst (λ ks. StandsFor eq ks k x) e s), e)
    | inr e ↦
        let last : StandsFor eq keys' (length keys) x = (x, subst (λ ks. slice_get ks (length keys) ≡ Some x) (sym e) (get_at_end keys x), laws.refl x) in
        let one = StandsFor-one eq laws keys' (a.distinct d) k (length keys) x s last in
        absurd (omega (arith, one, l))
  ]

  pub newly : (keys keys' : List N) (x : N) (k : ℕ) → AddsNode eq x keys keys' → StandsFor eq keys' k x → length keys ≤ k → (k ≡ length keys) × (keys' ≡ keys ++ x ∷ [])
  newly keys keys' x k a s l = elim a.grown as (λ _. (k ≡ length keys) × (keys' ≡ keys ++ x ∷ [])) [
    | inl e ↦ let within = StandsFor-inside eq keys k x (subst (λ ks. StandsFor eq ks k x) e s) in absurd (omega (arith, within, l))
    | inr e ↦ let within = StandsFor-inside eq keys' k x s in (omega (arith, within, l, ap length e, length-append keys (x ∷ [])), e)
  ]

  none_same : (xs : List N) → SameNodes eq xs [] → xs ≡ []
  none_same [] s = refl
  none_same (x ∷ xs) s = absurd s

  module _ (next : N → List N) (given : List N) where
    -- all successors of the node were given
    abbrev pub IsSpent : N → Type 0
    IsSpent x = (y : N) → HasNode eq (next x) y → HasNode eq given y

    rest_spent : (x : N) → IsRest eq next given x [] → IsSpent x
    rest_spent x h y a = h.earlier y (subst (λ l. HasNode eq l y) (h.answer ∙ ap (λ l. h.before ++ l) (none_same h.after h.same) ∙ append-nil h.before) a)

    -- the first of the rest was given
    rest_next : (x y : N) (ys : List N) → IsRest eq next given x (y ∷ ys) → HasNode eq given y → IsRest eq next given x ys
    rest_next x y ys h g = by h.after h.answer h.same
      where
        by : (after : List N) → next x ≡ h.before ++ after → SameNodes eq after (y ∷ ys) → IsRest eq next given x ys
        by [] e s = absurd s
        by (a ∷ after) e s = record {
          before = h.before ++ a ∷ [];
          after = after;
          answer = e ∙ sym (append_assoc h.before (a ∷ []) after);
          same = s.1;
          earlier = λ q m. elim (HasNode-append_cases eq h.before a q m) as (λ _. HasNode eq given q) [
            | inl k ↦ h.earlier q k
            | inr k ↦ has_same given y q (eq-trans eq laws y a q (eq-sym eq laws a y s.0) k) g
          ];
        }
          where
            has_same : (xs : List N) (a b : N) → eq a b ≡ true → HasNode eq xs a → HasNode eq xs b
            has_same [] a b e h = h
            has_same (x ∷ xs) a b e (inl h) = inl (eq-trans eq laws x a b h e)
            has_same (x ∷ xs) a b e (inr h) = inr (has_same xs a b e h)

    left_drop : (over : List N) (w : Waiting N) (ws : List (Waiting N)) → IsLeft eq next given over (w ∷ ws) → HasNode eq given w.node → IsLeft eq next given over ws
    left_drop [] w ws h g = absurd (not_empty w ws h)
    left_drop (x ∷ up) w ws h g = by (λ e. left_drop up w ws (subst (IsLeft eq next given up) (sym e) h.4) g) h.0 h.2 h.3
      where
        by : (w ∷ ws ≡ h.1 → IsLeft eq next given up ws) → (rest : List N) → w ∷ ws ≡ waiting_at (length up + 1) rest ++ h.1 → IsRest eq next given x rest → IsLeft eq next given (x ∷ up) ws
        by on [] e r = ([], ws, refl, r, on e)
        by on (z ∷ zs) e r =
            let first = ap (λ (v : Waiting N). v.node) (first_is w (record { node = z; depth = length up + 1 }) ws (waiting_at (length up + 1) zs ++ h.1) e) in
            (zs, h.1, rest_is w (record { node = z; depth = length up + 1 }) ws (waiting_at (length up + 1) zs ++ h.1) e, rest_next x z zs r (subst (λ n. HasNode eq given n) first g), h.4)

    drop_all : (over : List N) (passed ws : List (Waiting N)) → IsLeft eq next given over (passed ++ ws) → AllHeld eq given passed → IsLeft eq next given over ws
    drop_all over [] ws h a = h
    drop_all over (w ∷ passed) ws h a = drop_all over passed ws (left_drop over w (passed ++ ws) h a.0) a.1

    -- where nothing waits, all successors were given
    left_none : (over : List N) → IsLeft eq next given over [] → (x : N) → Contains over x → IsSpent x
    left_none [] h x c = absurd (omega (arith, c.1))
    left_none (z ∷ up) h x c = by (λ e m. left_none up (subst (IsLeft eq next given up) (sym e) h.4) x m) h.0 h.2 h.3
      where
        by : ([] ≡ h.1 → Contains up x → IsSpent x) → (rest : List N) → [] ≡ waiting_at (length up + 1) rest ++ h.1 → IsRest eq next given z rest → IsSpent x
        by on (y ∷ ys) e r = absurd (not_empty _ _ (sym e))
        by on [] e r = elim (Contains-cases up z x c) as (λ _. IsSpent x) [
          | inl q ↦ subst IsSpent q (rest_spent z r)
          | inr m ↦ on e m
        ]

  held_as : (keys given : List N) → ((y : N) → HasNode eq keys y → HasNode eq given y) → (ws : List (Waiting N)) → AllHeld eq keys ws → AllHeld eq given ws
  held_as keys given f [] a = tt
  held_as keys given f (w ∷ ws) a = (f w.node a.0, held_as keys given f ws a.1)

  module _ (next : N → List N) where
    rest_more : (given given' : List N) → ((y : N) → HasNode eq given y → HasNode eq given' y) → (x : N) (rest : List N) → IsRest eq next given x rest → IsRest eq next given' x rest
    rest_more given given' f x rest h = record { before = h.before; after = h.after; answer = h.answer; same = h.same; earlier = λ y m. f y (h.earlier y m) }

    left_more : (given given' : List N) → ((y : N) → HasNode eq given y → HasNode eq given' y) → (over : List N) (ws : List (Waiting N)) → IsLeft eq next given over ws → IsLeft eq next given' over ws
    left_more given given' f [] ws h = h
    left_more given given' f (x ∷ up) ws h = (h.0, h.1, h.2, rest_more given given' f x h.0 h.3, left_more given given' f up h.1 h.4)

    -- where the node that waits first leads on from
    record Entry (given over : List N) (w : Waiting N) (ws : List (Waiting N)) : Type 0 where
      back : List N
      here : N
      up : List N
      is : over ≡ back ++ here ∷ up
      passed : (x : N) → Contains back x → IsSpent next given x
      depth : w.depth ≡ length up + 1
      before : List N
      first : N
      after : List N
      answer : next here ≡ before ++ first ∷ after
      same : eq first w.node ≡ true
      earlier : (y : N) → HasNode eq before y → HasNode eq given y
      further : (given' : List N) → ((y : N) → HasNode eq given y → HasNode eq given' y) → HasNode eq given' w.node → IsLeft eq next given' (here ∷ up) ws

    entry_at : (given over : List N) (w : Waiting N) (ws : List (Waiting N)) → IsLeft eq next given over (w ∷ ws) → Entry given over w ws
    entry_at given [] w ws h = absurd (not_empty w ws h)
    entry_at given (x ∷ up) w ws h = by (λ e. entry_at given up w ws (subst (IsLeft eq next given up) (sym e) h.4)) h.0 h.2 h.3
      where
        by : (w ∷ ws ≡ h.1 → Entry given up w ws) → (rest : List N) → w ∷ ws ≡ waiting_at (length up + 1) rest ++ h.1 → IsRest eq next given x rest → Entry given (x ∷ up) w ws
        by on [] e r =
            let d = on e in
            record {
              back = x ∷ d.back;
              here = d.here;
              up = d.up;
              is = ap (λ l. x ∷ l) d.is;
              passed = λ y c. elim (Contains-cases d.back x y c) as (λ _. IsSpent next given y) [ inl q ↦ subst (IsSpent next given) q (rest_spent next given x r) | inr m ↦ d.passed y m ];
              depth = d.depth;
              before = d.before;
              first = d.first;
              after = d.after;
              answer = d.answer;
              same = d.same;
              earlier = d.earlier;
              further = d.further;
            }
        by on (z ∷ zs) e r = at r.after r.answer r.same
          where
            one : w ≡ record { node = z; depth = length up + 1 }
            one = first_is w (record { node = z; depth = length up + 1 }) ws (waiting_at (length up + 1) zs ++ h.1) e

            at : (after : List N) → next x ≡ r.before ++ after → SameNodes eq after (z ∷ zs) → Entry given (x ∷ up) w ws
            at [] a s = absurd s
            at (y ∷ ys) a s = record {
              back = [];
              here = x;
              up = up;
              is = refl;
              passed = λ q c. absurd (omega (arith, c.1));
              depth = ap (λ (v : Waiting N). v.depth) one;
              before = r.before;
              first = y;
              after = ys;
              answer = a;
              same = subst (λ n. eq y n ≡ true) (sym (ap (λ (v : Waiting N). v.node) one)) s.0;
              earlier = r.earlier;
              further = λ given' f g. (
                zs,
                h.1,
                rest_is w (record { node = z; depth = length up + 1 }) ws (waiting_at (length up + 1) zs ++ h.1) e,
                rest_next next given' x z zs (rest_more given given' f x (z ∷ zs) r) (subst (λ n. HasNode eq given' n) (ap (λ (v : Waiting N). v.node) one) g),
                left_more given given' f up h.1 h.4,
              );
            }

    module _ (start : N) where
      tree_path : (given path path' : List N) → IsNextPath eq next given path path' → IsNextTreePath eq next start given path path'
      tree_path given [] path' h = absurd (omega (arith, ap length h.from, length-append h.front (h.here ∷ h.back)))
      tree_path given (x ∷ path) path' h = h

      module _ (paths : List (List N)) (keys : List N) (numbers : List ℕ) (waiting : List (Waiting N)) where
        -- the successors of the last node of the path wait in front
        pub put_in_front : (x : N) (up xs : List N) (waiting' : List (Waiting N)) → IsDescent eq next start paths x up up keys numbers waiting → SameNodes eq (next x) xs
            → reverse waiting' ≡ waiting_at (length numbers) xs ++ reverse waiting → IsDescent eq next start paths x up (x ∷ up) keys numbers waiting'
        put_in_front x up xs waiting' h same is =
            let long : length numbers ≡ length up + 1 = zip_length (StandsFor eq keys) numbers (reverse (x ∷ up)) h.path ∙ length-reverse (x ∷ up) ∙ omega arith in
            record {
              preorder = h.preorder;
              ends = h.ends;
              given = h.given;
              distinct = h.distinct;
              path = h.path;
              waits = (
                xs,
                reverse waiting,
                is ∙ ap (λ (n : ℕ). waiting_at n xs ++ reverse waiting) long,
                record { before = []; after = next x; answer = refl; same = same; earlier = λ y m. absurd m },
                h.waits,
              );
            }

        -- where no node that waits is new, the preorder has ended
        pub descent_ended : (x : N) (up : List N) → IsDescent eq next start paths x up (x ∷ up) keys numbers waiting → AllHeld eq keys (reverse waiting) → IsWholePreorder eq next paths
        descent_ended x up h a =
            let given = last_nodes paths in
            let held = held_as keys given (λ y m. same_list eq laws next start given keys y (Same-sym eq laws keys given h.given) m) (reverse waiting) a in
            let left = drop_all next given (x ∷ up) (reverse waiting) [] (subst (IsLeft eq next given (x ∷ up)) (sym (append-nil (reverse waiting))) h.waits) held in
            whole paths h.ends (λ y c. left_none next given (x ∷ up) left y (Contains-reverse (x ∷ up) y c))
          where
            whole : (paths : List (List N)) → end_of [] paths ≡ reverse (x ∷ up) → ((y : N) → Contains (reverse (x ∷ up)) y → IsSpent next (last_nodes paths) y) → IsWholePreorder eq next paths
            whole [] e spent = absurd (omega (arith, ap length e, length-reverse (x ∷ up)))
            whole (p ∷ ps) e spent = λ y c z m. spent y (subst (λ l. Contains l y) e c) z m

        module _ (passed : List (Waiting N)) (w : Waiting N) (waiting' : List (Waiting N)) (order : reverse waiting ≡ passed ++ w ∷ reverse waiting') (held : AllHeld eq keys passed) (keys' : List N) (added : AddsNode eq w.node keys keys') (is : keys' ≡ keys ++ w.node ∷ [])
            (k : ℕ) (stands : StandsFor eq keys' k w.node) (numbers' : List ℕ) (along : numbers' ≡ take w.depth numbers ++ k ∷ []) where
          -- one more node was visited: the path leads to it
          pub record Entered : Type 0 where
            pub path : List N
            pub up : List N
            pub next_path : IsNextTreePath eq next start (last_nodes paths) (end_of [] paths) path
            pub last : last_nodes (path ∷ []) ≡ w.node ∷ []
            pub descent : IsDescent eq next start (paths ++ path ∷ []) w.node up up keys' numbers' waiting'

          given_on : SameNodes eq keys (last_nodes paths) → (path : List N) → last_nodes (path ∷ []) ≡ w.node ∷ [] → SameNodes eq keys' (last_nodes (paths ++ path ∷ []))
          given_on g path l = subst (λ ks. SameNodes eq ks (last_nodes (paths ++ path ∷ []))) (sym is) (subst (λ xs. SameNodes eq (keys ++ w.node ∷ []) xs) (sym (last_nodes_push paths path ∙ ap (λ xs. last_nodes paths ++ xs) l))
              (AllZip-append (λ (x y : N). eq x y ≡ true) keys (last_nodes paths) w.node w.node g (laws.refl w.node)))

          pub entered : (x : N) (up : List N) → IsDescent eq next start paths x up (x ∷ up) keys numbers waiting → Entered
          entered x up h =
              let given = last_nodes paths in
              let held_in : (y : N) → HasNode eq keys y → HasNode eq given y = λ y m. same_list eq laws next start given keys y (Same-sym eq laws keys given h.given) m in
              let d = entry_at given (x ∷ up) w (reverse waiting') (drop_all next given (x ∷ up) passed (w ∷ reverse waiting') (subst (IsLeft eq next given (x ∷ up)) order h.waits) (held_as keys given held_in passed held)) in
              let up' = d.here ∷ d.up in
              let path = reverse (w.node ∷ up') in
              let push : path ≡ reverse up' ++ w.node ∷ [] = reverse-cons w.node up' in
              let last : last_nodes (path ∷ []) ≡ w.node ∷ [] = ap (λ p. last_nodes (p ∷ [])) push ∙ last_node_of (reverse up') w.node in
              let whole : reverse (x ∷ up) ≡ reverse d.up ++ d.here ∷ reverse d.back = ap reverse d.is ∙ reverse_split d.back d.here d.up in
              let fresh : ¬ (HasNode eq given w.node) = λ m. fresh_last keys w.node (subst (IsDistinct eq) is (added.distinct h.distinct)) (same_list eq laws next start keys given w.node h.given m) in
              let step : IsNextPath eq next given (end_of [] paths) path = record {
                front = reverse d.up;
                here = d.here;
                back = reverse d.back;
                next = w.node;
                from = h.ends ∙ whole;
                to = push ∙ ap (λ l. l ++ w.node ∷ []) (reverse-cons d.here d.up) ∙ append_assoc (reverse d.up) (d.here ∷ []) (w.node ∷ []);
                passed = λ y c. d.passed y (Contains-reverse d.back y c);
                before = d.before;
                first = d.first;
                after = d.after;
                answer = d.answer;
                same = d.same;
                earlier = d.earlier;
                new = fresh;
              } in
              let tree = tree_path given (end_of [] paths) path step in
              let more : last_nodes (paths ++ path ∷ []) ≡ given ++ w.node ∷ [] = last_nodes_push paths path ∙ ap (λ xs. given ++ xs) last in
              let wide : reverse (x ∷ up) ≡ reverse up' ++ reverse d.back = whole ∙ sym (append_assoc (reverse d.up) (d.here ∷ []) (reverse d.back)) ∙ ap (λ l. l ++ reverse d.back) (sym (reverse-cons d.here d.up)) in
              let kept : AllZip (StandsFor eq keys) (take (length (reverse up')) numbers) (reverse up') = zip_take (StandsFor eq keys) numbers (reverse up') (reverse d.back) (subst (AllZip (StandsFor eq keys) numbers) wide h.path) in
              let long : length (reverse up') ≡ w.depth = length-reverse up' ∙ omega (arith, d.depth) in
              record {
                path = path;
                up = up';
                next_path = tree;
                last = last;
                descent = record {
                  preorder = preorder_push eq laws next start paths path h.preorder tree;
                  ends = end_of_push [] paths path;
                  given = given_on h.given path last;
                  distinct = added.distinct h.distinct;
                  path = subst (λ ns. AllZip (StandsFor eq keys') ns path) (sym along) (subst (λ p. AllZip (StandsFor eq keys') (take w.depth numbers ++ k ∷ []) p) (sym push)
                      (AllZip-append (StandsFor eq keys') (take w.depth numbers) (reverse up') k w.node (AllZip-map (StandsFor eq keys) (StandsFor eq keys') (λ j y q. (q.0, AddsNode-stays eq w.node keys keys' added j q.0 q.1, q.2)) (take w.depth numbers) (reverse up') (subst (λ (n : ℕ). AllZip (StandsFor eq keys) (take n numbers) (reverse up')) long kept)) stands));
                  waits = d.further (last_nodes (paths ++ path ∷ [])) (λ y m. subst (λ xs. HasNode eq xs y) (sym more) (HasNode-left eq given (w.node ∷ []) y m)) (subst (λ xs. HasNode eq xs w.node) (sym more) (HasNode-right eq given (w.node ∷ []) w.node (inl (laws.refl w.node))));
                };
              }

          -- the start is visited first
          pub entered_first : paths ≡ [] → keys ≡ [] → numbers ≡ [] → reverse waiting ≡ record { node = start; depth = 0 } ∷ [] → Entered
          entered_first none unvisited unbegun waits =
              let front = only passed (subst (λ ks. AllHeld eq ks passed) unvisited held) (sym order ∙ waits) in
              let node : w.node ≡ start = ap (λ (v : Waiting N). v.node) front.0 in
              let path : List N = w.node ∷ [] in
              let tree : IsNextTreePath eq next start (last_nodes paths) (end_of [] paths) path = subst (λ ps. IsNextTreePath eq next start (last_nodes ps) (end_of [] ps) path) (sym none) (ap (λ x. x ∷ []) node) in
              let depth : w.depth ≡ 0 = ap (λ (v : Waiting N). v.depth) front.0 in
              let alone : numbers' ≡ k ∷ [] = along ∙ ap (λ (n : ℕ). take n numbers ++ k ∷ []) depth ∙ ap (λ ns. take 0 ns ++ k ∷ []) unbegun in
              record {
                path = path;
                up = [];
                next_path = tree;
                last = refl;
                descent = record {
                  preorder = preorder_push eq laws next start paths path (subst (IsPreorder eq next start) (sym none) tt) tree;
                  ends = end_of_push [] paths path;
                  given = given_on (subst (λ ks. SameNodes eq ks (last_nodes paths)) (sym unvisited) (subst (λ ps. SameNodes eq [] (last_nodes ps)) (sym none) tt)) path refl;
                  distinct = added.distinct (subst (IsDistinct eq) (sym unvisited) none_distinct);
                  path = subst (λ ns. AllZip (StandsFor eq keys') ns path) (sym alone) (stands, tt);
                  waits = front.1;
                };
              }
            where
              only : (passed : List (Waiting N)) → AllHeld eq [] passed → passed ++ w ∷ reverse waiting' ≡ record { node = start; depth = 0 } ∷ [] → (w ≡ record { node = start; depth = 0 }) × (reverse waiting' ≡ [])
              only [] a e = (first_is w (record { node = start; depth = 0 }) (reverse waiting') [] e, rest_is w (record { node = start; depth = 0 }) (reverse waiting') [] e)
              only (p ∷ ps) a e = absurd a.0

          pub entered_on : StandsBefore eq next start paths keys numbers waiting → Entered
          entered_on (inl h) = entered_first h.0 h.1 h.2 h.3
          entered_on (inr h) = entered h.0 h.1 h.2

      -- what is so before a node is taken out
      pub distinct_before : (paths : List (List N)) (keys : List N) (numbers : List ℕ) (waiting : List (Waiting N)) → StandsBefore eq next start paths keys numbers waiting → IsDistinct eq keys
      distinct_before paths keys numbers waiting (inl h) = subst (IsDistinct eq) (sym h.1) none_distinct
      distinct_before paths keys numbers waiting (inr h) = let d = h.2 in d.distinct

      pub preorder_before : (paths : List (List N)) (keys : List N) (numbers : List ℕ) (waiting : List (Waiting N)) → StandsBefore eq next start paths keys numbers waiting → IsPreorder eq next start paths
      preorder_before paths keys numbers waiting (inl h) = subst (IsPreorder eq next start) (sym h.0) tt
      preorder_before paths keys numbers waiting (inr h) = let d = h.2 in d.preorder

      pub ended_on : (paths : List (List N)) (keys : List N) (numbers : List ℕ) (waiting : List (Waiting N)) → StandsBefore eq next start paths keys numbers waiting → AllHeld eq keys (reverse waiting) → IsWholePreorder eq next paths
      ended_on paths keys numbers waiting (inl h) a = absurd ((subst (λ ks. AllHeld eq ks (record { node = start; depth = 0 } ∷ [])) h.1 (subst (AllHeld eq keys) h.3 a)).0)
      ended_on paths keys numbers waiting (inr h) a = descent_ended paths keys numbers waiting h.0 h.1 h.2 a

      -- the nodes that were visited are in reach
      pub visited_reach : (paths : List (List N)) (x : N) (up over keys : List N) (numbers : List ℕ) (waiting : List (Waiting N)) → IsDescent eq next start paths x up over keys numbers waiting
          → (k : ℕ) (m : N) → slice_get keys k ≡ Some m → IsReachable eq (HasSuccessor eq next) (start ∷ []) m
      visited_reach paths x up over keys numbers waiting h k m at = given_reachable eq laws next start paths h.preorder m (same_list eq laws next start (last_nodes paths) keys m (Same-sym eq laws keys (last_nodes paths) h.given) (held keys k m (m, at, laws.refl m)))

  -- the node of a number that stands for another one is the same
  pub same_at : (keys : List N) (k : ℕ) (m x : N) → slice_get keys k ≡ Some m → StandsFor eq keys k x → eq m x ≡ true
  same_at keys k m x at s = let e : Some m ≡ Some s.0 = sym at ∙ s.1 in let one : m ≡ s.0 = cc in subst (λ z. eq z x ≡ true) (sym one) s.2

  pub last_same : (path keys : List N) (k : ℕ) (m x : N) → last_nodes (path ∷ []) ≡ x ∷ [] → slice_get keys k ≡ Some m → StandsFor eq keys k x → SameNodes eq (last_nodes (path ∷ [])) (m ∷ [])
  last_same path keys k m x l at s = subst (λ xs. SameNodes eq xs (m ∷ [])) (sym l) (eq-sym eq laws m x (same_at keys k m x at s), tt)

  module _ (next : N → List N) (start : N) (paths : List (List N)) (path : List N) (x : N) (up keys : List N) (numbers : List ℕ) (waiting : List (Waiting N)) (on : IsDescent eq next start (paths ++ path ∷ []) x up up keys numbers waiting) where
    -- the path to a node that passes
    pub found_first : (test : N → Bool) → ((a b : N) → IsReachable eq (HasSuccessor eq next) (start ∷ []) a → eq a b ≡ true → SameNodes eq (next a) (next b)) → ((a b : N) → IsReachable eq (HasSuccessor eq next) (start ∷ []) a → eq a b ≡ true → test a ≡ test b)
        → (node : N) → SameNodes eq (last_nodes (path ∷ [])) (node ∷ []) → test node ≡ true → (items : List N) → AllZip (StandsFor eq keys) numbers items → ((y : N) → Contains (last_nodes paths) y → test y ≡ false)
        → IsGoalPath eq (HasSuccessor eq next) (start ∷ []) test items × IsFirstTreePath eq next start test items
    found_first test alike tests node last good items nodes fails =
        let tree = subst (AllZip (StandsFor eq keys) numbers) (sym on.ends ∙ end_of_push [] paths path) on.path in
        let same = same_of eq laws keys numbers path items tree nodes in
        (is_goal eq laws next start test alike tests paths path items node on.preorder last good same, record { earlier = paths; tree = path; preorder = on.preorder; same = same; fails = fails })

    -- its successors wait
    pub stands_on : (xs : List N) (keys' : List N) (numbers' : List ℕ) (waiting' : List (Waiting N)) → SameNodes eq (next x) xs → keys' ≡ keys → numbers' ≡ numbers → reverse waiting' ≡ waiting_at (length numbers) xs ++ reverse waiting
        → StandsBefore eq next start (paths ++ path ∷ []) keys' numbers' waiting'
    stands_on xs keys' numbers' waiting' same e f order =
        let waits = put_in_front next start (paths ++ path ∷ []) keys numbers waiting x up xs waiting' on same order in
        inr (x, up, subst (λ ks. IsDescent eq next start (paths ++ path ∷ []) x up (x ∷ up) ks numbers' waiting') (sym e) (subst (λ ns. IsDescent eq next start (paths ++ path ∷ []) x up (x ∷ up) keys ns waiting') (sym f) waits))

-- one more node waits
pub waiting_more : {N : Type 0} (depth : ℕ) (xs : List N) (x : N) → waiting_at depth (xs ++ x ∷ []) ≡ waiting_at depth xs ++ record { node = x; depth = depth } ∷ []
waiting_more depth [] x = refl
waiting_more depth (y ∷ xs) x = ap (λ l. record { node = y; depth = depth } ∷ l) (waiting_more depth xs x)

-- the end of a list was turned round
pub turned : {A : Type 0} (old new ws : List A) → new ≡ old ++ reverse ws → reverse new ≡ ws ++ reverse old
turned old new ws e = ap reverse e ∙ reverse-append old (reverse ws) ∙ ap (λ l. l ++ reverse old) (reverse-reverse ws)

pub taken_out : {A : Type 0} (old passed rest : List A) (now : List A) (w : A) → old ≡ passed ++ reverse now → now ≡ rest ++ w ∷ [] → old ≡ passed ++ w ∷ reverse rest
taken_out old passed rest now w e f = e ∙ ap (λ l. passed ++ l) (ap reverse f ∙ reverse-append rest (w ∷ []))

pub held_more : {N : Type 0} (eq : N → N → Bool) (keys : List N) (ws : List (Waiting N)) (w : Waiting N) → AllHeld eq keys ws → HasNode eq keys w.node → AllHeld eq keys (ws ++ w ∷ [])
held_more eq keys [] w a h = (h, tt)
held_more eq keys (v ∷ ws) w a h = (a.0, held_more eq keys ws w a.1 h)

-- the elements behind the old ones were turned round
pub reversed_behind : {A : Type 0} (from : ℕ) (old ws all : List A) → all ≡ old ++ ws → length old ≡ from → take from all ++ reverse (drop from all) ≡ old ++ reverse ws
reversed_behind from old ws all e l = ap (λ xs. take from xs ++ reverse (drop from xs)) e ∙ ap (λ xs. xs ++ reverse (drop from (old ++ ws))) (take_at old ws from l) ∙ ap (λ xs. old ++ reverse xs) (drop_at old ws from l)

-- a list that is written whole is what was written
pub cut_short : {A : Type 0} (n : ℕ) (new all old ws : List A) → n ≡ length all → new ≡ old ++ reverse ws → all ≡ old ++ ws → take n (new ++ drop (length new) all) ≡ old ++ reverse ws
cut_short n new all old ws len e f =
    let long : length new ≡ length all = ap length e ∙ length-append old (reverse ws) ∙ ap (λ (k : ℕ). length old + k) (length-reverse ws) ∙ sym (ap length f ∙ length-append old ws) in
    ap (λ l. take n (new ++ l)) (drop_of_length-le all (omega (arith, long))) ∙ ap (take n) (append-nil new) ∙ take_all n new (omega (arith, long, len)) ∙ e
