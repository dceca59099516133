-- Each walk to a goal holds a path to it, and paths are looked through step by step.
use Rattle.std.proofs.Common.{◌≡◌, ℕ, zero, suc, ◌<◌, ◌≤◌, ◌+◌, ◌-◌, ◌||◌, Bool, true, false, Some, slice_get, slice_index_or, reverse, take, List, [], ◌∷◌, ◌++◌, ◌∙◌, length, length-append, refl, sym, ap, subst, arith, inl, inr, true≢false}
use Rattle.std.specs.Prelude.{◌⊎◌, Contains, MatchBool}
use Rattle.std.specs.Cmp.{IsEquivalence}
use Rattle.std.specs.List.{list_any}
use Rattle.std.proofs.lemmas.List.{append_assoc}
use Rattle.std.proofs.lemmas.List.Elements.{Contains-append_left, Contains-push, Contains-push_cases}
use Rattle.pf_base.specs.Walks.{HasNode, NoRepeats, Follows, end_of, IsGoalWalk, IsGoalPath, HasNoGoalWalk, IsReachable}
use Rattle.pf_base.specs.Successors.{HasSuccessor, IsFewestEdgesGoalPath}
use Rattle.pf_base.specs.Answers.{SameNodes}
use Rattle.pf_base.proofs.ListLemmas.{or_left, or_right, or_cases, at_place, Contains-head, Contains-tail, Contains-cases, reverse-cons, Contains-reverse}
use Rattle.pf_core.proofs.PathLemmas.{NoRepeats-append}
use Rattle.pf_search.specs.Internal.Deepening.{IsPathFrom, FollowsEnd, NoGoalBeyond, Deepens}
use Rattle.pf_search.specs.declared.directed.iddfs.Deepened.{Deepened}

module _ {N : Type 0} (eq : N → N → Bool) (laws : IsEquivalence eq) where
  eq_sym : (x y : N) → eq x y ≡ true → eq y x ≡ true
  eq_sym x y h = laws.symm y x ∙ h

  eq_trans : (x y z : N) → eq x y ≡ true → eq y z ≡ true → eq x z ≡ true
  eq_trans x y z h k = laws.congr x y z h ∙ k

  has_same : (xs : List N) (y z : N) → HasNode eq xs y → eq y z ≡ true → HasNode eq xs z
  has_same [] y z h e = h
  has_same (x ∷ xs) y z (inl h) e = inl (eq_trans x y z h e)
  has_same (x ∷ xs) y z (inr h) e = inr (has_same xs y z h e)

  has_alike : (xs ys : List N) (z : N) → SameNodes eq xs ys → HasNode eq xs z → HasNode eq ys z
  has_alike [] [] z s h = h
  has_alike [] (y ∷ ys) z s h = absurd h
  has_alike (x ∷ xs) [] z s h = absurd s
  has_alike (x ∷ xs) (y ∷ ys) z s (inl h) = inl (eq_trans y x z (eq_sym x y s.0) h)
  has_alike (x ∷ xs) (y ∷ ys) z s (inr h) = inr (has_alike xs ys z s.1 h)

  pub item_of : (xs : List N) (z : N) → HasNode eq xs z → (x : N) × Contains xs x × (eq x z ≡ true)
  item_of [] z h = absurd h
  item_of (x ∷ xs) z (inl h) = (x, Contains-head xs x, h)
  item_of (x ∷ xs) z (inr h) = let r = item_of xs z h in (r.0, Contains-tail xs x r.0 r.1, r.2)

  has_or : (xs : List N) (z : N) → HasNode eq xs z ⊎ ¬ (HasNode eq xs z)
  has_or [] z = inr (λ h. h)
  has_or (x ∷ xs) z = by (eq x z) refl (has_or xs z)
    where
      by : (b : Bool) → eq x z ≡ b → HasNode eq xs z ⊎ ¬ (HasNode eq xs z) → HasNode eq (x ∷ xs) z ⊎ ¬ (HasNode eq (x ∷ xs) z)
      by true e r = inl (inl e)
      by false e (inl h) = inl (inr h)
      by false e (inr n) = inr (λ h. elim h [ inl k ↦ absurd (true≢false (sym k ∙ e)) | inr k ↦ absurd (n k) ])

  module _ (next : N → List N) (starts : List N) where
    Reached : N → Type 0
    Reached = IsReachable eq (HasSuccessor eq next) starts

    follows_more : (w : List N) (a b : N) → Follows (HasSuccessor eq next) a w → HasSuccessor eq next (end_of a w) b → Follows (HasSuccessor eq next) a (w ++ b ∷ [])
    follows_more [] a b f s = (s, tt)
    follows_more (c ∷ w) a b f s = (f.0, follows_more w c b f.1 s)

    end_more : (w : List N) (a b : N) → end_of a (w ++ b ∷ []) ≡ b
    end_more [] a b = refl
    end_more (c ∷ w) a b = end_more w c b

    module _ (alike : (x y : N) → IsReachable eq (HasSuccessor eq next) starts x → eq x y ≡ true → SameNodes eq (next x) (next y)) where
      -- a step from a node in reach leads to a node in reach
      pub reach_step : (a b : N) → IsReachable eq (HasSuccessor eq next) starts a → HasSuccessor eq next a b → IsReachable eq (HasSuccessor eq next) starts b
      reach_step a b r s = by r.walk r.goes
        where
          by : (w : List N) → IsGoalWalk eq (HasSuccessor eq next) starts (λ y. eq y a) w → IsReachable eq (HasSuccessor eq next) starts b
          by [] g = absurd g.walks
          by (c ∷ w) g =
              let before : IsReachable eq (HasSuccessor eq next) starts (end_of c w) = record { walk = c ∷ w; goes = record { walks = g.walks; begins = g.begins; ends = laws.refl (end_of c w) } } in
              let step : HasSuccessor eq next (end_of c w) b = has_alike (next a) (next (end_of c w)) b (same_back (next (end_of c w)) (next a) (alike (end_of c w) a before g.ends)) s in
              record {
                walk = c ∷ (w ++ b ∷ []);
                goes = record { walks = follows_more w c b g.walks step; begins = g.begins; ends = subst (λ y. eq y b ≡ true) (sym (end_more w c b)) (laws.refl b) };
              }
            where
              same_back : (xs ys : List N) → SameNodes eq xs ys → SameNodes eq ys xs
              same_back [] [] h = tt
              same_back [] (y ∷ ys) h = absurd h
              same_back (x ∷ xs) [] h = absurd h
              same_back (x ∷ xs) (y ∷ ys) h = (eq_sym x y h.0, same_back xs ys h.1)

      pub reach_end : (w : List N) (a : N) → IsReachable eq (HasSuccessor eq next) starts a → Follows (HasSuccessor eq next) a w → IsReachable eq (HasSuccessor eq next) starts (end_of a w)
      reach_end [] a r f = r
      reach_end (b ∷ w) a r f = reach_end w b (reach_step a b r f.0) f.1

      follows_alike : (w : List N) (a b : N) → IsReachable eq (HasSuccessor eq next) starts a → eq a b ≡ true → Follows (HasSuccessor eq next) a w → Follows (HasSuccessor eq next) b w
      follows_alike [] a b r e f = tt
      follows_alike (c ∷ w) a b r e f = (has_alike (next a) (next b) c (alike a b r e) f.0, f.1)

      module _ (test : N → Bool) (test_alike : (x y : N) → IsReachable eq (HasSuccessor eq next) starts x → eq x y ≡ true → test x ≡ test y) where
        ends_alike : (w : List N) (a b : N) → IsReachable eq (HasSuccessor eq next) starts a → eq a b ≡ true → test (end_of a w) ≡ true → test (end_of b w) ≡ true
        ends_alike [] a b r e h = sym (test_alike a b r e) ∙ h
        ends_alike (c ∷ w) a b r e h = h

        -- what goes on from a, without a and without repeats, to a node that passes
        record Tail (a : N) (bound : ℕ) : Type 0 where
          pub nodes : List N
          pub short : length nodes ≤ bound
          pub goes : Follows (HasSuccessor eq next) a nodes
          pub apart : ¬ (HasNode eq nodes a)
          pub distinct : NoRepeats eq nodes
          pub ends : test (end_of a nodes) ≡ true

        -- the tail behind the last visit of a
        cut_at : (w : List N) (b a : N) → IsReachable eq (HasSuccessor eq next) starts b → Follows (HasSuccessor eq next) b w → NoRepeats eq (b ∷ w) → test (end_of b w) ≡ true → HasNode eq (b ∷ w) a → Tail a (length w)
        cut_at w b a r f n t (inl e) = record {
          nodes = w;
          short = omega arith;
          goes = follows_alike w b a r e f;
          apart = λ h. n.0 (has_same w a b h (eq_sym b a e));
          distinct = n.1;
          ends = ends_alike w b a r e t;
        }
        cut_at [] b a r f n t (inr h) = absurd h
        cut_at (c ∷ w) b a r f n t (inr h) =
            let q = cut_at w c a (reach_step b c r f.0) f.1 n.1 t h in
            record { nodes = q.nodes; short = omega (arith, q.short); goes = q.goes; apart = q.apart; distinct = q.distinct; ends = q.ends }

        shorten : (w : List N) (a : N) → IsReachable eq (HasSuccessor eq next) starts a → Follows (HasSuccessor eq next) a w → test (end_of a w) ≡ true → Tail a (length w)
        shorten [] a r f t = record { nodes = []; short = omega arith; goes = tt; apart = λ h. h; distinct = tt; ends = t }
        shorten (b ∷ w) a r f t =
            let s = reach_step a b r f.0 in
            let q = shorten w b s f.1 t in
            elim (has_or (b ∷ q.nodes) a) as (λ _. Tail a (length (b ∷ w))) [
              | inl h ↦
                  let k = cut_at q.nodes b a s q.goes (q.apart, q.distinct) q.ends h in
                  record { nodes = k.nodes; short = omega (arith, k.short, q.short); goes = k.goes; apart = k.apart; distinct = k.distinct; ends = k.ends }
              | inr h ↦ record { nodes = b ∷ q.nodes; short = omega (arith, q.short); goes = (f.0, q.goes); apart = h; distinct = (q.apart, q.distinct); ends = q.ends }
            ]

        -- a path with a node in the place of one that is the same
        follows_replaced : (v : List N) (a b y : N) (w : List N) → IsReachable eq (HasSuccessor eq next) starts a → eq b y ≡ true → Follows (HasSuccessor eq next) a (v ++ b ∷ w) → Follows (HasSuccessor eq next) a (v ++ y ∷ w)
        follows_replaced [] a b y w r e f = (has_same (next a) b y f.0 e, follows_alike w b y (reach_step a b r f.0) e f.1)
        follows_replaced (c ∷ v) a b y w r e f = (f.0, follows_replaced v c b y w (reach_step a c r f.0) e f.1)

        ends_replaced : (v : List N) (a b y : N) (w : List N) → IsReachable eq (HasSuccessor eq next) starts a → eq b y ≡ true → Follows (HasSuccessor eq next) a (v ++ b ∷ w) → test (end_of a (v ++ b ∷ w)) ≡ true → test (end_of a (v ++ y ∷ w)) ≡ true
        ends_replaced [] a b y w r e f t = ends_alike w b y (reach_step a b r f.0) e t
        ends_replaced (c ∷ v) a b y w r e f t = ends_replaced v c b y w (reach_step a c r f.0) e f.1 t

        has_replaced : (v : List N) (b y x : N) (w : List N) → eq b y ≡ true → HasNode eq (v ++ y ∷ w) x → HasNode eq (v ++ b ∷ w) x
        has_replaced [] b y x w e (inl h) = inl (eq_trans b y x e h)
        has_replaced [] b y x w e (inr h) = inr h
        has_replaced (c ∷ v) b y x w e (inl h) = inl h
        has_replaced (c ∷ v) b y x w e (inr h) = inr (has_replaced v b y x w e h)

        once_replaced : (v : List N) (b y : N) (w : List N) → eq b y ≡ true → NoRepeats eq (v ++ b ∷ w) → NoRepeats eq (v ++ y ∷ w)
        once_replaced [] b y w e n = ((λ h. n.0 (has_same w y b h (eq_sym b y e))), n.1)
        once_replaced (c ∷ v) b y w e n = ((λ h. n.0 (has_replaced v b y c w e h)), once_replaced v b y w e n.1)

        step_at : (v : List N) (a b : N) (w : List N) → Follows (HasSuccessor eq next) a (v ++ b ∷ w) → HasSuccessor eq next (end_of a v) b
        step_at [] a b w f = f.0
        step_at (c ∷ v) a b w f = step_at v c b w f.1

        new_at : (v : List N) (b x : N) (w : List N) → NoRepeats eq (v ++ b ∷ w) → HasNode eq v x → ¬ (eq x b ≡ true)
        new_at [] b x w n h e = absurd h
        new_at (c ∷ v) b x w n (inl h) e = n.0 (has_in v b c w (eq_sym c b (eq_trans c x b h e)))
          where
            has_in : (v : List N) (b x : N) (w : List N) → eq b x ≡ true → HasNode eq (v ++ b ∷ w) x
            has_in [] b x w e = inl e
            has_in (c ∷ v) b x w e = inr (has_in v b x w e)
        new_at (c ∷ v) b x w n (inr h) e = new_at v b x w n.1 h e

        append_nil : (xs : List N) → xs ++ [] ≡ xs
        append_nil [] = refl
        append_nil (x ∷ xs) = ap (λ ys. x ∷ ys) (append_nil xs)

        -- No goal is beyond a path whose end is none, where none is beyond the path with each successor that is not on it.
        pub none_beyond : (cut : Bool) (k : ℕ) (a : N) (v answer : List N) → HasNode eq starts a → Follows (HasSuccessor eq next) a v → test (end_of a v) ≡ false → SameNodes eq answer (next (end_of a v))
            → ((y : N) → Contains answer y → HasNode eq (a ∷ v) y ⊎ NoGoalBeyond eq next starts test cut k ((a ∷ v) ++ y ∷ []))
            → NoGoalBeyond eq next starts test cut (suc k) (a ∷ v)
        none_beyond cut k a v answer begin goes fails listed each [] short g =
            absurd (true≢false (sym (subst (λ u. test (end_of a u) ≡ true) (append_nil v) g.goes.ends) ∙ fails))
        none_beyond cut k a v answer begin goes fails listed each (b ∷ w) short g =
            let reach : IsReachable eq (HasSuccessor eq next) starts a = record { walk = a ∷ []; goes = record { walks = tt; begins = begin; ends = laws.refl a } } in
            let q = item_of answer b (has_alike (next (end_of a v)) answer b (back answer (next (end_of a v)) listed) (step_at v a b w g.goes.walks)) in
            let e = eq_sym q.0 b q.2 in
            elim (each q.0 q.1) as (λ _. ⊥) [
              | inl h ↦ new_at (a ∷ v) b q.0 w g.distinct h q.2
              | inr none ↦ none w (λ c. omega (arith, short c)) (subst (λ p. IsGoalPath eq (HasSuccessor eq next) starts test p) (sym (append_assoc (a ∷ v) (q.0 ∷ []) w)) (record {
                goes = record { walks = follows_replaced v a b q.0 w reach e g.goes.walks; begins = g.goes.begins; ends = ends_replaced v a b q.0 w reach e g.goes.walks g.goes.ends };
                distinct = once_replaced (a ∷ v) b q.0 w e g.distinct;
              }))
            ]
          where
            back : (xs ys : List N) → SameNodes eq xs ys → SameNodes eq ys xs
            back [] [] h = tt
            back [] (y ∷ ys) h = absurd h
            back (x ∷ xs) [] h = absurd h
            back (x ∷ xs) (y ∷ ys) h = (eq_sym x y h.0, back xs ys h.1)

        -- each walk from the one start to a node that passes holds a path from it
        pub path_in : (s : N) → HasNode eq starts s → (walk : List N) → IsGoalWalk eq (HasSuccessor eq next) (s ∷ []) test walk
            → (w : List N) × (length (s ∷ w) ≤ length walk) × IsGoalPath eq (HasSuccessor eq next) starts test (s ∷ w)
        path_in s begin [] g = absurd g.walks
        path_in s begin (a ∷ v) g =
            let e : eq s a ≡ true = elim g.begins [ inl h ↦ h | inr h ↦ absurd h ] in
            let reach : IsReachable eq (HasSuccessor eq next) starts a = record { walk = a ∷ []; goes = record { walks = tt; begins = has_same starts s a begin e; ends = laws.refl a } } in
            let r : IsReachable eq (HasSuccessor eq next) starts s = record { walk = s ∷ []; goes = record { walks = tt; begins = begin; ends = laws.refl s } } in
            let q = shorten v s r (follows_alike v a s reach (eq_sym s a e) g.walks) (ends_alike v a s reach (eq_sym s a e) g.ends) in
            (q.nodes, omega (arith, q.short), record { goes = record { walks = q.goes; begins = begin; ends = q.ends }; distinct = (q.apart, q.distinct) })

-- what stands in a list in reverse
in_reverse : {A : Type 0} (xs : List A) (y : A) → Contains xs y → Contains (reverse xs) y
in_reverse [] y m = m
in_reverse (x ∷ xs) y m = subst (λ zs. Contains zs y) (sym (reverse-cons x xs)) (elim (Contains-cases xs x y m) as (λ _. Contains (reverse xs ++ x ∷ []) y) [
  | inl e ↦ subst (λ z. Contains (reverse xs ++ x ∷ []) z) e (Contains-push (reverse xs) x)
  | inr k ↦ Contains-append_left (reverse xs) (x ∷ []) y (in_reverse xs y k)
])

-- ---- a path that is looked through, seen from the node at its end

module _ {N : Type 0} (eq : N → N → Bool) (laws : IsEquivalence eq) (next : N → List N) (starts : List N) where
  last_get : (v : List N) (a x : N) → slice_get (a ∷ v) (length v) ≡ Some x → end_of a v ≡ x
  last_get [] a x h = cc
  last_get (b ∷ v) a x h = last_get v b x h

  has_found : (p : List N) (x : N) → list_any (λ y. eq y x) p ≡ true → HasNode eq p x
  has_found [] x h = absurd (true≢false (sym h))
  has_found (y ∷ p) x h = elim (or_cases (eq y x) (list_any (λ z. eq z x) p) h) [ inl e ↦ inl e | inr r ↦ inr (has_found p x r) ]

  not_found : (p : List N) (x : N) → list_any (λ y. eq y x) p ≡ false → ¬ (HasNode eq p x)
  not_found [] x h k = k
  not_found (y ∷ p) x h (inl e) = true≢false (sym e ∙ or_left (eq y x) (list_any (λ z. eq z x) p) h)
  not_found (y ∷ p) x h (inr k) = not_found p x (or_right (eq y x) (list_any (λ z. eq z x) p) h) k

  -- the node at the end of a path is in reach
  pub here_reached : (p : List N) (here : N) → IsPathFrom eq next starts p → slice_get p (length p - 1) ≡ Some here → IsReachable eq (HasSuccessor eq next) starts here
  here_reached [] here g at = absurd g.goes.walks
  here_reached (a ∷ v) here g at = record { walk = a ∷ v; goes = record { walks = g.goes.walks; begins = g.goes.begins; ends = subst (λ x. eq x here ≡ true) (sym (last_get v a here (subst (λ n. slice_get (a ∷ v) n ≡ Some here) (omega arith) at))) (laws.refl here) } }

  -- it is a goal path where that node passes
  found_here : (test : N → Bool) (p : List N) (here : N) → IsPathFrom eq next starts p → slice_get p (length p - 1) ≡ Some here → test here ≡ true → IsGoalPath eq (HasSuccessor eq next) starts test p
  found_here test [] here g at t = absurd g.goes.walks
  found_here test (a ∷ v) here g at t = record {
    goes = record { walks = g.goes.walks; begins = g.goes.begins; ends = subst (λ x. test x ≡ true) (sym (last_get v a here (subst (λ n. slice_get (a ∷ v) n ≡ Some here) (omega arith) at))) t };
    distinct = g.distinct;
  }

  -- and it goes on to each successor that is not on it
  one_more : (p answer : List N) (here y : N) → IsPathFrom eq next starts p → slice_get p (length p - 1) ≡ Some here → SameNodes eq answer (next here) → Contains answer y → ¬ (HasNode eq p y) → IsPathFrom eq next starts (p ++ y ∷ [])
  one_more [] answer here y g at s m n = absurd g.goes.walks
  one_more (a ∷ v) answer here y g at s m n =
      let last = last_get v a here (subst (λ k. slice_get (a ∷ v) k ≡ Some here) (omega arith) at) in
      record {
        goes = record { walks = follows_more eq laws next starts v a y g.goes.walks (subst (λ x. HasSuccessor eq next x y) (sym last) (has_alike eq laws answer (next here) y s (has_item answer y m))); begins = g.goes.begins; ends = refl };
        distinct = NoRepeats-append eq (eq_sym eq laws) (a ∷ v) y g.distinct n;
      }
    where
      has_item : (xs : List N) (x : N) → Contains xs x → HasNode eq xs x
      has_item [] x m = absurd (omega (arith, m.1))
      has_item (z ∷ xs) x m = elim (Contains-cases xs z x m) as (λ _. HasNode eq (z ∷ xs) x) [ inl e ↦ inl (subst (λ u. eq u x ≡ true) (sym e) (laws.refl x)) | inr k ↦ inr (has_item xs x k) ]

  -- a path to which a node that follows was added
  pub pushed_on : (p now seen pushed answer waiting rest : List N) (y : N) → IsPathFrom eq next starts p → FollowsEnd eq next p answer → ((x : N) → Contains waiting x → Contains answer x) → waiting ≡ rest ++ y ∷ []
      → now ≡ p → seen ≡ now → false ≡ list_any (λ x. eq x y) seen → pushed ≡ now ++ y ∷ [] → IsPathFrom eq next starts pushed × (pushed ≡ p ++ y ∷ [])
  pushed_on p now seen pushed answer waiting rest y g f below w same at new e =
      let fresh : list_any (λ x. eq x y) p ≡ false = subst (λ xs. list_any (λ x. eq x y) xs ≡ false) (at ∙ same) (sym new) in
      let m : Contains answer y = below y (subst (λ xs. Contains xs y) (sym w) (Contains-push rest y)) in
      let whole : pushed ≡ p ++ y ∷ [] = e ∙ ap (λ xs. xs ++ y ∷ []) same in
      let more = one_more p f.listed f.here y g f.at f.same (Contains-reverse f.listed y (subst (λ xs. Contains xs y) f.reversed m)) (not_found p y fresh) in
      (subst (λ xs. IsPathFrom eq next starts xs) (sym whole) more, whole)

  module _ (test : N → Bool) where
    -- more paths may have been cut off
    cut_more : (cut deeper : Bool) (k : ℕ) (p : List N) → NoGoalBeyond eq next starts test cut k p → NoGoalBeyond eq next starts test (cut || deeper) k p
    cut_more true deeper k p h = h
    cut_more false deeper k p h = λ w short. h w (λ e. absurd (true≢false (sym e)))

    cut_deeper : (cut deeper : Bool) (k : ℕ) (p : List N) → NoGoalBeyond eq next starts test deeper k p → NoGoalBeyond eq next starts test (cut || deeper) k p
    cut_deeper true true k p h = h
    cut_deeper true false k p h = λ w short. h w (λ e. absurd (true≢false (sym e)))
    cut_deeper false deeper k p h = h

    -- nothing is found at the end of a path that may not go on
    none_here : (p : List N) (here : N) → IsPathFrom eq next starts p → slice_get p (length p - 1) ≡ Some here → test here ≡ false → NoGoalBeyond eq next starts test true 0 p
    none_here [] here g at t w short k = absurd g.goes.walks
    none_here (a ∷ v) here g at t [] short k =
        let last = last_get v a here (subst (λ n. slice_get (a ∷ v) n ≡ Some here) (omega arith) at) in
        true≢false (sym (subst (λ u. test (end_of a u) ≡ true) (nil_right v) k.goes.ends) ∙ subst (λ x. test x ≡ false) (sym last) t)
      where
        nil_right : (xs : List N) → xs ++ [] ≡ xs
        nil_right [] = refl
        nil_right (x ∷ xs) = ap (λ ys. x ∷ ys) (nil_right xs)
    none_here (a ∷ v) here g at t (b ∷ w) short k = absurd (omega (arith, short refl))

    none_past : ((x y : N) → IsReachable eq (HasSuccessor eq next) starts x → eq x y ≡ true → SameNodes eq (next x) (next y))
        → ((x y : N) → IsReachable eq (HasSuccessor eq next) starts x → eq x y ≡ true → test x ≡ test y)
        → (cut : Bool) (steps : ℕ) (p answer : List N) (here : N) → ¬ (steps ≡ 0) → IsPathFrom eq next starts p → slice_get p (length p - 1) ≡ Some here → test here ≡ false → SameNodes eq answer (next here)
        → ((y : N) → Contains answer y → HasNode eq p y ⊎ NoGoalBeyond eq next starts test cut (steps - 1) (p ++ y ∷ []))
        → NoGoalBeyond eq next starts test cut steps p
    none_past alike test_alike cut zero p answer here more g at t s each = absurd (more refl)
    none_past alike test_alike cut (suc k) [] answer here more g at t s each = absurd g.goes.walks
    none_past alike test_alike cut (suc k) (a ∷ v) answer here more g at t s each =
        let last = last_get v a here (subst (λ n. slice_get (a ∷ v) n ≡ Some here) (omega arith) at) in
        none_beyond eq laws next starts alike test test_alike cut k a v answer g.goes.begins g.goes.walks (subst (λ x. test x ≡ false) (sym last) t) (subst (λ x. SameNodes eq answer (next x)) (sym last) s)
        (λ y m. subst (λ n. HasNode eq (a ∷ v) y ⊎ NoGoalBeyond eq next starts test cut n ((a ∷ v) ++ y ∷ [])) (omega arith) (each y m))

    -- what is known of the nodes that follow once the last that waited was on the path, or was looked through
    module _ (cut : Bool) (k : ℕ) (p answer waiting rest : List N) (y : N) (w : waiting ≡ rest ++ y ∷ []) (each : (x : N) → Contains answer x → Contains waiting x ⊎ (HasNode eq p x ⊎ NoGoalBeyond eq next starts test cut k (p ++ x ∷ []))) where
      pub left_same : (now seen : List N) → now ≡ p → seen ≡ now → true ≡ list_any (λ x. eq x y) seen → (x : N) → Contains answer x → Contains rest x ⊎ (HasNode eq p x ⊎ NoGoalBeyond eq next starts test cut k (p ++ x ∷ []))
      left_same now seen same at old x m =
          let has = has_found p y (subst (λ xs. list_any (λ x. eq x y) xs ≡ true) (at ∙ same) (sym old)) in
          elim (each x m) as (λ _. Contains rest x ⊎ (HasNode eq p x ⊎ NoGoalBeyond eq next starts test cut k (p ++ x ∷ []))) [
            | inl h ↦ elim (Contains-push_cases rest y x (subst (λ xs. Contains xs x) w h)) as (λ _. Contains rest x ⊎ (HasNode eq p x ⊎ NoGoalBeyond eq next starts test cut k (p ++ x ∷ []))) [
              | inl i ↦ inl i
              | inr e ↦ inr (inl (subst (λ z. HasNode eq p z) e has))
            ]
            | inr h ↦ inr h
          ]

      pub left_more : (deeper : Bool) (pushed : List N) → pushed ≡ p ++ y ∷ [] → NoGoalBeyond eq next starts test deeper k pushed → (x : N) → Contains answer x → Contains rest x ⊎ (HasNode eq p x ⊎ NoGoalBeyond eq next starts test (cut || deeper) k (p ++ x ∷ []))
      left_more deeper pushed e none x m =
          elim (each x m) as (λ _. Contains rest x ⊎ (HasNode eq p x ⊎ NoGoalBeyond eq next starts test (cut || deeper) k (p ++ x ∷ []))) [
            | inl h ↦ elim (Contains-push_cases rest y x (subst (λ xs. Contains xs x) w h)) as (λ _. Contains rest x ⊎ (HasNode eq p x ⊎ NoGoalBeyond eq next starts test (cut || deeper) k (p ++ x ∷ []))) [
              | inl i ↦ inl i
              | inr q ↦ inr (inr (cut_deeper cut deeper k (p ++ x ∷ []) (subst (λ z. NoGoalBeyond eq next starts test deeper k (p ++ z ∷ [])) q (subst (λ xs. NoGoalBeyond eq next starts test deeper k xs) e none))))
            ]
            | inr h ↦ elim h as (λ _. Contains rest x ⊎ (HasNode eq p x ⊎ NoGoalBeyond eq next starts test (cut || deeper) k (p ++ x ∷ []))) [
              | inl i ↦ inr (inl i)
              | inr n ↦ inr (inr (cut_more cut deeper k (p ++ x ∷ []) n))
            ]
          ]

    -- what the test of the node at its end tells of a path
    pub end_told : (p : List N) (here : N) → IsPathFrom eq next starts p → slice_get p (length p - 1) ≡ Some here → (b : Bool) → b ≡ test here → MatchBool b (IsGoalPath eq (HasSuccessor eq next) starts test p) (NoGoalBeyond eq next starts test true 0 p)
    end_told p here g at true e = found_here test p here g at (sym e)
    end_told p here g at false e = none_here p here g at (sym e)

    -- Nothing is found beyond a path where nothing is found at its end, nor beyond it with each node that follows.
    pub none_left : ((x y : N) → IsReachable eq (HasSuccessor eq next) starts x → eq x y ≡ true → SameNodes eq (next x) (next y))
        → ((x y : N) → IsReachable eq (HasSuccessor eq next) starts x → eq x y ≡ true → test x ≡ test y)
        → (cut : Bool) (steps : ℕ) (p answer : List N) → ¬ (steps ≡ 0) → IsPathFrom eq next starts p → FollowsEnd eq next p answer → NoGoalBeyond eq next starts test true 0 p
        → ((y : N) → Contains answer y → HasNode eq p y ⊎ NoGoalBeyond eq next starts test cut (steps - 1) (p ++ y ∷ []))
        → NoGoalBeyond eq next starts test cut steps p
    none_left alike test_alike cut steps p answer more g f none each = none_past alike test_alike cut steps p f.listed f.here more g f.at (fails (test f.here) refl) f.same
        (λ y m. each y (subst (λ xs. Contains xs y) (sym f.reversed) (in_reverse f.listed y m)))
      where
        nil_right : (xs : List N) → xs ++ [] ≡ xs
        nil_right [] = refl
        nil_right (x ∷ xs) = ap (λ ys. x ∷ ys) (nil_right xs)

        fails : (b : Bool) → test f.here ≡ b → test f.here ≡ false
        fails true e = absurd (none [] (λ _. omega arith) (subst (λ q. IsGoalPath eq (HasSuccessor eq next) starts test q) (sym (nil_right p)) (found_here test p f.here g f.at e)))
        fails false e = e

-- the last node of a path is where it is read
pub last_at : {N : Type 0} (eq : N → N → Bool) (next : N → List N) (starts : List N) (p : List N) (n : ℕ) (here : N) → IsPathFrom eq next starts p → n ≡ length p → here ≡ slice_index_or p (n - 1) here → slice_get p (length p - 1) ≡ Some here
last_at eq next starts [] n here g l e = absurd g.goes.walks
last_at eq next starts (a ∷ v) n here g l e = subst (λ k. slice_get (a ∷ v) (k - 1) ≡ Some here) l (at_place (a ∷ v) (n - 1) here here (omega (arith, l)) (sym e))

-- a list without the element that was put at its end
module _ {N : Type 0} (eq : N → N → Bool) (next : N → List N) (starts : List N) (test : N → Bool) (steps : ℕ) where
  -- what is known of an outcome, once it is known which one it is
  pub deep_as : (d e : Deepened) (path path' : List N) → d ≡ e → Deepens eq next starts test steps d path path' → Deepens eq next starts test steps e path path'
  deep_as d e path path' same h = subst (λ (x : Deepened). Deepens eq next starts test steps x path path') same h

-- a path found one step deeper is short enough
pub deep_short : (a b s l : ℕ) → l ≤ b + (s - 1) → b ≡ a + 1 → ¬ (s ≡ 0) → l ≤ a + s
deep_short a b s l h e n = omega (arith, h, e, n)

pub some_step : (s : ℕ) → ¬ (s ≡ 0) → 1 ≤ s
some_step s n = omega (arith, n)

pub no_longer : (a b : ℕ) → a ≤ a + b
no_longer a b = omega arith

pub popped_less : {A : Type 0} (xs ys : List A) (x : A) → xs ≡ ys ++ x ∷ [] → length ys < length xs
popped_less xs ys x e = omega (arith, ap length e, length-append ys (x ∷ []))

pub cut_back : {A : Type 0} (xs pushed left back : List A) (x : A) (n : ℕ) → pushed ≡ xs ++ x ∷ [] → left ≡ pushed → back ≡ take n left → n ≡ length xs → back ≡ xs
cut_back {A = A} xs pushed left back x n e s t l = t ∙ ap (take n) (s ∙ e) ∙ take_push xs n l
  where
    take_push : (ys : List A) (n : ℕ) → n ≡ length ys → take n (ys ++ x ∷ []) ≡ ys
    take_push [] n e = rw e refl
    take_push (y ∷ ys) zero e = absurd (omega (arith, e))
    take_push (y ∷ ys) (suc n) e = ap (λ zs. y ∷ zs) (take_push ys n (omega (arith, e)))

-- a path has a node
pub has_end : {N : Type 0} (eq : N → N → Bool) (next : N → List N) (starts : List N) (p : List N) → IsPathFrom eq next starts p → 0 < length p
has_end eq next starts [] g = absurd g.goes.walks
has_end eq next starts (a ∷ v) g = omega arith

-- ---- what is known once paths of each length up to some limit were looked through

module _ {N : Type 0} (eq : N → N → Bool) (laws : IsEquivalence eq) (next : N → List N) (s : N) (alike : (x y : N) → IsReachable eq (HasSuccessor eq next) (s ∷ []) x → eq x y ≡ true → SameNodes eq (next x) (next y))
    (test : N → Bool) (test_alike : (x y : N) → IsReachable eq (HasSuccessor eq next) (s ∷ []) x → eq x y ≡ true → test x ≡ test y) where
  pub start_alone : IsPathFrom eq next (s ∷ []) (s ∷ [])
  start_alone = record { goes = record { walks = tt; begins = inl (laws.refl s); ends = refl }; distinct = ((λ k. k), tt) }

  pub fewest_of : (steps : ℕ) (path : List N) → ((w : List N) → length w < steps → ¬ (IsGoalPath eq (HasSuccessor eq next) (s ∷ []) test (s ∷ w))) → IsGoalPath eq (HasSuccessor eq next) (s ∷ []) test path → length path ≤ suc steps → IsFewestEdgesGoalPath eq next (s ∷ []) test path
  fewest_of steps path none goal short = record {
    goes = goal;
    fewest = λ walk g.
        let q = path_in eq laws next (s ∷ []) alike test test_alike s (inl (laws.refl s)) walk g in
        elim (below_or (length q.0) steps) as (λ _. length path ≤ length walk) [
          | inl low ↦ absurd (none q.0 low q.2)
          | inr high ↦ omega (arith, high, short, q.1)
        ];
  }
    where
      below_or : (a b : ℕ) → (a < b) ⊎ (b ≤ a)
      below_or zero zero = inr (omega arith)
      below_or zero (suc b) = inl (omega arith)
      below_or (suc a) zero = inr (omega arith)
      below_or (suc a) (suc b) = elim (below_or a b) as (λ _. (suc a < suc b) ⊎ (suc b ≤ suc a)) [ inl h ↦ inl (omega (arith, h)) | inr h ↦ inr (omega (arith, h)) ]

  pub none_of : ((w : List N) → ¬ (IsGoalPath eq (HasSuccessor eq next) (s ∷ []) test (s ∷ w))) → HasNoGoalWalk eq (HasSuccessor eq next) (s ∷ []) test
  none_of none walk g = let q = path_in eq laws next (s ∷ []) alike test test_alike s (inl (laws.refl s)) walk g in none q.0 q.2
