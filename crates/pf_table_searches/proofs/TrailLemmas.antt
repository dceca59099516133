-- The path that a search stands on, as it grows and is taken back, and what is ahead of it.
use Rattle.std.proofs.Common.{◌≡◌, ℕ, ℤ, zero, suc, ◌+◌, ◌<◌, ◌≤◌, Bool, true, false, true≢false, List, [], ◌∷◌, ◌++◌, ◌∙◌, Option, Some, None, length, length-append, refl, sym, ap, subst, arith, inl, inr, map, replicate, nat_eq, eq-eqb}
use Rattle.std.specs.Prelude.{◌⊎◌, slice_get, slice_set, if◌then◌else◌}
use Rattle.std.proofs.lemmas.Bool.{lt-ltb, le-ltb, cases_lt}
use Rattle.std.proofs.lemmas.Option.{slice_get_within}
use Rattle.std.proofs.lemmas.Cmp.{nat_eq_equiv}
use Rattle.std.proofs.lemmas.List.{append-nil, append_assoc, length-map, length-set, map-append}
use borrow.Author.Tests.{eqb-true}
use Rattle.pf_base.specs.Walks.{HasNode, NoRepeats, Follows, IsWalk, EndsAt, end_of, IsGoalPath}
use Rattle.pf_base.specs.Successors.{HasSuccessor}
use Rattle.pf_base.proofs.ListLemmas.{get_set, none_in, nat_dec}
use Rattle.pf_core.proofs.PathLemmas.{HasNode-append_cases, NoRepeats-append}
use Rattle.pf_tables.specs.Graphs.{HasEdgeAt, edges_at, successors_of}
use Rattle.pf_table_searches.specs.Internal.Trails.{nodes_along, nodes_to, IsMarking, AreAllMarked, IsNextEnd, GoesOn, IsAhead, IsPathFrom, IsSearchedTo, Deepens}
use Rattle.pf_table_searches.specs.declared.deepening.Deepened.TheVariants.{Missed}

pub some_same : {A : Type 0} (x y : A) → Some x ≡ Some y → x ≡ y
some_same x y e = cc

symm : (x y : ℕ) → nat_eq x y ≡ true → nat_eq y x ≡ true
symm x y h = eq-eqb y x (sym (eqb-true x y h))

pub no_items : {A : Type 0} (xs : List A) → length xs ≡ 0 → xs ≡ []
no_items [] h = refl
no_items (x ∷ xs) h = absurd (omega (arith, h))

-- ---- the nodes of a path

has_front : (w v : List ℕ) (x : ℕ) → HasNode nat_eq w x → HasNode nat_eq (w ++ v) x
has_front [] v x h = absurd h
has_front (y ∷ w) v x (inl h) = inl h
has_front (y ∷ w) v x (inr h) = inr (has_front w v x h)

has_middle : (w v : List ℕ) (x : ℕ) → HasNode nat_eq (w ++ x ∷ v) x
has_middle [] v x = inl (nat_eq_equiv.refl x)
has_middle (y ∷ w) v x = inr (has_middle w v x)

once_front : (w v : List ℕ) → NoRepeats nat_eq (w ++ v) → NoRepeats nat_eq w
once_front [] v h = tt
once_front (y ∷ w) v h = ((λ k. h.0 (has_front w v y k)), once_front w v h.1)

-- a node that comes later is none of those before it
apart : (w v : List ℕ) (x : ℕ) → NoRepeats nat_eq (w ++ x ∷ v) → ¬ (HasNode nat_eq w x)
apart [] v x n h = h
apart (y ∷ w) v x n (inl h) = n.0 (subst (λ (z : ℕ). HasNode nat_eq (w ++ x ∷ v) z) (eqb-true x y (symm y x h)) (has_middle w v x))
apart (y ∷ w) v x n (inr h) = apart w v x n.1 h

module _ (step : ℕ → ℕ → Type 0) where
  follows_front : (w v : List ℕ) (a : ℕ) → Follows step a (w ++ v) → Follows step a w
  follows_front [] v a h = tt
  follows_front (b ∷ w) v a h = (h.0, follows_front w v b h.1)

  follows_more : (w : List ℕ) (a n y : ℕ) → Follows step a (w ++ n ∷ []) → step n y → Follows step a ((w ++ n ∷ []) ++ y ∷ [])
  follows_more [] a n y f s = (f.0, (s, tt))
  follows_more (b ∷ w) a n y f s = (f.0, follows_more w b n y f.1 s)

  -- the step between two nodes of a walk
  step_after : (v : List ℕ) (b z : ℕ) (w : List ℕ) → IsWalk step ((v ++ b ∷ []) ++ z ∷ w) → step b z
  step_after [] b z w h = h.0
  step_after (a ∷ []) b z w h = h.1.0
  step_after (a ∷ c ∷ v) b z w h = step_after (c ∷ v) b z w h.1

end_more : (w : List ℕ) (a y : ℕ) → end_of a (w ++ y ∷ []) ≡ y
end_more [] a y = refl
end_more (b ∷ w) a y = end_more w b y

ends_with : (test : ℕ → Bool) (v : List ℕ) (y : ℕ) → EndsAt nat_eq test (v ++ y ∷ []) → test y ≡ true
ends_with test [] y h = h
ends_with test (a ∷ v) y h = ap test (sym (end_more v a y)) ∙ h

module _ (next : ℕ → List ℕ) (from : ℕ) where
  -- the start alone
  pub path_alone : (test : ℕ → Bool) → test from ≡ true → IsGoalPath nat_eq (HasSuccessor nat_eq next) (from ∷ []) test (from ∷ [])
  path_alone test t = record { goes = record { walks = tt; begins = inl (nat_eq_equiv.refl from); ends = t }; distinct = ((λ h. h), tt) }

  -- a path without its last node
  pub path_front : (v : List ℕ) (m n : ℕ) → IsPathFrom next from ((v ++ m ∷ []) ++ n ∷ []) → IsPathFrom next from (v ++ m ∷ [])
  path_front [] m n g = record { goes = record { walks = tt; begins = g.goes.begins; ends = refl }; distinct = ((λ h. h), tt) }
  path_front (a ∷ v) m n g = record {
    goes = record { walks = follows_front (HasSuccessor nat_eq next) (v ++ m ∷ []) (n ∷ []) a g.goes.walks; begins = g.goes.begins; ends = refl };
    distinct = once_front (a ∷ (v ++ m ∷ [])) (n ∷ []) g.distinct;
  }

  -- a path with one node more
  pub path_more : (test : ℕ → Bool) (v : List ℕ) (n y : ℕ) → IsPathFrom next from (v ++ n ∷ []) → HasNode nat_eq (next n) y → ¬ (HasNode nat_eq (v ++ n ∷ []) y) → test y ≡ true → IsGoalPath nat_eq (HasSuccessor nat_eq next) (from ∷ []) test ((v ++ n ∷ []) ++ y ∷ [])
  path_more test [] n y g s new t = record { goes = record { walks = (s, tt); begins = g.goes.begins; ends = t }; distinct = NoRepeats-append nat_eq symm (n ∷ []) y g.distinct new }
  path_more test (a ∷ v) n y g s new t = record {
    goes = record { walks = follows_more (HasSuccessor nat_eq next) v a n y g.goes.walks s; begins = g.goes.begins; ends = ap test (end_more (v ++ n ∷ []) a y) ∙ t };
    distinct = NoRepeats-append nat_eq symm (a ∷ (v ++ n ∷ [])) y g.distinct new;
  }

-- ---- marks

pub none_marked : (n : ℕ) (marked : List Bool) → marked ≡ replicate n false → (x : ℕ) → ¬ (slice_get marked x ≡ Some true)
none_marked n marked e x h = all n x (ap (λ (bs : List Bool). slice_get bs x) (sym e) ∙ h)
  where
    all : (n x : ℕ) → ¬ (slice_get (replicate n false) x ≡ Some true)
    all zero x h = none_in x true h
    all (suc n) zero h = true≢false (sym (some_same false true h))
    all (suc n) (suc x) h = all n x h

pub no_marks : (marked : List Bool) → ((x : ℕ) → ¬ (slice_get marked x ≡ Some true)) → IsMarking [] marked
no_marks marked none = record { on = λ x h. absurd h; back = λ x h. absurd (none x h) }

module _ (nodes : List ℕ) (marked : List Bool) where
  pub unmarked : (y : ℕ) → IsMarking nodes marked → slice_get marked y ≡ Some false → ¬ (HasNode nat_eq nodes y)
  unmarked y m free h = true≢false (some_same true false (sym (m.on y h) ∙ free))

  pub mark : (y : ℕ) → IsMarking nodes marked → y < length marked → IsMarking (nodes ++ y ∷ []) (slice_set marked y true)
  mark y m l = record {
    on = λ x h. elim (get_set marked y x true l) as (λ _. slice_get (slice_set marked y true) x ≡ Some true) [
      | inl e ↦ e.1
      | inr e ↦ elim (HasNode-append_cases nat_eq nodes y x h) as (λ _. slice_get (slice_set marked y true) x ≡ Some true) [
        | inl k ↦ e.1 ∙ m.on x k
        | inr k ↦ absurd (e.0 (sym (eqb-true y x k)))
      ]
    ];
    back = λ x h. elim (get_set marked y x true l) as (λ _. HasNode nat_eq (nodes ++ y ∷ []) x) [
      | inl e ↦ subst (λ (z : ℕ). HasNode nat_eq (nodes ++ y ∷ []) z) (sym e.0) (has_middle nodes [] y)
      | inr e ↦ has_front nodes (y ∷ []) x (m.back x (sym e.1 ∙ h))
    ];
  }

  pub unmark : (n : ℕ) → IsMarking (nodes ++ n ∷ []) marked → NoRepeats nat_eq (nodes ++ n ∷ []) → n < length marked → IsMarking nodes (slice_set marked n false)
  unmark n m once l = record {
    on = λ x h. elim (get_set marked n x false l) as (λ _. slice_get (slice_set marked n false) x ≡ Some true) [
      | inl e ↦ absurd (apart nodes [] n once (subst (λ (z : ℕ). HasNode nat_eq nodes z) e.0 h))
      | inr e ↦ e.1 ∙ m.on x (has_front nodes (n ∷ []) x h)
    ];
    back = λ x h. elim (get_set marked n x false l) as (λ _. HasNode nat_eq nodes x) [
      | inl e ↦ absurd (true≢false (some_same true false (sym h ∙ e.1)))
      | inr e ↦ elim (HasNode-append_cases nat_eq nodes n x (m.back x (sym e.1 ∙ h))) as (λ _. HasNode nat_eq nodes x) [
        | inl k ↦ k
        | inr k ↦ absurd (e.0 (sym (eqb-true n x k)))
      ]
    ];
  }

-- ---- edges at places

module _ {C : Type 0} (value : C → ℤ) where
  at_place : (ps : List (Option (ℕ × C))) (z : ℕ) → HasNode nat_eq (map (λ (e : ℕ × ℤ). e.0) (edges_at value ps)) z → (q : ℕ) × (c : C) × HasEdgeAt ps q (z, c)
  at_place [] z h = absurd h
  at_place (None ∷ ps) z h = let r = at_place ps z h in (suc r.0, r.1, r.2)
  at_place (Some e ∷ ps) z (inl h) = (0, e.1, ap (λ (n : ℕ). Some (Some (n, e.1))) (eqb-true e.0 z h))
  at_place (Some e ∷ ps) z (inr h) = let r = at_place ps z h in (suc r.0, r.1, r.2)

  of_place : (ps : List (Option (ℕ × C))) (q z : ℕ) (c : C) → HasEdgeAt ps q (z, c) → HasNode nat_eq (map (λ (e : ℕ × ℤ). e.0) (edges_at value ps)) z
  of_place [] q z c h = absurd (none_in q _ h)
  of_place (None ∷ ps) zero z c h = absurd (differ (z, c) (some_same None (Some (z, c)) h))
    where
      differ : (e : ℕ × C) → None ≡ Some e → ⊥
      differ e h = cc
  of_place (None ∷ ps) (suc q) z c h = of_place ps q z c h
  of_place (Some e ∷ ps) zero z c h =
      let same : e ≡ (z, c) = some_same e (z, c) (some_same (Some e) (Some (z, c)) h) in
      inl (subst (λ (d : ℕ × C). nat_eq d.0 z ≡ true) (sym same) (nat_eq_equiv.refl z))
  of_place (Some e ∷ ps) (suc q) z c h = inr (of_place ps q z c h)

  module _ (size : ℕ) (places : ℕ → List (Option (ℕ × C))) where
    inside_at : (n : ℕ) → n < size → successors_of value size places n ≡ map (λ (e : ℕ × ℤ). e.0) (edges_at value (places n))
    inside_at n h = ap (λ (b : Bool). map (λ (e : ℕ × ℤ). e.0) (if b then edges_at value (places n) else [])) (lt-ltb n size h)

    -- a node follows another exactly where an edge at a place leads to it
    pub successor_at : (n z : ℕ) → n < size → HasNode nat_eq (successors_of value size places n) z → (q : ℕ) × (c : C) × HasEdgeAt (places n) q (z, c)
    successor_at n z l h = at_place (places n) z (subst (λ (zs : List ℕ). HasNode nat_eq zs z) (inside_at n l) h)

    pub successor_of : (n z q : ℕ) (c : C) → n < size → HasEdgeAt (places n) q (z, c) → HasNode nat_eq (successors_of value size places n) z
    successor_of n z q c l h = subst (λ (zs : List ℕ). HasNode nat_eq zs z) (sym (inside_at n l)) (of_place (places n) q z c h)

    -- nothing follows a number that is no node
    pub none_outside : (n : ℕ) → size ≤ n → (a : ℕ) → nat_eq n a ≡ true → successors_of value size places a ≡ []
    none_outside n h a e = subst (λ (k : ℕ). successors_of value size places k ≡ []) (eqb-true n a e) (ap (λ (b : Bool). map (λ (d : ℕ × ℤ). d.0) (if b then edges_at value (places n) else [])) (le-ltb n size h))

-- ---- what is ahead

module _ {C : Type 0} (places : ℕ → List (Option (ℕ × C))) where
  ahead_split : (xs : List (ℕ × ℕ)) (node place : ℕ) (path : List ℕ) → IsAhead places (xs ++ (node, place) ∷ []) path
      → IsAhead places xs path ⊎ ((w : List ℕ) × (path ≡ nodes_to xs node ++ w) × GoesOn places node place w)
  ahead_split [] node place [] h = absurd h
  ahead_split [] node place (x ∷ w) h = elim h.1 as (λ _. IsAhead places [] (x ∷ w) ⊎ ((v : List ℕ) × (x ∷ w ≡ node ∷ v) × GoesOn places node place v)) [
    | inl g ↦ inr (w, ap (λ (z : ℕ). z ∷ w) (sym h.0), g)
    | inr g ↦ absurd g
  ]
  ahead_split (e ∷ xs) node place [] h = absurd h
  ahead_split (e ∷ xs) node place (x ∷ w) h = elim h.1 as (λ _. IsAhead places (e ∷ xs) (x ∷ w) ⊎ ((v : List ℕ) × (x ∷ w ≡ e.0 ∷ (nodes_to xs node ++ v)) × GoesOn places node place v)) [
    | inl g ↦ inl (h.0, inl g)
    | inr g ↦ elim (ahead_split xs node place w g) as (λ _. IsAhead places (e ∷ xs) (x ∷ w) ⊎ ((v : List ℕ) × (x ∷ w ≡ e.0 ∷ (nodes_to xs node ++ v)) × GoesOn places node place v)) [
      | inl k ↦ inl (h.0, inr k)
      | inr k ↦ inr (k.0, (let eq : w ≡ nodes_to xs node ++ k.0 = k.1 in let first : e.0 ≡ x = h.0 in cc), k.2)
    ]
  ]

  ahead_left : (xs ys : List (ℕ × ℕ)) (path : List ℕ) → IsAhead places xs path → IsAhead places (xs ++ ys) path
  ahead_left [] ys path h = absurd h
  ahead_left (e ∷ xs) ys [] h = absurd h
  ahead_left (e ∷ xs) ys (x ∷ w) h = elim h.1 as (λ _. IsAhead places (e ∷ (xs ++ ys)) (x ∷ w)) [
    | inl g ↦ (h.0, inl g)
    | inr g ↦ (h.0, inr (ahead_left xs ys w g))
  ]

  ahead_top : (xs : List (ℕ × ℕ)) (node place : ℕ) (w : List ℕ) → GoesOn places node place w → IsAhead places (xs ++ (node, place) ∷ []) (nodes_to xs node ++ w)
  ahead_top [] node place w g = (refl, inl g)
  ahead_top (e ∷ xs) node place w g = (refl, inr (ahead_top xs node place w g))

  -- the end of the next edge, where a goal path goes on beyond the node
  module _ (below : List (ℕ × ℕ)) (node : ℕ) (path : List ℕ) (once : NoRepeats nat_eq path) (marked : List Bool) (marks : IsMarking (nodes_to below node) marked) where
    not_marked : (w : List ℕ) (y : ℕ) → path ≡ nodes_to below node ++ y ∷ w → ¬ (slice_get marked y ≡ Some true)
    not_marked w y e h = apart (nodes_to below node) w y (subst (λ (p : List ℕ). NoRepeats nat_eq p) e once) (marks.back y h)

    -- nothing is ahead at a node whose edges all lead to marked nodes
    pub ahead_below : (place : ℕ) → AreAllMarked (places node) marked place (length (places node)) → IsAhead places (below ++ (node, place) ∷ []) path → IsAhead places below path
    ahead_below place all h = elim (ahead_split below node place path h) as (λ _. IsAhead places below path) [
      | inl k ↦ k
      | inr k ↦ absurd (none k.0 k.1 k.2)
    ]
      where
        none : (w : List ℕ) → path ≡ nodes_to below node ++ w → ¬ (GoesOn places node place w)
        none [] e g = g
        none (y ∷ w) e g = not_marked w y e (all g.0 (y, g.1) g.2 (slice_get_within (places node) g.0 (Some (y, g.1)) g.3) g.3)

    -- what was ahead is ahead behind the next edge, or begins with it
    pub ahead_or : (size place end after : ℕ) → IsNextEnd size (places node) marked place end after → IsAhead places (below ++ (node, place) ∷ []) path
        → IsAhead places (below ++ (node, after) ∷ []) path ⊎ ((w : List ℕ) × (path ≡ (nodes_to below node ++ end ∷ []) ++ w))
    ahead_or size place end after n h = elim (ahead_split below node place path h) as (λ _. IsAhead places (below ++ (node, after) ∷ []) path ⊎ ((w : List ℕ) × (path ≡ (nodes_to below node ++ end ∷ []) ++ w))) [
      | inl k ↦ inl (ahead_left below ((node, after) ∷ []) path k)
      | inr k ↦ by k.0 k.1 k.2
    ]
      where
        by : (w : List ℕ) → path ≡ nodes_to below node ++ w → GoesOn places node place w → IsAhead places (below ++ (node, after) ∷ []) path ⊎ ((v : List ℕ) × (path ≡ (nodes_to below node ++ end ∷ []) ++ v))
        by [] e g = absurd g
        by (y ∷ w) e g = elim (cases_lt g.0 after) as (λ _. IsAhead places (below ++ (node, after) ∷ []) path ⊎ ((v : List ℕ) × (path ≡ (nodes_to below node ++ end ∷ []) ++ v))) [
          | inl low ↦ elim (nat_dec g.0 n.place) as (λ _. IsAhead places (below ++ (node, after) ∷ []) path ⊎ ((v : List ℕ) × (path ≡ (nodes_to below node ++ end ∷ []) ++ v))) [
            | inl here ↦
                let at : HasEdgeAt (places node) n.place (y, g.1) = subst (λ (q : ℕ). HasEdgeAt (places node) q (y, g.1)) here g.3 in
                let same : (y, g.1) ≡ (end, n.cost) = some_same _ _ (some_same _ _ (sym at ∙ n.edge)) in
                let ends : y ≡ end = ap (λ (d : ℕ × C). d.0) same in
                inr (w, e ∙ ap (λ (z : ℕ). nodes_to below node ++ z ∷ w) ends ∙ sym (append_assoc (nodes_to below node) (end ∷ []) w))
            | inr other ↦ absurd (not_marked w y e (n.before g.0 (y, g.1) g.2 (omega (arith, low, other, n.behind)) g.3))
          ]
          | inr high ↦ inl (subst (λ (p : List ℕ). IsAhead places (below ++ (node, after) ∷ []) p) (sym e) (ahead_top below node after (y ∷ w) (g.0, g.1, high, g.3)))
        ]

-- ---- a search that stands at a node

-- the nodes up to one that was put above the others
nodes_pushed : (below pushed : List (ℕ × ℕ)) (e : ℕ × ℕ) (node : ℕ) → pushed ≡ below ++ e ∷ [] → nodes_to pushed node ≡ nodes_to below e.0 ++ node ∷ []
nodes_pushed below pushed e node same = ap (λ (es : List (ℕ × ℕ)). nodes_to es node) same ∙ ap (λ (ns : List ℕ). ns ++ node ∷ []) (map-append (λ (d : ℕ × ℕ). d.0) below (e ∷ []))

module _ {C : Type 0} (value : C → ℤ) (size : ℕ) (places : ℕ → List (Option (ℕ × C))) (from : ℕ) (test : ℕ → Bool) (limit : ℕ) where
  abbrev next : ℕ → List ℕ
  next = successors_of value size places

  abbrev Searched : Bool → List (ℕ × ℕ) → ℕ → ℕ → List Bool → Type 0
  Searched = IsSearchedTo next from test places size limit

  pub searched_first : (cut : Bool) (below : List (ℕ × ℕ)) (marked : List Bool) → from < size → test from ≡ false → 0 < limit → below ≡ [] → length marked ≡ size → ((x : ℕ) → ¬ (slice_get marked x ≡ Some true))
      → IsSearchedTo (successors_of value size places) from test places size limit cut below from 0 (slice_set marked from true)
  searched_first cut below marked l t room begins wide clear = subst (λ (es : List (ℕ × ℕ)). Searched cut es from 0 (slice_set marked from true)) (sym begins) (record {
    path = path_alone next from (λ _. true) refl;
    marks = mark [] marked from (no_marks marked clear) (omega (arith, wide, l));
    wide = length-set marked from true ∙ wide;
    short = room;
    ahead = λ w f g. first w g;
  })
    where
      first : (w : List ℕ) → IsGoalPath nat_eq (HasSuccessor nat_eq next) (from ∷ []) test (from ∷ w) → IsAhead places ((from, 0) ∷ []) (from ∷ w)
      first [] g = absurd (true≢false (sym g.goes.ends ∙ t))
      first (z ∷ w) g = let r = successor_at value size places from z l g.goes.walks.0 in (refl, inl (r.0, r.1, omega arith, r.2))

  module _ (cut : Bool) (below : List (ℕ × ℕ)) (node place : ℕ) (marked : List Bool) (s : IsSearchedTo (successors_of value size places) from test places size limit cut below node place marked) where
    node_marked : slice_get marked node ≡ Some true
    node_marked = s.marks.on node (has_middle (nodes_along below) [] node)

    pub node_below : node < length marked
    node_below = slice_get_within marked node true node_marked

    pub node_inside : node < size
    node_inside = omega (arith, node_below, s.wide)

    module _ (end after : ℕ) (n : IsNextEnd size (places node) marked place end after) where
      ahead_on : (w : List ℕ) → (cut ≡ true → length w ≤ limit) → IsGoalPath nat_eq (HasSuccessor nat_eq next) (from ∷ []) test (from ∷ w)
          → IsAhead places (below ++ (node, after) ∷ []) (from ∷ w) ⊎ ((v : List ℕ) × (from ∷ w ≡ (nodes_to below node ++ end ∷ []) ++ v))
      ahead_on w f g = ahead_or places below node (from ∷ w) g.distinct marked s.marks size place end after n (s.ahead w f g)

      -- a goal path to a node that is none goes on from it
      goes_on : (path v : List ℕ) → test end ≡ false → path ≡ (nodes_to below node ++ end ∷ []) ++ v → IsGoalPath nat_eq (HasSuccessor nat_eq next) (from ∷ []) test path → (z : ℕ) × (w : List ℕ) × (v ≡ z ∷ w) × HasNode nat_eq (next end) z
      goes_on path [] t e g =
          let e' : path ≡ nodes_to below node ++ end ∷ [] = e ∙ append-nil (nodes_to below node ++ end ∷ []) in
          absurd (true≢false (sym (ends_with test (nodes_to below node) end (subst (EndsAt nat_eq test) e' g.goes.ends)) ∙ t))
      goes_on path (z ∷ w) t e g = (z, w, refl, step_after (HasSuccessor nat_eq next) (nodes_to below node) end z w (subst (IsWalk (HasSuccessor nat_eq next)) e g.goes.walks))

      -- the edge leads to a node beyond which paths are cut off
      pub searched_past : test end ≡ false → limit ≤ length below + 1 → IsSearchedTo (successors_of value size places) from test places size limit true below node after marked
      searched_past t far = record {
        path = s.path;
        marks = s.marks;
        wide = s.wide;
        short = s.short;
        ahead = λ w f g. elim (ahead_on w (λ _. f refl) g) as (λ _. IsAhead places (below ++ (node, after) ∷ []) (from ∷ w)) [
          | inl k ↦ k
          | inr k ↦
              let r = goes_on (from ∷ w) k.0 t k.1 g in
              let long : length (from ∷ w) ≡ length ((nodes_to below node ++ end ∷ []) ++ r.0 ∷ r.1) = ap length k.1 ∙ ap (λ (v : List ℕ). length ((nodes_to below node ++ end ∷ []) ++ v)) r.2 in
              absurd (omega (arith, long, length-append (nodes_to below node ++ end ∷ []) (r.0 ∷ r.1), length-append (nodes_to below node) (end ∷ []), length-append (nodes_along below) (node ∷ []), length-map below (λ (d : ℕ × ℕ). d.0), f refl, far))
        ];
      }

      path_to : (accepts : ℕ → Bool) → accepts end ≡ true → IsGoalPath nat_eq (HasSuccessor nat_eq next) (from ∷ []) accepts (nodes_to below node ++ end ∷ [])
      path_to accepts t = path_more next from accepts (nodes_along below) node end s.path (successor_of value size places node end n.place n.cost node_inside n.edge) (unmarked (nodes_to below node) marked end s.marks n.free) t

      -- the search goes along the edge
      pub searched_into : (pushed : List (ℕ × ℕ)) → test end ≡ false → length below + 1 < limit → pushed ≡ below ++ (node, after) ∷ []
          → IsSearchedTo (successors_of value size places) from test places size limit cut pushed end 0 (slice_set marked end true)
      searched_into pushed t near e =
          let nodes : nodes_to pushed end ≡ nodes_to below node ++ end ∷ [] = nodes_pushed below pushed (node, after) end e in
          let long : length pushed ≡ length below + 1 = ap length e ∙ length-append below ((node, after) ∷ []) in
          record {
            path = subst (IsPathFrom next from) (sym nodes) (path_to (λ _. true) refl);
            marks = subst (λ (ns : List ℕ). IsMarking ns (slice_set marked end true)) (sym nodes) (mark (nodes_to below node) marked end s.marks (omega (arith, s.wide, n.inside)));
            wide = length-set marked end true ∙ s.wide;
            short = omega (arith, long, near);
            ahead = λ w f g. elim (ahead_on w f g) as (λ _. IsAhead places (pushed ++ (end, 0) ∷ []) (from ∷ w)) [
              | inl k ↦ ahead_left places pushed ((end, 0) ∷ []) (from ∷ w) (subst (λ (es : List (ℕ × ℕ)). IsAhead places es (from ∷ w)) (sym e) k)
              | inr k ↦
                  let r = goes_on (from ∷ w) k.0 t k.1 g in
                  let q = successor_at value size places end r.0 n.inside r.3 in
                  let whole : from ∷ w ≡ nodes_to pushed end ++ r.0 ∷ r.1 = k.1 ∙ ap (λ (v : List ℕ). (nodes_to below node ++ end ∷ []) ++ v) r.2 ∙ ap (λ (ns : List ℕ). ns ++ r.0 ∷ r.1) (sym nodes) in
                  subst (λ (p : List ℕ). IsAhead places (pushed ++ (end, 0) ∷ []) p) (sym whole) (ahead_top places pushed end 0 (r.0 ∷ r.1) (q.0, q.1, omega arith, q.2))
            ];
          }

      -- the edge leads to a goal
      pub goal_found : (pushed entries : List (ℕ × ℕ)) → test end ≡ true → pushed ≡ below ++ (node, after) ∷ [] → entries ≡ pushed ++ (end, 0) ∷ []
          → IsGoalPath nat_eq (HasSuccessor nat_eq (successors_of value size places)) (from ∷ []) test (nodes_along entries) × (length entries ≤ limit + 1)
      goal_found pushed entries t e e' =
          let nodes : nodes_along entries ≡ nodes_to below node ++ end ∷ [] = ap nodes_along e' ∙ map-append (λ (d : ℕ × ℕ). d.0) pushed ((end, 0) ∷ []) ∙ nodes_pushed below pushed (node, after) end e in
          let long : length entries ≡ length below + 2 = ap length e' ∙ length-append pushed ((end, 0) ∷ []) ∙ ap (λ (es : List (ℕ × ℕ)). length es + 1) e ∙ ap (λ (k : ℕ). k + 1) (length-append below ((node, after) ∷ [])) ∙ omega arith in
          (subst (λ (p : List ℕ). IsGoalPath nat_eq (HasSuccessor nat_eq next) (from ∷ []) test p) (sym nodes) (path_to test t), omega (arith, long, s.short))

    module _ (all : AreAllMarked (places node) marked place (length (places node))) where
      -- the search goes back to the node before
      pub searched_back : (rest : List (ℕ × ℕ)) (e : ℕ × ℕ) → below ≡ rest ++ e ∷ [] → IsSearchedTo (successors_of value size places) from test places size limit cut rest e.0 e.1 (slice_set marked node false)
      searched_back rest e same =
          let nodes : nodes_to below node ≡ nodes_to rest e.0 ++ node ∷ [] = nodes_pushed rest below e node same in
          let path : IsPathFrom next from ((nodes_along rest ++ e.0 ∷ []) ++ node ∷ []) = subst (IsPathFrom next from) nodes s.path in
          let long : length below ≡ length rest + 1 = ap length same ∙ length-append rest (e ∷ []) in
          record {
            path = path_front next from (nodes_along rest) e.0 node path;
            marks = unmark (nodes_to rest e.0) marked node (subst (λ (ns : List ℕ). IsMarking ns marked) nodes s.marks) path.distinct node_below;
            wide = length-set marked node false ∙ s.wide;
            short = omega (arith, long, s.short);
            ahead = λ w f g. subst (λ (es : List (ℕ × ℕ)). IsAhead places es (from ∷ w)) same (ahead_below places below node (from ∷ w) g.distinct marked s.marks place all (s.ahead w f g));
          }

      -- or has ended at the start
      pub none_found : (left : List (ℕ × ℕ)) → below ≡ [] → left ≡ [] → Deepens (successors_of value size places) from test size limit (Missed cut) left (slice_set marked node false)
      none_found left same ends =
          let marks = unmark [] marked node (subst (λ (es : List (ℕ × ℕ)). IsMarking (nodes_to es node) marked) same s.marks) ((λ h. h), tt) node_below in
          (ends, length-set marked node false ∙ s.wide, (λ x h. marks.back x h), λ w f g. subst (λ (es : List (ℕ × ℕ)). IsAhead places es (from ∷ w)) same (ahead_below places below node (from ∷ w) g.distinct marked s.marks place all (s.ahead w f g)))
