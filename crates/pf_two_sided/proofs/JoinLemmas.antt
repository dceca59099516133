-- Two halves of a path that meet at a node, joined.
use Rattle.std.proofs.Common.{◌≡◌, ℕ, ◌+◌, ◌≤◌, Bool, true, List, [], ◌∷◌, ◌++◌, ◌∙◌, length, length-append, drop, reverse, refl, sym, ap, subst, arith, inl, inr, ℤ, true≢false}
use Rattle.std.specs.Cmp.{IsEquivalence}
use Rattle.std.specs.List.{AllZip, list_any}
use Rattle.std.proofs.lemmas.Int.{ints}
use Rattle.std.proofs.lemmas.List.{append_assoc}
use Rattle.pf_base.specs.Walks.{HasNode, NoRepeats, Follows, IsGoalWalk, HasNoGoalWalk, IsReachable, end_of}
use Rattle.pf_base.specs.Edges.{HasEdge, IsSuccessor, InReach}
use Rattle.pf_base.specs.Successors.{HasSuccessor, IsFewestEdgesGoalPath}
use Rattle.pf_base.specs.Mirrors.{IsMirror, is_among}
use Rattle.pf_base.specs.Answers.{ListsEdges}
use Rattle.pf_core.specs.Steps.{GoesAlong}
use Rattle.pf_two_sided.specs.Internal.Mirrors.{IsReached, IsMirrored, NoWalkBetween, IsBestMeeting}
use Rattle.pf_core.specs.Nodes.{NodeGraph, StandsFor, IsStep}
use Rattle.pf_core.specs.Hops.{unit_edges}
use Rattle.pf_base.proofs.ListLemmas.{reverse-cons, or_cases, or_true}
use Rattle.pf_core.proofs.FrontierLemmas.{end_more}
use Rattle.pf_core.proofs.NodeLemmas.{eq-sym, eq-trans, follows_more, InReach-after}
use Rattle.pf_core.proofs.WalkLemmas.{same_of, end_same, HasNode-same, goes_of_walk, walk_of_goes, goes_same, reach_start}
use Rattle.pf_core.specs.HopLaws.{next_of_edge, follows_next, reach_next}
use Rattle.pf_core.proofs.UnitLemmas.{is_hop, edge_of_next, follows_edges}
use Rattle.pf_discovery.proofs.LoopWalks.{hop_length, passes_by}

drop_one : {A : Type 0} (xs : List A) (y x : A) → drop 1 ((xs ++ y ∷ []) ++ x ∷ []) ≡ drop 1 (xs ++ y ∷ []) ++ x ∷ []
drop_one [] y x = refl
drop_one (z ∷ xs) y x = refl

-- a list in reverse, without what was last
pub behind_more : {A : Type 0} (b c : A) (w : List A) → drop 1 (reverse (b ∷ c ∷ w)) ≡ drop 1 (reverse (c ∷ w)) ++ b ∷ []
behind_more b c w = ap (drop 1) (reverse-cons b (c ∷ w) ∙ ap (λ l. l ++ b ∷ []) (reverse-cons c w)) ∙ drop_one (reverse w) c b ∙ ap (λ l. drop 1 l ++ b ∷ []) (sym (reverse-cons c w))

pub behind_length : {A : Type 0} (w : List A) (b : A) → length (drop 1 (reverse (b ∷ w))) ≡ length w
behind_length [] b = refl
behind_length (c ∷ w) b = ap length (behind_more b c w) ∙ length-append (drop 1 (reverse (c ∷ w))) (b ∷ []) ∙ ap (λ n. n + 1) (behind_length w c) ∙ omega arith

module _ {N : Type 0} (eq : N → N → Bool) (laws : IsEquivalence eq) where
  -- in a walk with fewest edges from nodes like its first to its last no node stands twice
  pub shortest_once : (next : N → List N) (w : List N) (a : N) → Follows (HasSuccessor eq next) a w
      → ((b : N) (v : List N) → eq b a ≡ true → Follows (HasSuccessor eq next) b v → end_of b v ≡ end_of a w → length w ≤ length v) → NoRepeats eq (a ∷ w)
  shortest_once next [] a f fewest = ((λ h. h), tt)
  shortest_once next (c ∷ w) a f fewest = (
    λ h. let q = passes_by eq (HasSuccessor eq next) (c ∷ w) a a f h in let low = fewest q.0 q.1 q.2 q.3 q.4 in omega (arith, low, q.5),
    shortest_once next w c f.1 (λ b v e g at. let low = fewest a (b ∷ v) (laws.refl a) (HasNode-same eq laws (next a) c b (eq-sym eq laws b c e) f.0, g) at in omega (arith, low)),
  )

  module _ (next previous : N → List N) (starts ends : List N) (mirror : IsMirror eq next previous starts ends) where
    -- a walk from a start, and then a walk from an end to the same node, walked back
    pub walk_on : (w : List N) (a : N) (p : List N) (e b : N) (u : List N) → HasNode eq starts a → Follows (HasSuccessor eq next) a p → HasNode eq ends e → Follows (HasSuccessor eq previous) e u → end_of e u ≡ b
        → Follows (HasSuccessor eq previous) b w → eq (end_of b w) (end_of a p) ≡ true
        → Follows (HasSuccessor eq next) a (p ++ drop 1 (reverse (b ∷ w))) × (eq b (end_of a (p ++ drop 1 (reverse (b ∷ w)))) ≡ true)
    walk_on [] a p e b u begins forth is back at f meets = (subst (Follows (HasSuccessor eq next) a) (sym (nil_right p)) forth, subst (λ q. eq b (end_of a q) ≡ true) (sym (nil_right p)) meets)
      where
        nil_right : (xs : List N) → xs ++ [] ≡ xs
        nil_right [] = refl
        nil_right (x ∷ xs) = ap (λ l. x ∷ l) (nil_right xs)
    walk_on (c ∷ w) a p e b u begins forth is back at f meets =
        let q = walk_on w a p e c (u ++ c ∷ []) begins forth is (follows_more eq laws (HasSuccessor eq previous) u e c back (subst (λ x. HasSuccessor eq previous x c) (sym at) f.0)) (end_more u e c) f.1 meets in
        let front = p ++ drop 1 (reverse (c ∷ w)) in
        let last = end_of a front in
        let reached : IsReachable eq (HasSuccessor eq next) starts last = record { walk = a ∷ front; goes = record { walks = q.0; begins = begins; ends = laws.refl last } } in
        let reached_back : IsReachable eq (HasSuccessor eq previous) ends b = record { walk = e ∷ u; goes = record { walks = back; begins = is; ends = subst (λ x. eq x b ≡ true) (sym at) (laws.refl b) } } in
        let step : HasSuccessor eq next last b = mirror.follows last b reached reached_back (HasNode-same eq laws (previous b) c last q.1 f.0) in
        let joined : p ++ drop 1 (reverse (b ∷ c ∷ w)) ≡ front ++ b ∷ [] = ap (λ l. p ++ l) (behind_more b c w) ∙ sym (append_assoc p (drop 1 (reverse (c ∷ w))) (b ∷ [])) in (
          subst (Follows (HasSuccessor eq next) a) (sym joined) (follows_more eq laws (HasSuccessor eq next) front a b q.0 step),
          subst (λ l. eq b (end_of a l) ≡ true) (sym joined) (subst (λ x. eq b x ≡ true) (sym (end_more front a b)) (laws.refl b)),
        )

  pub among_has : (xs : List N) (x : N) → is_among eq xs x ≡ true → HasNode eq xs x
  among_has [] x h = absurd (true≢false (sym h))
  among_has (y ∷ xs) x h = elim (or_cases (eq y x) (list_any (λ z. eq z x) xs) h) as (λ _. HasNode eq (y ∷ xs) x) [ inl e ↦ inl e | inr r ↦ inr (among_has xs x r) ]

  pub has_among : (xs : List N) (x : N) → HasNode eq xs x → is_among eq xs x ≡ true
  has_among [] x h = absurd h
  has_among (y ∷ xs) x (inl e) = rw e refl
  has_among (y ∷ xs) x (inr h) = or_true (eq y x) (list_any (λ z. eq z x) xs) (has_among xs x h)

  module _ (next : N → List N) (starts : List N) (first : N → Type 0) (only : (a : N) → first a → HasNode eq starts a) where
    -- what walks along steps reach, walks over nodes do
    reached_after : (x : N) → IsReached (IsStep eq (record { starts = starts; edges = unit_edges next })) first x → InReach eq (unit_edges next) starts x
    reached_after x r = subst (InReach eq (unit_edges next) starts) r.5 (InReach-after eq laws (unit_edges next) starts r.0 r.2 (steps r.2 r.0 r.3 r.4) (only r.0 r.1))
      where
        steps : (w : List N) (a : N) (u : ℤ) → GoesAlong (IsStep eq (record { starts = starts; edges = unit_edges next })) a w u → Follows (IsSuccessor eq (unit_edges next)) a w
        steps [] a u h = tt
        steps (b ∷ w) a u h = ((h.0, h.2.1), steps w b h.1 h.3)

  -- a step of a graph is one of the other, walked back, where a node is in the answer of the other
  step_back : (next previous : N → List N) (starts ends : List N) (a b : N) (z : ℤ) → InReach eq (unit_edges previous) ends b → (HasNode eq (next a) b → HasNode eq (previous b) a)
      → IsStep eq (record { starts = starts; edges = unit_edges next }) a z b → IsStep eq (record { starts = ends; edges = unit_edges previous }) b z a
  step_back next previous starts ends a b z r on s =
      let q = next_of_edge eq (next a) b z s.1 in
      (r, subst (HasEdge eq (unit_edges previous b) a) (sym q.1) (edge_of_next eq (previous b) a (on q.0)))

module _ {N : Type 0} (eq : N → N → Bool) (laws : IsEquivalence eq) (next previous : N → List N) (starts ends : List N) (mirror : IsMirror eq next previous starts ends)
    (alike : (x y : N) → InReach eq (unit_edges next) starts x → eq x y ≡ true → ListsEdges eq (λ z. z) (unit_edges next x) (unit_edges next y))
    (alike_back : (x y : N) → InReach eq (unit_edges previous) ends x → eq x y ≡ true → ListsEdges eq (λ z. z) (unit_edges previous x) (unit_edges previous y))
    (first : N → Type 0) (all_first : (a : N) → HasNode eq starts a → first a) (only_first : (a : N) → first a → HasNode eq starts a)
    (last : N → Type 0) (all_last : (a : N) → HasNode eq ends a → last a) (only_last : (a : N) → last a → HasNode eq ends a) where
  abbrev forth_graph : NodeGraph N
  forth_graph = record { starts = starts; edges = unit_edges next }

  abbrev back_graph : NodeGraph N
  back_graph = record { starts = ends; edges = unit_edges previous }

  pub mirrored : IsMirrored (IsStep eq forth_graph) (IsStep eq back_graph) first last
  mirrored = record {
    forth = λ a b z r q s.
        let ra = reached_after eq laws next starts first only_first a r in
        let rb = reached_after eq laws previous ends last only_last b q in
        step_back eq laws next previous starts ends a b z rb (λ h. mirror.precedes a b (reach_next eq next starts a ra) (reach_next eq previous ends b rb) h) s;
    turned = λ a b z r q s.
        let ra = reached_after eq laws next starts first only_first a r in
        let rb = reached_after eq laws previous ends last only_last b q in
        step_back eq laws previous next ends starts b a z ra (λ h. mirror.follows a b (reach_next eq next starts a ra) (reach_next eq previous ends b rb) h) s;
  }

  -- a walk from a start, as steps
  steps_of : (a : N) (w : List N) → HasNode eq starts a → Follows (HasSuccessor eq next) a w → (u : ℤ) × GoesAlong (IsStep eq forth_graph) a w u
  steps_of a w begins f = goes_of_walk eq laws forth_graph alike w a (reach_start eq laws forth_graph alike first all_first only_first a begins) (follows_edges eq next w a f)

  pub no_walk_between : NoWalkBetween (IsStep eq forth_graph) (IsStep eq back_graph) first last → HasNoGoalWalk eq (HasSuccessor eq next) starts (is_among eq ends)
  no_walk_between none [] walk = walk.walks
  no_walk_between none (a ∷ w) walk = let goes = steps_of a w walk.begins walk.walks in none a (all_first a walk.begins) w goes.0 goes.1 (all_last (end_of a w) (among_has eq laws ends (end_of a w) walk.ends))

  module _ (keys others : List N) (ks js : List ℕ) (b : IsBestMeeting (IsStep eq forth_graph) (IsStep eq back_graph) first last (StandsFor eq keys) (StandsFor eq others) ks js) where
    one_node : (xs : List N) (k : ℕ) (x y : N) → StandsFor eq xs k x → StandsFor eq xs k y → eq x y ≡ true
    one_node xs k x y s t = (same_of eq laws xs (k ∷ []) (x ∷ []) (y ∷ []) (s, tt) (t, tt)).0

    -- the two halves joined are a path with fewest edges
    pub joined_answer : (p q : List N) → AllZip (StandsFor eq keys) ks p → AllZip (StandsFor eq others) js q → IsFewestEdgesGoalPath eq next starts (is_among eq ends) (p ++ drop 1 (reverse q))
    joined_answer [] q y z = absurd (same_of eq laws keys ks (b.first ∷ b.nodes) [] b.path.numbered y)
    joined_answer (a ∷ w) [] y z = absurd (same_of eq laws others js (b.last ∷ b.nodes_back) [] b.path_back.numbered z)
    joined_answer (a ∷ w) (e ∷ u) y z =
        let s = same_of eq laws keys ks (b.first ∷ b.nodes) (a ∷ w) b.path.numbered y in
        let t = same_of eq laws others js (b.last ∷ b.nodes_back) (e ∷ u) b.path_back.numbered z in
        let begins = HasNode-same eq laws starts b.first a s.0 (only_first b.first b.is_start) in
        let is_end = HasNode-same eq laws ends b.last e t.0 (only_last b.last b.is_end) in
        let goes = goes_same eq laws forth_graph alike b.nodes w b.first a b.cost s.0 s.1 b.path.goes in
        let goes_back = goes_same eq laws back_graph alike_back b.nodes_back u b.last e b.cost_back t.0 t.1 b.path_back.goes in
        let walk = follows_next eq next w a (walk_of_goes eq laws forth_graph alike w a b.cost goes) in
        let walk_back = follows_next eq previous u e (walk_of_goes eq laws back_graph alike_back u e b.cost_back goes_back) in
        let here = end_of b.first b.nodes in
        let there = end_of b.last b.nodes_back in
        let meets_here : eq (end_of a w) b.common ≡ true = eq-trans eq laws (end_of a w) here b.common (eq-sym eq laws here (end_of a w) (end_same eq laws b.nodes w b.first a s.0 s.1)) (one_node keys b.number here b.common b.here b.stands_here) in
        let meets_there : eq (end_of e u) b.common ≡ true = eq-trans eq laws (end_of e u) there b.common (eq-sym eq laws there (end_of e u) (end_same eq laws b.nodes_back u b.last e t.0 t.1)) (one_node others b.across there b.common b.there b.stands_there) in
        let meets = eq-trans eq laws (end_of e u) b.common (end_of a w) meets_there (eq-sym eq laws (end_of a w) b.common meets_here) in
        let joined = walk_on eq laws next previous starts ends mirror u a w e e [] begins walk is_end tt refl walk_back meets in
        let rest = w ++ drop 1 (reverse (e ∷ u)) in
        let ended : HasNode eq ends (end_of a rest) = HasNode-same eq laws ends e (end_of a rest) joined.1 is_end in
        let size : length rest ≡ length w + length u = length-append w (drop 1 (reverse (e ∷ u))) ∙ ap (λ n. length w + n) (behind_length u e) in
        let cost = hop_length (IsStep eq forth_graph) (is_hop eq starts next) w a b.cost goes in
        let cost_back = hop_length (IsStep eq back_graph) (is_hop eq ends previous) u e b.cost_back goes_back in
        let low : (c : N) (v : List N) → HasNode eq starts c → Follows (HasSuccessor eq next) c v → HasNode eq ends (end_of c v) → length rest ≤ length v = λ c v begin f h.
        let g = steps_of c v begin f in
        let least = b.best c (all_first c begin) v g.0 g.1 (all_last (end_of c v) h) in
        let long = hop_length (IsStep eq forth_graph) (is_hop eq starts next) v c g.0 g.1 in
        omega (arith, ints, least, long, cost, cost_back, size) in
        record {
          goes = record {
            goes = record { walks = joined.0; begins = begins; ends = has_among eq laws ends (end_of a rest) ended };
            distinct = shortest_once eq laws next rest a joined.0 (λ c v same f at. low c v (HasNode-same eq laws starts a c (eq-sym eq laws c a same) begins) f (subst (HasNode eq ends) (sym at) ended));
          };
          fewest = λ walk goal. shorter a rest low walk goal;
        }
      where
        shorter : (a : N) (rest : List N) → ((c : N) (v : List N) → HasNode eq starts c → Follows (HasSuccessor eq next) c v → HasNode eq ends (end_of c v) → length rest ≤ length v)
            → (walk : List N) → IsGoalWalk eq (HasSuccessor eq next) starts (is_among eq ends) walk → length (a ∷ rest) ≤ length walk
        shorter a rest low [] goal = absurd goal.walks
        shorter a rest low (c ∷ v) goal = let n = low c v goal.begins goal.walks (among_has eq laws ends (end_of c v) goal.ends) in omega (arith, n)
