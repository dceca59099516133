-- From a best loop of numbers to a best loop of nodes.
use Rattle.std.proofs.Common.{◌≡◌, ℕ, ◌+◌, ◌-◌, ◌<◌, Bool, true, List, [], ◌∷◌, ◌++◌, ◌∙◌, length, length-append, take, refl, sym, ap, subst, arith, inl, inr, ℤ, pos}
use Rattle.std.specs.Cmp.{IsEquivalence}
use Rattle.std.specs.List.{AllZip}
use Rattle.std.proofs.lemmas.Int.{ints}
use Rattle.std.proofs.Math.Seq.{take-append_seam}
use Rattle.pf_base.specs.Walks.{HasNode, NoRepeats, Follows, end_of}
use Rattle.pf_base.specs.Edges.{HasEdge, IsSuccessor, InReach}
use Rattle.pf_base.specs.Successors.{HasSuccessor}
use Rattle.pf_base.specs.Loops.{IsLoop, HasNoLoop, IsBestLoop}
use Rattle.pf_base.specs.Answers.{ListsEdges}
use Rattle.pf_core.specs.Steps.{GoesAlong, IsHop}
use Rattle.pf_discovery.specs.Loops.{Closes, NoLoop, IsBestNumberedLoop}
use Rattle.pf_core.specs.Nodes.{NodeGraph, StandsFor, IsStep}
use Rattle.pf_core.specs.Hops.{unit_edges}
use Rattle.pf_core.proofs.FrontierLemmas.{end_more}
use Rattle.pf_core.proofs.PathLemmas.{NoRepeats-append}
use Rattle.pf_core.proofs.NodeLemmas.{eq-sym, HasEdge-same, InReach-after, edge_of_same, follows_more}
use Rattle.pf_core.proofs.WalkLemmas.{same_of, end_same, HasNode-same, distinct_nodes, goes_of_walk, walk_of_goes, goes_same, reach_start}
use Rattle.pf_core.specs.HopLaws.{next_of_edge, follows_next}
use Rattle.pf_core.proofs.UnitLemmas.{is_hop, edge_of_next, follows_edges}

-- the steps of a walk cost as much as it has edges
pub hop_length : {X : Type 0} (step : X → ℤ → X → Type 0) → IsHop step → (w : List X) (a : X) (u : ℤ) → GoesAlong step a w u → u ≡ pos (length w)
hop_length step h [] a u g = g
hop_length step h (b ∷ w) a u g = let rest = hop_length step h w b g.1 g.3 in let one = h.one a g.0 b g.2 in omega (arith, ints, rest, one, g.4)

-- all but the last element, and the last
pub last_cut : {A : Type 0} (x : A) (xs : List A) → (ys : List A) × (y : A) × (x ∷ xs ≡ ys ++ y ∷ [])
last_cut x [] = ([], x, refl)
last_cut x (z ∷ zs) = let q = last_cut z zs in (x ∷ q.0, q.1, ap (λ l. x ∷ l) q.2)

pub follows_cut : {N : Type 0} (step : N → N → Type 0) (v : List N) (a c : N) → Follows step a (v ++ c ∷ []) → Follows step a v × step (end_of a v) c
follows_cut step [] a c f = (tt, f.0)
follows_cut step (b ∷ v) a c f = let q = follows_cut step v b c f.1 in ((f.0, q.0), q.1)

pub AllZip-cut : {A B : Type 0} (R : A → B → Type 0) (xs : List A) (x : A) (ys : List B) → AllZip R (xs ++ x ∷ []) ys → (zs : List B) × (z : B) × (ys ≡ zs ++ z ∷ []) × AllZip R xs zs × R x z
AllZip-cut R [] x [] a = absurd a
AllZip-cut R [] x (y ∷ []) a = ([], y, refl, tt, a.0)
AllZip-cut R [] x (y ∷ z ∷ ys) a = absurd a.1
AllZip-cut R (w ∷ xs) x [] a = absurd a
AllZip-cut R (w ∷ xs) x (y ∷ ys) a = let q = AllZip-cut R xs x ys a.1 in (y ∷ q.0, q.1, ap (λ l. y ∷ l) q.2, (a.0, q.3), q.4)

-- a walk that passes a node goes on from there, with fewer edges
pub passes_by : {N : Type 0} (eq : N → N → Bool) (step : N → N → Type 0) (w : List N) (a y : N) → Follows step a w → HasNode eq w y → (b : N) × (v : List N) × (eq b y ≡ true) × Follows step b v × (end_of b v ≡ end_of a w) × (length v < length w)
passes_by eq step [] a y f h = absurd h
passes_by eq step (b ∷ w) a y f (inl e) = (b, w, e, f.1, refl, omega arith)
passes_by eq step (b ∷ w) a y f (inr h) = let q = passes_by eq step w b y f.1 h in (q.0, q.1, q.2, q.3, q.4, omega (arith, q.5))

module _ {N : Type 0} (eq : N → N → Bool) (laws : IsEquivalence eq) (starts : List N) (next : N → List N)
    (alike : (x y : N) → InReach eq (unit_edges next) starts x → eq x y ≡ true → ListsEdges eq (λ z. z) (unit_edges next x) (unit_edges next y))
    (first : N → Type 0) (all : (a : N) → HasNode eq starts a → first a) (only : (a : N) → first a → HasNode eq starts a) where
  abbrev graph : NodeGraph N
  graph = record { starts = starts; edges = unit_edges next }

  abbrev step : N → ℤ → N → Type 0
  step = IsStep eq graph

  -- a walk from a start whose last node is followed by a start
  pub record Closing (walk : List N) : Type 0 where
    pub begin : N
    pub rest : List N
    pub begins : HasNode eq starts begin
    pub cost : ℤ
    pub goes : GoesAlong step begin rest cost
    pub closes : Closes step first (end_of begin rest)
    pub size : length walk ≡ length rest + 2

  closing_of : (a : N) (v : List N) (c : N) → HasNode eq starts a → Follows (HasSuccessor eq next) a (v ++ c ∷ []) → HasNode eq starts c → Closing (a ∷ v ++ c ∷ [])
  closing_of a v c begins f ends =
      let q = follows_cut (HasSuccessor eq next) v a c f in
      let edges = follows_edges eq next v a q.0 in
      let goes = goes_of_walk eq laws graph alike v a (reach_start eq laws graph alike first all only a begins) edges in
      record {
        begin = a;
        rest = v;
        begins = begins;
        cost = goes.0;
        goes = goes.1;
        closes = (pos 1, c, (InReach-after eq laws (unit_edges next) starts a v edges begins, edge_of_next eq (next (end_of a v)) c q.1), all c ends);
        size = omega (arith, length-append v (c ∷ []));
      }

  cut_loop : (walk : List N) → IsLoop eq next starts walk → Closing walk
  cut_loop [] l = absurd l.walks
  cut_loop (a ∷ []) l = let short = l.long in absurd (omega (arith, short))
  cut_loop (a ∷ b ∷ w) l =
      let q = last_cut b w in
      let ends : HasNode eq starts q.1 = subst (HasNode eq starts) (ap (end_of a) q.2 ∙ end_more q.0 a q.1) l.ends in
      subst (λ v. Closing (a ∷ v)) (sym q.2) (closing_of a q.0 q.1 l.begins (subst (Follows (HasSuccessor eq next) a) q.2 l.walks) ends)

  pub no_loop : NoLoop step first → HasNoLoop eq next starts
  no_loop none walk l = let c = cut_loop walk l in none c.begin (all c.begin c.begins) c.rest c.cost c.goes c.closes

  pub best_loop_answer : (keys : List N) (one : (i j : ℕ) (x : N) → StandsFor eq keys i x → StandsFor eq keys j x → i ≡ j) (numbers : List ℕ) (path : List N) → IsBestNumberedLoop step first (StandsFor eq keys) numbers → AllZip (StandsFor eq keys) numbers path → IsBestLoop eq next starts path
  best_loop_answer keys one numbers path b z =
      let q = AllZip-cut (StandsFor eq keys) b.front b.last path (subst (λ ks. AllZip (StandsFor eq keys) ks path) b.is z) in
      subst (IsBestLoop eq next starts) (sym q.2) (by q.0 q.1 q.3 q.4)
    where
      by : (p : List N) (y : N) → AllZip (StandsFor eq keys) b.front p → StandsFor eq keys b.last y → IsBestLoop eq next starts (p ++ y ∷ [])
      by [] y z t = absurd (same_of eq laws keys b.front (b.first ∷ b.nodes) [] b.path.numbered z)
      by (a ∷ w) y z t =
          let s = same_of eq laws keys b.front (b.first ∷ b.nodes) (a ∷ w) b.path.numbered z in
          let begins = HasNode-same eq laws starts b.first a s.0 (only b.first b.is_start) in
          let here = end_same eq laws b.nodes w b.first a s.0 s.1 in
          let goes = goes_same eq laws graph alike b.nodes w b.first a b.cost s.0 s.1 b.path.goes in
          let walk = walk_of_goes eq laws graph alike w a b.cost goes in
          let m = b.here in
          let n = t in
          let ey : eq b.end y ≡ true = same_stand b.end y b.here t in
          let edge : HasEdge eq (unit_edges next (end_of a w)) y b.price = HasEdge-same eq laws (unit_edges next (end_of a w)) b.end y b.price ey (edge_of_same eq laws (unit_edges next) starts alike (end_of b.first b.nodes) (end_of a w) b.end b.price b.closing.0 here b.closing.1) in
          let last : HasSuccessor eq next (end_of a w) y = (next_of_edge eq (next (end_of a w)) y b.price edge).0 in
          let is_start : HasNode eq starts y = HasNode-same eq laws starts b.end y ey (only b.end b.back) in
          let size = hop_length step (is_hop eq starts next) w a b.cost goes in
          let distinct = distinct_nodes eq laws keys one b.front (a ∷ w) z b.path.distinct in
          let fresh : ¬ (HasNode eq w y) = λ h.
          let q = passes_by eq (IsSuccessor eq (unit_edges next)) w a y walk h in
          let start : HasNode eq starts q.0 = HasNode-same eq laws starts y q.0 (eq-sym eq laws q.0 y q.2) is_start in
          let along = goes_of_walk eq laws graph alike q.1 q.0 (reach_start eq laws graph alike first all only q.0 start) q.3 in
          let size' = hop_length step (is_hop eq starts next) q.1 q.0 along.0 along.1 in
          let closes : Closes step first (end_of q.0 q.1) = subst (Closes step first) (sym q.4) (b.price, y, (InReach-after eq laws (unit_edges next) starts a w walk begins, edge), all y is_start) in
          let low = b.best q.0 (all q.0 start) q.1 along.0 along.1 closes in
          omega (arith, ints, low, size, size', q.5) in
          record {
            goes = record {
              walks = follows_more eq laws (HasSuccessor eq next) w a y (follows_next eq next w a walk) last;
              long = omega (arith, length-append w (y ∷ []));
              begins = begins;
              ends = subst (HasNode eq starts) (sym (end_more w a y)) is_start;
            };
            distinct_before = subst (NoRepeats eq) (sym (before (a ∷ w) y)) distinct;
            distinct_behind = NoRepeats-append eq (eq-sym eq laws) w y distinct.1 fresh;
            fewest = λ v l.
                let c = cut_loop v l in
                let low = b.best c.begin (all c.begin c.begins) c.rest c.cost c.goes c.closes in
                let long = hop_length step (is_hop eq starts next) c.rest c.begin c.cost c.goes in
                omega (arith, ints, low, long, size, c.size, length-append w (y ∷ []));
          }
        where
          same_stand : (x y : N) → StandsFor eq keys b.last x → StandsFor eq keys b.last y → eq x y ≡ true
          same_stand x y s t = (same_of eq laws keys (b.last ∷ []) (x ∷ []) (y ∷ []) (s, tt) (t, tt)).0

          before : (p : List N) (y : N) → take (length (p ++ y ∷ []) - 1) (p ++ y ∷ []) ≡ p
          before p y =
              let n : length (p ++ y ∷ []) - 1 ≡ length p = omega (arith, length-append p (y ∷ [])) in
              ap (λ i. take i (p ++ y ∷ [])) n ∙ take-append_seam p (y ∷ [])
