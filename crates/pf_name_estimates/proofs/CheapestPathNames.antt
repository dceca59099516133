-- All cheapest clean paths over numbers and over the names that they stand for.
use Rattle.std.proofs.Common.{◌≡◌, ℕ, ℤ, nat_eq, sym, subst, ◌∙◌, Bool, List, [], ◌∷◌, map}
use Rattle.std.specs.Prelude.{Contains, Some, slice_get}
use Rattle.std.specs.Cmp.{IsEquivalence}
use Rattle.std.specs.List.{AllZip}
use Rattle.std.proofs.lemmas.Cmp.{nat_eq_equiv}
use Rattle.std.proofs.lemmas.Option.{get_or_from_slice_get, slice_get_within}
use Rattle.pf_base.proofs.Callers.{SameNodes-refl}
use Rattle.pf_base.specs.Answers.{SameNodes}
use Rattle.pf_base.specs.Edges.{IsSuccessor, NoGoalWalkCostsLess}
use Rattle.pf_base.specs.Walks.{NoRepeats}
use Rattle.pf_core.proofs.NodeLemmas.{eq-sym}
use Rattle.pf_edge_lists.proofs.NameWalks.{IsCarried, Stands, SameEdges, carried_edges, costs_back, costs_out, goal_back, goal_named, goal_out, least_out, path_out}
use Rattle.pf_informed.specs.CheapestPaths.{AreCheapestCleanPaths, FailsBeforeEnd, FailsUpToEnd, IsCheapestCleanPath}
use Rattle.pf_name_numbers.proofs.MappedLists.{got_mapped, in_mapped, mapped_in}
use Rattle.pf_name_numbers.proofs.NameReach.{repeats_back, same_back, same_out, stands_same}

module _ {N : Type 0} {eq : N → N → Bool} (laws : IsEquivalence eq) (names : List N) (distinct : NoRepeats eq names) (edgesM : ℕ → List (ℕ × ℤ)) (edgesN : N → List (N × ℤ)) (alike : (a : ℕ) (x : N) → Stands laws names a x → SameEdges laws names distinct (edgesM a) (edgesN x))
    (start : ℕ) (from : N) (begins : Stands laws names start from) (testM : ℕ → Bool) (testN : N → Bool) (tests : (k : ℕ) (x : N) → Stands laws names k x → testM k ≡ testN x) where
  abbrev Zip : List ℕ → List N → Type 0
  Zip = AllZip (Stands laws names)

  abbrev CheapestM : List ℕ → ℤ → Type 0
  CheapestM = IsCheapestCleanPath nat_eq edgesM (start ∷ []) testM

  abbrev CheapestN : List N → ℤ → Type 0
  CheapestN = IsCheapestCleanPath eq edgesN (from ∷ []) testN

  carried : IsCarried laws names (IsSuccessor nat_eq edgesM) (IsSuccessor eq edgesN)
  carried = carried_edges laws names distinct edgesM edgesN alike

  up_to_end_out : (a : ℕ) (x : N) (w : List ℕ) (v : List N) → Stands laws names a x → Zip w v → FailsUpToEnd testM a w → FailsUpToEnd testN x v
  up_to_end_out a x [] [] s z h = tt
  up_to_end_out a x [] (y ∷ v) s z h = absurd z
  up_to_end_out a x (b ∷ w) [] s z h = absurd z
  up_to_end_out a x (b ∷ w) (y ∷ v) s z h = (sym (tests a x s) ∙ h.0, up_to_end_out b y w v z.0 z.1 h.1)

  up_to_end_back : (a : ℕ) (x : N) (w : List ℕ) (v : List N) → Stands laws names a x → Zip w v → FailsUpToEnd testN x v → FailsUpToEnd testM a w
  up_to_end_back a x [] [] s z h = tt
  up_to_end_back a x [] (y ∷ v) s z h = absurd z
  up_to_end_back a x (b ∷ w) [] s z h = absurd z
  up_to_end_back a x (b ∷ w) (y ∷ v) s z h = (tests a x s ∙ h.0, up_to_end_back b y w v z.0 z.1 h.1)

  before_end_out : (w : List ℕ) (v : List N) → Zip w v → FailsBeforeEnd testM w → FailsBeforeEnd testN v
  before_end_out [] v z h = absurd h
  before_end_out (a ∷ w) [] z h = absurd z
  before_end_out (a ∷ w) (x ∷ v) z h = up_to_end_out a x w v z.0 z.1 h

  before_end_back : (w : List ℕ) (v : List N) → Zip w v → FailsBeforeEnd testN v → FailsBeforeEnd testM w
  before_end_back w [] z h = absurd h
  before_end_back [] (x ∷ v) z h = absurd z
  before_end_back (a ∷ w) (x ∷ v) z h = up_to_end_back a x w v z.0 z.1 h

  least_back : (t : ℤ) → NoGoalWalkCostsLess eq edgesN (from ∷ []) testN t → NoGoalWalkCostsLess nat_eq edgesM (start ∷ []) testM t
  least_back t least w u g c =
      let v = goal_named laws names distinct _ _ carried start from begins testM w g in
      least v.0 u (goal_out laws names distinct _ _ carried start from begins testM testN tests w v.0 v.1 g) (costs_out laws names distinct edgesM edgesN alike w v.0 u v.1 c)

  cheapest_out : (w : List ℕ) (v : List N) (t : ℤ) → Zip w v → CheapestM w t → CheapestN v t
  cheapest_out w v t z h = record {
    clean = record {
      goes = path_out laws names distinct _ _ carried start from begins testM testN tests w v z h.clean.goes;
      fails = before_end_out w v z h.clean.fails;
    };
    costs = costs_out laws names distinct edgesM edgesN alike w v t z h.costs;
    best = least_out laws names distinct edgesM edgesN alike start from begins testM testN tests t h.best;
  }

  cheapest_back : (v : List N) (t : ℤ) → CheapestN v t → (w : List ℕ) × Zip w v × CheapestM w t
  cheapest_back v t h =
      let r = goal_back laws names distinct _ _ carried start from begins testM testN tests v h.clean.goes.goes in (
        r.0,
        r.1,
        record {
          clean = record {
            goes = record { goes = r.2; distinct = repeats_back laws names distinct r.0 v r.1 h.clean.goes.distinct };
            fails = before_end_back r.0 v r.1 h.clean.fails;
          };
          costs = costs_back laws names distinct edgesM edgesN alike r.0 v t r.1 h.costs;
          best = least_back t h.best;
        },
      )

  -- numbers that stand for names stand for equal names too
  zip_same : (w : List ℕ) (v u : List N) → Zip w v → SameNodes eq u v → Zip w u
  zip_same [] [] [] z h = tt
  zip_same [] [] (b ∷ u) z h = absurd h
  zip_same [] (x ∷ v) u z h = absurd z
  zip_same (a ∷ w) [] u z h = absurd z
  zip_same (a ∷ w) (x ∷ v) [] z h = absurd h
  zip_same (a ∷ w) (x ∷ v) (y ∷ u) z h = (stands_same laws names distinct a x y z.0 (eq-sym eq laws y x h.0), zip_same w v u z.1 h.1)

  module _ (name : ℕ → N) (named : (ks : List ℕ) (xs : List N) → Zip ks xs → Zip ks (map name ks)) (paths : List (List ℕ)) (t : ℤ) (h : AreCheapestCleanPaths nat_eq edgesM (start ∷ []) testM paths t) where
    best_of : (w : List ℕ) → Contains paths w → CheapestM w t
    best_of w c = h.sound w w c (SameNodes-refl nat_eq nat_eq_equiv.refl w)

    zip_of : (w : List ℕ) → Contains paths w → Zip w (map name w)
    zip_of w c = let v = goal_named laws names distinct _ _ carried start from begins testM w (best_of w c).clean.goes.goes in named w v.0 v.1

    contains_at : (i : ℕ) (w : List ℕ) → slice_get paths i ≡ Some w → Contains paths w
    contains_at i w e = (i, slice_get_within paths i w e, get_or_from_slice_get paths i w w e)

    -- the names of all cheapest clean paths are those
    pub all_out : AreCheapestCleanPaths eq edgesN (from ∷ []) testN (map (map name) paths) t
    all_out = record {
      some = (map name h.some.0, mapped_in (map name) paths h.some.0 h.some.1);
      sound = λ path nodes c same.
          let r = in_mapped (map name) paths path c in
          cheapest_out r.0 nodes t (zip_same r.0 path nodes (subst (Zip r.0) r.2 (zip_of r.0 r.1)) same) (best_of r.0 r.1);
      complete = λ nodes best.
          let l = cheapest_back nodes t best in
          let g = h.complete l.0 l.2 in
          (map name g.0, mapped_in (map name) paths g.0 g.1, same_out laws names distinct l.0 g.0 nodes (map name g.0) l.1 (zip_of g.0 g.1) g.2);
      once = λ i j p q gi gj same.
          let r = got_mapped (map name) paths i p gi in
          let s = got_mapped (map name) paths j q gj in
          let here = subst (λ (v : List N). SameNodes eq v (map name s.0)) (sym r.2) (subst (SameNodes eq p) (sym s.2) same) in
          h.once i j r.0 s.0 r.1 s.1 (same_back laws names distinct r.0 s.0 (map name r.0) (map name s.0) (zip_of r.0 (contains_at i r.0 r.1)) (zip_of s.0 (contains_at j s.0 s.1)) here);
    }
