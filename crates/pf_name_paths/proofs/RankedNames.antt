-- The cheapest clean paths over numbers and over the names that they stand for.
use Rattle.std.proofs.Common.{◌≡◌, ℕ, ◌<◌, ◌≤◌, ℤ, nat_eq, Bool, List, map, sym, subst, inl, inr, arith}
use Rattle.std.specs.Prelude.{◌≤ℤ◌, Contains, Some, slice_get}
use Rattle.std.specs.Cmp.{IsEquivalence}
use Rattle.std.specs.List.{AllZip}
use Rattle.std.proofs.lemmas.List.{length-map}
use Rattle.std.proofs.lemmas.Option.{slice_get_within, get_or_from_slice_get}
use Rattle.pf_base.specs.Walks.{NoRepeats}
use Rattle.pf_base.specs.Edges.{WalkCosts}
use Rattle.pf_base.specs.Answers.{SameNodes}
use Rattle.pf_edge_lists.proofs.NameWalks.{Stands, SameEdges, costs_back, costs_out}
use Rattle.pf_yen.specs.CleanPaths.{IsCleanPath, WasGiven}
use Rattle.pf_yen.specs.KCheapest.{MayComeBefore, IsKCheapest}
use Rattle.pf_name_numbers.proofs.MappedLists.{got_mapped, in_mapped, mapped_in}
use Rattle.pf_name_numbers.proofs.NameReach.{same_back, same_out}
use Rattle.pf_name_paths.proofs.CleanNames.{clean_back, clean_named, clean_out}

contains_got : {A : Type 0} (xs : List A) (i : ℕ) (x : A) → slice_get xs i ≡ Some x → Contains xs x
contains_got xs i x e = (i, slice_get_within xs i x e, get_or_from_slice_get xs i x x e)

module _ {N : Type 0} {eq : N → N → Bool} (laws : IsEquivalence eq) (names : List N) (distinct : NoRepeats eq names) (name : ℕ → N) (named : (ks : List ℕ) (xs : List N) → AllZip (Stands laws names) ks xs → AllZip (Stands laws names) ks (map name ks))
    (edgesM : ℕ → List (ℕ × ℤ)) (edgesN : N → List (N × ℤ)) (alike : (a : ℕ) (x : N) → Stands laws names a x → SameEdges laws names distinct (edgesM a) (edgesN x))
    (start : ℕ) (from : N) (begins : Stands laws names start from) (testM : ℕ → Bool) (testN : N → Bool) (tests : (k : ℕ) (x : N) → Stands laws names k x → testM k ≡ testN x) {C : Type 0} (value : C → ℤ) where
  abbrev pub by_name : List ℕ × C → List N × C
  by_name p = (map name p.0, p.1)

  abbrev Zip : List ℕ → List N → Type 0
  Zip = AllZip (Stands laws names)

  abbrev pub GivenM : List (List ℕ × C) → List ℕ → Type 0
  GivenM = WasGiven nat_eq edgesM start testM value

  abbrev pub GivenN : List (List N × C) → List N → Type 0
  GivenN = WasGiven eq edgesN from testN value

  abbrev pub AreNamed : List (List ℕ × C) → Type 0
  AreNamed paths = (p : List ℕ × C) → Contains paths p → Zip p.0 (map name p.0)

  pub given_out : (paths : List (List ℕ × C)) → AreNamed paths → (w : List ℕ) (v : List N) → Zip w v → GivenM paths w → GivenN (map by_name paths) v
  given_out paths all w v z g = (by_name g.0, mapped_in by_name paths g.0 g.1, same_out laws names distinct g.0.0 w (map name g.0.0) v (all g.0 g.1) z g.2)

  before_out : (p q : List ℕ × C) → MayComeBefore value p q → MayComeBefore value (by_name p) (by_name q)
  before_out p q (inl h) = inl h
  before_out p q (inr h) = inr (h.0, omega (arith, h.1, length-map p.0 name, length-map q.0 name))

  module _ (k : ℕ) (paths : List (List ℕ × C)) (h : IsKCheapest nat_eq edgesM start testM value k paths) where
    ranked_named : AreNamed paths
    ranked_named p c = let r = clean_named laws names distinct edgesM edgesN alike start from begins testM testN tests p.0 (h.clean p c) in named p.0 r.0 r.1

    -- the names of the k cheapest clean paths are those
    pub ranked_out : IsKCheapest eq edgesN from testN value k (map by_name paths)
    ranked_out = record {
      clean = λ p c.
          let r = in_mapped by_name paths p c in
          subst (λ (x : List N × C). IsCleanPath eq edgesN from testN x.0) r.2 (clean_out laws names distinct edgesM edgesN alike start from begins testM testN tests r.0.0 (map name r.0.0) (ranked_named r.0 r.1) (h.clean r.0 r.1));
      costs = λ p c.
          let r = in_mapped by_name paths p c in
          subst (λ (x : List N × C). WalkCosts eq edgesN x.0 (value x.1)) r.2 (costs_out laws names distinct edgesM edgesN alike r.0.0 (map name r.0.0) (value r.0.1) (ranked_named r.0 r.1) (h.costs r.0 r.1));
      once = λ i j g d gi dj same.
          let r = got_mapped by_name paths i g gi in
          let t = got_mapped by_name paths j d dj in
          let here = subst (λ (x : List N × C). SameNodes eq x.0 (by_name t.0).0) (sym r.2) (subst (λ (x : List N × C). SameNodes eq g.0 x.0) (sym t.2) same) in
          h.once i j r.0 t.0 r.1 t.1 (same_back laws names distinct r.0.0 t.0.0 (map name r.0.0) (map name t.0.0) (ranked_named r.0 (contains_got paths i r.0 r.1)) (ranked_named t.0 (contains_got paths j t.0 t.1)) here);
      ordered = λ i j g d less gi dj.
          let r = got_mapped by_name paths i g gi in
          let t = got_mapped by_name paths j d dj in
          subst (λ (x : List N × C). MayComeBefore value x d) r.2 (subst (λ (x : List N × C). MayComeBefore value (by_name r.0) x) t.2 (before_out r.0 t.0 (h.ordered i j r.0 t.0 less r.1 t.1)));
      most = subst (λ (m : ℕ). m ≤ k) (sym (length-map paths by_name)) h.most;
      none_cheaper = λ other u clean costs new p c.
          let r = in_mapped by_name paths p c in
          let l = clean_back laws names distinct edgesM edgesN alike start from begins testM testN tests other clean in
          let there = costs_back laws names distinct edgesM edgesN alike l.0 other u l.1 costs in
          subst (λ (x : List N × C). value x.1 ≤ℤ u) r.2 (h.none_cheaper l.0 u l.2 there (λ g. new (given_out paths ranked_named l.0 other l.1 g)) r.0 r.1);
      complete = λ less path clean.
          let l = clean_back laws names distinct edgesM edgesN alike start from begins testM testN tests path clean in
          let g = h.complete (subst (λ (m : ℕ). m < k) (length-map paths by_name) less) l.0 l.2 in
          given_out paths ranked_named l.0 path l.1 g;
    }
