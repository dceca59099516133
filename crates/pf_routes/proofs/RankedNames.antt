-- One graph stands for another: then the names of the cheapest clean paths are the cheapest clean paths of the other.
use Rattle.std.proofs.Common.{◌≡◌, ℕ, zero, suc, ◌<◌, ◌≤◌, ℤ, Bool, List, [], ◌∷◌, map, refl, sym, ap, ◌∙◌, subst, inl, inr, arith}
use Rattle.std.specs.Prelude.{◌≤ℤ◌, Contains, Some, slice_get}
use Rattle.std.proofs.lemmas.List.{get_or-map, length-map}
use Rattle.std.proofs.lemmas.Option.{slice_get_within, get_or_from_slice_get}
use Rattle.pf_base.specs.Edges.{WalkCosts}
use Rattle.pf_base.specs.Answers.{SameNodes}
use Rattle.pf_yen.specs.CleanPaths.{IsCleanPath, WasGiven}
use Rattle.pf_yen.specs.KCheapest.{MayComeBefore, IsKCheapest}
use Rattle.pf_routes.proofs.Naming.{AllNodes, IsNaming}
use Rattle.pf_routes.proofs.CleanNames.{same_in, same_out, clean_known, clean_in, clean_lifted, clean_costs_in, clean_costs_out}

pub mapped_in : {A B : Type 0} (f : A → B) (xs : List A) (x : A) → Contains xs x → Contains (map f xs) (f x)
mapped_in f xs x c = (c.0, subst (λ (n : ℕ). c.0 < n) (sym (length-map xs f)) c.1, get_or-map f xs c.0 x (f x) c.1 ∙ ap f c.2)

pub in_mapped : {A B : Type 0} (f : A → B) (xs : List A) (y : B) → Contains (map f xs) y → (x : A) × Contains xs x × (f x ≡ y)
in_mapped f [] y c = absurd (omega (arith, c.1))
in_mapped f (x ∷ xs) y (zero, lt, e) = (x, (0, omega arith, refl), e)
in_mapped f (x ∷ xs) y (suc k, lt, e) = let r = in_mapped f xs y (k, omega (arith, lt), e) in (r.0, (suc r.1.0, omega (arith, r.1.1), r.1.2), r.2)

contains_got : {A : Type 0} (xs : List A) (i : ℕ) (x : A) → slice_get xs i ≡ Some x → Contains xs x
contains_got xs i x e = (i, slice_get_within xs i x e, get_or_from_slice_get xs i x x e)

-- what stands at a place of the images
got_mapped : {A B : Type 0} (f : A → B) (xs : List A) (i : ℕ) (y : B) → slice_get (map f xs) i ≡ Some y → (x : A) × (slice_get xs i ≡ Some x) × (f x ≡ y)
got_mapped f [] i y e = cc
got_mapped f (x ∷ xs) zero y e = (x, refl, cc)
got_mapped f (x ∷ xs) (suc i) y e = got_mapped f xs i y e

module _ {M N : Type 0} (eqM : M → M → Bool) (eqN : N → N → Bool) (name : M → N) (known : M → Type 0) (edgesM : M → List (M × ℤ)) (edgesN : N → List (N × ℤ)) (n : IsNaming eqM eqN name known edgesM edgesN)
    (start : M) (ks : known start) (testM : M → Bool) (testN : N → Bool) (tests : (m : M) → known m → testM m ≡ testN (name m)) {C : Type 0} (value : C → ℤ) where
  abbrev pub named : List M × C → List N × C
  named p = (map name p.0, p.1)

  abbrev GivenM : List (List M × C) → List M → Type 0
  GivenM = WasGiven eqM edgesM start testM value

  abbrev GivenN : List (List N × C) → List N → Type 0
  GivenN = WasGiven eqN edgesN (name start) testN value

  abbrev AreKnown : List (List M × C) → Type 0
  AreKnown paths = (p : List M × C) → Contains paths p → AllNodes known p.0

  given_in : (paths : List (List M × C)) → AreKnown paths → (w : List M) → AllNodes known w → GivenM paths w → GivenN (map named paths) (map name w)
  given_in paths all w kw g = (named g.0, mapped_in named paths g.0 g.1, same_in eqM eqN name known edgesM edgesN n g.0.0 w (all g.0 g.1) kw g.2)

  given_out : (paths : List (List M × C)) → AreKnown paths → (w : List M) → AllNodes known w → GivenN (map named paths) (map name w) → GivenM paths w
  given_out paths all w kw g =
      let r = in_mapped named paths g.0 g.1 in
      let same = subst (λ (q : List N × C). SameNodes eqN q.0 (map name w)) (sym r.2) g.2 in
      (r.0, r.1, same_out eqM eqN name known edgesM edgesN n r.0.0 w (all r.0 r.1) kw same)

  before_in : (p q : List M × C) → MayComeBefore value p q → MayComeBefore value (named p) (named q)
  before_in p q (inl h) = inl h
  before_in p q (inr h) = inr (h.0, omega (arith, h.1, length-map p.0 name, length-map q.0 name))

  module _ (k : ℕ) (paths : List (List M × C)) (h : IsKCheapest eqM edgesM start testM value k paths) where
    pub ranked_known : (p : List M × C) → Contains paths p → AllNodes known p.0
    ranked_known p c = clean_known eqM eqN name known edgesM edgesN n start ks testM testN tests p.0 (h.clean p c)

    pub ranked_in : IsKCheapest eqN edgesN (name start) testN value k (map named paths)
    ranked_in = record {
      clean = λ p c. let r = in_mapped named paths p c in subst (λ (x : List N × C). IsCleanPath eqN edgesN (name start) testN x.0) r.2 (clean_in eqM eqN name known edgesM edgesN n start ks testM testN tests r.0.0 (h.clean r.0 r.1));
      costs = λ p c. let r = in_mapped named paths p c in subst (λ (x : List N × C). WalkCosts eqN edgesN x.0 (value x.1)) r.2 (clean_costs_in eqM eqN name known edgesM edgesN n start ks testM testN tests r.0.0 (value r.0.1) (ranked_known r.0 r.1) (h.costs r.0 r.1));
      once = λ i j g d gi dj same.
          let r = got_mapped named paths i g gi in
          let t = got_mapped named paths j d dj in
          let here = subst (λ (x : List N × C). SameNodes eqN x.0 (named t.0).0) (sym r.2) (subst (λ (x : List N × C). SameNodes eqN g.0 x.0) (sym t.2) same) in
          h.once i j r.0 t.0 r.1 t.1 (same_out eqM eqN name known edgesM edgesN n r.0.0 t.0.0 (ranked_known r.0 (contains_got paths i r.0 r.1)) (ranked_known t.0 (contains_got paths j t.0 t.1)) here);
      ordered = λ i j g d less gi dj.
          let r = got_mapped named paths i g gi in
          let t = got_mapped named paths j d dj in
          subst (λ (x : List N × C). MayComeBefore value x d) r.2 (subst (λ (x : List N × C). MayComeBefore value (named r.0) x) t.2 (before_in r.0 t.0 (h.ordered i j r.0 t.0 less r.1 t.1)));
      most = subst (λ m. m ≤ k) (sym (length-map paths named)) h.most;
      none_cheaper = λ other u clean costs new p c.
          let r = in_mapped named paths p c in
          let l = clean_lifted eqM eqN name known edgesM edgesN n start ks testM testN tests other clean in
          let there = clean_costs_out eqM eqN name known edgesM edgesN n start ks testM testN tests l.nodes u l.all (subst (λ w. WalkCosts eqN edgesN w u) (sym l.names) costs) in
          subst (λ (x : List N × C). value x.1 ≤ℤ u) r.2 (h.none_cheaper l.nodes u l.clean there (λ g. new (subst (λ w. GivenN (map named paths) w) l.names (given_in paths ranked_known l.nodes l.all g))) r.0 r.1);
      complete = λ less path clean.
          let l = clean_lifted eqM eqN name known edgesM edgesN n start ks testM testN tests path clean in
          let g = h.complete (subst (λ m. m < k) (length-map paths named) less) l.nodes l.clean in
          subst (λ w. GivenN (map named paths) w) l.names (given_in paths ranked_known l.nodes l.all g);
    }
