-- How many lists without repeats there are over a list of nodes.
use Rattle.std.proofs.Common.{◌≡◌, ◌∙◌, ℕ, zero, suc, ◌<◌, ◌≤◌, ◌+◌, ◌*◌, refl, sym, subst, arith, inl, inr, Bool, true, false, true≢false, ◌&&◌, List, [], ◌∷◌, length, cond, ap}
use Rattle.std.specs.Prelude.{⊤, ℤ, Some, slice_get, Contains, ◌++◌}
use Rattle.std.specs.Cmp.{IsEquivalence}
use Rattle.std.proofs.Math.Nat.{suc-mul, mul-le-mul_right}
use Rattle.pf_base.specs.Walks.{HasNode, NoRepeats, Follows, end_of}
use Rattle.pf_base.specs.Edges.{IsSuccessor, InReach}
use Rattle.pf_base.specs.Answers.{SameNodes}
use Rattle.pf_base.proofs.ListLemmas.{bool_dec, Contains-head, Contains-tail}
use Rattle.pf_core.proofs.NodeLemmas.{eq-sym, eq-trans, InReach-same, InReach-start, InReach-after}
use Rattle.pf_core.proofs.WalkLemmas.{HasNode-same}
use Rattle.pf_yen.specs.Internal.Gathered.{same_nodes}
use Rattle.pf_yen.specs.CleanPaths.{IsCleanPath}
use Rattle.pf_yen.specs.Counting.{most_paths}
use Rattle.pf_yen.proofs.ClassLemmas.{both_true}

pub both : (a b : Bool) → a && b ≡ true → (a ≡ true) × (b ≡ true)
both true b h = (refl, h)
both false b h = absurd (true≢false (sym h))

module _ {N : Type 0} (eq : N → N → Bool) where
  -- no node stands twice in any of the lists, and all their nodes are among these
  abbrev pub AreOver : List N → List (List N) → Type 0
  AreOver nodes [] = ⊤
  AreOver nodes (p ∷ ps) = (NoRepeats eq p × ((x : N) → HasNode eq p x → HasNode eq nodes x)) × AreOver nodes ps

  -- what follows y in the lists that begin with it
  abbrev rests : N → List (List N) → List (List N)
  rests y [] = []
  rests y ([] ∷ ps) = rests y ps
  rests y ((x ∷ p) ∷ ps) = cond (eq y x) (p ∷ rests y ps) (rests y ps)

  -- how many there are, for each of these nodes
  abbrev rests_of_all : List N → List (List N) → ℕ
  rests_of_all [] ps = 0
  rests_of_all (y ∷ ys) ps = length (rests y ps) + rests_of_all ys ps

  -- the other nodes
  abbrev others : N → List N → List N
  others y [] = []
  others y (z ∷ zs) = cond (eq z y) (others y zs) (z ∷ others y zs)

  module _ (laws : IsEquivalence eq) where
    has_whole : (y : N) (ps : List (List N)) (q : List N) (x : N) → eq y x ≡ true → HasNode (same_nodes eq) (rests y ps) q → HasNode (same_nodes eq) ps (x ∷ q)
    has_whole y [] q x e h = absurd h
    has_whole y ([] ∷ ps) q x e h = inr (has_whole y ps q x e h)
    has_whole y ((z ∷ p) ∷ ps) q x e h = elim (bool_dec (eq y z)) as (λ _. HasNode (same_nodes eq) ((z ∷ p) ∷ ps) (x ∷ q)) [
      | inl t ↦ elim (subst (λ (b : Bool). HasNode (same_nodes eq) (cond b (p ∷ rests y ps) (rests y ps)) q) t h) as (λ _. HasNode (same_nodes eq) ((z ∷ p) ∷ ps) (x ∷ q)) [
        | inl s ↦ inl (both_true (eq z x) (same_nodes eq p q) (eq-trans eq laws z y x (eq-sym eq laws y z t) e) s)
        | inr r ↦ inr (has_whole y ps q x e r)
      ]
      | inr f ↦ inr (has_whole y ps q x e (subst (λ (b : Bool). HasNode (same_nodes eq) (cond b (p ∷ rests y ps) (rests y ps)) q) f h))
    ]

    rests_once : (y : N) (ps : List (List N)) → NoRepeats (same_nodes eq) ps → NoRepeats (same_nodes eq) (rests y ps)
    rests_once y [] n = tt
    rests_once y ([] ∷ ps) n = rests_once y ps n.1
    rests_once y ((z ∷ p) ∷ ps) n = elim (bool_dec (eq y z)) as (λ _. NoRepeats (same_nodes eq) (rests y ((z ∷ p) ∷ ps))) [
      | inl t ↦ subst (λ (b : Bool). NoRepeats (same_nodes eq) (cond b (p ∷ rests y ps) (rests y ps))) (sym t) ((λ h. n.0 (has_whole y ps p z t h)), rests_once y ps n.1)
      | inr f ↦ subst (λ (b : Bool). NoRepeats (same_nodes eq) (cond b (p ∷ rests y ps) (rests y ps))) (sym f) (rests_once y ps n.1)
    ]

    still_there : (y x : N) (nodes : List N) → ¬ (eq x y ≡ true) → HasNode eq nodes x → HasNode eq (others y nodes) x
    still_there y x [] n h = h
    still_there y x (z ∷ zs) n h = elim (bool_dec (eq z y)) as (λ _. HasNode eq (others y (z ∷ zs)) x) [
      | inl t ↦ subst (λ (b : Bool). HasNode eq (cond b (others y zs) (z ∷ others y zs)) x) (sym t) (elim h as (λ _. HasNode eq (others y zs) x) [
        | inl s ↦ absurd (n (eq-trans eq laws x z y (eq-sym eq laws z x s) t))
        | inr r ↦ still_there y x zs n r
      ])
      | inr f ↦ subst (λ (b : Bool). HasNode eq (cond b (others y zs) (z ∷ others y zs)) x) (sym f) (elim h as (λ _. HasNode eq (z ∷ others y zs) x) [
        | inl s ↦ inl s
        | inr r ↦ inr (still_there y x zs n r)
      ])
    ]

    rests_over : (y : N) (nodes : List N) (ps : List (List N)) → AreOver nodes ps → AreOver (others y nodes) (rests y ps)
    rests_over y nodes [] a = tt
    rests_over y nodes ([] ∷ ps) a = rests_over y nodes ps a.1
    rests_over y nodes ((z ∷ p) ∷ ps) a = elim (bool_dec (eq y z)) as (λ _. AreOver (others y nodes) (rests y ((z ∷ p) ∷ ps))) [
      | inl t ↦ subst (λ (b : Bool). AreOver (others y nodes) (cond b (p ∷ rests y ps) (rests y ps))) (sym t)
          ((a.0.0.1, λ x h. still_there y x nodes (λ e. a.0.0.0 (HasNode-same eq laws p x z (eq-trans eq laws x y z e t) h)) (a.0.1 x (inr h))), rests_over y nodes ps a.1)
      | inr f ↦ subst (λ (b : Bool). AreOver (others y nodes) (cond b (p ∷ rests y ps) (rests y ps))) (sym f) (rests_over y nodes ps a.1)
    ]

  -- the other nodes are fewer
  others_at_most : (y : N) (nodes : List N) → length (others y nodes) ≤ length nodes
  others_at_most y [] = omega arith
  others_at_most y (z ∷ zs) =
      let k = others_at_most y zs in
      elim (bool_dec (eq z y)) as (λ _. length (others y (z ∷ zs)) ≤ suc (length zs)) [
        | inl t ↦ subst (λ (b : Bool). length (cond b (others y zs) (z ∷ others y zs)) ≤ suc (length zs)) (sym t) (omega (arith, k))
        | inr f ↦ subst (λ (b : Bool). length (cond b (others y zs) (z ∷ others y zs)) ≤ suc (length zs)) (sym f) (omega (arith, k))
      ]

  others_fewer : (y : N) (nodes : List N) → HasNode eq nodes y → length (others y nodes) < length nodes
  others_fewer y [] h = absurd h
  others_fewer y (z ∷ zs) h =
      let k = others_at_most y zs in
      elim (bool_dec (eq z y)) as (λ _. length (others y (z ∷ zs)) < suc (length zs)) [
        | inl t ↦ subst (λ (b : Bool). length (cond b (others y zs) (z ∷ others y zs)) < suc (length zs)) (sym t) (omega (arith, k))
        | inr f ↦ subst (λ (b : Bool). length (cond b (others y zs) (z ∷ others y zs)) < suc (length zs)) (sym f) (elim h as (λ _. suc (length (others y zs)) < suc (length zs)) [
          | inl t ↦ absurd (true≢false (sym t ∙ f))
          | inr r ↦ let l = others_fewer y zs r in omega (arith, l)
        ])
      ]

  -- one list more
  rests_grow : (y x : N) (p : List N) (ps : List (List N)) → length (rests y ps) ≤ length (rests y ((x ∷ p) ∷ ps))
  rests_grow y x p ps = elim (bool_dec (eq y x)) as (λ _. length (rests y ps) ≤ length (rests y ((x ∷ p) ∷ ps))) [
    | inl t ↦ subst (λ (b : Bool). length (rests y ps) ≤ length (cond b (p ∷ rests y ps) (rests y ps))) (sym t) (omega arith)
    | inr f ↦ subst (λ (b : Bool). length (rests y ps) ≤ length (cond b (p ∷ rests y ps) (rests y ps))) (sym f) (omega arith)
  ]

  all_grow : (ys : List N) (x : N) (p : List N) (ps : List (List N)) → rests_of_all ys ps ≤ rests_of_all ys ((x ∷ p) ∷ ps)
  all_grow [] x p ps = omega arith
  all_grow (y ∷ ys) x p ps = let a = rests_grow y x p ps in let b = all_grow ys x p ps in omega (arith, a, b)

  all_grow_by_one : (ys : List N) (x : N) (p : List N) (ps : List (List N)) → HasNode eq ys x → rests_of_all ys ps < rests_of_all ys ((x ∷ p) ∷ ps)
  all_grow_by_one [] x p ps h = absurd h
  all_grow_by_one (y ∷ ys) x p ps (inl e) =
      let b = all_grow ys x p ps in
      let a : length (rests y ps) < length (rests y ((x ∷ p) ∷ ps)) = subst (λ (c : Bool). length (rests y ps) < length (cond c (p ∷ rests y ps) (rests y ps))) (sym e) (omega arith) in
      omega (arith, a, b)
  all_grow_by_one (y ∷ ys) x p ps (inr h) = let a = rests_grow y x p ps in let b = all_grow_by_one ys x p ps h in omega (arith, a, b)

  -- the lists that are not empty are counted by their first nodes
  counted : (laws : IsEquivalence eq) (nodes : List N) (ps : List (List N)) → AreOver nodes ps → ¬ (HasNode (same_nodes eq) ps []) → length ps ≤ rests_of_all nodes ps
  counted laws nodes [] a n = omega arith
  counted laws nodes ([] ∷ ps) a n = absurd (n (inl refl))
  counted laws nodes ((x ∷ p) ∷ ps) a n =
      let k = counted laws nodes ps a.1 (λ h. n (inr h)) in
      let m = all_grow_by_one nodes x p ps (a.0.1 x (inl (laws.refl x))) in
      omega (arith, k, m)

  counted_with_empty : (laws : IsEquivalence eq) (nodes : List N) (ps : List (List N)) → AreOver nodes ps → NoRepeats (same_nodes eq) ps → length ps ≤ suc (rests_of_all nodes ps)
  counted_with_empty laws nodes [] a n = omega arith
  counted_with_empty laws nodes ([] ∷ ps) a n = empty_first (counted laws nodes ps a.1 n.0)
    where
      empty_first : length ps ≤ rests_of_all nodes ps → suc (length ps) ≤ suc (rests_of_all nodes ([] ∷ ps))
      empty_first h = let e = all_same nodes in omega (arith, h, e)
        where
          all_same : (ys : List N) → rests_of_all ys ([] ∷ ps) ≡ rests_of_all ys ps
          all_same [] = refl
          all_same (y ∷ ys) = ap (λ (k : ℕ). length (rests y ps) + k) (all_same ys)
  counted_with_empty laws nodes ((x ∷ p) ∷ ps) a n =
      let k = counted_with_empty laws nodes ps a.1 n.1 in
      let m = all_grow_by_one nodes x p ps (a.0.1 x (inl (laws.refl x))) in
      omega (arith, k, m)

  all_below : (ys : List N) (ps : List (List N)) (m : ℕ) → ((y : N) → HasNode eq ys y → length (rests y ps) ≤ m) → (laws : IsEquivalence eq) → rests_of_all ys ps ≤ length ys * m
  all_below [] ps m h laws = omega arith
  all_below (y ∷ ys) ps m h laws =
      let a = h y (inl (laws.refl y)) in
      let b = all_below ys ps m (λ z k. h z (inr k)) laws in
      let e : suc (length ys) * m ≡ length ys * m + m = suc-mul (length ys) m in
      omega (arith, a, b, e)

  -- at most so many lists without repeats are over so many nodes
  pub most : (laws : IsEquivalence eq) (n : ℕ) (nodes : List N) (ps : List (List N)) → length nodes ≤ n → AreOver nodes ps → NoRepeats (same_nodes eq) ps → length ps ≤ most_paths n
  unfolding most_paths
  most laws zero [] ps l a n = counted_with_empty laws [] ps a n
  most laws zero (y ∷ ys) ps l a n = absurd (omega (arith, l))
  most laws (suc n) nodes ps l a o =
      let each : (y : N) → HasNode eq nodes y → length (rests y ps) ≤ most_paths n = λ y h. let f = others_fewer y nodes h in most laws n (others y nodes) (rests y ps) (omega (arith, f, l)) (rests_over laws y nodes ps a) (rests_once laws y ps o) in
      let b = all_below nodes ps (most_paths n) each laws in
      let c = counted_with_empty laws nodes ps a o in
      let m = mul-le-mul_right (most_paths n) l in
      omega (arith, b, c, m)

-- lists that are told to be the same are so, place by place
pub same_means : {N : Type 0} (eq : N → N → Bool) (xs ys : List N) → same_nodes eq xs ys ≡ true → SameNodes eq xs ys
same_means eq [] [] h = tt
same_means eq [] (y ∷ ys) h = absurd (true≢false (sym h))
same_means eq (x ∷ xs) [] h = absurd (true≢false (sym h))
same_means eq (x ∷ xs) (y ∷ ys) h = let b = both (eq x y) (same_nodes eq xs ys) h in (b.0, same_means eq xs ys b.1)

-- where equal lists stand at one place alone, none is repeated
pub once_at_places : {N : Type 0} (eq : N → N → Bool) (ps : List (List N)) → ((i j : ℕ) (p q : List N) → slice_get ps i ≡ Some p → slice_get ps j ≡ Some q → SameNodes eq p q → i ≡ j) → NoRepeats (same_nodes eq) ps
once_at_places eq [] h = tt
once_at_places {N = N} eq (p ∷ ps) h = ((λ k. let f = found ps p k in not_first f.0 (h (suc f.0) 0 f.1 p f.2 refl f.3)), once_at_places eq ps (λ i j q r a b s. suc_is (h (suc i) (suc j) q r a b s)))
  where
    found : (qs : List (List N)) (p : List N) → HasNode (same_nodes eq) qs p → (i : ℕ) × (q : List N) × (slice_get qs i ≡ Some q) × SameNodes eq q p
    found [] p k = absurd k
    found (q ∷ qs) p (inl e) = (0, q, refl, same_means eq q p e)
    found (q ∷ qs) p (inr k) = let f = found qs p k in (suc f.0, f.1, f.2, f.3)

    not_first : (i : ℕ) → ¬ (suc i ≡ 0)
    not_first i e = omega (arith, e)

    suc_is : {i j : ℕ} → suc i ≡ suc j → i ≡ j
    suc_is e = omega (arith, e)

module _ {N : Type 0} (eq : N → N → Bool) (laws : IsEquivalence eq) (edges : N → List (N × ℤ)) (start : N) (test : N → Bool) (further : List N) (all : (x : N) → InReach eq edges (start ∷ []) x → HasNode eq (start ∷ further) x) where
  -- each node of a walk from the start is in reach
  walked : (done rest : List N) (a : N) → eq start a ≡ true → Follows (IsSuccessor eq edges) a (done ++ rest) → (x : N) → HasNode eq rest x → InReach eq edges (start ∷ []) x
  walked done [] a s f x h = absurd h
  walked done (b ∷ rest) a s f x (inl e) = InReach-same eq laws edges (start ∷ []) b x (subst (λ (y : N). InReach eq edges (start ∷ []) y) (last done a b) (InReach-after eq laws edges (start ∷ []) a (done ++ b ∷ []) (first_part done b rest a f) (inl s))) e
    where
      last : (done : List N) (a b : N) → end_of a (done ++ b ∷ []) ≡ b
      last [] a b = refl
      last (y ∷ ys) a b = last ys y b

      first_part : (done : List N) (b : N) (rest : List N) (a : N) → Follows (IsSuccessor eq edges) a (done ++ b ∷ rest) → Follows (IsSuccessor eq edges) a (done ++ b ∷ [])
      first_part [] b rest a f = (f.0, tt)
      first_part (y ∷ ys) b rest a f = (f.0, first_part ys b rest y f.1)
  walked done (b ∷ rest) a s f x (inr h) = walked (done ++ b ∷ []) rest a s (subst (λ (v : List N). Follows (IsSuccessor eq edges) a v) (assoc done b rest) f) x h
    where
      assoc : (v : List N) (b : N) (w : List N) → v ++ b ∷ w ≡ (v ++ b ∷ []) ++ w
      assoc [] b w = refl
      assoc (y ∷ v) b w = ap (λ (u : List N). y ∷ u) (assoc v b w)

  begins_at : (a : N) (w : List N) → IsCleanPath eq edges start test (a ∷ w) → eq start a ≡ true
  begins_at a w c = elim c.goes.goes.begins as (λ _. eq start a ≡ true) [ inl e ↦ e | inr f ↦ absurd f ]

  over : (path : List N) → IsCleanPath eq edges start test path → NoRepeats eq path × ((x : N) → HasNode eq path x → HasNode eq (start ∷ further) x)
  over [] c = absurd c.goes.goes.walks
  over (a ∷ w) c =
      let s = begins_at a w c in (
        c.goes.distinct,
        λ x h. all x (elim h as (λ _. InReach eq edges (start ∷ []) x) [
          | inl e ↦ InReach-start eq laws edges (start ∷ []) start x (inl (laws.refl start)) (eq-trans eq laws start a x s e)
          | inr r ↦ walked [] w a s c.goes.goes.walks x r
        ]),
      )

  -- all of them begin at the start
  behind_start : (paths : List (List N)) → ((path : List N) → Contains paths path → IsCleanPath eq edges start test path) → length (rests eq start paths) ≡ length paths
  behind_start [] c = refl
  behind_start ([] ∷ ps) c = let h = c [] (Contains-head ps []) in absurd h.goes.goes.walks
  behind_start ((a ∷ w) ∷ ps) c =
      let s = begins_at a w (c (a ∷ w) (Contains-head ps (a ∷ w))) in
      subst (λ (b : Bool). length (cond b (w ∷ rests eq start ps) (rests eq start ps)) ≡ suc (length ps)) (sym s) (ap suc (behind_start ps (λ q h. c q (Contains-tail ps (a ∷ w) q h))))

  pub clean_at_most : (paths : List (List N)) → ((path : List N) → Contains paths path → IsCleanPath eq edges start test path)
      → ((i j : ℕ) (path other : List N) → slice_get paths i ≡ Some path → slice_get paths j ≡ Some other → SameNodes eq path other → i ≡ j) → length paths ≤ most_paths (length further)
  clean_at_most paths clean once =
      let fewer = others_fewer eq start (start ∷ further) (inl (laws.refl start)) in
      let few = most eq laws (length further) (others eq start (start ∷ further)) (rests eq start paths) (omega (arith, fewer)) (rests_over eq laws start (start ∷ further) paths (all_over paths clean)) (rests_once eq laws start paths (once_at_places eq paths once)) in
      let same = behind_start paths clean in
      omega (arith, few, same)
    where
      all_over : (ps : List (List N)) → ((path : List N) → Contains ps path → IsCleanPath eq edges start test path) → AreOver eq (start ∷ further) ps
      all_over [] c = tt
      all_over (p ∷ ps) c = (over p (c p (Contains-head ps p)), all_over ps (λ q h. c q (Contains-tail ps p q h)))
