-- Lists of clean paths by rising cost over numbers and over the names that they stand for.
use Rattle.std.proofs.Common.{◌≡◌, inl, inr, ◌<◌, ℕ, ℤ, nat_eq, refl, sym, subst, ap, ◌∙◌, Bool, List, [], ◌∷◌, ◌++◌, map}
use Rattle.std.specs.Prelude.{◌≤ℤ◌, Contains}
use Rattle.std.specs.Cmp.{IsEquivalence}
use Rattle.std.specs.List.{AllZip}
use Rattle.std.proofs.lemmas.List.{length-map, map-append}
use Rattle.pf_base.specs.declared.error.PathError.{PathError}
use Rattle.pf_base.specs.Answers.{SameNodes}
use Rattle.pf_base.specs.Walks.{NoRepeats}
use Rattle.pf_base.proofs.ListLemmas.{Contains-head, Contains-tail}
use Rattle.pf_edge_lists.proofs.NameWalks.{Stands, SameEdges, costs_back, costs_out, past_out, test_stands}
use Rattle.pf_name_numbers.proofs.NameReach.{stands_same}
use Rattle.pf_yen.specs.CleanPaths.{AllGiven, BranchOverflows, GoesOnTo, IsCleanPath, IsNextPath, LeavesGiven, RefusedFor, WasGiven}
use Rattle.pf_name_numbers.proofs.MappedLists.{in_mapped, mapped_in}
use Rattle.pf_name_numbers.proofs.NameReach.{same_back}
use Rattle.pf_name_paths.proofs.CleanNames.{clean_back, clean_named, clean_out, past_stands, path_past_out}
use Rattle.pf_name_paths.proofs.RankedNames.{given_out}
use borrow.Author.Tests.{eqb-true}

module _ {N : Type 0} {eq : N → N → Bool} (laws : IsEquivalence eq) (names : List N) (distinct : NoRepeats eq names) (name : ℕ → N) (named : (k : ℕ) (x : N) → Stands laws names k x → Stands laws names k (name k)) where
  abbrev Z : List ℕ → List N → Type 0
  Z = AllZip (Stands laws names)

  pub named_zip : (ks : List ℕ) (xs : List N) → Z ks xs → Z ks (map name ks)
  named_zip [] [] z = tt
  named_zip [] (x ∷ xs) z = absurd z
  named_zip (k ∷ ks) [] z = absurd z
  named_zip (k ∷ ks) (x ∷ xs) z = (named k x z.0, named_zip ks xs z.1)

  -- ---- paths that go on to a node

  -- the nodes before are the first of the path, and the next one is behind them
  goes_zip : (before w : List ℕ) (v : List N) (k : ℕ) → Z w v → GoesOnTo nat_eq before w k → Z before (map name before) × ((y : N) × Stands laws names k y)
  goes_zip [] [] v k z g = absurd g
  goes_zip [] (j ∷ w) [] k z g = absurd z
  goes_zip [] (j ∷ w) (y ∷ v) k z g = (tt, (y, subst (λ (n : ℕ). Stands laws names n y) (eqb-true j k g) z.0))
  goes_zip (a ∷ before) [] v k z g = absurd g
  goes_zip (a ∷ before) (j ∷ w) [] k z g = absurd z
  goes_zip (a ∷ before) (j ∷ w) (y ∷ v) k z g =
      let r = goes_zip before w v k z.1 g.1 in
      ((named a y (subst (λ (n : ℕ). Stands laws names n y) (sym (eqb-true a j g.0)) z.0), r.0), r.1)

  goes_out : (before : List ℕ) (beforeN : List N) (w : List ℕ) (v : List N) (k : ℕ) (x : N) → Z before beforeN → Z w v → Stands laws names k x → GoesOnTo nat_eq before w k → GoesOnTo eq beforeN v x
  goes_out [] [] [] v k x y z s g = absurd g
  goes_out [] [] (j ∷ w) [] k x y z s g = absurd z
  goes_out [] [] (j ∷ w) (b ∷ v) k x y z s g = sym (test_stands laws names distinct k x s j b z.0) ∙ g
  goes_out [] (c ∷ beforeN) w v k x y z s g = absurd y
  goes_out (a ∷ before) [] w v k x y z s g = absurd y
  goes_out (a ∷ before) (c ∷ beforeN) [] v k x y z s g = absurd g
  goes_out (a ∷ before) (c ∷ beforeN) (j ∷ w) [] k x y z s g = absurd z
  goes_out (a ∷ before) (c ∷ beforeN) (j ∷ w) (b ∷ v) k x y z s g = (sym (test_stands laws names distinct j b z.0 a c y.0) ∙ g.0, goes_out before beforeN w v k x y.1 z.1 s g.1)

  goes_back : (before : List ℕ) (beforeN : List N) (w : List ℕ) (v : List N) (k : ℕ) (x : N) → Z before beforeN → Z w v → Stands laws names k x → GoesOnTo eq beforeN v x → GoesOnTo nat_eq before w k
  goes_back [] [] w [] k x y z s g = absurd g
  goes_back [] [] [] (b ∷ v) k x y z s g = absurd z
  goes_back [] [] (j ∷ w) (b ∷ v) k x y z s g = test_stands laws names distinct k x s j b z.0 ∙ g
  goes_back [] (c ∷ beforeN) w v k x y z s g = absurd y
  goes_back (a ∷ before) [] w v k x y z s g = absurd y
  goes_back (a ∷ before) (c ∷ beforeN) w [] k x y z s g = absurd g
  goes_back (a ∷ before) (c ∷ beforeN) [] (b ∷ v) k x y z s g = absurd z
  goes_back (a ∷ before) (c ∷ beforeN) (j ∷ w) (b ∷ v) k x y z s g = (test_stands laws names distinct j b z.0 a c y.0 ∙ g.0, goes_back before beforeN w v k x y.1 z.1 s g.1)

  -- the next name on a path of names has a number
  goes_numbered : (beforeN : List N) (w : List ℕ) (v : List N) (x : N) → Z w v → GoesOnTo eq beforeN v x → (k : ℕ) × Stands laws names k x
  goes_numbered [] w [] x z g = absurd g
  goes_numbered [] [] (b ∷ v) x z g = absurd z
  goes_numbered [] (j ∷ w) (b ∷ v) x z g = (j, stands_same laws names distinct j b x z.0 g)
  goes_numbered (c ∷ beforeN) w [] x z g = absurd g
  goes_numbered (c ∷ beforeN) [] (b ∷ v) x z g = absurd z
  goes_numbered (c ∷ beforeN) (j ∷ w) (b ∷ v) x z g = goes_numbered beforeN w v x z.1 g.1

  zip_end : (w : List ℕ) (v : List N) (k : ℕ) (x : N) → Z w v → Stands laws names k x → Z (w ++ k ∷ []) (v ++ x ∷ [])
  zip_end [] [] k x z s = (s, tt)
  zip_end [] (y ∷ v) k x z s = absurd z
  zip_end (j ∷ w) [] k x z s = absurd z
  zip_end (j ∷ w) (y ∷ v) k x z s = (z.0, zip_end w v k x z.1 s)

  module _ (edgesM : ℕ → List (ℕ × ℤ)) (edgesN : N → List (N × ℤ)) (alike : (a : ℕ) (x : N) → Stands laws names a x → SameEdges laws names distinct (edgesM a) (edgesN x))
      (start : ℕ) (from : N) (begins : Stands laws names start from) (testM : ℕ → Bool) (testN : N → Bool) (tests : (k : ℕ) (x : N) → Stands laws names k x → testM k ≡ testN x) {C : Type 0} (value : C → ℤ)
      (given : List (List ℕ × C)) (clean : (p : List ℕ × C) → Contains given p → IsCleanPath nat_eq edgesM start testM p.0) where
    abbrev ByName : List ℕ × C → List N × C
    ByName p = (map name p.0, p.1)

    clean_zip : (w : List ℕ) → IsCleanPath nat_eq edgesM start testM w → Z w (map name w)
    clean_zip w c = let v = clean_named laws names distinct edgesM edgesN alike start from begins testM testN tests w c in named_zip w v.0 v.1

    all_named : (p : List ℕ × C) → Contains given p → Z p.0 (map name p.0)
    all_named p c = clean_zip p.0 (clean p c)

    was_out : (w : List ℕ) (v : List N) → Z w v → WasGiven nat_eq edgesM start testM value given w → WasGiven eq edgesN from testN value (map ByName given) v
    was_out w v z g = given_out laws names distinct name named_zip edgesM edgesN alike start from begins testM testN tests value given all_named w v z g

    was_back : (w : List ℕ) (v : List N) → Z w v → WasGiven eq edgesN from testN value (map ByName given) v → WasGiven nat_eq edgesM start testM value given w
    was_back w v z g =
        let p = in_mapped ByName given g.0 g.1 in
        (p.0, p.1, same_back laws names distinct p.0.0 w (map name p.0.0) v (all_named p.0 p.1) z (subst (λ (q : List N × C). SameNodes eq q.0 v) (sym p.2) g.2))

    pub all_out : AllGiven nat_eq edgesM start testM value given → AllGiven eq edgesN from testN value (map ByName given)
    all_out all v c =
        let w = clean_back laws names distinct edgesM edgesN alike start from begins testM testN tests v c in
        was_out w.0 v w.1 (all w.0 w.2)

    pub next_out : (path : List ℕ) (cost : C) → IsNextPath nat_eq edgesM start testM value given path cost → IsNextPath eq edgesN from testN value (map ByName given) (map name path) cost
    next_out path cost n =
        let z = clean_zip path n.clean in
        record {
          clean = clean_out laws names distinct edgesM edgesN alike start from begins testM testN tests path (map name path) z n.clean;
          costs = costs_out laws names distinct edgesM edgesN alike path (map name path) (value cost) z n.costs;
          new = λ g. n.new (was_back path (map name path) z g);
          rising = λ p c. let q = in_mapped ByName given p c in subst (λ (x : List N × C). value x.1 ≤ℤ value cost) q.2 (n.rising q.0 q.1);
          none_cheaper = λ v u c costs new.
              let w = clean_back laws names distinct edgesM edgesN alike start from begins testM testN tests v c in
              n.none_cheaper w.0 u w.2 (costs_back laws names distinct edgesM edgesN alike w.0 v u w.1 costs) (λ g. new (was_out w.0 v w.1 g));
        }

    leaves_out : (before w : List ℕ) (v : List N) → Z w v → LeavesGiven nat_eq given before w → LeavesGiven eq (map ByName given) (map name before) v
    leaves_out before w v z l =
        let r = goes_zip before w v l.0 z l.1 in (
          r.1.0,
          goes_out before (map name before) w v l.0 r.1.0 r.0 z r.1.1 l.1,
          λ p c g.
              let q = in_mapped ByName given p c in
              l.2 q.0 q.1 (goes_back before (map name before) q.0.0 (map name q.0.0) l.0 r.1.0 r.0 (all_named q.0 q.1) r.1.1 (subst (λ (x : List N × C). GoesOnTo eq (map name before) x.0 r.1.0) (sym q.2) g)),
        )

    leaves_back : (before w : List ℕ) (v : List N) → Z before (map name before) → Z w v → LeavesGiven eq (map ByName given) (map name before) v → LeavesGiven nat_eq given before w
    leaves_back before w v y z l =
        let k = goes_numbered (map name before) w v l.0 z l.1 in (
          k.0,
          goes_back before (map name before) w v k.0 l.0 y z k.1 l.1,
          λ p c g.
              l.2 (ByName p) (mapped_in ByName given p c) (goes_out before (map name before) p.0 (map name p.0) k.0 l.0 y (all_named p c) k.1 g),
        )

    pub branch_out : (fits : ℤ → Type 0) → BranchOverflows nat_eq edgesM start testM value fits given → BranchOverflows eq edgesN from testN value fits (map ByName given)
    branch_out fits b =
        let last_in : Contains given b.last = subst (λ gs. Contains gs b.last) (sym b.is_last) (in_end b.before b.last) in
        let r = goes_zip b.prefix b.last.0 (map name b.last.0) b.onward (all_named b.last last_in) b.goes_on in
        let over = path_past_out laws names distinct edgesM edgesN alike start from begins testM testN tests fits b.over in
        let stand = past_stands laws names distinct edgesM edgesN alike start from begins testM testN tests fits b.over in
        record {
          prefix = map name b.prefix;
          some = subst (λ (n : ℕ). 0 < n) (sym (length-map b.prefix name)) b.some;
          before = map ByName b.before;
          last = ByName b.last;
          is_last = ap (map ByName) b.is_last ∙ map-append ByName b.before (b.last ∷ []);
          onward = r.1.0;
          goes_on = goes_out b.prefix (map name b.prefix) b.last.0 (map name b.last.0) b.onward r.1.0 r.0 (all_named b.last last_in) r.1.1 b.goes_on;
          over = over;
          leaves = leaves_out b.prefix ((b.over.first ∷ b.over.rest) ++ b.over.next ∷ []) ((over.first ∷ over.rest) ++ over.next ∷ []) (zip_end (b.over.first ∷ b.over.rest) (over.first ∷ over.rest) b.over.next over.next stand.path stand.next) b.leaves;
          none_cheaper = λ v u c costs l.
              let w = clean_back laws names distinct edgesM edgesN alike start from begins testM testN tests v c in
              subst (λ (z : ℤ). z ≤ℤ u) (sym stand.cost) (b.none_cheaper w.0 u w.2 (costs_back laws names distinct edgesM edgesN alike w.0 v u w.1 costs) (leaves_back b.prefix w.0 v r.0 w.1 l));
        }
      where
        in_end : (ps : List (List ℕ × C)) (p : List ℕ × C) → Contains (ps ++ p ∷ []) p
        in_end [] p = Contains-head [] p
        in_end (q ∷ ps) p = Contains-tail (ps ++ p ∷ []) q p (in_end ps p)

    pub refused_out : (fits : ℤ → Type 0) (refusal : PathError) → RefusedFor nat_eq edgesM start testM value fits given refusal → RefusedFor eq edgesN from testN value fits (map ByName given) refusal
    refused_out fits refusal (inl m) = inl m
    refused_out fits refusal (inr o) = inr (
      o.0,
      path_past_out laws names distinct edgesM edgesN alike start from begins testM testN tests fits o.1,
      λ e. past_out laws names distinct edgesM edgesN alike start from begins testM testN tests fits (o.2 (none_named given e)),
      λ some. branch_out fits (o.3 (λ e. some (ap (map ByName) e))),
    )
      where
        none_named : (ps : List (List ℕ × C)) → map ByName ps ≡ [] → ps ≡ []
        none_named [] e = refl
        none_named (p ∷ ps) e = cc
