-- Clean paths over numbers and over the names that they stand for.
use Rattle.std.proofs.Common.{◌≡◌, ℕ, ℤ, nat_eq, refl, sym, subst, ◌∙◌, Bool, false, List, [], ◌∷◌}
use Rattle.std.specs.Prelude.{All}
use Rattle.std.specs.Cmp.{IsEquivalence}
use Rattle.std.specs.List.{AllZip}
use Rattle.std.proofs.lemmas.List.Elements.{All-nil, All-cons, All-head, All-tail}
use Rattle.pf_base.specs.Walks.{NoRepeats, end_of}
use Rattle.pf_base.specs.Edges.{IsSuccessor}
use Rattle.pf_edge_lists.proofs.NameWalks.{IsCarried, Stands, SameEdges, carried_edges, costs_out, end_stands, follows_named, follows_out, goal_back, goal_named, path_out, repeats_out, step_out}
use Rattle.pf_name_numbers.proofs.NameReach.{repeats_back}
use Rattle.pf_yen.specs.CleanPaths.{FailsBeforeEnd, PassesAtEndAlone, IsCleanPath, PathOverflows}
use borrow.Author.Tests.{eqb-true}

module _ {N : Type 0} {eq : N → N → Bool} (laws : IsEquivalence eq) (names : List N) (distinct : NoRepeats eq names) where
  abbrev Zip : List ℕ → List N → Type 0
  Zip = AllZip (Stands laws names)

  module _ (edgesM : ℕ → List (ℕ × ℤ)) (edgesN : N → List (N × ℤ)) (alike : (a : ℕ) (x : N) → Stands laws names a x → SameEdges laws names distinct (edgesM a) (edgesN x))
      (start : ℕ) (from : N) (begins : Stands laws names start from) (testM : ℕ → Bool) (testN : N → Bool) (tests : (k : ℕ) (x : N) → Stands laws names k x → testM k ≡ testN x) where
    abbrev pub CleanM : List ℕ → Type 0
    CleanM = IsCleanPath nat_eq edgesM start testM

    abbrev pub CleanN : List N → Type 0
    CleanN = IsCleanPath eq edgesN from testN

    fails_out : (a : ℕ) (x : N) (w : List ℕ) (v : List N) → Stands laws names a x → Zip w v → FailsBeforeEnd testM a w → FailsBeforeEnd testN x v
    fails_out a x [] [] s z h = tt
    fails_out a x [] (y ∷ v) s z h = absurd z
    fails_out a x (b ∷ w) [] s z h = absurd z
    fails_out a x (b ∷ w) (y ∷ v) s z h = (sym (tests a x s) ∙ h.0, fails_out b y w v z.0 z.1 h.1)

    fails_back : (a : ℕ) (x : N) (w : List ℕ) (v : List N) → Stands laws names a x → Zip w v → FailsBeforeEnd testN x v → FailsBeforeEnd testM a w
    fails_back a x [] [] s z h = tt
    fails_back a x [] (y ∷ v) s z h = absurd z
    fails_back a x (b ∷ w) [] s z h = absurd z
    fails_back a x (b ∷ w) (y ∷ v) s z h = (tests a x s ∙ h.0, fails_back b y w v z.0 z.1 h.1)

    end_alone_out : (w : List ℕ) (v : List N) → Zip w v → PassesAtEndAlone testM w → PassesAtEndAlone testN v
    end_alone_out [] [] z h = tt
    end_alone_out [] (x ∷ v) z h = absurd z
    end_alone_out (a ∷ w) [] z h = absurd z
    end_alone_out (a ∷ w) (x ∷ v) z h = fails_out a x w v z.0 z.1 h

    end_alone_back : (w : List ℕ) (v : List N) → Zip w v → PassesAtEndAlone testN v → PassesAtEndAlone testM w
    end_alone_back [] [] z h = tt
    end_alone_back [] (x ∷ v) z h = absurd z
    end_alone_back (a ∷ w) [] z h = absurd z
    end_alone_back (a ∷ w) (x ∷ v) z h = fails_back a x w v z.0 z.1 h

    all_fail_out : (w : List ℕ) (v : List N) → Zip w v → All (λ k. testM k ≡ false) w → All (λ x. testN x ≡ false) v
    all_fail_out [] [] z h = All-nil (λ x. testN x ≡ false)
    all_fail_out [] (x ∷ v) z h = absurd z
    all_fail_out (a ∷ w) [] z h = absurd z
    all_fail_out (a ∷ w) (x ∷ v) z h = All-cons (λ y. testN y ≡ false) x v (sym (tests a x z.0) ∙ All-head (λ k. testM k ≡ false) a w h) (all_fail_out w v z.1 (All-tail (λ k. testM k ≡ false) a w h))

    carried : IsCarried laws names (IsSuccessor nat_eq edgesM) (IsSuccessor eq edgesN)
    carried = carried_edges laws names distinct edgesM edgesN alike

    -- the numbers of a clean path stand for names
    pub clean_named : (w : List ℕ) → CleanM w → (v : List N) × Zip w v
    clean_named w c = goal_named laws names distinct _ _ carried start from begins testM w c.goes.goes

    -- the names of a clean path are one
    pub clean_out : (w : List ℕ) (v : List N) → Zip w v → CleanM w → CleanN v
    clean_out w v z c = record {
      goes = path_out laws names distinct _ _ carried start from begins testM testN tests w v z c.goes;
      fails = end_alone_out w v z c.fails;
    }

    -- and its numbers
    pub clean_back : (v : List N) → CleanN v → (w : List ℕ) × Zip w v × CleanM w
    clean_back v c =
        let r = goal_back laws names distinct _ _ carried start from begins testM testN tests v c.goes.goes in (
          r.0,
          r.1,
          record {
            goes = record { goes = r.2; distinct = repeats_back laws names distinct r.0 v r.1 c.goes.distinct };
            fails = end_alone_back r.0 v r.1 c.fails;
          },
        )

    -- a path and a step more that cost too much do so over names too
    pub path_past_out : (fits : ℤ → Type 0) → PathOverflows nat_eq edgesM start testM fits → PathOverflows eq edgesN from testN fits
    path_past_out fits p =
        let is_start : start ≡ p.first = eqb-true start p.first p.begins in
        let s : Stands laws names p.first from = subst (λ (n : ℕ). Stands laws names n from) is_start begins in
        let r = follows_named laws names distinct _ _ carried p.first from p.rest s p.walks in
        let here = end_stands laws names p.first from p.rest r.0 s r.1 in
        let next = carried.named (end_of p.first p.rest) p.next (end_of from r.0) here (p.price, p.step.edge) in
        record {
          first = from;
          rest = r.0;
          begins = laws.refl from;
          walks = follows_out laws names distinct _ _ carried p.first from p.rest r.0 s r.1 p.walks;
          distinct = repeats_out laws names distinct (p.first ∷ p.rest) (from ∷ r.0) (s, r.1) p.distinct;
          fails = all_fail_out (p.first ∷ p.rest) (from ∷ r.0) (s, r.1) p.fails;
          cost = p.cost;
          costs = costs_out laws names distinct edgesM edgesN alike (p.first ∷ p.rest) (from ∷ r.0) p.cost (s, r.1) p.costs;
          next = next.0;
          price = p.price;
          step = step_out laws names distinct edgesM edgesN alike (end_of p.first p.rest) p.next (end_of from r.0) next.0 p.price here next.1 p.step;
          past = p.past;
        }

    -- the names of such a path and step stand for its numbers
    pub record PastStands (fits : ℤ → Type 0) (p : PathOverflows nat_eq edgesM start testM fits) (q : PathOverflows eq edgesN from testN fits) : Type 0 where
      pub path : Zip (p.first ∷ p.rest) (q.first ∷ q.rest)
      pub next : Stands laws names p.next q.next
      pub cost : q.cost ≡ p.cost

    pub past_stands : (fits : ℤ → Type 0) (p : PathOverflows nat_eq edgesM start testM fits) → PastStands fits p (path_past_out fits p)
    unfolding path_past_out
    past_stands fits p =
        let is_start : start ≡ p.first = eqb-true start p.first p.begins in
        let s : Stands laws names p.first from = subst (λ (n : ℕ). Stands laws names n from) is_start begins in
        let r = follows_named laws names distinct _ _ carried p.first from p.rest s p.walks in
        let here = end_stands laws names p.first from p.rest r.0 s r.1 in
        let next = carried.named (end_of p.first p.rest) p.next (end_of from r.0) here (p.price, p.step.edge) in
        record { path = (s, r.1); next = next.1; cost = refl }
