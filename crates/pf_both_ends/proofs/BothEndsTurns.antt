-- Searches by rising cost from both ends: the two sides and their best meeting after a turn of one of them.
use Rattle.std.proofs.Common.{◌≡◌, ℕ, ◌<◌, Bool, true, false, Option, Some, None, List, [], ◌∷◌, ◌∙◌, length, sym, ap, subst, arith, inl, inr, ℤ, pos, true≢false, nat_eq}
use Rattle.std.specs.Prelude.{◌⊎◌, ◌↔◌, ◌≤ℤ◌, ◌<ℤ◌, ◌+ℤ◌, MatchOption, MatchBool, IfSome}
use Rattle.std.specs.Cmp.{IsEquivalence}
use Rattle.std.specs.List.{IsDistinct}
use Rattle.std.proofs.lemmas.Int.{ints}
use Rattle.pf_base.specs.Edges.{InReach, HasNoNegativeCost}
use Rattle.pf_base.specs.Answers.{ListsEdges}
use Rattle.pf_core.specs.declared.labels.Label.{Label}
use Rattle.pf_core.specs.Labels.{Labels, HasLabel, IsTree, by_cost}
use Rattle.pf_core.specs.Numbered.{Grows}
use Rattle.pf_core.specs.Nodes.{StandsFor, IsStep}
use Rattle.pf_core.specs.NodeLaws.{StandsFor-one, StandsFor-inside}
use Rattle.pf_core.specs.Search.{IsLow, IsSearch, Turned}
use Rattle.pf_core.proofs.LabelLemmas.{HasLabel-inside}
use Rattle.pf_core.proofs.SearchLemmas.{search_grows, start_alone}
use Rattle.pf_both_ends.specs.declared.dijkstra.Meeting.{Meeting}
use Rattle.pf_both_ends.specs.BothEnds.{IsCostMirror}
use Rattle.pf_both_ends.specs.Internal.BothEnds.{from_one, bound, IsMeeting, NoneBelowAt, IsHalf, IsPair, AreEnds, NoWalkAcross, NoWalkAcrossBelow}
use Rattle.pf_both_ends.proofs.BothEndsLemmas.{walks_low, pair_turned, meeting_stays, meeting_swap, pair_swap}

some_map : {A : Type 0} (P Q : A → Type 0) → ((x : A) → P x → Q x) → (o : Option A) → IfSome o P → IfSome o Q
some_map P Q f None h = h
some_map P Q f (Some x) h = f x h

-- what is one of two meetings is as both are
some_one : {A : Type 0} (P : A → Type 0) (o a b : Option A) → (o ≡ a) ⊎ (o ≡ b) → IfSome a P → IfSome b P → IfSome o P
some_one {A} P o a b (inl e) x y = subst (λ (q : Option A). IfSome q P) (sym e) x
some_one {A} P o a b (inr e) x y = subst (λ (q : Option A). IfSome q P) (sym e) y

module _ {N C : Type 0} (eq : N → N → Bool) (value : C → ℤ) where
  none_weaker : (keys others : List N) (labels labels' : Labels C) (t t2 : ℤ) (n : ℕ) → t2 ≤ℤ t → NoneBelowAt eq value keys others labels labels' t n → NoneBelowAt eq value keys others labels labels' t2 n
  none_weaker keys others labels labels' t t2 n less none = λ k l m x a b d e pl pm. omega (arith, ints, less, none k l m x a b d e pl pm)

module _ {N C : Type 0} (eq : N → N → Bool) (laws : IsEquivalence eq) (value : C → ℤ) (fits : ℤ → Type 0) where
  module _ (edges : N → List (N × ℤ)) (start : N) (keys : List N) (labels : Labels C) (half : IsHalf eq value fits edges start keys labels) (keys2 : List N) (grows : Grows (length keys) (length keys2) (StandsFor eq keys) (StandsFor eq keys2)) (distinct : IsDistinct eq keys2) where
    first_inside : 0 < length keys
    first_inside = StandsFor-inside eq keys 0 start ((half.begins start).1 (laws.refl start))

    -- one side after its turn
    pub half_turned : (labels2 : Labels C) → IsSearch (by_cost value) (IsStep eq (from_one start edges)) (λ k. nat_eq k 0) (StandsFor eq keys2) labels2 → IsTree labels2
        → (n : ℕ) (l : Label C) → Turned n l labels labels2 → fits (value l.cost) → IsHalf eq value fits edges start keys2 labels2
    half_turned labels2 search tree n l turned fit = record {
      costs = half.costs;
      alike = half.alike;
      one = StandsFor-one eq laws keys2 distinct;
      begins = λ x. (λ h. (half.begins x).0 (grows.back 0 x first_inside h), λ e. grows.stays 0 x ((half.begins x).1 e));
      search = search;
      tree = tree;
      fit = λ k m h s. elim (turned.from k m h s) as (λ _. fits (value m.cost)) [
        | inl q ↦ subst (λ (o : Label C). fits (value o.cost)) (sym q.1) fit
        | inr q ↦ half.fit k m q s
      ];
    }

    -- one side after a turn that was refused
    pub half_kept : length labels ≡ length keys → IsHalf eq value fits edges start keys2 labels
    half_kept wide = record {
      costs = half.costs;
      alike = half.alike;
      one = StandsFor-one eq laws keys2 distinct;
      begins = λ x. (λ h. (half.begins x).0 (grows.back 0 x first_inside h), λ e. grows.stays 0 x ((half.begins x).1 e));
      search = search_grows (by_cost value) (IsStep eq (from_one start edges)) (λ k. nat_eq k 0) (length keys) (length keys2) (StandsFor eq keys) (StandsFor eq keys2) grows labels (omega (arith, wide)) half.search;
      tree = half.tree;
      fit = half.fit;
    }

  module _ (edges previous : N → List (N × ℤ)) (start end : N) (keys others : List N) (labels labels' : Labels C) where
    -- both sides after a turn of the way back that was refused
    pair_kept : (t : ℤ) → IsPair eq value fits edges previous start end keys others labels labels' t → (others2 : List N) → Grows (length others) (length others2) (StandsFor eq others) (StandsFor eq others2) → IsDistinct eq others2 → length labels' ≡ length others
        → IsPair eq value fits edges previous start end keys others2 labels labels' t
    pair_kept t pair others2 grows distinct wide = record {
      forth = pair.forth;
      back = half_kept previous end others labels' pair.back others2 grows distinct wide;
      mirror = pair.mirror;
      seen = λ j k l m x a b d e s. pair.seen j k l m x a (grows.back k x (omega (arith, HasLabel-inside labels' k m e, wide)) b) d e s;
    }

    meeting_kept : (others2 : List N) → Grows (length others) (length others2) (StandsFor eq others) (StandsFor eq others2) → (m : Meeting C) → IsMeeting eq value keys others labels labels' m → IsMeeting eq value keys others2 labels labels' m
    meeting_kept others2 grows m w = record {
      node = w.node;
      stands_here = w.stands_here;
      stands_across = grows.stays m.across w.node w.stands_across;
      here = w.here;
      labelled_here = w.labelled_here;
      across = w.across;
      labelled_across = w.labelled_across;
      sum = w.sum;
    }

    -- both sides and their best meeting after a refused turn of the second, which found nodes at most
    pub both_kept : (t : ℤ) → IsPair eq value fits edges previous start end keys others labels labels' t → (others2 : List N) → Grows (length others) (length others2) (StandsFor eq others) (StandsFor eq others2) → IsDistinct eq others2 → length labels' ≡ length others
        → (now now' : Labels C) → now ≡ labels → now' ≡ labels' → (best : Option (Meeting C)) → IfSome best (IsMeeting eq value keys others labels labels')
        → IsPair eq value fits edges previous start end keys others2 now now' t × IfSome best (IsMeeting eq value keys others2 now now')
    both_kept t pair others2 grows distinct wide now now' same same' best w =
        subst (λ (a : Labels C). IsPair eq value fits edges previous start end keys others2 a now' t × IfSome best (IsMeeting eq value keys others2 a now')) (sym same)
        (subst (λ (b : Labels C). IsPair eq value fits edges previous start end keys others2 labels b t × IfSome best (IsMeeting eq value keys others2 labels b)) (sym same')
        (pair_kept t pair others2 grows distinct wide, some_map (IsMeeting eq value keys others labels labels') (IsMeeting eq value keys others2 labels labels') (meeting_kept others2 grows) best w))

    -- both sides and their best meeting where the labels are as they were
    pub both_now : (t : ℤ) (now now' : Labels C) → now ≡ labels → now' ≡ labels' → (best : Option (Meeting C)) → IsPair eq value fits edges previous start end keys others labels labels' t × IfSome best (IsMeeting eq value keys others labels labels')
        → IsPair eq value fits edges previous start end keys others now now' t × IfSome best (IsMeeting eq value keys others now now')
    both_now t now now' same same' best w =
        subst (λ (a : Labels C). IsPair eq value fits edges previous start end keys others a now' t × IfSome best (IsMeeting eq value keys others a now')) (sym same)
        (subst (λ (b : Labels C). IsPair eq value fits edges previous start end keys others labels b t × IfSome best (IsMeeting eq value keys others labels b)) (sym same') w)

    -- what the best meeting says, where the least open labels do not undercut it
    pub decided : (greatest : ℤ) (best : Option (Meeting C)) → IsPair eq value fits edges previous start end keys others labels labels' (bound value greatest best) → (a b : ℤ) → IsLow (by_cost value) labels a → IsLow (by_cost value) labels' b
        → (r : Bool) → r ≡ true → MatchOption best (r ≡ false) (λ m. MatchBool r (value m.cost ≤ℤ (a +ℤ b)) ((a +ℤ b) <ℤ value m.cost)) → MatchOption best (NoWalkAcross eq value edges start end) (λ m. NoWalkAcrossBelow eq value edges start end (value m.cost))
    decided greatest None pair a b la lb r is told = absurd (true≢false (sym is ∙ told))
    decided greatest (Some m) pair a b la lb true is told = walks_low eq laws value fits edges previous start end keys others labels labels' (value m.cost) pair a b la lb told
    decided greatest (Some m) pair a b la lb false is told = absurd (true≢false (sym is))

  -- where they do, no cost up to theirs is that of the best meeting
  pub undecided : (greatest : ℤ) → ((z : ℤ) → fits z → z ≤ℤ greatest) → (best : Option (Meeting C)) (a b : ℤ) → pos 0 ≤ℤ b → (r : Bool) → r ≡ false → MatchOption best (r ≡ false) (λ m. MatchBool r (value m.cost ≤ℤ (a +ℤ b)) ((a +ℤ b) <ℤ value m.cost))
      → (z : ℤ) → fits z → bound value greatest best ≤ℤ z → z ≤ℤ a → ⊥
  undecided greatest top None a b low r is told z f less le = let t = top z f in omega (arith, ints, t, less)
  undecided greatest top (Some m) a b low true is told z f less le = absurd (true≢false is)
  undecided greatest top (Some m) a b low false is told z f less le = omega (arith, ints, told, less, le, low)

  module _ (edges previous : N → List (N × ℤ)) (start end : N) (keys others : List N) (labels labels' : Labels C) (t : ℤ) (pair : IsPair eq value fits edges previous start end keys others labels labels' t)
      (keys2 : List N) (grows : Grows (length keys) (length keys2) (StandsFor eq keys) (StandsFor eq keys2)) (distinct : IsDistinct eq keys2) (labels2 : Labels C) (search : IsSearch (by_cost value) (IsStep eq (from_one start edges)) (λ k. nat_eq k 0) (StandsFor eq keys2) labels2) (tree : IsTree labels2)
      (n : ℕ) (l : Label C) (turned : Turned n l labels labels2) (fit : fits (value l.cost)) where
    half2 : IsHalf eq value fits edges start keys2 labels2
    half2 = half_turned edges start keys labels pair.forth keys2 grows distinct labels2 search tree n l turned fit

    -- both sides after a turn of the first
    both_turned : length labels ≡ length keys → HasLabel labels n l → (t2 : ℤ) → t2 ≤ℤ t → NoneBelowAt eq value keys2 others labels2 labels' t2 n → IsPair eq value fits edges previous start end keys2 others labels2 labels' t2
    both_turned wide at t2 less none = pair_turned eq laws value fits edges previous start end keys others labels labels' t pair keys2 labels2 half2 grows wide n l at turned t2 less none

    meeting_turned : (m : Meeting C) → IsMeeting eq value keys others labels labels' m → IsMeeting eq value keys2 others labels2 labels' m
    meeting_turned m w = meeting_stays eq laws value fits edges start keys labels pair.forth keys2 labels2 half2 grows n l turned others labels' m w

  -- a meeting that is turned about
  bound_about : (greatest : ℤ) (o r : Option (Meeting C)) → MatchOption o (r ≡ None) (λ m. r ≡ Some (record { here = m.across; across = m.here; cost = m.cost })) → bound value greatest r ≡ bound value greatest o
  bound_about greatest None r e = ap (bound value greatest) e
  bound_about greatest (Some m) r e = ap (bound value greatest) e

  meets_about : (keys others : List N) (labels labels' : Labels C) (o r : Option (Meeting C)) → MatchOption o (r ≡ None) (λ m. r ≡ Some (record { here = m.across; across = m.here; cost = m.cost }))
      → IfSome o (IsMeeting eq value others keys labels' labels) → IfSome r (IsMeeting eq value keys others labels labels')
  meets_about keys others labels labels' None r e h = subst (λ (q : Option (Meeting C)). IfSome q (IsMeeting eq value keys others labels labels')) (sym e) tt
  meets_about keys others labels labels' (Some m) r e h = subst (λ (q : Option (Meeting C)). IfSome q (IsMeeting eq value keys others labels labels')) (sym e) (meeting_swap eq laws value fits others keys labels' labels m h)

  -- both sides and their best meeting after a turn of one of them, from the number n; before it, `least` was called on both
  module _ (edges previous : N → List (N × ℤ)) (start end : N) (keys others : List N) (labels labels' : Labels C) (greatest : ℤ) (best : Option (Meeting C)) (pair : IsPair eq value fits edges previous start end keys others labels labels' (bound value greatest best))
      (meets : IfSome best (IsMeeting eq value keys others labels labels')) (now now' labels2 : Labels C) (same : now ≡ labels) (same' : now' ≡ labels') (tree : IsTree labels2) (n : ℕ) (l : Label C) (cost : C) (fit : fits (value cost)) (chosen : Option (Meeting C)) (less : bound value greatest chosen ≤ℤ bound value greatest best) where
    pub turned_forth : (keys2 : List N) → Grows (length keys) (length keys2) (StandsFor eq keys) (StandsFor eq keys2) → IsDistinct eq keys2
        → (IsSearch (by_cost value) (IsStep eq (from_one start edges)) (λ k. nat_eq k 0) (StandsFor eq keys) now → IsSearch (by_cost value) (IsStep eq (from_one start edges)) (λ k. nat_eq k 0) (StandsFor eq keys2) labels2)
        → HasLabel labels n l → ((m : Label C) → HasLabel now n m → Turned n m now labels2) → ((m : Label C) → HasLabel now n m → cost ≡ m.cost) → length labels ≡ length keys
        → (found : Option (Meeting C)) → IfSome found (λ m. (m.here ≡ n) × IsMeeting eq value keys2 others labels2 now' m) → NoneBelowAt eq value keys2 others labels2 now' (bound value greatest found) n
        → (chosen ≡ best) ⊎ (chosen ≡ found) → bound value greatest chosen ≤ℤ bound value greatest found
        → IsPair eq value fits edges previous start end keys2 others labels2 now' (bound value greatest chosen) × IfSome chosen (IsMeeting eq value keys2 others labels2 now')
    turned_forth keys2 grows distinct search at turned costs wide found met none one low =
        let here : HasLabel now n l = subst (λ (a : Labels C). HasLabel a n l) (sym same) at in
        let t : Turned n l labels labels2 = subst (λ (a : Labels C). Turned n l a labels2) same (turned l here) in
        let f : fits (value l.cost) = subst (λ (x : C). fits (value x)) (costs l here) fit in
        let s = search (subst (λ (a : Labels C). IsSearch (by_cost value) (IsStep eq (from_one start edges)) (λ k. nat_eq k 0) (StandsFor eq keys) a) (sym same) (pair.forth).search) in
        let m = meeting_turned edges previous start end keys others labels labels' (bound value greatest best) pair keys2 grows distinct labels2 s tree n l t f in
        subst (λ (b : Labels C). IsPair eq value fits edges previous start end keys2 others labels2 b (bound value greatest chosen) × IfSome chosen (IsMeeting eq value keys2 others labels2 b)) (sym same') (
          both_turned edges previous start end keys others labels labels' (bound value greatest best) pair keys2 grows distinct labels2 s tree n l t f wide at (bound value greatest chosen) less
              (none_weaker eq value keys2 others labels2 labels' (bound value greatest found) (bound value greatest chosen) n low (subst (λ (b : Labels C). NoneBelowAt eq value keys2 others labels2 b (bound value greatest found) n) same' none)),
          some_one (IsMeeting eq value keys2 others labels2 labels') chosen best found one (some_map (IsMeeting eq value keys others labels labels') (IsMeeting eq value keys2 others labels2 labels') m best meets)
              (some_map (λ (q : Meeting C). (q.here ≡ n) × IsMeeting eq value keys2 others labels2 labels' q) (IsMeeting eq value keys2 others labels2 labels') (λ q h. h.1) found
              (subst (λ (b : Labels C). IfSome found (λ q. (q.here ≡ n) × IsMeeting eq value keys2 others labels2 b q)) same' met)),
        )

    pub turned_back : (others2 : List N) → Grows (length others) (length others2) (StandsFor eq others) (StandsFor eq others2) → IsDistinct eq others2
        → (IsSearch (by_cost value) (IsStep eq (from_one end previous)) (λ k. nat_eq k 0) (StandsFor eq others) now' → IsSearch (by_cost value) (IsStep eq (from_one end previous)) (λ k. nat_eq k 0) (StandsFor eq others2) labels2)
        → HasLabel labels' n l → ((m : Label C) → HasLabel now' n m → Turned n m now' labels2) → ((m : Label C) → HasLabel now' n m → cost ≡ m.cost) → length labels' ≡ length others
        → (found about : Option (Meeting C)) → MatchOption found (about ≡ None) (λ m. about ≡ Some (record { here = m.across; across = m.here; cost = m.cost }))
        → IfSome found (λ m. (m.here ≡ n) × IsMeeting eq value others2 keys labels2 now m) → NoneBelowAt eq value others2 keys labels2 now (bound value greatest found) n
        → (chosen ≡ best) ⊎ (chosen ≡ about) → bound value greatest chosen ≤ℤ bound value greatest about
        → IsPair eq value fits edges previous start end keys others2 now labels2 (bound value greatest chosen) × IfSome chosen (IsMeeting eq value keys others2 now labels2)
    turned_back others2 grows distinct search at turned costs wide found about is met none one low =
        let here : HasLabel now' n l = subst (λ (a : Labels C). HasLabel a n l) (sym same') at in
        let t : Turned n l labels' labels2 = subst (λ (a : Labels C). Turned n l a labels2) same' (turned l here) in
        let f : fits (value l.cost) = subst (λ (x : C). fits (value x)) (costs l here) fit in
        let s = search (subst (λ (a : Labels C). IsSearch (by_cost value) (IsStep eq (from_one end previous)) (λ k. nat_eq k 0) (StandsFor eq others) a) (sym same') (pair.back).search) in
        let swapped = pair_swap eq laws value fits edges previous start end keys others labels labels' (bound value greatest best) pair in
        let lower : bound value greatest chosen ≤ℤ bound value greatest found = subst (λ (z : ℤ). bound value greatest chosen ≤ℤ z) (bound_about greatest found about is) low in
        let turn = both_turned previous edges end start others keys labels' labels (bound value greatest best) swapped others2 grows distinct labels2 s tree n l t f wide at (bound value greatest chosen) less
        (none_weaker eq value others2 keys labels2 labels (bound value greatest found) (bound value greatest chosen) n lower (subst (λ (b : Labels C). NoneBelowAt eq value others2 keys labels2 b (bound value greatest found) n) same none)) in
        let m = meeting_turned previous edges end start others keys labels' labels (bound value greatest best) swapped others2 grows distinct labels2 s tree n l t f in
        subst (λ (a : Labels C). IsPair eq value fits edges previous start end keys others2 a labels2 (bound value greatest chosen) × IfSome chosen (IsMeeting eq value keys others2 a labels2)) (sym same) (
          pair_swap eq laws value fits previous edges end start others2 keys labels2 labels (bound value greatest chosen) turn,
          some_one (IsMeeting eq value keys others2 labels labels2) chosen best about one
              (some_map (IsMeeting eq value keys others labels labels') (IsMeeting eq value keys others2 labels labels2) (λ q h. meeting_swap eq laws value fits others2 keys labels2 labels _ (m _ (meeting_swap eq laws value fits keys others labels labels' q h))) best meets)
              (meets_about keys others2 labels labels2 found about is
              (some_map (λ (q : Meeting C). (q.here ≡ n) × IsMeeting eq value others2 keys labels2 labels q) (IsMeeting eq value others2 keys labels2 labels) (λ q h. h.1) found
              (subst (λ (b : Labels C). IfSome found (λ q. (q.here ≡ n) × IsMeeting eq value others2 keys labels2 b q)) same met))),
        )

  -- one side before its first turn: the start alone has a label
  module _ (edges : N → List (N × ℤ)) (start : N) (keys : List N) (labels : Labels C) (first : Label C) (opened : first.settled ≡ false) (only : (k : ℕ) (l : Label C) → HasLabel labels k l → (k ≡ 0) × (l ≡ first)) where
    unsettled : (k : ℕ) (l : Label C) → HasLabel labels k l → l.settled ≡ true → ⊥
    unsettled k l h s = true≢false (sym s ∙ ap (λ (m : Label C). m.settled) (only k l h).1 ∙ opened)

    pub half_begun : HasNoNegativeCost eq edges (start ∷ []) → ((x y : N) → InReach eq edges (start ∷ []) x → eq x y ≡ true → ListsEdges eq (λ z. z) (edges x) (edges y)) → IsDistinct eq keys → ((x : N) → StandsFor eq keys 0 x ↔ (eq start x ≡ true))
        → HasLabel labels 0 first → first.depth ≡ 0 → value first.cost ≡ pos 0 → IsTree labels → IsHalf eq value fits edges start keys labels
    half_begun costs alike distinct begins there flat nothing tree = record {
      costs = costs;
      alike = alike;
      one = StandsFor-one eq laws keys distinct;
      begins = begins;
      search = start_alone 0 value (IsStep eq (from_one start edges)) (StandsFor eq keys) (start, (begins start).1 (laws.refl start)) labels first there only opened flat nothing;
      tree = tree;
      fit = λ k l h s. absurd (unsettled k l h s);
    }

  pub pair_begun : (edges previous : N → List (N × ℤ)) (start end : N) (keys others : List N) (labels labels' : Labels C) (t : ℤ) (first : Label C) → first.settled ≡ false → ((k : ℕ) (l : Label C) → HasLabel labels k l → (k ≡ 0) × (l ≡ first)) → ((k : ℕ) (l : Label C) → HasLabel labels' k l → (k ≡ 0) × (l ≡ first))
      → IsHalf eq value fits edges start keys labels → IsHalf eq value fits previous end others labels' → IsCostMirror eq edges previous start end → IsPair eq value fits edges previous start end keys others labels labels' t
  pair_begun edges previous start end keys others labels labels' t first opened only only' half half' mirror = record {
    forth = half;
    back = half';
    mirror = mirror;
    seen = λ j k l m x a b d e either. elim either as (λ _. t ≤ℤ (value l.cost +ℤ value m.cost)) [
      | inl s ↦ absurd (unsettled edges start keys labels first opened only j l d s)
      | inr s ↦ absurd (unsettled previous end others labels' first opened only' k m e s)
    ];
  }

  -- both sides before their first turns
  pub ends_begun : (edges previous : N → List (N × ℤ)) (start end : N) (keys others : List N) (labels labels' : Labels C) (t : ℤ) (first : Label C) → first.settled ≡ false → first.depth ≡ 0 → value first.cost ≡ pos 0
      → ((x y : N) → InReach eq edges (start ∷ []) x → eq x y ≡ true → ListsEdges eq (λ z. z) (edges x) (edges y)) → ((x y : N) → InReach eq previous (end ∷ []) x → eq x y ≡ true → ListsEdges eq (λ z. z) (previous x) (previous y)) → IsDistinct eq keys → IsDistinct eq others
      → HasLabel labels 0 first → HasLabel labels' 0 first → ((k : ℕ) (l : Label C) → HasLabel labels k l → (k ≡ 0) × (l ≡ first)) → ((k : ℕ) (l : Label C) → HasLabel labels' k l → (k ≡ 0) × (l ≡ first)) → IsTree labels → IsTree labels'
      → AreEnds eq edges previous start end keys others → IsPair eq value fits edges previous start end keys others labels labels' t
  ends_begun edges previous start end keys others labels labels' t first opened flat nothing alike alike' distinct distinct' there there' only only' tree tree' ends =
      let half = half_begun edges start keys labels first opened only ends.costs alike distinct ends.begins there flat nothing tree in
      let half' = half_begun previous end others labels' first opened only' ends.costs_back alike' distinct' ends.begins_back there' flat nothing tree' in
      pair_begun edges previous start end keys others labels labels' t first opened only only' half half' ends.mirror
