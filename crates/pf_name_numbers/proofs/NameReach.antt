-- Reach and loops over numbers and over the names that they stand for.
use Rattle.std.proofs.Common.{true, ◌≡◌, inl, inr, ℕ, nat_eq, eq-eqb, refl, sym, subst, ◌∙◌, Bool, List, [], ◌∷◌}
use Rattle.std.specs.Cmp.{IsEquivalence}
use Rattle.std.specs.List.{AllZip}
use Rattle.pf_base.specs.Answers.{SameNodes}
use Rattle.pf_base.specs.Walks.{HasNode, NoRepeats, IsGoalWalk, IsReachable, end_of}
use Rattle.pf_core.proofs.NodeLemmas.{StandsFor-same}
use Rattle.pf_edge_lists.proofs.NameWalks.{IsCarried, Stands, end_stands, follows_back, follows_named, follows_out, node_back, node_out, test_stands}
use borrow.Author.Tests.{eqb-true}

module _ {N : Type 0} {eq : N → N → Bool} (laws : IsEquivalence eq) (names : List N) (distinct : NoRepeats eq names) where
  abbrev pub Zip : List ℕ → List N → Type 0
  Zip = AllZip (Stands laws names)

  -- numbers do not repeat where their names do not
  pub repeats_back : (w : List ℕ) (v : List N) → Zip w v → NoRepeats eq v → NoRepeats nat_eq w
  repeats_back [] [] z n = tt
  repeats_back [] (y ∷ v) z n = absurd z
  repeats_back (j ∷ w) [] z n = absurd z
  repeats_back (j ∷ w) (y ∷ v) z n = ((λ h. n.0 (node_out laws names distinct w v j y z.1 z.0 h)), repeats_back w v z.1 n.1)

  -- paths are the same where their names are
  pub same_out : (w u : List ℕ) (v x : List N) → Zip w v → Zip u x → SameNodes nat_eq w u → SameNodes eq v x
  same_out [] [] [] [] z y h = tt
  same_out [] [] [] (b ∷ x) z y h = absurd y
  same_out [] [] (a ∷ v) x z y h = absurd z
  same_out [] (k ∷ u) v x z y h = absurd h
  same_out (j ∷ w) [] v x z y h = absurd h
  same_out (j ∷ w) (k ∷ u) [] x z y h = absurd z
  same_out (j ∷ w) (k ∷ u) (a ∷ v) [] z y h = absurd y
  same_out (j ∷ w) (k ∷ u) (a ∷ v) (b ∷ x) z y h = (sym (test_stands laws names distinct k b y.0 j a z.0) ∙ h.0, same_out w u v x z.1 y.1 h.1)

  pub same_back : (w u : List ℕ) (v x : List N) → Zip w v → Zip u x → SameNodes eq v x → SameNodes nat_eq w u
  same_back [] [] v x z y h = tt
  same_back [] (k ∷ u) [] [] z y h = absurd y
  same_back [] (k ∷ u) [] (b ∷ x) z y h = absurd h
  same_back [] (k ∷ u) (a ∷ v) x z y h = absurd z
  same_back (j ∷ w) u [] x z y h = absurd z
  same_back (j ∷ w) u (a ∷ v) [] z y h = absurd h
  same_back (j ∷ w) [] (a ∷ v) (b ∷ x) z y h = absurd y
  same_back (j ∷ w) (k ∷ u) (a ∷ v) (b ∷ x) z y h = (test_stands laws names distinct k b y.0 j a z.0 ∙ h.0, same_back w u v x z.1 y.1 h.1)

  -- a number stands for equal names
  pub stands_same : (k : ℕ) (x y : N) → Stands laws names k x → eq x y ≡ true → Stands laws names k y
  stands_same k x y = StandsFor-same eq laws names k x y

  -- the starts of one are the names of the starts of the other
  pub record SameStarts (startsM : List ℕ) (startsN : List N) : Type 0 where
    pub out : (a : ℕ) (x : N) → Stands laws names a x → HasNode nat_eq startsM a → HasNode eq startsN x
    pub back : (x : N) → HasNode eq startsN x → (a : ℕ) × Stands laws names a x × HasNode nat_eq startsM a
    pub inside : (a : ℕ) (x : N) → Stands laws names a x → HasNode eq startsN x → HasNode nat_eq startsM a
    pub named : (a : ℕ) → HasNode nat_eq startsM a → (x : N) × Stands laws names a x

  pub one_start : (a : ℕ) (x : N) → Stands laws names a x → SameStarts (a ∷ []) (x ∷ [])
  one_start a x s = record {
    out = λ b y t h. node_out laws names distinct (a ∷ []) (x ∷ []) b y (s, tt) t h;
    back = λ y h. elim h as (λ _. (b : ℕ) × Stands laws names b y × HasNode nat_eq (a ∷ []) b) [
      | inl e ↦ (a, StandsFor-same eq laws names a x y s e, inl (eq-eqb a a refl))
      | inr n ↦ absurd n
    ];
    inside = λ b y t h. node_back laws names distinct (a ∷ []) (x ∷ []) b y (s, tt) t h;
    named = λ b h. elim h as (λ _. (y : N) × Stands laws names b y) [
      | inl e ↦ (x, subst (λ (n : ℕ). Stands laws names n x) (eqb-true a b e) s)
      | inr n ↦ absurd n
    ];
  }

  -- names for all of these numbers
  pub zip_all : (w : List ℕ) → ((k : ℕ) → HasNode nat_eq w k → (x : N) × Stands laws names k x) → (v : List N) × Zip w v
  zip_all [] h = ([], tt)
  zip_all (k ∷ w) h =
      let x = h k (inl (eq-eqb k k refl)) in
      let r = zip_all w (λ j n. h j (inr n)) in
      (x.0 ∷ r.0, (x.1, r.1))

  -- the number of a name of the list is in the list of numbers
  pub node_numbered : (w : List ℕ) (v : List N) (x : N) → Zip w v → HasNode eq v x → (k : ℕ) × Stands laws names k x × HasNode nat_eq w k
  node_numbered [] [] x z h = absurd h
  node_numbered [] (y ∷ v) x z h = absurd z
  node_numbered (j ∷ w) [] x z h = absurd z
  node_numbered (j ∷ w) (y ∷ v) x z (inl e) = (j, StandsFor-same eq laws names j y x z.0 e, inl (eq-eqb j j refl))
  node_numbered (j ∷ w) (y ∷ v) x z (inr h) = let r = node_numbered w v x z.1 h in (r.0, r.1, inr r.2)

  module _ (stepM : ℕ → ℕ → Type 0) (stepN : N → N → Type 0) (c : IsCarried laws names stepM stepN) (startsM : List ℕ) (startsN : List N) (begin : SameStarts startsM startsN) where
    pub walk_named : (testM : ℕ → Bool) (w : List ℕ) → IsGoalWalk nat_eq stepM startsM testM w → (v : List N) × Zip w v
    walk_named testM [] g = absurd g.walks
    walk_named testM (a ∷ w) g =
        let x = begin.named a g.begins in
        let r = follows_named laws names distinct stepM stepN c a x.0 w x.1 g.walks in
        (x.0 ∷ r.0, (x.1, r.1))

    module _ (testM : ℕ → Bool) (testN : N → Bool) (tests : (k : ℕ) (x : N) → Stands laws names k x → testM k ≡ testN x) where
      pub walk_out : (w : List ℕ) (v : List N) → Zip w v → IsGoalWalk nat_eq stepM startsM testM w → IsGoalWalk eq stepN startsN testN v
      walk_out [] v z g = absurd g.walks
      walk_out (a ∷ w) [] z g = absurd z
      walk_out (a ∷ w) (x ∷ v) z g = record {
        walks = follows_out laws names distinct stepM stepN c a x w v z.0 z.1 g.walks;
        begins = begin.out a x z.0 g.begins;
        ends = sym (tests (end_of a w) (end_of x v) (end_stands laws names a x w v z.0 z.1)) ∙ g.ends;
      }

      pub walk_back : (v : List N) → IsGoalWalk eq stepN startsN testN v → (w : List ℕ) × Zip w v × IsGoalWalk nat_eq stepM startsM testM w
      walk_back [] g = absurd g.walks
      walk_back (x ∷ v) g =
          let a = begin.back x g.begins in
          let r = follows_back laws names distinct stepM stepN c a.0 x v a.1 g.walks in (
            a.0 ∷ r.0,
            (a.1, r.1),
            record {
              walks = r.2;
              begins = a.2;
              ends = tests (end_of a.0 r.0) (end_of x v) (end_stands laws names a.0 x r.0 v a.1 r.1) ∙ g.ends;
            },
          )

    -- what is in reach stands for what is in reach
    pub reach_named : (k : ℕ) → IsReachable nat_eq stepM startsM k → (x : N) × Stands laws names k x
    reach_named k r = by r.walk r.goes
      where
        by : (w : List ℕ) → IsGoalWalk nat_eq stepM startsM (λ y. nat_eq y k) w → (x : N) × Stands laws names k x
        by [] g = absurd g.walks
        by (a ∷ w) g =
            let x = begin.named a g.begins in
            let v = follows_named laws names distinct stepM stepN c a x.0 w x.1 g.walks in
            (end_of x.0 v.0, subst (λ (n : ℕ). Stands laws names n (end_of x.0 v.0)) (eqb-true (end_of a w) k g.ends) (end_stands laws names a x.0 w v.0 x.1 v.1))

    module _ (k : ℕ) (x : N) (s : Stands laws names k x) where
      pub reach_out : IsReachable nat_eq stepM startsM k → IsReachable eq stepN startsN x
      reach_out r =
          let v = walk_named (λ y. nat_eq y k) r.walk r.goes in
          record { walk = v.0; goes = walk_out (λ y. nat_eq y k) (λ y. eq y x) (test_stands laws names distinct k x s) r.walk v.0 v.1 r.goes }

      pub reach_back : IsReachable eq stepN startsN x → IsReachable nat_eq stepM startsM k
      reach_back r =
          let w = walk_back (λ y. nat_eq y k) (λ y. eq y x) (test_stands laws names distinct k x s) r.walk r.goes in
          record { walk = w.0; goes = w.2 }

    pub reach_numbered : (x : N) → IsReachable eq stepN startsN x → (k : ℕ) × Stands laws names k x
    reach_numbered x r = by r.walk r.goes
      where
        by : (v : List N) → IsGoalWalk eq stepN startsN (λ y. eq y x) v → (k : ℕ) × Stands laws names k x
        by [] g = absurd g.walks
        by (y ∷ v) g =
            let a = begin.back y g.begins in
            let w = follows_back laws names distinct stepM stepN c a.0 y v a.1 g.walks in
            (end_of a.0 w.0, StandsFor-same eq laws names (end_of a.0 w.0) (end_of y v) x (end_stands laws names a.0 y w.0 v a.1 w.1) g.ends)
