-- The tree paths of a depth-first search over numbers and over the names that they stand for.
use Rattle.std.proofs.Common.{◌≡◌, inl, inr, ℕ, nat_eq, refl, sym, subst, ap, ◌∙◌, arith, Bool, List, [], ◌∷◌, ◌++◌, map}
use Rattle.std.specs.Prelude.{Contains}
use Rattle.std.specs.Cmp.{IsEquivalence}
use Rattle.std.specs.List.{AllZip}
use Rattle.std.proofs.lemmas.List.{map-append}
use Rattle.pf_base.specs.Answers.{SameNodes}
use Rattle.pf_base.specs.Orders.{GoesOnInPreorder, IsNextPath, IsNextTreePath, IsPreorder, last_nodes}
use Rattle.pf_base.specs.Walks.{HasNode, NoRepeats, end_of}
use Rattle.pf_base.specs.Successors.{HasSuccessor}
use Rattle.pf_base.proofs.ListLemmas.{Contains-cases, Contains-head, Contains-tail}
use Rattle.pf_edge_lists.proofs.NameWalks.{IsCarried, Stands, carried_next, node_back, node_out, same_name, test_stands}
use Rattle.pf_name_numbers.proofs.NameReach.{Zip, stands_same}
use Rattle.pf_search.specs.Preorder.{IsFirstTreePath}
use borrow.Author.Tests.{eqb-true}

module _ {N : Type 0} {eq : N → N → Bool} (laws : IsEquivalence eq) (names : List N) (distinct : NoRepeats eq names) (nextM : ℕ → List ℕ) (nextN : N → List N) (alike : (a : ℕ) (x : N) → Stands laws names a x → AllZip (Stands laws names) (nextM a) (nextN x))
    (name : ℕ → N) (named : (k : ℕ) (x : N) → Stands laws names k x → Stands laws names k (name k)) where
  pub carried : IsCarried laws names (HasSuccessor nat_eq nextM) (HasSuccessor eq nextN)
  carried = carried_next laws names distinct nextM nextN alike

  -- each number of the list stands for a name
  abbrev pub AllStand : List ℕ → Type 0
  AllStand ks = (k : ℕ) → Contains ks k → Stands laws names k (name k)

  pub zip_of : (ks : List ℕ) → AllStand ks → Zip laws names distinct ks (map name ks)
  zip_of [] all = tt
  zip_of (k ∷ ks) all = (all k (Contains-head ks k), zip_of ks (λ j c. all j (Contains-tail ks k j c)))

  stand_left : (xs ys : List ℕ) → AllStand (xs ++ ys) → AllStand xs
  stand_left [] ys all k c = absurd (omega (arith, c.1))
  stand_left (x ∷ xs) ys all k c = elim (Contains-cases xs x k c) as (λ _. Stands laws names k (name k)) [
    | inl e ↦ subst (λ (n : ℕ). Stands laws names n (name n)) e (all x (Contains-head (xs ++ ys) x))
    | inr i ↦ stand_left xs ys (λ j d. all j (Contains-tail (xs ++ ys) x j d)) k i
  ]

  stand_right : (xs ys : List ℕ) → AllStand (xs ++ ys) → AllStand ys
  stand_right [] ys all = all
  stand_right (x ∷ xs) ys all = stand_right xs ys (λ j d. all j (Contains-tail (xs ++ ys) x j d))

  pub stand_both : (xs ys : List ℕ) → AllStand xs → AllStand ys → AllStand (xs ++ ys)
  stand_both [] ys a b k c = b k c
  stand_both (x ∷ xs) ys a b k c = elim (Contains-cases (xs ++ ys) x k c) as (λ _. Stands laws names k (name k)) [
    | inl e ↦ subst (λ (n : ℕ). Stands laws names n (name n)) e (a x (Contains-head xs x))
    | inr i ↦ stand_both xs ys (λ j d. a j (Contains-tail xs x j d)) b k i
  ]

  stand_one : (k : ℕ) → Stands laws names k (name k) → AllStand (k ∷ [])
  stand_one k s j c = elim (Contains-cases [] k j c) as (λ _. Stands laws names j (name j)) [
    | inl e ↦ subst (λ (n : ℕ). Stands laws names n (name n)) e s
    | inr i ↦ absurd (omega (arith, i.1))
  ]

  -- what stands in the names of numbers
  pub of_mapped : (ks : List ℕ) (x : N) → Contains (map name ks) x → (k : ℕ) × Contains ks k × (name k ≡ x)
  of_mapped [] x c = absurd (omega (arith, c.1))
  of_mapped (k ∷ ks) x c = elim (Contains-cases (map name ks) (name k) x c) as (λ _. (j : ℕ) × Contains (k ∷ ks) j × (name j ≡ x)) [
    | inl e ↦ (k, Contains-head ks k, e)
    | inr i ↦ let r = of_mapped ks x i in (r.0, Contains-tail ks k r.0 r.1, r.2)
  ]

  -- the parts of lists whose nodes stand for one another
  pub record SplitZip (before after : List ℕ) (first : ℕ) (ys : List N) : Type 0 where
    pub beforeN : List N
    pub firstN : N
    pub afterN : List N
    pub is : ys ≡ beforeN ++ firstN ∷ afterN
    pub zip : Zip laws names distinct before beforeN
    pub here : Stands laws names first firstN

  split_zip : (before after : List ℕ) (first : ℕ) (ys : List N) → Zip laws names distinct (before ++ first ∷ after) ys → SplitZip before after first ys
  split_zip [] after first [] z = absurd z
  split_zip [] after first (y ∷ ys) z = record { beforeN = []; firstN = y; afterN = ys; is = refl; zip = tt; here = z.0 }
  split_zip (b ∷ before) after first [] z = absurd z
  split_zip (b ∷ before) after first (y ∷ ys) z =
      let r = split_zip before after first ys z.1 in
      record { beforeN = y ∷ r.beforeN; firstN = r.firstN; afterN = r.afterN; is = ap (λ v. y ∷ v) r.is; zip = (z.0, r.zip); here = r.here }

  pub last_mapped : (paths : List (List ℕ)) → last_nodes (map (map name) paths) ≡ map name (last_nodes paths)
  last_mapped [] = refl
  last_mapped ([] ∷ paths) = last_mapped paths
  last_mapped ((x ∷ w) ∷ paths) = ap (λ y. y ∷ last_nodes (map (map name) paths)) (end_mapped x w) ∙ ap (λ v. name (end_of x w) ∷ v) (last_mapped paths)
    where
      end_mapped : (a : ℕ) (u : List ℕ) → end_of (name a) (map name u) ≡ name (end_of a u)
      end_mapped a [] = refl
      end_mapped a (b ∷ u) = end_mapped b u

  -- what follows a name of numbers that were passed was given
  pub given_out : (given : List ℕ) → AllStand given → (k : ℕ) → Stands laws names k (name k) → ((j : ℕ) → HasNode nat_eq (nextM k) j → HasNode nat_eq given j) → (y : N) → HasNode eq (nextN (name k)) y → HasNode eq (map name given) y
  given_out given all k s h y n =
      let j = carried.numbered k (name k) y s n in
      node_out laws names distinct given (map name given) j.0 y (zip_of given all) j.1 (h j.0 (carried.back k j.0 (name k) y s j.1 n))

  module _ (given path path' : List ℕ) (all : AllStand given) (on : AllStand path) (n : IsNextPath nat_eq nextM given path path') where
    parts_stand : AllStand (n.front ++ n.here ∷ n.back)
    parts_stand = subst AllStand n.from on

    here_stands : Stands laws names n.here (name n.here)
    here_stands = stand_right n.front (n.here ∷ n.back) parts_stand n.here (Contains-head n.back n.here)

    split : SplitZip n.before n.after n.first (nextN (name n.here))
    split = split_zip n.before n.after n.first (nextN (name n.here)) (subst (λ ks. Zip laws names distinct ks (nextN (name n.here))) n.answer (alike n.here (name n.here) here_stands))

    next_is : n.first ≡ n.next
    next_is = eqb-true n.first n.next n.same

    next_stands : Stands laws names n.next (name n.next)
    next_stands = named n.next split.firstN (subst (λ (k : ℕ). Stands laws names k split.firstN) next_is split.here)

    pub path_stands : AllStand path'
    path_stands = subst AllStand (sym n.to) (stand_both n.front (n.here ∷ n.next ∷ []) (stand_left n.front (n.here ∷ n.back) parts_stand)
        (stand_both (n.here ∷ []) (n.next ∷ []) (stand_one n.here here_stands) (stand_one n.next next_stands)))

    pub next_path_out : IsNextPath eq nextN (map name given) (map name path) (map name path')
    next_path_out = record {
      front = map name n.front;
      here = name n.here;
      back = map name n.back;
      next = name n.next;
      from = ap (map name) n.from ∙ map-append name n.front (n.here ∷ n.back);
      to = ap (map name) n.to ∙ map-append name n.front (n.here ∷ n.next ∷ []);
      passed = λ x c y h.
          let k = of_mapped n.back x c in
          let s = stand_right n.front (n.here ∷ n.back) parts_stand k.0 (Contains-tail n.back n.here k.0 k.1) in
          given_out given all k.0 s (n.passed k.0 k.1) y (subst (λ z. HasNode eq (nextN z) y) (sym k.2) h);
      before = split.beforeN;
      first = split.firstN;
      after = split.afterN;
      answer = split.is;
      same = same_name laws names n.next split.firstN (name n.next) (subst (λ (k : ℕ). Stands laws names k split.firstN) next_is split.here) next_stands;
      earlier = λ y h.
          let j = numbered_in n.before split.beforeN y split.zip h in
          node_out laws names distinct given (map name given) j.0 y (zip_of given all) j.1 (n.earlier j.0 (node_back laws names distinct n.before split.beforeN j.0 y split.zip j.1 h));
      new = λ h. n.new (node_back laws names distinct given (map name given) n.next (name n.next) (zip_of given all) next_stands h);
    }
      where
        numbered_in : (w : List ℕ) (v : List N) (y : N) → Zip laws names distinct w v → HasNode eq v y → (k : ℕ) × Stands laws names k y
        numbered_in w [] y z h = absurd h
        numbered_in [] (x ∷ v) y z h = absurd z
        numbered_in (j ∷ w) (x ∷ v) y z (inl e) = (j, stands_same laws names distinct j x y z.0 e)
        numbered_in (j ∷ w) (x ∷ v) y z (inr h) = numbered_in w v y z.1 h

  module _ (start : ℕ) (from : N) (begins : Stands laws names start from) (is_from : name start ≡ from) where
    start_stands : AllStand (start ∷ [])
    start_stands = stand_one start (named start from begins)

    pub tree_stands : (given path path' : List ℕ) → AllStand given → AllStand path → IsNextTreePath nat_eq nextM start given path path' → AllStand path'
    tree_stands given [] path' all on n = subst AllStand (sym n) start_stands
    tree_stands given (x ∷ w) path' all on n = path_stands given (x ∷ w) path' all on n

    pub tree_out : (given path path' : List ℕ) → AllStand given → AllStand path → IsNextTreePath nat_eq nextM start given path path' → IsNextTreePath eq nextN from (map name given) (map name path) (map name path')
    tree_out given [] path' all on n = ap (map name) n ∙ ap (λ x. x ∷ []) is_from
    tree_out given (x ∷ w) path' all on n = next_path_out given (x ∷ w) path' all on n

    pub last_stands : (path : List ℕ) → AllStand path → AllStand (last_nodes (path ∷ []))
    last_stands [] on k c = absurd (omega (arith, c.1))
    last_stands (x ∷ w) on k c = stand_one (end_of x w) (on (end_of x w) (end_in x w)) k c
      where
        end_in : (a : ℕ) (u : List ℕ) → Contains (a ∷ u) (end_of a u)
        end_in a [] = Contains-head [] a
        end_in a (b ∷ u) = Contains-tail (b ∷ u) a (end_of b u) (end_in b u)

    pub preorder_out : (given path : List ℕ) (paths : List (List ℕ)) → AllStand given → AllStand path → GoesOnInPreorder nat_eq nextM start given path paths → GoesOnInPreorder eq nextN from (map name given) (map name path) (map (map name) paths)
    preorder_out given path [] all on h = tt
    preorder_out given path (next ∷ paths) all on h =
        let stands = tree_stands given path next all on h.0 in
        let rest = preorder_out (given ++ last_nodes (next ∷ [])) next paths (stand_both given (last_nodes (next ∷ [])) all (last_stands next stands)) stands h.1 in (
          tree_out given path next all on h.0,
          subst (λ ks. GoesOnInPreorder eq nextN from ks (map name next) (map (map name) paths)) (map-append name given (last_nodes (next ∷ [])) ∙ ap (λ v. map name given ++ v) (sym (last_mapped (next ∷ [])))) rest,
        )

    -- the last of the paths stands for names
    behind_stands : (given path : List ℕ) (earlier : List (List ℕ)) (tree : List ℕ) → AllStand given → AllStand path → GoesOnInPreorder nat_eq nextM start given path (earlier ++ tree ∷ []) → AllStand tree × ((k : ℕ) → Contains (last_nodes earlier) k → Stands laws names k (name k))
    behind_stands given path [] tree all on h = (tree_stands given path tree all on h.0, λ k c. absurd (omega (arith, c.1)))
    behind_stands given path (next ∷ earlier) tree all on h =
        let stands = tree_stands given path next all on h.0 in
        let last = last_stands next stands in
        let rest = behind_stands (given ++ last_nodes (next ∷ [])) next earlier tree (stand_both given (last_nodes (next ∷ [])) all last) stands h.1 in
        (rest.0, λ k c. stand_both (last_nodes (next ∷ [])) (last_nodes earlier) last rest.1 k (subst (λ ks. Contains ks k) (joined next earlier) c))
      where
        joined : (p : List ℕ) (ps : List (List ℕ)) → last_nodes (p ∷ ps) ≡ last_nodes (p ∷ []) ++ last_nodes ps
        joined [] ps = refl
        joined (x ∷ w) ps = refl

    module _ (testM : ℕ → Bool) (testN : N → Bool) (tests : (k : ℕ) (x : N) → Stands laws names k x → testM k ≡ testN x) where
      -- the names of a first tree path
      pub first_out : (w : List ℕ) (v : List N) → Zip laws names distinct w v → IsFirstTreePath nat_eq nextM start testM w → IsFirstTreePath eq nextN from testN v
      first_out w v z f =
          let both = behind_stands [] [] f.earlier f.tree (λ k c. absurd (omega (arith, c.1))) (λ k c. absurd (omega (arith, c.1))) f.preorder in
          record {
            earlier = map (map name) f.earlier;
            tree = map name f.tree;
            preorder = subst (IsPreorder eq nextN from) (map-append (map name) f.earlier (f.tree ∷ [])) (preorder_out [] [] (f.earlier ++ f.tree ∷ []) (λ k c. absurd (omega (arith, c.1))) (λ k c. absurd (omega (arith, c.1))) f.preorder);
            same = same f.tree w v both.0 z f.same;
            fails = λ x c.
                let k = of_mapped (last_nodes f.earlier) x (subst (λ ks. Contains ks x) (last_mapped f.earlier) c) in
                ap testN (sym k.2) ∙ sym (tests k.0 (name k.0) (both.1 k.0 k.1)) ∙ f.fails k.0 k.1;
          }
        where
          same : (t u : List ℕ) (x : List N) → AllStand t → Zip laws names distinct u x → SameNodes nat_eq t u → SameNodes eq (map name t) x
          same [] [] [] on y h = tt
          same [] [] (b ∷ x) on y h = absurd y
          same [] (k ∷ u) x on y h = absurd h
          same (j ∷ t) [] x on y h = absurd h
          same (j ∷ t) (k ∷ u) [] on y h = absurd y
          same (j ∷ t) (k ∷ u) (b ∷ x) on y h = (
            sym (test_stands laws names distinct k b y.0 j (name j) (on j (Contains-head t j))) ∙ h.0,
            same t u x (λ i c. on i (Contains-tail t j i c)) y.1 h.1,
          )
