-- Walks in preorder over the numbers of a list and over its names.
use Rattle.std.proofs.Common.{◌≡◌, inl, inr, ℕ, nat_eq, refl, sym, subst, arith, Bool, List, [], ◌∷◌, ◌++◌, map}
use Rattle.std.specs.Prelude.{Contains}
use Rattle.std.specs.Cmp.{IsEquivalence}
use Rattle.pf_base.specs.Orders.{GoesOnInPreorder, IsLastPath, IsPreorder, IsWholePreorder, last_nodes}
use Rattle.pf_base.specs.Walks.{HasNode, NoRepeats, end_of}
use Rattle.pf_base.proofs.ListLemmas.{Contains-cases, Contains-head, Contains-tail}
use Rattle.pf_edge_lists.proofs.NameWalks.{Stands, node_back}
use Rattle.pf_name_numbers.proofs.NameReach.{Zip}
use Rattle.pf_name_searches.proofs.TreeNames.{AllStand, carried, given_out, last_mapped, last_stands, of_mapped, stand_both, tree_stands, zip_of}

module _ {N : Type 0} {eq : N → N → Bool} (laws : IsEquivalence eq) (names : List N) (distinct : NoRepeats eq names) (nextM : ℕ → List ℕ) (nextN : N → List N) (alike : (a : ℕ) (x : N) → Stands laws names a x → Zip laws names distinct (nextM a) (nextN x))
    (name : ℕ → N) (named : (k : ℕ) (x : N) → Stands laws names k x → Stands laws names k (name k)) where
  abbrev All : List ℕ → Type 0
  All = AllStand laws names distinct nextM nextN alike name named

  in_mapped : (ks : List ℕ) (k : ℕ) → Contains ks k → Contains (map name ks) (name k)
  in_mapped [] k c = absurd (omega (arith, c.1))
  in_mapped (j ∷ ks) k c = elim (Contains-cases ks j k c) as (λ _. Contains (map name (j ∷ ks)) (name k)) [
    | inl e ↦ subst (λ (i : ℕ). Contains (map name (j ∷ ks)) (name i)) e (Contains-head (map name ks) (name j))
    | inr i ↦ Contains-tail (map name ks) (name j) (name k) (in_mapped ks k i)
  ]

  -- a last path of numbers is one of names, and back
  module _ (given path : List ℕ) (all : All given) (on : All path) where
    last_out : IsLastPath nat_eq nextM given path → IsLastPath eq nextN (map name given) (map name path)
    last_out l x c y h =
        let k = of_mapped laws names distinct nextM nextN alike name named path x c in
        given_out laws names distinct nextM nextN alike name named given all k.0 (on k.0 k.1) (l k.0 k.1) y (subst (λ z. HasNode eq (nextN z) y) (sym k.2) h)

    last_back : IsLastPath eq nextN (map name given) (map name path) → IsLastPath nat_eq nextM given path
    last_back l k c j h =
        let s = on k c in
        let y = (carried laws names distinct nextM nextN alike name named).named k j (name k) s h in
        let n = (carried laws names distinct nextM nextN alike name named).out k j (name k) y.0 s y.1 h in
        node_back laws names distinct given (map name given) j y.0 (zip_of laws names distinct nextM nextN alike name named given all) y.1 (l (name k) (in_mapped path k c) y.0 n)

  pub end_mapped : (path : List ℕ) (paths : List (List ℕ)) → end_of (map name path) (map (map name) paths) ≡ map name (end_of path paths)
  end_mapped path [] = refl
  end_mapped path (next ∷ paths) = end_mapped next paths

  module _ (start : ℕ) (from : N) (begins : Stands laws names start from) (is_from : name start ≡ from) where
    -- the nodes of tree paths stand for names
    pub paths_stand : (given path : List ℕ) (paths : List (List ℕ)) → All given → All path → GoesOnInPreorder nat_eq nextM start given path paths → All (last_nodes paths) × All (end_of path paths)
    paths_stand given path [] all on h = (λ k c. absurd (omega (arith, c.1)), on)
    paths_stand given path (next ∷ paths) all on h =
        let stands = tree_stands laws names distinct nextM nextN alike name named start from begins is_from given path next all on h.0 in
        let last = last_stands laws names distinct nextM nextN alike name named start from begins is_from next stands in
        let rest = paths_stand (given ++ last_nodes (next ∷ [])) next paths (stand_both laws names distinct nextM nextN alike name named given (last_nodes (next ∷ [])) all last) stands h.1 in
        (λ k c. stand_both laws names distinct nextM nextN alike name named (last_nodes (next ∷ [])) (last_nodes paths) last rest.0 k (subst (λ ks. Contains ks k) (joined next paths) c), rest.1)
      where
        joined : (p : List ℕ) (ps : List (List ℕ)) → last_nodes (p ∷ ps) ≡ last_nodes (p ∷ []) ++ last_nodes ps
        joined [] ps = refl
        joined (x ∷ w) ps = refl

    none_stand : All []
    none_stand k c = absurd (omega (arith, c.1))

    module _ (paths : List (List ℕ)) (h : IsPreorder nat_eq nextM start paths) where
      pub lasts_stand : All (last_nodes paths)
      lasts_stand = (paths_stand [] [] paths none_stand none_stand h).0

      pub end_stand : All (end_of [] paths)
      end_stand = (paths_stand [] [] paths none_stand none_stand h).1

    -- a whole preorder of numbers is one of names, and back
    pub whole_out : (paths : List (List ℕ)) → IsPreorder nat_eq nextM start paths → IsWholePreorder nat_eq nextM paths → IsWholePreorder eq nextN (map (map name) paths)
    whole_out [] h w = w
    whole_out (path ∷ paths) h w =
        subst (λ gs. IsLastPath eq nextN gs (end_of (map name path) (map (map name) paths))) (sym (last_mapped laws names distinct nextM nextN alike name named (path ∷ paths)))
        (subst (IsLastPath eq nextN (map name (last_nodes (path ∷ paths)))) (sym (end_mapped path paths))
        (last_out (last_nodes (path ∷ paths)) (end_of path paths) (lasts_stand (path ∷ paths) h) (end_stand (path ∷ paths) h) w))

    pub whole_back : (paths : List (List ℕ)) → IsPreorder nat_eq nextM start paths → IsWholePreorder eq nextN (map (map name) paths) → IsWholePreorder nat_eq nextM paths
    whole_back [] h w = w
    whole_back (path ∷ paths) h w =
        last_back (last_nodes (path ∷ paths)) (end_of path paths) (lasts_stand (path ∷ paths) h) (end_stand (path ∷ paths) h)
        (subst (IsLastPath eq nextN (map name (last_nodes (path ∷ paths)))) (end_mapped path paths)
        (subst (λ gs. IsLastPath eq nextN gs (end_of (map name path) (map (map name) paths))) (last_mapped laws names distinct nextM nextN alike name named (path ∷ paths)) w))
