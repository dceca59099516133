-- The numbers by which a search knows the nodes of a table.
use Rattle.std.proofs.Common.{◌≡◌, ℕ, zero, suc, ◌<◌, ◌≤◌, ◌+◌, ◌-◌, ◌^◌, ◌∙◌, refl, sym, ap, subst, arith, inl, inr, true, false, List, [], ◌∷◌, ◌++◌, length, nat_eq, Some}
use Rattle.std.specs.Prelude.{slice_get, slice_set, MatchOption, Option, None}
use Rattle.std.specs.List.{IsDistinct, AllByRecursion, position, position_from}
use Rattle.std.proofs.lemmas.Iterator.Adapters.{position_from-zero}
use Rattle.std.proofs.lemmas.List.{length-append, length-set}
use Rattle.std.proofs.lemmas.Option.{slice_get_within}
use Rattle.std.proofs.lemmas.Bool.{ne_eqb, true≢false}
use Rattle.pf_base.proofs.ListLemmas.{get_set, get_pushed, get_at_end, get-append, none_in, bool_dec}
use Rattle.pf_core.specs.Nodes.{AddsNode, StandsFor}
use Rattle.pf_core.proofs.NodeLemmas.{AddsNode-new}
use Rattle.std.specs.Cmp.{nat_eq_equiv}
use Rattle.pf_base.specs.NodeRefs.{HasSameNodes}
use Rattle.pf_base.specs.Walks.{HasNode}
use Rattle.pf_core.proofs.PathLemmas.{HasNode-append_cases}
use Rattle.pf_core.proofs.UnitLemmas.{starts_stand}
use Rattle.pf_base.proofs.Callers.{nat_refl, nat_same}
use Rattle.pf_table_functions.specs.Internal.Numbers.{AreNumbersOf}

some_same : (x y : ℕ) → Some x ≡ Some y → x ≡ y
some_same x y e = cc

one_more : (j k : ℕ) → j + 1 ≡ k + 1 → j ≡ k
one_more j k e = omega (arith, e)

-- a node that stands at one place only is listed once
pub distinct_from : (xs : List ℕ) → ((i j x : ℕ) → slice_get xs i ≡ Some x → slice_get xs j ≡ Some x → i ≡ j) → IsDistinct nat_eq xs
unfolding IsDistinct
distinct_from [] h = tt
distinct_from (x ∷ xs) h = (behind xs (λ i y s. ne_eqb x y (λ e. no_zero i (h 0 (suc i) y (ap Some e) s))), distinct_from xs (λ i j y s t. pred (h (suc i) (suc j) y s t)))
  where
    no_zero : (i : ℕ) → 0 ≡ suc i → ⊥
    no_zero i e = omega (arith, e)

    pred : {i j : ℕ} → suc i ≡ suc j → i ≡ j
    pred e = omega (arith, e)

    behind : (ys : List ℕ) → ((i y : ℕ) → slice_get ys i ≡ Some y → nat_eq x y ≡ false) → AllByRecursion (λ y. nat_eq x y ≡ false) ys
    behind [] g = tt
    behind (y ∷ ys) g = (g 0 y refl, behind ys (λ i z s. g (suc i) z s))

pub numbers_distinct : (size : ℕ) (numbers nodes : List ℕ) → AreNumbersOf size numbers nodes → IsDistinct nat_eq nodes
numbers_distinct size numbers nodes h = distinct_from nodes h.once

-- where a node stands among others, if it does
place_from : (node : ℕ) (nodes : List ℕ) (i : ℕ) → MatchOption (position_from (λ other. nat_eq other node) i nodes) ((k : ℕ) → ¬ (slice_get nodes k ≡ Some node)) (λ p. (j : ℕ) × (p ≡ i + j) × (slice_get nodes j ≡ Some node))
place_from node [] i = λ k e. none_in k node e
place_from node (x ∷ xs) i = elim (bool_dec (nat_eq x node)) as (λ _. MatchOption (position_from (λ other. nat_eq other node) i (x ∷ xs)) ((k : ℕ) → ¬ (slice_get (x ∷ xs) k ≡ Some node)) (λ p. (j : ℕ) × (p ≡ i + j) × (slice_get (x ∷ xs) j ≡ Some node))) [
  | inl e ↦ rw e (0, omega arith, ap Some (nat_same (λ z. z) x node e))
  | inr e ↦ rw e (behind e (position_from (λ other. nat_eq other node) (i + 1) xs) (place_from node xs (i + 1)))
]
  where
    at : nat_eq x node ≡ false → ((k : ℕ) → ¬ (slice_get xs k ≡ Some node)) → (k : ℕ) → ¬ (slice_get (x ∷ xs) k ≡ Some node)
    at e h zero s = true≢false (sym (nat_refl node) ∙ subst (λ (z : ℕ). nat_eq z node ≡ false) (some_same x node s) e)
    at e h (suc k) s = h k s

    behind : nat_eq x node ≡ false → (r : Option ℕ) → MatchOption r ((k : ℕ) → ¬ (slice_get xs k ≡ Some node)) (λ p. (j : ℕ) × (p ≡ i + 1 + j) × (slice_get xs j ≡ Some node))
        → MatchOption r ((k : ℕ) → ¬ (slice_get (x ∷ xs) k ≡ Some node)) (λ p. (j : ℕ) × (p ≡ i + j) × (slice_get (x ∷ xs) j ≡ Some node))
    behind e None h = at e h
    behind e (Some p) h = (suc h.0, omega (arith, h.1), h.2)

pub place_at : (nodes : List ℕ) (node : ℕ) (r : Option ℕ) → r ≡ position (λ other. nat_eq other node) nodes → MatchOption r ((k : ℕ) → ¬ (slice_get nodes k ≡ Some node)) (λ k. slice_get nodes k ≡ Some node)
place_at nodes node r e = rw e (rw (position_from-zero (λ other. nat_eq other node) nodes) (from_start (position_from (λ other. nat_eq other node) 0 nodes) (place_from node nodes 0)))
  where
    from_start : (q : Option ℕ) → MatchOption q ((k : ℕ) → ¬ (slice_get nodes k ≡ Some node)) (λ p. (j : ℕ) × (p ≡ 0 + j) × (slice_get nodes j ≡ Some node)) → MatchOption q ((k : ℕ) → ¬ (slice_get nodes k ≡ Some node)) (λ k. slice_get nodes k ≡ Some node)
    from_start None h = h
    from_start (Some p) h = subst (λ (j : ℕ). slice_get nodes j ≡ Some node) (omega (arith, h.1)) h.2

-- what a number that a search gave stands for, and that a node without one was not found
pub known_at : (size : ℕ) (numbers nodes : List ℕ) (node number : ℕ) → AreNumbersOf size numbers nodes → node < length numbers → slice_get numbers node ≡ Some number → 0 < number → slice_get nodes (number - 1) ≡ Some node
known_at size numbers nodes node number h inside e some = (h.numbered node (number - 1) inside).0 (e ∙ ap Some (omega (arith, some)))

pub unknown_at : (size : ℕ) (numbers nodes : List ℕ) (node number : ℕ) → AreNumbersOf size numbers nodes → node < length numbers → slice_get numbers node ≡ Some number → ¬ (0 < number) → (k : ℕ) → ¬ (slice_get nodes k ≡ Some node)
unknown_at size numbers nodes node number h inside e none k s = none (omega (arith, some_same number (k + 1) (sym e ∙ (h.numbered node k inside).1 s)))

-- nothing was found
pub nothing_numbered : (size : ℕ) → AreNumbersOf size [] []
nothing_numbered size = record {
  numbered = λ x k inside. absurd (omega (arith, inside));
  once = λ i j x s t. absurd (none_in i x s);
  laid = inl refl;
  few = omega arith;
}

-- a node is found once more nowhere
found_once : (nodes : List ℕ) (node : ℕ) → ((k : ℕ) → ¬ (slice_get nodes k ≡ Some node)) → ((i j x : ℕ) → slice_get nodes i ≡ Some x → slice_get nodes j ≡ Some x → i ≡ j)
    → (i j x : ℕ) → slice_get (nodes ++ node ∷ []) i ≡ Some x → slice_get (nodes ++ node ∷ []) j ≡ Some x → i ≡ j
found_once nodes node absent once i j x s t = elim (get_pushed nodes node i x s) as (λ _. i ≡ j) [
  | inl p ↦ elim (get_pushed nodes node j x t) as (λ _. i ≡ j) [
    | inl q ↦ once i j x p.1 q.1
    | inr q ↦ absurd (absent i (p.1 ∙ ap Some (sym q.1)))
  ]
  | inr p ↦ elim (get_pushed nodes node j x t) as (λ _. i ≡ j) [
    | inl q ↦ absurd (absent j (q.1 ∙ ap Some (sym p.1)))
    | inr q ↦ p.0 ∙ sym q.0
  ]
]

-- a node is given the next number
pub more_numbers : (size : ℕ) (numbers nodes : List ℕ) (node : ℕ) → size ≤ length numbers → length nodes + 1 < 2 ^ 32 → node < length numbers → ((k : ℕ) → ¬ (slice_get nodes k ≡ Some node)) → AreNumbersOf size numbers nodes
    → AreNumbersOf size (slice_set numbers node (length nodes + 1)) (nodes ++ node ∷ [])
more_numbers size numbers nodes node wide few inside absent h = record {
  numbered = λ x k w. (forth x k, λ e. back x k e (subst (λ (n : ℕ). x < n) (length-set numbers node (length nodes + 1)) w));
  once = found_once nodes node absent h.once;
  laid = inr (rw (length-set numbers node (length nodes + 1)) wide);
  few = rw (length-append nodes (node ∷ [])) (omega (arith, few));
}
  where
    forth : (x k : ℕ) → slice_get (slice_set numbers node (length nodes + 1)) x ≡ Some (k + 1) → slice_get (nodes ++ node ∷ []) k ≡ Some x
    forth x k e = elim (get_set numbers node x (length nodes + 1) inside) as (λ _. slice_get (nodes ++ node ∷ []) k ≡ Some x) [
      | inl s ↦
          let at : length nodes ≡ k = one_more _ _ (some_same _ _ (sym s.1 ∙ e)) in
          subst (λ (j : ℕ). slice_get (nodes ++ node ∷ []) j ≡ Some x) at (get_at_end nodes node ∙ ap Some (sym s.0))
      | inr s ↦
          let old : slice_get numbers x ≡ Some (k + 1) = sym s.1 ∙ e in
          get-append nodes (node ∷ []) k x ((h.numbered x k (slice_get_within numbers x (k + 1) old)).0 old)
    ]

    back : (x k : ℕ) → slice_get (nodes ++ node ∷ []) k ≡ Some x → x < length numbers → slice_get (slice_set numbers node (length nodes + 1)) x ≡ Some (k + 1)
    back x k e w = elim (get_set numbers node x (length nodes + 1) inside) as (λ _. slice_get (slice_set numbers node (length nodes + 1)) x ≡ Some (k + 1)) [
      | inl s ↦ elim (get_pushed nodes node k x e) as (λ _. slice_get (slice_set numbers node (length nodes + 1)) x ≡ Some (k + 1)) [
        | inl p ↦ absurd (absent k (p.1 ∙ ap Some s.0))
        | inr p ↦ s.1 ∙ ap (λ (j : ℕ). Some (j + 1)) (sym p.0)
      ]
      | inr s ↦ elim (get_pushed nodes node k x e) as (λ _. slice_get (slice_set numbers node (length nodes + 1)) x ≡ Some (k + 1)) [
        | inl p ↦ s.1 ∙ (h.numbered x k w).1 p.1
        | inr p ↦ absurd (s.0 (sym p.1))
      ]
    ]

-- a number that is no node of the table is put behind the others
pub more_strangers : (size : ℕ) (numbers nodes : List ℕ) (node : ℕ) → size ≤ length numbers → length nodes + 1 < 2 ^ 32 → length numbers ≤ node → ((k : ℕ) → ¬ (slice_get nodes k ≡ Some node)) → AreNumbersOf size numbers nodes
    → AreNumbersOf size numbers (nodes ++ node ∷ [])
more_strangers size numbers nodes node wide few out absent h = record {
  numbered = λ x k w. (λ e. get-append nodes (node ∷ []) k x ((h.numbered x k w).0 e), λ e. (h.numbered x k w).1 (before x k w e));
  once = found_once nodes node absent h.once;
  laid = inr wide;
  few = rw (length-append nodes (node ∷ [])) (omega (arith, few));
}
  where
    before : (x k : ℕ) → x < length numbers → slice_get (nodes ++ node ∷ []) k ≡ Some x → slice_get nodes k ≡ Some x
    before x k w e = elim (get_pushed nodes node k x e) as (λ _. slice_get nodes k ≡ Some x) [
      | inl p ↦ p.1
      | inr p ↦ absurd (omega (arith, w, out, p.1))
    ]

-- the node that was found last is forgotten
fewer_once : (nodes : List ℕ) (node : ℕ) → ((i j x : ℕ) → slice_get (nodes ++ node ∷ []) i ≡ Some x → slice_get (nodes ++ node ∷ []) j ≡ Some x → i ≡ j) → (i j x : ℕ) → slice_get nodes i ≡ Some x → slice_get nodes j ≡ Some x → i ≡ j
fewer_once nodes node once i j x s t = once i j x (get-append nodes (node ∷ []) i x s) (get-append nodes (node ∷ []) j x t)

few_before : (nodes : List ℕ) (node : ℕ) → length (nodes ++ node ∷ []) < 2 ^ 32 → length nodes < 2 ^ 32
few_before nodes node few = omega (arith, length-append nodes (node ∷ []), few)

wide_before : (size : ℕ) (numbers nodes : List ℕ) (node : ℕ) → AreNumbersOf size numbers (nodes ++ node ∷ []) → size ≤ length numbers
wide_before size numbers nodes node h = elim h.laid as (λ _. size ≤ length numbers) [
  | inl e ↦ absurd (none_in (length nodes) node (subst (λ (ns : List ℕ). slice_get ns (length nodes) ≡ Some node) e (get_at_end nodes node)))
  | inr e ↦ e
]

pub fewer_numbers : (size : ℕ) (numbers nodes : List ℕ) (node : ℕ) → node < length numbers → AreNumbersOf size numbers (nodes ++ node ∷ []) → AreNumbersOf size (slice_set numbers node 0) nodes
fewer_numbers size numbers nodes node inside h = record {
  numbered = λ x k w. (forth x k, λ e. back x k e (subst (λ (n : ℕ). x < n) (length-set numbers node 0) w));
  once = fewer_once nodes node h.once;
  laid = inr (rw (length-set numbers node 0) (wide_before size numbers nodes node h));
  few = few_before nodes node h.few;
}
  where
    forth : (x k : ℕ) → slice_get (slice_set numbers node 0) x ≡ Some (k + 1) → slice_get nodes k ≡ Some x
    forth x k e = elim (get_set numbers node x 0 inside) as (λ _. slice_get nodes k ≡ Some x) [
      | inl s ↦ absurd (omega (arith, some_same 0 (k + 1) (sym s.1 ∙ e)))
      | inr s ↦
          let old : slice_get numbers x ≡ Some (k + 1) = sym s.1 ∙ e in
          elim (get_pushed nodes node k x ((h.numbered x k (slice_get_within numbers x (k + 1) old)).0 old)) as (λ _. slice_get nodes k ≡ Some x) [
            | inl p ↦ p.1
            | inr p ↦ absurd (s.0 (sym p.1))
          ]
    ]

    back : (x k : ℕ) → slice_get nodes k ≡ Some x → x < length numbers → slice_get (slice_set numbers node 0) x ≡ Some (k + 1)
    back x k e w =
        let here : slice_get (nodes ++ node ∷ []) k ≡ Some x = get-append nodes (node ∷ []) k x e in
        elim (get_set numbers node x 0 inside) as (λ _. slice_get (slice_set numbers node 0) x ≡ Some (k + 1)) [
          | inl s ↦
              let same : k ≡ length nodes = h.once k (length nodes) node (here ∙ ap Some s.0) (get_at_end nodes node) in
              absurd (omega (arith, same, slice_get_within nodes k x e))
          | inr s ↦ s.1 ∙ (h.numbered x k w).1 here
        ]

pub fewer_strangers : (size : ℕ) (numbers nodes : List ℕ) (node : ℕ) → length numbers ≤ node → AreNumbersOf size numbers (nodes ++ node ∷ []) → AreNumbersOf size numbers nodes
fewer_strangers size numbers nodes node out h = record {
  numbered = λ x k w. (λ e. before x k w ((h.numbered x k w).0 e), λ e. (h.numbered x k w).1 (get-append nodes (node ∷ []) k x e));
  once = fewer_once nodes node h.once;
  laid = inr (wide_before size numbers nodes node h);
  few = few_before nodes node h.few;
}
  where
    before : (x k : ℕ) → x < length numbers → slice_get (nodes ++ node ∷ []) k ≡ Some x → slice_get nodes k ≡ Some x
    before x k w e = elim (get_pushed nodes node k x e) as (λ _. slice_get nodes k ≡ Some x) [
      | inl p ↦ p.1
      | inr p ↦ absurd (omega (arith, w, out, p.1))
    ]

-- a node stands for itself alone
pub stands_known : (keys : List ℕ) (node : ℕ) (r : Option ℕ) → MatchOption r ((k : ℕ) → ¬ (slice_get keys k ≡ Some node)) (λ k. slice_get keys k ≡ Some node) → MatchOption r ((k : ℕ) → ¬ (StandsFor nat_eq keys k node)) (λ k. StandsFor nat_eq keys k node)
stands_known keys node None h = λ k s. h k (s.1 ∙ ap Some (nat_same (λ z. z) s.0 node s.2))
stands_known keys node (Some k) h = (node, h, nat_refl node)

-- a node that has no number is put behind the others, and its number is its place
pub adds_node : (keys keys' : List ℕ) (node : ℕ) → ((k : ℕ) → ¬ (slice_get keys k ≡ Some node)) → keys' ≡ keys ++ node ∷ [] → AddsNode nat_eq node keys keys'
adds_node keys keys' node absent e = AddsNode-new nat_eq keys keys' node e (λ j m s. ne_eqb m node (λ q. absent j (s ∙ ap Some q)))

pub stands_last : (keys keys' : List ℕ) (node k : ℕ) → keys' ≡ keys ++ node ∷ [] → k ≡ length keys → StandsFor nat_eq keys' k node
stands_last keys keys' node k e at = (node, subst (λ (ks : List ℕ). slice_get ks k ≡ Some node) (sym e) (subst (λ (j : ℕ). slice_get (keys ++ node ∷ []) j ≡ Some node) (sym at) (get_at_end keys node)), nat_refl node)

-- a node that stands behind others, or was there before, is a node beside theirs
pub same_added : (keys keys' ys : List ℕ) (x k : ℕ) → AddsNode nat_eq x keys keys' → StandsFor nat_eq keys' k x → HasSameNodes nat_eq keys ys → HasSameNodes nat_eq keys' (ys ++ x ∷ [])
same_added keys keys' ys x k a s same y = (forth, back)
  where
    here : HasNode nat_eq keys' x
    here = (starts_stand nat_eq nat_eq_equiv keys' keys' (λ z. (λ h. h, λ h. h)) x).0 (k, slice_get_within keys' k s.0 s.1, s)

    left : (zs : List ℕ) → HasNode nat_eq zs y → HasNode nat_eq (zs ++ x ∷ []) y
    left [] h = absurd h
    left (z ∷ zs) (inl e) = inl e
    left (z ∷ zs) (inr h) = inr (left zs h)

    last : (zs : List ℕ) → nat_eq x y ≡ true → HasNode nat_eq (zs ++ x ∷ []) y
    last [] e = inl e
    last (z ∷ zs) e = inr (last zs e)

    forth : HasNode nat_eq keys' y → HasNode nat_eq (ys ++ x ∷ []) y
    forth h = elim a.grown as (λ _. HasNode nat_eq (ys ++ x ∷ []) y) [
      | inl e ↦ left ys ((same y).0 (subst (λ (zs : List ℕ). HasNode nat_eq zs y) e h))
      | inr e ↦ elim (HasNode-append_cases nat_eq keys x y (subst (λ (zs : List ℕ). HasNode nat_eq zs y) e h)) as (λ _. HasNode nat_eq (ys ++ x ∷ []) y) [
        | inl f ↦ left ys ((same y).0 f)
        | inr q ↦ last ys q
      ]
    ]

    back : HasNode nat_eq (ys ++ x ∷ []) y → HasNode nat_eq keys' y
    back h = elim (HasNode-append_cases nat_eq ys x y h) as (λ _. HasNode nat_eq keys' y) [
      | inl f ↦ elim a.grown as (λ _. HasNode nat_eq keys' y) [
        | inl e ↦ subst (λ (zs : List ℕ). HasNode nat_eq zs y) (sym e) ((same y).1 f)
        | inr e ↦ subst (λ (zs : List ℕ). HasNode nat_eq zs y) (sym e) (left keys ((same y).1 f))
      ]
      | inr q ↦ subst (λ (z : ℕ). HasNode nat_eq keys' z) (nat_same (λ z. z) x y q) here
    ]
