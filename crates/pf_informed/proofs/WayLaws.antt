-- That the ways which are listed are all ways, each once.
use Rattle.std.proofs.Common.{◌≡◌, ◌≢◌, ℕ, zero, suc, ◌+◌, ◌<◌, refl, sym, ◌∙◌, ap, subst, arith, false, true≢false, List, [], ◌∷◌, ◌++◌, length, inl, inr, Some, nat_eq, eq-eqb}
use Rattle.std.specs.Prelude.{◌⊎◌, Contains, slice_get, ⊤}
use Rattle.std.proofs.lemmas.List.{append_assoc}
use Rattle.std.proofs.lemmas.List.Elements.{Contains-append_cases}
use borrow.Author.Tests.{eqb-true}
use Rattle.pf_base.specs.Walks.{HasNode, NoRepeats, end_of}
use Rattle.pf_base.proofs.ListLemmas.{bool_dec, Contains-head, Contains-tail, Contains-cases, none_in}
use Rattle.pf_informed.specs.Internal.Ways.{each_of, is_in, ways, ways_at}
use Rattle.pf_core.proofs.ClimbLemmas.{few_below}
use Rattle.pf_informed.proofs.WaysLemmas.{in_of, of_in, if_true, if_false}

-- ---- lists
Contains-left : {A : Type 0} (xs ys : List A) (k : A) → Contains xs k → Contains (xs ++ ys) k
Contains-left [] ys k h = absurd (omega (arith, h.1))
Contains-left (x ∷ xs) ys k h = elim (Contains-cases xs x k h) as (λ _. Contains (x ∷ (xs ++ ys)) k) [ inl e ↦ subst (λ w. Contains (x ∷ (xs ++ ys)) w) e (Contains-head (xs ++ ys) x) | inr i ↦ Contains-tail (xs ++ ys) x k (Contains-left xs ys k i) ]

Contains-right : {A : Type 0} (xs ys : List A) (k : A) → Contains ys k → Contains (xs ++ ys) k
Contains-right [] ys k h = h
Contains-right (x ∷ xs) ys k h = Contains-tail (xs ++ ys) x k (Contains-right xs ys k h)

pub each_of_in : {A B : Type 0} (f : A → List B) (xs : List A) (k : B) → Contains (each_of f xs) k → (x : A) × Contains xs x × Contains (f x) k
each_of_in f [] k h = absurd (omega (arith, h.1))
each_of_in f (x ∷ xs) k h = elim (Contains-append_cases (each_of f xs) (f x) k h) as (λ _. (y : _) × Contains (x ∷ xs) y × Contains (f y) k) [
  | inl i ↦ let r = each_of_in f xs k i in (r.0, Contains-tail xs x r.0 r.1, r.2)
  | inr i ↦ (x, Contains-head xs x, i)
]

in_each_of : {A B : Type 0} (f : A → List B) (xs : List A) (x : A) (k : B) → Contains xs x → Contains (f x) k → Contains (each_of f xs) k
in_each_of f [] x k h i = absurd (omega (arith, h.1))
in_each_of f (y ∷ xs) x k h i = elim (Contains-cases xs y x h) as (λ _. Contains (each_of f xs ++ f y) k) [
  | inl e ↦ Contains-right (each_of f xs) (f y) k (subst (λ z. Contains (f z) k) (sym e) i)
  | inr t ↦ Contains-left (each_of f xs) (f y) k (in_each_of f xs x k t i)
]

pub HasNode_of : (xs : List ℕ) (k : ℕ) → Contains xs k → HasNode nat_eq xs k
HasNode_of [] k h = absurd (omega (arith, h.1))
HasNode_of (x ∷ xs) k h = elim (Contains-cases xs x k h) as (λ _. HasNode nat_eq (x ∷ xs) k) [ inl e ↦ inl (eq-eqb x k e) | inr i ↦ inr (HasNode_of xs k i) ]

pub Contains_of : (xs : List ℕ) (k : ℕ) → HasNode nat_eq xs k → Contains xs k
Contains_of [] k h = absurd h
Contains_of (x ∷ xs) k (inl e) = subst (λ w. Contains (x ∷ xs) w) (eqb-true x k e) (Contains-head xs x)
Contains_of (x ∷ xs) k (inr h) = Contains-tail xs x k (Contains_of xs k h)

-- no list stands twice
abbrev pub Once : List (List ℕ) → Type 0
Once [] = ⊤
Once (x ∷ xs) = ¬ (Contains xs x) × Once xs

once_append : (xs ys : List (List ℕ)) → Once xs → Once ys → ((k : List ℕ) → Contains xs k → Contains ys k → ⊥) → Once (xs ++ ys)
once_append [] ys a b apart = b
once_append (x ∷ xs) ys a b apart = (
  (λ h. elim (Contains-append_cases xs ys x h) as (λ _. ⊥) [ inl i ↦ a.0 i | inr i ↦ apart x (Contains-head xs x) i ]),
  once_append xs ys a.1 b (λ k i j. apart k (Contains-tail xs x k i) j),
)

pub once_each : (f : ℕ → List (List ℕ)) → ((x : ℕ) → Once (f x)) → ((x y : ℕ) (k : List ℕ) → Contains (f x) k → Contains (f y) k → x ≡ y) → (xs : List ℕ) → NoRepeats nat_eq xs → Once (each_of f xs)
once_each f own apart [] d = tt
once_each f own apart (x ∷ xs) d = once_append (each_of f xs) (f x) (once_each f own apart xs d.1) (own x)
    (λ k i j. let r = each_of_in f xs k i in d.0 (subst (HasNode nat_eq xs) (apart r.0 x k r.2 j) (HasNode_of xs r.0 r.1)))

at_index : (ys : List (List ℕ)) (m : ℕ) (k : List ℕ) → slice_get ys m ≡ Some k → Contains ys k
at_index [] m k h = absurd (none_in m k h)
at_index (y ∷ ys) zero k h = let e : Some y ≡ Some k = h in let q : y ≡ k = cc in subst (λ w. Contains (y ∷ ys) w) q (Contains-head ys y)
at_index (y ∷ ys) (suc m) k h = Contains-tail ys y k (at_index ys m k h)

pub once_index : (xs : List (List ℕ)) → Once xs → (i j : ℕ) (k : List ℕ) → slice_get xs i ≡ Some k → slice_get xs j ≡ Some k → i ≡ j
once_index [] o i j k a b = absurd (none_in i k a)
once_index (x ∷ xs) o zero zero k a b = refl
once_index (x ∷ xs) o zero (suc j) k a b = let e : Some x ≡ Some k = a in let q : k ≡ x = cc in absurd (o.0 (subst (λ w. Contains xs w) q (at_index xs j k b)))
once_index (x ∷ xs) o (suc i) zero k a b = let e : Some x ≡ Some k = b in let q : k ≡ x = cc in absurd (o.0 (subst (λ w. Contains xs w) q (at_index xs i k a)))
once_index (x ∷ xs) o (suc i) (suc j) k a b = ap suc (once_index xs o.1 i j k a b)

longer : (b : List ℕ) (q : ℕ) (xs : List ℕ) → length xs < length (b ++ q ∷ xs)
longer [] q xs = omega arith
longer (y ∷ b) q xs = omega (arith, longer b q xs)

same_suffix : (a b : List ℕ) (p q : ℕ) (xs : List ℕ) → a ++ p ∷ xs ≡ b ++ q ∷ xs → p ≡ q
same_suffix [] [] p q xs e = cc
same_suffix [] (y ∷ b) p q xs e = absurd (omega (arith, ap length e, longer b q xs))
same_suffix (x ∷ a) [] p q xs e = absurd (omega (arith, ap length e, longer a p xs))
same_suffix (x ∷ a) (y ∷ b) p q xs e = same_suffix a b p q xs (let t : a ++ p ∷ xs ≡ b ++ q ∷ xs = cc in t)

module _ (before : ℕ → List ℕ) where
  -- each number is one of those before the next
  abbrev pub Linked : ℕ → List ℕ → Type 0
  Linked a [] = ⊤
  Linked a (b ∷ w) = HasNode nat_eq (before b) a × Linked b w

  abbrev pub LinkedAll : List ℕ → Type 0
  LinkedAll [] = ⊤
  LinkedAll (a ∷ w) = Linked a w

  -- what is listed for v: where v is on the path, where it is 0, and where ways go on
  three : (path : List ℕ) (v : ℕ) (on : List (List ℕ)) → (ways_at path v on ≡ []) ⊎ ((¬ (HasNode nat_eq path v)) × (((v ≡ 0) × (ways_at path v on ≡ (v ∷ path) ∷ [])) ⊎ ((v ≢ 0) × (ways_at path v on ≡ on))))
  three path v on = elim (bool_dec (is_in path v)) as (λ _. (ways_at path v on ≡ []) ⊎ ((¬ (HasNode nat_eq path v)) × (((v ≡ 0) × (ways_at path v on ≡ (v ∷ path) ∷ [])) ⊎ ((v ≢ 0) × (ways_at path v on ≡ on))))) [
    | inl t ↦ inl (if_true (is_in path v) _ _ t)
    | inr f ↦ inr (
      (λ h. true≢false (sym (in_of path v h) ∙ f)),
      elim (bool_dec (nat_eq v 0)) as (λ _. ((v ≡ 0) × (ways_at path v on ≡ (v ∷ path) ∷ [])) ⊎ ((v ≢ 0) × (ways_at path v on ≡ on))) [
        | inl z ↦ inl (eqb-true v 0 z, if_false (is_in path v) _ _ f ∙ if_true (nat_eq v 0) _ _ z)
        | inr n ↦ inr ((λ e. true≢false (sym (eq-eqb v 0 e) ∙ n)), if_false (is_in path v) _ _ f ∙ if_false (nat_eq v 0) _ _ n)
      ],
    )
  ]

  only_one : (xs ks : List ℕ) → Contains (xs ∷ []) ks → xs ≡ ks
  only_one xs ks h = elim (Contains-cases [] xs ks h) as (λ _. xs ≡ ks) [ inl e ↦ e | inr i ↦ absurd (omega (arith, i.1)) ]

  -- ---- each list that is given goes on along the path
  pub ways_extend : (most : ℕ) (path : List ℕ) (v : ℕ) (ks : List ℕ) → Contains (ways before most path v) ks → (front : List ℕ) × (ks ≡ front ++ v ∷ path)
  ways_extend zero path v ks h = absurd (omega (arith, h.1))
  ways_extend (suc most) path v ks h =
      let on = each_of (ways before most (v ∷ path)) (before v) in
      elim (three path v on) as (λ _. (front : List ℕ) × (ks ≡ front ++ v ∷ path)) [
        | inl e ↦ absurd (none ks (subst (λ ls. Contains ls ks) e h))
        | inr r ↦ elim r.1 as (λ _. (front : List ℕ) × (ks ≡ front ++ v ∷ path)) [
          | inl z ↦ ([], sym (only_one (v ∷ path) ks (subst (λ ls. Contains ls ks) z.1 h)))
          | inr n ↦
              let p = each_of_in (ways before most (v ∷ path)) (before v) ks (subst (λ ls. Contains ls ks) n.1 h) in
              let q = ways_extend most (v ∷ path) p.0 ks p.2 in
              (q.0 ++ p.0 ∷ [], q.1 ∙ sym (append_assoc q.0 (p.0 ∷ []) (v ∷ path)))
        ]
      ]
    where
      none : (ks : List ℕ) → Contains [] ks → ⊥
      none ks h = omega (arith, h.1)

  -- ---- each list that is given is a way
  pub ways_sound : (most : ℕ) (path : List ℕ) (v : ℕ) (ks : List ℕ) → NoRepeats nat_eq path → Linked v path → Contains (ways before most path v) ks
      → (w : List ℕ) × (ks ≡ 0 ∷ w) × Linked 0 w × NoRepeats nat_eq (0 ∷ w) × (end_of 0 w ≡ end_of v path)
  ways_sound zero path v ks d l h = absurd (omega (arith, h.1))
  ways_sound (suc most) path v ks d l h =
      let on = each_of (ways before most (v ∷ path)) (before v) in
      elim (three path v on) as (λ _. (w : List ℕ) × (ks ≡ 0 ∷ w) × Linked 0 w × NoRepeats nat_eq (0 ∷ w) × (end_of 0 w ≡ end_of v path)) [
        | inl e ↦ absurd (none ks (subst (λ ls. Contains ls ks) e h))
        | inr r ↦ elim r.1 as (λ _. (w : List ℕ) × (ks ≡ 0 ∷ w) × Linked 0 w × NoRepeats nat_eq (0 ∷ w) × (end_of 0 w ≡ end_of v path)) [
          | inl z ↦
              let is = only_one (v ∷ path) ks (subst (λ ls. Contains ls ks) z.1 h) in (
                path,
                sym is ∙ ap (λ (n : ℕ). n ∷ path) z.0,
                subst (λ (n : ℕ). Linked n path) z.0 l,
                ((λ i. r.0 (subst (HasNode nat_eq path) (sym z.0) i)), d),
                ap (λ (n : ℕ). end_of n path) (sym z.0),
              )
          | inr n ↦
              let p = each_of_in (ways before most (v ∷ path)) (before v) ks (subst (λ ls. Contains ls ks) n.1 h) in
              ways_sound most (v ∷ path) p.0 ks (r.0, d) (HasNode_of (before v) p.0 p.1, l) p.2
        ]
      ]
    where
      none : (ks : List ℕ) → Contains [] ks → ⊥
      none ks h = omega (arith, h.1)

  -- ---- no list is given twice
  module _ (distinct : (v : ℕ) → NoRepeats nat_eq (before v)) where
    ways_apart : (most : ℕ) (path : List ℕ) (x y : ℕ) (k : List ℕ) → Contains (ways before most path x) k → Contains (ways before most path y) k → x ≡ y
    ways_apart most path x y k a b = let p = ways_extend most path x k a in let q = ways_extend most path y k b in same_suffix p.0 q.0 x y path (sym p.1 ∙ q.1)

    ways_once : (most : ℕ) (path : List ℕ) (v : ℕ) → Once (ways before most path v)
    ways_once zero path v = tt
    ways_once (suc most) path v =
        let on = each_of (ways before most (v ∷ path)) (before v) in
        elim (three path v on) as (λ _. Once (ways_at path v on)) [
          | inl e ↦ subst Once (sym e) tt
          | inr r ↦ elim r.1 as (λ _. Once (ways_at path v on)) [
            | inl z ↦ subst Once (sym z.1) ((λ h. absurd (omega (arith, h.1))), tt)
            | inr n ↦ subst Once (sym n.1) (once_each (ways before most (v ∷ path)) (ways_once most (v ∷ path)) (ways_apart most (v ∷ path)) (before v) (distinct v))
          ]
        ]

    pub all_once : (n : ℕ) (goals : List ℕ) → NoRepeats nat_eq goals → Once (each_of (ways before n []) goals)
    all_once n goals d = once_each (ways before n []) (ways_once n []) (ways_apart n []) goals d

  -- ---- each way is given
  -- the numbers of the first list, one after the other, in front of the second
  abbrev onto : List ℕ → List ℕ → List ℕ
  onto [] q = q
  onto (u ∷ us) q = onto us (u ∷ q)

  abbrev UpTo : ℕ → List ℕ → Type 0
  UpTo v [] = v ≡ 0
  UpTo v (u ∷ us) = HasNode nat_eq (before v) u × UpTo u us

  abbrev Fresh : List ℕ → ℕ → List ℕ → Type 0
  Fresh path v [] = ¬ (HasNode nat_eq path v)
  Fresh path v (u ∷ us) = ¬ (HasNode nat_eq path v) × Fresh (v ∷ path) u us

  onto_of : (w : List ℕ) (a : ℕ) (ups : List ℕ) → (us : List ℕ) × (onto ups (a ∷ w) ≡ onto us (end_of a w ∷ []))
  onto_of [] a ups = (ups, refl)
  onto_of (b ∷ w) a ups = onto_of w b (a ∷ ups)

  linked_of : (us q : List ℕ) → LinkedAll (onto us q) → LinkedAll q
  linked_of [] q l = l
  linked_of (u ∷ us) [] l = tt
  linked_of (u ∷ us) (v ∷ q) l = (linked_of us (u ∷ v ∷ q) l).1

  up_of : (us : List ℕ) (v : ℕ) (path w : List ℕ) → LinkedAll (onto us (v ∷ path)) → onto us (v ∷ path) ≡ 0 ∷ w → UpTo v us
  up_of [] v path w l e = cc
  up_of (u ∷ us) v path w l e = ((linked_of us (u ∷ v ∷ path) l).0, up_of us u (v ∷ path) w l e)

  fresh_of : (us : List ℕ) (v : ℕ) (path : List ℕ) → NoRepeats nat_eq (onto us (v ∷ path)) → Fresh path v us × NoRepeats nat_eq (v ∷ path)
  fresh_of [] v path d = (d.0, d)
  fresh_of (u ∷ us) v path d = let r = fresh_of us u (v ∷ path) d in ((r.1.1.0, r.0), r.1.1)

  not_zero : (us : List ℕ) (v : ℕ) (path : List ℕ) → Fresh path v us → UpTo v us → ¬ (HasNode nat_eq path 0)
  not_zero [] v path f u h = f (subst (HasNode nat_eq path) (sym u) h)
  not_zero (x ∷ us) v path f u h = not_zero us x (v ∷ path) f.1 u.1 (inr h)

  length_onto : (us q : List ℕ) → length (onto us q) ≡ length us + length q
  length_onto [] q = omega arith
  length_onto (u ∷ us) q = omega (arith, length_onto us (u ∷ q))

  complete : (us : List ℕ) (v : ℕ) (path : List ℕ) (most : ℕ) → UpTo v us → Fresh path v us → length us < most → Contains (ways before most path v) (onto us (v ∷ path))
  complete us v path zero u f l = absurd (omega (arith, l))
  complete [] v path (suc most) u f l =
      let on = each_of (ways before most (v ∷ path)) (before v) in
      elim (three path v on) as (λ _. Contains (ways_at path v on) (v ∷ path)) [
        | inl e ↦ absurd (on_path path v on f e u)
        | inr r ↦ elim r.1 as (λ _. Contains (ways_at path v on) (v ∷ path)) [ inl z ↦ subst (λ ls. Contains ls (v ∷ path)) (sym z.1) (Contains-head [] (v ∷ path)) | inr n ↦ absurd (n.0 u) ]
      ]
    where
      on_path : (path : List ℕ) (v : ℕ) (on : List (List ℕ)) → ¬ (HasNode nat_eq path v) → ways_at path v on ≡ [] → v ≡ 0 → ⊥
      on_path path v on f e u =
          let off : is_in path v ≡ false = elim (bool_dec (is_in path v)) as (λ _. is_in path v ≡ false) [ inl t ↦ absurd (f (of_in path v t)) | inr n ↦ n ] in
          let one : ways_at path v on ≡ (v ∷ path) ∷ [] = if_false (is_in path v) _ _ off ∙ if_true (nat_eq v 0) _ _ (eq-eqb v 0 u) in
          let two : 1 ≡ 0 = ap length (sym one ∙ e) in
          omega (arith, two)
  complete (x ∷ us) v path (suc most) u f l =
      let on = each_of (ways before most (v ∷ path)) (before v) in
      let some : v ≢ 0 = λ z. not_zero us x (v ∷ path) f.1 u.1 (inl (eq-eqb v 0 z)) in
      let off : is_in path v ≡ false = elim (bool_dec (is_in path v)) as (λ _. is_in path v ≡ false) [ inl t ↦ absurd (f.0 (of_in path v t)) | inr n ↦ n ] in
      let other : nat_eq v 0 ≡ false = elim (bool_dec (nat_eq v 0)) as (λ _. nat_eq v 0 ≡ false) [ inl t ↦ absurd (some (eqb-true v 0 t)) | inr n ↦ n ] in
      let is : ways_at path v on ≡ on = if_false (is_in path v) _ _ off ∙ if_false (nat_eq v 0) _ _ other in
      subst (λ ls. Contains ls (onto us (x ∷ v ∷ path))) (sym is) (in_each_of (ways before most (v ∷ path)) (before v) x (onto us (x ∷ v ∷ path)) (Contains_of (before v) x u.0) (complete us x (v ∷ path) most u.1 f.1 (omega (arith, l))))

  pub all_complete : (n : ℕ) (goals w : List ℕ) → Linked 0 w → NoRepeats nat_eq (0 ∷ w) → ((j : ℕ) → HasNode nat_eq (0 ∷ w) j → j < n) → HasNode nat_eq goals (end_of 0 w) → Contains (each_of (ways before n []) goals) (0 ∷ w)
  all_complete n goals w l d inside goal =
      let r = onto_of w 0 [] in
      let g = end_of 0 w in
      let up = up_of r.0 g [] w (subst LinkedAll r.1 l) (sym r.1) in
      let fresh = (fresh_of r.0 g [] (subst (NoRepeats nat_eq) r.1 d)).0 in
      let few = few_below n (0 ∷ w) d inside in
      let len = ap length r.1 ∙ length_onto r.0 (g ∷ []) in
      in_each_of (ways before n []) goals g (0 ∷ w) (Contains_of goals g goal) (subst (Contains (ways before n [] g)) (sym r.1) (complete r.0 g [] n up fresh (omega (arith, few, len))))
