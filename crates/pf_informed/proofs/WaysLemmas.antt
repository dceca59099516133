-- The ways that are left, as a walk through them goes on.
use Rattle.std.proofs.Common.{◌≡◌, ◌≢◌, ℕ, zero, suc, ◌+◌, ◌-◌, ◌<◌, ◌≤◌, refl, sym, ◌∙◌, ap, subst, arith, Bool, true, false, true≢false, List, [], ◌∷◌, ◌++◌, length, take, inl, inr, Some, nat_eq, eq-eqb}
use Rattle.std.specs.Prelude.{◌⊎◌, ◌||◌, if◌then◌else◌, Contains, slice_get, slice_set, reverse}
use Rattle.std.specs.List.{sum_by}
use Rattle.std.proofs.lemmas.List.{append-nil, append_assoc, reverse-append}
use Rattle.std.proofs.lemmas.List.Sums.{sum_by-append, sum_by-cons}
use borrow.Author.Tests.{eqb-true}
use Rattle.pf_base.specs.Walks.{HasNode, NoRepeats}
use Rattle.pf_informed.specs.declared.branch.Branch.{Branch}
use Rattle.pf_informed.specs.Internal.Branches.{branches_at}
use Rattle.pf_base.proofs.ListLemmas.{bool_dec, take_get, get_take, reverse-cons, Contains-head, Contains-tail, Contains-cases, none_in, get_set, get_push}
use Rattle.pf_core.proofs.PathLemmas.{HasNode-append_cases, NoRepeats-append}
use Rattle.pf_informed.specs.Internal.Ways.{each_of, is_in, ways, ways_to, tries, ways_left, tries_left, nothing_waits, IsRising, AreWays, IsWhole}
use Rattle.pf_core.proofs.ClimbLemmas.{few_below}
use Rattle.pf_informed.proofs.PathUp.{HasNode-reverse}

-- ---- items that are given in turn
module _ {A B : Type 0} where
  pub each_of-append : (f : A → List B) (xs ys : List A) → each_of f (xs ++ ys) ≡ each_of f ys ++ each_of f xs
  each_of-append f [] ys = sym (append-nil (each_of f ys))
  each_of-append f (x ∷ xs) ys = ap (λ zs. zs ++ f x) (each_of-append f xs ys) ∙ append_assoc (each_of f ys) (each_of f xs) (f x)

pub each_of-branches : {B : Type 0} (f : Branch → List B) (h : ℕ → List B) (d : ℕ) → ((p : ℕ) → f (record { number = p; depth = d }) ≡ h p) → (ps : List ℕ) → each_of f (branches_at d ps) ≡ each_of h ps
each_of-branches f h d same [] = refl
each_of-branches f h d same (p ∷ ps) = ap (λ zs. zs ++ f (record { number = p; depth = d })) (each_of-branches f h d same ps) ∙ ap (λ z. each_of h ps ++ z) (same p)

pub sum_by-branches : (f : Branch → ℕ) (h : ℕ → ℕ) (d : ℕ) → ((p : ℕ) → f (record { number = p; depth = d }) ≡ h p) → (ps : List ℕ) → sum_by f (branches_at d ps) ≡ sum_by h ps
sum_by-branches f h d same [] = refl
sum_by-branches f h d same (p ∷ ps) =
    let b : Branch = record { number = p; depth = d } in
    let left : sum_by f (b ∷ branches_at d ps) ≡ f b + sum_by f (branches_at d ps) = sum_by-cons f b (branches_at d ps) in
    let right : sum_by h (p ∷ ps) ≡ h p + sum_by h ps = sum_by-cons h p ps in
    omega (arith, left, right, same p, sum_by-branches f h d same ps)

-- ---- branches that wait
pub some_wait : (rest : List Branch) (b : Branch) → rest ++ b ∷ [] ≢ []
some_wait [] b h = cc
some_wait (c ∷ rest) b h = cc

pub not_idle : (waiting : List Branch) → waiting ≢ [] → nothing_waits waiting ≡ false
not_idle [] h = absurd (h refl)
not_idle (b ∷ bs) h = refl

-- ---- depths that do not fall
pub rising_last : (low top : ℕ) (bs : List Branch) (b : Branch) → IsRising low top (bs ++ b ∷ []) → IsRising low b.depth bs × (b.depth ≤ top) × (low ≤ b.depth)
rising_last low top [] b r = (tt, r.1, r.0)
rising_last low top (c ∷ bs) b r = let q = rising_last c.depth top bs b r.2 in ((r.0, q.2, q.0), q.1, omega (arith, r.0, q.2))

pub rising_weaker : (low top top' : ℕ) (bs : List Branch) → top ≤ top' → IsRising low top bs → IsRising low top' bs
rising_weaker low top top' [] l r = tt
rising_weaker low top top' (b ∷ bs) l r = (r.0, omega (arith, r.1, l), rising_weaker b.depth top top' bs l r.2)

rising_all : (low d : ℕ) (ps : List ℕ) → low ≤ d → IsRising low d (branches_at d ps)
rising_all low d [] l = tt
rising_all low d (p ∷ ps) l = (l, omega arith, rising_all d d ps (omega arith))

pub rising_more : (low d : ℕ) (bs : List Branch) (ps : List ℕ) → low ≤ d → IsRising low d bs → IsRising low d (bs ++ branches_at d ps)
rising_more low d [] ps l r = rising_all low d ps l
rising_more low d (b ∷ bs) ps l r = (r.0, r.1, rising_more b.depth d bs ps r.1 r.2)

each_of-same : {B : Type 0} (f h : Branch → List B) (low top : ℕ) (bs : List Branch) → IsRising low top bs → ((b : Branch) → b.depth ≤ top → f b ≡ h b) → each_of f bs ≡ each_of h bs
each_of-same f h low top [] r same = refl
each_of-same f h low top (b ∷ bs) r same = ap (λ zs. zs ++ f b) (each_of-same f h b.depth top bs r.2 same) ∙ ap (λ z. each_of h bs ++ z) (same b r.1)

-- ---- numbers in a list
pub in_of : (xs : List ℕ) (k : ℕ) → HasNode nat_eq xs k → is_in xs k ≡ true
in_of [] k h = absurd h
in_of (x ∷ xs) k (inl e) = ap (λ b. b || is_in xs k) e
in_of (x ∷ xs) k (inr h) = elim (bool_dec (nat_eq x k)) as (λ _. (nat_eq x k || is_in xs k) ≡ true) [ inl e ↦ ap (λ b. b || is_in xs k) e | inr e ↦ ap (λ b. b || is_in xs k) e ∙ in_of xs k h ]

pub of_in : (xs : List ℕ) (k : ℕ) → is_in xs k ≡ true → HasNode nat_eq xs k
of_in [] k h = absurd (true≢false (sym h))
of_in (x ∷ xs) k h = elim (bool_dec (nat_eq x k)) as (λ _. HasNode nat_eq (x ∷ xs) k) [ inl e ↦ inl e | inr e ↦ inr (of_in xs k (sym (ap (λ b. b || is_in xs k) e) ∙ h)) ]

pub HasNode-take : (d : ℕ) (xs : List ℕ) (k : ℕ) → HasNode nat_eq (take d xs) k → (i : ℕ) × (i < d) × (slice_get xs i ≡ Some k)
HasNode-take zero [] k h = absurd h
HasNode-take (suc d) [] k h = absurd h
HasNode-take zero (x ∷ xs) k h = absurd h
HasNode-take (suc d) (x ∷ xs) k (inl e) = (0, omega arith, ap Some (eqb-true x k e))
HasNode-take (suc d) (x ∷ xs) k (inr h) = let r = HasNode-take d xs k h in (suc r.0, omega (arith, r.1), r.2)

pub at_HasNode : (xs : List ℕ) (i k : ℕ) → slice_get xs i ≡ Some k → HasNode nat_eq xs k
at_HasNode [] i k h = absurd (none_in i k h)
at_HasNode (x ∷ xs) zero k h = let e : Some x ≡ Some k = h in let q : x ≡ k = cc in inl (eq-eqb x k q)
at_HasNode (x ∷ xs) (suc i) k h = inr (at_HasNode xs i k h)

HasNode-more : (xs : List ℕ) (x k : ℕ) → HasNode nat_eq xs k → HasNode nat_eq (xs ++ x ∷ []) k
HasNode-more [] x k h = absurd h
HasNode-more (y ∷ xs) x k (inl e) = inl e
HasNode-more (y ∷ xs) x k (inr h) = inr (HasNode-more xs x k h)

HasNode-last : (xs : List ℕ) (x k : ℕ) → nat_eq x k ≡ true → HasNode nat_eq (xs ++ x ∷ []) k
HasNode-last [] x k e = inl e
HasNode-last (y ∷ xs) x k e = inr (HasNode-last xs x k e)

pub reverse-HasNode : (xs : List ℕ) (k : ℕ) → HasNode nat_eq xs k → HasNode nat_eq (reverse xs) k
reverse-HasNode [] k h = h
reverse-HasNode (x ∷ xs) k (inl e) = subst (λ ys. HasNode nat_eq ys k) (sym (reverse-cons x xs)) (HasNode-last (reverse xs) x k e)
reverse-HasNode (x ∷ xs) k (inr h) = subst (λ ys. HasNode nat_eq ys k) (sym (reverse-cons x xs)) (HasNode-more (reverse xs) x k (reverse-HasNode xs k h))

same_bool : (a b : Bool) → (a ≡ true → b ≡ true) → (b ≡ true → a ≡ true) → a ≡ b
same_bool true true f h = refl
same_bool true false f h = sym (f refl)
same_bool false true f h = h refl
same_bool false false f h = refl

-- whether a number stands on the first numbers of the way, by its place
module _ (way places : List ℕ) (d v place : ℕ) (placed : (i k : ℕ) → slice_get way i ≡ Some k → slice_get places k ≡ Some i) (at : slice_get places v ≡ Some place) where
  is_place : is_in (reverse (take d way)) v ≡ true → (place < d) × (slice_get way place ≡ Some v)
  is_place h =
      let r = HasNode-take d way v (HasNode-reverse (take d way) v (of_in (reverse (take d way)) v h)) in
      let e : Some place ≡ Some r.0 = sym at ∙ placed r.0 v r.2 in
      let q : r.0 ≡ place = cc in
      (subst (λ (n : ℕ). n < d) q r.1, subst (λ (n : ℕ). slice_get way n ≡ Some v) q r.2)

  pub on_way : place < d → (k : ℕ) → slice_get way place ≡ Some k → nat_eq k v ≡ is_in (reverse (take d way)) v
  on_way l k here = same_bool (nat_eq k v) (is_in (reverse (take d way)) v)
      (λ e. in_of (reverse (take d way)) v (reverse-HasNode (take d way) v (at_HasNode (take d way) place v (get_take d way place v l (subst (λ (n : ℕ). slice_get way place ≡ Some n) (eqb-true k v e) here)))))
      (λ e. let q : Some k ≡ Some v = sym here ∙ (is_place e).1 in let same : k ≡ v = cc in eq-eqb k v same)

  pub off_way : d ≤ place → is_in (reverse (take d way)) v ≡ false
  off_way l = elim (bool_dec (is_in (reverse (take d way)) v)) as (λ _. is_in (reverse (take d way)) v ≡ false) [ inl e ↦ absurd (omega (arith, l, (is_place e).0)) | inr e ↦ e ]

-- ---- the way goes on to a number
pub take_kept : (b d : ℕ) (way : List ℕ) (v : ℕ) → b ≤ d → d ≤ length way → take b (take d way ++ v ∷ []) ≡ take b way
take_kept zero zero [] v l m = refl
take_kept zero zero (x ∷ way) v l m = refl
take_kept zero (suc d) [] v l m = refl
take_kept zero (suc d) (x ∷ way) v l m = refl
take_kept (suc b) zero way v l m = absurd (omega (arith, l))
take_kept (suc b) (suc d) [] v l m = absurd (omega (arith, m))
take_kept (suc b) (suc d) (x ∷ way) v l m = ap (λ xs. x ∷ xs) (take_kept b d way v (omega (arith, l)) (omega (arith, m)))

pub length_kept : (d : ℕ) (way : List ℕ) → d ≤ length way → length (take d way) ≡ d
length_kept zero [] l = refl
length_kept zero (x ∷ way) l = refl
length_kept (suc d) [] l = absurd (omega (arith, l))
length_kept (suc d) (x ∷ way) l = ap suc (length_kept d way (omega (arith, l)))

pub length_more : {A : Type 0} (xs : List A) (v : A) → length (xs ++ v ∷ []) ≡ length xs + 1
length_more [] v = refl
length_more (x ∷ xs) v = omega (arith, length_more xs v)

take_whole : (xs : List ℕ) (n : ℕ) → length xs ≤ n → take n xs ≡ xs
take_whole [] zero l = refl
take_whole [] (suc n) l = refl
take_whole (x ∷ xs) zero l = absurd (omega (arith, l))
take_whole (x ∷ xs) (suc n) l = ap (λ ys. x ∷ ys) (take_whole xs n (omega (arith, l)))

NoRepeats-take : (d : ℕ) (xs : List ℕ) → NoRepeats nat_eq xs → NoRepeats nat_eq (take d xs)
NoRepeats-take zero [] h = tt
NoRepeats-take (suc d) [] h = tt
NoRepeats-take zero (x ∷ xs) h = tt
NoRepeats-take (suc d) (x ∷ xs) h = ((λ k. let r = HasNode-take d xs x k in h.0 (at_HasNode xs r.0 x r.2)), NoRepeats-take d xs h.1)

nat_symm : (x y : ℕ) → nat_eq x y ≡ true → nat_eq y x ≡ true
nat_symm x y h = eq-eqb y x (sym (eqb-true x y h))

pub if_false : {A : Type 0} (b : Bool) (x y : A) → b ≡ false → (if b then x else y) ≡ y
if_false true x y h = absurd (true≢false h)
if_false false x y h = refl

pub if_true : {A : Type 0} (b : Bool) (x y : A) → b ≡ true → (if b then x else y) ≡ x
if_true true x y h = refl
if_true false x y h = absurd (true≢false (sym h))

length_set : (xs : List ℕ) (n v : ℕ) → length (slice_set xs n v) ≡ length xs
length_set [] n v = refl
length_set (x ∷ xs) zero v = refl
length_set (x ∷ xs) (suc n) v = ap suc (length_set xs n v)

Contains-snoc : {A : Type 0} (xs : List A) (x y : A) → Contains xs y → Contains (xs ++ x ∷ []) y
Contains-snoc [] x y h = absurd (omega (arith, h.1))
Contains-snoc (z ∷ xs) x y h = elim (Contains-cases xs z y h) as (λ _. Contains (z ∷ (xs ++ x ∷ [])) y) [ inl e ↦ subst (λ w. Contains (z ∷ (xs ++ x ∷ [])) w) e (Contains-head (xs ++ x ∷ []) z) | inr i ↦ Contains-tail (xs ++ x ∷ []) z y (Contains-snoc xs x y i) ]

Contains-end : {A : Type 0} (xs : List A) (x : A) → Contains (xs ++ x ∷ []) x
Contains-end [] x = Contains-head [] x
Contains-end (z ∷ xs) x = Contains-tail (xs ++ x ∷ []) z x (Contains-end xs x)

Contains-branches : (bs : List Branch) (d : ℕ) (ps : List ℕ) (b : Branch) → Contains (bs ++ branches_at d ps) b → Contains bs b ⊎ HasNode nat_eq ps b.number
Contains-branches [] d [] b h = absurd (omega (arith, h.1))
Contains-branches [] d (p ∷ ps) b h = elim (Contains-cases (branches_at d ps) (record { number = p; depth = d }) b h) as (λ _. Contains [] b ⊎ HasNode nat_eq (p ∷ ps) b.number) [
  | inl e ↦ inr (inl (eq-eqb p b.number (ap (λ (c : Branch). c.number) e)))
  | inr i ↦ elim (Contains-branches [] d ps b i) as (λ _. Contains [] b ⊎ HasNode nat_eq (p ∷ ps) b.number) [ inl j ↦ inl j | inr j ↦ inr (inr j) ]
]
Contains-branches (c ∷ bs) d ps b h = elim (Contains-cases (bs ++ branches_at d ps) c b h) as (λ _. Contains (c ∷ bs) b ⊎ HasNode nat_eq ps b.number) [
  | inl e ↦ inl (subst (λ w. Contains (c ∷ bs) w) e (Contains-head bs c))
  | inr i ↦ elim (Contains-branches bs d ps b i) as (λ _. Contains (c ∷ bs) b ⊎ HasNode nat_eq ps b.number) [ inl j ↦ inl (Contains-tail bs c b j) | inr j ↦ inr j ]
]

module _ (n : ℕ) (before : ℕ → List ℕ) (way places : List ℕ) (rest : List Branch) (b : Branch) (a : AreWays n before way places (rest ++ b ∷ [])) where
  deep : b.depth ≤ length way
  deep = (rising_last 0 (length way) rest b a.rising).1

  pub branch_inside : b.number < n
  branch_inside = a.targets b (Contains-end rest b)

  -- ---- the branch is dropped
  ways_none : (most v : ℕ) (path : List ℕ) → is_in path v ≡ true → ways before most path v ≡ []
  ways_none zero v path h = refl
  ways_none (suc most) v path h = if_true (is_in path v) _ _ h

  pub left_dropped : is_in (reverse (take b.depth way)) b.number ≡ true → ways_left before n way rest ≡ ways_left before n way (rest ++ b ∷ [])
  left_dropped h =
      let f : Branch → List (List ℕ) = λ (c : Branch). ways before (n - c.depth) (reverse (take c.depth way)) c.number in
      sym (each_of-append f rest (b ∷ []) ∙ ap (λ zs. zs ++ each_of f rest) (ways_none (n - b.depth) b.number (reverse (take b.depth way)) h))

  pub kept_dropped : AreWays n before way places rest
  kept_dropped = record {
    below = a.below;
    wide = a.wide;
    distinct = a.distinct;
    inside = a.inside;
    placed = a.placed;
    rising = let r = rising_last 0 (length way) rest b a.rising in rising_weaker 0 b.depth (length way) rest r.1 r.0;
    targets = λ c h. a.targets c (Contains-snoc rest b c h);
  }

  tries_some : (most v : ℕ) → 0 < tries before most v
  tries_some zero v = omega arith
  tries_some (suc most) v = omega arith

  pub fewer_dropped : tries_left before n rest < tries_left before n (rest ++ b ∷ [])
  fewer_dropped =
      let f : Branch → ℕ = λ (c : Branch). tries before (n - c.depth) c.number in
      omega (arith, sum_by-append f rest (b ∷ []), tries_some (n - b.depth) b.number)

  -- ---- the branch is entered
  module _ (off : is_in (reverse (take b.depth way)) b.number ≡ false) where
    abbrev new_way : List ℕ
    new_way = take b.depth way ++ b.number ∷ []

    apart : ¬ (HasNode nat_eq (take b.depth way) b.number)
    apart h = true≢false (sym (in_of (reverse (take b.depth way)) b.number (reverse-HasNode (take b.depth way) b.number h)) ∙ off)

    pub new_length : length (take b.depth way ++ b.number ∷ []) ≡ b.depth + 1
    new_length = length_more (take b.depth way) b.number ∙ ap (λ (k : ℕ). k + 1) (length_kept b.depth way deep)

    new_distinct : NoRepeats nat_eq (take b.depth way ++ b.number ∷ [])
    new_distinct = NoRepeats-append nat_eq nat_symm (take b.depth way) b.number (NoRepeats-take b.depth way a.distinct) apart

    new_inside : (j : ℕ) → HasNode nat_eq (take b.depth way ++ b.number ∷ []) j → j < n
    new_inside j h = elim (HasNode-append_cases nat_eq (take b.depth way) b.number j h) as (λ _. j < n) [
      | inl i ↦ let r = HasNode-take b.depth way j i in a.inside j (at_HasNode way r.0 j r.2)
      | inr e ↦ subst (λ (k : ℕ). k < n) (eqb-true b.number j e) branch_inside
    ]

    few : b.depth < n
    few = omega (arith, few_below n (take b.depth way ++ b.number ∷ []) new_distinct new_inside, new_length)

    new_placed : (i k : ℕ) → slice_get (take b.depth way ++ b.number ∷ []) i ≡ Some k → slice_get (slice_set places b.number b.depth) k ≡ Some i
    new_placed i k h = elim (get_push (take b.depth way) b.number i k h) as (λ _. slice_get (slice_set places b.number b.depth) k ≡ Some i) [
      | inl old ↦ elim (get_set places b.number k b.depth (omega (arith, branch_inside, a.wide))) as (λ _. slice_get (slice_set places b.number b.depth) k ≡ Some i) [
        | inl e ↦ absurd (apart (at_HasNode (take b.depth way) i b.number (subst (λ (m : ℕ). slice_get (take b.depth way) i ≡ Some m) e.0 old)))
        | inr e ↦ e.1 ∙ a.placed i k (take_get b.depth way i k old)
      ]
      | inr e ↦ elim (get_set places b.number k b.depth (omega (arith, branch_inside, a.wide))) as (λ _. slice_get (slice_set places b.number b.depth) k ≡ Some i) [
        | inl q ↦ q.1 ∙ ap Some (sym (e.0 ∙ length_kept b.depth way deep))
        | inr q ↦ absurd (q.0 (sym e.1))
      ]
    ]

    pub kept_entered : (waiting : List Branch) → IsRising 0 (b.depth + 1) waiting → ((c : Branch) → Contains waiting c → c.number < n) → AreWays n before (take b.depth way ++ b.number ∷ []) (slice_set places b.number b.depth) waiting
    kept_entered waiting rise targets = record {
      below = a.below;
      wide = length_set places b.number b.depth ∙ a.wide;
      distinct = new_distinct;
      inside = new_inside;
      placed = new_placed;
      rising = subst (λ (k : ℕ). IsRising 0 k waiting) (sym new_length) rise;
      targets = targets;
    }

    pub kept_same : AreWays n before (take b.depth way ++ b.number ∷ []) (slice_set places b.number b.depth) (rest ++ b ∷ [])
    kept_same =
        let r = rising_last 0 (length way) rest b a.rising in
        kept_entered (rest ++ b ∷ []) (rising_weaker 0 b.depth (b.depth + 1) (rest ++ b ∷ []) (omega arith) (rising_more 0 b.depth rest (b.number ∷ []) (omega arith) r.0)) a.targets

    same_ways : (waiting : List Branch) → IsRising 0 b.depth waiting → ways_left before n (take b.depth way ++ b.number ∷ []) waiting ≡ ways_left before n way waiting
    same_ways waiting rise = each_of-same (λ (c : Branch). ways before (n - c.depth) (reverse (take c.depth (take b.depth way ++ b.number ∷ []))) c.number) (λ (c : Branch). ways before (n - c.depth) (reverse (take c.depth way)) c.number)
        0 b.depth waiting rise (λ c l. ap (λ xs. ways before (n - c.depth) (reverse xs) c.number) (take_kept c.depth b.depth way b.number l deep))

    pub left_same : ways_left before n (take b.depth way ++ b.number ∷ []) (rest ++ b ∷ []) ≡ ways_left before n way (rest ++ b ∷ [])
    left_same = let r = rising_last 0 (length way) rest b a.rising in same_ways (rest ++ b ∷ []) (rising_more 0 b.depth rest (b.number ∷ []) (omega arith) r.0)

    way_back : reverse (take b.depth way ++ b.number ∷ []) ≡ b.number ∷ reverse (take b.depth way)
    way_back = reverse-append (take b.depth way) (b.number ∷ [])

    more_room : n - b.depth ≡ suc (n - (b.depth + 1))
    more_room = omega (arith, few)

    -- the first number is reached
    pub whole : b.number ≡ 0 → IsWhole before n (take b.depth way ++ b.number ∷ []) (rest ++ b ∷ [])
    whole zero_here =
        let path = reverse (take b.depth way) in
        let f : Branch → List (List ℕ) = λ (c : Branch). ways before (n - c.depth) (reverse (take c.depth (take b.depth way ++ b.number ∷ []))) c.number in
        let at : f b ≡ ways before (n - b.depth) path b.number = ap (λ xs. ways before (n - b.depth) (reverse xs) b.number) (take_kept b.depth b.depth way b.number (omega arith) deep) in
        let one : ways before (n - b.depth) path b.number ≡ (b.number ∷ path) ∷ [] =
        ap (λ (k : ℕ). ways before k path b.number) more_room
        ∙ if_false (is_in path b.number) _ _ off
        ∙ if_true (nat_eq b.number 0) _ _ (eq-eqb b.number 0 zero_here) in
        (rest, b, refl, each_of-append f rest (b ∷ []) ∙ ap (λ zs. zs ++ each_of f rest) (at ∙ one ∙ ap (λ xs. xs ∷ []) (sym way_back)))

    -- the numbers before it are tried
    module _ (on : b.number ≢ 0) where
      pub kept_opened : AreWays n before (take b.depth way ++ b.number ∷ []) (slice_set places b.number b.depth) (rest ++ branches_at (b.depth + 1) (before b.number))
      kept_opened =
          let r = rising_last 0 (length way) rest b a.rising in
          kept_entered (rest ++ branches_at (b.depth + 1) (before b.number)) (rising_more 0 (b.depth + 1) rest (before b.number) (omega arith) (rising_weaker 0 b.depth (b.depth + 1) rest (omega arith) r.0))
          (λ c h. elim (Contains-branches rest (b.depth + 1) (before b.number) c h) as (λ _. c.number < n) [ inl i ↦ a.targets c (Contains-snoc rest b c i) | inr i ↦ a.below b.number c.number i ])

      pub left_opened : ways_left before n (take b.depth way ++ b.number ∷ []) (rest ++ branches_at (b.depth + 1) (before b.number)) ≡ ways_left before n way (rest ++ b ∷ [])
      left_opened =
          let r = rising_last 0 (length way) rest b a.rising in
          let path = reverse (take b.depth way) in
          let f : Branch → List (List ℕ) = λ (c : Branch). ways before (n - c.depth) (reverse (take c.depth (take b.depth way ++ b.number ∷ []))) c.number in
          let h : Branch → List (List ℕ) = λ (c : Branch). ways before (n - c.depth) (reverse (take c.depth way)) c.number in
          let whole_way : take (b.depth + 1) (take b.depth way ++ b.number ∷ []) ≡ take b.depth way ++ b.number ∷ [] = take_whole (take b.depth way ++ b.number ∷ []) (b.depth + 1) (omega (arith, new_length)) in
          let here : each_of f (branches_at (b.depth + 1) (before b.number)) ≡ each_of (ways before (n - (b.depth + 1)) (b.number ∷ path)) (before b.number) =
          each_of-branches f (ways before (n - (b.depth + 1)) (b.number ∷ path)) (b.depth + 1) (λ p. ap (λ xs. ways before (n - (b.depth + 1)) xs p) (ap reverse whole_way ∙ way_back)) (before b.number) in
          let now : h b ≡ each_of (ways before (n - (b.depth + 1)) (b.number ∷ path)) (before b.number) =
          ap (λ (k : ℕ). ways before k path b.number) more_room
          ∙ if_false (is_in path b.number) _ _ off
          ∙ if_false (nat_eq b.number 0) _ _ (elim (bool_dec (nat_eq b.number 0)) as (λ _. nat_eq b.number 0 ≡ false) [ inl e ↦ absurd (on (eqb-true b.number 0 e)) | inr e ↦ e ]) in
          each_of-append f rest (branches_at (b.depth + 1) (before b.number))
          ∙ ap (λ zs. zs ++ each_of f rest) (here ∙ sym now)
          ∙ ap (λ zs. h b ++ zs) (same_ways rest r.0)
          ∙ sym (each_of-append h rest (b ∷ []))

      pub fewer_opened : tries_left before n (rest ++ branches_at (b.depth + 1) (before b.number)) < tries_left before n (rest ++ b ∷ [])
      fewer_opened =
          let f : Branch → ℕ = λ (c : Branch). tries before (n - c.depth) c.number in
          let here : sum_by f (branches_at (b.depth + 1) (before b.number)) ≡ sum_by (tries before (n - (b.depth + 1))) (before b.number) = sum_by-branches f (tries before (n - (b.depth + 1))) (b.depth + 1) (λ p. refl) (before b.number) in
          let now : tries before (n - b.depth) b.number ≡ suc (sum_by (tries before (n - (b.depth + 1))) (before b.number)) = ap (λ (k : ℕ). tries before k b.number) more_room in
          omega (arith, sum_by-append f rest (b ∷ []), sum_by-append f rest (branches_at (b.depth + 1) (before b.number)), here, now)

-- ---- no way was found yet
pub start_ways : (n : ℕ) (before : ℕ → List ℕ) (way places goals : List ℕ) → way ≡ [] → ((k j : ℕ) → HasNode nat_eq (before k) j → j < n) → length places ≡ n → ((j : ℕ) → HasNode nat_eq goals j → j < n) → AreWays n before way places (branches_at 0 goals)
start_ways n before way places goals is below wide inside = record {
  below = below;
  wide = wide;
  distinct = subst (NoRepeats nat_eq) (sym is) tt;
  inside = λ j h. absurd (subst (λ ys. HasNode nat_eq ys j) is h);
  placed = λ i k h. absurd (none_in i k (subst (λ ys. slice_get ys i ≡ Some k) is h));
  rising = subst (λ ys. IsRising 0 (length ys) (branches_at 0 goals)) (sym is) (rising_more 0 0 [] goals (omega arith) tt);
  targets = λ b h. elim (Contains-branches [] 0 goals b h) as (λ _. b.number < n) [ inl i ↦ absurd (omega (arith, i.1)) | inr i ↦ inside b.number i ];
}

pub start_left : (n : ℕ) (before : ℕ → List ℕ) (way goals : List ℕ) → way ≡ [] → ways_left before n way (branches_at 0 goals) ≡ each_of (ways_to before n) goals
start_left n before way goals is =
    subst (λ ys. ways_left before n ys (branches_at 0 goals) ≡ each_of (ways_to before n) goals) (sym is)
    (each_of-branches (λ (b : Branch). ways before (n - b.depth) (reverse (take b.depth [])) b.number) (ways_to before n) 0 (λ p. ap (λ (k : ℕ). ways before k [] p) (let e : n - 0 ≡ n = omega arith in e)) goals)
