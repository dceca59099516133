-- Lemmas on numbers in groups, by rounds.
use Rattle.std.proofs.Common.{◌≡◌, ◌≢◌, ◌<◌, ◌≤◌, ◌+◌, ◌∙◌, ℕ, zero, suc, refl, sym, ap, subst, arith, inl, inr, Bool, true, false, true≢false, cond, Some, List, [], ◌∷◌, ◌++◌, length, length-append, replicate, take, nat_eq, eq-eqb, get_or}
use Rattle.std.specs.Prelude.{◌⊎◌, ◌↔◌, Vec, slice_get, slice_set, nat_lt, Result, Ok, Err, IfErr, IsErrAnd}
use Rattle.std.proofs.lemmas.Bool.{lt-ltb, ltb-true}
use Rattle.std.proofs.lemmas.List.Sums.{sum_by-append, sum_by-set}
use Rattle.std.proofs.lemmas.Option.{slice_get_within}
use borrow.Author.Tests.{eqb-true}
use Rattle.pf_base.specs.Walks.{HasNode, NoRepeats}
use Rattle.pf_base.specs.declared.error.PathError.{PathError}
use Rattle.pf_base.specs.declared.error.PathError.TheVariants.{OutOfMemory, UnknownVertex}
use Rattle.pf_base.proofs.ListLemmas.{nat_dec, bool_dec, get-append_cases, get_set, get-append, none_in}
use Rattle.pf_core.proofs.PathLemmas.{HasNode-append_cases, NoRepeats-append}
use Rattle.pf_orders.specs.GroupDepths.{InGroup}
use Rattle.pf_orders.specs.Internal.Rounds.{times, times_in, Targets, AreCounted, Falls, AreFreed, IsRound, AreLevels}

-- ---- refusals

-- a refusal of memory is no other
pub only_memory : {X : Type 0} (r : Result X PathError) (e : PathError) → IsErrAnd r (λ f. f ≡ e) → e ≡ OutOfMemory → ¬ (r ≡ Err UnknownVertex)
only_memory (Ok x) e h m u = cc
only_memory (Err f) e h m u = let same : f ≡ e = h in cc

-- a refusal of memory is one of the refusals
pub memory_of : {X : Type 0} (r : Result X PathError) (e : PathError) → IsErrAnd r (λ f. f ≡ e) → e ≡ OutOfMemory → IfErr r (λ f. (f ≡ OutOfMemory) ⊎ (f ≡ UnknownVertex))
memory_of (Ok x) e h m = tt
memory_of (Err f) e h m = let same : f ≡ e = h in inl (same ∙ m)

-- ---- lists

get_same : {A : Type 0} (xs : List A) (k : ℕ) (x y : A) → slice_get xs k ≡ Some x → slice_get xs k ≡ Some y → x ≡ y
get_same xs k x y h i = let e : Some x ≡ Some y = sym h ∙ i in cc

pub get_below : {A : Type 0} (xs : List A) (j : ℕ) → j < length xs → (x : A) × (slice_get xs j ≡ Some x)
get_below [] j h = absurd (omega (arith, h))
get_below (x ∷ xs) zero h = (x, refl)
get_below (x ∷ xs) (suc j) h = get_below xs j (omega (arith, h))

get_at : {A : Type 0} (xs : List A) (n : ℕ) (x : A) → slice_get xs n ≡ Some x → get_or xs n x ≡ x
get_at [] n x h = refl
get_at (y ∷ ys) zero x h = let e : Some y ≡ Some x = h in cc
get_at (y ∷ ys) (suc n) x h = get_at ys n x h

set_len : {A : Type 0} (xs : List A) (i : ℕ) (v : A) → length (slice_set xs i v) ≡ length xs
set_len [] i v = refl
set_len (x ∷ xs) zero v = refl
set_len (x ∷ xs) (suc i) v = ap suc (set_len xs i v)

set_here : {A : Type 0} (xs : List A) (n : ℕ) (v : A) → n < length xs → slice_get (slice_set xs n v) n ≡ Some v
set_here xs n v h = elim (get_set xs n n v h) as (λ _. slice_get (slice_set xs n v) n ≡ Some v) [ inl r ↦ r.1 | inr r ↦ absurd (r.0 refl) ]

set_there : {A : Type 0} (xs : List A) (n i : ℕ) (v : A) → n < length xs → i ≢ n → slice_get (slice_set xs n v) i ≡ slice_get xs i
set_there xs n i v h e = elim (get_set xs n i v h) as (λ _. slice_get (slice_set xs n v) i ≡ slice_get xs i) [ inl r ↦ absurd (e r.0) | inr r ↦ r.1 ]

pub HasNode-left : {N : Type 0} (eq : N → N → Bool) (xs ys : List N) (x : N) → HasNode eq xs x → HasNode eq (xs ++ ys) x
HasNode-left eq [] ys x h = absurd h
HasNode-left eq (y ∷ xs) ys x (inl e) = inl e
HasNode-left eq (y ∷ xs) ys x (inr h) = inr (HasNode-left eq xs ys x h)

pub HasNode-right : {N : Type 0} (eq : N → N → Bool) (xs ys : List N) (x : N) → HasNode eq ys x → HasNode eq (xs ++ ys) x
HasNode-right eq [] ys x h = h
HasNode-right eq (y ∷ xs) ys x h = inr (HasNode-right eq xs ys x h)

pub HasNode-cases : {N : Type 0} (eq : N → N → Bool) (xs ys : List N) (x : N) → HasNode eq (xs ++ ys) x → HasNode eq xs x ⊎ HasNode eq ys x
HasNode-cases eq [] ys x h = inr h
HasNode-cases eq (y ∷ xs) ys x (inl e) = inl (inl e)
HasNode-cases eq (y ∷ xs) ys x (inr h) = elim (HasNode-cases eq xs ys x h) as (λ _. HasNode eq (y ∷ xs) x ⊎ HasNode eq ys x) [ inl i ↦ inl (inr i) | inr i ↦ inr i ]

-- ---- numbers of a list, and how often they stand there

has_last : (xs : List ℕ) (x : ℕ) → HasNode nat_eq (xs ++ x ∷ []) x
has_last xs x = HasNode-right nat_eq xs (x ∷ []) x (inl (eq-eqb x x refl))

not_same : (j t : ℕ) → j ≢ t → nat_eq j t ≡ false
not_same j t n = elim (bool_dec (nat_eq j t)) as (λ _. nat_eq j t ≡ false) [ inl e ↦ absurd (n (eqb-true j t e)) | inr e ↦ e ]

numbers_append : (xs ys : List ℕ) → NoRepeats nat_eq xs → NoRepeats nat_eq ys → ((j : ℕ) → HasNode nat_eq xs j → ¬ (HasNode nat_eq ys j)) → NoRepeats nat_eq (xs ++ ys)
numbers_append [] ys a b f = b
numbers_append (x ∷ xs) ys a b f = (
  (λ h. elim (HasNode-cases nat_eq xs ys x h) as (λ _. ⊥) [ inl i ↦ a.0 i | inr i ↦ f x (inl (eq-eqb x x refl)) i ]),
  numbers_append xs ys a.1 b (λ j h. f j (inr h)),
)

number_symm : (x y : ℕ) → nat_eq x y ≡ true → nat_eq y x ≡ true
number_symm x y e = eq-eqb y x (sym (eqb-true x y e))

one_time : ℕ → ℕ → ℕ
one_time j x = cond (nat_eq j x) 1 0

times-push : (j : ℕ) (xs : List ℕ) (t : ℕ) → times j (xs ++ t ∷ []) ≡ times j xs + times j (t ∷ [])
times-push j xs t = sum_by-append (λ x. cond (nat_eq j x) 1 0) xs (t ∷ [])

times-cons : (j x : ℕ) (xs : List ℕ) → times j (x ∷ xs) ≡ times j (x ∷ []) + times j xs
times-cons j x xs = sum_by-append (λ y. cond (nat_eq j y) 1 0) (x ∷ []) xs

times-here : (t : ℕ) → times t (t ∷ []) ≡ 1
times-here t = ap (λ b. 0 + cond b 1 0) (eq-eqb t t refl)

times-there : (j t : ℕ) → j ≢ t → times j (t ∷ []) ≡ 0
times-there j t n = ap (λ b. 0 + cond b 1 0) (not_same j t n)

pub times-take : (j i : ℕ) (xs : List ℕ) → times j (take i xs) ≤ times j xs
times-take j zero [] = omega arith
times-take j (suc i) [] = omega arith
times-take j zero (x ∷ xs) = omega arith
times-take j (suc i) (x ∷ xs) = omega (arith, times-cons j x (take i xs), times-cons j x xs, times-take j i xs)

-- a number that stands in a list once or more often is one of its members
pub times-has : (j : ℕ) (xs : List ℕ) → 0 < times j xs → HasNode nat_eq xs j
times-has j [] h = absurd (omega (arith, h))
times-has j (x ∷ xs) h = elim (nat_dec j x) as (λ _. HasNode nat_eq (x ∷ xs) j) [
  | inl e ↦ inl (eq-eqb x j (sym e))
  | inr n ↦ inr (times-has j xs (omega (arith, h, times-cons j x xs, times-there j x n)))
]

pub has-times : (j : ℕ) (xs : List ℕ) → HasNode nat_eq xs j → 0 < times j xs
has-times j [] h = absurd h
has-times j (x ∷ xs) (inl e) = let q : times j (x ∷ []) ≡ 1 = subst (λ (i : ℕ). times j (i ∷ []) ≡ 1) (sym (eqb-true x j e)) (times-here j) in omega (arith, times-cons j x xs, q)
has-times j (x ∷ xs) (inr h) = omega (arith, times-cons j x xs, has-times j xs h)

-- ---- a count falls

module _ (pre counts counts1 freed : List ℕ) (t d : ℕ) (f : Falls pre counts counts1) (z : AreFreed counts counts1 freed) (at : slice_get counts1 t ≡ Some (d + 1)) where
  t_inside : t < length counts1
  t_inside = slice_get_within counts1 t (d + 1) at

  abbrev counts2 : List ℕ
  counts2 = slice_set counts1 t d

  there : (j : ℕ) → j ≢ t → slice_get counts2 j ≡ slice_get counts1 j
  there j n = set_there counts1 t j d t_inside n

  here : slice_get counts2 t ≡ Some d
  here = set_here counts1 t d t_inside

  not_t : (j : ℕ) → slice_get counts1 j ≡ Some 0 → j ≢ t
  not_t j h e = let q = get_same counts1 t 0 (d + 1) (subst (λ (i : ℕ). slice_get counts1 i ≡ Some 0) e h) at in omega (arith, q)

  pub falls_more : Falls (pre ++ t ∷ []) counts (slice_set counts1 t d)
  falls_more = record {
    len = set_len counts1 t d ∙ f.len;
    fell = λ j c h.
        let q = f.fell j c h in
        elim (nat_dec j t) as (λ _. (e : ℕ) × (slice_get counts2 j ≡ Some e) × (c ≡ e + times j (pre ++ t ∷ []))) [
          | inl e ↦
              let same : q.0 ≡ d + 1 = get_same counts1 t q.0 (d + 1) (subst (λ (i : ℕ). slice_get counts1 i ≡ Some q.0) e q.1) at in
              let once : times j (t ∷ []) ≡ 1 = subst (λ (i : ℕ). times i (t ∷ []) ≡ 1) (sym e) (times-here t) in
              (d, subst (λ (i : ℕ). slice_get counts2 i ≡ Some d) (sym e) here, omega (arith, q.2, same, once, times-push j pre t))
          | inr n ↦ (q.0, there j n ∙ q.1, omega (arith, q.2, times-there j t n, times-push j pre t))
        ];
  }

  pub freed_same : ¬ (d ≡ 0) → AreFreed counts (slice_set counts1 t d) freed
  freed_same pos = record {
    now = λ j h. let q = z.now j h in (there j (not_t j q.0) ∙ q.0, q.1);
    all = λ j c h l e. elim (nat_dec j t) as (λ _. HasNode nat_eq freed j) [
      | inl i ↦ absurd (pos (sym (get_same counts2 t 0 d (subst (λ (k : ℕ). slice_get counts2 k ≡ Some 0) i e) here)))
      | inr n ↦ z.all j c h l (sym (there j n) ∙ e)
    ];
    once = z.once;
    fewer = let s = sum_by-set (λ (x : ℕ). cond {A = ℕ} (nat_lt 0 x) 1 0) counts1 t d (d + 1) t_inside in
        let was = ap {B = ℕ} (λ x. cond (nat_lt 0 x) 1 0) (get_at counts1 t (d + 1) at) in
        let one : cond {A = ℕ} (nat_lt 0 (d + 1)) 1 0 ≡ 1 = ap {B = ℕ} (λ b. cond b 1 0) (lt-ltb 0 (d + 1) (omega arith)) in
        let two : cond {A = ℕ} (nat_lt 0 d) 1 0 ≡ 1 = ap {B = ℕ} (λ b. cond b 1 0) (lt-ltb 0 d (omega (arith, pos))) in
        omega (arith, z.fewer, s, was, one, two);
  }

  pub freed_more : d ≡ 0 → t < length counts → AreFreed counts (slice_set counts1 t d) (freed ++ t ∷ [])
  freed_more nil inside = record {
    now = λ j h. elim (HasNode-append_cases nat_eq freed t j h) as (λ _. slice_get counts2 j ≡ Some 0 × ((c : ℕ) × (slice_get counts j ≡ Some c) × (0 < c))) [
      | inl i ↦ let q = z.now j i in (there j (not_t j q.0) ∙ q.0, q.1)
      | inr e ↦
          let old = get_below counts t inside in
          let q = f.fell t old.0 old.1 in
          let same : q.0 ≡ d + 1 = get_same counts1 t q.0 (d + 1) q.1 at in
          let i : t ≡ j = eqb-true t j e in
          subst (λ (k : ℕ). slice_get counts2 k ≡ Some 0 × ((c : ℕ) × (slice_get counts k ≡ Some c) × (0 < c))) i (here ∙ ap Some nil, (old.0, old.1, omega (arith, q.2, same)))
    ];
    all = λ j c h l e. elim (nat_dec j t) as (λ _. HasNode nat_eq (freed ++ t ∷ []) j) [
      | inl i ↦ subst (HasNode nat_eq (freed ++ t ∷ [])) (sym i) (has_last freed t)
      | inr n ↦ HasNode-left nat_eq freed (t ∷ []) j (z.all j c h l (sym (there j n) ∙ e))
    ];
    once = NoRepeats-append nat_eq number_symm freed t z.once (λ h. not_t t (z.now t h).0 refl);
    fewer = let s = sum_by-set (λ (x : ℕ). cond {A = ℕ} (nat_lt 0 x) 1 0) counts1 t d (d + 1) t_inside in
        let was = ap {B = ℕ} (λ x. cond (nat_lt 0 x) 1 0) (get_at counts1 t (d + 1) at) in
        let one : cond {A = ℕ} (nat_lt 0 (d + 1)) 1 0 ≡ 1 = ap {B = ℕ} (λ b. cond b 1 0) (lt-ltb 0 (d + 1) (omega arith)) in
        let two : cond {A = ℕ} (nat_lt 0 d) 1 0 ≡ 0 = ap {B = ℕ} (λ x. cond (nat_lt 0 x) 1 0) nil in
        omega (arith, z.fewer, s, was, one, two, length-append freed (t ∷ []));
  }

-- a count is above 0 where a number of the row is left
pub count_above : (row counts counts1 : List ℕ) (i t count : ℕ) → Falls (take i row) counts counts1 → ((j c : ℕ) → slice_get counts j ≡ Some c → times j row ≤ c) → take (i + 1) row ≡ take i row ++ t ∷ [] → t < length counts → slice_get counts1 t ≡ Some count → 1 ≤ count
count_above row counts counts1 i t count f enough more inside at =
    let old = get_below counts t inside in
    let q = f.fell t old.0 old.1 in
    let same = get_same counts1 t q.0 count q.1 at in
    omega (arith, q.2, same, enough t old.0 old.1, times-take t (i + 1) row, ap (times t) more, times-push t (take i row) t, times-here t)

-- the numbers whose counts are above 0, or are 0, as far as a number
pub record AreNumbersWith (counts : List ℕ) (waiting : Bool) (end : ℕ) (numbers : List ℕ) : Type 0 where
  pub exact : (j : ℕ) → HasNode nat_eq numbers j ↔ ((j < end) × ((c : ℕ) × (slice_get counts j ≡ Some c) × (nat_lt 0 c ≡ waiting)))
  pub once : NoRepeats nat_eq numbers

pub numbers_none : (counts : List ℕ) (waiting : Bool) → AreNumbersWith counts waiting 0 []
numbers_none counts waiting = record { exact = λ j. ((λ h. absurd h), (λ h. absurd (omega (arith, h.0)))); once = tt }

module _ (counts : List ℕ) (waiting : Bool) (i c : ℕ) (at : slice_get counts i ≡ Some c) (old : List ℕ) (s : AreNumbersWith counts waiting i old) where
  pub numbers_more : nat_lt 0 c ≡ waiting → AreNumbersWith counts waiting (i + 1) (old ++ i ∷ [])
  numbers_more e = record {
    exact = λ j. (
      (λ h. elim (HasNode-append_cases nat_eq old i j h) as (λ _. (j < i + 1) × ((d : ℕ) × (slice_get counts j ≡ Some d) × (nat_lt 0 d ≡ waiting))) [
        | inl m ↦ let q = (s.exact j).0 m in (omega (arith, q.0), q.1)
        | inr q ↦ subst (λ (k : ℕ). (k < i + 1) × ((d : ℕ) × (slice_get counts k ≡ Some d) × (nat_lt 0 d ≡ waiting))) (eqb-true i j q) (omega arith, (c, at, e))
      ]),
      (λ h. elim (nat_dec j i) as (λ _. HasNode nat_eq (old ++ i ∷ []) j) [
        | inl q ↦ subst (HasNode nat_eq (old ++ i ∷ [])) (sym q) (has_last old i)
        | inr n ↦ HasNode-left nat_eq old (i ∷ []) j ((s.exact j).1 (omega (arith, h.0, n), h.1))
      ]),
    );
    once = NoRepeats-append nat_eq number_symm old i s.once (λ h. let l = ((s.exact i).0 h).0 in omega (arith, l));
  }

  pub numbers_same : ¬ (nat_lt 0 c ≡ waiting) → AreNumbersWith counts waiting (i + 1) old
  numbers_same fails = record {
    exact = λ j. (
      (λ h. let q = (s.exact j).0 h in (omega (arith, q.0), q.1)),
      (λ h. elim (nat_dec j i) as (λ _. HasNode nat_eq old j) [
        | inl q ↦ absurd (fails (let d = get_same counts i h.1.0 c (subst (λ (k : ℕ). slice_get counts k ≡ Some h.1.0) q h.1.1) at in subst (λ (k : ℕ). nat_lt 0 k ≡ waiting) d h.1.2))
        | inr n ↦ (s.exact j).1 (omega (arith, h.0, n), h.1)
      ]),
    );
    once = s.once;
  }

pub numbers_end : (counts : List ℕ) (waiting : Bool) (end : ℕ) (numbers : List ℕ) → length counts ≤ end → AreNumbersWith counts waiting end numbers → (j : ℕ) → HasNode nat_eq numbers j ↔ ((c : ℕ) × (slice_get counts j ≡ Some c) × (nat_lt 0 c ≡ waiting))
numbers_end counts waiting end numbers l s j = ((λ h. ((s.exact j).0 h).1), (λ h. (s.exact j).1 (omega (arith, l, slice_get_within counts j h.0 h.1), h)))

-- a count rises
pub rises_more : (pre counts counts1 : List ℕ) (t c : ℕ) → Falls pre counts1 counts → slice_get counts1 t ≡ Some c → Falls (pre ++ t ∷ []) (slice_set counts1 t (c + 1)) counts
rises_more pre counts counts1 t c f at =
    let inside = slice_get_within counts1 t c at in
    record {
      len = f.len ∙ sym (set_len counts1 t (c + 1));
      fell = λ j k h. elim (nat_dec j t) as (λ _. (d : ℕ) × (slice_get counts j ≡ Some d) × (k ≡ d + times j (pre ++ t ∷ []))) [
        | inl e ↦
            let same = get_same (slice_set counts1 t (c + 1)) t k (c + 1) (subst (λ (i : ℕ). slice_get (slice_set counts1 t (c + 1)) i ≡ Some k) e h) (set_here counts1 t (c + 1) inside) in
            let q = f.fell j c (subst (λ (i : ℕ). slice_get counts1 i ≡ Some c) (sym e) at) in
            let once : times j (t ∷ []) ≡ 1 = subst (λ (i : ℕ). times i (t ∷ []) ≡ 1) (sym e) (times-here t) in
            (q.0, q.1, omega (arith, q.2, same, once, times-push j pre t))
        | inr n ↦ let q = f.fell j k (sym (set_there counts1 t j (c + 1) inside n) ∙ h) in (q.0, q.1, omega (arith, q.2, times-there j t n, times-push j pre t))
      ];
    }

-- a row is put behind the others
pub counted_push : {A : Type 0} (rows : List (Vec ℕ A)) (row : Vec ℕ A) (counts counts1 : List ℕ) → AreCounted rows counts → Falls row.items counts1 counts → ((j : ℕ) → HasNode nat_eq row.items j → j < length counts) → AreCounted (rows ++ row ∷ []) counts1
counted_push rows row counts counts1 c f below = record {
  counted = λ j h.
      let now = get_below counts1 j h in
      let q = f.fell j now.0 now.1 in
      let old = c.counted j (slice_get_within counts j q.0 q.1) in
      let e = get_same counts j q.0 (times_in j rows) q.1 old in
      let s = sum_by-append (λ (v : Vec ℕ _). times j v.items) rows (row ∷ []) in
      let k : now.0 ≡ times_in j (rows ++ row ∷ []) = omega (arith, q.2, e, s) in
      now.1 ∙ ap Some k;
  inside = λ i j h. elim (get-append_cases rows row i h.0 h.1) as (λ _. j < length counts1) [
    | inl g ↦ let l = c.inside i j (h.0, g, h.2) in omega (arith, l, f.len)
    | inr e ↦ let l = below j (subst (λ (v : Vec ℕ _). HasNode nat_eq v.items j) (sym e) h.2) in omega (arith, l, f.len)
  ];
}

pub counted_none : {A : Type 0} (counts : List ℕ) → ((j : ℕ) (c : ℕ) → slice_get counts j ≡ Some c → c ≡ 0) → AreCounted {A = A} [] counts
counted_none counts zeros = record {
  counted = λ j h. let q = get_below counts j h in q.1 ∙ ap Some (zeros j q.0 q.1);
  inside = λ i j h. absurd (none_in i h.0 h.1);
}

pub zeros_only : (n k c : ℕ) → slice_get (replicate n 0) k ≡ Some c → c ≡ 0
zeros_only zero k c h = absurd (none_in k c h)
zeros_only (suc n) zero c h = let e : Some 0 ≡ Some c = h in cc
zeros_only (suc n) (suc k) c h = zeros_only n k c h

pub falls_none : (counts : List ℕ) → Falls [] counts counts
falls_none counts = record { len = refl; fell = λ j c h. (c, h, omega arith) }

pub freed_none : (counts : List ℕ) → AreFreed counts counts []
freed_none counts = record {
  now = λ j h. absurd h;
  all = λ j c h l e. absurd (let q = get_same counts j c 0 h e in omega (arith, l, q));
  once = tt;
  fewer = omega arith;
}

-- ---- a row is taken out

module _ {A : Type 0} where
  target_times : (rows : List (Vec ℕ A)) (i j : ℕ) → Targets rows i j → 0 < times_in j rows
  target_times [] i j h = absurd (none_in i h.0 h.1)
  target_times (r ∷ rows) zero j h = let e : Some r ≡ Some h.0 = h.1 in let q : r ≡ h.0 = cc in omega (arith, cons r rows j, has-times j r.items (subst (λ (v : Vec ℕ A). HasNode nat_eq v.items j) (sym q) h.2))
    where
      cons : (r : Vec ℕ A) (rs : List (Vec ℕ A)) (j : ℕ) → times_in j (r ∷ rs) ≡ times_in j (r ∷ []) + times_in j rs
      cons r rs j = sum_by-append (λ (v : Vec ℕ A). times j v.items) (r ∷ []) rs
  target_times (r ∷ rows) (suc i) j h = omega (arith, sum_by-append (λ (v : Vec ℕ A). times j v.items) (r ∷ []) rows, target_times rows i j (h.0, h.1, h.2))

  times_target : (rows : List (Vec ℕ A)) (j : ℕ) → 0 < times_in j rows → (i : ℕ) × Targets rows i j
  times_target [] j h = absurd (omega (arith, h))
  times_target (r ∷ rows) j h = elim (nat_dec (times j r.items) 0) as (λ _. (i : ℕ) × Targets (r ∷ rows) i j) [
    | inl e ↦ let q = times_target rows j (omega (arith, h, e, sum_by-append (λ (v : Vec ℕ A). times j v.items) (r ∷ []) rows)) in (suc q.0, (q.1.0, q.1.1, q.1.2))
    | inr n ↦ (0, (r, refl, times-has j r.items (omega (arith, n))))
  ]

  module _ (rows : List (Vec ℕ A)) (t : ℕ) (row none : Vec ℕ A) (at : slice_get rows t ≡ Some row) (empty : none.items ≡ []) where
    row_inside : t < length rows
    row_inside = slice_get_within rows t row at

    abbrev rows1 : List (Vec ℕ A)
    rows1 = slice_set rows t none

    without_row : (j : ℕ) → times_in j rows1 + times j row.items ≡ times_in j rows
    without_row j =
        let s = sum_by-set (λ (v : Vec ℕ A). times j v.items) rows t none row row_inside in
        let was = ap (λ (v : Vec ℕ A). times j v.items) (get_at rows t row at) in
        let now : times j none.items ≡ 0 = ap (times j) empty in
        omega (arith, s, was, now)

    from_before : (i j : ℕ) → Targets rows1 i j → (i ≢ t) × Targets rows i j
    from_before i j h = elim (nat_dec i t) as (λ _. (i ≢ t) × Targets rows i j) [
      | inl e ↦
          let q : h.0 ≡ none = get_same rows1 t h.0 none (subst (λ (k : ℕ). slice_get rows1 k ≡ Some h.0) e h.1) (set_here rows t none row_inside) in
          absurd (subst (λ (ks : List ℕ). HasNode nat_eq ks j) (ap (λ (v : Vec ℕ A). v.items) q ∙ empty) h.2)
      | inr n ↦ (n, (h.0, sym (set_there rows t i none row_inside n) ∙ h.1, h.2))
    ]

    stays_after : (i j : ℕ) → i ≢ t → Targets rows i j → Targets rows1 i j
    stays_after i j n h = (h.0, set_there rows t i none row_inside n ∙ h.1, h.2)

    pub row_enough : (counts : List ℕ) → AreCounted rows counts → (j k : ℕ) → slice_get counts j ≡ Some k → times j row.items ≤ k
    row_enough counts c j k h =
        let old = c.counted j (slice_get_within counts j k h) in
        let e : k ≡ times_in j rows = get_same counts j k (times_in j rows) h old in
        omega (arith, e, without_row j)

    module _ (counts counts1 freed : List ℕ) (c : AreCounted rows counts) (f : Falls row.items counts counts1) (z : AreFreed counts counts1 freed) where
      counted_after : AreCounted rows1 counts1
      counted_after = record {
        counted = λ j h.
            let old = c.counted j (omega (arith, h, f.len)) in
            let q = f.fell j (times_in j rows) old in
            let e : q.0 ≡ times_in j rows1 = omega (arith, q.2, without_row j) in
            q.1 ∙ ap Some e;
        inside = λ i j h. let l = c.inside i j (from_before i j h).1 in omega (arith, l, f.len);
      }

      pub round_more : (pre next : List ℕ) (counts0 : List ℕ) (rows0 : List (Vec ℕ A)) → IsRound pre next counts0 counts rows0 rows → IsRound (pre ++ t ∷ []) (next ++ freed) counts0 counts1 rows0 (slice_set rows t none)
      round_more pre next counts0 rows0 r = record {
        len = f.len ∙ r.len;
        wide = set_len rows t none ∙ r.wide;
        counted = counted_after;
        taken = λ i j h k. let b = from_before i j k in elim (HasNode-append_cases nat_eq pre t i h) as (λ _. ⊥) [ inl p ↦ r.taken i j p b.1 | inr e ↦ b.0 (sym (eqb-true t i e)) ];
        others = λ i j h. elim (r.others i j h) as (λ _. HasNode nat_eq (pre ++ t ∷ []) i ⊎ Targets rows1 i j) [
          | inl p ↦ inl (HasNode-left nat_eq pre (t ∷ []) i p)
          | inr k ↦ elim (nat_dec i t) as (λ _. HasNode nat_eq (pre ++ t ∷ []) i ⊎ Targets rows1 i j) [
            | inl e ↦ inl (subst (HasNode nat_eq (pre ++ t ∷ [])) (sym e) (has_last pre t))
            | inr n ↦ inr (stays_after i j n k)
          ]
        ];
        from = λ i j h. r.from i j (from_before i j h).1;
        falls = λ j k h. let q = r.falls j k h in let p = f.fell j q.0 q.1 in (p.0, p.1, omega (arith, q.2, p.2));
        freed = record {
          now = λ j h. elim (HasNode-cases nat_eq next freed j h) as (λ _. slice_get counts1 j ≡ Some 0 × ((k : ℕ) × (slice_get counts0 j ≡ Some k) × (0 < k))) [
            | inl i ↦ let q = r.freed.now j i in let p = f.fell j 0 q.0 in let e : p.0 ≡ 0 = omega (arith, p.2) in (p.1 ∙ ap Some e, q.1)
            | inr i ↦
                let q = z.now j i in
                let inside : j < length counts0 = subst (λ (n : ℕ). j < n) r.len (slice_get_within counts j q.1.0 q.1.1) in
                let old = get_below counts0 j inside in
                let p = r.falls j old.0 old.1 in
                let e = get_same counts j p.0 q.1.0 p.1 q.1.1 in
                (q.0, (old.0, old.1, omega (arith, p.2, e, q.1.2)))
          ];
          all = λ j k h l e.
              let q = r.falls j k h in
              elim (nat_dec q.0 0) as (λ _. HasNode nat_eq (next ++ freed) j) [
                | inl o ↦ HasNode-left nat_eq next freed j (r.freed.all j k h l (q.1 ∙ ap Some o))
                | inr n ↦ HasNode-right nat_eq next freed j (z.all j q.0 q.1 (omega (arith, n)) e)
              ];
          once = numbers_append next freed r.freed.once z.once (λ j h i. let q = r.freed.now j h in let p = z.now j i in let e = get_same counts j 0 p.1.0 q.0 p.1.1 in omega (arith, e, p.1.2));
          fewer = omega (arith, r.freed.fewer, z.fewer, length-append next freed);
        };
        by_group = λ j h. elim (HasNode-cases nat_eq next freed j h) as (λ _. (i : ℕ) × HasNode nat_eq (pre ++ t ∷ []) i × Targets rows0 i j) [
          | inl i ↦ let q = r.by_group j i in (q.0, HasNode-left nat_eq pre (t ∷ []) q.0 q.1, q.2)
          | inr i ↦
              let q = z.now j i in
              let p = f.fell j q.1.0 q.1.1 in
              let e = get_same counts1 j p.0 0 p.1 q.0 in
              (t, has_last pre t, r.from t j (row, at, times-has j row.items (omega (arith, p.2, e, q.1.2))))
        ];
      }

  pub round_none : (counts : List ℕ) (rows : List (Vec ℕ A)) → AreCounted rows counts → IsRound [] [] counts counts rows rows
  round_none counts rows c = record {
    len = refl;
    wide = refl;
    counted = c;
    taken = λ i j h. absurd h;
    others = λ i j h. inr h;
    from = λ i j h. h;
    falls = λ j k h. (k, h, omega arith);
    freed = freed_none counts;
    by_group = λ j h. absurd h;
  }

  -- ---- the groups so far

  -- the number was taken in a group
  abbrev pub WasTaken : List (Vec ℕ A) → ℕ → Type 0
  WasTaken groups j = (k : ℕ) × InGroup nat_eq groups k j

  -- What the groups so far and the next one say of one another. The rows of the numbers in groups were taken out.
  pub record IsGrouping (rows0 rows : List (Vec ℕ A)) (counts : List ℕ) (groups : List (Vec ℕ A)) (group : List ℕ) : Type 0 where
    pub wide : length rows ≡ length rows0
    pub len : length counts ≡ length rows0
    pub counted : AreCounted rows counts
    pub taken : (i j : ℕ) → WasTaken groups i → ¬ (Targets rows i j)
    pub others : (i j : ℕ) → Targets rows0 i j → WasTaken groups i ⊎ Targets rows i j
    pub from : (i j : ℕ) → Targets rows i j → Targets rows0 i j
    pub free : (j : ℕ) → slice_get counts j ≡ Some 0 → WasTaken groups j ⊎ HasNode nat_eq group j
    pub was_free : (j : ℕ) → WasTaken groups j ⊎ HasNode nat_eq group j → slice_get counts j ≡ Some 0
    pub full : (k : ℕ) (g : Vec ℕ A) → slice_get groups k ≡ Some g → ¬ (g.items ≡ [])
    pub once : (k : ℕ) (g : Vec ℕ A) → slice_get groups k ≡ Some g → NoRepeats nat_eq g.items
    pub group_once : NoRepeats nat_eq group
    pub before : (k i j : ℕ) → InGroup nat_eq groups k j → Targets rows0 i j → (m : ℕ) × (m < k) × InGroup nat_eq groups m i
    pub behind : (k j : ℕ) → InGroup nat_eq groups (k + 1) j → (i : ℕ) × InGroup nat_eq groups k i × Targets rows0 i j
    pub group_behind : (k j : ℕ) → length groups ≡ k + 1 → HasNode nat_eq group j → (i : ℕ) × InGroup nat_eq groups k i × Targets rows0 i j

  in_more : (groups : List (Vec ℕ A)) (g : Vec ℕ A) (k j : ℕ) → InGroup nat_eq groups k j → InGroup nat_eq (groups ++ g ∷ []) k j
  in_more groups g k j h = (h.0, get-append groups (g ∷ []) k h.0 h.1, h.2)

  get_last : (groups : List (Vec ℕ A)) (g : Vec ℕ A) → slice_get (groups ++ g ∷ []) (length groups) ≡ Some g
  get_last [] g = refl
  get_last (h ∷ groups) g = get_last groups g

  pub at_push : (groups : List (Vec ℕ A)) (g h : Vec ℕ A) (k : ℕ) → slice_get (groups ++ g ∷ []) k ≡ Some h → (slice_get groups k ≡ Some h) ⊎ ((k ≡ length groups) × (g ≡ h))
  at_push [] g h zero e = inr (refl, let q : Some g ≡ Some h = e in cc)
  at_push [] g h (suc k) e = absurd (none_in k h e)
  at_push (x ∷ groups) g h zero e = inl e
  at_push (x ∷ groups) g h (suc k) e = elim (at_push groups g h k e) as (λ _. (slice_get groups k ≡ Some h) ⊎ ((suc k ≡ length (x ∷ groups)) × (g ≡ h))) [ inl q ↦ inl q | inr q ↦ inr (ap suc q.0, q.1) ]

  in_push : (groups : List (Vec ℕ A)) (g : Vec ℕ A) (k j : ℕ) → InGroup nat_eq (groups ++ g ∷ []) k j → InGroup nat_eq groups k j ⊎ ((k ≡ length groups) × HasNode nat_eq g.items j)
  in_push groups g k j h = elim (at_push groups g h.0 k h.1) as (λ _. InGroup nat_eq groups k j ⊎ ((k ≡ length groups) × HasNode nat_eq g.items j)) [
    | inl q ↦ inl (h.0, q, h.2)
    | inr q ↦ inr (q.0, subst (λ (v : Vec ℕ A). HasNode nat_eq v.items j) (sym q.1) h.2)
  ]

  in_last : (groups : List (Vec ℕ A)) (g : Vec ℕ A) (j : ℕ) → HasNode nat_eq g.items j → InGroup nat_eq (groups ++ g ∷ []) (length groups) j
  in_last groups g j h = (g, get_last groups g, h)

  taken_cases : (groups : List (Vec ℕ A)) (g : Vec ℕ A) (j : ℕ) → WasTaken (groups ++ g ∷ []) j → WasTaken groups j ⊎ HasNode nat_eq g.items j
  taken_cases groups g j h = elim (in_push groups g h.0 j h.1) as (λ _. WasTaken groups j ⊎ HasNode nat_eq g.items j) [ inl i ↦ inl (h.0, i) | inr q ↦ inr q.1 ]

  pub grouping_start : (rows : List (Vec ℕ A)) (counts group : List ℕ) → AreCounted rows counts → length rows ≡ length counts → ((j : ℕ) → HasNode nat_eq group j ↔ ((c : ℕ) × (slice_get counts j ≡ Some c) × (nat_lt 0 c ≡ false))) → NoRepeats nat_eq group → IsGrouping rows rows counts [] group
  grouping_start rows counts group c wide exact once = record {
    wide = refl;
    len = sym wide;
    counted = c;
    taken = λ i j h. absurd (none_in h.0 h.1.0 h.1.1);
    others = λ i j h. inr h;
    from = λ i j h. h;
    free = λ j h. inr ((exact j).1 (0, h, refl));
    was_free = λ j h. elim h as (λ _. slice_get counts j ≡ Some 0) [
      | inl t ↦ absurd (none_in t.0 t.1.0 t.1.1)
      | inr i ↦ let q = (exact j).0 i in let e = not_above q.0 q.2 in q.1 ∙ ap Some e
    ];
    full = λ k g h. absurd (none_in k g h);
    once = λ k g h. absurd (none_in k g h);
    group_once = once;
    before = λ k i j h. absurd (none_in k h.0 h.1);
    behind = λ k j h. absurd (none_in (k + 1) h.0 h.1);
    group_behind = λ k j e. absurd (omega (arith, e));
  }
    where
      not_above : (c : ℕ) → nat_lt 0 c ≡ false → c ≡ 0
      not_above zero h = refl
      not_above (suc c) h = absurd (true≢false (sym (lt-ltb 0 (suc c) (omega arith)) ∙ h))

  pub grouping_next : (rows0 rows rows1 : List (Vec ℕ A)) (counts counts1 : List ℕ) (groups : List (Vec ℕ A)) (g : Vec ℕ A) (next : List ℕ) → ¬ (g.items ≡ []) → IsGrouping rows0 rows counts groups g.items → IsRound g.items next counts counts1 rows rows1 → IsGrouping rows0 rows1 counts1 (groups ++ g ∷ []) next
  grouping_next rows0 rows rows1 counts counts1 groups g next some s r = record {
    wide = r.wide ∙ s.wide;
    len = r.len ∙ s.len;
    counted = r.counted;
    taken = λ i j h k. elim (taken_cases groups g i h) as (λ _. ⊥) [ inl t ↦ s.taken i j t (r.from i j k) | inr m ↦ r.taken i j m k ];
    others = λ i j h. elim (s.others i j h) as (λ _. WasTaken (groups ++ g ∷ []) i ⊎ Targets rows1 i j) [
      | inl t ↦ inl (t.0, in_more groups g t.0 i t.1)
      | inr k ↦ elim (r.others i j k) as (λ _. WasTaken (groups ++ g ∷ []) i ⊎ Targets rows1 i j) [ inl m ↦ inl (length groups, in_last groups g i m) | inr k ↦ inr k ]
    ];
    from = λ i j h. s.from i j (r.from i j h);
    free = λ j h.
        let inside : j < length counts = subst (λ (n : ℕ). j < n) r.len (slice_get_within counts1 j 0 h) in
        let old = get_below counts j inside in
        elim (nat_dec old.0 0) as (λ _. WasTaken (groups ++ g ∷ []) j ⊎ HasNode nat_eq next j) [
          | inl e ↦ elim (s.free j (old.1 ∙ ap Some e)) as (λ _. WasTaken (groups ++ g ∷ []) j ⊎ HasNode nat_eq next j) [ inl t ↦ inl (t.0, in_more groups g t.0 j t.1) | inr m ↦ inl (length groups, in_last groups g j m) ]
          | inr n ↦ inr (r.freed.all j old.0 old.1 (omega (arith, n)) h)
        ];
    was_free = λ j h. elim h as (λ _. slice_get counts1 j ≡ Some 0) [
      | inl t ↦ stays j (s.was_free j (taken_cases groups g j t))
      | inr m ↦ (r.freed.now j m).0
    ];
    full = λ k h e. elim (at_push groups g h k e) as (λ _. ¬ (h.items ≡ [])) [ inl q ↦ s.full k h q | inr q ↦ subst (λ (v : Vec ℕ A). ¬ (v.items ≡ [])) q.1 some ];
    once = λ k h e. elim (at_push groups g h k e) as (λ _. NoRepeats nat_eq h.items) [ inl q ↦ s.once k h q | inr q ↦ subst (λ (v : Vec ℕ A). NoRepeats nat_eq v.items) q.1 s.group_once ];
    group_once = r.freed.once;
    before = λ k i j h t. elim (in_push groups g k j h) as (λ _. (m : ℕ) × (m < k) × InGroup nat_eq (groups ++ g ∷ []) m i) [
      | inl q ↦ let p = s.before k i j q t in (p.0, p.1, in_more groups g p.0 i p.2)
      | inr q ↦
          let p = earlier i j t (s.was_free j (inr q.1)) in
          (p.0, omega (arith, q.0, slice_get_within groups p.0 p.1.0 p.1.1), in_more groups g p.0 i p.1)
    ];
    behind = λ k j h. elim (in_push groups g (k + 1) j h) as (λ _. (i : ℕ) × InGroup nat_eq (groups ++ g ∷ []) k i × Targets rows0 i j) [
      | inl q ↦ let p = s.behind k j q in (p.0, in_more groups g k p.0 p.1, p.2)
      | inr q ↦ let p = s.group_behind k j (sym q.0) q.1 in (p.0, in_more groups g k p.0 p.1, p.2)
    ];
    group_behind = λ k j e h.
        let q = r.by_group j h in
        let same : length groups ≡ k = omega (arith, e, length-append groups (g ∷ [])) in
        (q.0, subst (λ (m : ℕ). InGroup nat_eq (groups ++ g ∷ []) m q.0) same (in_last groups g q.0 q.1), s.from q.0 j q.2);
  }
    where
      stays : (j : ℕ) → slice_get counts j ≡ Some 0 → slice_get counts1 j ≡ Some 0
      stays j h = let q = r.falls j 0 h in let e : q.0 ≡ 0 = omega (arith, q.2) in q.1 ∙ ap Some e

      earlier : (i j : ℕ) → Targets rows0 i j → slice_get counts j ≡ Some 0 → WasTaken groups i
      earlier i j t h = elim (s.others i j t) as (λ _. WasTaken groups i) [
        | inl w ↦ w
        | inr k ↦
            let c = s.counted.counted j (slice_get_within counts j 0 h) in
            let e = get_same counts j 0 (times_in j rows) h c in
            absurd (omega (arith, e, target_times rows i j k))
      ]

  pub levels_of : (rows0 rows : List (Vec ℕ A)) (counts : List ℕ) (groups : List (Vec ℕ A)) (group remaining : List ℕ) → IsGrouping rows0 rows counts groups group → group ≡ [] → ((j : ℕ) → HasNode nat_eq remaining j ↔ ((c : ℕ) × (slice_get counts j ≡ Some c) × (nat_lt 0 c ≡ true))) → NoRepeats nat_eq remaining → AreLevels (length rows0) rows0 groups remaining
  levels_of rows0 rows counts groups group remaining s nil exact once = record {
    below = λ k j h. subst (λ (n : ℕ). j < n) s.len (slice_get_within counts j 0 (s.was_free j (inl (k, h))));
    left_below = λ j h. let q = (exact j).0 h in subst (λ (n : ℕ). j < n) s.len (slice_get_within counts j q.0 q.1);
    every = λ j h.
        let old = get_below counts j (subst (λ (n : ℕ). j < n) (sym s.len) h) in
        elim (nat_dec old.0 0) as (λ _. ((k : ℕ) × InGroup nat_eq groups k j) ⊎ HasNode nat_eq remaining j) [
          | inl e ↦ elim (s.free j (old.1 ∙ ap Some e)) as (λ _. ((k : ℕ) × InGroup nat_eq groups k j) ⊎ HasNode nat_eq remaining j) [ inl t ↦ inl t | inr m ↦ absurd (subst (λ (ks : List ℕ). HasNode nat_eq ks j) nil m) ]
          | inr n ↦ inr ((exact j).1 (old.0, old.1, lt-ltb 0 old.0 (omega (arith, n))))
        ];
    full = s.full;
    once = s.once;
    left_once = once;
    before = s.before;
    behind = s.behind;
    left_behind = λ j h.
        let q = (exact j).0 h in
        let c = s.counted.counted j (slice_get_within counts j q.0 q.1) in
        let e = get_same counts j q.0 (times_in j rows) q.1 c in
        let t = times_target rows j (omega (arith, e, ltb-true 0 q.0 q.2)) in
        let row = get_below counts t.0 (omega (arith, slice_get_within rows t.0 t.1.0 t.1.1, s.wide, s.len)) in
        elim (nat_dec row.0 0) as (λ _. (i : ℕ) × HasNode nat_eq remaining i × Targets rows0 i j) [
          | inl z ↦ elim (s.free t.0 (row.1 ∙ ap Some z)) as (λ _. (i : ℕ) × HasNode nat_eq remaining i × Targets rows0 i j) [ inl w ↦ absurd (s.taken t.0 j w t.1) | inr m ↦ absurd (subst (λ (ks : List ℕ). HasNode nat_eq ks t.0) nil m) ]
          | inr n ↦ (t.0, (exact t.0).1 (row.0, row.1, lt-ltb 0 row.0 (omega (arith, n))), s.from t.0 j t.1)
        ];
  }

pub get_length : {A : Type 0} (xs : List A) (x : A) → length (xs ++ x ∷ []) ≡ length xs + 1
get_length xs x = length-append xs (x ∷ [])
