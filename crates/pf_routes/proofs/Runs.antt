-- The fields of a line, from the front.
use Rattle.std.proofs.Common.{◌≡◌, ℕ, zero, suc, ◌+◌, ◌<◌, ◌≤◌, Bool, true, false, cond, not, ◌&&◌, ◌||◌, nat_lt, List, [], ◌∷◌, Some, None, length, take, drop, refl, sym, ap, ◌∙◌, arith, lt-ltb, ltb-true, ltb-false, subst, take_all}
use Rattle.std.specs.Prelude.{filter, position}
use Rattle.std.specs.List.{slice_split, onto_first, list_all, position_or_len}
use Rattle.std.proofs.lemmas.List.Splits.{slice_split-cons_yes, slice_split-cons_no}
use Rattle.std.proofs.lemmas.List.Sums.{prefix_len-le-length}
use Rattle.std.proofs.lemmas.Bool.Decides.{nat_tests}
use Rattle.std.proofs.lemmas.Option.{cond_some}
use Rattle.std.proofs.lemmas.List.{drop_all}
use Rattle.pf_routes.specs.EdgeText.{is_gap, is_visible, fields_of, line_of, line_of_fields, Blank, Bad}
use Rattle.pf_routes.specs.Internal.Fields.{front, behind, field_of, behind_field}

-- a byte that may stand on a line of an edge
abbrev pub is_plain : ℕ → Bool
is_plain b = is_gap b || is_visible b

-- the test that `fields_of` keeps a part by
abbrev has_bytes : List ℕ → Bool
has_bytes part = nat_lt 0 (length part)

module _ (p : ℕ → Bool) where
  pub front-yes : (x : ℕ) (xs : List ℕ) → p x ≡ true → front p (x ∷ xs) ≡ x ∷ front p xs
  front-yes x xs h = ap (λ b. cond b (x ∷ front p xs) []) h

  pub front-no : (x : ℕ) (xs : List ℕ) → p x ≡ false → front p (x ∷ xs) ≡ []
  front-no x xs h = ap (λ b. cond b (x ∷ front p xs) []) h

  pub behind-yes : (x : ℕ) (xs : List ℕ) → p x ≡ true → behind p (x ∷ xs) ≡ behind p xs
  behind-yes x xs h = ap (λ b. cond b (behind p xs) (x ∷ xs)) h

  pub behind-no : (x : ℕ) (xs : List ℕ) → p x ≡ false → behind p (x ∷ xs) ≡ x ∷ xs
  behind-no x xs h = ap (λ b. cond b (behind p xs) (x ∷ xs)) h

  behind-head_by : (y : ℕ) (ys : List ℕ) (x : ℕ) (xs : List ℕ) (b : Bool) → p y ≡ b → (behind p ys ≡ x ∷ xs → p x ≡ false) → behind p (y ∷ ys) ≡ x ∷ xs → p x ≡ false
  behind-head_by y ys x xs true h ih e = ih (sym (behind-yes y ys h) ∙ e)
  behind-head_by y ys x xs false h ih e = let same : y ∷ ys ≡ x ∷ xs = sym (behind-no y ys h) ∙ e in ap p (sym (ap (λ l. first_or x l) same)) ∙ h
    where
      first_or : ℕ → List ℕ → ℕ
      first_or d [] = d
      first_or d (z ∷ zs) = z

  -- what is left begins with a byte that fails the test
  pub behind-head : (ys : List ℕ) (x : ℕ) (xs : List ℕ) → behind p ys ≡ x ∷ xs → p x ≡ false
  behind-head [] x xs e = cc
  behind-head (y ∷ ys) x xs e = behind-head_by y ys x xs (p y) refl (behind-head ys x xs) e

  behind-length_by : (y : ℕ) (ys : List ℕ) (b : Bool) → length (behind p ys) ≤ length ys → length (cond b (behind p ys) (y ∷ ys)) ≤ length (y ∷ ys)
  behind-length_by y ys true ih = omega (arith, ih)
  behind-length_by y ys false ih = omega arith

  pub behind-length : (ys : List ℕ) → length (behind p ys) ≤ length ys
  behind-length [] = omega arith
  behind-length (y ∷ ys) = behind-length_by y ys (p y) (behind-length ys)

  -- the place of the first byte that fails the test
  abbrev pub stop_of : List ℕ → ℕ
  stop_of xs = position_or_len (λ x. not (p x)) xs

  taken_by : (x : ℕ) (xs : List ℕ) (b : Bool) → front p xs ≡ take (stop_of xs) xs → cond b (x ∷ front p xs) [] ≡ take (cond (not (not b)) (1 + stop_of xs) 0) (x ∷ xs)
  taken_by x xs true ih = let more : 1 + stop_of xs ≡ suc (stop_of xs) = omega arith in rw more (ap (λ l. x ∷ l) ih)
  taken_by x xs false ih = refl

  pub front-take : (xs : List ℕ) → front p xs ≡ take (stop_of xs) xs
  front-take [] = refl
  front-take (x ∷ xs) = taken_by x xs (p x) (front-take xs)

  dropped_by : (x : ℕ) (xs : List ℕ) (b : Bool) → behind p xs ≡ drop (stop_of xs) xs → cond b (behind p xs) (x ∷ xs) ≡ drop (cond (not (not b)) (1 + stop_of xs) 0) (x ∷ xs)
  dropped_by x xs true ih = let more : 1 + stop_of xs ≡ suc (stop_of xs) = omega arith in rw more ih
  dropped_by x xs false ih = refl

  pub behind-drop : (xs : List ℕ) → behind p xs ≡ drop (stop_of xs) xs
  behind-drop [] = refl
  behind-drop (x ∷ xs) = dropped_by x xs (p x) (behind-drop xs)

  pub stop-found : (xs : List ℕ) (i : ℕ) → position (λ x. not (p x)) xs ≡ Some i → (stop_of xs ≡ i) × (i < length xs)
  stop-found xs i e =
      let both = cond_some (nat_lt (stop_of xs) (length xs)) (stop_of xs) i e in
      (both.1, subst (λ n. n < length xs) both.1 (ltb-true _ _ both.0))

  none_by : (b : Bool) (a : ℕ) → cond b (Some a) None ≡ None → b ≡ false
  none_by true a e = cc
  none_by false a e = refl

  pub stop-none : (xs : List ℕ) → position (λ x. not (p x)) xs ≡ None → stop_of xs ≡ length xs
  stop-none xs e =
      let past = ltb-false _ _ (none_by (nat_lt (stop_of xs) (length xs)) (stop_of xs) e) in
      let bound : stop_of xs ≤ length xs = prefix_len-le-length (λ x. not (not (p x))) xs in
      omega (arith, past, bound)

  pub behind-found : (xs : List ℕ) (i : ℕ) → position (λ x. not (p x)) xs ≡ Some i → behind p xs ≡ drop i xs
  behind-found xs i e = behind-drop xs ∙ ap (λ n. drop n xs) (stop-found xs i e).0

  pub front-found : (xs : List ℕ) (i : ℕ) → position (λ x. not (p x)) xs ≡ Some i → front p xs ≡ take i xs
  front-found xs i e = front-take xs ∙ ap (λ n. take n xs) (stop-found xs i e).0

  pub behind-none : (xs : List ℕ) → position (λ x. not (p x)) xs ≡ None → behind p xs ≡ []
  behind-none xs e = behind-drop xs ∙ drop_all _ xs (omega (arith, stop-none xs e))

  pub front-none : (xs : List ℕ) → position (λ x. not (p x)) xs ≡ None → front p xs ≡ xs
  front-none xs e = front-take xs ∙ take_all _ xs (omega (arith, stop-none xs e))

  module _ (less : (x : ℕ) → p x ≡ true → is_plain x ≡ true) where
    plain_by : (x : ℕ) (xs : List ℕ) (b : Bool) → p x ≡ b → list_all is_plain (behind p xs) ≡ list_all is_plain xs → list_all is_plain (cond b (behind p xs) (x ∷ xs)) ≡ list_all is_plain (x ∷ xs)
    plain_by x xs true h ih = ih ∙ sym (ap (λ b. b && list_all is_plain xs) (less x h))
    plain_by x xs false h ih = refl

    pub plain-behind : (xs : List ℕ) → list_all is_plain (behind p xs) ≡ list_all is_plain xs
    plain-behind [] = refl
    plain-behind (x ∷ xs) = plain_by x xs (p x) refl (plain-behind xs)

pub gap-plain : (x : ℕ) → is_gap x ≡ true → is_plain x ≡ true
gap-plain x h = ap (λ b. b || is_visible x) h

or_true : (b : Bool) → (b || true) ≡ true
or_true true = refl
or_true false = refl

pub visible-plain : (x : ℕ) → is_visible x ≡ true → is_plain x ≡ true
visible-plain x h = ap (λ b. is_gap x || b) h ∙ or_true (is_gap x)

visible-gap : (x : ℕ) → is_visible x ≡ true → is_gap x ≡ false
visible-gap x h = grind (arith, nat_tests)

plain-visible : (x : ℕ) → is_plain x ≡ true → is_gap x ≡ false → is_visible x ≡ true
plain-visible x h g = sym (ap (λ b. b || is_visible x) g) ∙ h

plain-gap : (x : ℕ) → is_plain x ≡ true → is_visible x ≡ false → is_gap x ≡ true
plain-gap x h v = sym (or_false (is_gap x)) ∙ sym (ap (λ b. is_gap x || b) v) ∙ h
  where
    or_false : (b : Bool) → (b || false) ≡ b
    or_false true = refl
    or_false false = refl

and_true : (a b : Bool) → (a && b) ≡ true → (a ≡ true) × (b ≡ true)
and_true true true e = (refl, refl)
and_true true false e = cc
and_true false b e = cc

-- gaps at the front part nothing
skip_by : (x : ℕ) (xs : List ℕ) (b : Bool) → is_gap x ≡ b → fields_of (behind is_gap xs) ≡ fields_of xs → fields_of (cond b (behind is_gap xs) (x ∷ xs)) ≡ fields_of (x ∷ xs)
skip_by x xs true h ih = ih ∙ sym (ap (filter has_bytes) (slice_split-cons_yes is_gap x xs h))
skip_by x xs false h ih = refl

fields_of-skip : (xs : List ℕ) → fields_of (behind is_gap xs) ≡ fields_of xs
fields_of-skip [] = refl
fields_of-skip (x ∷ xs) = skip_by x xs (is_gap x) refl (fields_of-skip xs)

-- the part before the first gap, and the others
record Parts (l : List ℕ) : Type 0 where
  others : List (List ℕ)
  parts : slice_split is_gap l ≡ front is_visible l ∷ others
  rest : filter has_bytes others ≡ fields_of (behind is_visible l)

parts_by : (x : ℕ) (l : List ℕ) (v : Bool) → is_visible x ≡ v → is_plain x ≡ true → Parts l → Parts (x ∷ l)
parts_by x l true h plain p = record {
  others = p.others;
  parts = slice_split-cons_no is_gap x l (visible-gap x h) ∙ ap (onto_first x) p.parts ∙ ap (λ f. f ∷ p.others) (sym (front-yes is_visible x l h));
  rest = p.rest ∙ ap fields_of (sym (behind-yes is_visible x l h));
}
parts_by x l false h plain p =
    let split = slice_split-cons_yes is_gap x l (plain-gap x plain h) in
    record {
      others = slice_split is_gap l;
      parts = split ∙ ap (λ f. f ∷ slice_split is_gap l) (sym (front-no is_visible x l h));
      rest = sym (ap (filter has_bytes) split) ∙ ap fields_of (sym (behind-no is_visible x l h));
    }

parts_of : (l : List ℕ) → list_all is_plain l ≡ true → Parts l
parts_of [] h = record { others = []; parts = refl; rest = refl }
parts_of (x ∷ l) h = let both = and_true (is_plain x) (list_all is_plain l) h in parts_by x l (is_visible x) refl both.0 (parts_of l both.1)

-- where there is no field, there are gaps alone
no_field_by : (m : List ℕ) → list_all is_plain m ≡ true → ((x : ℕ) (xs : List ℕ) → m ≡ x ∷ xs → is_gap x ≡ false) → length (front is_visible m) ≡ 0 → m ≡ []
no_field_by [] h begins e = refl
no_field_by (x ∷ m) h begins e =
    let both = and_true (is_plain x) (list_all is_plain m) h in
    let visible = plain-visible x both.0 (begins x m refl) in
    absurd (omega (arith, e, ap length (front-yes is_visible x m visible)))

pub no_field : (l : List ℕ) → list_all is_plain l ≡ true → length (field_of l) ≡ 0 → behind is_gap l ≡ []
no_field l h e = no_field_by (behind is_gap l) (plain-behind is_gap gap-plain l ∙ h) (behind-head is_gap l) e

pub fields_of-none : (l : List ℕ) → list_all is_plain l ≡ true → length (field_of l) ≡ 0 → fields_of l ≡ []
fields_of-none l h e = sym (fields_of-skip l) ∙ ap fields_of (no_field l h e)

keeps_first : (part : List ℕ) (others : List (List ℕ)) → 0 < length part → filter has_bytes (part ∷ others) ≡ part ∷ filter has_bytes others
keeps_first part others l = ap (λ b. cond b (part ∷ filter has_bytes others) (filter has_bytes others)) (lt-ltb 0 (length part) l)

pub fields_of-field : (l : List ℕ) → list_all is_plain l ≡ true → 0 < length (field_of l) → fields_of l ≡ field_of l ∷ fields_of (behind_field l)
fields_of-field l h some =
    let p = parts_of (behind is_gap l) (plain-behind is_gap gap-plain l ∙ h) in
    sym (fields_of-skip l) ∙ ap (filter has_bytes) p.parts ∙ keeps_first (field_of l) p.others some ∙ ap (λ fs. field_of l ∷ fs) p.rest

plain-behind_field : (l : List ℕ) → list_all is_plain (behind_field l) ≡ list_all is_plain l
plain-behind_field l = plain-behind is_visible visible-plain (behind is_gap l) ∙ plain-behind is_gap gap-plain l

-- what follows no field, where only gaps stood, is empty
behind_none : (l : List ℕ) → list_all is_plain l ≡ true → length (field_of l) ≡ 0 → behind_field l ≡ []
behind_none l h e = ap (behind is_visible) (no_field l h e)

abbrev pub end_of_three : List ℕ → List ℕ
end_of_three l = behind is_gap (behind_field (behind_field (behind_field l)))

plain-three : (l : List ℕ) → list_all is_plain (end_of_three l) ≡ list_all is_plain l
plain-three l =
    plain-behind is_gap gap-plain (behind_field (behind_field (behind_field l))) ∙ plain-behind_field (behind_field (behind_field l))
    ∙ plain-behind_field (behind_field l) ∙ plain-behind_field l

plain_at_end : (l : List ℕ) → end_of_three l ≡ [] → list_all is_plain l ≡ true
plain_at_end l e = sym (plain-three l) ∙ ap (list_all is_plain) e

line_of-plain : (l : List ℕ) → list_all is_plain l ≡ true → line_of l ≡ line_of_fields (fields_of l)
line_of-plain l h = ap (λ b. cond b (line_of_fields (fields_of l)) Bad) h

-- some field is at the front where something follows that field, or gaps
has_field : (l : List ℕ) (n : ℕ) → length (field_of l) ≡ n → list_all is_plain l ≡ true → ¬ (behind is_gap l ≡ []) → 0 < length (field_of l)
has_field l zero e h more = absurd (more (no_field l h e))
has_field l (suc n) e h more = omega (arith, e)

has_front : (l : List ℕ) → list_all is_plain l ≡ true → ¬ (behind_field l ≡ []) → ¬ (behind is_gap l ≡ [])
has_front l h more e = more (ap (behind is_visible) e)

not_gaps : (l : List ℕ) → ¬ (behind is_gap l ≡ []) → ¬ (l ≡ [])
not_gaps l more e = more (ap (behind is_gap) e)

many : (a b c d : List ℕ) (rest l1 l2 l3 all : List (List ℕ)) → all ≡ a ∷ l1 → l1 ≡ b ∷ l2 → l2 ≡ c ∷ l3 → l3 ≡ d ∷ rest → line_of_fields all ≡ Bad
many a b c d rest l1 l2 l3 all e0 e1 e2 e3 = ap line_of_fields (e0 ∙ ap (λ r. a ∷ r) (e1 ∙ ap (λ r. b ∷ r) (e2 ∙ ap (λ r. c ∷ r) e3)))

bad_by : (l : List ℕ) (b : Bool) → list_all is_plain l ≡ b → ¬ (end_of_three l ≡ []) → line_of l ≡ Bad
bad_by l false h more = ap (λ b. cond b (line_of_fields (fields_of l)) Bad) h
bad_by l true h more =
    let l1 = behind_field l in
    let l2 = behind_field l1 in
    let l3 = behind_field l2 in
    let h1 = plain-behind_field l ∙ h in
    let h2 = plain-behind_field l1 ∙ h1 in
    let h3 = plain-behind_field l2 ∙ h2 in
    let m2 = has_front l2 h2 (not_gaps l3 more) in
    let m1 = has_front l1 h1 (not_gaps l2 m2) in
    let m0 = has_front l h (not_gaps l1 m1) in
    line_of-plain l h
    ∙ many _ _ _ _ _ _ _ _ _ (fields_of-field l h (has_field l _ refl h m0)) (fields_of-field l1 h1 (has_field l1 _ refl h1 m1))
    (fields_of-field l2 h2 (has_field l2 _ refl h2 m2)) (fields_of-field l3 h3 (has_field l3 _ refl h3 more))

-- a line with more than three fields, or with a byte that is neither visible nor a gap
pub line_of-more : (l : List ℕ) → ¬ (end_of_three l ≡ []) → line_of l ≡ Bad
line_of-more l more = bad_by l (list_all is_plain l) refl more

pub line_of-blank : (l : List ℕ) → end_of_three l ≡ [] → length (field_of l) ≡ 0 → line_of l ≡ Blank
line_of-blank l end none = let h = plain_at_end l end in line_of-plain l h ∙ ap line_of_fields (fields_of-none l h none)

short_by : (l : List ℕ) (n : ℕ) → length (field_of (behind_field l)) ≡ n → list_all is_plain l ≡ true → 0 < length (field_of l) → length (field_of (behind_field (behind_field l))) ≡ 0 → line_of_fields (fields_of l) ≡ Bad
short_by l zero e h some none = let h1 = plain-behind_field l ∙ h in ap line_of_fields (fields_of-field l h some ∙ ap (λ fs. field_of l ∷ fs) (fields_of-none (behind_field l) h1 e))
short_by l (suc n) e h some none =
    let h1 = plain-behind_field l ∙ h in
    let h2 = plain-behind_field (behind_field l) ∙ h1 in
    ap line_of_fields (fields_of-field l h some
    ∙ ap (λ fs. field_of l ∷ fs) (fields_of-field (behind_field l) h1 (omega (arith, e)) ∙ ap (λ fs. field_of (behind_field l) ∷ fs) (fields_of-none (behind_field (behind_field l)) h2 none)))

pub line_of-short : (l : List ℕ) → end_of_three l ≡ [] → 0 < length (field_of l) → length (field_of (behind_field (behind_field l))) ≡ 0 → line_of l ≡ Bad
line_of-short l end some none = let h = plain_at_end l end in line_of-plain l h ∙ short_by l _ refl h some none

second : (l : List ℕ) (n : ℕ) → length (field_of l) ≡ n → list_all is_plain l ≡ true → 0 < length (field_of (behind_field l)) → 0 < length (field_of l)
second l zero e h some = absurd (omega (arith, some, ap (λ m. length (field_of m)) (behind_none l h e)))
second l (suc n) e h some = omega (arith, e)

pub line_of-three : (l : List ℕ) → end_of_three l ≡ [] → 0 < length (field_of l) → 0 < length (field_of (behind_field (behind_field l)))
    → line_of l ≡ line_of_fields (field_of l ∷ field_of (behind_field l) ∷ field_of (behind_field (behind_field l)) ∷ [])
line_of-three l end some third =
    let h = plain_at_end l end in
    let l1 = behind_field l in
    let l2 = behind_field l1 in
    let l3 = behind_field l2 in
    let h1 = plain-behind_field l ∙ h in
    let h2 = plain-behind_field l1 ∙ h1 in
    let h3 = plain-behind_field l2 ∙ h2 in
    let last : fields_of l3 ≡ [] = sym (fields_of-skip l3) ∙ ap fields_of end in
    line_of-plain l h
    ∙ ap line_of_fields (fields_of-field l h some ∙ ap (λ fs. field_of l ∷ fs)
    (fields_of-field l1 h1 (second l1 _ refl h1 third) ∙ ap (λ fs. field_of l1 ∷ fs) (fields_of-field l2 h2 third ∙ ap (λ fs. field_of l2 ∷ fs) last)))
