-- Points counted from the least coordinate of each axis, point by point.
use Rattle.std.proofs.Common.{◌≡◌, ◌∙◌, ◌+◌, ◌<◌, ap, sym, refl, Ordering, Bool, true, false, ℕ, zero, suc, ℤ, Option, Some, None, List, [], ◌∷◌, ◌++◌, length, take, get_or, arith}
use Rattle.std.specs.Prelude.{if◌then◌else◌}
use Rattle.std.specs.Int.{int_min}
use Rattle.std.specs.Ordering.{int_cmp, is_lt, ord_min}
use Rattle.std.proofs.lemmas.Int.{ints}
use Rattle.std.proofs.lemmas.List.{take_more}
use Rattle.pf_grid.specs.Coordinates.{joined, least_with, numbers_of, position_from, positions_from}

-- ---- the least number

int_min_by_cmp : (a b : ℤ) → ord_min int_cmp a b ≡ int_min a b
int_min_by_cmp a b = grind (arith, ints)

pub value_min : {T : Type 0} (cmp : T → T → Ordering) (value : T → ℤ) → ((a b : T) → cmp a b ≡ int_cmp (value a) (value b)) → (a b : T) → value (ord_min cmp a b) ≡ int_min (value a) (value b)
value_min cmp value law a b = by (is_lt (cmp b a)) refl ∙ int_min_by_cmp (value a) (value b)
  where
    by : (l : Bool) → is_lt (cmp b a) ≡ l → value (if l then b else a) ≡ ord_min int_cmp (value a) (value b)
    by true e = sym (ap (λ c. if c then value b else value a) (ap is_lt (sym (law b a)) ∙ e))
    by false e = sym (ap (λ c. if c then value b else value a) (ap is_lt (sym (law b a)) ∙ e))

pub least_none : (axis : ℤ × ℤ → ℤ) (z : ℤ) → z ≡ least_with axis z []
unfolding least_with
least_none axis z = refl

-- the least with one more point
pub least_more : (axis : ℤ × ℤ → ℤ) (z : ℤ) (ps : List (ℤ × ℤ)) (p : ℤ × ℤ) → least_with axis z (ps ++ p ∷ []) ≡ int_min (least_with axis z ps) (axis p)
unfolding least_with
least_more axis z [] p = refl
least_more axis z (q ∷ ps) p = least_more axis (int_min z (axis q)) ps p

-- ---- the numbers of the points so far

module _ {T : Type 0} (value : T → ℤ) where
  numbers_push : (ps : List (T × T)) (p : T × T) → numbers_of value (ps ++ p ∷ []) ≡ numbers_of value ps ++ (value p.0, value p.1) ∷ []
  numbers_push [] p = refl
  numbers_push (q ∷ ps) p = λ i. (value q.0, value q.1) ∷ numbers_push ps p i

  pub numbers_more : (ps : List (T × T)) (i : ℕ) (p : T × T) → i < length ps → p ≡ get_or ps i p → numbers_of value (take (i + 1) ps) ≡ numbers_of value (take i ps) ++ (value p.0, value p.1) ∷ []
  numbers_more ps i p lt is = ap (numbers_of value) (take_more ps i p lt ∙ ap (λ q. take i ps ++ q ∷ []) (sym is)) ∙ numbers_push (take i ps) p

-- ---- positions

joined_none : (o : Option (ℕ × ℕ)) → joined o None ≡ None
joined_none None = refl
joined_none (Some x) = refl

module _ (least : ℤ × ℤ) where
  pub positions_empty : positions_from least [] ≡ Some []
  unfolding positions_from
  positions_empty = refl

  -- a point without a position leaves all without positions
  pub positions_none : {T : Type 0} (value : T → ℤ) (ps : List (T × T)) (i : ℕ) (p : T × T) → i < length ps → p ≡ get_or ps i p → position_from least (value p.0, value p.1) ≡ None → positions_from least (numbers_of value ps) ≡ None
  unfolding positions_from
  positions_none value [] i p lt is e = absurd (omega (arith, lt))
  positions_none value (q ∷ ps) zero p lt is e =
      ap (λ o. joined o (positions_from least (numbers_of value ps))) (ap (λ x. position_from least (value x.0, value x.1)) (sym is) ∙ e)
  positions_none value (q ∷ ps) (suc i) p lt is e =
      ap (joined (position_from least (value q.0, value q.1))) (positions_none value ps i p (omega (arith, lt)) is e) ∙ joined_none (position_from least (value q.0, value q.1))

  -- the positions with that of one more point
  pub positions_more : (ps : List (ℤ × ℤ)) (rs : List (ℕ × ℕ)) (p : ℤ × ℤ) (r : ℕ × ℕ) → positions_from least ps ≡ Some rs → position_from least p ≡ Some r → positions_from least (ps ++ p ∷ []) ≡ Some (rs ++ r ∷ [])
  unfolding positions_from
  positions_more [] rs p r e f = let n : [] ≡ rs = cc in ap (λ o. joined o (Some [])) f ∙ ap (λ l. Some (l ++ r ∷ [])) n
  positions_more (q ∷ ps) rs p r e f = by (position_from least q) (positions_from least ps) refl e (λ ts h. positions_more ps ts p r h f)
    where
      by : (o : Option (ℕ × ℕ)) (l : Option (List (ℕ × ℕ))) → positions_from least ps ≡ l → joined o l ≡ Some rs
          → ((ts : List (ℕ × ℕ)) → positions_from least ps ≡ Some ts → positions_from least (ps ++ p ∷ []) ≡ Some (ts ++ r ∷ []))
          → joined o (positions_from least (ps ++ p ∷ [])) ≡ Some (rs ++ r ∷ [])
      by None l h k rest = absurd (cc)
      by (Some s) None h k rest = absurd (cc)
      by (Some s) (Some ts) h k rest = let n : s ∷ ts ≡ rs = cc in ap (joined (Some s)) (rest ts h) ∙ ap (λ l. Some (l ++ r ∷ [])) n
