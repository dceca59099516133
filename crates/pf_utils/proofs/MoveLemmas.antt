-- What moves and rays over a board are.
use Rattle.std.proofs.Common.{◌≡◌, ◌≢◌, ℕ, ℤ, pos, negsuc, zero, suc, ◌+◌, ◌-◌, ◌*◌, ◌<◌, ◌≤◌, ◌+ℤ◌, refl, sym, ap, subst, ◌∙◌, neg_ℤ, add-one, arith, Bool, true, false, cond, List, [], ◌∷◌, Option, None, Some}
use Rattle.std.specs.Prelude.{◌*ℤ◌, ◌&&◌, slice_get, nat_lt}
use Rattle.std.specs.Option.{option_map_or, option_zip}
use Rattle.std.proofs.Math.IntN.{suc_ℤ-*ℤ, *ℤ-zero, pos-*ℤ-pos, pos-*ℤ-negsuc}
use Rattle.std.proofs.lemmas.Int.{ints}
use Rattle.std.proofs.lemmas.Bool.Decides.{nat_tests}
use Rattle.pf_base.specs.Moves.{Finds, IsInside, IsMove, times, below_size, is_zero, is_inside, target_of, first_of_ray, room, ray}
use Rattle.pf_utils.specs.Internal.CoordinateSteps.{IsCoordinateStep}

-- ---- one move

below_size-finds : (from : ℕ) (step : ℤ) (size : ℕ) → Finds (IsCoordinateStep from step size) (below_size (pos from +ℤ step) size)
below_size-finds from step size = case (pos from +ℤ step) refl
  where
    test : (n : ℕ) → pos n ≡ pos from +ℤ step → (t : Bool) → nat_lt n size ≡ t → Finds (IsCoordinateStep from step size) (cond t (Some n) None)
    test n e true l = record { sum = e; inside = grind (arith, nat_tests) }
    test n e false l = λ to s. let h : pos n ≡ pos to = e ∙ sym s.sum in let i = s.inside in grind (arith, ints, nat_tests)

    case : (z : ℤ) → z ≡ pos from +ℤ step → Finds (IsCoordinateStep from step size) (below_size z size)
    case (negsuc n) e = λ to s. let h : negsuc n ≡ pos to = e ∙ sym s.sum in cc
    case (pos n) e = test n e (nat_lt n size) refl

zero_is : (z : ℤ) → is_zero z ≡ true → z ≡ pos 0
zero_is (pos zero) h = refl
zero_is (pos (suc n)) h = cc
zero_is (negsuc n) h = cc

not_zero : (z : ℤ) → is_zero z ≡ false → z ≢ pos 0
not_zero z h e = let t = ap is_zero e in cc

both : (a b : Bool) → (a && b) ≡ true → (a ≡ true) × (b ≡ true)
both true true h = (refl, refl)
both true false h = cc
both false b h = cc

still : (d : ℤ × ℤ) → (is_zero d.0 && is_zero d.1) ≡ true → d ≡ (pos 0, pos 0)
still d h = let z = both (is_zero d.0) (is_zero d.1) h in ap (λ x. (x, d.1)) (zero_is d.0 z.0) ∙ ap (λ y. (pos 0, y)) (zero_is d.1 z.1)

turned : (d : ℤ × ℤ) → (is_zero d.0 && is_zero d.1) ≡ false → d ≢ (pos 0, pos 0)
turned d h e = let t : (is_zero d.0 && is_zero d.1) ≡ true = ap (λ (x : ℤ × ℤ). is_zero x.0 && is_zero x.1) e in cc

inside_of : (b s : ℕ × ℕ) → is_inside b s ≡ true → IsInside b s
inside_of b s h = let t = both (nat_lt s.0 b.0) (nat_lt s.1 b.1) h in let u = t.0 in let v = t.1 in (grind (arith, nat_tests), grind (arith, nat_tests))

of_inside : (b s : ℕ × ℕ) → IsInside b s → is_inside b s ≡ true
of_inside b s h = let u = h.0 in let v = h.1 in
    let x : nat_lt s.0 b.0 ≡ true = grind (arith, nat_tests) in let y : nat_lt s.1 b.1 ≡ true = grind (arith, nat_tests) in
    ap (λ t. t && nat_lt s.1 b.1) x ∙ y

module _ (start : ℕ × ℕ) (direction : ℤ × ℤ) (dimensions : ℕ × ℕ) where
  pair-finds : direction ≢ (pos 0, pos 0) → IsInside dimensions start → (row column : Option ℕ) → Finds (IsCoordinateStep start.0 direction.0 dimensions.0) row → Finds (IsCoordinateStep start.1 direction.1 dimensions.1) column → Finds (IsMove start direction dimensions) (option_zip row column)
  pair-finds t i None column f g = λ x m. f x.0 (record { sum = m.row; inside = m.to_inside.0 })
  pair-finds t i (Some row) None f g = λ x m. g x.1 (record { sum = m.column; inside = m.to_inside.1 })
  pair-finds t i (Some row) (Some column) f g = record { from_inside = i; moves = t; row = f.sum; column = g.sum; to_inside = (f.inside, g.inside) }

  abbrev found : Option (ℕ × ℕ)
  found = option_zip (below_size (pos start.0 +ℤ direction.0) dimensions.0) (below_size (pos start.1 +ℤ direction.1) dimensions.1)

  starts : direction ≢ (pos 0, pos 0) → (b : Bool) → is_inside dimensions start ≡ b → Finds (IsMove start direction dimensions) (cond b found None)
  starts t true i = pair-finds t (inside_of dimensions start i) _ _ (below_size-finds start.0 direction.0 dimensions.0) (below_size-finds start.1 direction.1 dimensions.1)
  starts t false i = λ x m. let h = of_inside dimensions start m.from_inside in cc

  moved : (b : Bool) → (is_zero direction.0 && is_zero direction.1) ≡ b → Finds (IsMove start direction dimensions) (cond b None (cond (is_inside dimensions start) found None))
  moved true z = λ x m. m.moves (still direction z)
  moved false z = starts (turned direction z) (is_inside dimensions start) refl

  pub target_of-finds : Finds (IsMove start direction dimensions) (target_of start direction dimensions)
  target_of-finds = moved (is_zero direction.0 && is_zero direction.1) refl

  -- there is one target
  pub same_target : (x y : ℕ × ℕ) → IsMove start direction dimensions x → IsMove start direction dimensions y → x ≡ y
  same_target x y m n =
      let a : x.0 ≡ y.0 = (let e = m.row in let f = n.row in let g : pos x.0 ≡ pos y.0 = e ∙ sym f in cc) in
      let c : x.1 ≡ y.1 = (let e = m.column in let f = n.column in let g : pos x.1 ≡ pos y.1 = e ∙ sym f in cc) in
      ap (λ r. (r, x.1)) a ∙ ap (λ q. (y.0, q)) c

  -- so what finds it is what `target_of` gives
  pub target_is : (o : Option (ℕ × ℕ)) → Finds (IsMove start direction dimensions) o → o ≡ target_of start direction dimensions
  target_is o f = by_both o (target_of start direction dimensions) f target_of-finds
    where
      by_both : (o p : Option (ℕ × ℕ)) → Finds (IsMove start direction dimensions) o → Finds (IsMove start direction dimensions) p → o ≡ p
      by_both None None f g = refl
      by_both None (Some y) f g = absurd (f y g)
      by_both (Some x) None f g = absurd (g x f)
      by_both (Some x) (Some y) f g = ap Some (same_target x y f g)

-- ---- rays

-- a move brings the edge nearer
room_falls : (from to size : ℕ) (step : ℤ) → pos to ≡ pos from +ℤ step → from < size → to < size → room to step size ≤ room from step size
room_falls from to size (pos zero) e h i = omega arith
room_falls from to size (pos (suc n)) e h i = omega (arith, ints)
room_falls from to size (negsuc n) e h i = omega (arith, ints)

room_below : (from to size : ℕ) (step : ℤ) → step ≢ pos 0 → pos to ≡ pos from +ℤ step → from < size → to < size → room to step size < room from step size
room_below from to size (pos zero) t e h i = absurd (t refl)
room_below from to size (pos (suc n)) t e h i = omega (arith, ints)
room_below from to size (negsuc n) t e h i = omega (arith, ints)

abbrev room_of : ℕ × ℕ → ℤ × ℤ → ℕ × ℕ → ℕ
room_of start direction dimensions = room start.0 direction.0 dimensions.0 + room start.1 direction.1 dimensions.1

move_falls : (s : ℕ × ℕ) (d : ℤ × ℤ) (b t : ℕ × ℕ) → IsMove s d b t → room_of t d b < room_of s d b
move_falls s d b t m = by_rows (is_zero d.0) refl
  where
    rows : room t.0 d.0 b.0 ≤ room s.0 d.0 b.0
    rows = room_falls s.0 t.0 b.0 d.0 m.row m.from_inside.0 m.to_inside.0

    columns : room t.1 d.1 b.1 ≤ room s.1 d.1 b.1
    columns = room_falls s.1 t.1 b.1 d.1 m.column m.from_inside.1 m.to_inside.1

    by_columns : d.0 ≡ pos 0 → (z : Bool) → is_zero d.1 ≡ z → room_of t d b < room_of s d b
    by_columns h true e = absurd (m.moves (ap (λ x. (x, d.1)) h ∙ ap (λ y. (pos 0, y)) (zero_is d.1 e)))
    by_columns h false e = omega (arith, rows, room_below s.1 t.1 b.1 d.1 (not_zero d.1 e) m.column m.from_inside.1 m.to_inside.1)

    by_rows : (z : Bool) → is_zero d.0 ≡ z → room_of t d b < room_of s d b
    by_rows true e = by_columns (zero_is d.0 e) (is_zero d.1) refl
    by_rows false e = omega (arith, columns, room_below s.0 t.0 b.0 d.0 (not_zero d.0 e) m.row m.from_inside.0 m.to_inside.0)

abbrev and_then : ℕ → ℤ × ℤ → ℕ × ℕ → Option (ℕ × ℕ) → List (ℕ × ℕ)
and_then count d b o = option_map_or (λ target. target ∷ first_of_ray count target d b) o []

none_at : (g : ℕ) (s : ℕ × ℕ) (d : ℤ × ℤ) (b : ℕ × ℕ) (o : Option (ℕ × ℕ)) → Finds (IsMove s d b) o → room_of s d b ≤ 0 → and_then g d b o ≡ []
none_at g s d b None f h = refl
none_at g s d b (Some t) f h = absurd (omega (arith, h, move_falls s d b t f))

one_more : (f g : ℕ) (s : ℕ × ℕ) (d : ℤ × ℤ) (b : ℕ × ℕ) → room_of s d b ≤ suc f → room_of s d b ≤ suc g → ((t : ℕ × ℕ) → room_of t d b ≤ f → room_of t d b ≤ g → first_of_ray f t d b ≡ first_of_ray g t d b) → (o : Option (ℕ × ℕ)) → Finds (IsMove s d b) o → and_then f d b o ≡ and_then g d b o
one_more f g s d b h k same None n = refl
one_more f g s d b h k same (Some t) m = let l = move_falls s d b t m in ap (λ ts. t ∷ ts) (same t (omega (arith, l, h)) (omega (arith, l, k)))

-- more positions than there are make no difference
enough : (f g : ℕ) (s : ℕ × ℕ) (d : ℤ × ℤ) (b : ℕ × ℕ) → room_of s d b ≤ f → room_of s d b ≤ g → first_of_ray f s d b ≡ first_of_ray g s d b
enough zero zero s d b h k = refl
enough zero (suc g) s d b h k = sym (none_at g s d b (target_of s d b) (target_of-finds s d b) h)
enough (suc f) zero s d b h k = none_at f s d b (target_of s d b) (target_of-finds s d b) k
enough (suc f) (suc g) s d b h k = one_more f g s d b h k (λ t. enough f g t d b) (target_of s d b) (target_of-finds s d b)

-- a ray is its first position and the ray from there
pub ray_is : (s : ℕ × ℕ) (d : ℤ × ℤ) (b : ℕ × ℕ) → ray s d b ≡ option_map_or (λ t. t ∷ ray t d b) (target_of s d b) []
ray_is s d b = from_count (room_of s d b) refl
  where
    step : (f : ℕ) → room_of s d b ≡ suc f → (o : Option (ℕ × ℕ)) → Finds (IsMove s d b) o → and_then f d b o ≡ option_map_or (λ t. t ∷ ray t d b) o []
    step f e None n = refl
    step f e (Some t) m = let l = move_falls s d b t m in ap (λ ts. t ∷ ts) (enough f (room_of t d b) t d b (omega (arith, l, e)) (omega arith))

    nothing : room_of s d b ≡ 0 → (o : Option (ℕ × ℕ)) → Finds (IsMove s d b) o → [] ≡ option_map_or (λ t. t ∷ ray t d b) o []
    nothing e None n = refl
    nothing e (Some t) m = absurd (omega (arith, e, move_falls s d b t m))

    from_count : (n : ℕ) → room_of s d b ≡ n → first_of_ray n s d b ≡ option_map_or (λ t. t ∷ ray t d b) (target_of s d b) []
    from_count zero e = nothing e (target_of s d b) (target_of-finds s d b)
    from_count (suc f) e = step f e (target_of s d b) (target_of-finds s d b)

-- the ray from where a move leads
pub ray_from : (s : ℕ × ℕ) (d : ℤ × ℤ) (b : ℕ × ℕ) (o : Option (ℕ × ℕ)) → Finds (IsMove s d b) o → ray s d b ≡ option_map_or (λ t. t ∷ ray t d b) o []
ray_from s d b o f = ray_is s d b ∙ ap (λ p. option_map_or (λ t. t ∷ ray t d b) p []) (sym (target_is s d b o f))

-- ---- several steps

times_one : (z : ℤ) → pos 1 *ℤ z ≡ z
times_one (pos n) = pos-*ℤ-pos 1 n ∙ omega (arith, ints)
times_one (negsuc n) = pos-*ℤ-negsuc 1 n ∙ omega (arith, ints)

-- what is inside after several steps is so after the first
first_inside : (x size n : ℕ) (z : ℤ) (to : ℕ) → x < size → pos to ≡ pos x +ℤ pos (suc n) *ℤ z → to < size → (first : ℕ) × (pos first ≡ pos x +ℤ z) × (first < size)
first_inside x size n (pos m) to h e i =
    let f : pos to ≡ pos (x + suc n * m) = e ∙ ap (λ y. pos x +ℤ y) (pos-*ℤ-pos (suc n) m) in
    (x + m, refl, omega (arith, ints))
first_inside x size n (negsuc m) to h e i =
    let f : pos to ≡ pos x +ℤ neg_ℤ (pos (suc n * suc m)) = e ∙ ap (λ y. pos x +ℤ y) (pos-*ℤ-negsuc (suc n) m) in
    (x - suc m, omega (arith, ints), omega (arith, ints))

several_zero : (n : ℕ) (z : ℤ) → pos (suc n) *ℤ z ≡ pos 0 → z ≡ pos 0
several_zero n (pos m) e = let f = sym (pos-*ℤ-pos (suc n) m) ∙ e in omega (arith, ints)
several_zero n (negsuc m) e = let f = sym (pos-*ℤ-negsuc (suc n) m) ∙ e in omega (arith, ints)

several_turn : (n : ℕ) (d : ℤ × ℤ) → d ≢ (pos 0, pos 0) → times (suc n) d ≢ (pos 0, pos 0)
several_turn n d t e = t (ap (λ x. (x, d.1)) (several_zero n d.0 (ap (λ (p : ℤ × ℤ). p.0) e)) ∙ ap (λ y. (pos 0, y)) (several_zero n d.1 (ap (λ (p : ℤ × ℤ). p.1) e)))

one_turns : (n : ℕ) (d : ℤ × ℤ) → times (suc n) d ≢ (pos 0, pos 0) → d ≢ (pos 0, pos 0)
one_turns n d t e = t (ap (times (suc n)) e ∙ ap (λ y. (y, y)) (*ℤ-zero (pos (suc n))))

first_move : (n : ℕ) (s : ℕ × ℕ) (d : ℤ × ℤ) (b x : ℕ × ℕ) → IsMove s (times (suc n) d) b x → (t : ℕ × ℕ) × IsMove s d b t
first_move n s d b x m =
    let r = first_inside s.0 b.0 n d.0 x.0 m.from_inside.0 m.row m.to_inside.0 in
    let c = first_inside s.1 b.1 n d.1 x.1 m.from_inside.1 m.column m.to_inside.1 in
    ((r.0, c.0), record { from_inside = m.from_inside; moves = one_turns n d m.moves; row = r.1; column = c.1; to_inside = (r.2, c.2) })

sum_on : (x t s : ℕ) (z m w : ℤ) → w ≡ m +ℤ z → pos t ≡ pos s +ℤ z → pos x ≡ pos t +ℤ m → pos x ≡ pos s +ℤ w
sum_on x t s z m w e f g = omega (arith, ints)

sum_back : (x t s : ℕ) (z m w : ℤ) → w ≡ m +ℤ z → pos t ≡ pos s +ℤ z → pos x ≡ pos s +ℤ w → pos x ≡ pos t +ℤ m
sum_back x t s z m w e f g = omega (arith, ints)

one_more_time : (n : ℕ) (z : ℤ) → pos (suc (suc n)) *ℤ z ≡ pos (suc n) *ℤ z +ℤ z
one_more_time n z = suc_ℤ-*ℤ (pos (suc n)) z

move_on : (n : ℕ) (s : ℕ × ℕ) (d : ℤ × ℤ) (b t x : ℕ × ℕ) → IsMove s d b t → IsMove t (times (suc n) d) b x → IsMove s (times (suc (suc n)) d) b x
move_on n s d b t x m k = record {
  from_inside = m.from_inside;
  moves = several_turn (suc n) d m.moves;
  row = sum_on x.0 t.0 s.0 d.0 _ _ (one_more_time n d.0) m.row k.row;
  column = sum_on x.1 t.1 s.1 d.1 _ _ (one_more_time n d.1) m.column k.column;
  to_inside = k.to_inside;
}

move_back : (n : ℕ) (s : ℕ × ℕ) (d : ℤ × ℤ) (b t x : ℕ × ℕ) → IsMove s d b t → IsMove s (times (suc (suc n)) d) b x → IsMove t (times (suc n) d) b x
move_back n s d b t x m k = record {
  from_inside = m.to_inside;
  moves = several_turn n d m.moves;
  row = sum_back x.0 t.0 s.0 d.0 _ _ (one_more_time n d.0) m.row k.row;
  column = sum_back x.1 t.1 s.1 d.1 _ _ (one_more_time n d.1) m.column k.column;
  to_inside = k.to_inside;
}

Finds-iff : {A : Type 0} (P Q : A → Type 0) → ((x : A) → P x → Q x) → ((x : A) → Q x → P x) → (o : Option A) → Finds P o → Finds Q o
Finds-iff P Q f g None n = λ x q. n x (g x q)
Finds-iff P Q f g (Some x) p = f x p

-- the position at each place of a ray
at_place : (k : ℕ) (s : ℕ × ℕ) (d : ℤ × ℤ) (b : ℕ × ℕ) → ((j : ℕ) → k ≡ suc j → (t : ℕ × ℕ) → Finds (IsMove t (times (suc j) d) b) (slice_get (ray t d b) j)) → (o : Option (ℕ × ℕ)) → Finds (IsMove s d b) o → Finds (IsMove s (times (suc k) d) b) (slice_get (option_map_or (λ t. t ∷ ray t d b) o []) k)
at_place k s d b after None n = λ x m. let f = first_move k s d b x m in n f.0 f.1
at_place zero s d b after (Some t) m = subst (λ e. IsMove s e b t) (sym (ap (λ x. (x, pos 1 *ℤ d.1)) (times_one d.0) ∙ ap (λ y. (d.0, y)) (times_one d.1))) m
at_place (suc j) s d b after (Some t) m = Finds-iff _ _ (λ x. move_on j s d b t x m) (λ x. move_back j s d b t x m) (slice_get (ray t d b) j) (after j refl t)

places : (k : ℕ) (s : ℕ × ℕ) (d : ℤ × ℤ) (b : ℕ × ℕ) → Finds (IsMove s (times (suc k) d) b) (slice_get (ray s d b) k)
places zero s d b = subst (λ ps. Finds (IsMove s (times 1 d) b) (slice_get ps 0)) (sym (ray_is s d b)) (at_place 0 s d b (λ j e. absurd (omega (arith, e))) (target_of s d b) (target_of-finds s d b))
places (suc k) s d b = subst (λ ps. Finds (IsMove s (times (suc (suc k)) d) b) (slice_get ps (suc k))) (sym (ray_is s d b)) (at_place (suc k) s d b (λ j e t. subst (λ i. Finds (IsMove t (times (suc i) d) b) (slice_get (ray t d b) i)) (omega (arith, e)) (places k t d b)) (target_of s d b) (target_of-finds s d b))

pub ray_places : (s : ℕ × ℕ) (d : ℤ × ℤ) (b : ℕ × ℕ) (k : ℕ) → Finds (IsMove s (times (k + 1) d) b) (slice_get (ray s d b) k)
ray_places s d b k = subst (λ n. Finds (IsMove s (times n d) b) (slice_get (ray s d b) k)) (sym (add-one k)) (places k s d b)
