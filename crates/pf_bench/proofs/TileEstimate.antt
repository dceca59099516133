-- The sum of the distances of all tiles from their places falls by 1 at most along a move of the 15-puzzle.
use Rattle.std.proofs.Common.{◌≡◌, ◌≢◌, ◌∙◌, ℕ, ℤ, pos, zero, suc, ◌+◌, ◌-◌, ◌/◌, ◌%◌, ◌<◌, ◌≤◌, arith, refl, sym, ap, subst, inl, inr, Bool, true, false, Option, Some, None, List, [], ◌∷◌, length, nat_eq, nat_lt, slice_index}
use Rattle.std.specs.Prelude.{◌≤ℤ◌, ◌+ℤ◌, ◌⊎◌, ◌&&◌, if◌then◌else◌, map, slice_set}
use Rattle.std.specs.Cmp.Lexicographic.{same_text, nat_list_eq_equiv}
use Rattle.std.specs.Int.{abs_diff}
use Rattle.std.specs.List.{AllZip, cons_option, filter_map}
use Rattle.std.specs.Option.{option_and_then}
use Rattle.std.proofs.lemmas.Bool.{cases_lt, ltb-true, eqb-true}
use Rattle.std.proofs.lemmas.Int.{ints}
use Rattle.std.proofs.lemmas.List.{get_or-set_other, get_or-set_same, length-set}
use Rattle.std.proofs.lemmas.List.Sums.{passes_at_first}
use Rattle.pf_base.specs.Edges.{HasEdge}
use Rattle.pf_informed.specs.Estimates.{IsAdmissible}
use Rattle.pf_bench.specs.Tiles.{blank_in, distance_below, four_moves, moved_blank, moves_from, same_tiles, slid, slid_between, slid_from, solved_tiles, tile_distance}
use Rattle.pf_bench.proofs.BoardEstimate.{IsBeside, admissible_within, apart}

pub tiles_refl : (x : List ℕ) → same_tiles x x ≡ true
tiles_refl = nat_list_eq_equiv.refl

pub tiles_exact : (x y : List ℕ) → same_tiles x y ≡ true → x ≡ y
tiles_exact x y e = same_text x y (sym e)

zip_same : (x y : List ℕ) → AllZip (λ (a b : ℕ). b ≡ a) x y → y ≡ x
zip_same [] [] h = refl
zip_same [] (b ∷ y) h = absurd h
zip_same (a ∷ x) [] h = absurd h
zip_same (a ∷ x) (b ∷ y) h = ap (λ (n : ℕ). n ∷ y) h.0 ∙ ap (λ (w : List ℕ). a ∷ w) (zip_same x y h.1)

-- a clone has the same tiles
pub clones_same : (x y : List ℕ) → AllZip (λ (a b : ℕ). b ≡ a) x y → same_tiles x y ≡ true
clones_same x y h = subst (λ (w : List ℕ). same_tiles x w ≡ true) (sym (zip_same x y h)) (tiles_refl x)

-- ---- where the blank comes to

both : (p q : Bool) → (p && q) ≡ true → q ≡ true
both true q e = e
both false q e = cc

picked : (p q r s : Bool) (a b c d t : ℕ) → (if p then Some a else if q then Some b else if r then Some c else if s then Some d else None) ≡ Some t
    → ((p ≡ true) × (a ≡ t)) ⊎ (((q ≡ true) × (b ≡ t)) ⊎ (((r ≡ true) × (c ≡ t)) ⊎ ((s ≡ true) × (d ≡ t))))
picked true q r s a b c d t e = inl (refl, cc)
picked false true r s a b c d t e = inr (inl (refl, cc))
picked false false true s a b c d t e = inr (inr (inl (refl, cc)))
picked false false false true a b c d t e = inr (inr (inr (refl, cc)))
picked false false false false a b c d t e = cc

-- a place beside another one, in its row or in its column
record IsNext (b t : ℕ) : Type 0 where
  other : t ≢ b
  beside : (IsBeside (t / 4) (b / 4) × (t % 4 ≡ b % 4)) ⊎ ((t / 4 ≡ b / 4) × IsBeside (t % 4) (b % 4))

next_to : (m b t : ℕ) → moved_blank b m ≡ Some t → IsNext b t
next_to m b t e = by (picked (nat_eq m 0 && nat_lt 3 b) (nat_eq m 1 && nat_lt b 12) (nat_eq m 2 && nat_lt 0 (b % 4)) (nat_eq m 3 && nat_lt (b % 4) 3) (b - 4) (b + 4) (b - 1) (b + 1) t e)
  where
    by : (((nat_eq m 0 && nat_lt 3 b) ≡ true) × (b - 4 ≡ t)) ⊎ ((((nat_eq m 1 && nat_lt b 12) ≡ true) × (b + 4 ≡ t)) ⊎ ((((nat_eq m 2 && nat_lt 0 (b % 4)) ≡ true) × (b - 1 ≡ t)) ⊎ (((nat_eq m 3 && nat_lt (b % 4) 3) ≡ true) × (b + 1 ≡ t)))) → IsNext b t
    by (inl h) =
        let l = ltb-true 3 b (both (nat_eq m 0) (nat_lt 3 b) h.0) in
        record { other = λ s. omega (arith, l, h.1, s); beside = inl ((omega (arith, l, h.1), omega (arith, l, h.1)), omega (arith, l, h.1)) }
    by (inr (inl h)) = record { other = λ s. omega (arith, h.1, s); beside = inl ((omega (arith, h.1), omega (arith, h.1)), omega (arith, h.1)) }
    by (inr (inr (inl h))) =
        let l = ltb-true 0 (b % 4) (both (nat_eq m 2) (nat_lt 0 (b % 4)) h.0) in
        record { other = λ s. omega (arith, l, h.1, s); beside = inr (omega (arith, l, h.1), (omega (arith, l, h.1), omega (arith, l, h.1))) }
    by (inr (inr (inr h))) =
        let l = ltb-true (b % 4) 3 (both (nat_eq m 3) (nat_lt (b % 4) 3) h.0) in
        record { other = λ s. omega (arith, h.1, s); beside = inr (omega (arith, l, h.1), (omega (arith, l, h.1), omega (arith, l, h.1))) }

tile_near : (b t x : ℕ) → IsNext b t → tile_distance t x ≤ tile_distance b x + 1
tile_near b t x n = by (nat_eq x 0)
  where
    by : (z : Bool) → (if z then 0 else abs_diff (t / 4) ((x - 1) / 4) + abs_diff (t % 4) ((x - 1) % 4)) ≤ (if z then 0 else abs_diff (b / 4) ((x - 1) / 4) + abs_diff (b % 4) ((x - 1) % 4)) + 1
    by true = omega arith
    by false = apart (t / 4) (b / 4) (t % 4) (b % 4) ((x - 1) / 4) ((x - 1) % 4) n.beside

-- ---- the sum after a write to one place

kept : (xs : List ℕ) (k v n : ℕ) → n ≤ k → distance_below (slice_set xs k v) n ≡ distance_below xs n
kept xs k v zero h = refl
kept xs k v (suc n) h =
    let e = kept xs k v n (omega (arith, h)) in
    let o : slice_index (slice_set xs k v) n ≡ slice_index xs n = get_or-set_other xs k n v 0 (λ s. omega (arith, h, s)) in
    ap (λ (z : ℕ). z + tile_distance n (slice_index (slice_set xs k v) n)) e ∙ ap (λ (z : ℕ). distance_below xs n + tile_distance n z) o

changed : (xs : List ℕ) (k v n : ℕ) → k < n → k < length xs → distance_below (slice_set xs k v) n + tile_distance k (slice_index xs k) ≡ distance_below xs n + tile_distance k v
changed xs k v zero h l = omega (arith, h)
changed xs k v (suc n) h l = by (λ below. changed xs k v n below l) (cases_lt k n)
  where
    moved_up : (p q r s w : ℕ) → p + q ≡ r + s → p + w + q ≡ r + w + s
    moved_up p q r s w e = omega (arith, e)

    turned : (p r a b : ℕ) → p ≡ r → p + a + b ≡ r + b + a
    turned p r a b e = omega (arith, e)

    at_end : distance_below (slice_set xs k v) (suc k) + tile_distance k (slice_index xs k) ≡ distance_below xs (suc k) + tile_distance k v
    at_end =
        let o : slice_index (slice_set xs k v) k ≡ v = get_or-set_same xs k v 0 l in
        ap (λ (z : ℕ). distance_below (slice_set xs k v) k + tile_distance k z + tile_distance k (slice_index xs k)) o
        ∙ turned (distance_below (slice_set xs k v) k) (distance_below xs k) (tile_distance k v) (tile_distance k (slice_index xs k)) (kept xs k v k (omega arith))

    by : (k < n → distance_below (slice_set xs k v) n + tile_distance k (slice_index xs k) ≡ distance_below xs n + tile_distance k v) → (k < n) ⊎ (n ≤ k) → distance_below (slice_set xs k v) (suc n) + tile_distance k (slice_index xs k) ≡ distance_below xs (suc n) + tile_distance k v
    by before (inl below) =
        let o : slice_index (slice_set xs k v) n ≡ slice_index xs n = get_or-set_other xs k n v 0 (λ s. omega (arith, below, s)) in
        ap (λ (z : ℕ). distance_below (slice_set xs k v) n + tile_distance n z + tile_distance k (slice_index xs k)) o
        ∙ moved_up (distance_below (slice_set xs k v) n) (tile_distance k (slice_index xs k)) (distance_below xs n) (tile_distance k v) (tile_distance n (slice_index xs n)) (before below)
    by before (inr above) =
        let last : k ≡ n = omega (arith, h, above) in
        subst (λ (m : ℕ). distance_below (slice_set xs k v) (suc m) + tile_distance k (slice_index xs k) ≡ distance_below xs (suc m) + tile_distance k v) last at_end

-- ---- a move

module _ (x : List ℕ) (all : length x ≡ 16) (b t : ℕ) (blank : b < 16) (inside : t < 16) (none : slice_index x b ≡ 0) (next : IsNext b t) where
  falls_by_one : distance_below x 16 ≤ distance_below (slice_set (slice_set x b (slice_index x t)) t 0) 16 + 1
  falls_by_one =
      let tile = slice_index x t in
      let middle = slice_set x b tile in
      let first : distance_below middle 16 + tile_distance b (slice_index x b) ≡ distance_below x 16 + tile_distance b tile = changed x b tile 16 blank (omega (arith, blank, all)) in
      let begun : distance_below middle 16 + tile_distance b 0 ≡ distance_below x 16 + tile_distance b tile = subst (λ (z : ℕ). distance_below middle 16 + tile_distance b z ≡ distance_below x 16 + tile_distance b tile) none first in
      let second : distance_below (slice_set middle t 0) 16 + tile_distance t (slice_index middle t) ≡ distance_below middle 16 + tile_distance t 0 = changed middle t 0 16 inside (omega (arith, inside, all, length-set x b tile)) in
      let same : slice_index middle t ≡ tile = get_or-set_other x b t tile 0 next.other in
      let ended : distance_below (slice_set middle t 0) 16 + tile_distance t tile ≡ distance_below middle 16 + tile_distance t 0 = subst (λ (z : ℕ). distance_below (slice_set middle t 0) 16 + tile_distance t z ≡ distance_below middle 16 + tile_distance t 0) same second in
      sums (distance_below x 16) (distance_below middle 16) (distance_below (slice_set middle t 0) 16) (tile_distance b tile) (tile_distance t tile) begun ended (tile_near b t tile next)
    where
      sums : (p q r u w : ℕ) → q + 0 ≡ p + u → r + w ≡ q + 0 → w ≤ u + 1 → p ≤ r + 1
      sums p q r u w e f n = omega (arith, e, f, n)

-- a move gives these tiles
record IsMoved (x y : List ℕ) (b m : ℕ) : Type 0 where
  to : ℕ
  blank : b < 16
  inside : to < 16
  moved : moved_blank b m ≡ Some to
  tiles : slice_set (slice_set x b (slice_index x to)) to 0 ≡ y

moved_of : (x y : List ℕ) (b m c : ℕ) → slid_from x b m ≡ Some (y, c) → IsMoved x y b m × (c ≡ 1)
moved_of x y b m c e = by (nat_lt b 16) refl e
  where
    placed : (t : ℕ) → nat_lt b 16 ≡ true → moved_blank b m ≡ Some t → (q : Bool) → nat_lt t 16 ≡ q → (if q then Some (slid_between x b t) else None) ≡ Some (y, c) → IsMoved x y b m × (c ≡ 1)
    placed t l o true i h =
        let pair : slid_between x b t ≡ (y, c) = cc in
        (record { to = t; blank = ltb-true b 16 l; inside = ltb-true t 16 i; moved = o; tiles = ap (λ (p : List ℕ × ℕ). p.0) pair }, sym (ap (λ (p : List ℕ × ℕ). p.1) pair))
    placed t l o false i h = cc

    found : nat_lt b 16 ≡ true → (o : Option ℕ) → moved_blank b m ≡ o → option_and_then (λ (t : ℕ). if nat_lt t 16 then Some (slid_between x b t) else None) o ≡ Some (y, c) → IsMoved x y b m × (c ≡ 1)
    found l None o h = cc
    found l (Some t) o h = placed t l o (nat_lt t 16) refl h

    by : (q : Bool) → nat_lt b 16 ≡ q → (if q then option_and_then (λ (t : ℕ). if nat_lt t 16 then Some (slid_between x b t) else None) (moved_blank b m) else None) ≡ Some (y, c) → IsMoved x y b m × (c ≡ 1)
    by true l h = found l (moved_blank b m) refl h
    by false l h = cc

-- ---- all moves

-- a state of all 16 places
abbrev pub IsState : List ℕ → Type 0
IsState x = length x ≡ 16

edge_of : (x : List ℕ) (G : Type 0) (ms : List ℕ) (y : List ℕ) (z : ℤ) → ((m c : ℕ) → slid x m ≡ Some (y, c) → pos c ≡ z → G)
    → HasEdge same_tiles (map (λ (e : List ℕ × ℕ). (e.0, pos e.1)) (filter_map (slid x) ms)) y z → G
edge_of x G [] y z all h = absurd h
edge_of x G (m ∷ ms) y z all h = by (slid x m) refl (λ k. edge_of x G ms y z all k) h
  where
    by : (o : Option (List ℕ × ℕ)) → slid x m ≡ o → (HasEdge same_tiles (map (λ (e : List ℕ × ℕ). (e.0, pos e.1)) (filter_map (slid x) ms)) y z → G)
        → HasEdge same_tiles (map (λ (e : List ℕ × ℕ). (e.0, pos e.1)) (cons_option o (filter_map (slid x) ms))) y z → G
    by None e rest k = rest k
    by (Some w) e rest (inl k) = all m w.1 (e ∙ ap (λ (q : List ℕ). Some (q, w.1)) (tiles_exact w.0 y k.0)) k.1
    by (Some w) e rest (inr k) = rest k

move_inside : (x y : List ℕ) (z : ℤ) → IsState x → HasEdge same_tiles (moves_from x) y z → IsState y
move_inside x y z all h = edge_of x (IsState y) four_moves y z (λ m c e p.
    let i = (moved_of x y (blank_in x) m c e).0 in
    subst IsState i.tiles (length-set (slice_set x (blank_in x) (slice_index x i.to)) i.to 0 ∙ length-set x (blank_in x) (slice_index x i.to) ∙ all)) h

move_falls : (x y : List ℕ) (z : ℤ) → IsState x → HasEdge same_tiles (moves_from x) y z → pos (distance_below x 16) ≤ℤ (z +ℤ pos (distance_below y 16))
move_falls x y z all h = edge_of x (pos (distance_below x 16) ≤ℤ (z +ℤ pos (distance_below y 16))) four_moves y z (λ m c e p.
    let i = moved_of x y (blank_in x) m c e in
    let none : slice_index x (blank_in x) ≡ 0 = eqb-true (slice_index x (blank_in x)) 0 (passes_at_first (λ t. nat_eq t 0) x 0 (omega (arith, i.0.blank, all))) in
    let one = falls_by_one x all (blank_in x) i.0.to i.0.blank i.0.inside none (next_to m (blank_in x) i.0.to i.0.moved) in
    falls (distance_below x 16) (distance_below y 16) c z (subst (λ (w : List ℕ). distance_below x 16 ≤ distance_below w 16 + 1) i.0.tiles one) i.1 p) h
  where
    falls : (p q c : ℕ) (z : ℤ) → p ≤ q + 1 → c ≡ 1 → pos c ≡ z → pos p ≤ℤ (z +ℤ pos q)
    falls p q c z h o e = omega (arith, ints, h, o, e)

none_left : (x : List ℕ) → same_tiles x solved_tiles ≡ true → pos (distance_below x 16) ≤ℤ pos 0
none_left x e = subst (λ (w : List ℕ). pos (distance_below w 16) ≤ℤ pos 0) (sym (tiles_exact x solved_tiles e)) (zero_of (distance_below solved_tiles 16) refl)
  where
    zero_of : (n : ℕ) → n ≡ 0 → pos n ≤ℤ pos 0
    zero_of n h = omega (arith, ints, h)

pub tiles_admissible : (start : List ℕ) → IsState start → IsAdmissible same_tiles moves_from (start ∷ []) (λ x. same_tiles x solved_tiles) (λ x. pos (distance_below x 16))
tiles_admissible start all = admissible_within same_tiles moves_from (λ x. same_tiles x solved_tiles) (λ x. pos (distance_below x 16)) IsState tiles_exact
    (λ x. omega (arith, ints)) (λ x e. none_left x e) (λ a b z p h. move_inside a b z p h) (λ a b z p h. move_falls a b z p h) start all
