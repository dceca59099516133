-- The rows and the columns of a square, exchanged pair by pair, in bands of rows.
use Rattle.std.proofs.Common.{◌≡◌, ℕ, ◌+◌, ◌*◌, ◌<◌, ◌≤◌, max, refl, ap, ◌∙◌, arith, Bool, true, false, ◌&&◌, nat_lt, List, length, length-set, get_or, set, inl, inr, ◌⊎◌}
use Rattle.std.specs.Prelude.{◌≢◌, if◌then◌else◌}
use Rattle.std.specs.List.{swap}
use Rattle.std.proofs.lemmas.Bool.{cases_lt, cases_eq, lt-ltb, le-ltb}
use Rattle.std.proofs.lemmas.Nat.{mul-add-lt, mul-le, same_from_place}
use Rattle.std.proofs.Math.Nat.{mul_comm}
use Rattle.std.proofs.lemmas.List.{get_or-set_same, get_or-set_other}
use Rattle.std.proofs.lemmas.List.Edits.{swap_is, length-swap}
use Rattle.pf_row_major.proofs.FillLemmas.{Filling}
use Rattle.pf_row_major.proofs.SliceLemmas.{row_before}

-- (r, c) is on the diagonal, above and left of the band, or behind it
abbrev pub IsBeside : ℕ → ℕ → ℕ → ℕ → Type 0
IsBeside from to r c = (r ≡ c) ⊎ (((r < from) × (c < from)) ⊎ (to ≤ c))

-- Of the pairs with a column in the band, those before this place, and their mirrors, are exchanged, and the others are as they were, as is all beside the band.
pub record Exchanging {X : Type 0} (n from to : ℕ) (xs ys : List X) (at : ℕ) : Type 0 where
  pub size : length ys ≡ length xs
  pub done : (r c : ℕ) (d : X) → r < c → from ≤ c → c < to → r * n + c < at → (get_or ys (r * n + c) d ≡ get_or xs (c * n + r) d) × (get_or ys (c * n + r) d ≡ get_or xs (r * n + c) d)
  pub left : (r c : ℕ) (d : X) → r < c → from ≤ c → c < to → at ≤ r * n + c → (get_or ys (r * n + c) d ≡ get_or xs (r * n + c) d) × (get_or ys (c * n + r) d ≡ get_or xs (c * n + r) d)
  pub others : (r c : ℕ) (d : X) → r < to → c < n → IsBeside from to r c → get_or ys (r * n + c) d ≡ get_or xs (r * n + c) d

module _ {X : Type 0} (ys : List X) (i j : ℕ) (i_in : i < length ys) (j_in : j < length ys) where
  pub swap_first : (d : X) → get_or (swap ys i j) i d ≡ get_or ys j d
  swap_first d = rw (← swap_is ys i j d i_in j_in) (by (cases_eq i j))
    where
      by : (i ≡ j) ⊎ (i ≡ j → ⊥) → get_or (set (set ys i (get_or ys j d)) j (get_or ys i d)) i d ≡ get_or ys j d
      by (inl e) = rw (← e) (get_or-set_same (set ys i (get_or ys i d)) i (get_or ys i d) d (simp length-set i_in))
      by (inr e) = get_or-set_other (set ys i (get_or ys j d)) j i (get_or ys i d) d e ∙ get_or-set_same ys i (get_or ys j d) d i_in

  pub swap_second : (d : X) → get_or (swap ys i j) j d ≡ get_or ys i d
  swap_second d = rw (← swap_is ys i j d i_in j_in) (get_or-set_same (set ys i (get_or ys j d)) j (get_or ys i d) d (simp length-set j_in))

  pub swap_other : (k : ℕ) (d : X) → k ≢ i → k ≢ j → get_or (swap ys i j) k d ≡ get_or ys k d
  swap_other k d e f = rw (← swap_is ys i j d i_in j_in) (get_or-set_other (set ys i (get_or ys j d)) j k (get_or ys i d) d f ∙ get_or-set_other ys i k (get_or ys j d) d e)

-- two positions that differ have two places
pub apart : (r c s e w : ℕ) → c < w → e < w → ¬ ((r ≡ s) × (c ≡ e)) → r * w + c ≢ s * w + e
apart r c s e w h k n q = n (same_from_place r c s e w h k q)

module _ {X : Type 0} (n from to : ℕ) (xs ys : List X) (row column : ℕ) (order : row < column) (low : from ≤ column) (inside : column < to) (room : to ≤ n) (sized : length ys ≡ to * n) where
  place_in : row * n + column < length ys
  place_in = omega (arith, mul-add-lt row n column to (omega arith) (omega arith), mul_comm n to)

  mirror_in : column * n + row < length ys
  mirror_in = omega (arith, mul-add-lt column n row to inside (omega arith), mul_comm n to)

  untouched : (r c : ℕ) (d : X) → c < n → ¬ ((r ≡ row) × (c ≡ column)) → ¬ ((r ≡ column) × (c ≡ row)) → get_or (swap ys (row * n + column) (column * n + row)) (r * n + c) d ≡ get_or ys (r * n + c) d
  untouched r c d h e f = swap_other ys (row * n + column) (column * n + row) place_in mirror_in (r * n + c) d (apart r c row column n h (omega arith) e) (apart r c column row n h (omega arith) f)

  beside_apart : (r c : ℕ) → IsBeside from to r c → (¬ ((r ≡ row) × (c ≡ column))) × (¬ ((r ≡ column) × (c ≡ row)))
  beside_apart r c (inl e) = (λ p. absurd (omega (arith, p, e)), λ p. absurd (omega (arith, p, e)))
  beside_apart r c (inr (inl h)) = (λ p. absurd (omega (arith, p, h)), λ p. absurd (omega (arith, p, h)))
  beside_apart r c (inr (inr h)) = (λ p. absurd (omega (arith, p, h)), λ p. absurd (omega (arith, p, h)))

  pub exchange_more : Exchanging n from to xs ys (row * n + column) → Exchanging n from to xs (swap ys (row * n + column) (column * n + row)) (row * n + (column + 1))
  exchange_more x = record {
    size = length-swap ys (row * n + column) (column * n + row) ∙ x.size;
    done = λ r c d h l k b. by r c d h l k b (cases_eq (r * n + c) (row * n + column));
    left = λ r c d h l k b.
        let e : ¬ ((r ≡ row) × (c ≡ column)) = λ p. absurd (omega (arith, b, ap (λ s. s * n) p.0, p.1)) in
        let old = x.left r c d h l k (omega arith) in
        (untouched r c d (omega arith) e (λ p. absurd (omega (arith, p))) ∙ old.0, untouched c r d (omega arith) (λ p. absurd (omega (arith, p))) (λ p. e (p.1, p.0)) ∙ old.1);
    others = λ r c d h k b. let e = beside_apart r c b in untouched r c d k e.0 e.1 ∙ x.others r c d h k b;
  }
    where
      by : (r c : ℕ) (d : X) → r < c → from ≤ c → c < to → r * n + c < row * n + (column + 1) → (r * n + c ≡ row * n + column) ⊎ (r * n + c ≡ row * n + column → ⊥)
          → (get_or (swap ys (row * n + column) (column * n + row)) (r * n + c) d ≡ get_or xs (c * n + r) d) × (get_or (swap ys (row * n + column) (column * n + row)) (c * n + r) d ≡ get_or xs (r * n + c) d)
      by r c d h l k b (inl q) =
          let p = same_from_place r c row column n (omega arith) (omega arith) q in
          let old = x.left row column d order low inside (omega arith) in
          rw (p.0, p.1) (swap_first ys (row * n + column) (column * n + row) place_in mirror_in d ∙ old.1, swap_second ys (row * n + column) (column * n + row) place_in mirror_in d ∙ old.0)
      by r c d h l k b (inr q) =
          let e : ¬ ((r ≡ row) × (c ≡ column)) = λ p. q (λ i. p.0 i * n + p.1 i) in
          let old = x.done r c d h l k (omega arith) in
          (untouched r c d (omega arith) e (λ p. absurd (omega (arith, p))) ∙ old.0, untouched c r d (omega arith) (λ p. absurd (omega (arith, p))) (λ p. e (p.1, p.0)) ∙ old.1)

-- after the last column of a row, the next row begins behind its diagonal, in the band
pub exchange_row : {X : Type 0} (n from to : ℕ) (xs ys : List X) (row : ℕ) → row < to → to ≤ n → Exchanging n from to xs ys (row * n + to) → Exchanging n from to xs ys ((row + 1) * n + max from (row + 1 + 1))
exchange_row n from to xs ys row inside room x =
    let next : (row + 1) * n ≡ row * n + n = omega arith in
    record {
      size = x.size;
      done = λ r c d h l k b. x.done r c d h l k (elim (cases_lt r (row + 1)) [
        | inl o ↦ omega (arith, row_before r (row + 1) n o)
        | inr o ↦ elim (cases_eq r (row + 1)) [
          | inl e ↦ absurd (omega (arith, ap (λ s. s * n) e))
          | inr e ↦ absurd (omega (arith, row_before (row + 1) r n (omega arith)))
        ]
      ]);
      left = λ r c d h l k b. x.left r c d h l k (omega arith);
      others = x.others;
    }

-- at the end
module _ {X : Type 0} (n from to : ℕ) (xs ys : List X) (at : ℕ) (all : to * n ≤ at) (room : to ≤ n) (x : Exchanging n from to xs ys at) where
  pub exchanged_all : (r c : ℕ) (d : X) → r < to → c < to → (from ≤ r) ⊎ (from ≤ c) → get_or ys (r * n + c) d ≡ get_or xs (c * n + r) d
  exchanged_all r c d h k b = elim (cases_lt r c) [
    | inl o ↦ (x.done r c d o (later b o) k (omega (arith, mul-add-lt r n c to h (omega arith), mul_comm n to))).0
    | inr o ↦ elim (cases_eq r c) [
      | inl e ↦ rw e (x.others c c d k (omega arith) (inl refl))
      | inr e ↦
          let over : c < r = omega arith in
          (x.done c r d over (earlier b over) h (omega (arith, mul-add-lt c n r to k (omega arith), mul_comm n to))).1
    ]
  ]
    where
      later : (from ≤ r) ⊎ (from ≤ c) → r < c → from ≤ c
      later (inl l) o = omega arith
      later (inr l) o = l

      earlier : (from ≤ r) ⊎ (from ≤ c) → c < r → from ≤ r
      earlier (inl l) o = l
      earlier (inr l) o = omega arith

  pub others_all : (r c : ℕ) (d : X) → r < to → c < n → ((r < from) × (c < from)) ⊎ (to ≤ c) → get_or ys (r * n + c) d ≡ get_or xs (r * n + c) d
  others_all r c d h k b = x.others r c d h k (inr b)

-- ---- rows of clones, of which the first are exchanged with the columns

-- where what stands at (r, c) comes from, while the rows and the columns of the first k are exchanged
abbrev pub placed : ℕ → (ℕ → ℕ → ℕ) → ℕ → ℕ → ℕ
placed k source r c = if nat_lt r k && nat_lt c k then source c r else source r c

pub placed_both : (k : ℕ) (source : ℕ → ℕ → ℕ) (r c : ℕ) → r < k → c < k → placed k source r c ≡ source c r
placed_both k source r c h l = ap (λ (b : Bool). if b && nat_lt c k then source c r else source r c) (lt-ltb r k h) ∙ ap (λ (b : Bool). if b then source c r else source r c) (lt-ltb c k l)

pub placed_below : (k : ℕ) (source : ℕ → ℕ → ℕ) (r c : ℕ) → k ≤ r → placed k source r c ≡ source r c
placed_below k source r c h = ap (λ (b : Bool). if b && nat_lt c k then source c r else source r c) (le-ltb r k h)

and_false : (b : Bool) → (b && false) ≡ false
and_false true = refl
and_false false = refl

placed_right : (k : ℕ) (source : ℕ → ℕ → ℕ) (r c : ℕ) → k ≤ c → placed k source r c ≡ source r c
placed_right k source r c h = ap (λ (b : Bool). if nat_lt r k && b then source c r else source r c) (le-ltb c k h) ∙ ap (λ (b : Bool). if b then source c r else source r c) (and_false (nat_lt r k))

-- the band is exchanged too
module _ {X : Type 0} (like : X → X → Type 0) (n from to : ℕ) (source : ℕ → ℕ → ℕ) (xs ys zs : List X) (order : from ≤ to) (room : to ≤ n)
    (exchanged : (r c : ℕ) (d : X) → r < to → c < to → (from ≤ r) ⊎ (from ≤ c) → get_or zs (r * n + c) d ≡ get_or ys (c * n + r) d)
    (others : (r c : ℕ) (d : X) → r < to → c < n → ((r < from) × (c < from)) ⊎ (to ≤ c) → get_or zs (r * n + c) d ≡ get_or ys (r * n + c) d)
    (f : Filling like n (placed from source) xs ys (to * n)) where
  abbrev Right : ℕ → ℕ → X → X → Type 0
  Right r c d e = like (get_or xs (placed to source r c) d) (get_or zs (r * n + c) e)

  -- in the columns of the first rows
  within : (r c : ℕ) (d e : X) → r < to → c < to → ((r < from) × (c < from)) ⊎ ((from ≤ r) ⊎ (from ≤ c)) → Right r c d e
  within r c d e h k (inl b) =
      rw (placed_both to source r c h k, others r c e h (omega arith) (inl b))
      (rw (placed_both from source r c b.0 b.1) at (f.values r c d e (omega arith) (omega (arith, mul-add-lt r n c to h (omega arith), mul_comm n to))))
  within r c d e h k (inr b) =
      rw (placed_both to source r c h k, exchanged r c e h k b)
      (rw (mirrored b) at (f.values c r d e (omega arith) (omega (arith, mul-add-lt c n r to k (omega arith), mul_comm n to))))
    where
      mirrored : (from ≤ r) ⊎ (from ≤ c) → placed from source c r ≡ source c r
      mirrored (inl l) = placed_right from source c r l
      mirrored (inr l) = placed_below from source c r l

  pub filled_on : length zs ≡ length ys → Filling like n (placed to source) xs zs (to * n)
  filled_on same = record {
    size = same ∙ f.size;
    values = λ r c d e h b.
        let row : r < to = elim (cases_lt r to) as (λ _. r < to) [ inl p ↦ p | inr p ↦ absurd (omega (arith, mul-le to n r n p (omega arith), b)) ] in
        elim (cases_lt c to) as (λ _. Right r c d e) [
          | inl p ↦ within r c d e row p (split r c)
          | inr p ↦
              rw (placed_right to source r c p, others r c e row h (inr p))
              (rw (placed_right from source r c (omega arith)) at (f.values r c d e h b))
        ];
  }
    where
      split : (r c : ℕ) → ((r < from) × (c < from)) ⊎ ((from ≤ r) ⊎ (from ≤ c))
      split r c = elim (cases_lt r from) [
        | inl p ↦ elim (cases_lt c from) [ inl q ↦ inl (p, q) | inr q ↦ inr (inr q) ]
        | inr p ↦ inr (inl p)
      ]
