-- What a flow carries over a cut.
use Rattle.std.proofs.Common.{◌≡◌, ◌≢◌, ◌∙◌, refl, sym, ap, ◌<◌, ◌+ℤ◌, ℕ, ℤ, pos, arith, Bool, true, false, true≢false, if◌then◌else◌}
use Rattle.std.specs.Prelude.{◌≤ℤ◌}
use Rattle.std.proofs.lemmas.Int.{ints}
use Rattle.pf_residual.specs.Flows.{PairTable, pair_sum, leaving, cut_capacity, flow_value, IsFeasibleFlow, IsCut}
use Rattle.pf_base.specs.Sums.{sum_to}
use Rattle.pf_residual.proofs.SumLemmas.{sum_ext, sum_add, sum_le, sum_none, sum_only, sum_equal, square_none}

-- what stays on the side, and what a vertex of the side sends
abbrev pub staying : (ℕ → Bool) → PairTable → PairTable
staying side t a b = if side a then (if side b then t a b else pos 0) else pos 0

abbrev pub sent : (ℕ → Bool) → PairTable → PairTable
sent side t a b = if side a then t a b else pos 0

parts : (p q : Bool) (z : ℤ) → (if p then (if q then pos 0 else z) else pos 0) +ℤ (if p then (if q then z else pos 0) else pos 0) ≡ (if p then z else pos 0)
parts true true z = omega (arith, ints)
parts true false z = omega (arith, ints)
parts false q z = refl

opposite_parts : (p q : Bool) (z w : ℤ) → z +ℤ w ≡ pos 0 → (if p then (if q then z else pos 0) else pos 0) +ℤ (if q then (if p then w else pos 0) else pos 0) ≡ pos 0
opposite_parts true true z w h = h
opposite_parts true false z w h = refl
opposite_parts false true z w h = refl
opposite_parts false false z w h = refl

row_total : (p : Bool) (g : ℕ → ℤ) (n : ℕ) → sum_to (λ b. if p then g b else pos 0) n ≡ (if p then sum_to g n else pos 0)
row_total true g n = refl
row_total false g n = sum_none (λ b. pos 0) n (λ b l. refl)

less_parts : (p q : Bool) (z w : ℤ) → z ≤ℤ w → (if p then (if q then pos 0 else z) else pos 0) ≤ℤ (if p then (if q then pos 0 else w) else pos 0)
less_parts true true z w h = omega (arith, ints)
less_parts true false z w h = h
less_parts false q z w h = omega (arith, ints)

none_sent : (n source sink : ℕ) (capacity f : PairTable) (side : ℕ → Bool) → IsFeasibleFlow n source sink capacity f → IsCut source sink side
    → (a : ℕ) → a < n → a ≢ source → (t : Bool) → side a ≡ t → (if t then sum_to (f a) n else pos 0) ≡ pos 0
none_sent n source sink capacity f side h k a l q true e = h.conserved a l q (λ w. absurd (true≢false (sym e ∙ ap side w ∙ k.sink_out)))
none_sent n source sink capacity f side h k a l q false e = refl

pub value_over_cut : (n source sink : ℕ) (capacity f : PairTable) (side : ℕ → Bool) → source < n → IsFeasibleFlow n source sink capacity f → IsCut source sink side
    → flow_value n source f ≡ pair_sum n (leaving side f)
value_over_cut n source sink capacity f side l h k =
    let total = λ (a : ℕ). if side a then sum_to (f a) n else pos 0 in
    let rows : sum_to (λ a. sum_to (sent side f a) n) n ≡ sum_to total n = sum_ext (λ a. sum_to (sent side f a) n) total n (λ a m. row_total (side a) (f a) n) in
    let one : sum_to total n ≡ total source = sum_only total n source l (λ a m q. none_sent n source sink capacity f side h k a m q (side a) refl) in
    let first : total source ≡ flow_value n source f = ap (λ (t : Bool). if t then sum_to (f source) n else pos 0) k.source_in in
    let split : sum_to (λ a. sum_to (sent side f a) n) n ≡ sum_to (λ a. sum_to (leaving side f a) n +ℤ sum_to (staying side f a) n) n
    = sum_ext (λ a. sum_to (sent side f a) n) (λ a. sum_to (leaving side f a) n +ℤ sum_to (staying side f a) n) n
    (λ a m. sum_ext (sent side f a) (λ b. leaving side f a b +ℤ staying side f a b) n (λ b o. sym (parts (side a) (side b) (f a b))) ∙ sum_add (leaving side f a) (staying side f a) n) in
    let both = sum_add (λ a. sum_to (leaving side f a) n) (λ a. sum_to (staying side f a) n) n in
    let inside = square_none (staying side f) n (λ a b m o. opposite_parts (side a) (side b) (f a b) (f b a) (h.opposite a b m o)) in
    omega (arith, ints, rows, one, first, split, both, inside)

pub value_within_cut : (n source sink : ℕ) (capacity f : PairTable) (side : ℕ → Bool) → source < n → IsFeasibleFlow n source sink capacity f → IsCut source sink side
    → flow_value n source f ≤ℤ cut_capacity n side capacity
value_within_cut n source sink capacity f side l h k =
    let over = value_over_cut n source sink capacity f side l h k in
    let less = sum_le (λ a. sum_to (leaving side f a) n) (λ a. sum_to (leaving side capacity a) n) n (λ a m. sum_le (leaving side f a) (leaving side capacity a) n (λ b o. less_parts (side a) (side b) (f a b) (capacity a b) (h.within a b m o))) in
    omega (arith, ints, over, less)

full_parts : (p q : Bool) (z w : ℤ) → (p ≡ true → q ≡ false → z ≡ w) → (if p then (if q then pos 0 else z) else pos 0) ≡ (if p then (if q then pos 0 else w) else pos 0)
full_parts true true z w h = refl
full_parts true false z w h = h refl refl
full_parts false q z w h = refl

-- where each pair that leaves the side is full, the flow is worth what the cut is worth
pub value_of_full_cut : (n source sink : ℕ) (capacity f : PairTable) (side : ℕ → Bool) → source < n → IsFeasibleFlow n source sink capacity f → IsCut source sink side
    → ((a b : ℕ) → a < n → b < n → side a ≡ true → side b ≡ false → f a b ≡ capacity a b) → flow_value n source f ≡ cut_capacity n side capacity
value_of_full_cut n source sink capacity f side l h k full =
    value_over_cut n source sink capacity f side l h k
    ∙ sum_ext (λ a. sum_to (leaving side f a) n) (λ a. sum_to (leaving side capacity a) n) n
    (λ a m. sum_ext (leaving side f a) (leaving side capacity a) n (λ b o. full_parts (side a) (side b) (f a b) (capacity a b) (full a b m o)))

-- where no flow is worth more, each pair that leaves the side is full
pub full_of_cut_value : (n source sink : ℕ) (capacity f : PairTable) (side : ℕ → Bool) → source < n → IsFeasibleFlow n source sink capacity f → IsCut source sink side
    → cut_capacity n side capacity ≤ℤ flow_value n source f → (a b : ℕ) → a < n → b < n → side a ≡ true → side b ≡ false → capacity a b ≤ℤ f a b
full_of_cut_value n source sink capacity f side l h k e a b m o p q =
    let over = value_over_cut n source sink capacity f side l h k in
    let each = λ (a : ℕ) (m : a < n) (b : ℕ) (o : b < n). less_parts (side a) (side b) (f a b) (capacity a b) (h.within a b m o) in
    let rows = sum_equal (λ a. sum_to (leaving side f a) n) (λ a. sum_to (leaving side capacity a) n) n (λ a m. sum_le (leaving side f a) (leaving side capacity a) n (each a m)) (omega (arith, ints, over, e)) a m in
    let here = sum_equal (leaving side f a) (leaving side capacity a) n (each a m) rows b o in
    at_leaving (side a) (side b) (capacity a b) (f a b) p q here
  where
    at_leaving : (p q : Bool) (z w : ℤ) → p ≡ true → q ≡ false → (if p then (if q then pos 0 else z) else pos 0) ≤ℤ (if p then (if q then pos 0 else w) else pos 0) → z ≤ℤ w
    at_leaving true true z w p q h = absurd (true≢false q)
    at_leaving true false z w p q h = h
    at_leaving false q z w p r h = absurd (true≢false (sym p))
