-- Flows and cuts over vertices 0 to n - 1, as tables of numbers over ordered pairs.
use Rattle.std.specs.Prelude.{◌≡◌, ◌≢◌, ◌≤ℤ◌, ◌+ℤ◌, ◌<◌, ◌+◌, ◌&&◌, ◌||◌, ℕ, ℤ, zero, suc, pos, negsuc, Bool, true, false, nat_eq, if◌then◌else◌}
use Rattle.pf_base.specs.Sums.{sum_to}

abbrev pub PairTable : Type 0
PairTable = ℕ → ℕ → ℤ

-- the table with this much more at a pair
abbrev pub added : PairTable → ℕ → ℕ → ℤ → PairTable
added t from to amount a b = if nat_eq a from && nat_eq b to then t a b +ℤ amount else t a b

-- the table with this number at a pair
abbrev pub replaced : PairTable → ℕ → ℕ → ℤ → PairTable
replaced t from to number a b = if nat_eq a from && nat_eq b to then number else t a b

-- the same number at each pair
pub record Same (s t : PairTable) : Type 0 where
  pub at : (a b : ℕ) → s a b ≡ t a b

-- the numbers of a pair and of its reverse add up to 0
pub record IsAntisymmetric (t : PairTable) : Type 0 where
  pub at : (a b : ℕ) → t a b +ℤ t b a ≡ pos 0

-- the sum of a table over all pairs of vertices
abbrev pub pair_sum : ℕ → PairTable → ℤ
pair_sum n t = sum_to (λ a. sum_to (t a) n) n

-- no number of the table is below 0
pub record IsNonNegative (n : ℕ) (t : PairTable) : Type 0 where
  pub at : (a b : ℕ) → a < n → b < n → pos 0 ≤ℤ t a b

-- f is a flow within these capacities: antisymmetric, at most the capacity, and conserved save at source and sink
pub record IsFeasibleFlow (n source sink : ℕ) (capacity f : PairTable) : Type 0 where
  pub opposite : (a b : ℕ) → a < n → b < n → f a b +ℤ f b a ≡ pos 0
  pub within : (a b : ℕ) → a < n → b < n → f a b ≤ℤ capacity a b
  pub conserved : (a : ℕ) → a < n → a ≢ source → a ≢ sink → sum_to (f a) n ≡ pos 0

-- what leaves the source
abbrev pub flow_value : ℕ → ℕ → PairTable → ℤ
flow_value n source f = sum_to (f source) n

-- a side with the source and without the sink
pub record IsCut (source sink : ℕ) (side : ℕ → Bool) : Type 0 where
  pub source_in : side source ≡ true
  pub sink_out : side sink ≡ false

-- what the table has at a pair that leaves the side, and 0 at others
abbrev pub leaving : (ℕ → Bool) → PairTable → PairTable
leaving side t a b = if side a then (if side b then pos 0 else t a b) else pos 0

-- the sum of the capacities of all pairs that leave the side
abbrev pub cut_capacity : ℕ → (ℕ → Bool) → PairTable → ℤ
cut_capacity n side capacity = pair_sum n (leaving side capacity)

-- no cut has less capacity
pub record IsLeastCut (n source sink : ℕ) (capacity : PairTable) (side : ℕ → Bool) : Type 0 where
  pub cut : IsCut source sink side
  pub least : (other : ℕ → Bool) → IsCut source sink other → cut_capacity n side capacity ≤ℤ cut_capacity n other capacity

-- a least cut whose side lies in that of every least cut
pub record IsSmallestLeastCut (n source sink : ℕ) (capacity : PairTable) (side : ℕ → Bool) : Type 0 where
  pub least_cut : IsLeastCut n source sink capacity side
  pub smallest : (other : ℕ → Bool) → IsLeastCut n source sink capacity other → (a : ℕ) → a < n → side a ≡ true → other a ≡ true

-- is the number above 0?
abbrev pub is_positive : ℤ → Bool
is_positive (pos zero) = false
is_positive (pos (suc n)) = true
is_positive (negsuc n) = false

-- is there capacity from one vertex to the other, or back?
abbrev pub are_linked : PairTable → ℕ → ℕ → Bool
are_linked capacity a b = is_positive (capacity a b) || is_positive (capacity b a)

-- g 0 + g 1 + .. + g (n - 1), for counts
abbrev pub count_to : (ℕ → ℕ) → ℕ → ℕ
count_to g zero = 0
count_to g (suc n) = count_to g n + g n

-- how many ordered pairs have capacity in either direction
abbrev pub pair_count : ℕ → PairTable → ℕ
pair_count n capacity = count_to (λ a. count_to (λ b. if are_linked capacity a b then 1 else 0) n) n
