-- What the digits of a cost add up to.
use Rattle.std.proofs.Common.{◌≡◌, ℕ, ◌+◌, ◌*◌, ◌^◌, ◌<◌, ◌≤◌, Bool, true, false, cond, ◌&&◌, nat_lt, List, [], ◌∷◌, Some, None, refl, ap, arith, le_refl, lt-ltb, le-ltb}
use Rattle.std.specs.Char.{digit_value}
use Rattle.std.specs.Str.{all_ascii_digits}
use Rattle.std.specs.Str.Parse.{digits_value, digits_value_after}
use Rattle.pf_routes.specs.EdgeText.{is_cost}

digits_value_after-ge : (n : ℕ) (ds : List ℕ) → n ≤ digits_value_after 10 n ds
digits_value_after-ge n [] = le_refl n
digits_value_after-ge n (d ∷ ds) = omega (arith, digits_value_after-ge (n * 10 + digit_value d) ds)

chosen : (digits below : Bool) (x y : ℕ) → true ≡ digits → below ≡ true → x ≡ y → Some x ≡ cond (digits && below) (Some y) None
chosen true true x y d b e = ap Some e
chosen true false x y d b e = cc
chosen false below x y d b e = cc

refused_by_value : (digits below : Bool) (y : ℕ) → below ≡ false → None ≡ cond (digits && below) (Some y) None
refused_by_value true true y b = cc
refused_by_value true false y b = refl
refused_by_value false below y b = refl

refused_by_digits : (digits below : Bool) (y : ℕ) → digits ≡ false → None ≡ cond (digits && below) (Some y) None
refused_by_digits true below y d = cc
refused_by_digits false below y d = refl

-- at the end, the number so far is the cost
pub cost_at_end : (field rest : List ℕ) (cost : ℕ) → rest ≡ [] → digits_value_after 10 cost rest ≡ digits_value 10 field → all_ascii_digits rest ≡ all_ascii_digits field
    → cost < 2 ^ 64 → Some cost ≡ cond (is_cost field) (Some (digits_value 10 field)) None
cost_at_end field [] cost none value digits below = chosen (all_ascii_digits field) (nat_lt (digits_value 10 field) (2 ^ 64)) _ _ digits (lt-ltb _ _ (omega (arith, value))) value
cost_at_end field (d ∷ rest) cost none value digits below = cc

-- digits that go past 64 bits stay past them
pub cost_too_high : (field rest : List ℕ) (cost d : ℕ) → digits_value_after 10 cost (d ∷ rest) ≡ digits_value 10 field → 2 ^ 64 ≤ cost * 10 + digit_value d
    → None ≡ cond (is_cost field) (Some (digits_value 10 field)) None
cost_too_high field rest cost d value high =
    refused_by_value (all_ascii_digits field) (nat_lt (digits_value 10 field) (2 ^ 64)) _
    (le-ltb _ _ (omega (arith, value, digits_value_after-ge (cost * 10 + digit_value d) rest)))

-- a byte that is no digit
pub cost_of_no_digits : (field : List ℕ) → all_ascii_digits field ≡ false → None ≡ cond (is_cost field) (Some (digits_value 10 field)) None
cost_of_no_digits field other = refused_by_digits (all_ascii_digits field) (nat_lt (digits_value 10 field) (2 ^ 64)) _ other
