-- The decimal digits of numbers of 128 bits.
use Rattle.std.proofs.Common.{◌≡◌, ◌∙◌, ℕ, ◌+◌, ◌/◌, ◌%◌, ◌^◌, ◌<◌, ◌≤◌, List, [], ◌∷◌, ◌++◌, ap, sym, append_assoc, arith}
use Rattle.std.specs.Fmt.{decimal}
use Rattle.std.proofs.lemmas.Fmt.{decimal_digit, decimal_step_wide}

-- with the last digit, the text is followed by the digits of n
pub record IsBeforeLast (text : List ℕ) (n : ℕ) (before : List ℕ) : Type 0 where
  pub is : before ++ (48 + n % 10) ∷ [] ≡ text ++ decimal n

module _ (text : List ℕ) (n : ℕ) (before : List ℕ) where
  pub first_digits : 10 ≤ n → n < 2 ^ 128 → before ≡ text ++ decimal (n / 10) → IsBeforeLast text n before
  first_digits more small e = record {
    is = ap (λ xs. xs ++ (48 + n % 10) ∷ []) e ∙ append_assoc text (decimal (n / 10)) ((48 + n % 10) ∷ []) ∙ ap (λ ds. text ++ ds) (sym (decimal_step_wide n more (omega arith)));
  }

  pub no_digits : n < 10 → before ≡ text → IsBeforeLast text n before
  no_digits one e =
      let same : n % 10 ≡ n = omega arith in
      record { is = ap (λ xs. xs ++ (48 + n % 10) ∷ []) e ∙ ap (λ d. text ++ (48 + d) ∷ []) same ∙ ap (λ ds. text ++ ds) (sym (decimal_digit n one)) }

  pub after_last : (after : List ℕ) → IsBeforeLast text n before → after ≡ before ++ (48 + n % 10) ∷ [] → after ≡ text ++ decimal n
  after_last after h e = e ∙ h.is
