-- Laws of the first bytes of names.
use Rattle.std.proofs.Common.{◌≡◌, ℕ, ◌≤◌, Bool, true, false, true≢false, List, [], ◌∷◌, take, length, refl, sym, ap, ◌∙◌, arith}
use Rattle.std.specs.Int.Digits.{AllBelowBase, number_from_digits_after}
use Rattle.std.specs.Str.{bytes_eq}
use Rattle.std.proofs.lemmas.List.{take_all}
use Rattle.std.proofs.lemmas.Slice.Eq.{bytes_eq-Decides}
use Rattle.pf_routes.specs.Internal.Heads.{head_of, name_input}

-- numbers are the same where their digits are, and as many
same_digits : (xs ys : List ℕ) (m n : ℕ) → length xs ≡ length ys → AllBelowBase 256 xs → AllBelowBase 256 ys → number_from_digits_after 256 m xs ≡ number_from_digits_after 256 n ys → (m ≡ n) × (xs ≡ ys)
same_digits [] [] m n l a b e = (e, refl)
same_digits [] (y ∷ ys) m n l a b e = absurd (omega (arith, l))
same_digits (x ∷ xs) [] m n l a b e = absurd (omega (arith, l))
same_digits (x ∷ xs) (y ∷ ys) m n l a b e =
    let q = same_digits xs ys _ _ (omega (arith, l)) a.1 b.1 e in
    let first : x ≡ y = omega (arith, q.0, a.0, b.0) in
    (omega (arith, q.0, a.0, b.0), ap (λ z. z ∷ xs) first ∙ ap (λ zs. y ∷ zs) q.1)

-- short names of one length and one head are the same
pub same_short : (a b : List ℕ) → AllBelowBase 256 (take 8 a) → AllBelowBase 256 (take 8 b) → head_of a ≡ head_of b → length a ≡ length b → length a ≤ 8 → a ≡ b
same_short a b p q h l s =
    let one : take 8 a ≡ a = take_all 8 a s in
    let two : take 8 b ≡ b = take_all 8 b (omega (arith, l, s)) in
    sym one ∙ (same_digits (take 8 a) (take 8 b) 0 0 (ap length one ∙ l ∙ sym (ap length two)) p q h).1 ∙ two

pub same_input : (a b : List ℕ) → bytes_eq a b ≡ true → name_input a ≡ name_input b
same_input a b e = ap name_input ((bytes_eq-Decides a b).0 e)

-- of short names of one length, the heads are compared
pub heads_decide : (a b : List ℕ) (r : Bool) → AllBelowBase 256 (take 8 a) → AllBelowBase 256 (take 8 b) → (r ≡ true → head_of a ≡ head_of b) → (head_of a ≡ head_of b → r ≡ true) → length a ≡ length b → length a ≤ 8 → r ≡ bytes_eq a b
heads_decide a b true p q same back l s = sym ((bytes_eq-Decides a b).1 (same_short a b p q (same refl) l s))
heads_decide a b false p q same back l s = by (bytes_eq a b) refl
  where
    by : (t : Bool) → bytes_eq a b ≡ t → false ≡ bytes_eq a b
    by true h = absurd (true≢false (sym (back (ap head_of ((bytes_eq-Decides a b).0 h)))))
    by false h = sym h
