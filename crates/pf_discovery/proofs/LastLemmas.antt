-- The last element of a list.
use Rattle.std.proofs.Common.{ℕ, ◌≡◌, ◌<◌, ◌+◌, ◌-◌, ◌∙◌, refl, sym, ap, subst, arith, List, [], ◌∷◌, ◌++◌, length, take, take_all, Some, None, get_or}
use Rattle.std.specs.Prelude.{Contains, slice_get}
use Rattle.std.proofs.lemmas.List.Elements.{Contains-append_left, Contains-append_right}
use Rattle.std.proofs.lemmas.Option.{slice_get-get_or, slice_get_within}
use Rattle.std.proofs.lemmas.List.{append_assoc, length-take-le, take_more}

module _ {A : Type 0} where
  -- what a list has with its last element
  module _ (xs rest : List A) (x : A) (e : xs ≡ rest ++ x ∷ []) where
    pub has_last : Contains xs x
    has_last = subst (λ (ys : List A). Contains ys x) (sym e) (Contains-append_right rest (x ∷ []) x (0, omega arith, refl))

    pub has_rest : (y : A) → Contains rest y → Contains xs y
    has_rest y c = subst (λ (ys : List A). Contains ys y) (sym e) (Contains-append_left rest (x ∷ []) y c)

  pub none_last : (xs ys : List A) → ys ≡ xs → None ≡ slice_get ys (length ys - 1) → xs ≡ []
  none_last xs [] e h = sym e
  none_last xs (y ∷ ys) e h =
      let both : None ≡ Some (get_or (y ∷ ys) (length (y ∷ ys) - 1) y) = h ∙ slice_get-get_or (y ∷ ys) (length (y ∷ ys) - 1) y (omega arith) in
      absurd (cc)

  module _ (xs ys : List A) (b : A) (e : ys ≡ xs) (h : Some b ≡ slice_get ys (length ys - 1)) where
    last_get : slice_get xs (length xs - 1) ≡ Some b
    last_get = subst (λ (zs : List A). slice_get zs (length zs - 1) ≡ Some b) e (sym h)

    last_inside : length xs - 1 < length xs
    last_inside = slice_get_within xs (length xs - 1) b last_get

    pub last_split : xs ≡ take (length xs - 1) xs ++ b ∷ []
    last_split =
        let read : Some b ≡ Some (get_or xs (length xs - 1) b) = sym last_get ∙ slice_get-get_or xs (length xs - 1) b last_inside in
        let same : get_or xs (length xs - 1) b ≡ b = cc in
        sym (take_all (length xs - 1 + 1) xs (omega (arith, last_inside))) ∙ take_more xs (length xs - 1) b last_inside ∙ ap (λ (z : A). take (length xs - 1) xs ++ z ∷ []) same

    -- the last one was taken out
    module _ (len : ℕ) (zs : List A) (long : len ≡ length xs) (out : zs ≡ take (len - 1) xs) where
      pub taken_shorter : length zs < length xs
      taken_shorter = omega (arith, last_inside, long, ap length out, length-take-le (len - 1) xs (omega (arith, long)))

      pub taken_split : (start passed : List A) → start ≡ xs ++ passed → start ≡ zs ++ b ∷ passed
      taken_split start passed is =
          let cut : zs ≡ take (length xs - 1) xs = out ∙ ap (λ (n : ℕ). take (n - 1) xs) long in
          is ∙ ap (λ (ws : List A). ws ++ passed) (last_split ∙ ap (λ (ws : List A). ws ++ b ∷ []) (sym cut)) ∙ append_assoc zs (b ∷ []) passed
