use Rattle.std.proofs.Common.{◌≡◌, ◌≤◌, ◌<◌, ◌+◌, ◌-◌, ◌∙◌, ℕ, zero, suc, arith, ap, subst, sym, refl, inl, inr, List, [], ◌∷◌, ◌++◌, length, take, replicate, Option, Some, None, Ok, Err}
use Rattle.std.specs.Prelude.{◌⊎◌, SomeIff, slice_get}
use Rattle.std.specs.Option.{ok_or}
use Rattle.std.proofs.lemmas.List.{take_all}
use Rattle.pf_base.proofs.ListLemmas.{none_in, get-append}
use Rattle.pf_base.proofs.Outcomes.{on_refused, refused_as}
use Rattle.pf_deepening.proofs.widen.widen.Goals as goal

pub returns-else-number-len : goal.returns-else-number-len
returns-else-number-len g c = record {
  long = omega (arith, c.if-number-len.false, c.len.ensures, c.args.items.now.ok.0);
  kept = λ k x h. h;
  from = λ k x h. inl h;
  refused = tt;
}

value_of : (o : Option ℕ) (P : Type 0) (n m : ℕ) → SomeIff o P m → o ≡ Some n → n ≡ m
value_of o P n m h e = let s = subst (λ (q : Option ℕ). SomeIff q P m) e h in s.1

error_of : {T E : Type 0} (o : Option T) (e d : E) → Err e ≡ ok_or o d → e ≡ d
error_of None e d h = let both : Err e ≡ Err d = h in cc
error_of (Some x) e d h = let both : Err e ≡ Ok x = h in absurd (cc)

-- a list with one value put behind it a number of times
module _ {A : Type 0} where
  repeated : (n k : ℕ) (x y : A) → slice_get (replicate n x) k ≡ Some y → y ≡ x
  repeated zero k x y h = absurd (none_in k y h)
  repeated (suc n) zero x y h = let e : Some x ≡ Some y = h in cc
  repeated (suc n) (suc k) x y h = repeated n k x y h

  in_either : (xs : List A) (n k : ℕ) (x y : A) → slice_get (xs ++ replicate n x) k ≡ Some y → (slice_get xs k ≡ Some y) ⊎ (y ≡ x)
  in_either [] n k x y h = inr (repeated n k x y h)
  in_either (z ∷ xs) n zero x y h = inl h
  in_either (z ∷ xs) n (suc k) x y h = in_either xs n k x y h

  module _ (xs ys : List A) (n m i : ℕ) (x : A) (is : m ≡ length xs) (past : m ≤ i) (one : n ≡ i + 1) (filled : ys ≡ take n xs ++ replicate (n - m) x) where
    behind : ys ≡ xs ++ replicate (n - m) x
    behind = filled ∙ ap (λ (zs : List A). zs ++ replicate (n - m) x) (take_all n xs (omega (arith, is, past, one)))

    keeps : (k : ℕ) (y : A) → slice_get xs k ≡ Some y → slice_get ys k ≡ Some y
    keeps k y h = subst (λ (zs : List A). slice_get zs k ≡ Some y) (sym behind) (get-append xs (replicate (n - m) x) k y h)

    comes_from : (k : ℕ) (y : A) → slice_get ys k ≡ Some y → (slice_get xs k ≡ Some y) ⊎ (y ≡ x)
    comes_from k y h = in_either xs (n - m) k x y (subst (λ (zs : List A). slice_get zs k ≡ Some y) behind h)

  reaches : (ys : List A) (n m i : ℕ) → m ≡ length ys → m ≡ n → n ≡ i + 1 → i < length ys
  reaches ys n m i is long one = omega (arith, is, long, one)

pub returns-in_err-len : goal.returns-in_err-len
returns-in_err-len g c = record {
  long = on_refused _ c.from_residual.result _ c.from_residual.ensures.1;
  kept = on_refused _ c.from_residual.result _ c.from_residual.ensures.1;
  from = on_refused _ c.from_residual.result _ c.from_residual.ensures.1;
  refused = refused_as _ c.from_residual.result c.in_err-len.field-0.0 c.from_residual.ensures.1 (error_of _ _ _ c.in_err-len.ensures.value);
}

pub returns-in_err-resize : goal.returns-in_err-resize
returns-in_err-resize g c = record {
  long = on_refused _ c.from_residual-in_err-resize.result _ c.from_residual-in_err-resize.ensures.1;
  kept = on_refused _ c.from_residual-in_err-resize.result _ c.from_residual-in_err-resize.ensures.1;
  from = on_refused _ c.from_residual-in_err-resize.result _ c.from_residual-in_err-resize.ensures.1;
  refused = refused_as _ c.from_residual-in_err-resize.result _ c.from_residual-in_err-resize.ensures.1 refl;
}

pub returns-in_ok-resize : goal.returns-in_ok-resize
returns-in_ok-resize g c = record {
  refused = tt;
  long = reaches c.resize.new.self.items c.in_ok-len.len _ c.args.number c.resize.new.self.ok.0 c.in_ok-resize.ensures.len (value_of _ _ _ _ c.checked_add.ensures c.in_ok-len.ensures.ok_part);
  kept = keeps c.args.items.now.items c.resize.new.self.items c.in_ok-len.len _ c.args.number c.args.value c.args.items.now.ok.0 (subst (λ (m : ℕ). m ≤ c.args.number) c.len.ensures c.if-number-len.true) (value_of _ _ _ _ c.checked_add.ensures c.in_ok-len.ensures.ok_part) c.in_ok-resize.ensures.items;
  from = comes_from c.args.items.now.items c.resize.new.self.items c.in_ok-len.len _ c.args.number c.args.value c.args.items.now.ok.0 (subst (λ (m : ℕ). m ≤ c.args.number) c.len.ensures c.if-number-len.true) (value_of _ _ _ _ c.checked_add.ensures c.in_ok-len.ensures.ok_part) c.in_ok-resize.ensures.items;
}
