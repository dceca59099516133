-- The places of a table at a number, from one place on.
use Rattle.std.proofs.Common.{◌≡◌, ℕ, ◌+◌, ◌-◌, ◌<◌, ◌≤◌, refl, sym, ap, ◌∙◌, subst, arith, Bool, true, false, true≢false, List, [], ◌∷◌, Option, Some, None, length, drop, zero, suc}
use Rattle.std.proofs.lemmas.Bool.{ltb-true}
use Rattle.std.proofs.lemmas.List.{drop_all}
use Rattle.std.specs.Prelude.{if◌then◌else◌, nat_lt}
use Rattle.std.specs.List.{cons_option, slice_get}
use Rattle.std.specs.Option.{is_some}
use Rattle.std.specs.Iterator.{YieldsFirst, MakesProgress, item_count}
use Rattle.pf_table_functions.specs.Internal.Edges.{present}

after : {A : Type 0} (ps : List (Option A)) (k : ℕ) (o : Option A) → slice_get ps k ≡ Some o → present (drop k ps) ≡ cons_option o (present (drop (suc k) ps))
after [] k o e = cc
after (None ∷ ps) zero None e = refl
after (None ∷ ps) zero (Some x) e = cc
after (Some y ∷ ps) zero None e = cc
after (Some y ∷ ps) zero (Some x) e = cc
after (p ∷ ps) (suc k) o e = after ps k o e

-- what stands at a place comes first of what stands from there on
pub present_from : {A : Type 0} (ps : List (Option A)) (k : ℕ) (o : Option A) → slice_get ps k ≡ Some o → present (drop k ps) ≡ cons_option o (present (drop (k + 1) ps))
present_from ps k o e =
    let next : suc k ≡ k + 1 = omega arith in
    subst (λ (m : ℕ). present (drop k ps) ≡ cons_option o (present (drop m ps))) next (after ps k o e)

-- a place of a number is one of a node's
pub at_place : {A : Type 0} (size number : ℕ) (places : ℕ → List A) (k : ℕ) (o : A) → k < length (if nat_lt number size then places number else []) → slice_get (places number) k ≡ Some o → slice_get (if nat_lt number size then places number else []) k ≡ Some o
at_place size number places k o h e = by (nat_lt number size) h
  where
    by : (b : Bool) → k < length (if b then places number else []) → slice_get (if b then places number else []) k ≡ Some o
    by true h = e
    by false h = absurd (omega (arith, h))

-- a number that has a place is a node
pub node_with_place : {A : Type 0} (size number : ℕ) (places : ℕ → List A) (k end : ℕ) → k < end → end ≡ length (if nat_lt number size then places number else []) → number < size
node_with_place size number places k end h all = by (nat_lt number size) refl all
  where
    by : (b : Bool) → nat_lt number size ≡ b → end ≡ length (if b then places number else []) → number < size
    by true e all = ltb-true number size e
    by false e all = absurd (omega (arith, h, all))

pub place_of_node : {A : Type 0} (size number : ℕ) (places : ℕ → List A) (k end : ℕ) → k < end → end ≡ length (if nat_lt number size then places number else []) → k < length (places number)
place_of_node size number places k end h all = by (nat_lt number size) all
  where
    by : (b : Bool) → end ≡ length (if b then places number else []) → k < length (places number)
    by true all = omega (arith, h, all)
    by false all = absurd (omega (arith, h, all))

-- nothing stands past the last place
pub none_left : {A : Type 0} {now : List A} (ps : List (Option A)) (k end : ℕ) → end ≤ k → end ≡ length ps → present (drop k ps) ≡ now → (now ≡ []) × (present (drop k ps) ≡ [])
none_left ps k end h all left =
    let past = ap present (drop_all k ps (omega (arith, h, all))) in
    (sym left ∙ past, past)

pub shorter : (k end : ℕ) → k < end → end - (k + 1) < end - k
shorter k end h = omega (arith, h)

module _ {A : Type 0} where
  pub yields : (o : Option A) (s t : List A) → is_some o ≡ true → s ≡ cons_option o t → YieldsFirst (λ (l : List A). l) s o t
  yields None s t e h = absurd (true≢false (sym e))
  yields (Some x) s t e h = h

  pub passes : (o : Option A) (s t : List A) → is_some o ≡ false → s ≡ cons_option o t → t ≡ s
  passes None s t e h = sym h
  passes (Some x) s t e h = absurd (true≢false e)

  pub stands_still : {can : List A → Type 0} {s t : List A} (o : Option A) → o ≡ None → MakesProgress can (item_count {A = A} (λ (l : List A). l)) s o t
  stands_still None e = record { on = λ f. tt; keeps = tt; rests = λ f. tt }
  stands_still (Some x) e = cc

  pub shortens : {can : List A → Type 0} (o : Option A) (s t : List A) → is_some o ≡ true → can t → s ≡ cons_option o t → MakesProgress can (item_count {A = A} (λ (l : List A). l)) s o t
  shortens None s t e c h = absurd (true≢false (sym e))
  shortens (Some x) s t e c h = record { on = λ f. (c, f, omega (arith, by s h)); keeps = c; rests = λ f. tt }
    where
      by : (s : List A) → s ≡ x ∷ t → length t < length s
      by s h = rw h (omega arith)
