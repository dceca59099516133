-- A step of all cheapest paths between names, by the step over numbers and the naming of what it gave.
use Rattle.std.proofs.Common.{◌≡◌, ◌∙◌, inl, inr, ℕ, suc, refl, sym, ap, arith, Bool, true, false, true≢false, List, [], ◌∷◌, length, map}
use Rattle.std.specs.Prelude.{if◌then◌else◌, Err, None, Ok, Option, Result, Some, Vec}
use Rattle.std.specs.Borrow.{Bor}
use Rattle.std.specs.Iterator.{MakesProgress, at_most}
use Rattle.std.specs.List.{AllZip, each_same}
use Rattle.std.specs.Option.{option_map}
use Rattle.std.specs.Result.{is_err, result_transpose}
use Rattle.pf_base.specs.declared.error.PathError.{PathError}
use Rattle.pf_informed.specs.CheapestPaths.{IsPathsClone, PathsToCome, most_items}
use Rattle.pf_name_estimates.specs.CheapestPathsByName.{IsNamed, IsTaken, PathsStepByName, is_at_end, numbers_left, paths_by_name}

module _ {N A : Type 0} (name : ℕ → N) (left : List (List ℕ)) (ended refused : Bool) (unrefused : refused ≡ false) (after : PathsToCome ℕ) where
  -- what a call of `next` gives
  pub stepped : (numbers : Result (Option (Vec ℕ A)) PathError) → IsTaken left ended numbers after → (waits : Option (Vec ℕ A)) (named : Result (Option (Vec (Bor N) A)) PathError) → IsNamed name numbers None waits named
      → PathsStepByName (record { left = map (map name) left; refused = refused; ended = ended }) (result_transpose named) (paths_by_name name waits after (is_err named))
  stepped (Ok (Some v)) t waits named (inl n) = rw (n.1, n.3) (unrefused, t.0, refl, ap (map (map name)) t.1 ∙ ap (λ xs. xs ∷ map (map name) after.left) (sym n.2))
  stepped (Ok (Some v)) t waits named (inr n) =
      let here = t.0 in
      let is : map (map name) left ≡ map name v.items ∷ map (map name) after.left = ap (map (map name)) t.1 in
      let same : ◌≡◌ {A = PathsToCome N} (record { left = map name v.items ∷ map (map name) after.left; refused = true; ended = false }) (record { left = map (map name) left; refused = true; ended = ended }) = cc in
      rw (n.0, n.1) (refl, unrefused, here, same)
  stepped (Ok None) t waits named n =
      let is : map (map name) after.left ≡ map (map name) left = ap (map (map name)) t.1 in
      let over = t.2 in
      let same : ◌≡◌ {A = PathsToCome N} (record { left = map (map name) after.left; refused = false; ended = after.ended }) (record { left = map (map name) left; refused = refused; ended = true }) = cc in
      rw (n.0, n.1) (inr (ap (map (map name)) t.0, same))
  stepped (Err x) t waits named n =
      let is : map (map name) after.left ≡ map (map name) left = ap (map (map name)) t.2 in
      let here = t.1 in
      let on = t.3 in
      let same : ◌≡◌ {A = PathsToCome N} (record { left = map (map name) after.left; refused = true; ended = after.ended }) (record { left = map (map name) left; refused = true; ended = ended }) = cc in
      rw (n.0, n.1) (t.0, unrefused, here, same)

  -- a step over numbers that was refused is a step that was refused
  pub refused_with : (numbers : Result (Option (Vec ℕ A)) PathError) → IsTaken left ended numbers after → (waits : Option (Vec ℕ A)) (named : Result (Option (Vec (Bor N) A)) PathError) → IsNamed name numbers None waits named → after.refused ≡ true → is_err named ≡ true
  refused_with (Ok (Some v)) t waits named n e = absurd (true≢false (sym e ∙ t.2))
  refused_with (Ok None) t waits named n e = absurd (true≢false (sym e ∙ t.3))
  refused_with (Err x) t waits named n e = ap is_err n.0

lists_same : (xs ys : List (List ℕ)) → AllZip (AllZip (λ (x y : ℕ). y ≡ x)) xs ys → ys ≡ xs
lists_same [] [] z = refl
lists_same [] (y ∷ ys) z = absurd z
lists_same (x ∷ xs) [] z = absurd z
lists_same (x ∷ xs) (y ∷ ys) z = ap (λ v. v ∷ ys) (each_same x y z.0) ∙ ap (λ vs. x ∷ vs) (lists_same xs ys z.1)

-- where a copy of what waits is of the same numbers, and the paths over numbers are clones, the same paths are to come
module _ {A : Type 0} where
  left_same : (waiting copy : Option (Vec ℕ A)) → option_map (λ (v : Vec ℕ A). v.items) copy ≡ option_map (λ (v : Vec ℕ A). v.items) waiting → (left left' : List (List ℕ)) → left' ≡ left → numbers_left copy left' ≡ numbers_left waiting left
  left_same None None e left left' q = q
  left_same None (Some w) e left left' q = cc
  left_same (Some v) None e left left' q = cc
  left_same (Some v) (Some w) e left left' q = let f : w.items ≡ v.items = cc in ap (λ ns. ns ∷ left') f ∙ ap (λ ls. v.items ∷ ls) q

  end_same : (waiting copy : Option (Vec ℕ A)) → option_map (λ (v : Vec ℕ A). v.items) copy ≡ option_map (λ (v : Vec ℕ A). v.items) waiting → (ended ended' : Bool) → ended' ≡ ended → is_at_end copy ended' ≡ is_at_end waiting ended
  end_same None None e ended ended' q = q
  end_same None (Some w) e ended ended' q = cc
  end_same (Some v) None e ended ended' q = cc
  end_same (Some v) (Some w) e ended ended' q = refl

  pub cloned : {N : Type 0} (name : ℕ → N) (waiting copy : Option (Vec ℕ A)) → option_map (λ (v : Vec ℕ A). v.items) copy ≡ option_map (λ (v : Vec ℕ A). v.items) waiting → (s t : PathsToCome ℕ) → IsPathsClone (λ (x y : ℕ). y ≡ x) s t → (refused : Bool)
      → paths_by_name name copy t refused ≡ paths_by_name name waiting s refused
  cloned {N} name waiting copy e s t c refused =
      let left = ap (map (map name)) (left_same waiting copy e s.left t.left (lists_same s.left t.left c.0)) in
      let ended = end_same waiting copy e s.ended t.ended c.2 in
      let same : ◌≡◌ {A = PathsToCome N} (record { left = map (map name) (numbers_left copy t.left); refused = refused; ended = is_at_end copy t.ended }) (record { left = map (map name) (numbers_left waiting s.left); refused = refused; ended = is_at_end waiting s.ended }) = cc in
      same

most_open : {N : Type 0} (s : PathsToCome N) → s.refused ≡ false → most_items s ≡ suc (length s.left)
most_open s h = by s.refused h
  where
    by : (b : Bool) → b ≡ false → (if b then length s.left else suc (length s.left)) ≡ suc (length s.left)
    by true h = absurd (true≢false h)
    by false h = refl

most_refused : {N : Type 0} (s : PathsToCome N) → s.refused ≡ true → most_items s ≡ length s.left
most_refused s h = by s.refused h
  where
    by : (b : Bool) → b ≡ true → (if b then length s.left else suc (length s.left)) ≡ length s.left
    by true h = refl
    by false h = absurd (true≢false (sym h))

-- each item is one less to come
pub progress : {N A : Type 0} (can : PathsToCome N → Type 0) (s : PathsToCome N) (r : Option (Result (Vec (Bor N) A) PathError)) (t : PathsToCome N) → can t → PathsStepByName s r t → MakesProgress can (λ q. at_most (most_items q)) s r t
progress can s None t c h = record { on = λ f. tt; keeps = tt; rests = λ f. f }
progress can s (Some (Ok x)) t c h =
    let len = ap length h.3 in
    record { on = λ f. (c, f, omega (arith, most_open s h.0, most_open t h.2, len)); keeps = c; rests = λ f. tt }
progress can s (Some (Err x)) t c h =
    let len = ap (λ (q : PathsToCome _). length q.left) h.3 in
    let refused = ap (λ (q : PathsToCome _). q.refused) h.3 in
    record { on = λ f. (c, f, omega (arith, most_open s h.1, most_refused t refused, len)); keeps = c; rests = λ f. tt }
