-- Calls of `next` on an iterator over paths.
use Rattle.std.proofs.Common.{◌≡◌, ◌∙◌, refl, sym, ap, arith, Bool, true, false, true≢false, List, Option, Some, None, length, suc, inr}
use Rattle.std.specs.Prelude.{if◌then◌else◌, Result, Ok, Err, Vec, IfErr, IsErrAnd}
use Rattle.std.specs.Result.{is_err, result_transpose}
use Rattle.std.specs.Iterator.{MakesProgress, at_most}
use Rattle.pf_base.specs.declared.error.PathError.{PathError}
use Rattle.pf_informed.specs.CheapestPaths.{PathsToCome, PathsStep, most_items}
use Rattle.pf_informed.specs.Internal.Ways.{PathsTurn}

most_open : {N : Type 0} (s : PathsToCome N) → s.refused ≡ false → most_items s ≡ suc (length s.left)
most_open s h = by s.refused h
  where
    by : (b : Bool) → b ≡ false → (if b then length s.left else suc (length s.left)) ≡ suc (length s.left)
    by true h = absurd (true≢false h)
    by false h = refl

most_refused : {N : Type 0} (s : PathsToCome N) → s.refused ≡ true → most_items s ≡ length s.left
most_refused s h = by s.refused h
  where
    by : (b : Bool) → b ≡ true → (if b then length s.left else suc (length s.left)) ≡ length s.left
    by true h = refl
    by false h = absurd (true≢false (sym h))

module _ {N Z : Type 0} (eq : N → N → Bool) where
  -- a refusal that `?` hands on
  pub turn_refused : (old new : List (List N)) (b was is : Bool) (r : Result (Option (Vec N Z)) PathError) (e : PathError) → IsErrAnd r (λ x. x ≡ e) → new ≡ old → was ≡ false → is ≡ false
      → PathsTurn eq (record { left = old; refused = b; ended = was }) r (record { left = new; refused = b; ended = is })
  turn_refused old new b was is (Ok x) e h left before after = absurd h
  turn_refused old new b was is (Err x) e h left before after = (left, before, after)

  -- a call of `next` is a step, which marks a refusal
  pub step_of : (s : PathsToCome N) (left : List (List N)) (b ended : Bool) (r : Result (Option (Vec N Z)) PathError) → s.refused ≡ false → b ≡ s.refused → IfErr r (λ e. e ≡ PathError.OutOfMemory) → PathsTurn eq s r (record { left = left; refused = b; ended = ended })
      → PathsStep eq s (result_transpose r) (record { left = left; refused = is_err r; ended = ended })
  step_of s left b ended (Ok (Some x)) h m e t = (h, t.0, refl, t.1)
  step_of s left b ended (Ok None) h m e t =
      let here : left ≡ s.left = t.1 in
      let was : false ≡ s.refused = sym h in
      let told : ended ≡ true = t.2 in
      let same : ◌≡◌ {A = PathsToCome N} (record { left = left; refused = false; ended = ended }) (record { left = s.left; refused = s.refused; ended = true }) = cc in
      inr (t.0, same)
  step_of s left b ended (Err x) h m e t =
      let here : left ≡ s.left = t.0 in
      let kept : ended ≡ s.ended = t.2 ∙ sym t.1 in
      let same : ◌≡◌ {A = PathsToCome N} (record { left = left; refused = true; ended = ended }) (record { left = s.left; refused = true; ended = s.ended }) = cc in
      (e, h, t.1, same)

  -- each item is one less to come
  pub progress : (can : PathsToCome N → Type 0) (s : PathsToCome N) (r : Option (Result (Vec N Z) PathError)) (t : PathsToCome N) → can t → PathsStep eq s r t → MakesProgress can (λ q. at_most (most_items q)) s r t
  progress can s None t c h = record { on = λ f. tt; keeps = tt; rests = λ f. f }
  progress can s (Some (Ok x)) t c h =
      let len = ap length h.3.1 in
      record { on = λ f. (c, f, omega (arith, most_open s h.0, most_open t h.2, len)); keeps = c; rests = λ f. tt }
  progress can s (Some (Err x)) t c h =
      let len = ap (λ (q : PathsToCome N). length q.left) h.3 in
      let refused = ap (λ (q : PathsToCome N). q.refused) h.3 in
      record { on = λ f. (c, f, omega (arith, most_open s h.1, most_refused t refused, len)); keeps = c; rests = λ f. tt }
