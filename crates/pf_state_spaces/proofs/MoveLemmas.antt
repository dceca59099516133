-- The moves at the places of a state, from one place on.
use Rattle.std.proofs.Common.{◌≡◌, ℕ, ◌+◌, ◌-◌, ◌<◌, ◌≤◌, refl, sym, ap, ◌∙◌, subst, arith, true, false, true≢false, List, [], ◌∷◌, Option, Some, None, length, drop, map, zero, suc}
use Rattle.std.proofs.lemmas.List.{drop_all}
use Rattle.std.specs.List.{cons_option, slice_get}
use Rattle.std.specs.Option.{is_some}
use Rattle.std.specs.Iterator.{YieldsFirst, MakesProgress, item_count}
use Rattle.pf_state_spaces.specs.StateSpaces.{moves_in}

module _ {M : Type 0} where
  after : (ps : List (Option M)) (k : ℕ) (o : Option M) → slice_get ps k ≡ Some o → moves_in (drop k ps) ≡ cons_option o (moves_in (drop (suc k) ps))
  after [] k o e = cc
  after (p ∷ ps) zero o e = let same : p ≡ o = cc in ap (λ q. cons_option q (moves_in ps)) same
  after (p ∷ ps) (suc k) o e = after ps k o e

  -- what stands at a place comes first of what stands from there on
  pub moves_from : (ps : List (Option M)) (k : ℕ) (o : Option M) → slice_get ps k ≡ Some o → moves_in (drop k ps) ≡ cons_option o (moves_in (drop (k + 1) ps))
  moves_from ps k o e =
      let next : suc k ≡ k + 1 = omega arith in
      subst (λ (m : ℕ). moves_in (drop k ps) ≡ cons_option o (moves_in (drop m ps))) next (after ps k o e)

  -- nothing stands past the last place
  pub none_left : {now : List M} (ps : List (Option M)) (k end : ℕ) → end ≤ k → end ≡ length ps → moves_in (drop k ps) ≡ now → (now ≡ []) × (moves_in (drop k ps) ≡ [])
  none_left ps k end h all left =
      let past = ap moves_in (drop_all k ps (omega (arith, h, all))) in
      (sym left ∙ past, past)

  pub yields : (o : Option M) (s t : List M) → is_some o ≡ true → s ≡ cons_option o t → YieldsFirst (λ (l : List M). l) s o t
  yields None s t e h = absurd (true≢false (sym e))
  yields (Some x) s t e h = h

  pub passes : (o : Option M) (s t : List M) → is_some o ≡ false → s ≡ cons_option o t → t ≡ s
  passes None s t e h = sym h
  passes (Some x) s t e h = absurd (true≢false e)

  pub stands_still : {can : List M → Type 0} {s t : List M} (o : Option M) → o ≡ None → MakesProgress can (item_count {A = M} (λ (l : List M). l)) s o t
  stands_still None e = record { on = λ f. tt; keeps = tt; rests = λ f. tt }
  stands_still (Some x) e = cc

  pub shortens : {can : List M → Type 0} (o : Option M) (s t : List M) → is_some o ≡ true → can t → s ≡ cons_option o t → MakesProgress can (item_count {A = M} (λ (l : List M). l)) s o t
  shortens None s t e c h = absurd (true≢false (sym e))
  shortens (Some x) s t e c h = record { on = λ f. (c, f, omega (arith, by s h)); keeps = c; rests = λ f. tt }
    where
      by : (s : List M) → s ≡ x ∷ t → length t < length s
      by s h = rw h (omega arith)

pub shorter : (k end : ℕ) → k < end → end - (k + 1) < end - k
shorter k end h = omega (arith, h)

-- where moves lead, as an iterator of the moves goes on
abbrev ends : {N C : Type 0} → List (N × C) → List N
ends {N} {C} moves = map (λ (move : N × C). move.0) moves

module _ {N C : Type 0} {s t : List (N × C)} {states : List N} where
  pub leads_first : {move : N × C} → ends s ≡ states → s ≡ move ∷ t → states ≡ move.0 ∷ ends t
  leads_first v h = sym v ∙ ap ends h

  pub leads_on : {can : List N → Type 0} {move : N × C} → ends s ≡ states → can (ends t) → s ≡ move ∷ t → MakesProgress can (item_count {A = N} (λ (l : List N). l)) states (Some move.0) (ends t)
  leads_on {can} {move} v c h = shortens (Some move.0) states (ends t) refl c (leads_first v h)

  pub leads_nowhere : (o : Option N) → o ≡ None → ends s ≡ states → (s ≡ []) × (t ≡ []) → YieldsFirst (λ (l : List N). l) states o (ends t)
  leads_nowhere None e v h = (sym v ∙ ap ends h.0, ap ends h.1)
  leads_nowhere (Some x) e v h = cc
