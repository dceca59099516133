use Rattle.std.proofs.Common.{◌≡◌, ◌≤◌, ◌<◌, ◌-◌, ◌+◌, ◌∙◌, ◌∷◌, ◌++◌, [], List, length, get_or, take, take_all, drop, refl, sym, ap, subst, arith}
use Rattle.std.proofs.lemmas.List.{take_more}
use Rattle.pf_graph.specs.Internal.Spanning.SpanningSteps.{IsTaken}
use Rattle.pf_graph.proofs.undirected.exact_sum.take_weight.Goals as goal

none_there : {C : Type 0} (ws : List C) → length ws < 1 → ws ≡ []
none_there [] h = refl
none_there (w ∷ ws) h = absurd (omega (arith, h))

taken_end : {C : Type 0} (ws : List C) (w : C) → 1 ≤ length ws → w ≡ get_or ws (length ws - 1) w → ws ≡ take (length ws - 1) ws ++ w ∷ []
taken_end ws w h is = sym (take_all (length ws - 1 + 1) ws (omega (arith, h))) ∙ take_more ws (length ws - 1) w (omega (arith, h)) ∙ ap (λ x. take (length ws - 1) ws ++ x ∷ []) (sym is)

taken_first : {C : Type 0} (ws : List C) (w : C) → 1 ≤ length ws → w ≡ get_or ws 0 w → ws ≡ w ∷ take (length ws - 1) (drop 1 ws)
taken_first [] w h is = absurd (omega (arith, h))
taken_first (x ∷ xs) w h is =
    let all : take (length (x ∷ xs) - 1) (drop 1 (x ∷ xs)) ≡ xs = take_all (length (x ∷ xs) - 1) xs (omega arith) in
    let same : w ≡ x = is in
    ap (λ y. y ∷ xs) (sym same) ∙ ap (λ ys. w ∷ ys) (sym all)

pub overflow_sub-weight : goal.overflow_sub-weight
overflow_sub-weight g c = c.in-len1-up.len_at_least

pub bounds-weights-weights : goal.bounds-weights-weights
bounds-weights-weights g c = omega (arith, c.in-len1-up.len_at_least)

pub returns-in-empty : goal.returns-in-empty
returns-in-empty g c = none_there c.args.weights.now c.in-empty.len_below

pub returns-in-len1-up : goal.returns-in-len1-up
returns-in-len1-up g c = subst (λ b. IsTaken b c.weight-item.result (take (length c.args.weights.now - 1) c.args.weights.now) c.args.weights.now) (sym c.if-last.true) (taken_end c.args.weights.now c.weight-item.result c.in-len1-up.len_at_least c.weight-item.is)

pub returns-in-empty-weights : goal.returns-in-empty-weights
returns-in-empty-weights g c = none_there c.args.weights.now c.in-empty-weights.len_below

pub returns-in-len1-up-weights : goal.returns-in-len1-up-weights
returns-in-len1-up-weights g c = subst (λ b. IsTaken b c.weight-item-else-last.result (take (length c.args.weights.now - 1) (drop 1 c.args.weights.now)) c.args.weights.now) (sym c.if-last.false) (taken_first c.args.weights.now c.weight-item-else-last.result c.in-len1-up-weights.len_at_least c.weight-item-else-last.is)
