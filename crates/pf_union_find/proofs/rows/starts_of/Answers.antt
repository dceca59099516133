use Rattle.std.proofs.Common.{ℕ, ◌≡◌, ◌+◌, ◌<◌, refl, sym, ap, subst, ◌∙◌, arith, List, [], ◌∷◌, ◌++◌, length, take, length-take, get_or-take, inl, inr}
use Rattle.std.specs.Prelude.{slice_index}
use Rattle.std.proofs.lemmas.List.{get_or_append_left, get_or_push, length_push, take_all}
use Rattle.std.proofs.lemmas.Bool.{cases_eq}
use Rattle.std.proofs.lemmas.Result.{IfOk-from_err}
use Rattle.pf_base.proofs.Outcomes.{refused_by}
use Rattle.pf_union_find.specs.Rows.{AreStarts}
use Rattle.pf_union_find.proofs.rows.starts_of.Goals as goal

starts_more : (counts starts : List ℕ) (k sum : ℕ) → k < length counts → AreStarts (take k counts) starts → slice_index starts k + slice_index counts k ≡ sum → AreStarts (take (k + 1) counts) (starts ++ sum ∷ [])
starts_more counts starts k sum inside s added =
    let wide : length starts ≡ k + 1 = omega (arith, s.wide, length-take k counts, inside) in
    let more : length (take (k + 1) counts) ≡ k + 1 = omega (arith, length-take (k + 1) counts, inside) in
    record {
      wide = omega (arith, length_push starts sum, wide, more);
      steps = λ row l.
          let counted : slice_index (take (k + 1) counts) row ≡ slice_index counts row = get_or-take (k + 1) counts row 0 (omega (arith, l, more)) in
          let here : slice_index (starts ++ sum ∷ []) row ≡ slice_index starts row = get_or_append_left starts (sum ∷ []) 0 row (omega (arith, l, more, wide)) in
          elim (cases_eq row k) [
            | inl e ↦
                let last : slice_index (starts ++ sum ∷ []) (row + 1) ≡ sum = get_or_push starts sum 0 (row + 1) (omega (arith, wide, e)) in
                let at_start : slice_index starts row ≡ slice_index starts k = ap (slice_index starts) e in
                let at_count : slice_index counts row ≡ slice_index counts k = ap (slice_index counts) e in
                omega (arith, last, here, counted, at_start, at_count, added)
            | inr n ↦
                let next : slice_index (starts ++ sum ∷ []) (row + 1) ≡ slice_index starts (row + 1) = get_or_append_left starts (sum ∷ []) 0 (row + 1) (omega (arith, l, more, wide, n)) in
                let before : slice_index (take k counts) row ≡ slice_index counts row = get_or-take k counts row 0 (omega (arith, l, more, n)) in
                let step = s.steps row (omega (arith, l, more, n, length-take k counts, inside)) in
                omega (arith, next, here, counted, before, step)
          ];
    }

starts_one : AreStarts [] (0 ∷ [])
starts_one = record { wide = refl; steps = λ row l. absurd (omega (arith, l)) }

pub returns-in_err-push-clause-starts : goal.returns-in_err-push-clause-starts
returns-in_err-push-clause-starts g c = IfOk-from_err _ _ c.from_residual.ensures.0

pub returns-in_err-push-clause-refused : goal.returns-in_err-push-clause-refused
returns-in_err-push-clause-refused g c = refused_by _ c.from_residual.result c.from_residual.ensures.1

pub loop-count-init : goal.loop-count-init
loop-count-init g c =
    let one : c.push.new.self.items ≡ 0 ∷ [] = c.in_ok-push.ensures.items ∙ ap (λ (xs : List ℕ). xs ++ 0 ∷ []) c.new-starts.ensures.items in
    record {
      starts = subst (AreStarts []) (sym one) starts_one;
      total = ap (λ (xs : List ℕ). slice_index xs 0) one;
    }

pub bounds-counts-count-index : goal.bounds-counts-count-index
bounds-counts-count-index g c = c.loop-count-test.true

pub returns-in_err-push-2-clause-starts : goal.returns-in_err-push-2-clause-starts
returns-in_err-push-2-clause-starts g c = IfOk-from_err _ _ c.from_residual-in_err-push-2.ensures.0

pub returns-in_err-push-2-clause-refused : goal.returns-in_err-push-2-clause-refused
returns-in_err-push-2-clause-refused g c = refused_by _ c.from_residual-in_err-push-2.result c.from_residual-in_err-push-2.ensures.1

pub returns-in_default-clause-refused : goal.returns-in_default-clause-refused
returns-in_default-clause-refused g c = refl

pub loop-count-smaller : goal.loop-count-smaller
loop-count-smaller g c = omega (arith, c.loop-count-test.true)

pub loop-count-preserved : goal.loop-count-preserved
loop-count-preserved g c =
    let counts = c.args.counts.now in
    let starts = c.loop-count.starts.items in
    let k = c.loop-count.count-index in
    let sum = c.in-Some.sum in
    let known = c.loop-count.invariant in
    let inside = c.loop-count-test.true in
    let now : c.push-in-loop-count.new.self.items ≡ starts ++ sum ∷ [] = c.in_ok-push-2.ensures.items in
    record {
      starts = subst (AreStarts (take (k + 1) counts)) (sym now) (starts_more counts starts k sum inside known.starts (omega (arith, known.total, c.in-Some.ensures)));
      total = ap (λ (xs : List ℕ). slice_index xs (k + 1)) now ∙ get_or_push starts sum 0 (k + 1) (omega (arith, known.starts.wide, length-take k counts, inside));
    }

pub returns-clause-starts : goal.returns-clause-starts
returns-clause-starts g c =
    let counts = c.args.counts.now in
    subst (λ xs. AreStarts xs c.loop-count.starts.items) (take_all c.loop-count.count-index counts (omega (arith, c.loop-count-test.false))) c.loop-count.invariant.starts
