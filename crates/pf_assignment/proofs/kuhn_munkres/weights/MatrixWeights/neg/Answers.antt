use Rattle.std.proofs.Common.{◌≡◌, ◌∙◌, ◌<◌, arith, ap, sym, subst, length, take, drop, ◌++◌, ℕ, ◌+◌, ◌*◌}
use Rattle.std.specs.Prelude.{neg_ℤ}
use Rattle.pf_base.specs.Places.{number}
use Rattle.pf_assignment.proofs.MatchingWeights.{position_of}
use Rattle.std.proofs.lemmas.List.{take_at}
use Rattle.std.proofs.lemmas.Nat.{mul-add-lt}
use Rattle.std.proofs.lemmas.Result.{IfOk-from_err}
use Rattle.std.proofs.lemmas.Slice.Zip.{AllZip-long}
use Rattle.pf_base.proofs.Outcomes.{refused_by}
use Rattle.pf_assignment.proofs.kuhn_munkres.weights.MatrixWeights.neg.Goals as goal

pub write_negations-requires-clause-fits : goal.write_negations-requires-clause-fits
write_negations-requires-clause-fits g c = λ k h.
    let m = c.args.self.now in
    let v = c.as_slice.ensures.values in
    let l : k < m.rows * m.columns = omega (arith, ap length v, c.as_slice.ensures.matrix.sized) in
    let p = position_of m.rows m.columns k l in
    subst (λ xs. g.C.Number.fits (neg_ℤ (number g.C.Number.value xs k))) (sym v)
    (subst (λ j. g.C.Number.fits (neg_ℤ (number g.C.Number.value m.values j))) (sym p.4) (c.requires p.0 p.1 p.2 p.3))

pub returns-in_err-negated : goal.returns-in_err-negated
returns-in_err-negated g c = record {
  negated = IfOk-from_err _ _ c.from_residual.ensures.0;
  refused = refused_by _ c.from_residual.result c.from_residual.ensures.1;
}

pub write_negations-requires-clause-len : goal.write_negations-requires-clause-len
write_negations-requires-clause-len g c = ap length c.as_mut_slice.ensures.values ∙ AllZip-long g.C.Clone.is_clone c.args.self.now.values c.in_ok-negated.negated.values c.in_ok-negated.ensures.cases.values ∙ sym (ap length c.as_slice.ensures.values)

pub returns-clause-negated : goal.returns-clause-negated
returns-clause-negated g c =
    let m = c.args.self.now in
    let n = c.in_ok-negated.negated in
    let value = g.C.Number.value in
    let written = c.write_negations.new.target in
    let copy = c.in_ok-negated.ensures.cases in
    let v = c.as_slice.ensures.values in
    let whole : take (length n.values) (written ++ drop (length written) n.values) ≡ written = take_at written (drop (length written) n.values) (length n.values) (c.write_negations.auto.target ∙ ap length c.as_mut_slice.ensures.values) in
    record {
      rows = copy.rows;
      columns = copy.columns;
      negated = λ r k h l.
          let inside : r * m.columns + k < length c.as_slice.result.now = omega (arith, ap length v, c.as_slice.ensures.matrix.sized, mul-add-lt r m.columns k m.rows h l) in
          ap (λ xs. number value xs (r * n.columns + k)) whole ∙ ap (λ (w : ℕ). number value written (r * w + k)) copy.columns
          ∙ c.write_negations.ensures (r * m.columns + k) inside ∙ ap (λ xs. neg_ℤ (number value xs (r * m.columns + k))) v;
    }
