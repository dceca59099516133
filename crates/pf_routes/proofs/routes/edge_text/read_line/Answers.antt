use Rattle.std.proofs.Common.{◌≡◌, ℕ, ◌<◌, ◌≤◌, List, ◌∷◌, map, length, sym, ap, ◌∙◌, arith, Option, Some, None, Bor}
use Rattle.std.specs.Prelude.{IfSome}
use Rattle.std.proofs.lemmas.Bool.Decides.{nat_tests}
use Rattle.pf_routes.specs.EdgeText.{line_of, is_gap, is_visible}
use Rattle.pf_routes.specs.Internal.Fields.{lines_left, behind, behind_field}
use Rattle.pf_routes.proofs.Runs.{behind-length}
use Rattle.pf_routes.proofs.FirstLine.{takes_three, says-more, says-blank, says-short, says-three, three-none, three-some}
use Rattle.pf_routes.proofs.routes.edge_text.read_line.Goals as goal

behind_field-length : (text : List ℕ) → length (behind_field text) ≤ length text
behind_field-length text = omega (arith, behind-length is_visible (behind is_gap text), behind-length is_gap text)

-- what is shorter than the end is shorter than the text
shorter : (text a b c end : List ℕ) (rest : Option (Bor (List ℕ))) → a ≡ behind_field text → b ≡ behind_field a → c ≡ behind_field b → end ≡ behind is_gap c
    → IfSome rest (λ r. length r.now < length end) → IfSome rest (λ r. length r.now < length text)
shorter text a b c end None ea eb ec ed h = h
shorter text a b c end (Some r) ea eb ec ed h =
    omega (arith, h, ap length ea, ap length eb, ap length ec, ap length ed, behind_field-length text, behind_field-length a, behind_field-length b, behind-length is_gap c)

pub returns-in_err-rest-clause-says : goal.returns-in_err-rest-clause-says
returns-in_err-rest-clause-says c =
    let t = takes_three c.args.text.now c.split_field.result.0.now c.split_field.result.1.now c.split_field-2.result.0.now c.split_field-2.result.1.now c.split_field-3.result.0.now c.split_field-3.result.1.now c.skip_gap.result.now
    c.split_field.ensures.field c.split_field.ensures.rest c.split_field-2.ensures.field c.split_field-2.ensures.rest c.split_field-3.ensures.field c.split_field-3.ensures.rest c.skip_gap.ensures in
    rw c.from_residual.ensures (says-more _ _ _ _ _ t c.in_err-rest.ensures.lines)

pub returns-then-is_empty : goal.returns-then-is_empty
returns-then-is_empty c = record {
  says =
      let t = takes_three c.args.text.now c.split_field.result.0.now c.split_field.result.1.now c.split_field-2.result.0.now c.split_field-2.result.1.now c.split_field-3.result.0.now c.split_field-3.result.1.now c.skip_gap.result.now
      c.split_field.ensures.field c.split_field.ensures.rest c.split_field-2.ensures.field c.split_field-2.ensures.rest c.split_field-3.ensures.field c.split_field-3.ensures.rest c.skip_gap.ensures in
      let h = c.is_empty.ensures in
      let k = c.if-is_empty.true in
      says-blank _ _ _ _ _ t _ c.in_ok-rest.ensures.lines (grind (arith, nat_tests));
  shorter = shorter c.args.text.now c.split_field.result.1.now c.split_field-2.result.1.now c.split_field-3.result.1.now c.skip_gap.result.now _
      c.split_field.ensures.rest c.split_field-2.ensures.rest c.split_field-3.ensures.rest c.skip_gap.ensures c.in_ok-rest.ensures.shorter;
}

pub returns-then-is_empty-2-clause-says : goal.returns-then-is_empty-2-clause-says
returns-then-is_empty-2-clause-says c =
    let t = takes_three c.args.text.now c.split_field.result.0.now c.split_field.result.1.now c.split_field-2.result.0.now c.split_field-2.result.1.now c.split_field-3.result.0.now c.split_field-3.result.1.now c.skip_gap.result.now
    c.split_field.ensures.field c.split_field.ensures.rest c.split_field-2.ensures.field c.split_field-2.ensures.rest c.split_field-3.ensures.field c.split_field-3.ensures.rest c.skip_gap.ensures in
    let h = c.is_empty.ensures in
    let k = c.if-is_empty.false in
    let h2 = c.is_empty-2.ensures in
    let k2 = c.if-is_empty-2.true in
    (map line_of (lines_left c.in_ok-rest.rest), says-short _ _ _ _ _ t _ c.in_ok-rest.ensures.lines (grind (arith, nat_tests)) (grind (arith, nat_tests)))

pub returns-in_err-cost-clause-says : goal.returns-in_err-cost-clause-says
returns-in_err-cost-clause-says c =
    let t = takes_three c.args.text.now c.split_field.result.0.now c.split_field.result.1.now c.split_field-2.result.0.now c.split_field-2.result.1.now c.split_field-3.result.0.now c.split_field-3.result.1.now c.skip_gap.result.now
    c.split_field.ensures.field c.split_field.ensures.rest c.split_field-2.ensures.field c.split_field-2.ensures.rest c.split_field-3.ensures.field c.split_field-3.ensures.rest c.skip_gap.ensures in
    let h = c.is_empty.ensures in
    let k = c.if-is_empty.false in
    let h2 = c.is_empty-2.ensures in
    let k2 = c.if-is_empty-2.false in
    let all = says-three _ _ _ _ _ t _ c.in_ok-rest.ensures.lines (grind (arith, nat_tests)) (grind (arith, nat_tests)) in
    rw c.from_residual-in_err-cost.ensures (map line_of (lines_left c.in_ok-rest.rest), all ∙ ap (λ l. l ∷ map line_of (lines_left c.in_ok-rest.rest)) (three-none c.split_field.result.0.now c.split_field-2.result.0.now c.split_field-3.result.0.now (sym c.in_err-cost.ensures)))

pub returns : goal.returns
returns c = record {
  says =
      let t = takes_three c.args.text.now c.split_field.result.0.now c.split_field.result.1.now c.split_field-2.result.0.now c.split_field-2.result.1.now c.split_field-3.result.0.now c.split_field-3.result.1.now c.skip_gap.result.now
      c.split_field.ensures.field c.split_field.ensures.rest c.split_field-2.ensures.field c.split_field-2.ensures.rest c.split_field-3.ensures.field c.split_field-3.ensures.rest c.skip_gap.ensures in
      let h = c.is_empty.ensures in
      let k = c.if-is_empty.false in
      let h2 = c.is_empty-2.ensures in
      let k2 = c.if-is_empty-2.false in
      let all = says-three _ _ _ _ _ t _ c.in_ok-rest.ensures.lines (grind (arith, nat_tests)) (grind (arith, nat_tests)) in
      rw (c.new.ensures, c.new-2.ensures) (all ∙ ap (λ l. l ∷ map line_of (lines_left c.in_ok-rest.rest)) (three-some c.split_field.result.0.now c.split_field-2.result.0.now c.split_field-3.result.0.now c.in_ok-cost.cost (sym c.in_ok-cost.ensures)));
  shorter = shorter c.args.text.now c.split_field.result.1.now c.split_field-2.result.1.now c.split_field-3.result.1.now c.skip_gap.result.now _
      c.split_field.ensures.rest c.split_field-2.ensures.rest c.split_field-3.ensures.rest c.skip_gap.ensures c.in_ok-rest.ensures.shorter;
}
