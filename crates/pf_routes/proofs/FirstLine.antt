-- What the first line of a text says, where its fields were taken from the front.
use Rattle.std.proofs.Common.{◌≡◌, ℕ, ◌<◌, List, [], ◌∷◌, map, length, refl, sym, ap, ◌∙◌, arith, true, false, Bool, cond, Some, None, Option}
use Rattle.std.specs.Str.Parse.{digits_value}
use Rattle.pf_routes.specs.EdgeText.{Line, Blank, Holds, Bad, Edge, is_gap, is_cost, lines_of, line_of, line_of_fields, said_by}
use Rattle.pf_routes.specs.Internal.Fields.{behind, field_of, behind_field, BeginsWithLine}
use Rattle.pf_routes.proofs.Runs.{end_of_three, line_of-more, line_of-blank, line_of-short, line_of-three}
use Rattle.pf_routes.proofs.Lines.{has_lines, field_run, gap_run}

-- three fields from the front, and what follows them and their gaps
pub record TakesThree (text from to field end : List ℕ) : Type 0 where
  pub line : List ℕ
  pub others : List (List ℕ)
  pub lines : lines_of text ≡ line ∷ others
  pub first : from ≡ field_of line
  pub second : to ≡ field_of (behind_field line)
  pub third : field ≡ field_of (behind_field (behind_field line))
  pub end_lines : lines_of end ≡ end_of_three line ∷ others

pub takes_three : (text from a to b field c end : List ℕ) → from ≡ field_of text → a ≡ behind_field text → to ≡ field_of a → b ≡ behind_field a
    → field ≡ field_of b → c ≡ behind_field b → end ≡ behind is_gap c → TakesThree text from to field end
takes_three text from a to b field c end e1 ea e2 eb e3 ec e4 =
    let l = has_lines text in
    let r1 = field_run text l.line l.others l.lines in
    let la = ap lines_of ea ∙ r1.1 in
    let r2 = field_run a (behind_field l.line) l.others la in
    let lb = ap lines_of eb ∙ r2.1 in
    let r3 = field_run b (behind_field (behind_field l.line)) l.others lb in
    let lc = ap lines_of ec ∙ r3.1 in
    record {
      line = l.line;
      others = l.others;
      lines = l.lines;
      first = e1 ∙ r1.0;
      second = e2 ∙ r2.0;
      third = e3 ∙ r3.0;
      end_lines = ap lines_of e4 ∙ gap_run c (behind_field (behind_field (behind_field l.line))) l.others lc;
    }

module _ (text from to field end : List ℕ) (t : TakesThree text from to field end) where
  says : (says : Line) → line_of t.line ≡ says → said_by text ≡ says ∷ map line_of t.others
  says s e = ap (map line_of) t.lines ∙ ap (λ x. x ∷ map line_of t.others) e

  pub says-more : BeginsWithLine end → (others : List Line) × (said_by text ≡ Bad ∷ others)
  says-more b =
      let same = sym t.end_lines ∙ b.lines in
      let more : ¬ (end_of_three t.line ≡ []) = λ e. apart b.first b.others (sym e ∙ ap (head_or []) same) in
      (map line_of t.others, says Bad (line_of-more t.line more))
    where
      head_or : List ℕ → List (List ℕ) → List ℕ
      head_or d [] = d
      head_or d (x ∷ xs) = x

      apart : (x : ℕ) (xs : List ℕ) → [] ≡ x ∷ xs → ⊥
      apart x xs e = cc

  module _ (rest : List (List ℕ)) (ended : lines_of end ≡ [] ∷ rest) where
    same : end_of_three t.line ∷ t.others ≡ [] ∷ rest
    same = sym t.end_lines ∙ ended

    at_end : end_of_three t.line ≡ []
    at_end = ap (head_or []) same
      where
        head_or : List ℕ → List (List ℕ) → List ℕ
        head_or d [] = d
        head_or d (x ∷ xs) = x

    then : t.others ≡ rest
    then = ap tail_of same
      where
        tail_of : List (List ℕ) → List (List ℕ)
        tail_of [] = []
        tail_of (x ∷ xs) = xs

    said : (s : Line) → line_of t.line ≡ s → said_by text ≡ s ∷ map line_of rest
    said s e = says s e ∙ ap (λ ls. s ∷ map line_of ls) then

    pub says-blank : length from ≡ 0 → said_by text ≡ Blank ∷ map line_of rest
    says-blank none = said Blank (line_of-blank t.line at_end (sym (ap length t.first) ∙ none))

    pub says-short : 0 < length from → length field ≡ 0 → said_by text ≡ Bad ∷ map line_of rest
    says-short some none = said Bad (line_of-short t.line at_end (omega (arith, some, ap length t.first)) (sym (ap length t.third) ∙ none))

    pub says-three : 0 < length from → 0 < length field → said_by text ≡ line_of_fields (from ∷ to ∷ field ∷ []) ∷ map line_of rest
    says-three some third = said (line_of_fields (from ∷ to ∷ field ∷ []))
        (line_of-three t.line at_end (omega (arith, some, ap length t.first)) (omega (arith, third, ap length t.third))
        ∙ sym (ap (λ f. line_of_fields (f ∷ to ∷ field ∷ [])) t.first ∙ ap (λ f. line_of_fields (field_of t.line ∷ f ∷ field ∷ [])) t.second
        ∙ ap (λ f. line_of_fields (field_of t.line ∷ field_of (behind_field t.line) ∷ f ∷ [])) t.third))

none_by : (b : Bool) (n : ℕ) (e : Edge) → cond b (Some n) None ≡ None → cond b (Holds e) Bad ≡ Bad
none_by true n e h = cc
none_by false n e h = refl

-- where the third field is no cost, the line is bad
pub three-none : (from to field : List ℕ) → cond (is_cost field) (Some (digits_value 10 field)) None ≡ None → line_of_fields (from ∷ to ∷ field ∷ []) ≡ Bad
three-none from to field h = none_by (is_cost field) _ _ h

some_by : (b : Bool) (n c : ℕ) (from to : List ℕ) → cond b (Some n) None ≡ Some c → cond b (Holds (record { from = from; to = to; cost = n })) Bad ≡ Holds (record { from = from; to = to; cost = c })
some_by true n c from to h = ap (λ o. Holds (record { from = from; to = to; cost = value_or o })) h
  where
    value_or : Option ℕ → ℕ
    value_or (Some x) = x
    value_or None = 0
some_by false n c from to h = cc

pub three-some : (from to field : List ℕ) (c : ℕ) → cond (is_cost field) (Some (digits_value 10 field)) None ≡ Some c → line_of_fields (from ∷ to ∷ field ∷ []) ≡ Holds (record { from = from; to = to; cost = c })
three-some from to field c h = some_by (is_cost field) _ c from to h
