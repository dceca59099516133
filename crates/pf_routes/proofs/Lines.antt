-- The lines of a text, from the front.
use Rattle.std.proofs.Common.{◌≡◌, ℕ, suc, ◌<◌, ◌-◌, Bool, true, false, cond, ◌==◌, ◌⊎◌, inl, inr, List, [], ◌∷◌, map, length, take, get_or, refl, sym, ap, ◌∙◌, arith}
use Rattle.std.specs.List.{slice_split, onto_first}
use Rattle.std.specs.Str.Lines.{strip_carriage_return}
use Rattle.std.proofs.lemmas.List.Splits.{slice_split-cons_yes, slice_split-cons_no}
use Rattle.std.proofs.lemmas.Bool.Decides.{nat_tests}
use Rattle.pf_routes.specs.EdgeText.{lines_of, is_gap, is_visible}
use Rattle.pf_routes.specs.Internal.Fields.{front, behind, field_of, behind_field, BeginsWithLine}
use Rattle.pf_routes.proofs.Runs.{front-yes, front-no, behind-yes, behind-no}

abbrev is_feed : ℕ → Bool
is_feed b = b == 10

-- the first of some lists, and the others
abbrev head_or : {X : Type 0} → X → List X → X
head_or d [] = d
head_or d (x ∷ xs) = x

abbrev tail_of : {X : Type 0} → List X → List X
tail_of [] = []
tail_of (x ∷ xs) = xs

-- a split has a first part
record HasParts (text : List ℕ) : Type 0 where
  first : List ℕ
  others : List (List ℕ)
  parts : slice_split is_feed text ≡ first ∷ others

parts_by : (x : ℕ) (xs : List ℕ) (b : Bool) → is_feed x ≡ b → HasParts xs → HasParts (x ∷ xs)
parts_by x xs true h p = record { first = []; others = slice_split is_feed xs; parts = slice_split-cons_yes is_feed x xs h }
parts_by x xs false h p = record { first = x ∷ p.first; others = p.others; parts = slice_split-cons_no is_feed x xs h ∙ ap (onto_first x) p.parts }

has_parts : (text : List ℕ) → HasParts text
has_parts [] = record { first = []; others = []; parts = refl }
has_parts (x ∷ xs) = parts_by x xs (is_feed x) refl (has_parts xs)

-- a carriage return at the end of a line of two bytes or more
strip-more : (x y : ℕ) (ys : List ℕ) → strip_carriage_return (x ∷ y ∷ ys) ≡ x ∷ strip_carriage_return (y ∷ ys)
strip-more x y ys =
    let n = length (y ∷ ys) - 1 in
    let more : length (x ∷ y ∷ ys) - 1 ≡ suc n = omega arith in
    rw more (commuted (get_or (y ∷ ys) n 0 == 13) n)
  where
    commuted : (b : Bool) (n : ℕ) → cond b (take (suc n) (x ∷ y ∷ ys)) (x ∷ y ∷ ys) ≡ x ∷ cond b (take n (y ∷ ys)) (y ∷ ys)
    commuted true n = refl
    commuted false n = refl

strip-cons : (x : ℕ) (xs : List ℕ) → (x == 13) ≡ false → strip_carriage_return (x ∷ xs) ≡ x ∷ strip_carriage_return xs
strip-cons x [] h = ap (λ b. cond b [] (x ∷ [])) h
strip-cons x (y ∷ ys) h = strip-more x y ys

strip-head_by : (x : ℕ) (b : Bool) → (cond b [] (x ∷ []) ≡ []) ⊎ ((z : List ℕ) × (cond b [] (x ∷ []) ≡ x ∷ z))
strip-head_by x true = inl refl
strip-head_by x false = inr ([], refl)

strip-head : (x : ℕ) (xs : List ℕ) → (strip_carriage_return (x ∷ xs) ≡ []) ⊎ ((z : List ℕ) × (strip_carriage_return (x ∷ xs) ≡ x ∷ z))
strip-head x [] = strip-head_by x (x == 13)
strip-head x (y ∷ ys) = inr (strip_carriage_return (y ∷ ys), strip-more x y ys)

-- one byte more at the front of a line
lines_of-cons : (x : ℕ) (xs line : List ℕ) (others : List (List ℕ)) → (x == 10) ≡ false → (x == 13) ≡ false → lines_of xs ≡ line ∷ others → lines_of (x ∷ xs) ≡ (x ∷ line) ∷ others
lines_of-cons x xs line others feed return e =
    let p = has_parts xs in
    let same : strip_carriage_return p.first ∷ map strip_carriage_return p.others ≡ line ∷ others = sym (ap (map strip_carriage_return) p.parts) ∙ e in
    ap (map strip_carriage_return) (slice_split-cons_no is_feed x xs feed ∙ ap (onto_first x) p.parts)
    ∙ ap (λ l. l ∷ map strip_carriage_return p.others) (strip-cons x p.first return)
    ∙ ap (λ ls. (x ∷ head_or [] ls) ∷ tail_of ls) same

-- the line without its first byte
record Shorter (x : ℕ) (xs line : List ℕ) (others : List (List ℕ)) : Type 0 where
  rest : List ℕ
  is : line ≡ x ∷ rest
  lines : lines_of xs ≡ rest ∷ others

shorter : (x : ℕ) (xs line : List ℕ) (others : List (List ℕ)) → (x == 10) ≡ false → (x == 13) ≡ false → lines_of (x ∷ xs) ≡ line ∷ others → Shorter x xs line others
shorter x xs line others feed return e =
    let p = has_parts xs in
    let here = ap (map strip_carriage_return) p.parts in
    let same = sym (lines_of-cons x xs (strip_carriage_return p.first) (map strip_carriage_return p.others) feed return here) ∙ e in
    record {
      rest = strip_carriage_return p.first;
      is = sym (ap (head_or []) same);
      lines = here ∙ ap (λ ls. strip_carriage_return p.first ∷ ls) (ap tail_of same);
    }

-- a line begins as its text does, or is empty
begins_by : (x : ℕ) (xs : List ℕ) (b : Bool) → is_feed x ≡ b → (line : List ℕ) (others : List (List ℕ)) → lines_of (x ∷ xs) ≡ line ∷ others → (line ≡ []) ⊎ ((z : List ℕ) × (line ≡ x ∷ z))
begins_by x xs true h line others e = inl (sym (ap (head_or []) (sym (ap (map strip_carriage_return) (slice_split-cons_yes is_feed x xs h)) ∙ e)))
begins_by x xs false h line others e =
    let p = has_parts xs in
    let whole = ap (map strip_carriage_return) (slice_split-cons_no is_feed x xs h ∙ ap (onto_first x) p.parts) in
    let same : strip_carriage_return (x ∷ p.first) ≡ line = ap (head_or []) (sym whole ∙ e) in
    along (strip-head x p.first) same
  where
    along : (strip_carriage_return (x ∷ (has_parts xs).first) ≡ []) ⊎ ((z : List ℕ) × (strip_carriage_return (x ∷ (has_parts xs).first) ≡ x ∷ z)) → strip_carriage_return (x ∷ (has_parts xs).first) ≡ line → (line ≡ []) ⊎ ((z : List ℕ) × (line ≡ x ∷ z))
    along (inl h) same = inl (sym same ∙ h)
    along (inr h) same = inr (h.0, sym same ∙ h.1)

module _ (p : ℕ → Bool) (no_feed : (x : ℕ) → p x ≡ true → (x == 10) ≡ false) (no_return : (x : ℕ) → p x ≡ true → (x == 13) ≡ false) where
  -- a run of such bytes lies in the first line
  pub record SameRun (text line : List ℕ) (others : List (List ℕ)) : Type 0 where
    pub fronts : front p text ≡ front p line
    pub lines : lines_of (behind p text) ≡ behind p line ∷ others

  stopped : (x : ℕ) (line : List ℕ) → p x ≡ false → (line ≡ []) ⊎ ((z : List ℕ) × (line ≡ x ∷ z)) → (front p line ≡ []) × (behind p line ≡ line)
  stopped x line h (inl e) = (ap (front p) e, ap (behind p) e ∙ sym e)
  stopped x line h (inr e) = (ap (front p) e.1 ∙ front-no p x e.0 h, ap (behind p) e.1 ∙ behind-no p x e.0 h ∙ sym e.1)

  same_by : (x : ℕ) (xs line : List ℕ) (others : List (List ℕ)) (b : Bool) → p x ≡ b → ((rest : List ℕ) → lines_of xs ≡ rest ∷ others → SameRun xs rest others) → lines_of (x ∷ xs) ≡ line ∷ others → SameRun (x ∷ xs) line others
  same_by x xs line others true h ih e =
      let s = shorter x xs line others (no_feed x h) (no_return x h) e in
      let r = ih s.rest s.lines in
      record {
        fronts = front-yes p x xs h ∙ ap (λ l. x ∷ l) r.fronts ∙ sym (ap (front p) s.is ∙ front-yes p x s.rest h);
        lines = ap lines_of (behind-yes p x xs h) ∙ r.lines ∙ ap (λ l. l ∷ others) (sym (ap (behind p) s.is ∙ behind-yes p x s.rest h));
      }
  same_by x xs line others false h ih e =
      let s = stopped x line h (begins_by x xs (is_feed x) refl line others e) in
      record { fronts = front-no p x xs h ∙ sym s.0; lines = ap lines_of (behind-no p x xs h) ∙ e ∙ ap (λ l. l ∷ others) (sym s.1) }

  pub same_run : (text line : List ℕ) (others : List (List ℕ)) → lines_of text ≡ line ∷ others → SameRun text line others
  same_run [] line others e =
      let empty : line ≡ [] = sym (ap (head_or []) e) in
      record { fronts = sym (ap (front p) empty); lines = e ∙ ap (λ l. l ∷ others) (empty ∙ sym (ap (behind p) empty)) }
  same_run (x ∷ xs) line others e = same_by x xs line others (p x) refl (λ rest. same_run xs rest others) e

gap-feed : (x : ℕ) → is_gap x ≡ true → (x == 10) ≡ false
gap-feed x h = grind (arith, nat_tests)

gap-return : (x : ℕ) → is_gap x ≡ true → (x == 13) ≡ false
gap-return x h = grind (arith, nat_tests)

visible-feed : (x : ℕ) → is_visible x ≡ true → (x == 10) ≡ false
visible-feed x h = grind (arith, nat_tests)

visible-return : (x : ℕ) → is_visible x ≡ true → (x == 13) ≡ false
visible-return x h = grind (arith, nat_tests)

pub gap_run : (text line : List ℕ) (others : List (List ℕ)) → lines_of text ≡ line ∷ others → lines_of (behind is_gap text) ≡ behind is_gap line ∷ others
gap_run text line others e = (same_run is_gap gap-feed gap-return text line others e).lines

-- a field of the text is one of its first line
pub field_run : (text line : List ℕ) (others : List (List ℕ)) → lines_of text ≡ line ∷ others → (field_of text ≡ field_of line) × (lines_of (behind_field text) ≡ behind_field line ∷ others)
field_run text line others e =
    let r = same_run is_visible visible-feed visible-return (behind is_gap text) (behind is_gap line) others (gap_run text line others e) in
    (r.fronts, r.lines)

-- the first line and the others
pub record HasLines (text : List ℕ) : Type 0 where
  pub line : List ℕ
  pub others : List (List ℕ)
  pub lines : lines_of text ≡ line ∷ others

pub has_lines : (text : List ℕ) → HasLines text
has_lines text = let p = has_parts text in record { line = strip_carriage_return p.first; others = map strip_carriage_return p.others; lines = ap (map strip_carriage_return) p.parts }

-- the first line of a text that does not begin with the end of a line
pub lines_of-other : (x : ℕ) (xs : List ℕ) → (x == 10) ≡ false → (x == 13) ≡ false → (rest : List ℕ) × (more : List (List ℕ)) × (lines_of (x ∷ xs) ≡ (x ∷ rest) ∷ more)
lines_of-other x xs feed return =
    let l = has_lines xs in
    (l.line, l.others, lines_of-cons x xs l.line l.others feed return l.lines)

-- and of one that begins with a carriage return which stands in the line
pub lines_of-return : (x y : ℕ) (ys : List ℕ) → (x == 10) ≡ false → (y == 10) ≡ false → (rest : List ℕ) × (more : List (List ℕ)) × (lines_of (x ∷ y ∷ ys) ≡ (x ∷ rest) ∷ more)
lines_of-return x y ys feed after =
    let p = has_parts ys in (
      strip_carriage_return (y ∷ p.first),
      map strip_carriage_return p.others,
      ap (map strip_carriage_return) (slice_split-cons_no is_feed x (y ∷ ys) feed ∙ ap (onto_first x) (slice_split-cons_no is_feed y ys after ∙ ap (onto_first y) p.parts))
          ∙ ap (λ l. l ∷ map strip_carriage_return p.others) (strip-more x y p.first),
    )

pub lines_of-feed : (x : ℕ) (xs : List ℕ) → x ≡ 10 → lines_of (x ∷ xs) ≡ [] ∷ lines_of xs
lines_of-feed x xs e = ap (λ y. lines_of (y ∷ xs)) e

pub lines_of-return_feed : (x y : ℕ) (xs : List ℕ) → x ≡ 13 → y ≡ 10 → lines_of (x ∷ y ∷ xs) ≡ [] ∷ lines_of xs
lines_of-return_feed x y xs e f = ap (λ z. lines_of (z ∷ y ∷ xs)) e ∙ ap (λ z. lines_of (13 ∷ z ∷ xs)) f

-- a text whose first byte is neither a line feed nor a carriage return
pub begins_other : (text : List ℕ) → 0 < length text → (get_or text 0 0 == 10) ≡ false → (get_or text 0 0 == 13) ≡ false → BeginsWithLine text
begins_other [] some feed return = absurd (omega (arith, some))
begins_other (x ∷ xs) some feed return = let l = lines_of-other x xs feed return in record { first = x; others = l.0; more = l.1; lines = l.2 }

-- a text whose first byte is no line feed, and the next one neither
pub begins_return : (text : List ℕ) → 1 < length text → (get_or text 0 0 == 10) ≡ false → (get_or text 1 0 == 10) ≡ false → BeginsWithLine text
begins_return [] some feed after = absurd (omega (arith, some))
begins_return (x ∷ []) some feed after = absurd (omega (arith, some))
begins_return (x ∷ y ∷ ys) some feed after = let l = lines_of-return x y ys feed after in record { first = x; others = l.0; more = l.1; lines = l.2 }
