use Rattle.std.proofs.Common.{◌≡◌, ℕ, ◌∙◌, ◌+◌, ◌*◌, ◌/◌, ◌<◌, ap, sym, arith, cond, length, get_or, List, Vec, Bool}
use Rattle.std.specs.List.{count_by}
use Rattle.std.specs.Vec.{with_items}
use Rattle.std.proofs.lemmas.List.{with_items_is}
use Rattle.pf_grid.specs.Internal.Words.{held, row_words}
use Rattle.pf_grid.proofs.CellLemmas.{changed_view, same_cells}
use Rattle.pf_grid.proofs.CountLemmas.{count_all}
use Rattle.pf_grid.proofs.WordLemmas.{word_in, place_in, none_held}
use Rattle.pf_grid.proofs.grid.Grid.set_all.Goals as goal
use Rattle.pf_grid.proofs.grid.Grid.set_all.Goals.{then-present, else-present}

-- words that are all 0 hold all positions, or none
all_held : {Z : Type 0} (v : Vec ℕ Z) (before after : List ℕ) (w h : ℕ) (present : Bool) → length after ≡ length before → before ≡ v.items → length before ≡ v.len → length v.items ≡ row_words w * h
    → ((k : ℕ) → k < length before → get_or after k 0 ≡ 0) → (x y : ℕ) → x < w → y < h → held (with_items v after).items (row_words w) present x y ≡ present
all_held v before after w h present same is len sized cleared x y p q =
    ap (λ ws. held ws (row_words w) present x y) (with_items_is v after (same ∙ len))
    ∙ none_held after (row_words w) present x y (cleared (y * row_words w + x / 64) (omega (arith, place_in (row_words w) h x y (word_in w x p) q, ap length is, sized)))

pub invariant_of-self : goal.invariant_of-self
invariant_of-self g c =
    let s = c.self.inside in
    let v = c.args.present in
    let before = c.as_mut_slice.result.now in
    let after = c.clear_words.new.words in
    let all = all_held s.words before after s.width s.height v c.clear_words.auto.words c.as_mut_slice.ensures.value c.as_mut_slice.ensures.len c.self.invariant.sized c.clear_words.ensures in
    record {
      sized = ap length (with_items_is s.words after (c.clear_words.auto.words ∙ c.as_mut_slice.ensures.len)) ∙ c.clear_words.auto.words ∙ ap length c.as_mut_slice.ensures.value ∙ c.self.invariant.sized;
      fits = c.self.invariant.fits;
      counted =
          elim c.if-present.branch as (λ _. c.if-present.self ≡ cond v (s.width * s.height) 0) [
            | then-present w ↦ w.self-is ∙ ap (λ b. cond b (s.width * s.height) 0) (sym w.if-present.true)
            | else-present w ↦ w.self-is ∙ ap (λ b. cond b (s.width * s.height) 0) (sym w.if-present.false)
          ]
          ∙ sym (ap (λ cs. count_by (λ t. t) cs) (same_cells s.width s.height _ (λ x y. v) all) ∙ count_all v s.width s.height);
    }

pub returns : goal.returns
returns g c =
    let s = c.self.inside in
    changed_view c.args.self.now _ _ _ _ c.self.view_is _ _
    (all_held s.words c.as_mut_slice.result.now c.clear_words.new.words s.width s.height c.args.present c.clear_words.auto.words c.as_mut_slice.ensures.value c.as_mut_slice.ensures.len c.self.invariant.sized c.clear_words.ensures)
