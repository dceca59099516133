use Rattle.std.proofs.Common.{◌≡◌, ◌≤◌, ◌<◌, ◌+◌, ℕ, refl, sym, subst, ap, ◌∙◌, arith, length, take, take_all, List, [], ◌∷◌, ◌++◌, set, length-set, get_or-set_other}
use Rattle.std.specs.Prelude.{slice_index}
use Rattle.std.proofs.lemmas.List.{get_or_read}
use Rattle.pf_components.specs.Internal.DisjointSets.{AreNumbered}
use Rattle.pf_components.proofs.CollectLemmas.{AreNumbered-none, AreNumbered-skip, AreNumbered-more}
use Rattle.pf_components.proofs.node_sets.number_sets.Goals as goal
use Rattle.pf_components.proofs.node_sets.number_sets.Goals.{then-count-gt0+in_ok-push, else-count-gt0}

pub loop-id-init : goal.loop-id-init
loop-id-init g c = record { wide = refl; left = λ id l. refl; numbered = subst (λ sizes. AreNumbered [] c.args.counts.items sizes) (sym c.new-sizes.ensures.items) (AreNumbered-none c.args.counts.items) }

pub loop-id-preserved : goal.loop-id-preserved
loop-id-preserved g c =
    let counts = c.args.counts.items in
    let now = c.loop-id.counts.items in
    let sizes = c.loop-id.sizes.items in
    let i = c.loop-id.id in
    let h = c.loop-id.invariant in
    let inside : i < length counts = omega (arith, c.loop-id-test.true, c.len-id-end.ensures, c.args.counts.ok.0) in
    let room : i < length now = omega (arith, inside, h.wide) in
    let count : c.index-count.result.now ≡ slice_index now i = get_or_read now _ _ room c.index-count.ensures 0 in
    let here : slice_index now i ≡ slice_index counts i = h.left i (omega arith) in
    let Kept : List ℕ → List ℕ → Type 0 = λ xs ys. record { wide : length xs ≡ length counts; left : (id : ℕ) → i + 1 ≤ id → slice_index xs id ≡ slice_index counts id; numbered : AreNumbered (take (i + 1) counts) xs ys } in
    elim c.if-count-gt0.branch as (λ _. Kept c.if-count-gt0.counts.items c.if-count-gt0.sizes.items) [
      | then-count-gt0+in_ok-push w ↦
          let n : length sizes ≡ w.len.result = omega (arith, w.len.ensures, c.loop-id.sizes.ok.0) in
          let after : c.if-count-gt0.counts.items ≡ set now i (length sizes) = ap (λ v. v.items) w.counts-is ∙ ap (set now i) (sym n) in
          let made : c.if-count-gt0.sizes.items ≡ sizes ++ c.index-count.result.now ∷ [] = ap (λ v. v.items) w.sizes-is ∙ w.in_ok-push.ensures.items in
          subst (λ xs. Kept xs c.if-count-gt0.sizes.items) (sym after) (subst (λ ys. Kept (set now i (length sizes)) ys) (sym made) (record {
            wide = length-set now i (length sizes) ∙ h.wide;
            left = λ id l. get_or-set_other now i id (length sizes) 0 (omega (arith, l)) ∙ h.left id (omega (arith, l));
            numbered = AreNumbered-more counts i inside now sizes h.numbered room (omega (arith, w.if-count-gt0.true, count, here)) c.index-count.result.now (count ∙ here);
          }))
      | else-count-gt0 w ↦
          subst (λ xs. Kept xs c.if-count-gt0.sizes.items) (sym (ap (λ v. v.items) w.counts-is)) (subst (λ ys. Kept now ys) (sym (ap (λ v. v.items) w.sizes-is)) (record {
            wide = h.wide;
            left = λ id l. h.left id (omega (arith, l));
            numbered = AreNumbered-skip counts i inside now sizes h.numbered (omega (arith, w.if-count-gt0.false, count, here));
          }))
    ]

pub returns : goal.returns
returns g c =
    let all : length c.args.counts.items ≤ c.loop-id.id = omega (arith, c.loop-id-test.false, c.len-id-end.ensures, c.args.counts.ok.0) in
    record { wide = c.loop-id.invariant.wide; numbered = subst (λ counts. AreNumbered counts c.loop-id.counts.items c.loop-id.sizes.items) (take_all c.loop-id.id c.args.counts.items all) c.loop-id.invariant.numbered; refused = tt }
