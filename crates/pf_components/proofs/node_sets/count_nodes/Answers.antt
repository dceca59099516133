use Rattle.std.proofs.Common.{◌≡◌, ◌<◌, ◌==◌, ◌+◌, ◌∙◌, ℕ, refl, arith, rules, length}
use Rattle.std.specs.Prelude.{slice_index}
use Rattle.std.proofs.lemmas.List.{get_or_read, length-set}
use Rattle.std.proofs.lemmas.Option.{slice_get-get_or}
use Rattle.pf_components.proofs.CollectLemmas.{count_more, count_few, counts_set}
use Rattle.pf_components.proofs.node_sets.count_nodes.Goals as goal

pub overflow_add-index_mut : goal.overflow_add-index_mut
overflow_add-index_mut g c =
    let ids = c.args.ids.now in
    let first = c.args.first.now in
    let i = c.loop-group.group-index in
    let j : ℕ = slice_index first i in
    let id : ℕ = slice_index ids j in
    let low : id < length ids = c.requires.below i 0 c.loop-group-test.true id (slice_get-get_or ids j 0 (c.requires.inside i 0 c.loop-group-test.true)) in
    let here : c.index_mut.result.now ≡ slice_index c.loop-group.counts.items id = get_or_read c.loop-group.counts.items _ _ (omega (arith, low, c.loop-group.invariant.wide)) c.index_mut.ensures.value 0 in
    let few = count_few (λ group. slice_index ids group == id) first i (omega arith) in
    let was = c.loop-group.invariant.counted id low in
    let up : c.index_mut.result.now < length first = omega (arith, here, few, was, c.loop-group-test.true) in
    search (up, rules)

pub loop-group-preserved : goal.loop-group-preserved
loop-group-preserved g c =
    let ids = c.args.ids.now in
    let first = c.args.first.now in
    let counts = c.loop-group.counts.items in
    let i = c.loop-group.group-index in
    let j : ℕ = slice_index first i in
    let id : ℕ = slice_index ids j in
    let low : id < length ids = c.requires.below i 0 c.loop-group-test.true id (slice_get-get_or ids j 0 (c.requires.inside i 0 c.loop-group-test.true)) in
    let inside : id < length counts = omega (arith, low, c.loop-group.invariant.wide) in
    let here : c.index_mut.result.now ≡ slice_index counts id = get_or_read counts _ _ inside c.index_mut.ensures.value 0 in
    record {
      wide = let l = length-set counts id (c.index_mut.result.now + 1) in l ∙ c.loop-group.invariant.wide;
      counted = count_more ids first i c.loop-group-test.true j refl id refl (λ other. other < length ids) (slice_index counts) _ (λ other _. counts_set counts id (c.index_mut.result.now + 1) inside (omega (arith, here)) other) c.loop-group.invariant.counted;
    }
