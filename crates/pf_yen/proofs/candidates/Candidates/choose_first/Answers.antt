use Rattle.std.proofs.Common.{rules, ◌≡◌, ◌∙◌, sym, ap, false, None, refl}
use Rattle.std.specs.Ordering.{int_cmp, is_lt}
use Rattle.std.specs.BinaryHeap.{heap_items}
use Rattle.pf_base.proofs.ListLemmas.{lt_means}
use Rattle.pf_yen.proofs.CandidateLemmas.{popped, popped_first}
use Rattle.pf_yen.proofs.candidates.Candidates.choose_first.Goals as goal

pub returns-then-is_none-clause-goes_on : goal.returns-then-is_none-clause-goes_on
returns-then-is_none-clause-goes_on g c = λ adjacency.
    let n : c.args.self.now.chosen ≡ None = search rules in
    rw n (popped g.C.Number.value adjacency c.pop.result (heap_items c.args.self.now.waiting) (heap_items c.pop.new.self) _ c.pop.ensures.permutation c.pop.ensures.unchanged)

pub returns-then-is_none-clause-first : goal.returns-then-is_none-clause-first
returns-then-is_none-clause-first g c = λ _.
    let order : (a b : g.row.C.Denot) → g.C.Ord.cmp a b ≡ int_cmp (g.C.Number.value a) (g.C.Number.value b) = λ a b.
    let o = g.met.C.Number.order_law a b g.met.C.Integral.exact_law in
    let m = g.met.C.Ord.matches_partial_cmp a b in
    cc in
    popped_first g.C.Number.value g.C.Ord.cmp (λ a b h. lt_means (g.C.Number.value a) (g.C.Number.value b) false (sym h ∙ ap is_lt (order a b))) c.pop.result (heap_items c.args.self.now.waiting) (heap_items c.pop.new.self) c.requires.ordered c.pop.ensures.below_top

pub returns-then-is_none-clause-has_begun : goal.returns-then-is_none-clause-has_begun
returns-then-is_none-clause-has_begun g c = refl

pub returns-then-is_none-clause-is_given : goal.returns-then-is_none-clause-is_given
returns-then-is_none-clause-is_given g c = c.requires.new

pub returns-else-is_none-clause-ordered : goal.returns-else-is_none-clause-ordered
returns-else-is_none-clause-ordered g c = c.requires.ordered

pub returns-else-is_none-clause-has_begun : goal.returns-else-is_none-clause-has_begun
returns-else-is_none-clause-has_begun g c = refl

pub returns-else-is_none-clause-is_given : goal.returns-else-is_none-clause-is_given
returns-else-is_none-clause-is_given g c = c.requires.new

pub returns-else-is_none-clause-first : goal.returns-else-is_none-clause-first
returns-else-is_none-clause-first g c = λ h. h
