use Rattle.std.proofs.Common.{◌≡◌, ℕ, ap, ◌∙◌, arith, inl, inr, refl}
use Rattle.std.specs.Prelude.{◌<ℤ◌, ◌≤ℤ◌, slice_set}
use Rattle.std.specs.Ordering.{is_some_and, is_lt}
use Rattle.std.proofs.lemmas.Int.{ints}
use Rattle.std.proofs.lemmas.Option.{get_or_from_slice_get}
use Rattle.pf_base.proofs.ListLemmas.{lt_means}
use Rattle.pf_informed.proofs.directed.idastar.cheapest_row.CheapestRow.lower.Goals as goal

pub returns-then-lt-clause-lowered : goal.returns-then-lt-clause-lowered
returns-then-lt-clause-lowered g c = λ n d h.
    let value = g.C.Number.value in
    let steps = c.args.self.now.steps.items in
    let read = c.index.result.now in
    let is = c.index.ensures ∙ get_or_from_slice_get steps c.args.place (n, d) read h in
    let written = c.index_mut.ensures.value ∙ get_or_from_slice_get steps c.args.place (n, d) c.index_mut.result.now h in
    let o = g.met.C.Number.order_law c.args.cost read.1 g.met.C.Integral.exact_law in
    let less : value c.args.cost <ℤ value read.1 = rw c.if-lt.true at (lt_means (value c.args.cost) (value read.1) c.lt.result (c.lt.ensures ∙ ap (is_some_and is_lt) o)) in
    let cost : value read.1 ≡ value d = ap (λ (s : ℕ × g.row.C.Denot). value s.1) is in
    inr (ap (λ (s : ℕ × g.row.C.Denot). slice_set steps c.args.place (s.0, c.args.cost)) written, omega (arith, ints, less, cost))

pub returns-else-lt-clause-lowered : goal.returns-else-lt-clause-lowered
returns-else-lt-clause-lowered g c = λ n d h.
    let value = g.C.Number.value in
    let steps = c.args.self.now.steps.items in
    let read = c.index.result.now in
    let is = c.index.ensures ∙ get_or_from_slice_get steps c.args.place (n, d) read h in
    let o = g.met.C.Number.order_law c.args.cost read.1 g.met.C.Integral.exact_law in
    let not_less : value read.1 ≤ℤ value c.args.cost = rw c.if-lt.false at (lt_means (value c.args.cost) (value read.1) c.lt.result (c.lt.ensures ∙ ap (is_some_and is_lt) o)) in
    let cost : value read.1 ≡ value d = ap (λ (s : ℕ × g.row.C.Denot). value s.1) is in
    inl (refl, omega (arith, ints, not_less, cost))
