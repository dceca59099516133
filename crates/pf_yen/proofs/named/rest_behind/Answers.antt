use Rattle.std.proofs.Common.{◌∙◌, sym, ap, Some}
use Rattle.std.specs.Ordering.{is_some_and, is_lt}
use Rattle.pf_base.proofs.ListLemmas.{lt_means}
use Rattle.pf_yen.proofs.NamedLemmas.{not_above}
use Rattle.pf_yen.proofs.named.rest_behind.Goals as goal

pub returns-else-lt : goal.returns-else-lt
returns-else-lt g c = tt

pub returns-then-is_new : goal.returns-then-is_new
returns-then-is_new g c = λ steps edge.
    let value = g.C.Number.value in
    let exact = g.met.C.Integral.exact_law in
    let rest = c.in_ok-rest.rest in
    let sum = c.in_ok-sum.sum in
    let adds = g.met.C.CheckedAdd.checked_add_law c.args.price rest (Some sum) (rw c.in_ok-sum.was at c.checked_add.ensures) in
    let same = (g.met.C.Number.eq_law sum c.args.here exact).0 (sym c.eq.ensures ∙ c.if-eq.true) in
    let low = lt_means (value rest) (value c.args.here) c.lt.result (c.lt.ensures ∙ ap (is_some_and is_lt) (g.met.C.Number.order_law rest c.args.here exact)) in
    record {
      new = sym c.is_new.ensures ∙ c.if-is_new.true;
      price = c.args.price;
      edge = edge;
      known = rw c.in_ok-rest.was at c.cost_at.ensures;
      is = sym same ∙ adds.1;
      less = not_above (value rest) (value c.args.here) c.lt.result c.if-lt.true low;
    }
