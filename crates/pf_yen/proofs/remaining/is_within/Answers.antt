use Rattle.std.proofs.Common.{◌≡◌, ◌∙◌, true≢false, sym, ap, subst}
use Rattle.std.specs.Prelude.{◌≤ℤ◌}
use Rattle.std.specs.Ordering.{is_some_and, is_lt}
use Rattle.pf_base.proofs.ListLemmas.{lt_means}
use Rattle.pf_yen.proofs.NamedLemmas.{none_some, some_same, not_less}
use Rattle.pf_yen.proofs.remaining.is_within.Goals as goal

pub returns-in_default : goal.returns-in_default
returns-in_default g c = λ _ y e. absurd (none_some y (sym c.in_default.is ∙ e))

pub returns-in-Some-here : goal.returns-in-Some-here
returns-in-Some-here g c = λ t y e.
    let value = g.C.Number.value in
    let exact = g.met.C.Integral.exact_law in
    let least = c.in-Some.least in
    let here = c.in-Some-here.here in
    let low = lt_means (value least) (value here) c.lt.result (c.lt.ensures ∙ ap (is_some_and is_lt) (g.met.C.Number.order_law least here exact)) in
    let same : least ≡ y = some_same least y (sym c.in-Some.is ∙ e) in
    (here, c.in-Some-here.is, subst (λ (z : g.row.C.Denot). value here ≤ℤ value z) same (not_less c.lt.result (value least) (value here) low t))

pub returns-in-None : goal.returns-in-None
returns-in-None g c = λ t. absurd (true≢false (sym t))
