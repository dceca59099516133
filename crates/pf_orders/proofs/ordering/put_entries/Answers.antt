use Rattle.std.proofs.Common.{◌∙◌, ◌++◌, ◌∷◌, [], refl, sym, ap, arith, take, take_all, get_or}
use Rattle.std.proofs.lemmas.List.{take_more, append_assoc}
use Rattle.pf_orders.specs.Internal.Orderings.{entries}
use Rattle.pf_base.proofs.Outcomes.{on_failed, refused_as}
use Rattle.pf_orders.proofs.OrderLemmas.{entries-append}
use Rattle.pf_orders.proofs.ordering.put_entries.Goals as goal

pub returns-in_err-reserve : goal.returns-in_err-reserve
returns-in_err-reserve g c =
    let r = c.from_residual in
    record {
      put = on_failed _ _ r.ensures.0;
      refused = refused_as _ r.result _ r.ensures.1 refl;
    }

pub returns-in_err-push : goal.returns-in_err-push
returns-in_err-push g c =
    let r = c.from_residual-in_err-push in
    record {
      put = on_failed _ _ r.ensures.0;
      refused = refused_as _ r.result _ r.ensures.1 refl;
    }

pub numbers-preserved : goal.numbers-preserved
numbers-preserved g c =
    let numbers = c.args.numbers.now in
    let i = c.numbers.number-index in
    let old = c.args.turns.now.items in
    let one = get_or numbers i 0 ∷ [] in
    c.in_ok-push.ensures.items ∙ ap (λ ts. ts ++ entries one) c.numbers.invariant ∙ append_assoc old (entries (take i numbers)) (entries one)
    ∙ ap (λ ts. old ++ ts) (sym (ap entries (take_more numbers i 0 c.numbers-test.true) ∙ entries-append (take i numbers) one))

pub returns : goal.returns
returns g c = record {
  put = c.numbers.invariant ∙ ap (λ ks. c.args.turns.now.items ++ entries ks) (take_all c.numbers.number-index c.args.numbers.now (omega (arith, c.numbers-test.false)));
  refused = tt;
}
