use Rattle.pf_search.proofs.LawLemmas.{agree, one_length, loops_of_one_length}
use Rattle.pf_search.proofs.LeastLemmas.{same_cost}
use Rattle.pf_search.proofs.laws.answers_agree.Goals as goal

pub returns : goal.returns
returns g c =
    let eq = g.N.PartialEq.eq in
    record {
      cheapest = λ edges starts test one other p q. agree _ _ _ _ (λ found h no. no found.0.items h.goes.goes) (λ found h no. no found.0.items h.goes.goes) (λ found also h k. same_cost eq edges starts test found.0.items also.0.items _ _ h k) one other p q;
      fewest = λ next starts test one other p q. agree _ _ _ _ (λ path h no. no path.items h.goes.goes) (λ path h no. no path.items h.goes.goes) (λ path also h k. one_length eq next starts test path.items also.items h k) one other p q;
      loops = λ next starts one other p q. agree _ _ _ _ (λ path h no. no path.items h.goes) (λ path h no. no path.items h.goes) (λ path also h k. loops_of_one_length eq next starts path.items also.items h k) one other p q;
    }
