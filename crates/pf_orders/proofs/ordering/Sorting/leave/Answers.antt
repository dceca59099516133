use Rattle.std.proofs.Common.{refl}
use Rattle.pf_base.proofs.Outcomes.{on_failed, refused_as}
use Rattle.pf_orders.proofs.ordering.Sorting.leave.Goals as goal

pub returns-in_err-push : goal.returns-in_err-push
returns-in_err-push g c =
    let r = c.from_residual in
    record {
      marks = on_failed _ _ r.ensures.0;
      left = on_failed _ _ r.ensures.0;
      turns = refl;
      refused = refused_as _ r.result _ r.ensures.1 refl;
    }

pub returns : goal.returns
returns g c = record {
  marks = refl;
  left = c.in_ok-push.ensures.items;
  turns = refl;
  refused = tt;
}
