use Rattle.std.proofs.Common.{nat_eq, true, ◌≡◌, sym, subst}
use Rattle.pf_base.proofs.Callers.{nat_refl}
use Rattle.test_orders_and_estimates.proofs.yen.listed.walk.Goals as goal

pub steps_of-requires : goal.steps_of-requires
steps_of-requires g c =
    let r = c.requires in
    ((λ x y e. subst (λ z. nat_eq x z ≡ true) (sym e) (nat_refl x)), (r.0, 0, r.1, c.in-Ok.ensures.graph r.0 r.1 r.2))
