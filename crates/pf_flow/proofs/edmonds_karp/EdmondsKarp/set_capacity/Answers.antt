use Rattle.pf_base.proofs.Outcomes.{on_ok}
use Rattle.pf_flow.proofs.edmonds_karp.EdmondsKarp.set_capacity.Goals as goal

pub returns : goal.returns
returns g c =
    let e = c.change_capacity.ensures in
    let r = c.change_capacity.result in
    record {
      network = e.network;
      changed = on_ok r e.changed (λ h. h.changed);
      kept = on_ok r e.changed (λ h. h.kept);
      total = on_ok r e.changed (λ h. h.total);
      excess = on_ok r e.changed (λ h. h.excess);
      unchanged = e.unchanged;
      refused = e.refused;
    }
