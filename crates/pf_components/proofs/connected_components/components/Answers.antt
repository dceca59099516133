use Rattle.std.proofs.Common.{Result, Ok, Err, IfOk}
use Rattle.std.proofs.lemmas.Result.{IfOk-weaker}
use Rattle.pf_components.proofs.CollectLemmas.{are_components}
use Rattle.pf_components.proofs.connected_components.components.Goals as goal

both : {T E : Type 0} (r : Result T E) (P Q : T → Type 0) → IfOk r P → IfOk r Q → IfOk r (λ x. P x × Q x)
both (Ok x) P Q p q = (p, q)
both (Err e) P Q p q = tt

pub returns : goal.returns
returns g c = record {
  components =
      let rows = c.in_ok-rows.rows in
      let r = c.in_ok-rows.ensures.rows in
      let p = r.3 in
      IfOk-weaker c.collect_sets.result _ _ (λ sets h. are_components g.met.N.Eq.laws c.args.groups.now r.0 r.1 p.0 p.1 r.2 p.2 p.3 p.4 rows r.4 sets.items h.0 h.1) (both c.collect_sets.result _ _ c.collect_sets.ensures.len c.collect_sets.ensures.collected);
  refused = c.collect_sets.ensures.refused;
}
