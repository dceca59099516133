use Rattle.std.proofs.Common.{◌≡◌, ◌+◌, ◌∙◌, ◌∷◌, [], sym, subst, ap, arith, length, true, length-append}
use Rattle.std.specs.Prelude.{◌↔◌}
use Rattle.std.specs.Borrow.{Bor}
use Rattle.std.specs.HashSet.{contains}
use Rattle.pf_union_find.specs.Rows.{HasItem}
use Rattle.pf_components.specs.Internal.DisjointSets.{HaveSets}
use Rattle.pf_components.proofs.CollectLemmas.{HaveSets-more}
use Rattle.pf_components.proofs.node_sets.collect_sets.Goals as goal

pub loop-row-preserved : goal.loop-row-preserved
loop-row-preserved g c =
    let eq = g.N.PartialEq.eq in
    let rows = c.args.rows.now in
    let row = c.loop-row.row in
    let sets = c.loop-row.sets.items in
    let set = c.in_ok-set_of.field-0 in
    let all = c.row.ensures.items in
    let made = c.in_ok-set_of.ensures.members in
    let is : (x : g.row.N.Denot) → (contains eq set x ≡ true) ↔ ((m : Bor g.row.N.Denot) × HasItem rows row m × (eq m.now x ≡ true))
    = λ x. (λ e. let m = (made x).0 e in (m.0, (all m.0).0 m.1, m.2), λ m. (made x).1 (m.0, (all m.0).1 m.1, m.2)) in
    record {
      len = let long = length-append sets (set ∷ []) in ap length c.in_ok-push.ensures.items ∙ omega (arith, long, c.loop-row.invariant.len);
      collected = subst (λ sets. HaveSets eq (contains eq) rows sets) (sym c.in_ok-push.ensures.items) (HaveSets-more eq (contains eq) rows sets row set c.loop-row.invariant.len is c.loop-row.invariant.collected);
    }
