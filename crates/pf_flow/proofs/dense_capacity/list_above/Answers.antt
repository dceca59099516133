use Rattle.std.proofs.Common.{◌≡◌, ◌∙◌, ◌∷◌, [], sym, ap, subst, map, ◌<◌, ◌+◌, ℕ, List, pos, arith}
use Rattle.std.proofs.lemmas.List.{map-append}
use Rattle.std.specs.Prelude.{◌<ℤ◌, ◌≤ℤ◌}
use Rattle.pf_residual.specs.Listings.{ListsVertices}
use Rattle.pf_residual.specs.DenseStores.{table_number}
use Rattle.pf_residual.proofs.DenseLemmas.{number_inside}
use Rattle.pf_residual.proofs.StoreListings.{vertices_none, vertices_more, vertices_same, never_above}
use Rattle.pf_base.proofs.Outcomes.{refused_by}
use Rattle.std.proofs.lemmas.Result.{IfOk-from_err}
use Rattle.pf_flow.proofs.dense_capacity.list_above.Goals.{then-is_below+in_ok-push, else-is_below}
use Rattle.pf_flow.proofs.dense_capacity.list_above.Goals as goal

pub loop-to-preserved : goal.loop-to-preserved
loop-to-preserved g c =
    let value = g.C.Number.value in
    let m = c.args.table.now in
    let t = table_number value m.rows m c.args.from in
    let k = c.loop-to.to in
    let zero = ap value c.zero.ensures ∙ g.met.C.Zero.zero_law g.met.C.Integral.exact_law in
    let below : k < m.rows = omega (arith, c.rows-to-end.ensures.rows) in
    let number = c.number_at.ensures ∙ sym (number_inside value m.rows m c.args.from k c.requires.inside below) in
    let list = c.loop-to.list.items in
    let Listed = λ (ends : List ℕ). ListsVertices (k + 1) (λ to. pos 0 <ℤ t to) ends in
    elim c.if-is_below.branch as (λ _. ListsVertices (k + 1) (λ to. pos 0 <ℤ t to) (map (λ end. end.0) c.if-is_below.list.items)) [
      | then-is_below+in_ok-push w ↦
          subst Listed (sym (ap (λ v. map (λ (end : ℕ × ℕ). end.0) v.items) w.list-is ∙ ap (map (λ (end : ℕ × ℕ). end.0)) w.in_ok-push.ensures.items ∙ map-append (λ (end : ℕ × ℕ). end.0) list ((k, 0) ∷ [])))
          (vertices_more (λ to. pos 0 <ℤ t to) k (map (λ end. end.0) list) (subst (λ z. pos 0 <ℤ z) number (subst (λ z. z <ℤ value c.number_at.result) zero w.if-is_below.ensures)) c.loop-to.invariant)
      | else-is_below w ↦
          subst Listed (sym (ap (λ v. map (λ (end : ℕ × ℕ). end.0) v.items) w.list-is))
          (vertices_same (λ to. pos 0 <ℤ t to) k (map (λ end. end.0) list) (never_above _ (subst (λ z. z ≤ℤ pos 0) number (subst (λ z. value c.number_at.result ≤ℤ z) zero w.if-is_below.ensures))) c.loop-to.invariant)
    ]

pub returns-clause-listed : goal.returns-clause-listed
returns-clause-listed g c =
    let m = c.args.table.now in
    let done : c.loop-to.to ≡ m.rows = omega (arith, c.rows-to-end.ensures.rows) in
    subst (λ k. ListsVertices k (λ to. pos 0 <ℤ table_number g.C.Number.value m.rows m c.args.from to) (map (λ end. end.0) c.loop-to.list.items)) done c.loop-to.invariant

pub returns-in_err-push-clause-listed : goal.returns-in_err-push-clause-listed
returns-in_err-push-clause-listed g c = IfOk-from_err _ _ c.from_residual.ensures.0

pub returns-in_err-push-clause-refused : goal.returns-in_err-push-clause-refused
returns-in_err-push-clause-refused g c = refused_by _ c.from_residual.result c.from_residual.ensures.1

pub loop-to-init : goal.loop-to-init
loop-to-init g c =
    let t = table_number g.C.Number.value c.args.table.now.rows c.args.table.now c.args.from in
    subst (λ (ends : List (ℕ × ℕ)). ListsVertices 0 (λ to. pos 0 <ℤ t to) (map (λ end. end.0) ends)) (sym c.clear.ensures.items) (vertices_none (λ to. pos 0 <ℤ t to))

pub number_at-requires-clause-matrix : goal.number_at-requires-clause-matrix
number_at-requires-clause-matrix g c = c.requires.square.matrix

pub number_at-requires-clause-inside : goal.number_at-requires-clause-inside
number_at-requires-clause-inside g c =
    let below : c.loop-to.to < c.args.table.now.rows = omega (arith, c.rows-to-end.ensures.rows) in
    (c.requires.inside, subst (λ n. c.loop-to.to < n) (sym c.requires.square.columns) below)

pub loop-to-smaller : goal.loop-to-smaller
loop-to-smaller g c = omega (arith, c.loop-to-test.true)

pub returns-clause-refused : goal.returns-clause-refused
returns-clause-refused g c = tt
