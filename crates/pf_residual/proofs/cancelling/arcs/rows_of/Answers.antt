use Rattle.std.proofs.Common.{◌≡◌, ◌<◌, ◌∙◌, ◌∷◌, ◌++◌, [], ℕ, List, Some, slice_get, sym, ap, subst, length, take, get_or, arith}
use Rattle.std.specs.Prelude.{slice_set}
use Rattle.std.proofs.lemmas.List.{take_more, length-take-le, length-set}
use Rattle.std.proofs.lemmas.Option.{slice_get-get_or}
use Rattle.pf_base.proofs.ListLemmas.{at_place}
use Rattle.pf_residual.specs.declared.cancelling.arcs.Arc.{Arc}
use Rattle.pf_residual.specs.Internal.Cancelling.{AreRows}
use Rattle.pf_residual.proofs.SearchLemmas.{rows_begin, rows_more}
use Rattle.std.proofs.lemmas.Result.{IfOk-from_err}
use Rattle.pf_base.proofs.Outcomes.{refused_as, refused_by}
use Rattle.pf_residual.proofs.cancelling.arcs.rows_of.Goals as goal

abbrev none : Arc
none = record { from = 0; to = 0 }

pub arcs-init : goal.arcs-init
arcs-init g c = record { len = c.in_ok-rows.ensures.len; rows = rows_begin c.args.ends.now c.in_ok-rows.rows.items c.in_ok-rows.ensures.empty }

pub index_mut-requires : goal.index_mut-requires
index_mut-requires g c =
    let inside = c.requires.inside c.arcs.number (get_or c.args.ends.now c.arcs.number none) (slice_get-get_or c.args.ends.now c.arcs.number none c.arcs-test.true) in
    let l = inside.0 in
    omega (arith, l, c.arcs.invariant.len, c.arcs.rows.ok)

pub arcs-preserved : goal.arcs-preserved
arcs-preserved g c =
    let ends = c.args.ends.now in
    let i = c.arcs.number in
    let e = get_or ends i none in
    let rows = c.arcs.rows.items in
    let inside = c.requires.inside i e (slice_get-get_or ends i none c.arcs-test.true) in
    let l : e.from < length rows = let f = inside.0 in omega (arith, f, c.arcs.invariant.len) in
    let at : slice_get rows e.from ≡ Some c.index_mut.result.now = at_place rows e.from _ _ l (sym c.index_mut.ensures.value) in
    let long : length (take i ends) ≡ i = length-take-le i ends (omega (arith, c.arcs-test.true)) in
    let is : c.push.new.self.items ≡ c.index_mut.result.now.items ++ length (take i ends) ∷ [] = c.in_ok-push.ensures.items ∙ ap (λ (k : ℕ). c.index_mut.result.now.items ++ k ∷ []) (sym long) in
    record {
      len = length-set rows e.from c.push.new.self ∙ c.arcs.invariant.len;
      rows = subst (λ (es : List Arc). AreRows es (slice_set rows e.from c.push.new.self)) (sym (take_more ends i none c.arcs-test.true)) (rows_more (take i ends) rows e c.index_mut.result.now c.push.new.self at is c.arcs.invariant.rows);
    }

pub returns-in_err-rows : goal.returns-in_err-rows
returns-in_err-rows g c = record {
  len = IfOk-from_err _ _ c.from_residual.ensures.0;
  rows = IfOk-from_err _ _ c.from_residual.ensures.0;
  refused = refused_as _ c.from_residual.result _ c.from_residual.ensures.1 c.in_err-rows.ensures.refused;
}

pub returns-in_err-push : goal.returns-in_err-push
returns-in_err-push g c = record {
  len = IfOk-from_err _ _ c.from_residual-in_err-push.ensures.0;
  rows = IfOk-from_err _ _ c.from_residual-in_err-push.ensures.0;
  refused = refused_by _ c.from_residual-in_err-push.result c.from_residual-in_err-push.ensures.1;
}
