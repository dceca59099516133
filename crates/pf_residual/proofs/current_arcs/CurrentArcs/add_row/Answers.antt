use Rattle.std.proofs.Common.{sym, subst, length, get_or, arith, List, ℕ}
use Rattle.std.proofs.lemmas.Option.{slice_get-get_or}
use Rattle.pf_residual.specs.Internal.CurrentArcs.{AreArcs}
use Rattle.pf_residual.proofs.ArcLemmas.{placed, targeted, ended}
use Rattle.std.proofs.lemmas.Result.{IfOk-from_err}
use Rattle.pf_base.proofs.Outcomes.{refused_by}
use Rattle.pf_residual.proofs.current_arcs.CurrentArcs.add_row.Goals as goal
use Rattle.pf_residual.proofs.current_arcs.CurrentArcs.add_row.Goals.{then-levels-to+in_ok-push, else-levels-to}

pub loop-end-preserved : goal.loop-end-preserved
loop-end-preserved g c =
    let n = length c.args.levels.now in
    let end = get_or c.args.list.now c.loop-end.end-index (0, 0) in
    let inside = c.requires.inside c.loop-end.end-index end (slice_get-get_or c.args.list.now c.loop-end.end-index (0, 0) c.loop-end-test.true) in
    elim c.if-levels-to.branch as (λ _. AreArcs n c.if-levels-to.self.targets.items c.if-levels-to.self.places.items c.if-levels-to.self.ends.items) [
      | then-levels-to+in_ok-push w ↦
          subst (λ s. AreArcs n s.targets.items s.places.items s.ends.items) (sym w.self-is)
          (subst (λ (xs : List (ℕ × ℕ)). AreArcs n xs c.loop-end.self.places.items c.loop-end.self.ends.items) (sym w.in_ok-push.ensures.items) (targeted c.loop-end.invariant end inside))
      | else-levels-to w ↦ subst (λ s. AreArcs n s.targets.items s.places.items s.ends.items) (sym w.self-is) c.loop-end.invariant
    ]

pub returns-clause-arcs : goal.returns-clause-arcs
returns-clause-arcs g c =
    let e = c.len-2.ensures in
    let o = c.loop-end.self.targets.ok in
    ended c.loop-end.invariant c.args.from c.len-2.result c.requires.from (omega (arith, e, o))

pub index_mut-requires : goal.index_mut-requires
index_mut-requires g c = omega (arith, c.requires.from, c.requires.arcs.places_len, c.args.self.now.places.ok)

pub loop-end-init : goal.loop-end-init
loop-end-init g c = placed c.requires.arcs c.args.from c.len.result

pub bounds-list-end-index : goal.bounds-list-end-index
bounds-list-end-index g c = c.loop-end-test.true

pub bounds-levels-to : goal.bounds-levels-to
bounds-levels-to g c = c.requires.inside c.loop-end.end-index (get_or c.args.list.now c.loop-end.end-index (0, 0)) (slice_get-get_or c.args.list.now c.loop-end.end-index (0, 0) c.loop-end-test.true)

pub offset_bounds-levels-to : goal.offset_bounds-levels-to
offset_bounds-levels-to g c =
    let end = get_or c.args.list.now c.loop-end.end-index (0, 0) in
    let inside = c.requires.inside c.loop-end.end-index end (slice_get-get_or c.args.list.now c.loop-end.end-index (0, 0) c.loop-end-test.true) in
    omega (arith, inside)

pub loop-end-smaller : goal.loop-end-smaller
loop-end-smaller g c = omega arith

pub index_mut-requires-2 : goal.index_mut-requires-2
index_mut-requires-2 g c = omega (arith, c.requires.from, c.loop-end.invariant.ends_len, c.loop-end.self.ends.ok)

pub returns-in_err-push-clause-arcs : goal.returns-in_err-push-clause-arcs
returns-in_err-push-clause-arcs g c = IfOk-from_err _ _ c.from_residual.ensures.0

pub returns-in_err-push-clause-refused : goal.returns-in_err-push-clause-refused
returns-in_err-push-clause-refused g c = refused_by _ c.from_residual.result c.from_residual.ensures.1
