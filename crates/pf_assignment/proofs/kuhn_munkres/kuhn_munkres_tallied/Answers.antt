use Rattle.std.proofs.Common.{rules, ◌≡◌, ◌≤◌, ◌+◌, ◌∙◌, ap, subst, sym, ℕ, arith, length}
use Rattle.std.proofs.lemmas.Nat.{mul-le}
use Rattle.pf_assignment.specs.Assignments.{assignment_total}
use Rattle.pf_assignment.specs.Internal.AssignmentSteps.{IsWide}
use Rattle.pf_assignment.proofs.MatchingBest.{best_of, matched_none}
use Rattle.pf_base.proofs.Outcomes.{if_refused, refused_as}
use Rattle.pf_assignment.proofs.kuhn_munkres.kuhn_munkres_tallied.Goals as goal

refl_le : (n : ℕ) → n ≤ n
refl_le n = omega arith

more_le : (n k : ℕ) → n ≤ n + k
more_le n k = omega arith

pub loop-row-init : goal.loop-row-init
loop-row-init g c =
    let m = c.in_ok-matching.ensures in
    let t = c.in_ok-tree.ensures in
    record {
      matched = matched_none g.C.Number.value (g.W.Weights.table c.args.weights.now) _ _ _ _ m.rows (search rules) (search rules) (m.row_potentials ∙ sym m.rows) m.free m.zero;
      rows = m.rows;
      wide = subst (λ (n : ℕ). IsWide n c.in_ok-tree.tree) (search rules) t.wide;
      ticked = omega arith;
      rounds = omega arith;
    }

pub loop-row-preserved : goal.loop-row-preserved
loop-row-preserved g c =
    let i = c.loop-row.invariant in
    let e = c.in_ok-match_row.ensures in
    let more = e.ticked in
    let last = e.rounds in
    let ticked = i.ticked in
    let rounds = i.rounds in
    record {
      matched = e.matched;
      rows = e.rows ∙ ap (λ (n : ℕ). n + 1) i.rows;
      wide = e.wide;
      ticked = omega (arith, more, ticked);
      rounds = omega (arith, last, rounds);
    }

pub total_of-total-requires-clause-assignment : goal.total_of-total-requires-clause-assignment
total_of-total-requires-clause-assignment g c =
    let r = c.loop-row.invariant.rows in
    let e : length c.loop-row.matching.column_of.items ≡ (g.W.Weights.table c.args.weights.now).rows = omega (arith, r) in
    rw c.deref.ensures.value (best_of c.loop-row.invariant.matched e).assignment

pub match_row-requires-clause-next : goal.match_row-requires-clause-next
match_row-requires-clause-next g c =
    let r = c.loop-row.invariant.rows in
    record { matched = c.loop-row.invariant.matched; left = omega (arith, r); shape = c.requires.shape; fit = c.requires.weights_fit }

pub returns-in_err-matching : goal.returns-in_err-matching
returns-in_err-matching g c = record {
  assignment = if_refused _ c.from_residual.result _ c.from_residual.ensures.1;
  total = if_refused _ c.from_residual.result _ c.from_residual.ensures.1;
  best = if_refused _ c.from_residual.result _ c.from_residual.ensures.1;
  refused = refused_as _ c.from_residual.result _ c.from_residual.ensures.1 c.in_err-matching.ensures.refused;
  ticked = refl_le _;
  rounds = more_le _ _;
}

pub returns-in_err-tree : goal.returns-in_err-tree
returns-in_err-tree g c = record {
  assignment = if_refused _ c.from_residual-in_err-tree.result _ c.from_residual-in_err-tree.ensures.1;
  total = if_refused _ c.from_residual-in_err-tree.result _ c.from_residual-in_err-tree.ensures.1;
  best = if_refused _ c.from_residual-in_err-tree.result _ c.from_residual-in_err-tree.ensures.1;
  refused = refused_as _ c.from_residual-in_err-tree.result _ c.from_residual-in_err-tree.ensures.1 c.in_err-tree.ensures.refused;
  ticked = refl_le _;
  rounds = more_le _ _;
}

pub returns-in_err-match_row : goal.returns-in_err-match_row
returns-in_err-match_row g c =
    let rows = (g.W.Weights.table c.args.weights.now).rows in
    let most = mul-le (c.loop-row._row + 1) rows rows rows (omega arith) (refl_le _) in
    let before = c.loop-row.invariant.rounds in
    let last = c.in_err-match_row.ensures.rounds in
    let ticked = c.loop-row.invariant.ticked in
    let more = c.in_err-match_row.ensures.ticked in
    record {
      assignment = if_refused _ c.from_residual-in_err-match_row.result _ c.from_residual-in_err-match_row.ensures.1;
      total = if_refused _ c.from_residual-in_err-match_row.result _ c.from_residual-in_err-match_row.ensures.1;
      best = if_refused _ c.from_residual-in_err-match_row.result _ c.from_residual-in_err-match_row.ensures.1;
      refused = refused_as _ c.from_residual-in_err-match_row.result _ c.from_residual-in_err-match_row.ensures.1 c.in_err-match_row.ensures.refused;
      ticked = omega (arith, ticked, more);
      rounds = omega (arith, most, before, last);
    }

pub returns : goal.returns
returns g c = record {
  total = c.total_of-total.ensures ∙ ap (assignment_total (g.W.Weights.table c.args.weights.now)) c.deref.ensures.value;
  assignment =
      let r = c.loop-row.invariant.rows in
      let e : length c.loop-row.matching.column_of.items ≡ (g.W.Weights.table c.args.weights.now).rows = omega (arith, r) in
      (best_of c.loop-row.invariant.matched e).assignment;
  best =
      let r = c.loop-row.invariant.rows in
      let e : length c.loop-row.matching.column_of.items ≡ (g.W.Weights.table c.args.weights.now).rows = omega (arith, r) in
      best_of c.loop-row.invariant.matched e;
  ticked = c.loop-row.invariant.ticked;
  rounds =
      let rows = (g.W.Weights.table c.args.weights.now).rows in
      let most = mul-le c.loop-row._row rows rows rows (omega arith) (refl_le _) in
      let before = c.loop-row.invariant.rounds in
      omega (arith, most, before);
  refused = tt;
}
