use Rattle.std.proofs.Common.{◌≡◌, ◌∙◌, refl, ap, inl, Err, replicate}
use Rattle.std.proofs.lemmas.Result.{IfOk-from_err}
use Rattle.pf_orders.proofs.ComponentLists.{resized_none}
use Rattle.pf_base.proofs.Outcomes.{error_of, none_unknown, ok_not_err, refused_as}
use Rattle.pf_core.proofs.SearchLemmas.{Grows-refl}
use Rattle.pf_orders.proofs.rows.read_rows.Goals as goal

pub fill_rows-requires-clause-graph : goal.fill_rows-requires-clause-graph
fill_rows-requires-clause-graph g c = c.requires.graph

pub fill_rows-requires-clause-begins : goal.fill_rows-requires-clause-begins
fill_rows-requires-clause-begins g c = c.requires.begins

pub fill_rows-requires-clause-unread : goal.fill_rows-requires-clause-unread
fill_rows-requires-clause-unread g c =
    let zeros : c.resize.new.self.items ≡ replicate c.node_count-count.result 0 = resized_none c.node_count-count.result _ c.new-counts.result.items _ 0 c.in_ok-resize.ensures.items c.new-counts.ensures.items c.new-counts.ensures.len in
    (c.in_ok-rows.ensures.items, zeros ∙ ap (λ n. replicate n 0) c.node_count-count.ensures)

pub returns-in_err-fill_rows : goal.returns-in_err-fill_rows
returns-in_err-fill_rows g c = record {
  graph = c.in_err-fill_rows.ensures.graph;
  grows = c.in_err-fill_rows.ensures.grows;
  read = IfOk-from_err _ _ c.from_residual-in_err-fill_rows.ensures.0;
  listed = λ h x. IfOk-from_err _ _ c.from_residual-in_err-fill_rows.ensures.0;
  unknown = λ h x u. c.in_err-fill_rows.ensures.unknown h x (ap Err (error_of _ _ _ c.from_residual-in_err-fill_rows.ensures.1 u));
  errors = refused_as _ _ _ c.from_residual-in_err-fill_rows.ensures.1 c.in_err-fill_rows.ensures.errors;
}

pub returns-in_err-rows : goal.returns-in_err-rows
returns-in_err-rows g c =
    let r = c.from_residual in
    record {
      graph = λ h x. x;
      grows = Grows-refl _ _;
      read = IfOk-from_err _ _ r.ensures.0;
      listed = λ h x. IfOk-from_err _ _ r.ensures.0;
      unknown = λ h x u. absurd (none_unknown r.result r.ensures.1 u);
      errors = refused_as _ r.result _ r.ensures.1 (inl refl);
    }

pub returns-in_err-resize : goal.returns-in_err-resize
returns-in_err-resize g c =
    let r = c.from_residual-in_err-resize in
    record {
      graph = λ h x. x;
      grows = Grows-refl _ _;
      read = IfOk-from_err _ _ r.ensures.0;
      listed = λ h x. IfOk-from_err _ _ r.ensures.0;
      unknown = λ h x u. absurd (none_unknown r.result r.ensures.1 u);
      errors = refused_as _ r.result _ r.ensures.1 (inl refl);
    }

pub returns : goal.returns
returns g c =
    let e = c.in_ok-fill_rows.ensures in
    record {
      graph = e.graph;
      grows = e.grows;
      read = e.read;
      listed = e.listed;
      unknown = λ h x u. absurd (ok_not_err u);
      errors = tt;
    }
