use Rattle.std.proofs.Common.{◌<◌, sym, subst, refl, length, Option, false, ℕ, ◌≡◌, ◌∙◌, ◌≤◌}
use Rattle.std.proofs.lemmas.List.{length-set}
use Rattle.std.proofs.lemmas.Result.{IfOk-from_err}
use Rattle.std.specs.Prelude.{slice_set}
use Rattle.pf_core.specs.declared.labels.Label.{Label}
use Rattle.pf_core.specs.Search.{IsSound}
use Rattle.pf_core.specs.Labels.{Labels, settled_count}
use Rattle.pf_core.proofs.LabelLemmas.{none_widened, first_there, only_first, tree_start}
use Rattle.pf_core.proofs.QueueLemmas.{IsQueue-none, IsQueue-lower}
use Rattle.pf_base.proofs.Outcomes.{refused_as}
use Rattle.pf_core.proofs.ReadLemmas.{least_zero, none_settled}
use Rattle.pf_core.proofs.search.Search.begin.Goals as goal

pub widen-requires : goal.widen-requires
widen-requires g c = subst (λ (ls : Labels g.row.C.Denot). length ls ≤ c.args.found) (sym c.new-labels.ensures.items) (least_zero c.args.found)

pub returns-in_err-widen : goal.returns-in_err-widen
returns-in_err-widen g c = record {
  sound = IfOk-from_err _ _ c.from_residual.ensures.0;
  wide = IfOk-from_err _ _ c.from_residual.ensures.0;
  first = IfOk-from_err _ _ c.from_residual.ensures.0;
  only = IfOk-from_err _ _ c.from_residual.ensures.0;
  none = IfOk-from_err _ _ c.from_residual.ensures.0;
  refused = refused_as _ c.from_residual.result c.in_err-widen.field-0.0 c.from_residual.ensures.1 c.in_err-widen.ensures.refused;
}

pub index_mut-requires : goal.index_mut-requires
index_mut-requires g c = subst (λ (n : ℕ). c.args.start < n) (sym (c.widen.new.labels.ok.0 ∙ c.in_ok-widen.ensures.widened.len)) c.requires

pub returns-in_err-reserve : goal.returns-in_err-reserve
returns-in_err-reserve g c = record {
  sound = IfOk-from_err _ _ c.from_residual-in_err-reserve.ensures.0;
  wide = IfOk-from_err _ _ c.from_residual-in_err-reserve.ensures.0;
  first = IfOk-from_err _ _ c.from_residual-in_err-reserve.ensures.0;
  only = IfOk-from_err _ _ c.from_residual-in_err-reserve.ensures.0;
  none = IfOk-from_err _ _ c.from_residual-in_err-reserve.ensures.0;
  refused = refused_as _ c.from_residual-in_err-reserve.result c.in_err-reserve.field-0.0 c.from_residual-in_err-reserve.ensures.1 c.in_err-reserve.ensures.refused;
}

pub returns : goal.returns
returns g c = record {
  sound =
      let first : Label g.row.C.Denot = record { cost = c.zero-nothing.result; parent = 0; depth = 0; settled = false } in
      let wider = c.widen.new.labels.items in
      let none = none_widened c.args.found _ wider c.new-labels.ensures.items c.in_ok-widen.ensures.widened in
      let inside : c.args.start < length wider = subst (λ (n : ℕ). c.args.start < n) (sym c.in_ok-widen.ensures.widened.len) c.requires in
      subst (λ (o : Option (Label g.row.C.Denot)). IsSound g.C.Number.value (slice_set wider c.args.start o) c.push.new.self.items) (sym c.first.ensures)
      (record {
        tree = tree_start wider none c.args.start first inside refl;
        queue = IsQueue-lower g.C.Number.value wider c.args.start first refl inside (λ l h. absurd (none c.args.start l h)) _ _ (IsQueue-none g.C.Number.value wider _ (c.in_ok-reserve.ensures.same.0 ∙ c.new-queue.ensures.empty) none) c.push.ensures.added;
      });
  first =
      let first : Label g.row.C.Denot = record { cost = g.C.Zero.zero; parent = 0; depth = 0; settled = false } in
      let wider = c.widen.new.labels.items in
      let none = none_widened c.args.found _ wider c.new-labels.ensures.items c.in_ok-widen.ensures.widened in
      let inside : c.args.start < length wider = subst (λ (n : ℕ). c.args.start < n) (sym c.in_ok-widen.ensures.widened.len) c.requires in
      rw (c.first.ensures, c.zero-nothing.ensures) (first_there wider none c.args.start first inside);
  only =
      let first : Label g.row.C.Denot = record { cost = g.C.Zero.zero; parent = 0; depth = 0; settled = false } in
      let wider = c.widen.new.labels.items in
      let none = none_widened c.args.found _ wider c.new-labels.ensures.items c.in_ok-widen.ensures.widened in
      let inside : c.args.start < length wider = subst (λ (n : ℕ). c.args.start < n) (sym c.in_ok-widen.ensures.widened.len) c.requires in
      rw (c.first.ensures, c.zero-nothing.ensures) (only_first wider none c.args.start first inside);
  wide = length-set c.widen.new.labels.items c.args.start c.first.result ∙ c.in_ok-widen.ensures.widened.len;
  none =
      let first : Label g.row.C.Denot = record { cost = c.zero-nothing.result; parent = 0; depth = 0; settled = false } in
      let inside : c.args.start < length c.widen.new.labels.items = subst (λ (n : ℕ). c.args.start < n) (sym c.in_ok-widen.ensures.widened.len) c.requires in
      subst (λ (o : Option (Label g.row.C.Denot)). settled_count (slice_set c.widen.new.labels.items c.args.start o) ≡ 0) (sym c.first.ensures)
      (none_settled g.C.Number.value c.args.found c.args.start c.new-labels.result.items c.widen.new.labels.items first c.new-labels.ensures.items c.in_ok-widen.ensures.widened refl inside);
  refused = tt;
}
