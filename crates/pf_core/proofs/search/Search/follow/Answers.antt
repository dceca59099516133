use Rattle.std.proofs.Common.{◌≡◌, ◌<◌, ◌≤◌, ◌∙◌, subst, sym, ℕ, refl, inl, inr}
use Rattle.std.proofs.lemmas.Result.{IfOk-from_err}
use Rattle.std.specs.Prelude.{◌+ℤ◌}
use Rattle.std.proofs.lemmas.List.{take_at}
use Rattle.pf_core.specs.declared.labels.Label.{Label}
use Rattle.pf_core.specs.Labels.{by_cost, Follows}
use Rattle.pf_core.specs.Queue.{IsQueue}
use Rattle.pf_core.proofs.LabelLemmas.{HasLabel-inside, label_is}
use Rattle.pf_core.proofs.TurnLemmas.{least_is, len_settled, queue_settled, follows, follows_row, tree_followed}
use Rattle.pf_base.proofs.Outcomes.{no_overflow, ok_not_err, on_err, refused_as}
use Rattle.pf_core.proofs.ReadLemmas.{within_found, same_row, IsSound-still}
use Rattle.pf_core.proofs.search.Search.follow.Goals as goal

pub settle-requires : goal.settle-requires
settle-requires g c = (c.label_of-label.result, c.in_ok-widen.ensures.widened.stays c.args.number c.label_of-label.result c.label_of-label.ensures)

pub relax-requires-clause-inside : goal.relax-requires-clause-inside
relax-requires-clause-inside g c = λ j d h.
    let l = c.label_of-label.result in
    let w = c.in_ok-widen.ensures.widened in
    let z = least_is (by_cost g.C.Number.value) c.args.self.now.labels.items c.args.number c.requires.least.0 l c.requires.least.1 c.label_of-label.ensures in
    let is = c.settle.ensures l (w.stays c.args.number l c.label_of-label.ensures) in
    let row = same_row _ _ _ c.deref_mut.ensures.value c.sums_fit.ensures.same in
    let whole : c.deref-2.result.now ≡ c.sums_fit.new.row = c.deref-2.ensures.value ∙ take_at c.sums_fit.new.row _ _ (c.sums_fit.ensures.len ∙ c.deref_mut.ensures.len) in
    subst (λ (n : ℕ). j < n) (sym (len_settled g.C.Number.value c.args.number l c.args.self.now.labels.items _ _ z c.args.found w is)) (c.requires.ends j d ((row (j, d)).0 (rw whole at h)))

pub relax-requires-clause-few : goal.relax-requires-clause-few
relax-requires-clause-few g c =
    let l = c.label_of-label.result in
    let w = c.in_ok-widen.ensures.widened in
    let z = least_is (by_cost g.C.Number.value) c.args.self.now.labels.items c.args.number c.requires.least.0 l c.requires.least.1 c.label_of-label.ensures in
    let is = c.settle.ensures l (w.stays c.args.number l c.label_of-label.ensures) in
    subst (λ (n : ℕ). n ≤ 4294967296) (sym (len_settled g.C.Number.value c.args.number l c.args.self.now.labels.items _ _ z c.args.found w is)) c.in_ok-widen.ensures.few

pub relax-requires-clause-parent : goal.relax-requires-clause-parent
relax-requires-clause-parent g c =
    let l = c.label_of-label.result in
    let w = c.in_ok-widen.ensures.widened in
    let z = least_is (by_cost g.C.Number.value) c.args.self.now.labels.items c.args.number c.requires.least.0 l c.requires.least.1 c.label_of-label.ensures in
    let is = c.settle.ensures l (w.stays c.args.number l c.label_of-label.ensures) in
    within_found _ _ _ _ (HasLabel-inside c.args.self.now.labels.items c.args.number l c.label_of-label.ensures) c.requires.wide (len_settled g.C.Number.value c.args.number l c.args.self.now.labels.items _ _ z c.args.found w is)

pub relax-requires-clause-queue : goal.relax-requires-clause-queue
relax-requires-clause-queue g c =
    let l = c.label_of-label.result in
    let w = c.in_ok-widen.ensures.widened in
    let z = least_is (by_cost g.C.Number.value) c.args.self.now.labels.items c.args.number c.requires.least.0 l c.requires.least.1 c.label_of-label.ensures in
    let is = c.settle.ensures l (w.stays c.args.number l c.label_of-label.ensures) in
    subst (IsQueue g.C.Number.value c.settle.new.labels.items) (sym c.in_ok-reserve.ensures.same.0) (queue_settled g.C.Number.value c.args.number l c.args.self.now.labels.items _ _ z c.args.found w is _ c.requires.sound.queue)

pub label_of-label-requires : goal.label_of-label-requires
label_of-label-requires g c = (c.requires.least.0, c.requires.least.1.at)

pub returns-then-not-sums_fit : goal.returns-then-not-sums_fit
returns-then-not-sums_fit g c = record {
  overflow = λ e l h.
      let o = rw c.deref.ensures.value at c.if-not-sums_fit.ensures.reached in
      let row = same_row _ _ _ c.deref_mut.ensures.value c.sums_fit.ensures.same in
      let same : c.label_of-label.result ≡ l = label_is c.args.self.now.labels.items c.args.number c.label_of-label.result l c.label_of-label.ensures h in
      (o.0, o.1, (row (o.0, o.1)).0 o.2, o.3, λ d k. subst (λ (n : Label g.row.C.Denot). ¬ (g.C.Number.fits (g.C.Number.value n.cost +ℤ g.C.Number.value d))) same (o.4 d ((row (o.0, d)).1 k)));
  sound = c.requires.sound;
  wide = tt;
  followed = tt;
  kept = (refl, refl, refl);
  errors = inr refl;
}

pub returns-in_err-reserve : goal.returns-in_err-reserve
returns-in_err-reserve g c = record {
  sound = IsSound-still g.C.Number.value _ _ _ _ refl c.in_err-reserve.ensures.same.0 c.requires.sound;
  wide = IfOk-from_err _ _ c.from_residual.ensures.0;
  followed = IfOk-from_err _ _ c.from_residual.ensures.0;
  kept = on_err c.from_residual.result (refl, c.in_err-reserve.ensures.same.0, c.in_err-reserve.ensures.same.1);
  overflow = λ e. absurd (no_overflow c.from_residual.result c.in_err-reserve.field-0.0 c.from_residual.ensures.1 c.in_err-reserve.ensures.refused e);
  errors = refused_as _ c.from_residual.result c.in_err-reserve.field-0.0 c.from_residual.ensures.1 (inl c.in_err-reserve.ensures.refused);
}

pub widen-requires : goal.widen-requires
widen-requires g c = c.requires.wide

pub returns-in_err-widen : goal.returns-in_err-widen
returns-in_err-widen g c = record {
  sound = IsSound-still g.C.Number.value _ _ _ _ c.in_err-widen.ensures.kept c.in_ok-reserve.ensures.same.0 c.requires.sound;
  wide = IfOk-from_err _ _ c.from_residual-in_err-widen.ensures.0;
  followed = IfOk-from_err _ _ c.from_residual-in_err-widen.ensures.0;
  kept = on_err c.from_residual-in_err-widen.result (c.in_err-widen.ensures.kept, c.in_ok-reserve.ensures.same.0, c.in_ok-reserve.ensures.same.1);
  overflow = λ e. absurd (no_overflow c.from_residual-in_err-widen.result c.in_err-widen.field-0.0 c.from_residual-in_err-widen.ensures.1 c.in_err-widen.ensures.refused e);
  errors = refused_as _ c.from_residual-in_err-widen.result c.in_err-widen.field-0.0 c.from_residual-in_err-widen.ensures.1 (inl c.in_err-widen.ensures.refused);
}

pub returns : goal.returns
returns g c =
    let l = c.label_of-label.result in
    let w = c.in_ok-widen.ensures.widened in
    let z = least_is (by_cost g.C.Number.value) c.args.self.now.labels.items c.args.number c.requires.least.0 l c.requires.least.1 c.label_of-label.ensures in
    let is = c.settle.ensures l (w.stays c.args.number l c.label_of-label.ensures) in
    record {
      sound =
          let whole : c.deref-2.result.now ≡ c.sums_fit.new.row = c.deref-2.ensures.value ∙ take_at c.sums_fit.new.row _ _ (c.sums_fit.ensures.len ∙ c.deref_mut.ensures.len) in
          let ends = rw c.deref.ensures.value at c.if-not-sums_fit.ensures.reached in
          let f = follows g.C.Number.value c.args.number l c.args.self.now.labels.items _ _ z c.args.found w is g.C.Number.fits c.sums_fit.new.row _ (rw whole at c.relax.ensures.relaxed) (rw whole at c.relax.ensures.reached) ends c.known.ensures in
          record {
            tree = tree_followed g.C.Number.value g.C.Number.fits (λ x y v. g.C.Number.between_law x y v g.met.C.Integral.exact_law) c.args.found c.args.number l c.sums_fit.new.row _ _ f c.requires.sound.tree;
            queue = c.relax.ensures.queue;
          };
      wide = c.relax.ensures.relaxed.len ∙ len_settled g.C.Number.value c.args.number l c.args.self.now.labels.items _ _ z c.args.found w is;
      followed = λ m h.
          let l = c.label_of-label.result in
          let labels = c.args.self.now.labels.items in
          let w = c.in_ok-widen.ensures.widened in
          let z = least_is (by_cost g.C.Number.value) labels c.args.number c.requires.least.0 l c.requires.least.1 c.label_of-label.ensures in
          let is = c.settle.ensures l (w.stays c.args.number l c.label_of-label.ensures) in
          let row = same_row _ _ _ c.deref_mut.ensures.value c.sums_fit.ensures.same in
          let whole : c.deref-2.result.now ≡ c.sums_fit.new.row = c.deref-2.ensures.value ∙ take_at c.sums_fit.new.row _ _ (c.sums_fit.ensures.len ∙ c.deref_mut.ensures.len) in
          let ends = rw c.deref.ensures.value at c.if-not-sums_fit.ensures.reached in
          let f = follows g.C.Number.value c.args.number l labels _ _ z c.args.found w is g.C.Number.fits c.sums_fit.new.row _ (rw whole at c.relax.ensures.relaxed) (rw whole at c.relax.ensures.reached) ends c.known.ensures in
          subst (λ (n : Label g.row.C.Denot). Follows g.C.Number.value g.C.Number.fits c.args.found c.args.number n c.args.self.now.row.items labels c.relax.new.labels.items) (label_is labels c.args.number l m c.label_of-label.ensures h)
          (follows_row g.C.Number.value g.C.Number.fits c.args.found c.args.number l c.sums_fit.new.row c.args.self.now.row.items row labels _ f);
      kept = tt;
      overflow = λ e. absurd (ok_not_err e);
      errors = tt;
    }
