use Rattle.std.proofs.Common.{◌≡◌, ◌<◌, ◌∙◌, ap, subst, sym, ℕ, List, None, length, refl, ◌≤◌, ◌^◌}
use Rattle.std.specs.Prelude.{◌++◌, ◌-◌, Contains, replicate}
use Rattle.pf_core.specs.declared.labels.Label.{Label}
use Rattle.pf_core.proofs.LabelLemmas.{label_is}
use Rattle.pf_informed.specs.Internal.Forest.{nat_of}
use Rattle.pf_informed.specs.Internal.Waiting.{Relaxed}
use Rattle.pf_informed.proofs.WiderLemmas.{forest_wider, queue_wider, length_wider, widened, work_wider, less_work}
use Rattle.pf_base.proofs.Outcomes.{on_refused, refused_as}
use Rattle.pf_informed.proofs.Bounds.{at_most_equal, few_fit}
use Rattle.pf_informed.proofs.search.Search.follow.Goals as goal

pub label_of-label-requires : goal.label_of-label-requires
label_of-label-requires g c =
    let labels = c.args.self.now.labels.items in
    let len : c.len-2.result ≡ length c.args.self.now.estimates.items = c.len-2.ensures ∙ c.args.self.now.estimates.ok.0 in
    let is = subst (λ (n : ℕ). c.make_room.new.labels.items ≡ labels ++ replicate (n - length labels) None) len c.in_ok-make_room.ensures.wider in
    let w = widened g.C.Number.value labels c.make_room.new.labels.items (length c.args.self.now.estimates.items) c.requires.sound.estimated is in
    let l = c.requires.labelled in
    (l.0, w.stays c.args.number l.0 l.1)

pub relax-requires-clause-steps : goal.relax-requires-clause-steps
relax-requires-clause-steps g c = λ j d h.
    let labels = c.args.self.now.labels.items in
    let len : c.len-2.result ≡ length c.args.self.now.estimates.items = c.len-2.ensures ∙ c.args.self.now.estimates.ok.0 in
    let is = subst (λ (n : ℕ). c.make_room.new.labels.items ≡ labels ++ replicate (n - length labels) None) len c.in_ok-make_room.ensures.wider in
    let wide = length_wider g.C.Number.value labels c.make_room.new.labels.items (length c.args.self.now.estimates.items) c.requires.sound.estimated is in
    let step = c.requires.steps j d (subst (λ (xs : List (ℕ × g.row.C.Denot)). Contains xs (j, d)) c.deref.ensures.value h) in
    (subst (λ (n : ℕ). j < n) (sym wide) step.0, step.1)

pub relax-requires-clause-sound : goal.relax-requires-clause-sound
relax-requires-clause-sound g c =
    let sound = c.requires.sound in
    let labels = c.args.self.now.labels.items in
    let wider = c.make_room.new.labels.items in
    let len : c.len-2.result ≡ length c.args.self.now.estimates.items = c.len-2.ensures ∙ c.args.self.now.estimates.ok.0 in
    let is = subst (λ (n : ℕ). wider ≡ labels ++ replicate (n - length labels) None) len c.in_ok-make_room.ensures.wider in
    let w = widened g.C.Number.value labels wider (length c.args.self.now.estimates.items) sound.estimated is in
    let wide = length_wider g.C.Number.value labels wider (length c.args.self.now.estimates.items) sound.estimated is in
    record {
      forest = forest_wider g.C.Number.value labels wider w.stays w.from sound.forest;
      few = subst (λ (n : ℕ). n ≤ 2 ^ 32) (len ∙ sym wide) c.in_ok-make_room.ensures.few;
      estimated = at_most_equal _ _ wide;
      sums = λ k l h at there. sound.sums k l h (w.from k l at) there;
      queue = rw c.in_ok-reserve.ensures.entries (queue_wider g.C.Number.value labels wider w.stays c.args.self.now.estimates.items c.args.self.now.queue.entries sound.queue);
    }

pub returns-in_err-reserve : goal.returns-in_err-reserve
returns-in_err-reserve g c = record {
  estimates = refl;
  sound = on_refused _ c.from_residual.result _ c.from_residual.ensures.1;
  followed = on_refused _ c.from_residual.result _ c.from_residual.ensures.1;
  wide = on_refused _ c.from_residual.result _ c.from_residual.ensures.1;
  less = on_refused _ c.from_residual.result _ c.from_residual.ensures.1;
  refused = refused_as _ c.from_residual.result _ c.from_residual.ensures.1 c.in_err-reserve.ensures.refused;
}

pub returns-in_err-make_room : goal.returns-in_err-make_room
returns-in_err-make_room g c = record {
  estimates = refl;
  sound = on_refused _ c.from_residual-in_err-make_room.result _ c.from_residual-in_err-make_room.ensures.1;
  followed = on_refused _ c.from_residual-in_err-make_room.result _ c.from_residual-in_err-make_room.ensures.1;
  wide = on_refused _ c.from_residual-in_err-make_room.result _ c.from_residual-in_err-make_room.ensures.1;
  less = on_refused _ c.from_residual-in_err-make_room.result _ c.from_residual-in_err-make_room.ensures.1;
  refused = refused_as _ c.from_residual-in_err-make_room.result _ c.from_residual-in_err-make_room.ensures.1 c.in_err-make_room.ensures.refused;
}

pub relax-requires-clause-here : goal.relax-requires-clause-here
relax-requires-clause-here g c = c.label_of-label.ensures

pub returns : goal.returns
returns g c =
    let labels = c.args.self.now.labels.items in
    record {
      followed = λ l h.
          let labels = c.args.self.now.labels.items in
          let len : c.len-2.result ≡ length c.args.self.now.estimates.items = c.len-2.ensures ∙ c.args.self.now.estimates.ok.0 in
          let is = subst (λ (n : ℕ). c.make_room.new.labels.items ≡ labels ++ replicate (n - length labels) None) len c.in_ok-make_room.ensures.wider in
          let w = widened g.C.Number.value labels c.make_room.new.labels.items (length c.args.self.now.estimates.items) c.requires.sound.estimated is in
          let same : c.label_of-label.result ≡ l = label_is c.make_room.new.labels.items c.args.number c.label_of-label.result l c.label_of-label.ensures (w.stays c.args.number l h) in
          let relaxed = rw (c.deref.ensures.value, c.in_ok-reserve.ensures.entries) at c.relax.ensures.relaxed in
          record {
            wider = c.make_room.new.labels.items;
            wide = w;
            relaxed = subst (λ (m : Label g.row.C.Denot). Relaxed g.C.Number.value g.C.Number.fits c.args.self.now.estimates.items c.args.number (g.C.Number.value m.cost) c.args.self.now.row.items c.make_room.new.labels.items c.relax.new.labels.items c.args.self.now.queue.entries c.relax.new.queue.entries) same relaxed;
          };
      wide =
          let len : c.len-2.result ≡ length c.args.self.now.estimates.items = c.len-2.ensures ∙ c.args.self.now.estimates.ok.0 in
          let is = subst (λ (n : ℕ). c.make_room.new.labels.items ≡ labels ++ replicate (n - length labels) None) len c.in_ok-make_room.ensures.wider in
          c.relax.ensures.relaxed.len ∙ length_wider g.C.Number.value labels c.make_room.new.labels.items (length c.args.self.now.estimates.items) c.requires.sound.estimated is;
      less =
          let top = nat_of (g.C.Number.value g.C.Cost.greatest) in
          let len : c.len-2.result ≡ length c.args.self.now.estimates.items = c.len-2.ensures ∙ c.args.self.now.estimates.ok.0 in
          let is = subst (λ (n : ℕ). c.make_room.new.labels.items ≡ labels ++ replicate (n - length labels) None) len c.in_ok-make_room.ensures.wider in
          let w = work_wider g.C.Number.value labels c.make_room.new.labels.items (length c.args.self.now.estimates.items) c.requires.sound.estimated is top (length c.args.self.now.queue.entries) (few_fit _ _ len c.in_ok-make_room.ensures.few) in
          less_work g.C.Number.value top c.make_room.new.labels.items c.relax.new.labels.items (length c.reserve.new.self.entries) (length c.relax.new.queue.entries) (length c.args.self.now.queue.entries) labels c.relax.ensures.relaxed.len c.relax.ensures.less (ap length c.in_ok-reserve.ensures.entries) w;
      estimates = refl;
      refused = tt;
      sound = c.relax.ensures.sound;
    }
