use Rattle.std.proofs.Common.{ℕ, ◌∙◌, subst, refl, sym, ap, length, inl, arith}
use Rattle.std.proofs.lemmas.Result.{IfOk-from_err}
use Rattle.pf_core.proofs.LabelLemmas.{HasLabel-inside}
use Rattle.pf_core.proofs.SearchLemmas.{Grows-back}
use Rattle.pf_core.proofs.TurnLemmas.{turned, search_followed, step_overflows, barred_step, within_range}
use Rattle.pf_base.proofs.Outcomes.{no_overflow, ok_not_err, on_err, refused_as}
use Rattle.pf_core.proofs.ReadLemmas.{same_most, within_found, wide_now}
use Rattle.pf_core.proofs.search.Search.turn.Goals as goal

pub follow-requires-clause-ends : goal.follow-requires-clause-ends
follow-requires-clause-ends g c = let row = c.in_ok-expand.ensures.listed in λ j d h. rw c.node_count.ensures (row.2 j d (rw row.1 at h))

pub expand-requires-clause-inside : goal.expand-requires-clause-inside
expand-requires-clause-inside g c = within_found _ _ _ _ (HasLabel-inside c.args.self.now.labels.items c.args.number c.requires.least.0 c.requires.least.1.at) (same_most _ _ c.requires.wide) refl

pub expand-requires-clause-graph : goal.expand-requires-clause-graph
expand-requires-clause-graph g c = c.requires.graph

pub returns-in_err-expand : goal.returns-in_err-expand
returns-in_err-expand g c = record {
  sound = c.requires.sound;
  wide = c.requires.wide ∙ sym c.in_err-expand.ensures.refused.1;
  grows = c.expand.ensures.grows;
  graph = c.expand.ensures.graph;
  turned = IfOk-from_err _ _ c.from_residual.ensures.0;
  search = IfOk-from_err _ _ c.from_residual.ensures.0;
  within = IfOk-from_err _ _ c.from_residual.ensures.0;
  kept = on_err c.from_residual.result (c.in_err-expand.ensures.refused.1, refl, refl, refl);
  overflow = λ e. absurd (no_overflow c.from_residual.result c.in_err-expand.field-0.0 c.from_residual.ensures.1 c.in_err-expand.ensures.refused.0 e);
  barred = λ e. absurd (no_overflow c.from_residual.result c.in_err-expand.field-0.0 c.from_residual.ensures.1 c.in_err-expand.ensures.refused.0 e);
  errors = refused_as _ c.from_residual.result c.in_err-expand.field-0.0 c.from_residual.ensures.1 (inl c.in_err-expand.ensures.refused.0);
}

pub follow-requires-clause-sound : goal.follow-requires-clause-sound
follow-requires-clause-sound g c = c.requires.sound

pub follow-requires-clause-wide : goal.follow-requires-clause-wide
follow-requires-clause-wide g c = wide_now _ _ _ _ c.requires.wide c.in_ok-expand.ensures.grows.more c.node_count.ensures

pub follow-requires-clause-least : goal.follow-requires-clause-least
follow-requires-clause-least g c = c.requires.least

pub returns-in-Err : goal.returns-in-Err
returns-in-Err g c = record {
  grows = Grows-back _ _ _ _ _ _ c.expand.ensures.grows c.forget.ensures.shrinks (c.forget.ensures.left ∙ c.node_count-before.ensures) (λ k x h. g.met.G.NumberedGraph.inside_law c.args.graph.now k x h);
  overflow = λ e h x n st l at.
      let row = c.in_ok-expand.ensures.listed in
      let o = rw row.1 at (c.in-Err.ensures.overflow e l at) in
      step_overflows g.C.Number.value g.C.Number.fits (g.G.NumberedGraph.step h) (g.G.NumberedGraph.stands c.expand.new.self) n (g.C.Number.value l.cost) row.0 (row.4 h x n st) o.0 o.1 o.2 o.4;
  barred = λ e h x n st l at.
      let row = c.in_ok-expand.ensures.listed in
      let o = rw row.1 at (c.in-Err.ensures.overflow e l at) in
      barred_step g.C.Number.value g.C.Number.fits (g.G.NumberedGraph.step h) (g.G.NumberedGraph.stands c.args.graph.now) (g.G.NumberedGraph.stands c.expand.new.self) c.args.self.now.labels.items n (g.C.Number.value l.cost) row.0 (row.4 h x n st)
      (λ k y a. c.expand.ensures.grows.stays k y a) (λ i j y a b. g.met.G.NumberedGraph.one_law c.expand.new.self h (c.expand.ensures.graph h x) i j y a b) o.0 o.1 o.2 o.3 o.4;
  sound = c.follow.ensures.sound;
  wide = ap length c.in-Err.ensures.kept.0 ∙ c.requires.wide ∙ sym (c.forget.ensures.left ∙ c.node_count-before.ensures);
  graph = λ h x. c.forget.ensures.graph h (c.expand.ensures.graph h x);
  turned = tt;
  search = tt;
  within = tt;
  kept = (c.forget.ensures.left ∙ c.node_count-before.ensures, c.in-Err.ensures.kept.0, c.in-Err.ensures.kept.1, c.in-Err.ensures.kept.2);
  errors = c.in-Err.ensures.errors;
}

pub returns : goal.returns
returns g c = record {
  turned = λ l at. turned g.C.Number.value g.C.Number.fits (λ x y v. g.C.Number.between_law x y v g.met.C.Integral.exact_law) _ c.args.number l _ c.args.self.now.labels.items c.follow.new.self.labels.items (c.in_default.ensures.followed l at);
  search = λ h x p root i.
      let row = c.in_ok-expand.ensures.listed in
      let z = c.requires.least in
      let f = rw (c.node_count.ensures, row.1) at (c.in_default.ensures.followed z.0 z.1.at) in
      search_followed g.C.Number.value g.C.Number.fits (λ x y v. g.C.Number.between_law x y v g.met.C.Integral.exact_law) _ c.args.number z.0 row.0 c.args.self.now.labels.items c.follow.new.self.labels.items f (g.G.NumberedGraph.step h) root p
      (g.G.NumberedGraph.node_count c.args.graph.now) (g.G.NumberedGraph.stands c.args.graph.now) (g.G.NumberedGraph.stands c.expand.new.self) c.expand.ensures.grows c.requires.wide (λ n st. row.4 h x n st) c.requires.sound.tree i;
  within = λ h x n st l at y z e.
      let row = c.in_ok-expand.ensures.listed in
      let f = rw (c.node_count.ensures, row.1) at (c.in_default.ensures.followed l at) in
      within_range g.C.Number.value g.C.Number.fits (g.G.NumberedGraph.step h) (g.G.NumberedGraph.stands c.args.graph.now) (g.G.NumberedGraph.stands c.expand.new.self) c.args.self.now.labels.items n (g.C.Number.value l.cost) row.0 (row.4 h x n st)
      (λ k w i a. c.expand.ensures.grows.back k w (omega (arith, i, c.requires.wide)) a) f.ends y z e;
  sound = c.follow.ensures.sound;
  wide = c.in_default.ensures.wide ∙ c.node_count.ensures;
  grows = c.expand.ensures.grows;
  graph = c.expand.ensures.graph;
  kept = tt;
  overflow = λ e. absurd (ok_not_err e);
  barred = λ e. absurd (ok_not_err e);
  errors = tt;
}

pub forget-requires : goal.forget-requires
forget-requires g c = subst (λ (n : ℕ). g.G.NumberedGraph.can_forget c.expand.new.self n) (sym c.node_count-before.ensures) c.expand.ensures.back
