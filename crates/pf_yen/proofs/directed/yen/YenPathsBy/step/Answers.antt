use Rattle.std.proofs.Common.{◌∙◌, refl, sym, inl, true≢false}
use Rattle.pf_yen.proofs.WalkLemmas.{turn_refused, turn_same}
use Rattle.pf_yen.proofs.directed.yen.YenPathsBy.step.Goals as goal

pub returns-then-is_barred-clause-steps : goal.returns-then-is_barred-clause-steps
returns-then-is_barred-clause-steps g c = λ edges start test w.
    let v = rw (← c.self.view_is) at w in
    let q = v.bar (sym c.is_barred.ensures ∙ c.if-is_barred.true) in
    rw (← c.self.view_is) (v, (q.0, refl, q.1, q.1))

pub returns-then-is_barred-clause-bars : goal.returns-then-is_barred-clause-bars
returns-then-is_barred-clause-bars g c = λ _. refl

pub explore_graph-requires : goal.explore_graph-requires
explore_graph-requires g c = record { walk = c.requires.walk }

pub choose-requires-clause-walk : goal.choose-requires-clause-walk
choose-requires-clause-walk g c =
    let r = c.requires.walk in
    (r.0, r.1, r.2, c.in_ok-explore_graph.ensures.walk r.0 r.1 r.2 r.3)

pub choose-requires-clause-adjacency : goal.choose-requires-clause-adjacency
choose-requires-clause-adjacency g c =
    let r = c.requires.walk in
    c.in_ok-explore_graph.ensures.adjacency r.0 r.1 r.2 r.3

pub choose-requires-clause-free : goal.choose-requires-clause-free
choose-requires-clause-free g c = rw (c.in_ok-explore_graph.ensures.bar, ← c.self.view_is) (λ b. true≢false (sym b ∙ sym c.is_barred.ensures ∙ c.if-is_barred.false))

pub give-requires-clause-clones : goal.give-requires-clause-clones
give-requires-clause-clones g c = c.requires.clones

pub give-requires-clause-walk : goal.give-requires-clause-walk
give-requires-clause-walk g c =
    let r = c.requires.walk in
    (r.0, r.1, r.2, (c.in_ok-choose.ensures.walk r.0 r.1 r.2 (c.in_ok-explore_graph.ensures.walk r.0 r.1 r.2 r.3)).0)

pub give-requires-clause-ready : goal.give-requires-clause-ready
give-requires-clause-ready g c = c.in_ok-choose.ensures.begun

pub give-requires-clause-none : goal.give-requires-clause-none
give-requires-clause-none g c = c.in_ok-choose.ensures.none

pub give-requires-clause-free : goal.give-requires-clause-free
give-requires-clause-free g c = rw (c.in_ok-choose.ensures.bar, c.in_ok-explore_graph.ensures.bar, ← c.self.view_is) (λ b. true≢false (sym b ∙ sym c.is_barred.ensures ∙ c.if-is_barred.false))

pub returns-in_err-explore_graph : goal.returns-in_err-explore_graph
returns-in_err-explore_graph g c = record {
  steps = λ edges start test w.
      let l = c.in_err-explore_graph.ensures in
      (l.walk edges start test w, turn_refused w c.explore_graph.new.self c.from_residual.result c.in_err-explore_graph.field-0.0 c.from_residual.ensures.1 (inl l.refused) l.given (λ h. l.ended h) l.open);
  bars = rw (← c.self.view_is) (λ b. absurd (true≢false (sym b ∙ sym c.is_barred.ensures ∙ c.if-is_barred.false)));
  same = c.in_err-explore_graph.ensures.same;
  bar = c.in_err-explore_graph.ensures.bar;
}

pub returns-in_err-choose : goal.returns-in_err-choose
returns-in_err-choose g c = record {
  steps = λ edges start test w.
      let l = c.in_ok-explore_graph.ensures in
      let e = c.in_err-choose.ensures in
      let q = e.walk edges start test (l.walk edges start test w) in
      let why = rw l.given at q.1 in
      (q.0, turn_refused w c.choose.new.self c.from_residual-in_err-choose.result c.in_err-choose.field-0.0 c.from_residual-in_err-choose.ensures.1 why (e.given ∙ l.given) (λ h. e.ended (l.ended h)) e.open);
  bars = rw (← c.self.view_is) (λ b. absurd (true≢false (sym b ∙ sym c.is_barred.ensures ∙ c.if-is_barred.false)));
  same = c.in_err-choose.ensures.same ∙ c.in_ok-explore_graph.ensures.same;
  bar = c.in_err-choose.ensures.bar ∙ c.in_ok-explore_graph.ensures.bar;
}

pub returns : goal.returns
returns g c = record {
  steps = λ edges start test w.
      let l = c.in_ok-explore_graph.ensures in
      let e = c.in_ok-choose.ensures in
      let q = c.give.ensures.steps edges start test (e.walk edges start test (l.walk edges start test w)).0 in
      (q.0, turn_same w c.choose.new.self c.give.new.self c.give.result (e.given ∙ l.given) (λ h. e.ended (l.ended h)) q.1);
  bars = rw (← c.self.view_is) (λ b. absurd (true≢false (sym b ∙ sym c.is_barred.ensures ∙ c.if-is_barred.false)));
  same = c.give.ensures.same ∙ c.in_ok-choose.ensures.same ∙ c.in_ok-explore_graph.ensures.same;
  bar = c.give.ensures.bar ∙ c.in_ok-choose.ensures.bar ∙ c.in_ok-explore_graph.ensures.bar;
}
