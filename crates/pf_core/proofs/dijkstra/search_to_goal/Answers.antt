use Rattle.std.proofs.Common.{◌≡◌, ◌<◌, ◌∙◌, sym, subst, ℕ, arith, length, ap, Err, refl, Some, true, false, inl}
use Rattle.pf_core.specs.declared.labels.Label.{Label}
use Rattle.std.specs.Prelude.{slice_set, ◌⊎◌}
use Rattle.std.proofs.lemmas.List.Sums.{count_by-le-length}
use Rattle.std.proofs.lemmas.Result.{IfOk-from_err}
use Rattle.pf_base.specs.declared.error.PathError.TheVariants.{OutOfMemory, CostOverflow}
use Rattle.pf_core.specs.Labels.{Labels, AllSettled, by_cost, is_settled}
use Rattle.pf_base.proofs.Outcomes.{no_overflow, ok_is_no_error, overflow_kept, refused_as}
use Rattle.pf_core.proofs.LabelLemmas.{HasLabel-inside, Settles-set, asked_within}
use Rattle.pf_core.proofs.ReadLemmas.{still_at, still_least, turned_from, turn_smaller}
use Rattle.pf_core.proofs.SearchLemmas.{Grows-refl, Grows-trans, one_root, only_root}
use Rattle.pf_core.proofs.SearchedLemmas.{searching_begun, searching_turned, search_tested, searched_to, searched_all}
use Rattle.pf_core.proofs.TurnLemmas.{numbered_overflows}
use Rattle.pf_core.proofs.dijkstra.search_to_goal.Goals as goal

pub begin-requires : goal.begin-requires
begin-requires g c = subst (λ (n : ℕ). c.args.start < n) (sym c.node_count.ensures) c.requires.inside

pub returns-in_err-search : goal.returns-in_err-search
returns-in_err-search g c = record {
  graph = λ h x. x;
  grows = Grows-refl _ _;
  wide = IfOk-from_err _ _ c.from_residual.ensures.0;
  tree = IfOk-from_err _ _ c.from_residual.ensures.0;
  least = IfOk-from_err _ _ c.from_residual.ensures.0;
  searched = λ _ _ _. IfOk-from_err _ _ c.from_residual.ensures.0;
  overflow = λ h x p e. absurd (no_overflow c.from_residual.result c.in_err-search.field-0.0 c.from_residual.ensures.1 c.in_err-search.ensures.refused e);
  ticked = omega arith;
  asked = omega arith;
  errors = refused_as (λ e. (e ≡ OutOfMemory) ⊎ (e ≡ CostOverflow)) c.from_residual.result c.in_err-search.field-0.0 c.from_residual.ensures.1 (inl c.in_err-search.ensures.refused);
}

pub turns-init : goal.turns-init
turns-init g c =
    let b = c.in_ok-search.ensures in
    let first : Label g.row.C.Denot = record { cost = g.C.Zero.zero; parent = 0; depth = 0; settled = false } in
    record {
      sound = b.sound;
      wide = b.wide ∙ c.node_count.ensures;
      asked = omega (arith, b.none);
      grown = Grows-refl _ _;
      explored = λ h x. x;
      searching = λ h x p. searching_begun g.C.Number.value (g.G.NumberedGraph.step h) (g.G.NumberedGraph.passes h) c.args.start (g.G.NumberedGraph.stands c.args.graph.now) c.requires.begins c.in_ok-search.search.labels.items first b.first b.only refl refl (g.met.C.Zero.zero_law g.met.C.Integral.exact_law);
    }

pub least-requires : goal.least-requires
least-requires g c = c.turns.invariant.sound

pub is_goal-requires-clause-inside : goal.is_goal-requires-clause-inside
is_goal-requires-clause-inside g c = let z = c.in-Some.ensures.least in subst (λ (n : ℕ). c.in-Some.number < n) c.turns.invariant.wide (HasLabel-inside _ _ _ z.1.at)

pub is_goal-requires-clause-graph : goal.is_goal-requires-clause-graph
is_goal-requires-clause-graph g c = let r = c.requires.graph in (r.0, c.turns.invariant.explored r.0 r.1)

pub returns-then-is_goal : goal.returns-then-is_goal
returns-then-is_goal g c = record {
  graph = λ h x. (c.is_goal.ensures.graph h (c.turns.invariant.explored h x)).0;
  grows = Grows-trans _ _ _ _ _ _ c.turns.invariant.grown c.is_goal.ensures.grows;
  wide = ap length c.in-Some.ensures.same ∙ c.turns.invariant.wide ∙ sym c.is_goal.ensures.same;
  tree = c.in-Some.ensures.sound.tree;
  least = still_least _ _ c.in-Some.ensures.same g.C.Number.value c.in-Some.number c.in-Some.ensures.least;
  searched = λ h x p.
      let v = c.turns.invariant in
      let z = c.in-Some.ensures.least in
      let t = (c.is_goal.ensures.graph h (v.explored h x)).1 in
      searched_to g.C.Number.value (g.G.NumberedGraph.step h) (g.G.NumberedGraph.passes h) c.args.start _ _ _ _ c.is_goal.ensures.grows _ _ c.in-Some.ensures.same v.wide (v.searching h x p) c.in-Some.number z.0 z.1 (λ y here. sym (t y here) ∙ c.if-is_goal.true);
  overflow = λ _ _ _ e. absurd (ok_is_no_error _ _ _ refl e);
  ticked = omega (arith, c.turns.invariant.asked);
  asked = asked_within c.turns.tally c.args.tally.now _ c.turns.search.labels.items c.turns.invariant.asked (c.turns.invariant.wide ∙ sym c.is_goal.ensures.same);
  errors = tt;
}

pub turn-requires-clause-sound : goal.turn-requires-clause-sound
turn-requires-clause-sound g c = c.in-Some.ensures.sound

pub turn-requires-clause-wide : goal.turn-requires-clause-wide
turn-requires-clause-wide g c = ap length c.in-Some.ensures.same ∙ c.turns.invariant.wide ∙ sym c.is_goal.ensures.same

pub turn-requires-clause-least : goal.turn-requires-clause-least
turn-requires-clause-least g c = still_least _ _ c.in-Some.ensures.same g.C.Number.value c.in-Some.number c.in-Some.ensures.least

pub turn-requires-clause-graph : goal.turn-requires-clause-graph
turn-requires-clause-graph g c = let r = c.requires.graph in (r.0, (c.is_goal.ensures.graph r.0 (c.turns.invariant.explored r.0 r.1)).0)

pub turns-smaller : goal.turns-smaller
turns-smaller g c =
    let z = c.in-Some.ensures.least in
    let old = c.turns.search.labels.items in
    let t = turned_from old _ c.in-Some.ensures.same c.in-Some.number z.0 _ z.1.at c.in_ok-turn.ensures.turned in
    turn_smaller old _ c.in-Some.number z.0 t _ _ c.turns.search.labels.ok c.turns.search.labels.small

pub turns-preserved : goal.turns-preserved
turns-preserved g c =
    let v = c.turns.invariant in
    let z = c.in-Some.ensures.least in
    let old = c.turns.search.labels.items in
    let same = c.in-Some.ensures.same in
    let e = c.in_ok-turn.ensures in
    let t = turned_from old _ same c.in-Some.number z.0 c.turn.new.self.labels.items z.1.at e.turned in
    let tested = c.is_goal.ensures.grows in
    let grown = Grows-trans _ _ _ _ _ _ tested e.grows in
    record {
      sound = e.sound;
      wide = e.wide;
      asked = omega (arith, c.tick.ensures, v.asked, t.count);
      grown = Grows-trans _ _ _ _ _ _ v.grown grown;
      explored = λ h x. e.graph h (c.is_goal.ensures.graph h (v.explored h x)).0;
      searching = λ h x p.
          let q = c.is_goal.ensures.graph h (v.explored h x) in
          let step = g.G.NumberedGraph.step h in
          let passes = g.G.NumberedGraph.passes h in
          let s = v.searching h x p in
          searching_turned g.C.Number.value step passes c.args.start _ _ _ _ grown old _ v.wide s c.in-Some.number z.0 z.1 t (λ y here. sym (q.1 y here) ∙ c.if-is_goal.false)
          (e.search h q.0 p (only_root c.args.start) (search_tested g.C.Number.value step passes c.args.start _ _ _ _ tested old _ same v.wide s));
    }

pub returns-in_err-turn : goal.returns-in_err-turn
returns-in_err-turn g c = record {
  graph = λ h x. c.in_err-turn.ensures.graph h (c.is_goal.ensures.graph h (c.turns.invariant.explored h x)).0;
  grows = Grows-trans _ _ _ _ _ _ c.turns.invariant.grown (Grows-trans _ _ _ _ _ _ c.is_goal.ensures.grows c.in_err-turn.ensures.grows);
  wide = IfOk-from_err _ _ c.from_residual-in_err-turn.ensures.0;
  tree = IfOk-from_err _ _ c.from_residual-in_err-turn.ensures.0;
  least = IfOk-from_err _ _ c.from_residual-in_err-turn.ensures.0;
  searched = λ _ _ _. IfOk-from_err _ _ c.from_residual-in_err-turn.ensures.0;
  overflow = λ h x p e.
      let v = c.turns.invariant in
      let z = c.in-Some.ensures.least in
      let labels = c.turns.search.labels.items in
      let s = v.searching h x p in
      let x1 = (c.is_goal.ensures.graph h (v.explored h x)).0 in
      let grown = Grows-trans _ _ _ _ _ _ c.is_goal.ensures.grows c.in_err-turn.ensures.grows in
      let d = c.in_err-turn.ensures.overflow (ap Err (overflow_kept c.from_residual-in_err-turn.result c.in_err-turn.field-0.0 c.from_residual-in_err-turn.ensures.1 e)) h x1 in
      numbered_overflows g.C.Number.value g.C.Number.fits (g.G.NumberedGraph.step h) (only_root c.args.start) p _ labels s.search v.sound.tree c.in-Some.number z.0 z.1 (g.G.NumberedGraph.passes h) s.passed
      (g.met.G.NumberedGraph.one_law _ h (v.explored h x)) (λ n st. d n (c.is_goal.ensures.grows.stays c.in-Some.number n st) z.0 (still_at labels _ c.in-Some.ensures.same _ _ z.1.at)) _ _ _ grown (subst (λ (n : ℕ). c.in-Some.number < n) v.wide (HasLabel-inside labels c.in-Some.number z.0 z.1.at))
      _ (one_root c.args.start _ _ _ _ v.grown c.requires.inside);
  ticked = omega (arith, c.tick.ensures, c.turns.invariant.asked);
  asked =
      let v = c.turns.invariant in
      let z = c.in-Some.ensures.least in
      let old = c.turns.search.labels.items in
      let s = Settles-set (by_cost g.C.Number.value) old c.in-Some.number z.0 z.1.at z.1.opened z.1.least in
      omega (arith, c.tick.ensures, v.asked, v.wide, s.count, s.len, count_by-le-length is_settled (slice_set old c.in-Some.number (Some (record z.0 { settled = true }))), c.is_goal.ensures.same, c.turn.ensures.grows.more);
  errors = refused_as (λ e. (e ≡ OutOfMemory) ⊎ (e ≡ CostOverflow)) c.from_residual-in_err-turn.result c.in_err-turn.field-0.0 c.from_residual-in_err-turn.ensures.1 c.in_err-turn.ensures.errors;
}

pub returns : goal.returns
returns g c = record {
  graph = c.turns.invariant.explored;
  grows = c.turns.invariant.grown;
  wide = ap length c.least.ensures.same ∙ c.turns.invariant.wide;
  tree = c.least.ensures.sound.tree;
  least = subst (λ (ls : Labels g.row.C.Denot). AllSettled ls) (sym c.least.ensures.same) c.in_default.ensures.least;
  searched = λ h x p. searched_all g.C.Number.value (g.G.NumberedGraph.step h) (g.G.NumberedGraph.passes h) c.args.start _ _ _ c.least.ensures.same c.in_default.ensures.least (c.turns.invariant.searching h x p);
  overflow = λ _ _ _ e. absurd (ok_is_no_error _ _ _ refl e);
  ticked = omega (arith, c.turns.invariant.asked);
  asked = asked_within c.turns.tally c.args.tally.now _ c.turns.search.labels.items c.turns.invariant.asked c.turns.invariant.wide;
  errors = tt;
}
