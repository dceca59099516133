use Rattle.std.proofs.Common.{ℕ, ◌≡◌, ◌≤◌, ◌<◌, ◌+◌, arith, length, subst, sym, inl, inr}
use Rattle.pf_two_sided.specs.declared.sides.Side.TheVariants.{Forth, Back}
use Rattle.std.proofs.lemmas.Result.{IfOk-from_err}
use Rattle.pf_base.specs.declared.error.PathError.TheVariants.{OutOfMemory}
use Rattle.pf_core.specs.Labels.{by_depth}
use Rattle.pf_core.specs.Breadth.{IsWave}
use Rattle.pf_base.proofs.Outcomes.{on_refused, refused_as}
use Rattle.pf_core.proofs.SearchLemmas.{search_grows}
use Rattle.pf_core.proofs.WaveLemmas.{layered_done, met_low, grows_same}
use Rattle.pf_two_sided.proofs.bidirectional.advance_smaller.Goals as goal

pub overflow_sub-len : goal.overflow_sub-len
overflow_sub-len g c = omega (arith, c.len.ensures, c.requires.left.0)

pub overflow_sub-len-2 : goal.overflow_sub-len-2
overflow_sub-len-2 g c = omega (arith, c.len-2.ensures, c.requires.left.1)

pub advance-requires-clause-graph : goal.advance-requires-clause-graph
advance-requires-clause-graph g c = c.requires.graph

pub advance-requires-clause-wave : goal.advance-requires-clause-wave
advance-requires-clause-wave g c = c.requires.forth

pub returns-in_err-met : goal.returns-in_err-met
returns-in_err-met g c = record {
  graph = c.in_err-met.ensures.graph;
  grows_forth = c.in_err-met.ensures.grows;
  grows_back = grows_same (g.G.TwoSidedGraph.node_count c.args.graph.now Back) (g.G.TwoSidedGraph.node_count c.advance.new.graph Back) (g.G.TwoSidedGraph.stands c.args.graph.now Back) (g.G.TwoSidedGraph.stands c.advance.new.graph Back) c.in_err-met.ensures.other.0 c.in_err-met.ensures.other.1;
  forth = on_refused _ c.from_residual.result c.in_err-met.field-0.0 c.from_residual.ensures.1;
  back = on_refused _ c.from_residual.result c.in_err-met.field-0.0 c.from_residual.ensures.1;
  search_forth = on_refused _ c.from_residual.result c.in_err-met.field-0.0 c.from_residual.ensures.1;
  search_back = on_refused _ c.from_residual.result c.in_err-met.field-0.0 c.from_residual.ensures.1;
  apart = IfOk-from_err c.from_residual.result _ c.from_residual.ensures.0;
  layers = IfOk-from_err c.from_residual.result _ c.from_residual.ensures.0;
  errors = refused_as (λ e. e ≡ OutOfMemory) c.from_residual.result c.in_err-met.field-0.0 c.from_residual.ensures.1 c.in_err-met.ensures.errors;
}

pub advance-requires-else-len-forth-clause-graph : goal.advance-requires-else-len-forth-clause-graph
advance-requires-else-len-forth-clause-graph g c = c.requires.graph

pub advance-requires-else-len-forth-clause-wave : goal.advance-requires-else-len-forth-clause-wave
advance-requires-else-len-forth-clause-wave g c = c.requires.back

pub returns-in_err-met-2 : goal.returns-in_err-met-2
returns-in_err-met-2 g c = record {
  graph = c.in_err-met-2.ensures.graph;
  grows_forth = grows_same (g.G.TwoSidedGraph.node_count c.args.graph.now Forth) (g.G.TwoSidedGraph.node_count c.advance-else-len-forth.new.graph Forth) (g.G.TwoSidedGraph.stands c.args.graph.now Forth) (g.G.TwoSidedGraph.stands c.advance-else-len-forth.new.graph Forth) c.in_err-met-2.ensures.other.0 c.in_err-met-2.ensures.other.1;
  grows_back = c.in_err-met-2.ensures.grows;
  forth = on_refused _ c.from_residual-in_err-met-2.result c.in_err-met-2.field-0.0 c.from_residual-in_err-met-2.ensures.1;
  back = on_refused _ c.from_residual-in_err-met-2.result c.in_err-met-2.field-0.0 c.from_residual-in_err-met-2.ensures.1;
  search_forth = on_refused _ c.from_residual-in_err-met-2.result c.in_err-met-2.field-0.0 c.from_residual-in_err-met-2.ensures.1;
  search_back = on_refused _ c.from_residual-in_err-met-2.result c.in_err-met-2.field-0.0 c.from_residual-in_err-met-2.ensures.1;
  apart = IfOk-from_err c.from_residual-in_err-met-2.result _ c.from_residual-in_err-met-2.ensures.0;
  layers = IfOk-from_err c.from_residual-in_err-met-2.result _ c.from_residual-in_err-met-2.ensures.0;
  errors = refused_as (λ e. e ≡ OutOfMemory) c.from_residual-in_err-met-2.result c.in_err-met-2.field-0.0 c.from_residual-in_err-met-2.ensures.1 c.in_err-met-2.ensures.errors;
}

pub returns-in-Some : goal.returns-in-Some
returns-in-Some g c = record {
  graph = c.in_ok-met.ensures.graph;
  grows_forth = c.in_ok-met.ensures.grows;
  grows_back = grows_same (g.G.TwoSidedGraph.node_count c.args.graph.now Back) (g.G.TwoSidedGraph.node_count c.advance.new.graph Back) (g.G.TwoSidedGraph.stands c.args.graph.now Back) (g.G.TwoSidedGraph.stands c.advance.new.graph Back) c.in_ok-met.ensures.other.0 c.in_ok-met.ensures.other.1;
  forth = c.in_ok-met.ensures.wave;
  back = subst (λ (n : ℕ). IsWave n c.args.back.now.labels.items c.args.back.now.next) (sym c.in_ok-met.ensures.other.0) c.requires.back;
  search_forth = c.in_ok-met.ensures.search;
  search_back = λ h x hop root s.
      let e = c.in_ok-met.ensures.other in
      let grows = grows_same (g.G.TwoSidedGraph.node_count c.args.graph.now Back) (g.G.TwoSidedGraph.node_count c.advance.new.graph Back) (g.G.TwoSidedGraph.stands c.args.graph.now Back) (g.G.TwoSidedGraph.stands c.advance.new.graph Back) e.0 e.1 in
      let len : length c.args.back.now.labels.items ≤ g.G.TwoSidedGraph.node_count c.args.graph.now Back = omega (arith, c.requires.back.len) in
      search_grows by_depth (g.G.TwoSidedGraph.step h Back) root _ _ _ _ grows c.args.back.now.labels.items len s;
  apart =
      let level = rw c.in-Some.is at c.in_ok-met.ensures.level in
      (subst (λ (n : ℕ). c.in-Some.meeting.here < n) (sym c.in_ok-met.ensures.wave.len) level.0, subst (λ (n : ℕ). c.in-Some.meeting.across < n) (sym c.requires.back.len) level.1, inl (λ x at. (c.in_ok-met.ensures.other.1 c.in-Some.meeting.across x).1 (level.2 x at)));
  layers = λ a b y z l n at over. (met_low c.advance.new.wave.labels.items c.args.back.now.labels.items c.advance.new.wave.next c.args.back.now.next (length c.args.forth.now.labels.items) a b (c.in_ok-met.ensures.layered a y) z c.in-Some.meeting.here c.in-Some.meeting.across l n at over).0;
  errors = tt;
}

pub returns-in-None : goal.returns-in-None
returns-in-None g c = record {
  graph = c.in_ok-met.ensures.graph;
  grows_forth = c.in_ok-met.ensures.grows;
  grows_back = grows_same (g.G.TwoSidedGraph.node_count c.args.graph.now Back) (g.G.TwoSidedGraph.node_count c.advance.new.graph Back) (g.G.TwoSidedGraph.stands c.args.graph.now Back) (g.G.TwoSidedGraph.stands c.advance.new.graph Back) c.in_ok-met.ensures.other.0 c.in_ok-met.ensures.other.1;
  forth = c.in_ok-met.ensures.wave;
  back = subst (λ (n : ℕ). IsWave n c.args.back.now.labels.items c.args.back.now.next) (sym c.in_ok-met.ensures.other.0) c.requires.back;
  search_forth = c.in_ok-met.ensures.search;
  search_back = λ h x hop root s.
      let e = c.in_ok-met.ensures.other in
      let grows = grows_same (g.G.TwoSidedGraph.node_count c.args.graph.now Back) (g.G.TwoSidedGraph.node_count c.advance.new.graph Back) (g.G.TwoSidedGraph.stands c.args.graph.now Back) (g.G.TwoSidedGraph.stands c.advance.new.graph Back) e.0 e.1 in
      let len : length c.args.back.now.labels.items ≤ g.G.TwoSidedGraph.node_count c.args.graph.now Back = omega (arith, c.requires.back.len) in
      search_grows by_depth (g.G.TwoSidedGraph.step h Back) root _ _ _ _ grows c.args.back.now.labels.items len s;
  apart =
      let level = rw c.in-None.is at c.in_ok-met.ensures.level in
      (level.1, omega (arith, level.0, c.requires.left.0));
  layers = λ a b y z.
      let level = rw c.in-None.is at c.in_ok-met.ensures.level in
      ((a + 1, layered_done c.advance.new.wave.labels.items c.advance.new.wave.next _ a level.0 (c.in_ok-met.ensures.layered a y)), (b, z));
  errors = tt;
}

pub returns-in-Some-met : goal.returns-in-Some-met
returns-in-Some-met g c = record {
  graph = c.in_ok-met-2.ensures.graph;
  grows_forth = grows_same (g.G.TwoSidedGraph.node_count c.args.graph.now Forth) (g.G.TwoSidedGraph.node_count c.advance-else-len-forth.new.graph Forth) (g.G.TwoSidedGraph.stands c.args.graph.now Forth) (g.G.TwoSidedGraph.stands c.advance-else-len-forth.new.graph Forth) c.in_ok-met-2.ensures.other.0 c.in_ok-met-2.ensures.other.1;
  grows_back = c.in_ok-met-2.ensures.grows;
  forth = subst (λ (n : ℕ). IsWave n c.args.forth.now.labels.items c.args.forth.now.next) (sym c.in_ok-met-2.ensures.other.0) c.requires.forth;
  back = c.in_ok-met-2.ensures.wave;
  search_forth = λ h x hop root s.
      let e = c.in_ok-met-2.ensures.other in
      let grows = grows_same (g.G.TwoSidedGraph.node_count c.args.graph.now Forth) (g.G.TwoSidedGraph.node_count c.advance-else-len-forth.new.graph Forth) (g.G.TwoSidedGraph.stands c.args.graph.now Forth) (g.G.TwoSidedGraph.stands c.advance-else-len-forth.new.graph Forth) e.0 e.1 in
      let len : length c.args.forth.now.labels.items ≤ g.G.TwoSidedGraph.node_count c.args.graph.now Forth = omega (arith, c.requires.forth.len) in
      search_grows by_depth (g.G.TwoSidedGraph.step h Forth) root _ _ _ _ grows c.args.forth.now.labels.items len s;
  search_back = c.in_ok-met-2.ensures.search;
  apart =
      let level = rw c.in-Some-met.is at c.in_ok-met-2.ensures.level in
      (subst (λ (n : ℕ). c.in-Some-met.meeting.across < n) (sym c.requires.forth.len) level.1, subst (λ (n : ℕ). c.in-Some-met.meeting.here < n) (sym c.in_ok-met-2.ensures.wave.len) level.0, inr (λ x at. (c.in_ok-met-2.ensures.other.1 c.in-Some-met.meeting.across x).1 (level.2 x at)));
  layers = λ a b y z l n at over. (met_low c.advance-else-len-forth.new.wave.labels.items c.args.forth.now.labels.items c.advance-else-len-forth.new.wave.next c.args.forth.now.next (length c.args.back.now.labels.items) b a (c.in_ok-met-2.ensures.layered b z) y c.in-Some-met.meeting.here c.in-Some-met.meeting.across n l over at).1;
  errors = tt;
}

pub returns-in-None-met : goal.returns-in-None-met
returns-in-None-met g c = record {
  graph = c.in_ok-met-2.ensures.graph;
  grows_forth = grows_same (g.G.TwoSidedGraph.node_count c.args.graph.now Forth) (g.G.TwoSidedGraph.node_count c.advance-else-len-forth.new.graph Forth) (g.G.TwoSidedGraph.stands c.args.graph.now Forth) (g.G.TwoSidedGraph.stands c.advance-else-len-forth.new.graph Forth) c.in_ok-met-2.ensures.other.0 c.in_ok-met-2.ensures.other.1;
  grows_back = c.in_ok-met-2.ensures.grows;
  forth = subst (λ (n : ℕ). IsWave n c.args.forth.now.labels.items c.args.forth.now.next) (sym c.in_ok-met-2.ensures.other.0) c.requires.forth;
  back = c.in_ok-met-2.ensures.wave;
  search_forth = λ h x hop root s.
      let e = c.in_ok-met-2.ensures.other in
      let grows = grows_same (g.G.TwoSidedGraph.node_count c.args.graph.now Forth) (g.G.TwoSidedGraph.node_count c.advance-else-len-forth.new.graph Forth) (g.G.TwoSidedGraph.stands c.args.graph.now Forth) (g.G.TwoSidedGraph.stands c.advance-else-len-forth.new.graph Forth) e.0 e.1 in
      let len : length c.args.forth.now.labels.items ≤ g.G.TwoSidedGraph.node_count c.args.graph.now Forth = omega (arith, c.requires.forth.len) in
      search_grows by_depth (g.G.TwoSidedGraph.step h Forth) root _ _ _ _ grows c.args.forth.now.labels.items len s;
  search_back = c.in_ok-met-2.ensures.search;
  apart =
      let level = rw c.in-None-met.is at c.in_ok-met-2.ensures.level in
      (λ none j k x here there. level.1 (λ i m y at over. none m i y over at) k j x there here, omega (arith, level.0, c.requires.left.1));
  layers = λ a b y z.
      let level = rw c.in-None-met.is at c.in_ok-met-2.ensures.level in
      ((a, y), (b + 1, layered_done c.advance-else-len-forth.new.wave.labels.items c.advance-else-len-forth.new.wave.next _ b level.0 (c.in_ok-met-2.ensures.layered b z)));
  errors = tt;
}
