use Rattle.std.proofs.Common.{◌<◌, ◌∙◌, ◌∷◌, ◌++◌, [], sym, ap, subst, ℕ, length, length-set, true}
use Rattle.std.specs.Prelude.{map, slice_set}
use Rattle.std.specs.BinaryHeap.{heap_items}
use Rattle.std.proofs.lemmas.List.{map-append}
use Rattle.pf_graph.specs.EdgesByReference.{shown}
use Rattle.pf_graph.specs.Internal.Spanning.Frontier.{edge_of, WaitsSave, IsGrown}
use Rattle.pf_graph.proofs.Spanning.ChainLemmas.{runs_inside}
use Rattle.pf_graph.proofs.Spanning.FrontierLemmas.{open_count, open_less, WaitsSave-start, WaitsSave-taken}
use Rattle.pf_graph.proofs.Spanning.GrowLemmas.{IsGrown-start, IsGrown-push, IsGrown-end}
use Rattle.pf_base.proofs.Outcomes.{if_refused, refused_as, refused_by}
use Rattle.std.proofs.lemmas.Result.{IfOk-from_err}
use Rattle.pf_graph.proofs.undirected.prim.grow.Goals as goal

pub cover-requires-clause-waits : goal.cover-requires-clause-waits
cover-requires-clause-waits g c = subst (λ q. WaitsSave c.args.chains.now c.args.covered.now c.args.start q) (sym c.new-queue.ensures.items) (WaitsSave-start c.args.chains.now c.args.covered.now c.args.start c.requires.none)

pub turns-init : goal.turns-init
turns-init g c =
    let e = c.in_ok-cover.ensures in
    record {
      len = ap length e.covered ∙ length-set c.args.covered.now c.args.start true ∙ c.requires.len;
      ordered = e.ordered;
      waits = e.waits;
      grown = λ nodes edges x r at.
          subst (λ bs. IsGrown g.N.PartialEq.eq g.N.Ord.cmp g.C.Ord.cmp g.C.Clone.is_clone nodes edges x bs (map shown c.new-tree.result.items)) (sym e.covered)
          (subst (λ es. IsGrown g.N.PartialEq.eq g.N.Ord.cmp g.C.Ord.cmp g.C.Clone.is_clone nodes edges x (slice_set c.args.covered.now c.args.start true) (map shown es)) (sym c.new-tree.ensures.items)
          (IsGrown-start g.met.N.Eq.laws nodes g.met.C.Ord.total edges c.args.chains.now r x c.args.covered.now c.args.start (subst (λ (n : ℕ). c.args.start < n) (sym c.requires.len) c.requires.inside) c.requires.none at));
    }

pub next_leaving-requires-clause-inside : goal.next_leaving-requires-clause-inside
next_leaving-requires-clause-inside g c = λ r h.
    let w = c.turns.invariant.waits.from r h in
    subst (λ (n : ℕ). r.0.number < n) (sym c.turns.invariant.len) (runs_inside c.args.chains.now c.requires.chained w.0 r.0.number (edge_of r.0) w.2)

pub cover-requires-in-Some-clause-inside : goal.cover-requires-in-Some-clause-inside
cover-requires-in-Some-clause-inside g c =
    let w = c.turns.invariant.waits.from (record { 0 = c.in-Some.step }) c.in-Some.ensures.taken.waited in
    runs_inside c.args.chains.now c.requires.chained w.0 c.in-Some.step.number (edge_of c.in-Some.step) w.2

pub cover-requires-in-Some-clause-waits : goal.cover-requires-in-Some-clause-waits
cover-requires-in-Some-clause-waits g c = WaitsSave-taken c.args.chains.now g.N.Ord.cmp g.C.Ord.cmp c.turns.covered (heap_items c.turns.queue) (heap_items c.next_leaving.new.queue) c.in-Some.step c.turns.invariant.waits c.in-Some.ensures.taken

pub turns-smaller : goal.turns-smaller
turns-smaller g c = subst (λ bs. open_count bs < open_count c.turns.covered) (sym c.in_ok-cover-2.ensures.covered) (open_less c.turns.covered c.in-Some.step.number c.in-Some.ensures.taken.new)

pub turns-preserved : goal.turns-preserved
turns-preserved g c =
    let i = c.turns.invariant in
    let e = c.in_ok-cover-2.ensures in
    let s = c.in-Some.step in
    let taken = c.taken-edge.ensures in
    let clone = c.in_ok-clone.field-0 in
    record {
      len = ap length e.covered ∙ length-set c.turns.covered s.number true ∙ i.len;
      ordered = e.ordered;
      waits = e.waits;
      grown = λ nodes edges x r at.
          subst (λ bs. IsGrown g.N.PartialEq.eq g.N.Ord.cmp g.C.Ord.cmp g.C.Clone.is_clone nodes edges x bs (map shown c.push.new.self.items)) (sym e.covered)
          (subst (λ es. IsGrown g.N.PartialEq.eq g.N.Ord.cmp g.C.Ord.cmp g.C.Clone.is_clone nodes edges x (slice_set c.turns.covered s.number true) es) (sym (ap (map shown) c.in_ok-push.ensures.items ∙ map-append shown c.turns.tree.items _))
          (subst (λ (f : g.row.N.Denot × g.row.N.Denot × g.row.C.Denot). IsGrown g.N.PartialEq.eq g.N.Ord.cmp g.C.Ord.cmp g.C.Clone.is_clone nodes edges x (slice_set c.turns.covered s.number true) (map shown c.turns.tree.items ++ (f.0, f.1, clone) ∷ [])) (sym taken)
          (IsGrown-push g.met.N.Eq.laws nodes g.met.C.Ord.total edges c.args.chains.now r x c.turns.covered i.len (heap_items c.turns.queue) i.waits (map shown c.turns.tree.items) (i.grown nodes edges x r at)
          g.met.C.Ord.matches_eq c.requires.clones (heap_items c.next_leaving.new.queue) s c.in-Some.ensures.taken clone (subst (λ (f : g.row.N.Denot × g.row.N.Denot × g.row.C.Denot). g.C.Clone.is_clone f.2 clone) taken c.in_ok-clone.ensures.cases))));
    }

pub returns : goal.returns
returns g c = record {
  grown = λ nodes edges x r at.
      let i = c.turns.invariant in
      IsGrown-end g.met.N.Eq.laws nodes g.met.C.Ord.total edges c.args.chains.now r x c.turns.covered i.len (heap_items c.turns.queue) i.waits (map shown c.turns.tree.items) (i.grown nodes edges x r at) c.in_default.ensures.taken;
  refused = tt;
}

pub cover-requires-clause-len : goal.cover-requires-clause-len
cover-requires-clause-len g c = c.requires.len

pub cover-requires-clause-inside : goal.cover-requires-clause-inside
cover-requires-clause-inside g c = c.requires.inside

pub cover-requires-clause-chained : goal.cover-requires-clause-chained
cover-requires-clause-chained g c = c.requires.chained

pub next_leaving-requires-clause-ordered : goal.next_leaving-requires-clause-ordered
next_leaving-requires-clause-ordered g c = c.turns.invariant.ordered

pub cover-requires-in-Some-clause-len : goal.cover-requires-in-Some-clause-len
cover-requires-in-Some-clause-len g c = c.turns.invariant.len

pub cover-requires-in-Some-clause-chained : goal.cover-requires-in-Some-clause-chained
cover-requires-in-Some-clause-chained g c = c.requires.chained

pub cover-requires-in-Some-clause-ordered : goal.cover-requires-in-Some-clause-ordered
cover-requires-in-Some-clause-ordered g c = c.next_leaving.ensures.ordered

pub returns-in_err-cover : goal.returns-in_err-cover
returns-in_err-cover g c = record {
  grown = if_refused _ c.from_residual.result _ c.from_residual.ensures.1;
  refused = refused_as _ c.from_residual.result _ c.from_residual.ensures.1 c.in_err-cover.ensures.refused;
}

pub returns-in_err-clone : goal.returns-in_err-clone
returns-in_err-clone g c = record {
  grown = IfOk-from_err _ _ c.from_residual-in_err-clone.ensures.0;
  refused = refused_by _ c.from_residual-in_err-clone.result c.from_residual-in_err-clone.ensures.1;
}

pub returns-in_err-push : goal.returns-in_err-push
returns-in_err-push g c = record {
  grown = IfOk-from_err _ _ c.from_residual-in_err-push.ensures.0;
  refused = refused_by _ c.from_residual-in_err-push.result c.from_residual-in_err-push.ensures.1;
}

pub returns-in_err-cover-2 : goal.returns-in_err-cover-2
returns-in_err-cover-2 g c = record {
  grown = if_refused _ c.from_residual-in_err-cover-2.result _ c.from_residual-in_err-cover-2.ensures.1;
  refused = refused_as _ c.from_residual-in_err-cover-2.result _ c.from_residual-in_err-cover-2.ensures.1 c.in_err-cover-2.ensures.refused;
}
