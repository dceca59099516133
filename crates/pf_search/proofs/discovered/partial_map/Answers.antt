use Rattle.std.proofs.Common.{◌≡◌, inl, ◌<◌, [], ◌∷◌, List, ℕ, ℤ, Bool, Option, ap, sym, subst, arith, length, refl}
use Rattle.std.specs.Prelude.{Err}
use Rattle.std.specs.HashMap.{get}
use Rattle.pf_base.specs.declared.error.PathError.TheVariants.{CostOverflow}
use Rattle.pf_core.specs.Nodes.{TestedGraph, StandsFor}
use Rattle.pf_core.specs.NodeLaws.{StandsFor-one}
use Rattle.pf_core.specs.Labels.{Labels, HasLabel}
use Rattle.pf_core.proofs.LabelLemmas.{HasLabel-inside}
use Rattle.pf_search.specs.Parents.{IsPartialMap}
use Rattle.pf_core.specs.Searched.{HasSearched}
use Rattle.pf_discovery.proofs.StillLemmas.{read_at, read_inside}
use Rattle.pf_base.proofs.Outcomes.{if_refused, memory_no_overflow, no_memory_or, no_overflow, ok_is_no_error, overflow_kept, refused_as}
use Rattle.pf_core.proofs.WalkLemmas.{all_starts, only_starts, no_negative, cost_overflows}
use Rattle.pf_search.proofs.PartialLemmas.{parent_inside, reached_at, begins_on, maps_read, whole_map, stopped_map}
use Rattle.pf_search.proofs.discovered.partial_map.Goals.{in-Some+in_ok-clone-in-Some, in-None}
use Rattle.pf_discovery.proofs.ResultLemmas.{when_none}
use Rattle.pf_core.proofs.SearchedLemmas.{is_least}
use Rattle.std.proofs.lemmas.Result.{IfOk-from_err}
use Rattle.pf_search.proofs.discovered.partial_map.Goals as goal

-- the graph that these functions answer
abbrev tested : {N : Type 0} → N → (N → List (N × ℤ)) → (N → Bool) → TestedGraph N
tested start edges test = record { graph = record { starts = start ∷ []; edges = edges }; test = test }

pub search_to_goal-requires-clause-begins : goal.search_to_goal-requires-clause-begins
search_to_goal-requires-clause-begins g c = let r = c.requires.graph in (r.1, (r.3.begins r.1).1 (g.met.N.Eq.laws.refl r.1))

pub search_to_goal-requires-clause-graph : goal.search_to_goal-requires-clause-graph
search_to_goal-requires-clause-graph g c =
    let r = c.requires.graph in
    (tested r.1 r.0 r.2, (r.3.explores, r.3.tested))

pub returns-in_err-labels : goal.returns-in_err-labels
returns-in_err-labels g c = record {
  overflow = λ edges start test s costs e.
      let t = s.tested in
      let eq = g.N.PartialEq.eq in
      let laws = g.met.N.Eq.laws in
      let h = tested start edges test in
      let x = s.explores in
      let keys = g.M.Numbering.keys c.search_to_goal.new.graph.discovery.nodes in
      let y = c.in_err-labels.ensures.graph h (x, t) in
      let f : c.in_err-labels.field-0.0 ≡ CostOverflow = overflow_kept c.from_residual.result c.in_err-labels.field-0.0 c.from_residual.ensures.1 e in
      let d = c.in_err-labels.ensures.overflow h (x, t) (no_negative eq laws h.graph x.alike costs) (ap Err f) in
      cost_overflows eq laws h.graph x.alike _ (all_starts eq start _ s.begins) (only_starts eq start _ s.begins) test g.C.Number.fits keys (StandsFor-one eq laws keys y.0.distinct) d;
  partial = λ edges start test s costs. if_refused _ c.from_residual.result c.in_err-labels.field-0.0 c.from_residual.ensures.1;
  errors = refused_as _ c.from_residual.result c.in_err-labels.field-0.0 c.from_residual.ensures.1 c.in_err-labels.ensures.errors;
}

pub returns-in_err-parents : goal.returns-in_err-parents
returns-in_err-parents g c = record {
  partial = λ edges start test s costs. if_refused _ c.from_residual-in_err-parents.result c.in_err-parents.field-0.0 c.from_residual-in_err-parents.ensures.1;
  errors = refused_as _ c.from_residual-in_err-parents.result c.in_err-parents.field-0.0 c.from_residual-in_err-parents.ensures.1 (inl c.in_err-parents.ensures.refused);
  overflow = λ edges start test s costs e. absurd (no_overflow c.from_residual-in_err-parents.result c.in_err-parents.field-0.0 c.from_residual-in_err-parents.ensures.1 c.in_err-parents.ensures.refused e);
}

pub map_of-requires-clause-behind : goal.map_of-requires-clause-behind
map_of-requires-clause-behind g c =
    let r = c.requires.graph in
    let start = r.1 in
    let s = r.3 in
    let costs = r.4 in
    let eq = g.N.PartialEq.eq in
    let laws = g.met.N.Eq.laws in
    let h = tested start r.0 r.2 in
    let x = s.explores in
    let keys = g.M.Numbering.keys c.search_to_goal.new.graph.discovery.nodes in
    let e = c.in_ok-labels.ensures in
    let y = e.graph h (x, s.tested) in
    let labels = c.in_ok-labels.labels.items in
    λ k l positive at.
    let inside = parent_inside eq laws g.C.Number.value r.0 start x.alike costs keys (StandsFor-one eq laws keys y.0.distinct) (reached_at eq laws r.0 start keys y.0.reached) (begins_on eq start (g.M.Numbering.keys c.args.graph.now.discovery.nodes) keys c.requires.one e.grows s.begins)
    labels e.tree (e.searched h (x, s.tested) (no_negative eq laws h.graph x.alike costs)).search k l (subst (λ (ls : Labels g.row.C.Denot). HasLabel ls k l) c.deref.ensures.value at) positive in
    omega (arith, inside, ap length c.as_slice-nodes.ensures.keys, e.wide)

pub bounds-nodes-number : goal.bounds-nodes-number
bounds-nodes-number g c =
    let e = c.in_ok-labels.ensures in
    let z = is_least g.C.Number.value c.in_ok-labels.labels.items _ c.in-Some.number c.in-Some.is e.least in
    read_inside _ _ c.in_ok-labels.labels.items c.in-Some.number z.0 z.1.at e.wide c.as_slice-nodes.ensures.keys

pub offset_bounds-nodes-number : goal.offset_bounds-nodes-number
offset_bounds-nodes-number g c = omega (arith, bounds-nodes-number g c)

pub map_of-requires-clause-clones : goal.map_of-requires-clause-clones
map_of-requires-clause-clones g c = c.requires.clones

pub returns : goal.returns
returns g c = record {
  partial = λ edges start test s costs.
      let t = s.tested in
      let eq = g.N.PartialEq.eq in
      let laws = g.met.N.Eq.laws in
      let h = tested start edges test in
      let x = s.explores in
      let keys = g.M.Numbering.keys c.search_to_goal.new.graph.discovery.nodes in
      let e = c.in_ok-labels.ensures in
      let y = e.graph h (x, t) in
      let labels = c.in_ok-labels.labels.items in
      let searched = e.searched h (x, t) (no_negative eq laws h.graph x.alike costs) in
      let one = StandsFor-one eq laws keys y.0.distinct in
      let reached = reached_at eq laws edges start keys y.0.reached in
      let begins = begins_on eq start (g.M.Numbering.keys c.args.graph.now.discovery.nodes) keys c.requires.one e.grows s.begins in
      let maps = maps_read eq c.as_slice-nodes.result.now keys _ labels _ c.as_slice-nodes.ensures.keys c.deref.ensures.value c.in_ok-parents.ensures.maps in
      elim c.match-goal.branch [
        | in-Some+in_ok-clone-in-Some w ↦
            let number = w.in-Some.number in
            let s = subst (HasSearched g.C.Number.value _ test _ labels 0) w.in-Some.is searched in
            let z = is_least g.C.Number.value labels _ number w.in-Some.is e.least in
            let inside : number < length keys = subst (λ (n : ℕ). number < n) e.wide (HasLabel-inside labels number z.0 z.1.at) in
            let here = read_at keys _ number _ _ c.as_slice-nodes.ensures.keys inside w.index-nodes-number.is in
            let node = w.in_ok-clone-in-Some.field-0 in
            let stands : StandsFor eq keys number node = (w.index-nodes-number.result, here, c.requires.clones _ _ w.in_ok-clone-in-Some.ensures.cases) in
            subst (λ (s : Option g.row.N.Denot). IsPartialMap eq edges start g.C.Number.value (get eq c.in_ok-parents.parents) test s) (sym w.stopped-is) (stopped_map eq laws g.C.Number.value edges start x.alike costs keys one reached begins labels e.tree s.search _ maps test s.passed s.order s.settled number z.0 node s.first z.1 stands (s.found node stands))
        | in-None w ↦
            let s = subst (HasSearched g.C.Number.value _ test _ labels 0) w.in-None.is searched in
            subst (λ (s : Option g.row.N.Denot). IsPartialMap eq edges start g.C.Number.value (get eq c.in_ok-parents.parents) test s) (sym w.stopped-is) (whole_map eq laws g.C.Number.value edges start x.alike costs keys one reached begins labels e.tree s.search _ maps test s.passed s.order s.settled s.first (when_none _ _ _ w.in-None.is e.least))
      ];
  errors = tt;
  overflow = λ _ _ _ _ _ e. absurd (ok_is_no_error _ _ _ refl e);
}

pub returns-in_err-clone-in-Some : goal.returns-in_err-clone-in-Some
returns-in_err-clone-in-Some g c = record {
  partial = λ _ _ _ _ _. IfOk-from_err _ _ c.from_residual-in_err-clone-in-Some.ensures.0;
  errors = no_memory_or (λ e. e ≡ CostOverflow) c.from_residual-in_err-clone-in-Some.result c.from_residual-in_err-clone-in-Some.ensures.1;
  overflow = λ _ _ _ _ _ e. absurd (memory_no_overflow c.from_residual-in_err-clone-in-Some.result c.from_residual-in_err-clone-in-Some.ensures.1 e);
}
