use Rattle.std.proofs.Common.{Ok, Err, Some, None, [], ◌∷◌, ◌≡◌, ◌∙◌, sym, ap, subst, refl, length, inl, inr, arith, nat_eq}
use Rattle.std.proofs.lemmas.Result.{IfOk-from_err}
use Rattle.pf_base.specs.declared.error.PathError.{PathError}
use Rattle.pf_base.proofs.Callers.{SameNodes-refl}
use Rattle.pf_core.specs.Labels.{Labels, by_cost}
use Rattle.pf_core.specs.Search.{HasBarredStep, IsWithinRange}
use Rattle.pf_core.specs.Nodes.{IsStep, StandsFor}
use Rattle.pf_core.proofs.LabelLemmas.{parent_labelled}
use Rattle.pf_core.proofs.ReadLemmas.{same_most, still_at, was_at, still_least, still_labelled, still_search, turned_from}
use Rattle.pf_core.proofs.TurnLemmas.{least_is}
use Rattle.pf_core.proofs.SearchLemmas.{search_grows}
use Rattle.pf_search.specs.CheapestFirst.{given_nodes, IsCheapestWalk, RefusedFor, IsBarred}
use Rattle.pf_search.proofs.BreadthLemmas.{Same-sym}
use Rattle.pf_search.proofs.BreadthSteps.{kept_all}
use Rattle.pf_search.proofs.CheapestLemmas.{seen, costs, all_given, stands_at, left_at, next_is, past_at, goes_on, no_more, one_more, turn_refused, ended_bar, bar_kept, no_bar, bar_refused, turn_seen, bar_seen, item_read, seen_same, seen_ended, known, bar_known, next_kept, next_number, front_next}
use Rattle.pf_search.proofs.GivenLemmas.{given_count, given_same}
use Rattle.pf_discovery.proofs.StillLemmas.{read_inside}
use Rattle.pf_search.proofs.directed.dijkstra_reach.DijkstraReachableBy.step.Goals as goal

no_overflow : ¬ (PathError.OutOfMemory ≡ PathError.CostOverflow)
no_overflow e = cc

pub returns-in_default-clause-steps : goal.returns-in_default-clause-steps
returns-in_default-clause-steps g c = λ edges start w.
    let eq = g.N.PartialEq.eq in
    let i = c.self.inside in
    let v = subst (IsCheapestWalk eq g.C.Number.value edges start _) (sym c.self.view_is) w in
    let s = seen (g.M.Numbering.keys i.discovery.nodes) i.search.labels.items i.search.queue.front i.refused i.discovery.source.function in
    turn_seen eq g.met.N.Eq.laws g.C.Number.value _ edges start g.C.Number.fits s _ s _ (Ok None) c.self.view_is (seen_ended (g.M.Numbering.keys i.discovery.nodes) i.refused i.discovery.source.function _ _ i.search.queue.front c.least.new.self.queue.front c.in_default.ensures.same c.in_default.ensures.least) (v, (all_given g.N.PartialEq.eq g.met.N.Eq.laws g.C.Number.value _ edges start s v c.self.invariant.0.tree c.in_default.ensures.least, refl))

pub item_at-requires-clause-labelled : goal.item_at-requires-clause-labelled
item_at-requires-clause-labelled g c = still_labelled _ _ c.in-Some.ensures.same g.C.Number.value c.in-Some.number c.in-Some.ensures.least

pub item_at-requires-clause-inside : goal.item_at-requires-clause-inside
item_at-requires-clause-inside g c =
    let z = c.in-Some.ensures.least in
    read_inside _ _ c.self.inside.search.labels.items c.in-Some.number z.0 z.1.at c.self.invariant.1 c.as_slice.ensures.keys

pub item_at-requires-clause-behind : goal.item_at-requires-clause-behind
item_at-requires-clause-behind g c = λ l h deep.
    let labels = c.self.inside.search.labels.items in
    let m = parent_labelled labels c.self.invariant.0.tree c.in-Some.number l (was_at _ _ c.in-Some.ensures.same c.in-Some.number l h) deep in
    read_inside _ _ labels l.parent m.0 m.1 c.self.invariant.1 c.as_slice.ensures.keys

pub returns-in_err-item-clause-steps : goal.returns-in_err-item-clause-steps
returns-in_err-item-clause-steps g c = λ edges start w.
    let eq = g.N.PartialEq.eq in
    let laws = g.met.N.Eq.laws in
    let i = c.self.inside in
    let v = subst (IsCheapestWalk eq g.C.Number.value edges start _) (sym c.self.view_is) w in
    let z = c.in-Some.ensures.least in
    let s = seen (g.M.Numbering.keys i.discovery.nodes) i.search.labels.items i.search.queue.front i.refused i.discovery.source.function in
    let t = seen (g.M.Numbering.keys i.discovery.nodes) i.search.labels.items c.least.new.self.queue.front i.refused i.discovery.source.function in
    turn_seen eq laws g.C.Number.value _ edges start g.C.Number.fits s _ t _ c.from_residual.result c.self.view_is (seen_same (g.M.Numbering.keys i.discovery.nodes) i.refused i.discovery.source.function _ _ _ _ c.in-Some.ensures.same refl) (
      known eq g.C.Number.value edges start _ s t.search.next v,
      turn_refused eq g.C.Number.value edges start g.C.Number.fits s t c.from_residual.result c.in_err-item.field-0.0 c.from_residual.ensures.1
          (inl c.in_err-item.ensures.refused) (left_at eq laws g.C.Number.value _ edges start s v c.self.invariant.0.tree c.in-Some.number z.0 z.1) (λ x cost. ((λ h. h), λ h. h)) (SameNodes-refl eq laws.refl (given_nodes s)) (refl, SameNodes-refl eq laws.refl (g.M.Numbering.keys i.discovery.nodes)),
    )

pub turn-requires-clause-least : goal.turn-requires-clause-least
turn-requires-clause-least g c = still_least _ _ c.in-Some.ensures.same g.C.Number.value c.in-Some.number c.in-Some.ensures.least

pub turn-requires-clause-graph : goal.turn-requires-clause-graph
turn-requires-clause-graph g c =
    let r = c.requires.walk in
    let v = subst (IsCheapestWalk g.N.PartialEq.eq g.C.Number.value r.0 r.1 _) (sym c.self.view_is) r.2 in
    (_, v.explored)

pub returns-in_err-turn-clause-steps : goal.returns-in_err-turn-clause-steps
returns-in_err-turn-clause-steps g c = λ edges start w.
    let eq = g.N.PartialEq.eq in
    let laws = g.met.N.Eq.laws in
    let i = c.self.inside in
    let v = subst (IsCheapestWalk eq g.C.Number.value edges start _) (sym c.self.view_is) w in
    let z = c.in-Some.ensures.least in
    let e = c.in_err-turn.ensures in
    let tree = c.self.invariant.0.tree in
    let wide = c.self.invariant.1 in
    let same = c.in-Some.ensures.same in
    let new = c.turn.new.graph in
    let s = seen (g.M.Numbering.keys i.discovery.nodes) i.search.labels.items i.search.queue.front i.refused i.discovery.source.function in
    let t = seen (g.M.Numbering.keys new.nodes) i.search.labels.items c.least.new.self.queue.front i.refused new.source.function in
    let explored = e.graph _ v.explored in
    let search = search_grows (by_cost g.C.Number.value) (IsStep eq _) (λ k. nat_eq k 0) _ _ _ _ e.grows i.search.labels.items (same_most _ _ wide) v.search in
    let x = stands_at eq laws g.C.Number.value _ edges start s v tree c.in-Some.number z.0 z.1 in
    let found = Same-sym eq laws (g.M.Numbering.keys i.discovery.nodes) (g.M.Numbering.keys new.nodes) (kept_all eq laws (g.M.Numbering.keys i.discovery.nodes) (g.M.Numbering.keys new.nodes) e.grows e.kept.0) in
    let why = elim e.errors as (λ _. RefusedFor eq g.C.Number.value edges start g.C.Number.fits s c.in_err-turn.field-0.0) [
      | inl f ↦ inl f
      | inr f ↦ inr (f, past_at eq laws g.C.Number.value _ edges start s v tree c.in-Some.number z.0 z.1 g.C.Number.fits x.0 x.1 (e.overflow (ap Err f) _ v.explored x.0 x.1 z.0 (still_at _ _ same _ _ z.1.at)))
    ] in
    turn_seen eq laws g.C.Number.value _ edges start g.C.Number.fits s _ t _ c.from_residual-in_err-turn.result c.self.view_is (seen_same (g.M.Numbering.keys new.nodes) i.refused new.source.function _ _ _ _ (e.kept.1 ∙ same) e.kept.3) (
      goes_on eq laws g.C.Number.value _ edges start s v tree wide t e.grows explored refl (sym (ap length (e.kept.1 ∙ same)) ∙ e.wide) search,
      turn_refused eq g.C.Number.value edges start g.C.Number.fits s t c.from_residual-in_err-turn.result c.in_err-turn.field-0.0 c.from_residual-in_err-turn.ensures.1
          why (left_at eq laws g.C.Number.value _ edges start s v tree c.in-Some.number z.0 z.1) (no_more eq laws g.C.Number.value _ edges start s v tree wide t e.grows explored refl refl)
          (given_same eq (g.M.Numbering.keys i.discovery.nodes) (g.M.Numbering.keys new.nodes) i.search.labels.items found) (refl, found),
    )

pub returns-clause-steps : goal.returns-clause-steps
returns-clause-steps g c = λ edges start w.
    let eq = g.N.PartialEq.eq in
    let laws = g.met.N.Eq.laws in
    let i = c.self.inside in
    let v = subst (IsCheapestWalk eq g.C.Number.value edges start _) (sym c.self.view_is) w in
    let z = c.in-Some.ensures.least in
    let e = c.in_ok-turn.ensures in
    let tree = c.self.invariant.0.tree in
    let wide = c.self.invariant.1 in
    let same = c.in-Some.ensures.same in
    let new = c.turn.new.graph in
    let s = seen (g.M.Numbering.keys i.discovery.nodes) i.search.labels.items i.search.queue.front i.refused i.discovery.source.function in
    let t = seen (g.M.Numbering.keys new.nodes) c.turn.new.self.labels.items c.turn.new.self.queue.front i.refused new.source.function in
    let explored = e.graph _ v.explored in
    let search = e.search _ v.explored (costs eq laws g.C.Number.value _ edges start s v tree) (λ k. nat_eq k 0) (still_search _ _ same (by_cost g.C.Number.value) (IsStep eq _) (λ k. nat_eq k 0) _ v.search) in
    let item = item_read eq c.in-Some.number c.in_ok-item.item _ _ _ _ same c.as_slice.ensures.keys c.in_ok-item.ensures.item in
    let least = least_is (by_cost g.C.Number.value) i.search.labels.items c.in-Some.number z.0 item.0 z.1 item.1 in
    let turned = turned_from _ _ same c.in-Some.number item.0 _ item.1 e.turned in
    turn_seen eq laws g.C.Number.value _ edges start g.C.Number.fits s _ t _ (Ok (Some c.in_ok-item.item)) c.self.view_is refl (
      goes_on eq laws g.C.Number.value _ edges start s v tree wide t e.grows explored refl e.wide search,
      (
        next_is eq laws g.C.Number.value _ edges start s v tree c.in-Some.number item.0 least c.in_ok-item.item item.2 item.3 item.4,
        one_more eq laws g.C.Number.value _ edges start s v tree wide t e.grows explored refl c.in-Some.number item.0 item.1 turned c.in_ok-item.item item.2 item.3,
      ),
    )

pub returns-in_default-clause-bars : goal.returns-in_default-clause-bars
returns-in_default-clause-bars g c = λ edges start w.
    let eq = g.N.PartialEq.eq in
    let i = c.self.inside in
    let v = subst (IsCheapestWalk eq g.C.Number.value edges start _) (sym c.self.view_is) w in
    let s = seen (g.M.Numbering.keys i.discovery.nodes) i.search.labels.items i.search.queue.front i.refused i.discovery.source.function in
    bar_seen eq g.C.Number.value edges start g.C.Number.fits s s _ _ (Ok None) c.self.view_is (seen_ended (g.M.Numbering.keys i.discovery.nodes) i.refused i.discovery.source.function _ _ i.search.queue.front c.least.new.self.queue.front c.in_default.ensures.same c.in_default.ensures.least) (ended_bar g.N.PartialEq.eq g.met.N.Eq.laws g.C.Number.value _ edges start s v c.self.invariant.0.tree g.C.Number.fits c.in_default.ensures.least)

pub returns-in_err-item-clause-bars : goal.returns-in_err-item-clause-bars
returns-in_err-item-clause-bars g c = λ edges start w.
    let eq = g.N.PartialEq.eq in
    let i = c.self.inside in
    let s = seen (g.M.Numbering.keys i.discovery.nodes) i.search.labels.items i.search.queue.front i.refused i.discovery.source.function in
    let t = seen (g.M.Numbering.keys i.discovery.nodes) i.search.labels.items c.least.new.self.queue.front i.refused i.discovery.source.function in
    let next = next_kept i.search.labels.items i.search.queue.front c.least.new.self.queue.front c.in-Some.number c.in-Some.ensures.again c.in-Some.ensures.front in
    bar_seen eq g.C.Number.value edges start g.C.Number.fits s t _ _ c.from_residual.result c.self.view_is (seen_same (g.M.Numbering.keys i.discovery.nodes) i.refused i.discovery.source.function _ _ _ _ c.in-Some.ensures.same refl) (bar_refused eq g.C.Number.value edges start g.C.Number.fits s t c.from_residual.result c.in_err-item.field-0.0 c.from_residual.ensures.1
    (λ why. elim why as (λ _. IsBarred eq g.C.Number.value edges start g.C.Number.fits t) [ inl o ↦ absurd (no_overflow (sym c.in_err-item.ensures.refused ∙ o)) | inr b ↦ bar_known eq g.C.Number.value edges start g.C.Number.fits s t.search.next next b ]))

pub returns-in_err-turn-clause-bars : goal.returns-in_err-turn-clause-bars
returns-in_err-turn-clause-bars g c = λ edges start w.
    let eq = g.N.PartialEq.eq in
    let laws = g.met.N.Eq.laws in
    let i = c.self.inside in
    let v = subst (IsCheapestWalk eq g.C.Number.value edges start _) (sym c.self.view_is) w in
    let z = c.in-Some.ensures.least in
    let e = c.in_err-turn.ensures in
    let tree = c.self.invariant.0.tree in
    let same = c.in-Some.ensures.same in
    let new = c.turn.new.graph in
    let s = seen (g.M.Numbering.keys i.discovery.nodes) i.search.labels.items i.search.queue.front i.refused i.discovery.source.function in
    let t = seen (g.M.Numbering.keys new.nodes) i.search.labels.items c.least.new.self.queue.front i.refused new.source.function in
    let s' = seen (g.M.Numbering.keys i.discovery.nodes) i.search.labels.items c.least.new.self.queue.front i.refused i.discovery.source.function in
    let next = next_kept i.search.labels.items i.search.queue.front c.least.new.self.queue.front c.in-Some.number c.in-Some.ensures.again c.in-Some.ensures.front in
    let kept = bar_kept eq laws g.C.Number.value _ edges start s' (known eq g.C.Number.value edges start _ s s'.search.next v) tree c.self.invariant.1 t e.grows (e.graph _ v.explored) refl g.C.Number.fits refl (λ k q. q) in
    let x = stands_at eq laws g.C.Number.value _ edges start s v tree c.in-Some.number z.0 z.1 in
    bar_seen eq g.C.Number.value edges start g.C.Number.fits s t _ _ c.from_residual-in_err-turn.result c.self.view_is (seen_same (g.M.Numbering.keys new.nodes) i.refused new.source.function _ _ _ _ (e.kept.1 ∙ same) e.kept.3) (bar_refused eq g.C.Number.value edges start g.C.Number.fits s t c.from_residual-in_err-turn.result c.in_err-turn.field-0.0 c.from_residual-in_err-turn.ensures.1
    (λ why. elim why as (λ _. IsBarred eq g.C.Number.value edges start g.C.Number.fits t) [
      | inl o ↦ kept (record { number = c.in-Some.number; label = z.0; least = z.1; next = front_next i.search.labels.items c.least.new.self.queue.front c.in-Some.number c.in-Some.ensures.front (z.0, z.1.at, z.1.opened); node = x.0; here = x.1; step = subst (λ (ls : Labels g.row.C.Denot). HasBarredStep (IsStep eq (record { starts = start ∷ []; edges = edges })) (StandsFor eq (g.M.Numbering.keys i.discovery.nodes)) ls g.C.Number.fits x.0 (g.C.Number.value z.0.cost)) same (e.barred (ap Err o) _ v.explored x.0 x.1 z.0 (still_at _ _ same _ _ z.1.at)) })
      | inr b ↦ kept (bar_known eq g.C.Number.value edges start g.C.Number.fits s s'.search.next next b)
    ]))

pub returns-clause-bars : goal.returns-clause-bars
returns-clause-bars g c = λ edges start w.
    let eq = g.N.PartialEq.eq in
    let laws = g.met.N.Eq.laws in
    let i = c.self.inside in
    let v = subst (IsCheapestWalk eq g.C.Number.value edges start _) (sym c.self.view_is) w in
    let z = c.in-Some.ensures.least in
    let e = c.in_ok-turn.ensures in
    let same = c.in-Some.ensures.same in
    let new = c.turn.new.graph in
    let s = seen (g.M.Numbering.keys i.discovery.nodes) i.search.labels.items i.search.queue.front i.refused i.discovery.source.function in
    let t = seen (g.M.Numbering.keys new.nodes) c.turn.new.self.labels.items c.turn.new.self.queue.front i.refused new.source.function in
    bar_seen eq g.C.Number.value edges start g.C.Number.fits s t _ _ (Ok (Some c.in_ok-item.item)) c.self.view_is refl (no_bar eq laws g.C.Number.value _ edges start s v c.self.invariant.0.tree c.self.invariant.1 t e.grows (e.graph _ v.explored) refl g.C.Number.fits c.in-Some.number z.0 z.1 (next_number i.search.labels.items i.search.queue.front c.in-Some.number c.in-Some.ensures.again)
    (λ x here y q step. subst (λ (ls : Labels g.row.C.Denot). IsWithinRange (IsStep eq (record { starts = start ∷ []; edges = edges })) (StandsFor eq (g.M.Numbering.keys i.discovery.nodes)) ls g.C.Number.fits x (g.C.Number.value z.0.cost) (StandsFor eq (g.M.Numbering.keys new.nodes)) y) same (e.within _ v.explored x here z.0 (still_at _ _ same _ _ z.1.at) y q step)))

pub returns-in_default-clause-counts : goal.returns-in_default-clause-counts
returns-in_default-clause-counts g c = tt

pub returns-in_err-item-clause-counts : goal.returns-in_err-item-clause-counts
returns-in_err-item-clause-counts g c = IfOk-from_err _ _ c.from_residual.ensures.0

pub returns-in_err-turn-clause-counts : goal.returns-in_err-turn-clause-counts
returns-in_err-turn-clause-counts g c = IfOk-from_err _ _ c.from_residual-in_err-turn.ensures.0

pub returns-clause-counts : goal.returns-clause-counts
returns-clause-counts g c =
    let i = c.self.inside in
    let z = c.in-Some.ensures.least in
    let e = c.in_ok-turn.ensures in
    let turned = turned_from _ _ c.in-Some.ensures.same c.in-Some.number z.0 _ z.1.at e.turned in
    rw (← c.self.view_is) (omega (arith, turned.count, given_count (g.M.Numbering.keys i.discovery.nodes) i.search.labels.items c.self.invariant.1, given_count (g.M.Numbering.keys c.turn.new.graph.nodes) c.turn.new.self.labels.items e.wide))

pub item_at-requires-clause-clones : goal.item_at-requires-clause-clones
item_at-requires-clause-clones g c = c.requires.clones

pub invariant_of-self : goal.invariant_of-self
invariant_of-self g c = (c.in_default.ensures.sound, ap length c.in_default.ensures.same ∙ c.self.invariant.1)

pub invariant_of-self-in_err-item : goal.invariant_of-self-in_err-item
invariant_of-self-in_err-item g c = (c.in-Some.ensures.sound, ap length c.in-Some.ensures.same ∙ c.self.invariant.1)

pub invariant_of-self-in_err-turn : goal.invariant_of-self-in_err-turn
invariant_of-self-in_err-turn g c = (c.in_err-turn.ensures.sound, c.in_err-turn.ensures.wide)

pub invariant_of-self-2 : goal.invariant_of-self-2
invariant_of-self-2 g c = (c.in_ok-turn.ensures.sound, c.in_ok-turn.ensures.wide)

pub turn-requires-clause-sound : goal.turn-requires-clause-sound
turn-requires-clause-sound g c = c.in-Some.ensures.sound

pub turn-requires-clause-wide : goal.turn-requires-clause-wide
turn-requires-clause-wide g c = ap length c.in-Some.ensures.same ∙ c.self.invariant.1
