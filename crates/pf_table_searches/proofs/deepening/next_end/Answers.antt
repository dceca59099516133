use Rattle.std.proofs.Common.{◌≡◌, ◌∙◌, ◌<◌, ℕ, true, false, inl, inr, Some, length, ap, arith, refl, sym}
use Rattle.std.specs.Prelude.{slice_get}
use Rattle.std.proofs.lemmas.Option.{slice_get-get_or}
use Rattle.pf_base.proofs.ListLemmas.{nat_dec}
use Rattle.pf_table_searches.proofs.TrailLemmas.{some_same}
use Rattle.pf_table_searches.proofs.deepening.next_end.Goals as goal
use Rattle.pf_table_searches.proofs.deepening.next_end.Goals.{in-Some+else-not-marked-edge, in_default}

pub returns-then-not-marked-edge : goal.returns-then-not-marked-edge
returns-then-not-marked-edge g c =
    let at = c.edge.ensures ∙ ap Some c.in-Some.is in
    record {
      place = c.places.place;
      cost = c.in-Some.edge.1;
      behind = refl;
      from_first = c.places.auto.place;
      fits = omega arith;
      edge = at;
      inside = c.known.ensures.inside c.args.node c.places.place c.in-Some.edge c.requires.node at;
      free =
          let low : c.in-Some.edge.0 < length c.args.marked.now = omega (arith, c.known.ensures.inside c.args.node c.places.place c.in-Some.edge c.requires.node at, c.requires.wide) in
          slice_get-get_or c.args.marked.now c.in-Some.edge.0 false low ∙ ap Some c.if-not-marked-edge.true;
      before = c.places.invariant;
    }

pub places-preserved : goal.places-preserved
places-preserved g c = λ q e l h at. elim (nat_dec q c.places.place) as (λ _. slice_get c.args.marked.now e.0 ≡ Some true) [
  | inl same ↦
      let here : c.edge.result ≡ Some e = some_same _ _ (sym c.edge.ensures ∙ ap (slice_get (g.G.Graph.places c.args.graph.now c.args.node)) (sym same) ∙ at) in
      elim c.match-edge.branch as (λ _. slice_get c.args.marked.now e.0 ≡ Some true) [
        | in-Some+else-not-marked-edge w ↦
            let edge = w.in-Some.edge in
            let low : edge.0 < length c.args.marked.now = omega (arith, c.known.ensures.inside c.args.node c.places.place edge c.requires.node (c.edge.ensures ∙ ap Some w.in-Some.is), c.requires.wide) in
            let same_end : edge.0 ≡ e.0 = ap (λ (d : ℕ × _). d.0) (some_same edge e (sym w.in-Some.is ∙ here)) in
            ap (slice_get c.args.marked.now) (sym same_end) ∙ slice_get-get_or c.args.marked.now edge.0 false low ∙ ap Some w.if-not-marked-edge.false
        | in_default w ↦ absurd (w.in_default.not-Some e here)
      ]
  | inr other ↦ c.places.invariant q e l (omega (arith, h, other)) at
]
