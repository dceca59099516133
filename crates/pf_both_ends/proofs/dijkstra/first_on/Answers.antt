use Rattle.std.proofs.Common.{ℕ, pos, sym, subst, arith, inl, inr}
use Rattle.std.specs.Prelude.{◌+ℤ◌, ◌≤ℤ◌, ◌<ℤ◌}
use Rattle.std.proofs.lemmas.Int.{ints}
use Rattle.pf_core.specs.Labels.{HasLabel}
use Rattle.pf_core.specs.Nodes.{StandsFor}
use Rattle.pf_base.proofs.ListLemmas.{at_place, Contains-index, Contains-take_more, Contains-take_all}
use Rattle.pf_both_ends.proofs.dijkstra.first_on.Goals.{in-Some+else-is_at_most, in_default}
use Rattle.pf_both_ends.proofs.dijkstra.first_on.Goals as goal

pub meeting_at-requires-clause-inside : goal.meeting_at-requires-clause-inside
meeting_at-requires-clause-inside g c = c.requires.inside _ (Contains-index c.args.numbers.now c.numbers.place 0 c.numbers-test.true)

pub meeting_at-requires-clause-labelled : goal.meeting_at-requires-clause-labelled
meeting_at-requires-clause-labelled g c = c.requires.labelled _ (Contains-index c.args.numbers.now c.numbers.place 0 c.numbers-test.true)

pub returns-then-is_at_most : goal.returns-then-is_at_most
returns-then-is_at_most g c =
    let le : g.C.Number.value c.in-Some.meeting.cost ≤ℤ g.C.Number.value c.args.cost = rw c.if-is_at_most.true at c.is_at_most.ensures in
    let w = c.in-Some.ensures.meets in
    record { first = (at_place c.args.numbers.now c.numbers.place 0 c.in-Some.meeting.here c.numbers-test.true (sym w.0), w.1, le, c.numbers.invariant) }

pub numbers-preserved : goal.numbers-preserved
numbers-preserved g c = λ k h j l m x a b d e pl pm. elim (Contains-take_more c.args.numbers.now c.numbers.place 0 k h) as (λ _. (g.C.Number.value c.args.cost +ℤ pos 1) ≤ℤ (g.C.Number.value l.cost +ℤ g.C.Number.value m.cost)) [
  | inl i ↦ c.numbers.invariant k i j l m x a b d e pl pm
  | inr same ↦
      let here = subst (λ (n : ℕ). StandsFor g.N.PartialEq.eq (g.M.Numbering.keys c.args.nodes.now) n x) (sym same) a in
      let at = subst (λ (n : ℕ). HasLabel c.args.search.now.labels.items n l) (sym same) d in
      elim c.match-meeting_at.branch as (λ _. (g.C.Number.value c.args.cost +ℤ pos 1) ≤ℤ (g.C.Number.value l.cost +ℤ g.C.Number.value m.cost)) [
        | in-Some+else-is_at_most w ↦
            let far : g.C.Number.value c.args.cost <ℤ g.C.Number.value w.in-Some.meeting.cost = rw w.if-is_at_most.false at w.is_at_most.ensures in
            omega (arith, ints, far, w.in-Some.ensures.low j l m x here b at e pl pm)
        | in_default w ↦
            let top = (g.met.C.Cost.range_law (g.C.Number.value c.args.cost)).0 c.known.ensures in
            omega (arith, ints, top.1, w.in_default.ensures.low j l m x here b at e pl pm)
      ]
]

pub returns : goal.returns
returns g c = record { first = λ k h. c.numbers.invariant k (Contains-take_all c.args.numbers.now c.numbers.place k c.numbers-test.false h) }

pub meeting_at-requires-clause-one : goal.meeting_at-requires-clause-one
meeting_at-requires-clause-one g c = c.requires.one

pub meeting_at-requires-clause-wide : goal.meeting_at-requires-clause-wide
meeting_at-requires-clause-wide g c = c.requires.wide
