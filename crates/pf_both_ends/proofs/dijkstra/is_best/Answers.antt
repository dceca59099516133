use Rattle.std.proofs.Common.{ℤ, Some, None, subst, arith, refl}
use Rattle.std.specs.Prelude.{◌≤ℤ◌, ◌<ℤ◌, MatchBool}
use Rattle.std.proofs.lemmas.Int.{ints}
use Rattle.pf_both_ends.proofs.BothEndsLemmas.{past_greatest}
use Rattle.pf_both_ends.proofs.dijkstra.is_best.Goals as goal

pub returns-in_default : goal.returns-in_default
returns-in_default g c = record {
  decided = λ low. rw c.in_default.is refl;
  fit = (c.known.ensures, c.known-2.ensures);
}

pub returns-in-Some-checked_add : goal.returns-in-Some-checked_add
returns-in-Some-checked_add g c = record {
  decided = λ low.
      let sum = g.met.C.CheckedAdd.checked_add_law c.args.forth c.args.back (Some c.in-Some-checked_add.sum) c.in-Some-checked_add.ensures in
      let meeting = g.C.Number.value c.in-Some.meeting.cost in
      rw c.in-Some.is (subst (λ (n : ℤ). MatchBool c.is_at_most.result (meeting ≤ℤ n) (n <ℤ meeting)) sum.1 c.is_at_most.ensures);
  fit = (c.known.ensures, c.known-2.ensures);
}

pub returns-in-None : goal.returns-in-None
returns-in-None g c = record {
  decided = λ low.
      let value = g.C.Number.value in
      let never = g.met.C.CheckedAdd.checked_add_law c.args.forth c.args.back None c.in-None.ensures in
      let past = past_greatest g.C.Number.fits (value g.C.Cost.least) (value g.C.Cost.greatest) g.met.C.Cost.range_law (value c.args.forth) (value c.args.back) c.known.ensures low never in
      let top = (g.met.C.Cost.range_law (value c.in-Some.meeting.cost)).0 c.known-3.ensures in
      rw c.in-Some.is (omega (arith, ints, past, top.1));
  fit = (c.known.ensures, c.known-2.ensures);
}
