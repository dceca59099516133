use Rattle.std.proofs.Common.{sym, ◌≡◌, ◌<◌, length, Some, slice_get, arith}
use Rattle.std.proofs.lemmas.Option.{slice_get_within}
use Rattle.pf_base.proofs.ListLemmas.{at_place}
use Rattle.pf_informed.proofs.LabelledLemmas.{past_all}
use Rattle.pf_informed.proofs.cheapest_labels.take_within.Goals as goal

pub take_least-requires : goal.take_least-requires
take_least-requires g c = record {
  queue = c.requires.queue;
  sums = c.requires.sums;
}

pub returns-then-is_past : goal.returns-then-is_past
returns-then-is_past g c = record {
  taken =
      let t = c.in-Some.ensures.taken in
      let p = c.if-is_past.ensures in
      let estimates = c.args.estimates.now.items in
      let inside : c.in-Some.taken.number < length estimates = slice_get_within estimates c.in-Some.taken.number _ t.estimated in
      let at : slice_get estimates c.in-Some.taken.number ≡ Some c.index.result.now = at_place _ _ _ _ inside (sym c.index.ensures) in
      past_all g.C.Number.value c.args.labels.now.items estimates c.args.queue.now.entries c.take_least.new.queue.entries c.in-Some.taken.number c.in-Some.taken.cost t c.args.best p.0 p.1 c.index.result.now at p.2;
  queue = c.in-Some.ensures.queue;
  fewer = omega (arith, c.in-Some.ensures.fewer);
}

pub returns : goal.returns
returns g c = record {
  queue = c.in-Some.ensures.queue;
  taken = c.in-Some.ensures.taken;
  fewer = c.in-Some.ensures.fewer;
}

pub returns-in_default : goal.returns-in_default
returns-in_default g c = record {
  queue = c.in_default.ensures.queue;
  fewer = c.in_default.ensures.fewer;
  taken = λ k l h w. absurd (c.in_default.ensures.taken k l h w);
}

pub index-requires : goal.index-requires
index-requires g c =
    let inside : c.in-Some.taken.number < length c.args.estimates.now.items = slice_get_within c.args.estimates.now.items c.in-Some.taken.number _ c.in-Some.ensures.taken.estimated in
    omega (arith, inside, c.args.estimates.now.ok.0)
