use Rattle.std.proofs.Common.{rules, arith, ◌≡◌, ◌+◌, ap, subst, sym, [], ◌∷◌, ℤ, false, inl, inr, Some, None}
use Rattle.std.specs.Prelude.{Option, slice_set, slice_get, ◌≤ℤ◌, ◌+ℤ◌}
use Rattle.std.proofs.lemmas.Int.{ints}
use Rattle.std.proofs.lemmas.List.Sorted.{length_permutation}
use Rattle.pf_core.specs.declared.labels.Label.{Label}
use Rattle.pf_core.proofs.LabelLemmas.{HasLabel-inside}
use Rattle.pf_base.proofs.ListLemmas.{at_place}
use Rattle.pf_informed.specs.Internal.Forest.{IsForest, nat_of, total_room}
use Rattle.pf_informed.specs.Internal.Waiting.{IsQueue, SumsFit, Relaxed}
use Rattle.pf_informed.proofs.ForestLemmas.{forest_lowered, room_lowered}
use Rattle.pf_informed.proofs.WaitingLemmas.{Relaxed-none, Relaxed-lowered, IsQueue-lowered, SumsFit-lowered}
use Rattle.pf_informed.proofs.queue.take_step.Goals as goal

pub returns-in_default : goal.returns-in_default
returns-in_default g c = record {
  sound = c.requires.sound;
  relaxed =
      let v = g.met.C.CheckedAdd.checked_add_law c.args.label.now.cost c.args.price None c.in_default.ensures in
      Relaxed-none g.C.Number.value g.C.Number.fits c.args.estimates.now.items c.args.parent (g.C.Number.value c.args.label.now.cost) c.args.next c.args.price c.args.labels.now.items c.args.queue.now.entries (inr (inl v));
  less = omega arith;
  room = omega arith;
}

pub returns-then-not-lowers : goal.returns-then-not-lowers
returns-then-not-lowers g c = record {
  sound = c.requires.sound;
  relaxed =
      let w = g.met.C.CheckedAdd.checked_add_law c.args.label.now.cost c.args.price (Some c.in-Some.cost) c.in-Some.ensures in
      let b = rw c.deref.ensures.value at c.if-not-lowers.ensures in
      Relaxed-none g.C.Number.value g.C.Number.fits c.args.estimates.now.items c.args.parent (g.C.Number.value c.args.label.now.cost) c.args.next c.args.price c.args.labels.now.items c.args.queue.now.entries (inl (b.0, b.1, omega (arith, ints, b.2, w.1)));
  less = omega arith;
  room = omega arith;
}

pub returns-in-Some-checked_add : goal.returns-in-Some-checked_add
returns-in-Some-checked_add g c =
    let value = g.C.Number.value in
    let fits = g.C.Number.fits in
    let sound = c.requires.sound in
    let labels = c.args.labels.now.items in
    let estimates = c.args.estimates.now.items in
    let next = c.args.next in
    let entries = c.args.queue.now.entries in
    let entries' = c.push.new.self.entries in
    let w = g.met.C.CheckedAdd.checked_add_law c.args.label.now.cost c.args.price (Some c.in-Some.cost) c.in-Some.ensures in
    let new : Label g.row.C.Denot = record { cost = c.in-Some.cost; parent = c.args.parent; depth = c.args.label.now.depth + 1; settled = false } in
    let v = g.met.C.CheckedAdd.checked_add_law c.in-Some.cost c.index.result.now (Some c.in-Some-checked_add.sum) c.in-Some-checked_add.ensures in
    let at : slice_get estimates next ≡ Some c.index.result.now = at_place estimates next c.index.result.now c.index.result.now (omega (arith, sound.estimated, c.requires.inside)) (sym c.index.ensures) in
    let lower = rw c.deref.ensures.value at c.if-not-lowers.ensures in
    let above : value c.args.label.now.cost ≤ℤ value c.in-Some.cost = omega (arith, ints, w.1, c.requires.price) in
    let added = c.push.ensures.added in
    let relaxed = subst (λ (o : Option (Label g.row.C.Denot)). Relaxed value fits estimates c.args.parent (value c.args.label.now.cost) ((next, c.args.price) ∷ []) labels (slice_set labels next o) entries entries') (sym c.behind.ensures)
    (Relaxed-lowered value labels sound.forest next new c.args.label.now c.requires.inside lower c.requires.here above (omega arith)
    entries entries' c.in-Some-checked_add.sum added estimates c.index.result.now at v.1 fits (value c.args.label.now.cost) c.args.price w.1 (search rules)) in
    record {
      sound = record {
        forest = subst (λ (o : Option (Label g.row.C.Denot)). IsForest value (slice_set labels next o)) (sym c.behind.ensures) (forest_lowered value labels sound.forest next new c.args.label.now c.requires.inside lower c.requires.here above (omega arith));
        few = omega (arith, sound.few, relaxed.len);
        estimated = omega (arith, sound.estimated, relaxed.len);
        sums = subst (λ (o : Option (Label g.row.C.Denot)). SumsFit value fits (slice_set labels next o) estimates) (sym c.behind.ensures)
            (SumsFit-lowered value labels sound.forest next new c.args.label.now c.requires.inside lower c.requires.here above (omega arith) entries entries' c.in-Some-checked_add.sum added estimates c.index.result.now at v.1 fits v.0 sound.sums);
        queue = subst (λ (o : Option (Label g.row.C.Denot)). IsQueue value (slice_set labels next o) estimates entries') (sym c.behind.ensures)
            (IsQueue-lowered value labels sound.forest next new c.args.label.now c.requires.inside lower c.requires.here above (omega arith) entries entries' c.in-Some-checked_add.sum added estimates c.index.result.now at v.1 sound.queue);
      };
      relaxed = relaxed;
      less =
          let top = value g.C.Cost.greatest in
          let fit : value c.in-Some.cost ≤ℤ top = subst (λ (z : ℤ). z ≤ℤ top) (sym w.1) ((g.met.C.Cost.range_law _).0 w.0).1 in
          let r = room_lowered value labels sound.forest next new c.args.label.now c.requires.inside lower c.requires.here above (omega arith) top fit in
          let e : total_room value (nat_of top) (slice_set labels next c.behind.result) ≡ total_room value (nat_of top) (slice_set labels next (Some new)) = ap (λ (o : Option (Label g.row.C.Denot)). total_room value (nat_of top) (slice_set labels next o)) c.behind.ensures in
          omega (arith, r, e, length_permutation _ _ added);
      room = c.push.ensures.room;
    }

pub returns-in_default-checked_add : goal.returns-in_default-checked_add
returns-in_default-checked_add g c = record {
  sound = c.requires.sound;
  relaxed =
      let w = g.met.C.CheckedAdd.checked_add_law c.args.label.now.cost c.args.price (Some c.in-Some.cost) c.in-Some.ensures in
      let v = g.met.C.CheckedAdd.checked_add_law c.in-Some.cost c.index.result.now None c.in_default-checked_add.ensures in
      let at : slice_get c.args.estimates.now.items c.args.next ≡ Some c.index.result.now = at_place c.args.estimates.now.items c.args.next c.index.result.now c.index.result.now (omega (arith, c.requires.sound.estimated, c.requires.inside)) (sym c.index.ensures) in
      Relaxed-none g.C.Number.value g.C.Number.fits c.args.estimates.now.items c.args.parent (g.C.Number.value c.args.label.now.cost) c.args.next c.args.price c.args.labels.now.items c.args.queue.now.entries (inr (inr (c.index.result.now, at, subst (λ (z : ℤ). ¬ (g.C.Number.fits (z +ℤ g.C.Number.value c.index.result.now))) w.1 v)));
  less = omega arith;
  room = omega arith;
}

pub index-requires : goal.index-requires
index-requires g c = omega (arith, c.requires.inside, c.requires.sound.estimated, c.args.estimates.now.ok.0)

pub push-requires-clause-few : goal.push-requires-clause-few
push-requires-clause-few g c = omega (arith, c.requires.inside, c.requires.sound.few)

pub behind-requires : goal.behind-requires
behind-requires g c = omega (arith, HasLabel-inside c.args.labels.now.items c.args.parent c.args.label.now c.requires.here, c.requires.sound.few)
