use Rattle.std.proofs.Common.{◌≡◌, ap, sym, ◌∙◌, arith, [], ◌∷◌, ◌++◌, length, append_assoc, map, Some}
use Rattle.std.specs.Vec.Iter.{into_iter_items}
use Rattle.std.proofs.lemmas.List.{append-nil, length-map, length_push, nil_from_length}
use Rattle.pf_matrix.proofs.TakeLemmas.{all_read, all_some}
use Rattle.pf_matrix.proofs.matrix.transposition.all_waiting.Goals as goal

pub loop-value-init : goal.loop-value-init
loop-value-init g c =
    let given = c.into_iter-value-iterator.ensures.into_iter_gives in
    record {
      room = omega (arith, ap length c.requires.empty, ap length given.0, c.args.values.ok.0, c.requires.room);
      len = given.1 ∙ c.args.values.ok.0 ∙ ap length (sym given.0);
      all = rw c.requires.empty (ap (map Some) given.0);
    }

pub push_reserved-requires : goal.push_reserved-requires
push_reserved-requires g c = omega (arith, c.loop-value.invariant.room, ap length c.in-Some.ensures.steps.0, c.loop-value.waiting.ok.0)

pub loop-value-preserved : goal.loop-value-preserved
loop-value-preserved g c =
    let i = c.loop-value.invariant in
    let step = c.in-Some.ensures.steps in
    let put = c.push_reserved.ensures in
    let waiting = c.loop-value.waiting.items in
    let rest = map Some (into_iter_items c.next.new.self) in
    record {
      room = omega (arith, i.room, ap length put.items, length_push waiting (Some c.in-Some.value), ap length step.0, put.capacity);
      len = omega (arith, i.len, ap length step.0, step.1);
      all = ap (λ ws. ws ++ rest) put.items ∙ append_assoc waiting (Some c.in-Some.value ∷ []) rest ∙ ap (λ xs. waiting ++ map Some xs) (sym step.0) ∙ i.all;
    }

pub returns : goal.returns
returns g c = record {
  some = λ k h.
      let none : into_iter_items c.loop-value.value-iterator ≡ [] = nil_from_length (into_iter_items c.loop-value.value-iterator) (omega (arith, c.loop-value.invariant.len, c.in-None.ensures.steps.0)) in
      let all : c.loop-value.waiting.items ≡ map Some c.args.values.items = sym (append-nil c.loop-value.waiting.items) ∙ (rw none at c.loop-value.invariant.all) in
      rw all (all_some c.args.values.items k (omega (arith, c.args.values.ok.0)));
  all = λ k d h.
      let none : into_iter_items c.loop-value.value-iterator ≡ [] = nil_from_length (into_iter_items c.loop-value.value-iterator) (omega (arith, c.loop-value.invariant.len, c.in-None.ensures.steps.0)) in
      let all : c.loop-value.waiting.items ≡ map Some c.args.values.items = sym (append-nil c.loop-value.waiting.items) ∙ (rw none at c.loop-value.invariant.all) in
      rw all (all_read c.args.values.items k d (omega (arith, c.args.values.ok.0)));
  len =
      let none : into_iter_items c.loop-value.value-iterator ≡ [] = nil_from_length (into_iter_items c.loop-value.value-iterator) (omega (arith, c.loop-value.invariant.len, c.in-None.ensures.steps.0)) in
      let all : c.loop-value.waiting.items ≡ map Some c.args.values.items = sym (append-nil c.loop-value.waiting.items) ∙ (rw none at c.loop-value.invariant.all) in
      omega (arith, c.loop-value.waiting.ok.0, c.args.values.ok.0, ap length all, length-map c.args.values.items Some);
}
