use Rattle.std.proofs.Common.{◌≡◌, ◌<◌, ℕ, Some, slice_get, length, ap, sym, ◌∙◌, arith}
use Rattle.std.proofs.lemmas.Option.{slice_get_within, get_or_from_slice_get}
use Rattle.pf_base.proofs.ListLemmas.{at_place}
use Rattle.pf_informed.proofs.directed.idastar.cheapest_row.CheapestRow.place_of.Goals as goal
use Rattle.pf_informed.proofs.directed.idastar.cheapest_row.CheapestRow.place_of.Goals.{else-place-len-via-then-place-len+else-index-number, else-place-len-via-else-place-len}

pub returns-then-index-number : goal.returns-then-index-number
returns-then-index-number g c =
    let steps = c.args.self.now.steps.items in
    let x = c.index.result.now in
    let lt : c.in-Some.place.now < length steps = omega (arith, c.if-place-len.true, c.len.ensures, c.args.self.now.steps.ok.0) in
    let e : x.0 ≡ c.args.number = c.if-index-number.true in
    (x.1, at_place steps c.in-Some.place.now x x lt (sym c.index.ensures) ∙ ap (λ (n : ℕ). Some (n, x.1)) e)

pub returns-else-place-len : goal.returns-else-place-len
returns-else-place-len g c = λ i d h p.
    let steps = c.args.self.now.steps.items in
    let place = c.in-Some.place.now in
    let q = c.in-Some.ensures.lookup in
    let at : place ≡ i = (rw c.deref.ensures.value at q.1) ∙ get_or_from_slice_get c.args.self.now.places.items c.args.number i place p in
    let here : slice_get steps place ≡ Some (c.args.number, d) = ap (slice_get steps) at ∙ h in
    let inside = slice_get_within steps place (c.args.number, d) here in
    elim c.else-place-len.branch as (λ _. ⊥) [
      | else-place-len-via-then-place-len+else-index-number w ↦
          let is = w.index.ensures ∙ get_or_from_slice_get steps place (c.args.number, d) w.index.result.now here in
          w.if-index-number.false (ap (λ (s : ℕ × g.row.C.Denot). s.0) is)
      | else-place-len-via-else-place-len w ↦ omega (arith, w.if-place-len.false, c.len.ensures, c.args.self.now.steps.ok.0, inside)
    ]
