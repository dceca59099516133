use Rattle.std.proofs.Common.{arith, get_or}
use Rattle.std.proofs.lemmas.Option.{slice_get-get_or}
use Rattle.pf_orders.proofs.ComponentPlaces.{closes_none, closes_more, closes_all}
use Rattle.pf_orders.proofs.component_search.close_places.Goals as goal

pub numbers-init : goal.numbers-init
numbers-init c = closes_none c.args.numbers.now c.args.places.now

pub bounds-places-number : goal.bounds-places-number
bounds-places-number c =
    let i = c.numbers.number-index in
    let l = c.requires.inside i _ (slice_get-get_or c.args.numbers.now i 0 c.numbers-test.true) in
    omega (arith, l, c.numbers.invariant.long)

pub numbers-preserved : goal.numbers-preserved
numbers-preserved c =
    let numbers = c.args.numbers.now in
    let i = c.numbers.number-index in
    let at = slice_get-get_or numbers i 0 c.numbers-test.true in
    let l = c.requires.inside i _ at in
    closes_more i (get_or numbers i 0) numbers c.args.places.now c.numbers.places c.numbers.invariant at (omega (arith, l, c.numbers.invariant.long))

pub returns : goal.returns
returns c = closes_all c.numbers.number-index c.args.numbers.now c.args.places.now c.numbers.places (omega (arith, c.numbers-test.false)) c.numbers.invariant
