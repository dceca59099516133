use Rattle.pf_orders.proofs.ComponentPlaces.{ClosesFirst}
use Rattle.pf_orders.proofs.component_search.close_places.Given as goal

abbrev pub invariant-numbers : goal.invariant-numbers
invariant-numbers l = ClosesFirst l.number-index l.numbers l.fn.places l.places
