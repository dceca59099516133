-- The bytes so far are taken into the number, and the others are still to come.
use Rattle.std.proofs.Common.{◌≡◌, ◌<◌, ◌^◌, take, drop}
use Rattle.std.specs.Int.Digits.{AllBelowBase, number_from_digits, number_from_digits_after}
use Rattle.pf_routes.proofs.routes.name.head_of.Given as goal

abbrev pub invariant-front : goal.invariant-front
invariant-front l = record {
  value : number_from_digits_after 256 l.head (drop l.byte-index l.front) ≡ number_from_digits 256 l.front;
  small : l.head < 256 ^ l.byte-index;
  digits : AllBelowBase 256 (take l.byte-index l.front);
}
