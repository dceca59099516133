-- The digits so far are taken into the number, and the others are still to come.
use Rattle.std.proofs.Common.{◌≡◌, ◌<◌, ◌^◌, drop}
use Rattle.std.specs.Str.{all_ascii_digits}
use Rattle.std.specs.Str.Parse.{digits_value, digits_value_after}
use Rattle.pf_routes.proofs.routes.digits.number_of.Given as goal

abbrev pub invariant-loop-digit : goal.invariant-loop-digit
invariant-loop-digit l = record {
  fits : l.number < 2 ^ 64;
  value : digits_value_after 10 l.number (drop l.digit-index l.field) ≡ digits_value 10 l.field;
  digits : all_ascii_digits (drop l.digit-index l.field) ≡ all_ascii_digits l.field;
}
