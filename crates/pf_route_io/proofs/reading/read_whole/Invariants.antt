-- What has been read is in `text`, each turn adds a byte or more, and no read has failed.
use Rattle.std.proofs.Common.{◌≡◌, ◌-◌, ◌^◌, vec_len}
use Rattle.std.specs.Io.KnownBytes.{Consumes}
use Rattle.pf_route_io.proofs.reading.read_whole.Given as goal

abbrev pub invariant-loop-text : goal.invariant-loop-text
invariant-loop-text g l = record {
  read : Consumes (g.I.Source.left l.initial.input) (g.I.Source.left l.input) l.text.items;
  unfailed : g.I.Source.failed l.input ≡ g.I.Source.failed l.initial.input;
}

abbrev pub decreases-loop-text : goal.decreases-loop-text
decreases-loop-text g l = 2 ^ 64 - vec_len l.text
