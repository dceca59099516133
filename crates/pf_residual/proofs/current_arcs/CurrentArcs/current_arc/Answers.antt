use Rattle.std.proofs.Common.{◌<◌, arith}
use Rattle.std.proofs.lemmas.List.{get_or_read}
use Rattle.std.proofs.lemmas.Option.{slice_get_read}
use Rattle.pf_residual.proofs.current_arcs.CurrentArcs.current_arc.Goals as goal

pub index-place-requires : goal.index-place-requires
index-place-requires g c = omega (arith, c.requires.from, c.args.self.now.places.ok.0)

pub index-requires : goal.index-requires
index-requires g c = omega (arith, c.requires.from, c.requires.arcs.ends_len, c.args.self.now.ends.ok.0)

pub index-requires-then-place-index : goal.index-requires-then-place-index
index-requires-then-place-index g c =
    let s = c.args.self.now in
    let end = get_or_read s.ends.items c.args.from c.index.result.now (omega (arith, c.requires.from, c.requires.arcs.ends_len)) c.index.ensures 0 in
    omega (arith, end, c.if-place-index.true, c.requires.arcs.within c.args.from c.requires.from, s.targets.ok.0)

pub returns-then-place-index-clause-left : goal.returns-then-place-index-clause-left
returns-then-place-index-clause-left g c =
    let s = c.args.self.now in
    let place = get_or_read s.places.items c.args.from c.index-place.result.now c.requires.from c.index-place.ensures 0 in
    let end = get_or_read s.ends.items c.args.from c.index.result.now (omega (arith, c.requires.from, c.requires.arcs.ends_len)) c.index.ensures 0 in
    omega (arith, place, end, c.if-place-index.true)

pub returns-then-place-index-clause-inside : goal.returns-then-place-index-clause-inside
returns-then-place-index-clause-inside g c =
    let s = c.args.self.now in
    let place = c.index-place.result.now in
    let end = get_or_read s.ends.items c.args.from c.index.result.now (omega (arith, c.requires.from, c.requires.arcs.ends_len)) c.index.ensures 0 in
    let low : place < s.targets.len = omega (arith, end, c.if-place-index.true, c.requires.arcs.within c.args.from c.requires.from, s.targets.ok.0) in
    c.requires.arcs.inside place c.index-then-place-index.result.now (slice_get_read s.targets.items s.targets.len place c.index-then-place-index.result.now s.targets.ok.0 low c.index-then-place-index.ensures)
