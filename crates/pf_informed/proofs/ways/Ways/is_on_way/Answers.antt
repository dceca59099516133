use Rattle.std.proofs.Common.{rules, ◌≡◌, ◌<◌, ◌≤◌, ◌∙◌, sym, arith, slice_get, Some, nat_lt, false}
use Rattle.pf_base.proofs.ListLemmas.{at_place}
use Rattle.pf_informed.proofs.WaysLemmas.{on_way, off_way}
use Rattle.pf_informed.proofs.ways.Ways.is_on_way.Goals as goal

pub returns-then-place-branch : goal.returns-then-place-branch
returns-then-place-branch g c =
    let r = c.requires in
    let way = c.args.self.now.way.items in
    let places = c.args.self.now.places.items in
    let place = c.index-place.result.now in
    let v = c.args.branch.number in
    let l : place < c.args.branch.depth = search rules in
    let at : slice_get places v ≡ Some place = at_place places v place place r.inside (sym c.index-place.ensures) in
    let here : slice_get way place ≡ Some c.index.result.now = at_place way place c.index.result.now c.index.result.now (omega (arith, l, r.depth)) (sym c.index.ensures) in
    on_way way places c.args.branch.depth v place r.placed at l c.index.result.now here

pub returns-else-place-branch : goal.returns-else-place-branch
returns-else-place-branch g c =
    let r = c.requires in
    let places = c.args.self.now.places.items in
    let place = c.index-place.result.now in
    let v = c.args.branch.number in
    let l : c.args.branch.depth ≤ place = search rules in
    let at : slice_get places v ≡ Some place = at_place places v place place r.inside (sym c.index-place.ensures) in
    let off : nat_lt place c.args.branch.depth ≡ false = search rules in
    off ∙ sym (off_way c.args.self.now.way.items places c.args.branch.depth v place r.placed at l)
