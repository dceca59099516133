use Rattle.std.proofs.Common.{◌≡◌, ◌<◌, length, sym, Some, slice_get}
use Rattle.pf_base.proofs.ListLemmas.{at_place}
use Rattle.pf_two_sided.proofs.SideLemmas.{place_across}
use Rattle.pf_two_sided.proofs.two_sided.TwoSidedTwoSidedGraph.number_across.Goals as goal

pub returns-in-Forth : goal.returns-in-Forth
returns-in-Forth g c =
    let keys = g.M.Numbering.keys c.args.self.now.forth.nodes in
    let others = g.M.Numbering.keys c.args.self.now.back.nodes in
    let inside : c.args.number < length keys = rw c.in-Forth.is at c.requires.inside in
    let at : slice_get keys c.args.number ≡ Some c.index-as_slice-number.result = at_place _ _ _ _ inside (sym (rw c.as_slice.ensures.keys at c.index-as_slice-number.is)) in
    rw c.in-Forth.is (record { across = place_across g.N.PartialEq.eq g.met.N.Eq.laws keys others c.args.number c.index-as_slice-number.result c.get_number_of.result at c.get_number_of.ensures })

pub returns-in-Back : goal.returns-in-Back
returns-in-Back g c =
    let keys = g.M.Numbering.keys c.args.self.now.back.nodes in
    let others = g.M.Numbering.keys c.args.self.now.forth.nodes in
    let inside : c.args.number < length keys = rw c.in-Back.is at c.requires.inside in
    let at : slice_get keys c.args.number ≡ Some c.index-as_slice-number-in-Back.result = at_place _ _ _ _ inside (sym (rw c.as_slice-in-Back.ensures.keys at c.index-as_slice-number-in-Back.is)) in
    rw c.in-Back.is (record { across = place_across g.N.PartialEq.eq g.met.N.Eq.laws keys others c.args.number c.index-as_slice-number-in-Back.result c.get_number_of-in-Back.result at c.get_number_of-in-Back.ensures })
