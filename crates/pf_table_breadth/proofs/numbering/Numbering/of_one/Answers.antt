use Rattle.std.proofs.Common.{◌≡◌, ◌∙◌, ◌++◌, ◌∷◌, [], ap, arith}
use Rattle.std.proofs.lemmas.List.{length-set}
use Rattle.pf_table_breadth.proofs.IndexLemmas.{first_index}
use Rattle.pf_table_breadth.proofs.numbering.Numbering.of_one.Goals as goal

pub index_mut-requires : goal.index_mut-requires
index_mut-requires g c = omega (arith, c.requires, c.in_ok-numbers.ensures.len)

pub returns : goal.returns
returns g c =
    let n = c.in_ok-numbers in
    let zeros = n.ensures.items_if_clones_equal (λ y h. h) in
    let one : c.push.new.self.items ≡ c.args.node ∷ [] = c.in_ok-push.ensures.items ∙ ap (λ xs. xs ++ c.args.node ∷ []) c.new-order.ensures.items in
    record {
      one = one;
      index = rw one (first_index n.numbers.items c.args.size c.args.node zeros c.requires);
      wide = omega (arith, length-set n.numbers.items c.args.node 1, n.ensures.len, n.numbers.ok);
      refused = tt;
    }
