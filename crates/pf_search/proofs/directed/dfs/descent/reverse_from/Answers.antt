use Rattle.std.proofs.Common.{◌≡◌, ◌-◌, ◌∙◌, ◌++◌, [], ap, sym, arith, length, take, drop, take_all}
use Rattle.std.specs.Prelude.{reverse}
use Rattle.std.proofs.Math.ListN.{drop_of_length-le}
use Rattle.std.proofs.lemmas.List.{append-nil, length-drop, take-append-drop}
use Rattle.std.proofs.lemmas.Slice.{take-put_mid, drop-put_mid}
use borrow.Rule.Slice.PartMut.{mid_of, put_mid}
use Rattle.pf_search.proofs.directed.dfs.descent.reverse_from.Goals as goal

pub returns : goal.returns
returns g c =
    let xs = c.args.elements.now in
    let a = c.args.from in
    let k = length xs - a in
    let ys = c.reverse.new.self in
    let whole = put_mid a k xs ys in
    let part : mid_of a k xs ≡ drop a xs = take_all k (drop a xs) (omega (arith, length-drop a xs)) in
    let long : length ys ≡ k = c.reverse.ensures.len ∙ ap length part ∙ length-drop a xs in
    let front : take (length xs) whole ≡ take a xs ++ ys = take-put_mid a k xs ys (length xs) (omega (arith, long, c.requires)) c.requires in
    let back : drop (length xs) whole ≡ [] = drop-put_mid a k xs ys (length xs) (omega (arith, c.requires)) c.requires long ∙ drop_of_length-le xs (omega arith) in
    sym (take-append-drop (length xs) whole) ∙ ap (λ l. take (length xs) whole ++ l) back ∙ append-nil (take (length xs) whole) ∙ front ∙ ap (λ l. take a xs ++ l) (c.reverse.ensures.after ∙ ap reverse part)
