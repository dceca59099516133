use Rattle.std.proofs.Common.{◌≡◌, ◌∙◌, ◌+◌, ◌++◌, get_or, arith, ap, sym, List, ◌∷◌, [], map, take, fold}
use Rattle.std.specs.Char.{to_ascii_lowercase}
use Rattle.std.specs.Hash as fed
use Rattle.std.specs.List.{flat_map}
use Rattle.std.proofs.lemmas.Grind.{common_steps, flat_map-append, fold-append}
use Rattle.std.proofs.lemmas.List.{map-append, take_more}
use Rattle.test_searches.proofs.no_case.NoCaseHash.hash.Goals as goal

pub returns : goal.returns
returns g c =
    let xs = c.args.self.now.name.now in
    let write = g.H.Hasher.write in
    let fed_by : List _ → List _ = λ bs. flat_map fed.u8 (map to_ascii_lowercase bs) in
    let whole : take c.loop-byte.byte-index c.as_bytes-byte-items.result.now ≡ xs = grind (arith, common_steps) in
    c.write_u8-2.ensures ∙ ap (λ s. write s (255 ∷ [])) (c.loop-byte.invariant ∙ ap (λ bs. fold write c.args.state.now (fed_by bs)) whole) ∙ sym (fold-append write c.args.state.now (fed_by xs) (fed.u8 255))

pub loop-byte-preserved : goal.loop-byte-preserved
loop-byte-preserved g c =
    let xs = c.as_bytes-byte-items.result.now in
    let i = c.loop-byte.byte-index in
    let write = g.H.Hasher.write in
    let more : take (i + 1) xs ≡ take i xs ++ get_or xs i 0 ∷ [] = take_more xs i 0 c.loop-byte-test.true in
    let one : c.write_u8.new.self ≡ write c.loop-byte.state (to_ascii_lowercase (get_or xs i 0) ∷ []) = c.write_u8.ensures ∙ ap (λ b. write c.loop-byte.state (b ∷ [])) c.to_ascii_lowercase.ensures.value in
    one ∙ ap (λ s. write s (to_ascii_lowercase (get_or xs i 0) ∷ [])) c.loop-byte.invariant ∙ sym (rw more (simp (map-append, flat_map-append, fold-append)))
