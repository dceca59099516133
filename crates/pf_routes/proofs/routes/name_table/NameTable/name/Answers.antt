use Rattle.std.proofs.Common.{◌≡◌, ℕ, ◌+◌, ◌-◌, List, take, drop, get_or, ap, ◌∙◌, arith}
use Rattle.pf_routes.specs.Internal.NameTable.{name_in}
use Rattle.pf_routes.proofs.PlaceReads.{read_is}
use Rattle.pf_routes.proofs.routes.name_table.NameTable.name.Goals as goal

between : (xs ys : List ℕ) (a b c d : ℕ) → xs ≡ ys → a ≡ c → b ≡ d → take (b - a) (drop a xs) ≡ take (d - c) (drop c ys)
between xs ys a b c d e f h = ap (λ l. take (b - a) (drop a l)) e ∙ ap (λ n. take (b - n) (drop n ys)) f ∙ ap (λ n. take (n - c) (drop c ys)) h

pub returns : goal.returns
unfolding name_in
returns g c =
    let offsets = c.args.self.now.offsets in
    let number = c.args.number in
    between c.deref.result.now c.args.self.now.bytes.items c.index-start.result.now c.index-end.result.now (get_or offsets.items number 0) (get_or offsets.items (number + 1) 0)
    c.deref.ensures.value (read_is offsets.items number c.index-start.result.now c.index-start.ensures (omega (arith, c.requires, offsets.ok.0)))
    (read_is offsets.items (number + 1) c.index-end.result.now c.index-end.ensures (omega (arith, c.requires, offsets.ok.0)))
