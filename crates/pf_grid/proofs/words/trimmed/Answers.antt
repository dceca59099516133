use Rattle.std.proofs.Common.{◌≡◌, ℕ, ◌+◌, ◌-◌, ◌*◌, ◌∙◌, ◌&&◌, nat_eq, nat_lt, ap, arith, bit_and}
use Rattle.std.specs.Int.{bit_at}
use Rattle.std.proofs.lemmas.Bool.Decides.{nat_tests}
use Rattle.std.proofs.lemmas.Nat.{one_shl}
use Rattle.pf_grid.proofs.WordLemmas.{cut}
use Rattle.pf_grid.proofs.words.trimmed.Goals as goal

below : (from i width : ℕ) → nat_lt i (width - from) ≡ nat_lt (from + i) width
below from i width = grind (arith, nat_tests)

pub returns-then-rest-lt64 : goal.returns-then-rest-lt64
returns-then-rest-lt64 c = λ i p.
    let from : ℕ = c.args.place * 64 in
    let rest : ℕ = c.args.width - c.args.place * 64 in
    ap (λ m. nat_eq (bit_at (bit_and c.args.word (m - 1)) i) 1) (one_shl rest 64 c.if-rest-lt64.true)
    ∙ cut c.args.word rest i
    ∙ ap (λ t. t && nat_eq (bit_at c.args.word i) 1) (below from i c.args.width)
