use Rattle.std.proofs.Common.{rules, ◌<◌, ◌≤◌, ◌+◌, ◌*◌, ◌^◌, ℕ, arith}
use Rattle.std.proofs.Math.Nat.{pow-le-pow_right}
use Rattle.pf_routes.proofs.routes.name.head_of.Goals as goal

-- seven bytes leave room for one more
room : (head i byte : ℕ) → head < 256 ^ i → i < 8 → byte < 256 → head * 256 + byte < 18446744073709551616
room head i byte h l b =
    let p : 256 ^ i ≤ 72057594037927936 = pow-le-pow_right {n = 256} (omega arith) {i = i} {j = 7} (omega (arith, l)) in
    omega (arith, h, p, b)

pub overflow_mul-head : goal.overflow_mul-head
overflow_mul-head c =
    let l : c.front.byte-index < 8 = search (rules, arith) in
    let r = room c.front.head c.front.byte-index 0 c.front.invariant.small l (omega arith) in
    search (rules, arith)

pub overflow_add-head : goal.overflow_add-head
overflow_add-head c =
    let l : c.front.byte-index < 8 = search (rules, arith) in
    let b : c.from.result < 256 = search (rules, arith) in
    let r = room c.front.head c.front.byte-index c.from.result c.front.invariant.small l b in
    search (rules, arith)
