use Rattle.std.proofs.Common.{rules, ◌≡◌, ◌≤◌, ℕ, nat_eq, arith, length, true, sym, ◌∙◌}
use Rattle.std.specs.Str.{bytes_eq}
use Rattle.pf_routes.specs.Internal.Heads.Laws.{heads_decide}
use Rattle.pf_routes.proofs.routes.name.NamePartialEq.eq.Goals as goal

nat_same : (m n : ℕ) → nat_eq m n ≡ true → m ≡ n
nat_same m n e = search (rules, arith)

same_nat : (m n : ℕ) → m ≡ n → nat_eq m n ≡ true
same_nat m n e = search (rules, arith)

pub returns-then-self-other : goal.returns-then-self-other
returns-then-self-other c =
    let a = c.self.inside.bytes.now in
    let b = c.other.inside.bytes.now in
    let lengths : length a ≡ length b = search (rules, arith) in
    let short : length a ≤ 8 = search (rules, arith) in
    let p = c.self.invariant in
    let q = c.other.invariant in
    let same : nat_eq c.self.inside.head c.other.inside.head ≡ bytes_eq a b = heads_decide a b (nat_eq c.self.inside.head c.other.inside.head) p.1 q.1 (λ t. sym p.0 ∙ nat_same _ _ t ∙ q.0) (λ e. same_nat _ _ (p.0 ∙ e ∙ sym q.0)) lengths short in
    search rules
