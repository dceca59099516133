use Rattle.std.proofs.Common.{◌<◌, ◌∙◌, ◌++◌, ◌∷◌, [], List, ℕ, ap, arith, length, length-append, sym, take, take_all, true≢false}
use Rattle.std.specs.Prelude.{slice_index, vec_capacity, vec_len}
use Rattle.std.proofs.lemmas.List.{append-nil, append_assoc, map-append, take_more}
use Rattle.pf_informed.specs.declared.branch.Branch.{Branch}
use Rattle.pf_informed.specs.Internal.Branches.{branches_at}
use Rattle.pf_informed.proofs.Outcomes.{pushed_on}
use Rattle.pf_informed.proofs.ways.put_branches.Goals as goal

pub numbers-init : goal.numbers-init
numbers-init g c = record { room = c.requires.room; long = omega arith; put = sym (append-nil c.args.waiting.now.items) }

pub numbers-preserved : goal.numbers-preserved
numbers-preserved g c =
    let i = c.numbers.invariant in
    let at = c.numbers.number-index in
    let branches : List ℕ → List Branch = branches_at c.args.depth in
    let branch : Branch = record { number = slice_index c.args.numbers.now at; depth = c.args.depth } in
    let pushed = pushed_on c.push.result c.numbers.waiting.items _ c.push.new.self.items c.push.ensures.items (sym c.if-is_err.ensures.value) in
    let more = ap branches (take_more c.args.numbers.now at 0 c.numbers-test.true) ∙ map-append (λ (n : ℕ). record { number = n; depth = c.args.depth }) (take at c.args.numbers.now) (slice_index c.args.numbers.now at ∷ []) in
    record {
      room = omega (arith, i.room, c.push.ensures.capacity);
      long = omega (arith, i.long, ap length pushed, length-append c.numbers.waiting.items (branch ∷ []));
      put = pushed ∙ ap (λ (bs : List Branch). bs ++ branch ∷ []) i.put ∙ append_assoc c.args.waiting.now.items (branches (take at c.args.numbers.now)) (branch ∷ []) ∙ ap (λ (bs : List Branch). c.args.waiting.now.items ++ bs) (sym more);
    }

pub unreachable-requires : goal.unreachable-requires
unreachable-requires g c =
    let i = c.numbers.invariant in
    let some : vec_len c.numbers.waiting < vec_capacity c.numbers.waiting = omega (arith, i.room, i.long, c.numbers-test.true, c.numbers.waiting.ok.0) in
    true≢false (sym (c.push.ensures.succeeds some) ∙ c.if-is_err.ensures.negation)

pub returns : goal.returns
returns g c = c.numbers.invariant.put ∙ ap (λ (ns : List ℕ). c.args.waiting.now.items ++ branches_at c.args.depth ns) (take_all c.numbers.number-index c.args.numbers.now c.numbers-test.false)
