use Rattle.std.proofs.Common.{◌+◌, ◌∙◌, ◌∷◌, [], ◌++◌, refl, sym, ap, length, length-append, List, ℕ, Bool, ◌≡◌, ◌-◌, take, arith}
use Rattle.std.proofs.lemmas.Result.{IfOk-from_err}
use Rattle.pf_base.specs.declared.error.PathError.TheVariants.{OutOfMemory}
use Rattle.pf_base.proofs.Outcomes.{refused_as}
use Rattle.pf_yen.specs.Internal.Adjacency.{AdjacencyLists}
use Rattle.std.proofs.lemmas.List.{take_at}
use Rattle.pf_yen.proofs.adjacency.Adjacency.add.Goals as goal

pub returns-in_err-push : goal.returns-in_err-push
returns-in_err-push g c =
    let lists : List Bool → AdjacencyLists g.row.C.Denot = λ goals. record { rows = c.self.inside.rows; goals = goals } in
    record {
      added = IfOk-from_err _ _ c.from_residual.ensures.0;
      kept = refused_as _ c.from_residual.result OutOfMemory c.from_residual.ensures.1 (ap lists c.in_err-push.ensures.items ∙ c.self.view_is);
      refused = refused_as _ c.from_residual.result OutOfMemory c.from_residual.ensures.1 refl;
    }

pub invariant_of-self : goal.invariant_of-self
invariant_of-self g c = (ap length c.in_err-push.ensures.items ∙ c.self.invariant.0, tt)

pub invariant_of-self-in_default : goal.invariant_of-self-in_default
invariant_of-self-in_default g c =
    let s = c.self.inside in
    (ap length c.in_ok-push.ensures.items ∙ length-append s.goals.items (c.args.goal ∷ []) ∙ ap (λ (n : ℕ). n + 1) c.self.invariant.0 ∙ sym (ap length c.in_default.ensures.added ∙ length-append s.rows (c.args.row.now ∷ [])), tt)

pub returns : goal.returns
returns g c =
    let more : AdjacencyLists g.row.C.Denot → AdjacencyLists g.row.C.Denot = λ k. record { rows = k.rows ++ c.args.row.now ∷ []; goals = k.goals ++ c.args.goal ∷ [] } in
    record { added = rw (c.in_default.ensures.added, c.in_ok-push.ensures.items) (ap more c.self.view_is); kept = tt; refused = tt }

pub invariant_of-self-in-Err : goal.invariant_of-self-in-Err
invariant_of-self-in-Err g c =
    let s = c.self.inside in
    let n = c.push.new.self.len - 1 in
    let back : c.pop.new.self.items ≡ s.goals.items = c.pop.ensures.rest ∙ ap (λ (gs : List Bool). take n gs) c.in_ok-push.ensures.items ∙ take_at s.goals.items (c.args.goal ∷ []) n (omega (arith, c.in_ok-push.ensures.len, s.goals.ok.0)) in
    (ap length back ∙ c.self.invariant.0 ∙ sym (ap length c.in-Err.ensures.kept), tt)

pub returns-in-Err-clause-kept : goal.returns-in-Err-clause-kept
returns-in-Err-clause-kept g c =
    let s = c.self.inside in
    let n = c.push.new.self.len - 1 in
    let back : c.pop.new.self.items ≡ s.goals.items = c.pop.ensures.rest ∙ ap (λ (gs : List Bool). take n gs) c.in_ok-push.ensures.items ∙ take_at s.goals.items (c.args.goal ∷ []) n (omega (arith, c.in_ok-push.ensures.len, s.goals.ok.0)) in
    rw (c.in-Err.ensures.kept, back) c.self.view_is

pub returns-in-Err-clause-refused : goal.returns-in-Err-clause-refused
returns-in-Err-clause-refused g c = c.in-Err.ensures.refused
