use Rattle.std.proofs.Common.{◌≡◌, ◌+◌, ◌∙◌, ◌∷◌, [], ◌++◌, refl, ap, subst, sym, length, length-append, arith, List, ℕ, take}
use Rattle.std.proofs.lemmas.Result.{IfOk-from_err}
use Rattle.pf_base.specs.declared.error.PathError.TheVariants.{OutOfMemory}
use Rattle.pf_base.proofs.Outcomes.{refused_as}
use Rattle.pf_yen.specs.Internal.Rows.{rows_from, AreEnds}
use Rattle.pf_yen.proofs.RowLemmas.{row_more, ends_more}
use Rattle.std.proofs.lemmas.List.{take_at}
use Rattle.pf_yen.proofs.rows.Rows.add.Goals as goal

pub invariant_of-self-in-Ok : goal.invariant_of-self-in-Ok
invariant_of-self-in-Ok g c =
    let s = c.self.inside in
    let long : length c.extend_from_slice.new.self.items ≡ length s.steps.items + length c.args.row.now = ap length c.in_ok-extend_from_slice.ensures.items ∙ length-append s.steps.items c.args.row.now in
    let at : c.len.result ≡ length c.extend_from_slice.new.self.items = omega (arith, c.len.ensures) in
    rw c.in-Ok.ensures.items (subst (λ (m : ℕ). AreEnds 0 (s.ends.items ++ m ∷ []) (length c.extend_from_slice.new.self.items)) (sym at) (ends_more s.ends.items 0 (length s.steps.items) (length c.extend_from_slice.new.self.items) c.self.invariant (omega (arith, long))))

pub returns-in_err-extend_from_slice : goal.returns-in_err-extend_from_slice
returns-in_err-extend_from_slice g c =
    let rows : List (ℕ × g.row.C.Denot) → List (List (ℕ × g.row.C.Denot)) = λ steps. rows_from 0 c.self.inside.ends.items steps in
    record {
      added = IfOk-from_err _ _ c.from_residual.ensures.0;
      kept = refused_as _ c.from_residual.result OutOfMemory c.from_residual.ensures.1 (ap rows c.in_err-extend_from_slice.ensures.items ∙ c.self.view_is);
      refused = refused_as _ c.from_residual.result OutOfMemory c.from_residual.ensures.1 refl;
    }

pub returns-in-Ok : goal.returns-in-Ok
returns-in-Ok g c =
    let s = c.self.inside in
    let long : length c.extend_from_slice.new.self.items ≡ length s.steps.items + length c.args.row.now = ap length c.in_ok-extend_from_slice.ensures.items ∙ length-append s.steps.items c.args.row.now in
    let at : c.len.result ≡ length s.steps.items + length c.args.row.now = omega (arith, c.len.ensures, long) in
    record { added = rw (c.in-Ok.ensures.items, at, c.in_ok-extend_from_slice.ensures.items) (row_more s.ends.items 0 (length s.steps.items) s.steps.items c.args.row.now c.self.invariant (omega arith) ∙ ap (λ (rows : List (List (ℕ × g.row.C.Denot))). rows ++ c.args.row.now ∷ []) c.self.view_is); kept = tt; refused = tt }

pub invariant_of-self : goal.invariant_of-self
invariant_of-self g c = rw c.in_err-extend_from_slice.ensures.items c.self.invariant

pub invariant_of-self-in-Err : goal.invariant_of-self-in-Err
invariant_of-self-in-Err g c =
    let s = c.self.inside in
    let t : c.truncate.new.self.items ≡ s.steps.items = c.truncate.ensures.items ∙ ap (λ (xs : List (ℕ × g.row.C.Denot)). take c.len-begin.result xs) c.in_ok-extend_from_slice.ensures.items ∙ take_at s.steps.items c.args.row.now c.len-begin.result (omega (arith, c.len-begin.ensures, s.steps.ok.0)) in
    rw (t, c.in-Err.ensures.items) c.self.invariant

pub returns-in-Err-clause-kept : goal.returns-in-Err-clause-kept
returns-in-Err-clause-kept g c =
    let s = c.self.inside in
    let t : c.truncate.new.self.items ≡ s.steps.items = c.truncate.ensures.items ∙ ap (λ (xs : List (ℕ × g.row.C.Denot)). take c.len-begin.result xs) c.in_ok-extend_from_slice.ensures.items ∙ take_at s.steps.items c.args.row.now c.len-begin.result (omega (arith, c.len-begin.ensures, s.steps.ok.0)) in
    rw (t, c.in-Err.ensures.items) c.self.view_is

pub returns-in-Err-clause-refused : goal.returns-in-Err-clause-refused
returns-in-Err-clause-refused g c = refl
