use Rattle.std.proofs.Common.{◌≡◌, ◌∙◌, ◌++◌, ◌∷◌, ◌<◌, [], Bool, List, Vec, ap, arith, false, refl, sym, subst, true≢false, inl, inr}
use Rattle.std.specs.Prelude.{Result, Ok, Err, Some}
use Rattle.pf_base.specs.declared.error.PathError.{PathError}
use Rattle.pf_base.specs.declared.error.PathError.TheVariants.{OutOfMemory}
use Rattle.pf_informed.specs.CheapestPaths.{most_items, PathsStep, PathsToCome}
use Rattle.std.proofs.lemmas.List.{append-nil, append_assoc}
use Rattle.pf_informed.specs.Internal.Ways.{AreGathered}
use Rattle.pf_informed.proofs.GatherLemmas.{gathered_more}
use Rattle.pf_base.proofs.Outcomes.{if_refused, refused_as}
use Rattle.pf_informed.proofs.directed.astar_bag.gather.Goals as goal

pub paths-preserved : goal.paths-preserved
paths-preserved g c =
    let s = rw c.in_ok-path.was at c.in-Some.ensures.steps in
    let i = c.paths.invariant in
    let given = i.gathered in
    let next = s.3 in
    record {
      ready = s.2;
      gathered = (
        given.0 ++ next.0 ∷ [],
        given.1 ∙ ap (λ xs. given.0 ++ xs) next.1 ∙ sym (append_assoc given.0 (next.0 ∷ []) c.next.new.self.left),
        rw c.in_ok-push.ensures.items (gathered_more g.N.PartialEq.eq g.met.N.Eq.laws c.paths.paths.items given.0 c.in_ok-path.field-0 next.0 given.2 next.2),
      );
    }

pub returns-clause-all : goal.returns-clause-all
returns-clause-all g c =
    let i = c.paths.invariant in
    let given = i.gathered in
    elim c.in_default.ensures.steps as (λ _. AreGathered g.N.PartialEq.eq c.paths.paths.items c.args.solution.now.left) [
      | inl refused ↦ absurd (true≢false (sym refused.0 ∙ i.ready))
      | inr none ↦ subst (AreGathered g.N.PartialEq.eq c.paths.paths.items) (sym (given.1 ∙ ap (λ xs. given.0 ++ xs) none.0 ∙ append-nil given.0)) given.2
    ]

-- one path fewer is to come
fewer : {N : Type 0} (s t : PathsToCome N) (path : List N) → s.refused ≡ false → t.refused ≡ false → s.left ≡ path ∷ t.left → most_items t < most_items s
fewer s t path p q e = rw (p, q, e) (omega arith)

module _ {N Z : Type 0} (eq : N → N → Bool) (s t : PathsToCome N) (o : Result (Vec N Z) PathError) (h : PathsStep eq s (Some o) t) where
  -- what is said of a path that came, and of a refusal
  step_ok : (v : Vec N Z) → o ≡ Ok v → PathsStep eq s (Some (Ok v)) t
  step_ok v e = subst (λ (r : Result (Vec N Z) PathError). PathsStep eq s (Some r) t) e h

  step_err : (f : PathError) → o ≡ Err f → f ≡ OutOfMemory
  step_err f e = (subst (λ (r : Result (Vec N Z) PathError). PathsStep eq s (Some r) t) e h).0

pub paths-init : goal.paths-init
paths-init g c = record {
  ready = c.requires.ready;
  gathered = ([], refl, subst (λ (vs : List (Vec g.row.N.Denot g.row.A.Denot)). AreGathered g.N.PartialEq.eq vs []) (sym c.new-paths.ensures.items) tt);
}

pub next-requires : goal.next-requires
next-requires g c = c.requires.clones

pub returns-in_err-path-clause-all : goal.returns-in_err-path-clause-all
returns-in_err-path-clause-all g c = if_refused _ c.from_residual.result _ c.from_residual.ensures.1

pub returns-in_err-path-clause-refused : goal.returns-in_err-path-clause-refused
returns-in_err-path-clause-refused g c = refused_as _ c.from_residual.result _ c.from_residual.ensures.1 (step_err g.N.PartialEq.eq c.paths.solution c.next.new.self c.in-Some.path c.in-Some.ensures.steps _ c.in_err-path.was)

pub paths-smaller : goal.paths-smaller
paths-smaller g c =
    let s = step_ok g.N.PartialEq.eq c.paths.solution c.next.new.self c.in-Some.path c.in-Some.ensures.steps c.in_ok-path.field-0 c.in_ok-path.was in
    fewer c.paths.solution c.next.new.self s.3.0 s.0 s.2 s.3.1

pub returns-in_err-push-clause-all : goal.returns-in_err-push-clause-all
returns-in_err-push-clause-all g c = if_refused _ c.from_residual-in_err-push.result _ c.from_residual-in_err-push.ensures.1

pub returns-in_err-push-clause-refused : goal.returns-in_err-push-clause-refused
returns-in_err-push-clause-refused g c = refused_as _ c.from_residual-in_err-push.result _ c.from_residual-in_err-push.ensures.1 refl

pub returns-clause-refused : goal.returns-clause-refused
returns-clause-refused g c = tt
