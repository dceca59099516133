use Rattle.std.proofs.Common.{rules, ◌∙◌, ◌++◌, ◌∷◌, [], ℕ, List, ap, take, arith, refl}
use Rattle.pf_base.proofs.Outcomes.{if_refused, on_refused, refused_as}
use Rattle.pf_search.proofs.DescentLemmas.{known, newly}
use Rattle.pf_search.proofs.directed.dfs.descent.Descent.visit.Goals as goal

pub returns-then-number-before-clause-visited : goal.returns-then-number-before-clause-visited
returns-then-number-before-clause-visited g c =
    let keys = g.M.Numbering.keys c.args.self.now.visited in
    let keys' = g.M.Numbering.keys c.number_of.new.self in
    let inside = c.if-number-before.true in
    let q = known g.N.PartialEq.eq g.met.N.Eq.laws keys keys' c.args.node c.in_ok-number.number c.requires.distinct c.number_of.ensures.added c.in_ok-number.ensures.numbered (omega (arith, inside, c.len-before.ensures.len)) in
    (q.0, q.1, refl)

pub returns-clause-visited : goal.returns-clause-visited
returns-clause-visited g c =
    let keys = g.M.Numbering.keys c.args.self.now.visited in
    let keys' = g.M.Numbering.keys c.number_of.new.self in
    let beyond = c.if-number-before.false in
    let q = newly g.N.PartialEq.eq g.met.N.Eq.laws keys keys' c.args.node c.in_ok-number.number c.number_of.ensures.added c.in_ok-number.ensures.numbered (omega (arith, beyond, c.len-before.ensures.len)) in
    (q.0, q.1, c.in_ok-number.ensures.numbered, c.in_ok-push.ensures.items ∙ ap (λ (ks : List ℕ). ks ++ c.in-Ok.last ∷ []) c.truncate.ensures.items ∙ ap (λ (k : ℕ). take c.args.depth c.args.self.now.path.items ++ k ∷ []) (search rules))

pub returns-in_err-number-clause-added : goal.returns-in_err-number-clause-added
returns-in_err-number-clause-added g c = on_refused _ c.from_residual.result _ c.from_residual.ensures.1

pub returns-in_err-number-clause-waiting : goal.returns-in_err-number-clause-waiting
returns-in_err-number-clause-waiting g c = refl

pub returns-in_err-number-clause-visited : goal.returns-in_err-number-clause-visited
returns-in_err-number-clause-visited g c = if_refused _ c.from_residual.result _ c.from_residual.ensures.1

pub returns-in_err-number-clause-refused : goal.returns-in_err-number-clause-refused
returns-in_err-number-clause-refused g c = refused_as _ c.from_residual.result _ c.from_residual.ensures.1 refl

pub returns-in_err-push-clause-added : goal.returns-in_err-push-clause-added
returns-in_err-push-clause-added g c = on_refused _ c.from_residual-in_err-push.result _ c.from_residual-in_err-push.ensures.1

pub returns-in_err-push-clause-waiting : goal.returns-in_err-push-clause-waiting
returns-in_err-push-clause-waiting g c = refl

pub returns-in_err-push-clause-visited : goal.returns-in_err-push-clause-visited
returns-in_err-push-clause-visited g c = if_refused _ c.from_residual-in_err-push.result _ c.from_residual-in_err-push.ensures.1

pub returns-in_err-push-clause-refused : goal.returns-in_err-push-clause-refused
returns-in_err-push-clause-refused g c = refused_as _ c.from_residual-in_err-push.result _ c.from_residual-in_err-push.ensures.1 refl

pub returns-then-number-before-clause-added : goal.returns-then-number-before-clause-added
returns-then-number-before-clause-added g c = c.number_of.ensures.added

pub returns-then-number-before-clause-waiting : goal.returns-then-number-before-clause-waiting
returns-then-number-before-clause-waiting g c = refl

pub returns-then-number-before-clause-refused : goal.returns-then-number-before-clause-refused
returns-then-number-before-clause-refused g c = tt

pub returns-in_default-clause-added : goal.returns-in_default-clause-added
returns-in_default-clause-added g c = tt

pub returns-in_default-clause-waiting : goal.returns-in_default-clause-waiting
returns-in_default-clause-waiting g c = refl

pub returns-in_default-clause-visited : goal.returns-in_default-clause-visited
returns-in_default-clause-visited g c = tt

pub returns-in_default-clause-refused : goal.returns-in_default-clause-refused
returns-in_default-clause-refused g c = refl

pub returns-clause-added : goal.returns-clause-added
returns-clause-added g c = c.number_of.ensures.added

pub returns-clause-waiting : goal.returns-clause-waiting
returns-clause-waiting g c = refl

pub returns-clause-refused : goal.returns-clause-refused
returns-clause-refused g c = tt
