use Rattle.std.proofs.Common.{refl, ◌≡◌, ◌<◌, arith, length}
use Rattle.std.specs.Prelude.{vec_len}
use Rattle.std.proofs.Math.ListN.{length-set}
use Rattle.pf_base.proofs.Outcomes.{refused_as}
use Rattle.pf_base.specs.declared.error.PathError.TheVariants.{OutOfMemory}
use Rattle.pf_yen.proofs.backward.Backward.note.Goals.{in-Some+else-not-lt, in_default}
use Rattle.pf_yen.proofs.backward.Backward.note.Goals as goal

pub returns-then-number-len : goal.returns-then-number-len
returns-then-number-len g c = record { wide = refl; refused = tt }

pub returns-then-not-lt : goal.returns-then-not-lt
returns-then-not-lt g c = record { wide = refl; refused = tt }

pub index-requires : goal.index-requires
index-requires g c = omega (arith, c.if-number-len.false, c.len.ensures)

pub returns-in_err-push-clause-wide : goal.returns-in_err-push-clause-wide
returns-in_err-push-clause-wide g c = elim c.match-index.branch as (λ _. length c.match-index.self.costs.items ≡ length c.args.self.now.costs.items) [ in-Some+else-not-lt w ↦ rw w.self-is refl | in_default w ↦ rw w.self-is refl ]

pub returns-in_err-push-clause-refused : goal.returns-in_err-push-clause-refused
returns-in_err-push-clause-refused g c = refused_as _ c.from_residual.result OutOfMemory c.from_residual.ensures.1 refl

pub index_mut-requires : goal.index_mut-requires
index_mut-requires g c =
    let low : c.args.number < vec_len c.args.self.now.costs = omega (arith, c.if-number-len.false, c.len.ensures) in
    elim c.match-index.branch as (λ _. c.args.number < vec_len c.match-index.self.costs) [ in-Some+else-not-lt w ↦ rw w.self-is low | in_default w ↦ rw w.self-is low ]

pub returns-clause-wide : goal.returns-clause-wide
returns-clause-wide g c = simp length-set (elim c.match-index.branch as (λ _. length c.match-index.self.costs.items ≡ length c.args.self.now.costs.items) [ in-Some+else-not-lt w ↦ rw w.self-is refl | in_default w ↦ rw w.self-is refl ])
