use Rattle.std.proofs.Common.{ℕ, ◌<◌, ◌∙◌, sym, subst}
use Rattle.pf_base.proofs.ListLemmas.{at_place}
use Rattle.pf_core.proofs.LabelLemmas.{HasLabel-inside}
use Rattle.pf_core.proofs.ReadLemmas.{none_read}
use Rattle.pf_core.proofs.labels.label_of.Goals as goal

pub index-requires : goal.index-requires
index-requires g c = subst (λ (n : ℕ). c.args.number < n) (sym c.args.labels.now.ok.0) (HasLabel-inside c.args.labels.now.items c.args.number c.requires.0 c.requires.1)

pub unreachable-requires : goal.unreachable-requires
unreachable-requires g c = none_read c.args.labels.now.items c.args.number c.index.result.now c.label.result c.index.ensures c.label.ensures c.in-None.is c.requires.0 c.requires.1

pub returns : goal.returns
returns g c = at_place c.args.labels.now.items c.args.number _ _ (HasLabel-inside c.args.labels.now.items c.args.number c.requires.0 c.requires.1) (sym c.index.ensures ∙ sym c.in-Some.ensures)
