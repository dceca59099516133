use Rattle.std.proofs.Common.{◌≡◌, true, ap, inl, inr}
use Rattle.std.specs.Prelude.{reverse}
use Rattle.pf_base.proofs.ListLemmas.{none_in}
use Rattle.pf_deepening.proofs.way.Way.begin.Goals as goal

pub returns-clause-below : goal.returns-clause-below
returns-clause-below g c = ap reverse c.new.ensures.items

pub returns-clause-marked : goal.returns-clause-marked
returns-clause-marked g c = λ k.
    let m = c.in_ok-mark.ensures.marked k in (
      (λ h. elim (m.0 h) as (λ _. k ≡ 0) [ inl q ↦ absurd (none_in k true (rw c.new-marks.ensures.items at q)) | inr q ↦ q ]),
      (λ e. m.1 (inr e)),
    )

pub returns-clause-cut_off : goal.returns-clause-cut_off
returns-clause-cut_off g c = (c.new-2.ensures.least, c.new-2.ensures.past)
