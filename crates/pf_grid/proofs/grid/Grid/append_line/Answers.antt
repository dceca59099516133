use Rattle.std.proofs.Common.{◌∙◌, ◌++◌, ap, sym, encode_utf8, ◌≡◌, refl}
use Rattle.std.specs.String.{string_bytes}
use Rattle.std.proofs.lemmas.List.{append_assoc}
use Rattle.pf_grid.specs.Texts.{line_to}
use Rattle.pf_grid.proofs.TextLemmas.{line_none, line_more}
use Rattle.pf_base.proofs.Outcomes.{on_refused, refused_as}
use Rattle.pf_grid.specs.declared.error.GridError.TheVariants.{OutOfMemory}
use Rattle.pf_grid.proofs.grid.Grid.append_line.Goals as goal

pub loop-x-init : goal.loop-x-init
loop-x-init g c = line_none c.args.self.now c.args.present c.args.absent c.args.y (string_bytes c.args.text.now)

pub loop-x-preserved : goal.loop-x-preserved
loop-x-preserved g c =
    let before = string_bytes c.args.text.now in
    let line = line_to c.args.self.now c.args.present c.args.absent c.args.y in
    c.in_ok-push.ensures.bytes
    ∙ ap (λ bs. bs ++ encode_utf8 c.mark_at.result) c.loop-x.invariant
    ∙ append_assoc before (line c.loop-x.x) (encode_utf8 c.mark_at.result)
    ∙ ap (λ m. before ++ (line c.loop-x.x ++ encode_utf8 m)) c.mark_at.ensures
    ∙ ap (λ bs. before ++ bs) (sym (line_more c.args.self.now c.args.present c.args.absent c.args.y c.loop-x.x))

pub returns-in_err-push : goal.returns-in_err-push
returns-in_err-push g c = record {
  appended = on_refused _ c.from_residual.result OutOfMemory c.from_residual.ensures.1;
  refused = refused_as (λ e. e ≡ OutOfMemory) c.from_residual.result OutOfMemory c.from_residual.ensures.1 refl;
}

pub returns-clause-refused : goal.returns-clause-refused
returns-clause-refused g c = tt
