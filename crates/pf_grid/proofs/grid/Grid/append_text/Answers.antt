use Rattle.std.proofs.Common.{rules, ◌∙◌, ◌++◌, ◌-◌, ap, sym, ◌≡◌, refl}
use Rattle.std.specs.Prelude.{if◌then◌else◌}
use Rattle.std.proofs.lemmas.List.{append_assoc}
use Rattle.pf_grid.specs.Texts.{line_to, line_end, lines_to}
use Rattle.pf_grid.proofs.TextLemmas.{lines_none, lines_more}
use Rattle.pf_base.proofs.Outcomes.{on_refused, refused_as}
use Rattle.pf_grid.specs.declared.error.GridError.TheVariants.{OutOfMemory}
use Rattle.pf_grid.proofs.grid.Grid.append_text.Goals as goal

pub loop-line-init : goal.loop-line-init
loop-line-init g c = c.new-text.ensures.bytes ∙ lines_none c.args.self.now c.args.present c.args.absent c.args.reversed

pub loop-line-preserved : goal.loop-line-preserved
loop-line-preserved g c =
    let now = c.args.self.now in
    let line = line_to now c.args.present c.args.absent in
    let lines = lines_to now c.args.present c.args.absent c.args.reversed c.loop-line.line in
    let n = c.loop-line.line in
    let row = c.row_of-y.ensures ∙ ap (λ h. if c.args.reversed then h - 1 - n else n) c.height-height.ensures.height in
    c.in_ok-append_line.ensures.appended
    ∙ ap (λ bs. bs ++ line c.row_of-y.result now.width) (c.in_ok-append_line_end.ensures.appended ∙ ap (λ bs. bs ++ line_end n) c.loop-line.invariant)
    ∙ append_assoc lines (line_end n) (line c.row_of-y.result now.width)
    ∙ ap (λ y. lines ++ (line_end n ++ line y now.width)) row
    ∙ sym (lines_more now c.args.present c.args.absent c.args.reversed n)

pub returns-clause-appended : goal.returns-clause-appended
returns-clause-appended g c = search rules

pub returns-in_err-append_line_end-clause-appended : goal.returns-in_err-append_line_end-clause-appended
returns-in_err-append_line_end-clause-appended g c = on_refused _ c.from_residual.result c.in_err-append_line_end.field-0.0 c.from_residual.ensures.1

pub returns-in_err-append_line_end-clause-refused : goal.returns-in_err-append_line_end-clause-refused
returns-in_err-append_line_end-clause-refused g c = refused_as (λ e. e ≡ OutOfMemory) c.from_residual.result c.in_err-append_line_end.field-0.0 c.from_residual.ensures.1 c.in_err-append_line_end.ensures.refused

pub returns-in_err-append_line-clause-appended : goal.returns-in_err-append_line-clause-appended
returns-in_err-append_line-clause-appended g c = on_refused _ c.from_residual-in_err-append_line.result c.in_err-append_line.field-0.0 c.from_residual-in_err-append_line.ensures.1

pub returns-in_err-append_line-clause-refused : goal.returns-in_err-append_line-clause-refused
returns-in_err-append_line-clause-refused g c = refused_as (λ e. e ≡ OutOfMemory) c.from_residual-in_err-append_line.result c.in_err-append_line.field-0.0 c.from_residual-in_err-append_line.ensures.1 c.in_err-append_line.ensures.refused

pub returns-in_err-push_str-clause-appended : goal.returns-in_err-push_str-clause-appended
returns-in_err-push_str-clause-appended g c = on_refused _ c.from_residual-in_err-push_str.result OutOfMemory c.from_residual-in_err-push_str.ensures.1

pub returns-in_err-push_str-clause-refused : goal.returns-in_err-push_str-clause-refused
returns-in_err-push_str-clause-refused g c = refused_as (λ e. e ≡ OutOfMemory) c.from_residual-in_err-push_str.result OutOfMemory c.from_residual-in_err-push_str.ensures.1 refl

pub returns-clause-refused : goal.returns-clause-refused
returns-clause-refused g c = tt

pub returns-clause-unchanged : goal.returns-clause-unchanged
returns-clause-unchanged g c = tt
