use Rattle.std.proofs.Common.{◌≡◌, ◌*◌, ◌<◌, ap, sym, refl, ◌∙◌, arith, length, [], ◌∷◌, ◌++◌, inl, inr, ◌⊎◌, Err}
use Rattle.std.proofs.iter.Next.{Yields-more}
use Rattle.std.proofs.lemmas.Result.{IfOk-from_err}
use Rattle.pf_base.proofs.Outcomes.{refused_as}
use Rattle.pf_matrix.specs.declared.error.MatrixFormatError.TheVariants.{EmptyRow, OutOfMemory, WrongLength}
use Rattle.pf_matrix.specs.Giving.{GivesAll}
use Rattle.pf_matrix.proofs.RowLemmas.{AllZip-append, empty_is_not_long, empty_is_not_memory, flat_more, length-flat, grown, long_is_not_memory, ok_is_no_error, other_width, refused_is, rows_matrix}
use Rattle.pf_matrix.proofs.matrix.Matrix.from_rows.Goals as goal

pub loop-row-init : goal.loop-row-init
loop-row-init g c = ([], tt, c.new-values.ensures.items, refl)

pub push_all-requires : goal.push_all-requires
push_all-requires g c = c.requires.rows_end.at c.loop-row.yielded c.in-Some.row (record {
  iterator = c.into_iter-row-iterator.result;
  left = c.next.new.self;
  made = c.into_iter-row-iterator.ensures.into_iter_gives;
  yields = Yields-more g.IR.IntoIter.Iterator.next_gives c.into_iter-row-iterator.result c.loop-row.yielded c.loop-row.row-iterator c.in-Some.row c.next.new.self c.loop-row.yielded_by c.in-Some.ensures.steps;
})

pub loop-row-preserved : goal.loop-row-preserved
loop-row-preserved g c =
    let i = c.loop-row.invariant in
    let p = c.in_ok-length.ensures.given in
    let gives = GivesAll g.IC.IntoIterator.into_iter_gives g.IC.IntoIter.Iterator.next_gives in (
      i.0 ++ p.0 ∷ [],
      AllZip-append gives c.loop-row.yielded (c.in-Some.row ∷ []) i.0 (p.0 ∷ []) i.1 (p.1, tt),
      p.2 ∙ ap (λ z. z ++ p.0) i.2 ∙ sym (flat_more i.0 p.0),
      grown c.loop-row.width i.0 p.0 c.in_ok-length.length p.3 i.3 (sym c.unwrap_or.ensures ∙ c.if-unwrap_or-length.false),
    )

pub invariant_of-result : goal.invariant_of-result
invariant_of-result g c =
    let i = c.loop-row.invariant in
    let w = c.in-Some-width.columns in
    let shape = rw c.in-Some-width.is at i.3 in
    let wide : 0 < w = omega (arith, c.if-columns-eq0.false) in
    let n : c.len.result ≡ length c.loop-row.values.items = c.len.ensures ∙ c.loop-row.values.ok.0 in
    let rows = rows_matrix i.0 c.loop-row.values.items c.len.result w wide n i.2 shape.1 in
    let sized = ap length i.2 ∙ length-flat w i.0 shape.1 ∙ ap (λ k. k * w) (sym rows) in
    record { sized = sized; filled = λ _. wide; fits = omega (arith, sized, n) }

pub returns-in_default-clause-made : goal.returns-in_default-clause-made
returns-in_default-clause-made g c =
    let i = c.loop-row.invariant in
    let none = rw c.in_default.is at i.3 in
    record {
      given = c.loop-row.yielded;
      lists = i.0;
      gives = record {
        iterator = c.into_iter-row-iterator.result;
        made = c.into_iter-row-iterator.ensures.into_iter_gives;
        drains = (c.next.new.self, (c.loop-row.row-iterator, c.loop-row.yielded_by, c.in-None.ensures.steps));
      };
      values = i.1;
      holds = rw (c.new_empty.ensures.made, none) (record { rows = refl; columns = tt; values = refl; none = λ e. refl });
    }

pub returns-in_default-clause-wrong_length : goal.returns-in_default-clause-wrong_length
returns-in_default-clause-wrong_length g c = λ q. absurd (ok_is_no_error _ _ q)

pub returns-in_default-clause-empty_row : goal.returns-in_default-clause-empty_row
returns-in_default-clause-empty_row g c = λ q. absurd (ok_is_no_error _ _ q)

pub returns-in_err-length : goal.returns-in_err-length
returns-in_err-length g c = record {
  wrong_length = λ q. absurd (long_is_not_memory (refused_is c.from_residual.result c.in_err-length.field-0.0 WrongLength c.from_residual.ensures.1 q ∙ c.in_err-length.ensures.refused));
  empty_row = λ q. absurd (empty_is_not_memory (refused_is c.from_residual.result c.in_err-length.field-0.0 EmptyRow c.from_residual.ensures.1 q ∙ c.in_err-length.ensures.refused));
  refused = refused_as (λ e. (e ≡ WrongLength) ⊎ (e ≡ EmptyRow) ⊎ (e ≡ OutOfMemory)) c.from_residual.result c.in_err-length.field-0.0 c.from_residual.ensures.1 (inr (inr c.in_err-length.ensures.refused));
  made = IfOk-from_err _ _ c.from_residual.ensures.0;
  matrix = IfOk-from_err _ _ c.from_residual.ensures.0;
}

pub returns-then-unwrap_or-length : goal.returns-then-unwrap_or-length
returns-then-unwrap_or-length g c = record {
  wrong_length = λ _.
      let i = c.loop-row.invariant in
      let p = c.in_ok-length.ensures.given in
      let gives = GivesAll g.IC.IntoIterator.into_iter_gives g.IC.IntoIter.Iterator.next_gives in
      let o = other_width c.loop-row.width i.0 c.in_ok-length.length i.3 (λ e. c.if-unwrap_or-length.true (c.unwrap_or.ensures ∙ e)) in
      record {
        given = c.loop-row.yielded ++ c.in-Some.row ∷ [];
        lists = i.0 ++ p.0 ∷ [];
        gives = record {
          iterator = c.into_iter-row-iterator.result;
          left = c.next.new.self;
          made = c.into_iter-row-iterator.ensures.into_iter_gives;
          yields = Yields-more g.IR.IntoIter.Iterator.next_gives c.into_iter-row-iterator.result c.loop-row.yielded c.loop-row.row-iterator c.in-Some.row c.next.new.self c.loop-row.yielded_by c.in-Some.ensures.steps;
        };
        values = AllZip-append gives c.loop-row.yielded (c.in-Some.row ∷ []) i.0 (p.0 ∷ []) i.1 (p.1, tt);
        holds = record { before = i.0; last = p.0; width = o.0; is = refl; some = o.1; same = o.2; differs = λ e. o.3 (sym e ∙ sym p.3) };
      };
  empty_row = λ q. absurd (empty_is_not_long (refused_is (Err WrongLength) WrongLength EmptyRow refl q));
  made = tt;
  matrix = tt;
  refused = inl refl;
}

pub returns-then-columns-eq0 : goal.returns-then-columns-eq0
returns-then-columns-eq0 g c = record {
  empty_row = λ _.
      let i = c.loop-row.invariant in
      let shape = rw c.in-Some-width.is at i.3 in
      record {
        given = c.loop-row.yielded;
        lists = i.0;
        gives = record {
          iterator = c.into_iter-row-iterator.result;
          made = c.into_iter-row-iterator.ensures.into_iter_gives;
          drains = (c.next.new.self, (c.loop-row.row-iterator, c.loop-row.yielded_by, c.in-None.ensures.steps));
        };
        values = i.1;
        holds = (shape.0, rw c.if-columns-eq0.true at shape.1);
      };
  wrong_length = λ q. absurd (empty_is_not_long (sym (refused_is (Err EmptyRow) EmptyRow WrongLength refl q)));
  made = tt;
  matrix = tt;
  refused = inr (inl refl);
}

pub returns : goal.returns
returns g c = record {
  matrix = invariant_of-result g c;
  made =
      let i = c.loop-row.invariant in
      let w = c.in-Some-width.columns in
      let shape = rw c.in-Some-width.is at i.3 in
      let wide : 0 < w = omega (arith, c.if-columns-eq0.false) in
      let n : c.len.result ≡ length c.loop-row.values.items = c.len.ensures ∙ c.loop-row.values.ok.0 in
      record {
        given = c.loop-row.yielded;
        lists = i.0;
        gives = record {
          iterator = c.into_iter-row-iterator.result;
          made = c.into_iter-row-iterator.ensures.into_iter_gives;
          drains = (c.next.new.self, (c.loop-row.row-iterator, c.loop-row.yielded_by, c.in-None.ensures.steps));
        };
        values = i.1;
        holds = record {
          rows = rows_matrix i.0 c.loop-row.values.items c.len.result w wide n i.2 shape.1;
          columns = shape.1;
          values = i.2;
          none = λ e. absurd (omega (arith, ap length e, shape.0));
        };
      };
  wrong_length = λ q. absurd (ok_is_no_error _ _ q);
  empty_row = λ q. absurd (ok_is_no_error _ _ q);
  refused = tt;
}

pub returns-in_default-clause-refused : goal.returns-in_default-clause-refused
returns-in_default-clause-refused g c = tt
