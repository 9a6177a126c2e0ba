use Rattle.std.proofs.Common.{◌≡◌, ◌++◌, IfOk, Some, None, refl, subst, inl}
use Rattle.std.proofs.lemmas.Result.{IfOk-from_err, IfOk-weaker}
use Rattle.std.proofs.lemmas.Bool.{false≢true}
use Rattle.text.specs.Keyed.{key_text}
use Rattle.text.specs.Law.{IsRead}
use Rattle.text.specs.Rows.{IsRow}
use Rattle.text.specs.declared.commands.Command.TheVariants.{Nothing}
use Rattle.text.specs.declared.keys.Key.{Key}
use Rattle.text.proofs.Lines.{laws, reads_back, read_row, read_run, no_key, no_numbers}
use Rattle.text.proofs.commands.Command.read.Goals as goal

pub returns-then-asks_nothing : goal.returns-then-asks_nothing
returns-then-asks_nothing c =
    let h : IsRead c.args.line.now (Some Nothing) = inl (c.if-asks_nothing.ensures.0 refl, refl) in
    record { reads = h; back = reads_back c.args.line.now (Some Nothing) h; laws = laws }

pub returns-in_default : goal.returns-in_default
returns-in_default c =
    let h : IsRead c.args.line.now None = no_key c.args.line.now (λ r. false≢true (c.if-asks_nothing.ensures.1 r)) c.in_default.ensures in
    record { reads = h; back = reads_back c.args.line.now None h; laws = laws }

pub returns-in-RunBy : goal.returns-in-RunBy
returns-in-RunBy c =
    let starts = subst (λ (k : Key). c.args.line.now ≡ key_text k ++ c.in-Some.tail.now) c.in-RunBy.is c.in-Some.ensures in
    let h : IfOk c.run_by.result (IsRead c.args.line.now) =
    IfOk-weaker c.run_by.result _ _ (λ r e. read_run c.args.line.now c.in-Some.tail.now r starts e) c.run_by.ensures
    in record { reads = h; back = IfOk-weaker c.run_by.result _ _ (reads_back c.args.line.now) h; laws = laws }

pub returns-in_err-row : goal.returns-in_err-row
returns-in_err-row c = record {
  reads = IfOk-from_err c.from_residual.result _ c.from_residual.ensures.0;
  back = IfOk-from_err c.from_residual.result _ c.from_residual.ensures.0;
  laws = laws;
}

pub returns-in_default-2 : goal.returns-in_default-2
returns-in_default-2 c =
    let h : IsRead c.args.line.now None =
    no_numbers c.args.line.now c.in-Some.key c.in-Some.tail.now c.in-Some.ensures (subst (IsRow c.in-Some.tail.now) c.in_default-2.is c.in_ok-row.ensures)
    in record { reads = h; back = reads_back c.args.line.now None h; laws = laws }

pub returns : goal.returns
returns c =
    let h : IsRead c.args.line.now c.with_numbers.result =
    read_row c.args.line.now c.in-Some.key c.in-Some.tail.now _ c.with_numbers.result c.in-Some.ensures (subst (IsRow c.in-Some.tail.now) c.in-Some-2.is c.in_ok-row.ensures) c.with_numbers.ensures
    in record { reads = h; back = reads_back c.args.line.now c.with_numbers.result h; laws = laws }
