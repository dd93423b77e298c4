use Rattle.std.proofs.Common.{sym, ◌∙◌, ap, arith, subst, decimal}
use Rattle.std.specs.Str.{IsUtf8}
use Rattle.std.specs.Result.{result_ok}
use Rattle.std.proofs.lemmas.Fmt.{parse-decimal, IsAscii-decimal}
use Rattle.std.proofs.lemmas.Str.{IsUtf8-from_ascii}
use Rattle.aea_reader.proofs.words.parsed.Goals as goal

pub returns-in-Ok : goal.returns-in-Ok
returns-in-Ok c n small text =
    c.ok.ensures.value ∙ ap result_ok (parse-decimal 32 n c.in-Ok.text.now c.parse.result small (omega arith) (c.in-Ok.ensures.cases.0 ∙ text) c.parse.ensures.value.0)

pub returns-in-Err : goal.returns-in-Err
returns-in-Err c n small text =
    absurd (c.in-Err.ensures.cases.0 (subst IsUtf8 (sym text) (IsUtf8-from_ascii (decimal n) (IsAscii-decimal n (omega arith)))))
