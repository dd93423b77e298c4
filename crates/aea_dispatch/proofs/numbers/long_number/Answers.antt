use Rattle.std.proofs.Common.{◌≡◌, arith, sym, ◌∙◌, ap, decimal, Ok, true, false}
use Rattle.std.proofs.lemmas.Fmt.{parse-decimal}
use Rattle.std.proofs.lemmas.Slice.Eq.{bytes_eq-Decides}
use Rattle.aea_dispatch.proofs.numbers.long_number.Goals as goal

pub returns-in_default-clause-none : goal.returns-in_default-clause-none
returns-in_default-clause-none c n small text =
    let parsed : c.parse.result ≡ Ok n = parse-decimal 64 n c.args.text.now c.parse.result small (omega arith) text c.parse.ensures.value.0 in
    cc

pub returns-else-eq-clause-none : goal.returns-else-eq-clause-none
returns-else-eq-clause-none c n small text =
    let parsed : c.parse.result ≡ Ok n = parse-decimal 64 n c.args.text.now c.parse.result small (omega arith) text c.parse.ensures.value.0 in
    let same : c.in-Ok.n ≡ n = cc in
    let printed : c.format.result.now ≡ c.args.text.now = c.format.ensures.text ∙ ap decimal same ∙ sym text in
    let equal : c.eq.result ≡ true = c.eq.ensures ∙ (bytes_eq-Decides c.format.result.now c.args.text.now).1 printed in
    let differ : c.eq.result ≡ false = c.if-eq.false in
    cc
