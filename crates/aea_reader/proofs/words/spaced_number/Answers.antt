use Rattle.std.proofs.Common.{◌≡◌, Some, None}
use Rattle.aea_reader.proofs.Numbers.{cut_spaced}
use Rattle.aea_reader.proofs.words.spaced_number.Goals as goal

pub returns-in-Some-number-clause-reads : goal.returns-in-Some-number-clause-reads
returns-in-Some-number-clause-reads c n rest small begins text =
    let parts = cut_spaced c.args.text.now c.in-Some.rest.now c.cut.result.0.now c.cut.result.1.now n rest c.in-Some.ensures.found c.cut.ensures.spelled c.cut.ensures.word c.cut.ensures.rest small begins text in
    let read : c.number.result ≡ Some n = c.number.ensures.reads n small parts.0 in
    let is : c.number.result ≡ Some c.in-Some-number.n = c.in-Some-number.is in
    (cc, parts.1)

pub returns-in-None-clause-reads : goal.returns-in-None-clause-reads
returns-in-None-clause-reads c n rest small begins text =
    let parts = cut_spaced c.args.text.now c.in-Some.rest.now c.cut.result.0.now c.cut.result.1.now n rest c.in-Some.ensures.found c.cut.ensures.spelled c.cut.ensures.word c.cut.ensures.rest small begins text in
    let read : c.number.result ≡ Some n = c.number.ensures.reads n small parts.0 in
    let is : c.number.result ≡ None = c.in-None.is in
    cc
