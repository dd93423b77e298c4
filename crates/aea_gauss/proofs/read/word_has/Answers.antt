use Rattle.std.proofs.Common.{◌*◌, ◌<◌, ◌∙◌, None, get_or, arith}
use Rattle.aea_gauss_words.specs.Matrices.{IsLead}
use Rattle.aea_gauss_words.specs.Words.{bit_matrix}
use Rattle.aea_readings.specs.Readings.{IsFree}
use Rattle.aea_gauss.proofs.Reading.{at_none, at_some, same_default, word_led, word_free}
use Rattle.aea_gauss.proofs.read.word_has.Goals as goal

pub returns-in-Some : goal.returns-in-Some
returns-in-Some c =
    let rows = c.args.rows in
    let big = 64 * c.args.wide in
    let m = bit_matrix c.args.wide c.args.words.now in
    let k = c.args.k in
    let leads = c.args.leads.now in
    let got = at_some (get_or leads k None) (IsFree rows big m k) (λ i. (i < rows) × IsLead big (m i) k) c.in-Some.row (c.requires.leads k c.requires.k)
    (same_default leads k None _ c.requires.k ∙ c.in-Some.is) in
    c.has.ensures ∙ word_led rows big m c.args.f k c.in-Some.row c.requires.reduced c.if-k-f.false got.0 got.1

pub returns-in-None : goal.returns-in-None
returns-in-None c =
    let rows = c.args.rows in
    let big = 64 * c.args.wide in
    let m = bit_matrix c.args.wide c.args.words.now in
    let k = c.args.k in
    let leads = c.args.leads.now in
    let free = at_none (get_or leads k None) (IsFree rows big m k) (λ i. (i < rows) × IsLead big (m i) k) (c.requires.leads k c.requires.k)
    (same_default leads k None _ c.requires.k ∙ c.in-None.is) in
    word_free rows big m c.args.f k c.if-k-f.false (omega arith) free
