use Rattle.std.proofs.Common.{◌+◌, ◌*◌, ◌<◌, ◌∙◌, None, get_or, length, sym, subst, arith}
use Rattle.aea_lattice.specs.LeastWord.{IsWord}
use Rattle.aea_gauss_words.specs.Matrices.{IsLead}
use Rattle.aea_gauss_words.specs.Words.{bit_matrix}
use Rattle.aea_fates.specs.Sums.{IsSum}
use Rattle.aea_readings.specs.Readings.{IsFree}
use Rattle.aea_readings.specs.Small.{block_in}
use Rattle.aea_gauss.proofs.Reading.{at_none, at_some, same_default, lead_narrow, free_narrow}
use Rattle.aea_gauss.proofs.read.read_fate.Goals as goal

pub returns-in_ok-nodes-in-None-clause-revealed : goal.returns-in_ok-nodes-in-None-clause-revealed
returns-in_ok-nodes-in-None-clause-revealed c l known reveal =
    let blocks = c.args.blocks.now in
    let a = c.args.a in
    let rows = length c.args.equations.now in
    let cols = length blocks + rows in
    let big = 64 * c.args.wide in
    let m = bit_matrix c.args.wide c.args.words.now in
    let leads = c.args.leads.now in
    let wide = c.requires.wide in
    let long = c.requires.blocks in
    let less = c.requires.a in
    let inside : a < length leads = omega arith in
    let free = at_none (get_or leads a None) (IsFree rows big m a) (λ i. (i < rows) × IsLead big (m i) a) (c.requires.leads a inside)
    (same_default leads a None _ inside ∙ c.in-None.is) in
    subst (IsWord l known (block_in blocks a)) (sym c.in_ok-nodes-in-None.ensures)
    (reveal.free a less (free_narrow rows cols big m a (omega arith) free))

pub returns-in_ok-eqs-in-None-next_column-clause-revealed : goal.returns-in_ok-eqs-in-None-next_column-clause-revealed
returns-in_ok-eqs-in-None-next_column-clause-revealed c l known reveal =
    let blocks = c.args.blocks.now in
    let a = c.args.a in
    let rows = length c.args.equations.now in
    let cols = length blocks + rows in
    let big = 64 * c.args.wide in
    let m = bit_matrix c.args.wide c.args.words.now in
    let leads = c.args.leads.now in
    let long = c.requires.blocks in
    let less = c.requires.a in
    let inside : a < length leads = omega arith in
    let got = at_some (get_or leads a None) (IsFree rows big m a) (λ i. (i < rows) × IsLead big (m i) a) c.in-Some.row (c.requires.leads a inside)
    (same_default leads a None _ inside ∙ c.in-Some.is) in
    subst (IsSum l known (block_in blocks a)) (sym c.in_ok-eqs-in-None-next_column.ensures)
    (reveal.sum a c.in-Some.row less got.0 (lead_narrow cols big (m c.in-Some.row) a (omega arith) got.1)
    (λ k low high. c.in-None-next_column.ensures k (omega arith) high))

pub returns-in_ok-nodes-in-Some-next_column-clause-revealed : goal.returns-in_ok-nodes-in-Some-next_column-clause-revealed
returns-in_ok-nodes-in-Some-next_column-clause-revealed c l known reveal =
    let blocks = c.args.blocks.now in
    let a = c.args.a in
    let rows = length c.args.equations.now in
    let cols = length blocks + rows in
    let big = 64 * c.args.wide in
    let m = bit_matrix c.args.wide c.args.words.now in
    let leads = c.args.leads.now in
    let long = c.requires.blocks in
    let less = c.requires.a in
    let inside : a < length leads = omega arith in
    let got = at_some (get_or leads a None) (IsFree rows big m a) (λ i. (i < rows) × IsLead big (m i) a) c.in-Some.row (c.requires.leads a inside)
    (same_default leads a None _ inside ∙ c.in-Some.is) in
    let next = c.in-Some-next_column.ensures in
    let next0 = next.0 in
    let next1 = next.1 in
    subst (IsWord l known (block_in blocks a)) (sym c.in_ok-nodes-in-Some-next_column.ensures)
    (reveal.next a c.in-Some-next_column.f c.in-Some.row less got.0 (lead_narrow cols big (m c.in-Some.row) a (omega arith) got.1)
    (omega arith) next1 next.2 (λ k low high. next.3 k (omega arith) high))
