use Rattle.aea_dispatch.proofs.Commands.{five_items}
use Rattle.aea_dispatch.proofs.drill_words.parse_drill.Goals as goal

pub returns-clause-none : goal.returns-clause-none
returns-clause-none c =
    rw (five_items c.args.words.now c.command-item.result c.alpha-item.result c.s-item.result c.p-item.result c.n-item.result
    c.in-len5.len_at_least c.in-len5.len_below c.command-item.is c.alpha-item.is c.s-item.is c.p-item.is c.n-item.is)
    (rw (c.as_str.ensures.value, c.as_str-2.ensures.value, c.as_str-3.ensures.value, c.as_str-4.ensures.value, c.as_str-5.ensures.value)
    at c.drill_of.ensures.none)
