use Rattle.std.proofs.Common.{sym, ◌∙◌, string_bytes}
use Rattle.std.proofs.lemmas.Slice.Eq.{bytes_eq-Decides}
use Rattle.aea_dispatch.proofs.Commands.{one_item}
use Rattle.aea_dispatch.proofs.words.is_word.Goals as goal

pub returns-in-len1 : goal.returns-in-len1
returns-in-len1 c =
    rw (one_item c.args.words.now c.command-item.result c.in-len1.len_at_least c.in-len1.len_below c.command-item.is)
    (let said = rw c.as_str.ensures.value at c.eq.ensures in
    let reveals = bytes_eq-Decides (string_bytes c.command-item.result) c.args.word.now in
    (λ yes'. let same = reveals.0 (sym said ∙ yes') in cc, λ means. said ∙ reveals.1 cc))
