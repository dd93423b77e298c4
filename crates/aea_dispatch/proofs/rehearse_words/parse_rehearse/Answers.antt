use Rattle.std.proofs.Common.{◌≡◌, codes, sym, ◌∙◌, true, false, not, string_bytes, Bool, refl}
use Rattle.std.specs.Str.{bytes_eq}
use Rattle.std.proofs.lemmas.Slice.Eq.{bytes_eq-Decides}
use Rattle.aea_dispatch.proofs.Commands.{four_items}
use Rattle.aea_dispatch.proofs.rehearse_words.parse_rehearse.Goals as goal

not_false : (b : Bool) → not b ≡ false → b ≡ true
not_false true e = refl
not_false false e = let h : true ≡ false = e in cc

pub returns-clause-found : goal.returns-clause-found
returns-clause-found c =
    let word : string_bytes c.command-item.result ≡ codes "rehearse" =
    sym c.as_str.ensures.value ∙ (bytes_eq-Decides c.as_str.result.now (codes "rehearse")).0 (not_false (bytes_eq c.as_str.result.now (codes "rehearse")) (sym c.ne.ensures ∙ c.if-ne.false)) in
    rw (four_items c.args.words.now c.command-item.result c.from-item.result c.nodes-item.result c.permille-item.result
    c.in-len4.len_at_least c.in-len4.len_below c.command-item.is c.from-item.is c.nodes-item.is c.permille-item.is)
    (rw word
    (rw (c.as_str-2.ensures.value, c.as_str-3.ensures.value, c.as_str-4.ensures.value)
    at c.numbered_rehearsal.ensures.found))

pub returns-clause-none : goal.returns-clause-none
returns-clause-none c =
    let word : string_bytes c.command-item.result ≡ codes "rehearse" =
    sym c.as_str.ensures.value ∙ (bytes_eq-Decides c.as_str.result.now (codes "rehearse")).0 (not_false (bytes_eq c.as_str.result.now (codes "rehearse")) (sym c.ne.ensures ∙ c.if-ne.false)) in
    rw (four_items c.args.words.now c.command-item.result c.from-item.result c.nodes-item.result c.permille-item.result
    c.in-len4.len_at_least c.in-len4.len_below c.command-item.is c.from-item.is c.nodes-item.is c.permille-item.is)
    (rw word
    (rw (c.as_str-2.ensures.value, c.as_str-3.ensures.value, c.as_str-4.ensures.value)
    at c.numbered_rehearsal.ensures.none))
