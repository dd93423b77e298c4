use Rattle.std.proofs.Common.{◌≡◌, codes, sym, ◌∙◌, true, false, not, string_bytes, Bool, refl}
use Rattle.std.specs.Str.{bytes_eq}
use Rattle.std.proofs.lemmas.Slice.Eq.{bytes_eq-Decides}
use Rattle.aea_dispatch.proofs.Commands.{six_items}
use Rattle.aea_dispatch.proofs.create_words.parse_create.Goals as goal

not_false : (b : Bool) → not b ≡ false → b ≡ true
not_false true e = refl
not_false false e = let h : true ≡ false = e in cc

pub returns-clause-found : goal.returns-clause-found
returns-clause-found c =
    let word : string_bytes c.command-item.result ≡ codes "create" =
    sym c.as_str.ensures.value ∙ (bytes_eq-Decides c.as_str.result.now (codes "create")).0 (not_false (bytes_eq c.as_str.result.now (codes "create")) (sym c.ne.ensures ∙ c.if-ne.false)) in
    rw (six_items c.args.words.now c.command-item.result c.alpha-item.result c.s-item.result c.p-item.result c.block-item.result c.sites-item.result
    c.in-len6.len_at_least c.in-len6.len_below c.command-item.is c.alpha-item.is c.s-item.is c.p-item.is c.block-item.is c.sites-item.is)
    (rw word
    (rw (c.as_str-2.ensures.value, c.as_str-3.ensures.value, c.as_str-4.ensures.value, c.as_str-5.ensures.value, c.as_str-6.ensures.value)
    at c.numbered_shape.ensures.found))

pub returns-clause-none : goal.returns-clause-none
returns-clause-none c =
    let word : string_bytes c.command-item.result ≡ codes "create" =
    sym c.as_str.ensures.value ∙ (bytes_eq-Decides c.as_str.result.now (codes "create")).0 (not_false (bytes_eq c.as_str.result.now (codes "create")) (sym c.ne.ensures ∙ c.if-ne.false)) in
    rw (six_items c.args.words.now c.command-item.result c.alpha-item.result c.s-item.result c.p-item.result c.block-item.result c.sites-item.result
    c.in-len6.len_at_least c.in-len6.len_below c.command-item.is c.alpha-item.is c.s-item.is c.p-item.is c.block-item.is c.sites-item.is)
    (rw word
    (rw (c.as_str-2.ensures.value, c.as_str-3.ensures.value, c.as_str-4.ensures.value, c.as_str-5.ensures.value, c.as_str-6.ensures.value)
    at c.numbered_shape.ensures.none))
