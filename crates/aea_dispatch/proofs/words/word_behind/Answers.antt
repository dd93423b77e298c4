use Rattle.std.proofs.Common.{◌≡◌, ℕ, List, [], ◌∷◌, ap, map, sym, ◌∙◌, true, false, not, string_bytes, Bool, refl}
use Rattle.std.specs.Str.{bytes_eq}
use Rattle.std.proofs.lemmas.Slice.Eq.{bytes_eq-Decides}
use Rattle.aea_dispatch.proofs.Commands.{two_items}
use Rattle.aea_dispatch.proofs.words.word_behind.Goals as goal

not_false : (b : Bool) → not b ≡ false → b ≡ true
not_false true e = refl
not_false false e = let h : true ≡ false = e in cc

pub returns-clause-found : goal.returns-clause-found
returns-clause-found c =
    let word : string_bytes c.command-item.result ≡ c.args.word.now =
    sym c.as_str.ensures.value ∙ (bytes_eq-Decides c.as_str.result.now (c.args.word.now)).0 (not_false (bytes_eq c.as_str.result.now (c.args.word.now)) (sym c.ne.ensures ∙ c.if-ne.false)) in
    rw (two_items c.args.words.now c.command-item.result c.name-item.result c.in-len2.len_at_least c.in-len2.len_below c.command-item.is c.name-item.is)
    (ap (λ (w : List ℕ). w ∷ string_bytes c.name-item.result ∷ []) word ∙ ap (λ (n : List ℕ). c.args.word.now ∷ n ∷ []) (sym c.as_str-2.ensures.value))

pub returns-then-ne-clause-none : goal.returns-then-ne-clause-none
returns-then-ne-clause-none c name means =
    let two = two_items c.args.words.now c.command-item.result c.name-item.result c.in-len2.len_at_least c.in-len2.len_below c.command-item.is c.name-item.is in
    let first : string_bytes c.command-item.result ≡ c.args.word.now = (let h = ap (map string_bytes) (sym two) ∙ means in cc) in
    let same = (bytes_eq-Decides c.as_str.result.now c.args.word.now).1 (c.as_str.ensures.value ∙ first) in
    let h : true ≡ false = c.if-ne.ensures ∙ ap not same in cc
