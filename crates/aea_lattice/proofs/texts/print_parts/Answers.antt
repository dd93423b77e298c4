use Rattle.std.proofs.Common.{◌≡◌, ℕ, ◌+◌, ◌-◌, ◌<◌, ◌≤◌, ◌^◌, List, [], ◌∷◌, ◌++◌, length, drop, set, replicate, decimal, refl, sym, ◌∙◌, ap, arith, lit<}
use Rattle.std.proofs.lemmas.Fmt.{length-decimal-le}
use Rattle.std.proofs.lemmas.List.{drop-set, append-nil}
use Rattle.std.proofs.Math.ListN.{drop_of_length-le}
use Rattle.aea_lattice.proofs.texts.print_parts.Goals as goal

-- ten digits at most
short : (n : ℕ) → n < 2 ^ 32 → length (decimal n) ≤ 10
short n h = length-decimal-le 10 n (lit< tt) (omega arith) (omega arith)

pub write_digits-start-requires : goal.write_digits-start-requires
write_digits-start-requires c =
    let ten : length (decimal c.from.result) ≤ 10 = short c.from.result (omega arith) in (omega arith, omega arith)

pub overflow_sub-start : goal.overflow_sub-start
overflow_sub-start c =
    let ten : length (decimal c.from.result) ≤ 10 = short c.from.result (omega arith) in omega arith

-- the byte before the digits, where the digits end with the list
with_first : (digits text old buf : List ℕ) (start letter : ℕ) → 1 ≤ start → start ≤ 11 → length old ≡ 11 → length buf ≡ 11
    → drop start buf ≡ digits ++ drop 11 old → text ≡ digits
    → drop (start - 1) (set buf (start - 1) letter) ≡ letter ∷ text
with_first digits text old buf start letter some most long wide written same =
    let inside : start - 1 < length buf = omega arith in
    let next : start - 1 + 1 ≡ start = omega arith in
    let none : drop 11 old ≡ [] = (let all : length old ≤ 11 = omega arith in drop_of_length-le old all) in
    drop-set buf (start - 1) letter inside
    ∙ ap (λ k. letter ∷ drop k buf) next
    ∙ ap (λ xs. letter ∷ xs) (written ∙ ap (λ xs. digits ++ xs) none ∙ append-nil digits ∙ sym same)

pub returns : goal.returns
returns c =
    let ten : length (decimal c.from.result) ≤ 10 = short c.from.result (omega arith) in
    with_first (decimal c.from.result) (decimal c.args.node) (replicate 11 0) c.write_digits-start.new.buf c.write_digits-start.result c.args.letter
    (omega arith) (omega arith) refl c.write_digits-start.auto.buf c.write_digits-start.ensures.written (ap decimal (sym c.from.ensures))
