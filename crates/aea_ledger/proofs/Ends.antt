-- A ledger's records end, by its gates and the lengths after these alone, where it ends.
use Rattle.std.proofs.Common.{◌≡◌, ◌<◌, ◌≤◌, ◌+◌, ◌*◌, ◌^◌, ℕ, suc, List, [], ◌∷◌, ◌++◌, length, take, get_or, All, refl, sym, ◌∙◌, ap, subst, arith, append_assoc, length-append}
use Rattle.std.specs.List.{flat_map}
use Rattle.std.specs.Int.{w32, to_be_bytes, from_be_bytes}
use Rattle.std.proofs.Math.Seq.{drop-append-add}
use Rattle.std.proofs.lemmas.Nat.{from_be_bytes-to_be_bytes_4}
use Rattle.std.proofs.lemmas.List.{get_or-append-add, take-append-le}
use Rattle.std.proofs.lemmas.List.Elements.{All-head, All-tail}
use Rattle.aea_lattice.specs.declared.shape.Shape.{Shape}
use Rattle.aea_disk.specs.Ends.{Reaches, behind, number_at}
use Rattle.aea_records.specs.Format.{Record, kind_of, rest_of, header, entry}
use Rattle.aea_records.specs.Grammar.{IsLedger}
use Rattle.aea_records.proofs.Shortness.{records_are_short}
use Rattle.aea_ledger.specs.Taking.{LedgerEnds}

-- a byte past the front, by its place
behind_front : (front more : List ℕ) (at j : ℕ) → at ≡ length front + j → get_or (front ++ more) at 0 ≡ get_or more j 0
behind_front front more at j is = ap (λ (i : ℕ). get_or (front ++ more) i 0) is ∙ get_or-append-add front more j 0

number_here : (front more : List ℕ) (k n : ℕ) → n < 2 ^ 32 → number_at (front ++ (1 ∷ k ∷ to_be_bytes w32 n ++ more)) (length front + 2) ≡ n
number_here front more k n small =
    ap (λ (l : List ℕ). from_be_bytes w32 (take 4 l)) (drop-append-add front (1 ∷ k ∷ to_be_bytes w32 n ++ more) 2)
    ∙ ap (from_be_bytes w32) (take-append-le 4 (to_be_bytes w32 n) more (omega arith))
    ∙ from_be_bytes-to_be_bytes_4 n small

-- and entries are short
entries_small : (records : List Record) → All (λ r. length (rest_of r) < 2 ^ 28) records → length (flat_map entry records) ≤ (2 ^ 28 + 6) * length records
entries_small [] short = omega arith
entries_small (r ∷ rs) short =
    let one : length (rest_of r) < 2 ^ 28 = All-head (λ (q : Record). length (rest_of q) < 2 ^ 28) r rs short in
    omega (arith, one, length-append (entry r) (flat_map entry rs), length-append (to_be_bytes w32 (length (rest_of r))) (rest_of r), entries_small rs (All-tail (λ (q : Record). length (rest_of q) < 2 ^ 28) r rs short))

-- from a gate after the front on, by each record's entry, to the gate after all
entries_reach : (records : List Record) → All (λ r. length (rest_of r) < 2 ^ 28) records → (before : ℕ) (front after : List ℕ) (gate : ℕ)
    → before + length records ≤ 2 ^ 17 → length front + length (flat_map entry records) ≤ 2 ^ 45
    → Reaches (front ++ (flat_map entry records ++ gate ∷ after)) before (length records) (length front) (length front + length (flat_map entry records))
entries_reach [] short before front after gate few small = omega arith
entries_reach (r ∷ rs) short before front after gate few small =
    let E = entry r in
    let F = flat_map entry rs in
    let G : List ℕ = gate ∷ after in
    let n = length (rest_of r) in
    let one : length (rest_of r) < 2 ^ 28 = All-head (λ (q : Record). length (rest_of q) < 2 ^ 28) r rs short in
    let V = front ++ (E ++ (F ++ G)) in
    let W = front ++ ((E ++ F) ++ G) in
    let same : V ≡ W = sym (ap (λ (l : List ℕ). front ++ l) (append_assoc E F G)) in
    let size : length E ≡ 6 + n = omega (arith, length-append (to_be_bytes w32 n) (rest_of r)) in
    let number : number_at V (length front + 2) ≡ n = number_here front (rest_of r ++ (F ++ G)) (kind_of r) n (omega (arith, one)) in
    let there : behind V (length front) ≡ length (front ++ E) = omega (arith, number, length-append front E, size) in
    let long : length V ≡ length front + (length E + (length F + length G)) = omega (arith, length-append front (E ++ (F ++ G)), length-append E (F ++ G), length-append F G) in
    let some : length G ≡ 1 + length after = omega arith in
    let rest = entries_reach rs (All-tail (λ (q : Record). length (rest_of q) < 2 ^ 28) r rs short) (suc before) (front ++ E) after gate (omega (arith, few)) (omega (arith, small, length-append front E, length-append E F)) in
    let rest_here = subst (λ (l : List ℕ). Reaches l (suc before) (length rs) (length (front ++ E)) (length (front ++ E) + length F)) (append_assoc front E (F ++ G)) rest in
    let end : length (front ++ E) + length F ≡ length front + length (E ++ F) = omega (arith, length-append front E, length-append E F) in
    let all : Reaches V before (suc (length rs)) (length front) (length front + length (E ++ F)) = (
      record {
        opened = behind_front front (E ++ (F ++ G)) (length front) 0 (omega arith);
        short = omega (arith, number, one);
        followed = omega (arith, there, long, some, length-append front E);
        near = omega (arith, there, few, small, length-append front E, length-append E F);
      },
      subst (λ (g : ℕ). Reaches V (suc before) (length rs) g (length front + length (E ++ F))) (sym there) (subst (Reaches V (suc before) (length rs) (length (front ++ E))) end rest_here),
    ) in
    subst (λ (l : List ℕ). Reaches l before (suc (length rs)) (length front) (length front + length (E ++ F))) same all

-- A ledger's records end where it ends, and are counted: so a disk with a rule takes what is written past them, and a copy
-- gets what is kept of them.
pub ledger_ends : (bytes : List ℕ) (shape : Shape) (records : List Record) (end : ℕ) → IsLedger bytes shape records end → LedgerEnds bytes records end
ledger_ends bytes shape records end ledger =
    let H = header shape in
    let F = flat_map entry records in
    let G : List ℕ = ledger.gate ∷ ledger.after in
    let short = records_are_short shape records ledger.valid in
    let long : length (H ++ F) ≡ 17 + length F = omega (arith, length-append H F) in
    let spelt : bytes ≡ H ++ (F ++ G) = ledger.spelling ∙ append_assoc H F G in
    let last : end ≡ 17 + length F = ledger.place ∙ long in
    let reaches : Reaches (H ++ (F ++ G)) 0 (length records) 17 (17 + length F) = entries_reach records short.each 0 H ledger.after ledger.gate (omega (arith, short.few)) (omega (arith, long, entries_small records short.each, short.few)) in
    let whole : length bytes ≡ 17 + length F + 1 + length ledger.after = omega (arith, ap length spelt, length-append H (F ++ G), length-append F G) in
    let shut : get_or bytes end 0 ≡ ledger.gate =
    ap (λ (l : List ℕ). get_or l end 0) ledger.spelling ∙ behind_front (H ++ F) G end 0 (omega (arith, ledger.place)) in
    record {
      ends = record {
        header = ap (λ (l : List ℕ). get_or l 0 0) ledger.spelling;
        records = length records;
        reaches = subst (λ (e : ℕ). Reaches bytes 0 (length records) 17 e) (sym last) (subst (λ (l : List ℕ). Reaches l 0 (length records) 17 (17 + length F)) (sym spelt) reaches);
        there = omega (arith, whole, last);
        shut = λ opened. ledger.closed (sym shut ∙ opened);
      };
      count = refl;
    }
