-- A head in a window, and the fields after it in the bytes.
use Rattle.std.proofs.Common.{◌≡◌, ℕ, ◌^◌, ◌<◌, ◌≤◌, Bool, true, false, ◌&&◌, ◌||◌, ◌==◌, List, [], ◌∷◌, ◌++◌, length, take, drop, Result, Err, Some, refl, sym, ap, ◌∙◌, arith}
use Rattle.std.specs.Prelude.{slice_index, if◌then◌else◌}
use Rattle.std.proofs.lemmas.List.{get_or-take, length-take, length-append, drop_more, take_at}
use Rattle.std.proofs.lemmas.List.Elements.{All-append}
use Rattle.aea_lattice.specs.declared.shape.Shape.{Shape}
use Rattle.aea_records.specs.Tables.{judge, judge_then}
use Rattle.aea_records.specs.Format.{Record, open_gate, greatest_objects}
use Rattle.aea_records.specs.Known.{Known, known_of}
use Rattle.aea_records.specs.Fields.{Head, head_fields, tail_fields, record_fields}
use Rattle.aea_records.specs.Faults.{bad_of, is_full, gate_fault}
use Rattle.aea_records.specs.Laws.{TailsAreJudged, TailsAreSpelled}
use Rattle.aea_records.proofs.Judging.{judged_is_spelled}
use Rattle.aea_records.proofs.Turns.{judged_in_turn}
use Rattle.aea_records.proofs.Spelling.{spell_then}
use Rattle.aea_records.proofs.Windows.{heads_are_short}
use Rattle.aea_records.proofs.Gates.{opened_gate}
use Rattle.aea_records.proofs.Read.{spelled_is_next}
use Rattle.aea_records.proofs.Behind.{first_kept}
use Rattle.aea_records.proofs.Counts.{records_are_few}

-- the byte at a place is that of a front that has it
pub front_byte : (window rest : List ℕ) (at : ℕ) → at < 315 → window ≡ take 315 rest → slice_index window at ≡ slice_index rest at
front_byte window rest at near is = ap (λ (l : List ℕ). slice_index l at) is ∙ get_or-take 315 rest at 0 near

-- bytes from an open gate on
begins : (rest : List ℕ) → 1 ≤ length rest → slice_index rest 0 ≡ open_gate → rest ≡ open_gate ∷ drop 1 rest
begins rest some gate = drop_more rest 0 0 some ∙ ap (λ (b : ℕ). b ∷ drop 1 rest) gate

by_second : (known : Known) (xs ys : List ℕ) → slice_index xs 1 ≡ slice_index ys 1 → is_full known xs ≡ is_full known ys
by_second known xs ys same = λ i. known.objects == greatest_objects && (same i == 1 || (same i == 3 && known.raised))

-- what is bad from an open gate on where a window is judged
pub head_fault : (shape : Shape) (known : Known) (window rest : List ℕ) → 1 ≤ length window → slice_index window 0 ≡ open_gate → is_full known window ≡ false → window ≡ take 315 rest
    → gate_fault shape known rest ≡ bad_of (judge_then (judge (head_fields shape known) 1 window) (λ v end. judge (tail_fields shape known v) end rest))
head_fault shape known window rest some gate room is =
    let there : 1 ≤ length rest = omega (arith, ap length is, length-take 315 rest, some) in
    let whole : rest ≡ open_gate ∷ drop 1 rest = begins rest there (sym (front_byte window rest 0 (omega arith) is) ∙ gate) in
    let free : is_full known (open_gate ∷ drop 1 rest) ≡ false =
    ap (is_full known) (sym whole) ∙ by_second known rest window (sym (front_byte window rest 1 (omega arith) is)) ∙ room in
    ap (gate_fault shape known) whole ∙ opened_gate shape known open_gate (drop 1 rest) refl
    ∙ ap (λ (b : Bool). if b then Some 0 else bad_of (judge (record_fields shape known) 1 (open_gate ∷ drop 1 rest))) free
    ∙ ap (λ (l : List ℕ). bad_of (judge (record_fields shape known) 1 l)) (sym whole)
    ∙ ap (λ (x : Result (Record × ℕ) ℕ). bad_of x) (judged_in_turn (ℕ × Head) Record (head_fields shape known) (tail_fields shape known) rest 1)
    ∙ ap (λ (x : Result ((ℕ × Head) × ℕ) ℕ). bad_of (judge_then x (λ v end. judge (tail_fields shape known v) end rest)))
    (sym (heads_are_short shape known rest 315 (omega arith)) ∙ ap (judge (head_fields shape known) 1) (sym is))

-- where a gate is open, before no object past the most, and the fields after it up to the first that may be long
-- are valid in the first 315 bytes, what is bad from the gate on is what is bad of the others
pub tails_are_judged : TailsAreJudged
tails_are_judged shape known window rest v end head is =
    head_fault shape known window rest head.there head.gate head.room is
    ∙ ap (λ (x : Result ((ℕ × Head) × ℕ) ℕ). bad_of (judge_then x (λ v end. judge (tail_fields shape known v) end rest))) head.judged

-- a head that is bad
pub bad_head : (shape : Shape) (known : Known) (window rest : List ℕ) (at : ℕ) → 1 ≤ length window → slice_index window 0 ≡ open_gate → is_full known window ≡ false → window ≡ take 315 rest
    → judge (head_fields shape known) 1 window ≡ Err at → gate_fault shape known rest ≡ Some at
bad_head shape known window rest at some gate room is bad =
    head_fault shape known window rest some gate room is
    ∙ ap (λ (x : Result ((ℕ × Head) × ℕ) ℕ). bad_of (judge_then x (λ v end. judge (tail_fields shape known v) end rest))) bad

-- an open gate before an object past the most
pub full_gate : (shape : Shape) (known : Known) (window rest : List ℕ) → 1 ≤ length window → slice_index window 0 ≡ open_gate → is_full known window ≡ true → window ≡ take 315 rest
    → gate_fault shape known rest ≡ Some 0
full_gate shape known window rest some gate full is =
    let there : 1 ≤ length rest = omega (arith, ap length is, length-take 315 rest, some) in
    let whole : rest ≡ open_gate ∷ drop 1 rest = begins rest there (sym (front_byte window rest 0 (omega arith) is) ∙ gate) in
    let no_room : is_full known (open_gate ∷ drop 1 rest) ≡ true =
    ap (is_full known) (sym whole) ∙ by_second known rest window (sym (front_byte window rest 1 (omega arith) is)) ∙ full in
    ap (gate_fault shape known) whole ∙ opened_gate shape known open_gate (drop 1 rest) refl
    ∙ ap (λ (b : Bool). if b then Some 0 else bad_of (judge (record_fields shape known) 1 (open_gate ∷ drop 1 rest))) no_room

-- nothing at all
pub no_gate : (shape : Shape) (known : Known) (window rest : List ℕ) → length window ≡ 0 → window ≡ take 315 rest → gate_fault shape known rest ≡ Some 0
no_gate shape known window [] none is = refl
no_gate shape known window (x ∷ rest) none is = absurd (omega (arith, none, ap length is, length-take 315 (x ∷ rest)))

-- an open gate, before no object past the most, valid fields up to the first that may be long, and a text of the
-- others after them are the entry of a record that may follow those of a ledger
pub tails_are_spelled : TailsAreSpelled
tails_are_spelled shape earlier window back v end r valid head are spells =
    let known : Known = known_of earlier in
    let text = judged_is_spelled (ℕ × Head) (head_fields shape known) window 1 end v head.bytes head.there head.judged in
    let wide : length text.spells.0 ≡ 1 = text.spells.3 in
    let some : 1 ≤ length text.text = omega (arith, ap length text.spells.2, length-append text.spells.0 text.spells.1, wide) in
    let whole : window ≡ open_gate ∷ (text.text ++ drop end window) = begins window head.there head.gate ∙ ap (λ (l : List ℕ). open_gate ∷ l) text.spelling in
    let front : take end window ≡ open_gate ∷ text.text =
    ap (take end) whole ∙ take_at (open_gate ∷ text.text) (drop end window) end (omega (arith, text.place)) in
    let kind : slice_index (open_gate ∷ (text.text ++ back)) 1 ≡ slice_index window 1 =
    sym (first_kept text.text back some) ∙ first_kept text.text (drop end window) some ∙ ap (λ (l : List ℕ). slice_index l 1) (sym whole) in
    let room : is_full known (open_gate ∷ (text.text ++ back)) ≡ false = by_second known (open_gate ∷ (text.text ++ back)) window kind ∙ head.room in
    let read = spelled_is_next shape earlier (text.text ++ back) r (records_are_few shape earlier valid).objects room
    (All-append (λ b. b < 2 ^ 8) text.text back text.are are) (spell_then (head_fields shape known) (tail_fields shape known) text.text back v r text.spells spells) in
    (read.0, ap (λ (l : List ℕ). l ++ back) front ∙ ap (λ (l : List ℕ). open_gate ∷ l) read.1)
