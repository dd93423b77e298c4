-- That the archive is repaired whose first site is lost, and that the report of this is accepted of the whole archive.
use Rattle.std.proofs.Common.{◌≡◌, ◌≢◌, ℕ, suc, ◌+◌, ◌<◌, ◌≤◌, Bool, true, false, List, [], ◌∷◌, ◌++◌, length, filter, map, Some, refl, sym, ◌∙◌, ap, subst, arith, length-append}
use Rattle.std.specs.Prelude.{◌-◌, IsTrue, not, vec_len, codes, decimal}
use Rattle.std.proofs.lemmas.List.Elements.{All-head}
use Rattle.hex.specs.Hex.{lower_digits}
use Rattle.hex.proofs.HexLemmas.{length-encode_with}
use Rattle.sha2.specs.Sha256.{sha256}
use Rattle.sha2.proofs.Facts256.{length-sha256}
use Rattle.aea_lattice.specs.declared.blocks.Class.{Class}
use Rattle.aea_lattice.specs.declared.blocks.Class.TheVariants.{Datum, Horiz, Right, Left}
use Rattle.aea_lattice.specs.declared.blocks.BlockId.{BlockId}
use Rattle.aea_lattice.specs.declared.grid.Lattice.{Lattice}
use Rattle.aea_lattice.specs.declared.shape.Shape.{Shape}
use Rattle.aea_lattice.specs.Blocks.{block_of, blocks_of}
use Rattle.aea_lattice.specs.Data.{Determines}
use Rattle.aea_lattice.proofs.Sums.{value-begin}
use Rattle.aea_disk.specs.Files.{Files}
use Rattle.aea_disk.specs.Spaces.{Memory}
use Rattle.aea_io.specs.declared.sure.SureSink.{SureSink}
use Rattle.aea_shelf.specs.Places.{site_bytes}
use Rattle.aea_records.specs.Format.{Record, nodes_of, fences_of, digests_of, spelled}
use Rattle.aea_records.specs.Laws.{HasOneReading, LedgersAreArchives, LedgersAreNotBad}
use Rattle.aea_ledger.specs.Stops.{HasLedger}
use Rattle.aea_archive.specs.Blocks.{IsIntactBy, RevealsSurvivors}
use Rattle.aea_report.specs.declared.head.Head.{Head}
use Rattle.aea_report.specs.declared.line.Line.{Line}
use Rattle.aea_report.specs.declared.line.Line.TheVariants.{Peeled, Solved, Lost}
use Rattle.aea_report.specs.Format.{joined, numbers_text, seal_text, line_text, report_bytes, block_in}
use Rattle.aea_report.specs.Printed.{IsLineOf, IsPrinted}
use Rattle.aea_command.specs.Honest.{HasHonestSurvivors}
use Rattle.aea_command.specs.declared.refusal.Refusal.{Refusal}
use Rattle.aea_command.specs.declared.refusal.Refusal.TheVariants.{NoArchive, LedgerBad}
use Rattle.aea_command.specs.Openings.{OpeningCauses}
use Rattle.aea_command_loss.specs.Repair.{HasNodeCount, IsRepairText}
use Rattle.aea_dispatch.specs.declared.command.Command.TheVariants.{Repair}
use Rattle.aea_run_laws.specs.Meeting.{HasLeft, IsMet}
use Rattle.aea_run_laws.proofs.OneBlock.{shape, one, none_before}
use Rattle.aea_run_laws.proofs.Over.{IsGround, seen_then, spacious, meets}
use Rattle.aea_run_laws.proofs.Readings.{same_shape, same_records, same_lattice, same_survivors, not_true, of_one}
use Rattle.aea_run_laws.proofs.Texts.{digit_long, block_long}

-- ---- how long the report is

joined_long : (text : List ℕ) (texts : List (List ℕ)) → length (joined (text ∷ texts)) ≡ length text + 1 + length (joined texts)
joined_long text texts =
    let all = length-append (text ++ 10 ∷ []) (joined texts) in
    let line = length-append text (10 ∷ []) in
    omega (arith, all, line)

-- four numbers of one digit
numbers_long : (a b c d : ℕ) → a < 10 → b < 10 → c < 10 → d < 10 → length (numbers_text (a ∷ b ∷ c ∷ d ∷ [])) ≡ 8
numbers_long a b c d few_a few_b few_c few_d =
    let one_a = digit_long a few_a in
    let one_b = digit_long b few_b in
    let one_c = digit_long c few_c in
    let one_d = digit_long d few_d in
    let third = length-append (decimal c) (codes " " ++ (decimal d ++ [])) in
    let second = length-append (decimal b) (codes " " ++ (decimal c ++ (codes " " ++ (decimal d ++ [])))) in
    let first = length-append (decimal a) (codes " " ++ (decimal b ++ (codes " " ++ (decimal c ++ (codes " " ++ (decimal d ++ [])))))) in
    let last = length-append (decimal d) [] in
    omega (arith, one_a, one_b, one_c, one_d, first, second, third, last)

seal_long : (text : List ℕ) → length (seal_text (Some (sha256 text))) ≡ 64
seal_long text = let both = length-encode_with lower_digits (sha256 text) in let long = length-sha256 text in omega (arith, both, long)

-- a report of one line of nine bytes
report_long : (h : Head) (line : Line) (seal : List ℕ) → h.alpha ≡ 3 → h.s ≡ 2 → h.p ≡ 5 → h.n ≡ 1 → h.seal ≡ Some (sha256 seal)
    → h.damaged < 10 → h.peeled < 10 → h.solved < 10 → h.lost < 10 → length (line_text line) ≡ 9 → length (report_bytes h (line ∷ [])) ≡ 126
report_long h line seal alpha s p n seal_is damaged peeled solved lost long =
    let t1 : List ℕ = codes "aea-report 1" in
    let t2 = codes "lattice" ++ numbers_text (h.alpha ∷ h.s ∷ h.p ∷ h.n ∷ []) in
    let t3 = codes "ledger " ++ seal_text h.seal in
    let t4 = codes "counts" ++ numbers_text (h.damaged ∷ h.peeled ∷ h.solved ∷ h.lost ∷ []) in
    let one_t = joined_long t1 (t2 ∷ t3 ∷ t4 ∷ line_text line ∷ []) in
    let two_t = joined_long t2 (t3 ∷ t4 ∷ line_text line ∷ []) in
    let three_t = joined_long t3 (t4 ∷ line_text line ∷ []) in
    let four_t = joined_long t4 (line_text line ∷ []) in
    let five_t = joined_long (line_text line) [] in
    let lattice = numbers_long h.alpha h.s h.p h.n (omega (arith, alpha)) (omega (arith, s)) (omega (arith, p)) (omega (arith, n)) in
    let counts = numbers_long h.damaged h.peeled h.solved h.lost damaged peeled solved lost in
    let seal_there : length (seal_text h.seal) ≡ 64 = ap (λ o. length (seal_text o)) seal_is ∙ seal_long seal in
    let first : length t1 ≡ 12 = refl in
    let second : length t2 ≡ 7 + length (numbers_text (h.alpha ∷ h.s ∷ h.p ∷ h.n ∷ [])) = length-append (codes "lattice") (numbers_text (h.alpha ∷ h.s ∷ h.p ∷ h.n ∷ [])) in
    let third : length t3 ≡ 7 + length (seal_text h.seal) = length-append (codes "ledger ") (seal_text h.seal) in
    let fourth : length t4 ≡ 6 + length (numbers_text (h.damaged ∷ h.peeled ∷ h.solved ∷ h.lost ∷ [])) = length-append (codes "counts") (numbers_text (h.damaged ∷ h.peeled ∷ h.solved ∷ h.lost ∷ [])) in
    let whole : length (report_bytes h (line ∷ [])) ≡ length (joined (t1 ∷ t2 ∷ t3 ∷ t4 ∷ line_text line ∷ [])) = refl in
    omega (arith, whole, one_t, two_t, three_t, four_t, five_t, lattice, counts, seal_there, first, second, third, fourth, long)

-- ---- which blocks have lines

abbrev by_class : (p q s t : Bool) → Class → Bool
by_class p q s t Datum = p
by_class p q s t Horiz = q
by_class p q s t Right = s
by_class p q s t Left = t

-- those that are not known, by which of the four are
abbrev left_by : (p q s t : Bool) → List BlockId
left_by p q s t = filter (λ b. not (by_class p q s t b.class)) (blocks_of one)

datum_alone : (known : BlockId → Bool) → known (block_of 1 Datum) ≡ false → known (block_of 1 Horiz) ≡ true → known (block_of 1 Right) ≡ true → known (block_of 1 Left) ≡ true
    → filter (λ b. not (known b)) (blocks_of one) ≡ block_of 1 Datum ∷ []
datum_alone known gone h r l =
    (let same : filter (λ b. not (known b)) (blocks_of one) ≡ left_by (known (block_of 1 Datum)) (known (block_of 1 Horiz)) (known (block_of 1 Right)) (known (block_of 1 Left)) = refl in same)
    ∙ ap (λ (b : Bool). left_by b (known (block_of 1 Horiz)) (known (block_of 1 Right)) (known (block_of 1 Left))) gone
    ∙ ap (λ (b : Bool). left_by false b (known (block_of 1 Right)) (known (block_of 1 Left))) h
    ∙ ap (λ (b : Bool). left_by false true b (known (block_of 1 Left))) r ∙ ap (λ (b : Bool). left_by false true true b) l

-- the report of one damaged block that is determined
line_long : (known : BlockId → Bool) (h : Head) (line : Line) (seal : List ℕ) → Determines one known (block_of 1 Datum) → IsPrinted one known (Some (sha256 seal)) h (line ∷ [])
    → block_in line ≡ block_of 1 Datum → length (report_bytes h (line ∷ [])) ≡ 126
line_long known h (Peeled b) seal given is block =
    let long = block_long b (ap (λ (c : BlockId). c.node) block) in
    let counted = is.counted in
    let peeled = counted.peeled in let solved = counted.solved in let lost = counted.lost in let damaged = counted.damaged in
    report_long h (Peeled b) seal is.alpha is.s is.p is.n is.seal_is (omega (arith, damaged, peeled, solved, lost)) (omega (arith, peeled)) (omega (arith, solved)) (omega (arith, lost)) (omega (arith, long))
line_long known h (Solved b) seal given is block =
    let long = block_long b (ap (λ (c : BlockId). c.node) block) in
    let counted = is.counted in
    let peeled = counted.peeled in let solved = counted.solved in let lost = counted.lost in let damaged = counted.damaged in
    report_long h (Solved b) seal is.alpha is.s is.p is.n is.seal_is (omega (arith, damaged, peeled, solved, lost)) (omega (arith, peeled)) (omega (arith, solved)) (omega (arith, lost)) (omega (arith, long))
line_long known h (Lost b nodes) seal given is block =
    let line : IsLineOf one known (Lost b nodes) = All-head (IsLineOf one known) (Lost b nodes) [] is.each in
    absurd (line.0 (subst (Determines one known) (sym block) given))

pub printed_long : (known : BlockId → Bool) (h : Head) (lines : List Line) (seal : List ℕ) → Determines one known (block_of 1 Datum) → IsPrinted one known (Some (sha256 seal)) h lines
    → map block_in lines ≡ block_of 1 Datum ∷ [] → length (report_bytes h lines) ≡ 126
printed_long known h [] seal given is blocks = let long : 0 ≡ 1 = ap length blocks in absurd (omega (arith, long))
printed_long known h (line ∷ []) seal given is blocks = line_long known h line seal given is (cc)
printed_long known h (line ∷ next ∷ lines) seal given is blocks = let none : map block_in (next ∷ lines) ≡ [] = cc in let long : suc (length (map block_in lines)) ≡ 0 = ap length none in absurd (omega (arith, long))

-- ---- the repair

-- a parity gives the datum
pub given : (known : BlockId → Bool) → IsTrue (known (block_of 1 Horiz)) → Determines one known (block_of 1 Datum)
given known there = λ w xs ys left right agree.
    sym (value-begin one w xs 1 Horiz (omega arith) left (omega arith) (none_before Horiz))
    ∙ agree (block_of 1 Horiz) (record { first = omega arith; last = omega arith; used = omega arith }) there
    ∙ value-begin one w ys 1 Horiz (omega arith) right (omega arith) (none_before Horiz)

module _ (reading : HasOneReading) (archives : LedgersAreArchives) (bad : LedgersAreNotBad) (x : Files) (all : List Record) (ledger : HasLedger shape all (x 0)) (nodes : nodes_of all ≡ 1) (unfenced : fences_of all ≡ [])
    (digests : List (List ℕ)) (recorded : digests_of all ≡ digests) (gone : IsIntactBy shape digests x (block_of 1 Datum) → ⊥)
    (still : (k : Class) → k ≢ Datum → IsIntactBy shape digests x (block_of 1 k)) where
  repair_long : (text : List ℕ) → IsRepairText x text → length text ≡ 126
  repair_long text h =
      let lattice_is : h.lattice ≡ one = same_lattice reading (x 0) all ledger nodes unfenced h.shape h.records h.lattice h.ledger h.is_lattice in
      let survivors : RevealsSurvivors shape 1 digests x h.known = same_survivors reading (x 0) all ledger nodes unfenced digests recorded h.shape h.records x h.known h.ledger h.survivors in
      let there : (k : Class) → k ≢ Datum → h.known (block_of 1 k) ≡ true = λ k other. (survivors (block_of 1 k) (of_one k)).1 (still k other) in
      let lost : h.known (block_of 1 Datum) ≡ false = not_true (h.known (block_of 1 Datum)) (λ yes. gone ((survivors (block_of 1 Datum) (of_one Datum)).0 yes)) in
      let printed : IsPrinted one h.known (Some (sha256 (spelled h.shape h.records))) h.head h.lines = subst (λ (a : Lattice). IsPrinted a h.known (Some (sha256 (spelled h.shape h.records))) h.head h.lines) lattice_is h.printed in
      ap length h.is
      ∙ printed_long h.known h.head h.lines (spelled h.shape h.records) (given h.known (there Horiz (λ e. cc))) printed
      (printed.blocks ∙ datum_alone h.known lost (there Horiz (λ e. cc)) (there Right (λ e. cc)) (there Left (λ e. cc)))

  -- the rows of the one node
  rows_are : (s : Shape) (n : ℕ) → HasNodeCount s n (x 0) → (site_bytes s n ≡ 560) × (s.sites ≡ 10)
  rows_are s n h =
      let shape_is : s ≡ shape = same_shape reading (x 0) all ledger s h.records h.ledger in
      let count : n ≡ 1 = h.is ∙ ap nodes_of (same_records reading (x 0) all ledger s h.records h.ledger) ∙ nodes in
      (ap (λ (q : Shape). site_bytes q n) shape_is ∙ ap (site_bytes shape) count, ap (λ (q : Shape). q.sites) shape_is)

  repair_unrefused : (why : Refusal) → OpeningCauses (x 0) why → ⊥
  repair_unrefused NoArchive cause = (archives (x 0) cause).0 shape all _ ledger
  repair_unrefused (LedgerBad at) cause = bad (x 0) shape all _ at ledger cause
  repair_unrefused why cause = cause

  pub repair_met : HasHonestSurvivors x → (room spare : ℕ) → 560 ≤ room → (m : Memory) → IsGround x room spare m
      → (input : List ℕ) (out : SureSink) → HasLeft 126 out → IsMet Repair m input out
  repair_met honest room spare large m ground input out left =
      meets x room spare m ground Repair input out tt
      (λ mid a name adopts. record {
        some = ground.roomy mid a name adopts;
        sites = λ s n there f from to.
            let rows = rows_are s n (subst (λ (y : Files). HasNodeCount s n (y 0)) (seen_then x room spare m ground mid a adopts) (there tt)) in
            let long = rows.0 in
            let sites = rows.1 in
            spacious x room spare m ground mid a name adopts f (site_bytes s n) (omega (arith, to, sites)) (omega (arith, long, large));
      })
      (λ files on same text is. let long = repair_long text (subst (λ (y : Files). IsRepairText y text) same is) in record { room = out.room - vec_len out.bytes; revealed = refl; enough = omega (arith, long, left) })
      (λ files on same. subst HasHonestSurvivors (sym same) honest)
      (λ files on why same cause. repair_unrefused why (subst (λ (y : Files). OpeningCauses (y 0) why) same cause))
