-- What was read of a file, and what follows of it for ranges of the file.
use Rattle.std.proofs.Common.{◌≡◌, ◌↔◌, ⊎_elim, ℕ, get_or, ◌+◌, ◌-◌, ◌<◌, ◌≤◌, min, Bool, true, false, List, ◌++◌, length, take, drop, refl, sym, ap, ◌∙◌, subst, arith}
use Rattle.std.proofs.lemmas.Bool.{cases_lt}
use Rattle.std.proofs.lemmas.List.{length-take, length-drop, length-append, take_all, take-take, drop-take, drop-drop, take_min, ext_get_or, get_or-take, get_or-drop}
use Rattle.std.specs.List.{CopiedTo}
use Rattle.sha2.specs.declared.Sha256.{Sha256}
use Rattle.sha2.specs.Hashers.{Holds256}
use Rattle.aea_disk.specs.Files.{Files}
use Rattle.aea_records.specs.TableLaws.{AreBytes}
use Rattle.aea_copies.proofs.Ranges.{range_both}
use Rattle.aea_copy_reader.specs.Seen.{Seen, IsSeen, Covers, AreSeen, GoAlong}
use Rattle.aea_copy_reader.specs.Taking.{HasTaken}
use Rattle.aea_copy_reader.specs.declared.range.Along.{Along}
use Rattle.aea_copy_reader.proofs.Parting.{front_part, same_range}

pub differ : true ≡ false → ⊥
differ e = cc

-- a part of what was read is a part of the file
pub seen_part : (file : List ℕ) (w : Seen) (s m at : ℕ) → IsSeen file w → w.place + s ≡ at → s + m ≤ length w.bytes → take m (drop s w.bytes) ≡ take m (drop at file)
seen_part file w s m at seen sum within =
    ap (λ (l : List ℕ). take m (drop s l)) seen.same ∙ front_part (drop w.place file) (length w.bytes) s m within
    ∙ ap (take m) (drop-drop s w.place file ∙ ap (λ (k : ℕ). drop k file) sum)

-- what is seen at a place, as much as was read at once
pub seen_there : (file there : List ℕ) (w : Seen) (at n : ℕ) → IsSeen file w → w.place ≤ at → at ≤ w.place + length w.bytes → length there ≡ min n (w.place + length w.bytes - at) → there ≡ take (length there) (drop (at - w.place) w.bytes)
    → there ≡ take (length there) (drop at file)
seen_there file there w at n seen from within size part = part ∙ seen_part file w (at - w.place) (length there) at seen (omega (arith, from)) (omega (arith, from, within, size))

-- as many bytes as were asked for, where they were read as far as the file has them
pub seen_whole : (file there : List ℕ) (w : Seen) (at n : ℕ) → IsSeen file w → Covers w at n → length there ≡ min n (w.place + length w.bytes - at) → there ≡ take (length there) (drop (at - w.place) w.bytes) → there ≡ take n (drop at file)
seen_whole file there w at n seen covers size part =
    let same = seen_there file there w at n seen covers.from covers.within size part in
    ⊎_elim
    (λ (more : at + n ≤ w.place + length w.bytes). let m : length there ≡ n = omega (arith, size, more) in same ∙ ap (λ (k : ℕ). take k (drop at file)) m)
    (λ (ended : w.ended ≡ true).
    ⊎_elim
    (λ (less : length there < n).
    let rest : length (drop at file) ≤ length there = omega (arith, seen.last ended, size, less, covers.within, length-drop at file) in
    same ∙ take_all (length there) (drop at file) rest ∙ sym (take_all n (drop at file) (omega (arith, rest, less))))
    (λ (all : n ≤ length there). let m : length there ≡ n = omega (arith, size, all) in same ∙ ap (λ (k : ℕ). take k (drop at file)) m)
    (cases_lt (length there) n))
    covers.whole

-- where nothing is seen, the file has nothing there
pub seen_end : (file : List ℕ) (w : Seen) (at n k : ℕ) → IsSeen file w → Covers w at 1 → 1 ≤ n → k ≡ min n (w.place + length w.bytes - at) → k ≡ 0 → length file ≤ at
seen_end file w at n k seen covers some size none =
    ⊎_elim
    (λ (more : at + 1 ≤ w.place + length w.bytes). absurd (omega (arith, size, none, some, more)))
    (λ (ended : w.ended ≡ true). omega (arith, seen.last ended, size, none, some, covers.within))
    covers.whole

-- what was read first, and what was read after it
pub seen_more : (file old after new : List ℕ) (place kept count : ℕ) → length old ≡ kept → old ≡ take kept (drop place file) → after ≡ take count (drop (place + kept) file) → new ≡ old ++ after → new ≡ take (kept + count) (drop place file)
seen_more file old after new place kept count size front rest whole =
    whole ∙ ap (λ (l : List ℕ). l ++ after) front ∙ ap (λ (l : List ℕ). take kept (drop place file) ++ l) rest ∙ sym (range_both file place kept count)

-- two ranges are the same where both parts are
pub ranges_both : (x y : List ℕ) (p q n m : ℕ) → take (n + m) (drop p x) ≡ take (n + m) (drop q y) ↔ ((take n (drop p x) ≡ take n (drop q y)) × (take m (drop (p + n) x) ≡ take m (drop (q + n) y)))
ranges_both x y p q n m = (
  λ whole. (
    sym (take-take n (n + m) (drop p x) (omega arith)) ∙ ap (take n) whole ∙ take-take n (n + m) (drop q y) (omega arith),
    ap (take m) (sym (drop-drop n p x)) ∙ sym (drop-take n m (drop p x)) ∙ ap (drop n) whole ∙ drop-take n m (drop q y) ∙ ap (take m) (drop-drop n q y),
  ),
  λ both. range_both x p n m ∙ ap (λ (l : List ℕ). l ++ take m (drop (p + n) x)) both.0 ∙ ap (λ (l : List ℕ). take n (drop q y) ++ l) both.1 ∙ sym (range_both y q n m),
)

pub along_none : (bytes others ledger : List ℕ) (at from : ℕ) (a : Along) → GoAlong bytes others ledger at from 0 a a
along_none bytes others ledger at from a = record {
  same = (λ is. (is, refl), λ both. both.0);
  in_ledger = (λ is. (is, refl), λ both. both.0);
}

pub along_both : (bytes others ledger : List ℕ) (at from n m : ℕ) (a b c : Along) → GoAlong bytes others ledger at from n a b → GoAlong bytes others ledger (at + n) (from + n) m b c → GoAlong bytes others ledger at from (n + m) a c
along_both bytes others ledger at from n m a b c one two =
    let copies = ranges_both others bytes at at n m in
    let texts = ranges_both ledger bytes from at n m in
    record {
      same = (
        λ is. let late = two.same.0 is in let early = one.same.0 late.0 in (early.0, copies.1 (early.1, late.1)),
        λ both. let parts = copies.0 both.1 in two.same.1 (one.same.1 (both.0, parts.0), parts.1),
      );
      in_ledger = (
        λ is. let late = two.in_ledger.0 is in let early = one.in_ledger.0 late.0 in (early.0, texts.1 (early.1, late.1)),
        λ both. let parts = texts.0 both.1 in two.in_ledger.1 (one.in_ledger.1 (both.0, parts.0), parts.1),
      );
    }

-- one part of a range, as it was read
pub along_next : (bytes others ledger part : List ℕ) (at from : ℕ) (a b : Along) → part ≡ take (length part) (drop at bytes)
    → (b.same ≡ true ↔ ((a.same ≡ true) × (take (length part) (drop at others) ≡ part))) → (b.in_ledger ≡ true ↔ ((a.in_ledger ≡ true) × (take (length part) (drop from ledger) ≡ part)))
    → GoAlong bytes others ledger at from (length part) a b
along_next bytes others ledger part at from a b there same in_ledger = record {
  same = subst (λ (l : List ℕ). b.same ≡ true ↔ ((a.same ≡ true) × (take (length part) (drop at others) ≡ l))) there same;
  in_ledger = subst (λ (l : List ℕ). b.in_ledger ≡ true ↔ ((a.in_ledger ≡ true) × (take (length part) (drop from ledger) ≡ l))) there in_ledger;
}

pub taken_now : (bytes part : List ℕ) (at : ℕ) (old new : Sha256) → part ≡ take (length part) (drop at bytes) → AreBytes part → ((message : List ℕ) → Holds256 old message → Holds256 new (message ++ part)) → HasTaken bytes at (length part) old new
taken_now bytes part at old new there are holds = record {
  bytes = subst AreBytes there are;
  there = omega (arith, ap length there, length-take (length part) (drop at bytes), length-drop at bytes);
  holds = λ message held. subst (λ (l : List ℕ). Holds256 new (message ++ l)) there (holds message held);
}

-- so far the same, and then other bytes
pub other_later : (a b : List ℕ) (at done n : ℕ) → n ≡ length b → take done (drop at a) ≡ take done b → done ≤ n → (take (length (drop done b)) (drop (at + done) a) ≡ drop done b → ⊥) → take n (drop at a) ≡ b → ⊥
other_later a b at done n long same within other whole =
    let rest : length (drop done b) ≡ n - done = omega (arith, long, length-drop done b) in
    let sum : n ≡ done + (n - done) = omega (arith, within) in
    other (ap (λ (k : ℕ). take k (drop (at + done) a)) rest ∙ ap (take (n - done)) (sym (drop-drop done at a)) ∙ sym (drop-take done (n - done) (drop at a))
    ∙ ap (λ (k : ℕ). drop done (take k (drop at a))) (sym sum) ∙ ap (drop done) whole)

-- so far the same, and more of the same
pub same_later : (a b : List ℕ) (at done size : ℕ) → take done (drop at a) ≡ take done b → take size (drop (at + done) a) ≡ take size (drop done b) → take (done + size) (drop at a) ≡ take (done + size) b
same_later a b at done size same more = same_range (drop at a) b done size same (ap (take size) (drop-drop done at a) ∙ more)

-- what was copied to the front
copied_front : (old new : List ℕ) (from to : ℕ) → from ≤ to → to ≤ length old → length new ≡ length old → CopiedTo old new from 0 (to - from) → take (to - from) new ≡ take (to - from) (drop from old)
copied_front old new from to h within size copied =
    ext_get_or 0 _ _
    (omega (arith, length-take (to - from) new, length-take (to - from) (drop from old), length-drop from old))
    (λ k below.
    let near : k < to - from = omega (arith, length-take (to - from) new) in
    get_or-take (to - from) new k 0 near ∙ copied k 0 (omega arith) (omega arith) ∙ (let less : k - 0 ≡ k = omega arith in ap (λ (m : ℕ). get_or old (from + m) 0) less) ∙ sym (get_or-drop from old k 0) ∙ sym (get_or-take (to - from) (drop from old) k 0 near))

-- the front of a buffer after its first bytes were let go of
pub passed_front : (old new : List ℕ) (count size : ℕ) → count ≤ size → size ≤ length old → length new ≡ length old → CopiedTo old new count 0 (size - count) → take (size - count) new ≡ drop count (take size old)
passed_front old new count size h within long copied =
    let sum : count + (size - count) ≡ size = omega (arith, h) in
    copied_front old new count size h within long copied ∙ sym (drop-take count (size - count) old) ∙ ap (λ (k : ℕ). drop count (take k old)) sum

-- what is left of what was seen
pub seen_passed : (file rest : List ℕ) (w : Seen) (count place : ℕ) → count ≤ length w.bytes → rest ≡ drop count w.bytes → place ≡ w.place + count → IsSeen file w → rest ≡ take (length rest) (drop place file)
seen_passed file rest w count place within left at seen =
    let long : length rest ≡ length w.bytes - count = omega (arith, ap length left, length-drop count w.bytes) in
    let whole : take (length w.bytes - count) (drop count w.bytes) ≡ drop count w.bytes = take_all (length w.bytes - count) (drop count w.bytes) (omega (arith, length-drop count w.bytes)) in
    left ∙ sym whole ∙ seen_part file w count (length w.bytes - count) place seen (sym at) (omega (arith, within)) ∙ ap (λ (k : ℕ). take k (drop place file)) (sym long)

-- what was read on
pub seen_refilled : (file old new : List ℕ) (place kept count : ℕ) (last : Bool) → kept ≤ 48 → length old ≡ kept → old ≡ take (length old) (drop place file) → count ≡ min (4144 - kept) (length file - (place + kept))
    → new ≡ old ++ take (4144 - kept) (drop (place + kept) file) → (last ≡ true → kept + count < 4144) → IsSeen file (record { place = place; bytes = new; ended = last })
seen_refilled file old new place kept count last few size front read all ends =
    let after : take (4144 - kept) (drop (place + kept) file) ≡ take count (drop (place + kept) file) =
    sym (take_min (4144 - kept) (drop (place + kept) file)) ∙ ap (λ (k : ℕ). take k (drop (place + kept) file)) (omega (arith, read, length-drop (place + kept) file)) in
    let long : length new ≡ kept + count =
    omega (arith, ap length all, length-append old (take (4144 - kept) (drop (place + kept) file)), size, length-take (4144 - kept) (drop (place + kept) file), length-drop (place + kept) file, read) in
    let whole : new ≡ take (kept + count) (drop place file) =
    seen_more file old (take count (drop (place + kept) file)) new place kept count size (front ∙ ap (λ (k : ℕ). take k (drop place file)) size) refl (all ∙ ap (λ (l : List ℕ). old ++ l) after) in
    record {
      same = whole ∙ ap (λ (k : ℕ). take k (drop place file)) (sym long);
      last = λ is. omega (arith, ends is, read, long);
    }

-- what was seen of files that read the same
pub seen_over : (old new : Files) (file : ℕ) (w : Seen) → new ≡ old → IsSeen (old file) w → IsSeen (new file) w
seen_over old new file w same seen = subst (λ (f : Files). IsSeen (f file) w) (sym same) seen

pub are_seen_over : (old new : Files) (file other : ℕ) (own twin ledger : Seen) → new ≡ old → AreSeen old file other own twin ledger → AreSeen new file other own twin ledger
are_seen_over old new file other own twin ledger same seen = subst (λ (f : Files). AreSeen f file other own twin ledger) (sym same) seen

-- the same, with the copies the other way round
pub swapped_over : (old new : Files) (file other : ℕ) (own twin ledger : Seen) → new ≡ old → AreSeen old file other own twin ledger → AreSeen new other file twin own ledger
swapped_over old new file other own twin ledger same seen = record {
  own = seen_over old new other twin same seen.twin;
  twin = seen_over old new file own same seen.own;
  ledger = seen_over old new 0 ledger same seen.ledger;
}
