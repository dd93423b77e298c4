-- What an input went on over: bytes, digests and parts, one after the other.
use Rattle.std.proofs.Common.{◌≡◌, ℕ, zero, suc, ◌+◌, ◌*◌, ◌^◌, ◌≤◌, ◌<◌, List, [], ◌∷◌, ◌++◌, length, take, drop, refl, sym, ap, subst, ◌∙◌, append_assoc, arith}
use Rattle.std.specs.Int.{w32, from_be_bytes}
use Rattle.std.proofs.lemmas.List.{append-nil, length-append, length-take, length-drop, drop-drop, take-take, take-append-drop, take_all, take_at, drop_at}
use Rattle.std.proofs.lemmas.List.Elements.{All-nil, All-append}
use Rattle.sha2.specs.Hashers.{Holds256}
use Rattle.aea_catalog.specs.declared.objects.Extent.{Extent}
use Rattle.aea_records.specs.Tables.{bytes_at}
use Rattle.aea_records.specs.TableLaws.{AreBytes}
use Rattle.aea_records.specs.Fields.{pieces, extents}
use Rattle.aea_ledger.specs.Reads.{IsAhead}
use Rattle.aea_ledger.specs.Readings.{HasPassed, HasDigests, HasParts}
use Rattle.aea_ledger.specs.declared.input.Input.{Input}

-- over nothing
pub passed_none : (reveals : Type 0) (file : List ℕ) (i : Input) → (reveals → IsAhead i.cursor file) → HasPassed reveals file i i []
passed_none reveals file i ahead = record {
  are = All-nil (λ b. b < 2 ^ 8);
  holds = λ message held. subst (Holds256 i.hasher) (sym (append-nil message)) held;
  place = omega arith;
  ahead = ahead;
  bytes = λ reveal. refl;
}

-- over bytes, and then over others
pub passed_then : (reveals : Type 0) (file : List ℕ) (old mid new : Input) (x y : List ℕ) → HasPassed reveals file old mid x → HasPassed reveals file mid new y → HasPassed reveals file old new (x ++ y)
passed_then reveals file old mid new x y early late = record {
  are = All-append (λ b. b < 2 ^ 8) x y early.are late.are;
  holds = λ message held. subst (Holds256 new.hasher) (append_assoc message x y) (late.holds (message ++ x) (early.holds message held));
  place = omega (arith, early.place, late.place, length-append x y);
  ahead = late.ahead;
  bytes = λ reveal. early.bytes reveal ∙ ap (λ (l : List ℕ). x ++ l) (late.bytes reveal) ∙ sym (append_assoc x y (drop new.cursor.place file));
}

-- over the first bytes of those that were read, which may have been read meanwhile
pub passed_over : (reveals : Type 0) (file : List ℕ) (old mid new : Input) (count : ℕ) → mid.cursor.place ≡ old.cursor.place → ((message : List ℕ) → Holds256 old.hasher message → Holds256 mid.hasher message)
    → (reveals → IsAhead mid.cursor file) → count ≤ length mid.cursor.bytes → AreBytes (take count mid.cursor.bytes)
    → ((message : List ℕ) → Holds256 mid.hasher message → Holds256 new.hasher (message ++ take count mid.cursor.bytes)) → new.cursor.place ≡ mid.cursor.place + count
    → ((f : List ℕ) → IsAhead mid.cursor f → IsAhead new.cursor f) → HasPassed reveals file old new (take count mid.cursor.bytes)
passed_over reveals file old mid new count at same revealed within are holds place ahead =
    let size : length (take count mid.cursor.bytes) ≡ count = omega (arith, length-take count mid.cursor.bytes, within) in
    record {
      are = are;
      holds = λ message held. holds message (same message held);
      place = omega (arith, place, at, size);
      ahead = λ reveal. ahead file (revealed reveal);
      bytes = λ reveal.
          let rest : List ℕ = drop mid.cursor.place file in
          let front : take count mid.cursor.bytes ≡ take count (drop mid.cursor.place file) =
          ap (take count) (revealed reveal) ∙ take-take count (length mid.cursor.bytes) (drop mid.cursor.place file) within in
          ap (λ (n : ℕ). drop n file) (sym at) ∙ sym (take-append-drop count (drop mid.cursor.place file))
          ∙ ap (λ (l : List ℕ). l ++ drop count (drop mid.cursor.place file)) (sym front)
          ∙ ap (λ (l : List ℕ). take count mid.cursor.bytes ++ l) (drop-drop count mid.cursor.place file ∙ ap (λ (n : ℕ). drop n file) (sym place));
    }

-- where the file's contents are known, they may be named otherwise
pub passed_in : (reveals : Type 0) (file other : List ℕ) (old new : Input) (text : List ℕ) → (reveals → file ≡ other) → HasPassed reveals file old new text → HasPassed reveals other old new text
passed_in reveals file other old new text same passed = record {
  are = passed.are;
  holds = passed.holds;
  place = passed.place;
  ahead = λ reveal. subst (IsAhead new.cursor) (same reveal) (passed.ahead reveal);
  bytes = λ reveal. subst (λ (f : List ℕ). drop old.cursor.place f ≡ text ++ drop new.cursor.place f) (same reveal) (passed.bytes reveal);
}

-- ---- pieces and parts one after the other

none_left : (w : ℕ) (xs : List ℕ) → length xs ≡ w * 0 → xs ≡ []
none_left w [] e = refl
none_left w (x ∷ xs) e = absurd (omega (arith, e))

step_of : (w n : ℕ) → w * suc n ≡ w + w * n
step_of w n = omega arith

more_of : (n m : ℕ) → suc n + m ≡ suc (n + m)
more_of n m = omega arith

take_front : (w : ℕ) (x y : List ℕ) → w ≤ length x → take w (x ++ y) ≡ take w x
take_front w x y h =
    ap (λ (l : List ℕ). take w (l ++ y)) (sym (take-append-drop w x)) ∙ ap (take w) (append_assoc (take w x) (drop w x) y)
    ∙ take_at (take w x) (drop w x ++ y) w (omega (arith, length-take w x, h))

drop_front : (w : ℕ) (x y : List ℕ) → w ≤ length x → drop w (x ++ y) ≡ drop w x ++ y
drop_front w x y h =
    ap (λ (l : List ℕ). drop w (l ++ y)) (sym (take-append-drop w x)) ∙ ap (drop w) (append_assoc (take w x) (drop w x) y)
    ∙ drop_at (take w x) (drop w x ++ y) w (omega (arith, length-take w x, h))

pub pieces-append : (w n m : ℕ) (x y : List ℕ) → length x ≡ w * n → pieces w (n + m) (x ++ y) ≡ pieces w n x ++ pieces w m y
pieces-append w zero m x y size =
    (let z : zero + m ≡ m = omega arith in ap (λ (k : ℕ). pieces w k (x ++ y)) z) ∙ ap (λ (l : List ℕ). pieces w m (l ++ y)) (none_left w x size)
pieces-append w (suc n) m x y size =
    let wide : w ≤ length x = omega (arith, size, step_of w n) in
    ap (λ (k : ℕ). pieces w k (x ++ y)) (more_of n m)
    ∙ (λ i. take_front w x y wide i ∷ (ap (pieces w (n + m)) (drop_front w x y wide) ∙ pieces-append w n m (drop w x) y (omega (arith, length-drop w x, size, step_of w n))) i)

pub extents-append : (n m : ℕ) (x y : List ℕ) → length x ≡ 8 * n → extents (n + m) (x ++ y) ≡ extents n x ++ extents m y
extents-append zero m x y size =
    (let z : zero + m ≡ m = omega arith in ap (λ (k : ℕ). extents k (x ++ y)) z) ∙ ap (λ (l : List ℕ). extents m (l ++ y)) (none_left 8 x size)
extents-append (suc n) m x y size =
    let wide : 8 ≤ length x = omega (arith, size, step_of 8 n) in
    let first : bytes_at 4 0 (x ++ y) ≡ bytes_at 4 0 x = take_front 4 x y (omega (arith, wide)) in
    let count : bytes_at 4 4 (x ++ y) ≡ bytes_at 4 4 x =
    ap (take 4) (drop_front 4 x y (omega (arith, wide))) ∙ take_front 4 (drop 4 x) y (omega (arith, length-drop 4 x, wide)) in
    ap (λ (k : ℕ). extents k (x ++ y)) (more_of n m)
    ∙ (λ i. record { first = from_be_bytes w32 (first i); count = from_be_bytes w32 (count i) }
    ∷ (ap (extents (n + m)) (drop_front 8 x y wide) ∙ extents-append n m (drop 8 x) y (omega (arith, length-drop 8 x, size, step_of 8 n))) i)

-- ---- digests and parts

pub digests_none : (reveals : Type 0) (file : List ℕ) (i : Input) (before : List (List ℕ)) → (reveals → IsAhead i.cursor file) → HasDigests reveals file i i 0 before before
digests_none reveals file i before ahead = record { text = []; long = refl; passed = passed_none reveals file i ahead; digests = sym (append-nil before) }

-- 32 bytes that the input went on over, put after others as they are, are one digest that it went on over
pub digests_one : (reveals : Type 0) (file : List ℕ) (old new : Input) (bytes digest : List ℕ) (before after : List (List ℕ)) → length bytes ≡ 32 → HasPassed reveals file old new bytes → digest ≡ bytes
    → after ≡ before ++ digest ∷ [] → HasDigests reveals file old new 1 before after
digests_one reveals file old new bytes digest before after long passed is pushed = record {
  text = bytes;
  long = long;
  passed = passed;
  digests = pushed ∙ ap (λ (d : List ℕ). before ++ d ∷ []) (is ∙ sym (take_all 32 bytes (omega (arith, long))));
}

-- the input that went on over so many digests, and then over one, went on over one more than so many
pub digests_push : (reveals : Type 0) (file : List ℕ) (old mid new : Input) (count : ℕ) (before between after : List (List ℕ)) → HasDigests reveals file old mid count before between → HasDigests reveals file mid new 1 between after
    → HasDigests reveals file old new (count + 1) before after
digests_push reveals file old mid new count before between after early late = record {
  text = early.text ++ late.text;
  long = omega (arith, length-append early.text late.text, early.long, late.long);
  passed = passed_then reveals file old mid new early.text late.text early.passed late.passed;
  digests = late.digests ∙ ap (λ (l : List (List ℕ)). l ++ pieces 32 1 late.text) early.digests ∙ append_assoc before (pieces 32 count early.text) (pieces 32 1 late.text)
      ∙ ap (λ (l : List (List ℕ)). before ++ l) (sym (pieces-append 32 count 1 early.text late.text early.long));
}

-- digests that were read of a file were read of another one that is the same, where the file's contents are known
pub digests_in : (reveals : Type 0) (file other : List ℕ) (old new : Input) (count : ℕ) (before after : List (List ℕ)) → (reveals → file ≡ other) → HasDigests reveals file old new count before after
    → HasDigests reveals other old new count before after
digests_in reveals file other old new count before after same has = record { text = has.text; long = has.long; passed = passed_in reveals file other old new has.text same has.passed; digests = has.digests }

pub parts_none : (reveals : Type 0) (file : List ℕ) (i : Input) (before : List Extent) → (reveals → IsAhead i.cursor file) → HasParts reveals file i i 0 before before
parts_none reveals file i before ahead = record { text = []; long = refl; passed = passed_none reveals file i ahead; parts = sym (append-nil before) }

-- 8 bytes that the input went on over, put after others as the part that they spell, are one part that it went on
-- over
pub parts_one : (reveals : Type 0) (file : List ℕ) (old new : Input) (bytes : List ℕ) (part : Extent) (before after : List Extent) → length bytes ≡ 8 → HasPassed reveals file old new bytes
    → part ≡ record { first = from_be_bytes w32 (take 4 bytes); count = from_be_bytes w32 (drop 4 bytes) } → after ≡ before ++ part ∷ [] → HasParts reveals file old new 1 before after
parts_one reveals file old new bytes part before after long passed is pushed = record {
  text = bytes;
  long = long;
  passed = passed;
  parts = pushed ∙ ap (λ (e : Extent). before ++ e ∷ []) (is ∙ (λ i. record { first = from_be_bytes w32 (take 4 bytes); count = from_be_bytes w32 (sym (take_all 4 (drop 4 bytes) (omega (arith, length-drop 4 bytes, long))) i) }));
}

-- the input that went on over so many parts, and then over one, went on over one more than so many
pub parts_push : (reveals : Type 0) (file : List ℕ) (old mid new : Input) (count : ℕ) (before between after : List Extent) → HasParts reveals file old mid count before between → HasParts reveals file mid new 1 between after
    → HasParts reveals file old new (count + 1) before after
parts_push reveals file old mid new count before between after early late = record {
  text = early.text ++ late.text;
  long = omega (arith, length-append early.text late.text, early.long, late.long);
  passed = passed_then reveals file old mid new early.text late.text early.passed late.passed;
  parts = late.parts ∙ ap (λ (l : List Extent). l ++ extents 1 late.text) early.parts ∙ append_assoc before (extents count early.text) (extents 1 late.text)
      ∙ ap (λ (l : List Extent). before ++ l) (sym (extents-append count 1 early.text late.text early.long));
}

-- parts that were read of a file were read of another one that is the same, where the file's contents are known
pub parts_in : (reveals : Type 0) (file other : List ℕ) (old new : Input) (count : ℕ) (before after : List Extent) → (reveals → file ≡ other) → HasParts reveals file old new count before after
    → HasParts reveals other old new count before after
parts_in reveals file other old new count before after same has = record { text = has.text; long = has.long; passed = passed_in reveals file other old new has.text same has.passed; parts = has.parts }

-- as many parts are read as are asked for, whatever the bytes are
pub length-extents : (n : ℕ) (bytes : List ℕ) → length (extents n bytes) ≡ n
length-extents zero bytes = refl
length-extents (suc n) bytes = ap suc (length-extents n (drop 8 bytes))
