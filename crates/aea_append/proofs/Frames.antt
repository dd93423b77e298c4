-- What a stream begins with, by the bytes that were taken of it.
use Rattle.std.proofs.Common.{◌≡◌, ◌⊎◌, ⊎_elim, inl, inr, ℕ, ◌+◌, ◌<◌, ◌≤◌, ◌^◌, List, [], ◌++◌, length, take, drop, get_or, Option, None, Some, Result, Ok, Err, refl, sym, ◌∙◌, ap, subst, arith, length-append, append_assoc}
use Rattle.std.specs.Int.{w16, w64, from_be_bytes, to_be_bytes}
use Rattle.std.specs.Io.KnownBytes.{Consumes, IsAtEnd}
use Rattle.std.proofs.KnownBytes.{Consumes-trans}
use Rattle.std.proofs.lemmas.Bool.{cases_lt}
use Rattle.std.proofs.lemmas.List.{take_at, drop_at, take_all, length-take, get_or_past, take-append-drop}
use Rattle.std.proofs.lemmas.List.Elements.{All-get_or}
use Rattle.aea_records.specs.TableLaws.{AreBytes}
use Rattle.std.proofs.lemmas.Nat.{be_bytes_2, be_bytes_8}
use Rattle.aea_io.specs.Taken.{TakesFirst}
use Rattle.aea_ledger.specs.Values.{Opened}
use Rattle.aea_io.specs.declared.traits.ReadFault.{ReadFault}
use Rattle.aea_append.specs.declared.frame.Head.{Head}
use Rattle.aea_append.specs.declared.frame.Head.TheVariants.{Cut, Whole}
use Rattle.aea_append.proofs.Cuts.{nil_of}
use Rattle.aea_append.specs.Frames.{name_length, frame_name, object_length, frame_head, HasNameLength, HasNoName, HasHead, HasBadName, EndsInHead, EndsInside}

-- what is left of a source whose bytes are known
pub revealed_some : (stream bytes : List ℕ) (rest : Option (List ℕ)) → Consumes (Some stream) rest bytes → (ys : List ℕ) × (rest ≡ Some ys) × (stream ≡ bytes ++ ys)
revealed_some stream bytes None none = absurd none
revealed_some stream bytes (Some ys) is = (ys, refl, is)

pub revealed_rest : (left rest : Option (List ℕ)) (stream bytes : List ℕ) → left ≡ Some stream → Consumes left rest bytes → (ys : List ℕ) × (rest ≡ Some ys) × (stream ≡ bytes ++ ys)
revealed_rest left rest stream bytes is taken = revealed_some stream bytes rest (subst (λ (l : Option (List ℕ)). Consumes l rest bytes) is taken)

-- at its end it is all that was taken
pub revealed_end : (left rest : Option (List ℕ)) (stream bytes : List ℕ) → left ≡ Some stream → Consumes left rest bytes → IsAtEnd rest → length stream ≡ length bytes
revealed_end left rest stream bytes is taken end =
    let some = revealed_rest left rest stream bytes is taken in
    let none : some.0 ≡ [] = subst IsAtEnd some.1 end in
    omega (arith, ap length some.2, length-append bytes some.0, ap length none)

-- what was read into two bytes, and was as many
pub revealed_full : (left rest : Option (List ℕ)) (stream bytes : List ℕ) (k : ℕ) → left ≡ Some stream → TakesFirst left rest k bytes → length bytes ≤ k → (ys : List ℕ) × (rest ≡ Some ys) × (stream ≡ bytes ++ ys)
revealed_full left rest stream bytes k is first full = revealed_rest left rest stream bytes is (subst (Consumes left rest) (take_all k bytes full) first.taken)

-- what was read ended before the buffer was full
pub revealed_short : (left rest : Option (List ℕ)) (stream bytes : List ℕ) (k : ℕ) → left ≡ Some stream → TakesFirst left rest k bytes → k < length bytes → length stream ≡ k
revealed_short left rest stream bytes k is first short =
    revealed_end left rest stream (take k bytes) is first.taken (first.end short) ∙ omega (arith, length-take k bytes, short)

pub name_length_is : (stream two ys : List ℕ) → length two ≡ 2 → stream ≡ two ++ ys → name_length stream ≡ from_be_bytes w16 two
name_length_is stream two ys long is = ap (λ (s : List ℕ). from_be_bytes w16 (take 2 s)) is ∙ ap (from_be_bytes w16) (take_at two ys 2 long)

pub frame_name_is : (stream two name ys : List ℕ) → length two ≡ 2 → from_be_bytes w16 two ≡ length name → stream ≡ two ++ (name ++ ys) → name ≡ frame_name stream
frame_name_is stream two name ys long number is =
    let n = name_length_is stream two (name ++ ys) long is in
    sym (ap (λ (k : ℕ). take k (drop 2 stream)) (n ∙ number) ∙ ap (λ (s : List ℕ). take (length name) (drop 2 s)) is ∙ ap (take (length name)) (drop_at two (name ++ ys) 2 long) ∙ take_at name ys (length name) refl)

pub object_length_is : (stream two name eight ys : List ℕ) → length two ≡ 2 → from_be_bytes w16 two ≡ length name → length eight ≡ 8 → stream ≡ two ++ (name ++ (eight ++ ys)) → from_be_bytes w64 eight ≡ object_length stream
object_length_is stream two name eight ys long number wide is =
    let n = name_length_is stream two (name ++ (eight ++ ys)) long is in
    let front : length (two ++ name) ≡ 2 + name_length stream = omega (arith, length-append two name, long, n, number) in
    let all : stream ≡ (two ++ name) ++ (eight ++ ys) = is ∙ sym (append_assoc two name (eight ++ ys)) in
    sym (ap (λ (k : ℕ). from_be_bytes w64 (take 8 (drop k stream))) (sym front)
    ∙ ap (λ (s : List ℕ). from_be_bytes w64 (take 8 (drop (length (two ++ name)) s))) all
    ∙ ap (λ (s : List ℕ). from_be_bytes w64 (take 8 s)) (drop_at (two ++ name) (eight ++ ys) (length (two ++ name)) refl)
    ∙ ap (from_be_bytes w64) (take_at eight ys 8 wide))

-- the bytes that were read are the head of a frame
pub head_is : (two name eight : List ℕ) (size : ℕ) → length two ≡ 2 → ((i : ℕ) → get_or two i 0 < 256) → length name ≡ from_be_bytes w16 two
    → length eight ≡ 8 → ((i : ℕ) → get_or eight i 0 < 256) → size ≡ from_be_bytes w64 eight → two ++ name ++ eight ≡ frame_head name size
head_is two name eight size long bytes number wide more is =
    sym (ap (λ (l : List ℕ). l ++ name ++ to_be_bytes w64 size) (be_bytes_2 two (length name) long bytes number) ∙ ap (λ (l : List ℕ). two ++ name ++ l) (be_bytes_8 eight size wide more is))

-- how long a head is
pub length-head : (name : List ℕ) (size : ℕ) → length (frame_head name size) ≡ 10 + length name
length-head name size = length-append (to_be_bytes w16 (length name)) (name ++ to_be_bytes w64 size) ∙ omega (arith, length-append name (to_be_bytes w64 size), (let e : length (to_be_bytes w16 (length name)) ≡ 2 = refl in e), (let f : length (to_be_bytes w64 size) ≡ 8 = refl in f))

-- what is left after a head that was taken of a source whose bytes are known
pub behind_head : (left mid : Option (List ℕ)) (stream name : List ℕ) (size : ℕ) → left ≡ Some stream → Consumes left mid (frame_head name size) → (ys : List ℕ) × (mid ≡ Some ys) × (length stream ≡ 10 + length name + length ys)
behind_head left mid stream name size is taken =
    let some = revealed_rest left mid stream (frame_head name size) is taken in
    (some.0, some.1, ap length some.2 ∙ length-append (frame_head name size) some.0 ∙ omega (arith, length-head name size))

-- ---- what was read of a source whose bytes are known: two bytes, and then a name with eight bytes after it

-- the source was at its end, if no byte was taken and it is there then
pub end_before : (left rest : Option (List ℕ)) (bytes : List ℕ) → length bytes ≡ 0 → Consumes left rest bytes → IsAtEnd rest → IsAtEnd left
end_before None rest bytes none taken end = tt
end_before (Some xs) None bytes none taken end = absurd taken
end_before (Some xs) (Some ys) bytes none taken end = nil_of xs (omega (arith, ap length taken, length-append bytes ys, none, ap length end))

pub has_name : (stream : List ℕ) (long : ℕ) → 2 ≤ length stream → name_length stream ≡ long → 1 ≤ long → long ≤ 255 → HasNameLength stream
has_name stream long there is least most = record { there = there; least = omega (arith, is, least); most = omega (arith, is, most) }

-- the length of the name
pub revealed_length : (s0 s1 : Option (List ℕ)) (stream two : List ℕ) (k long : ℕ) → s0 ≡ Some stream → TakesFirst s0 s1 k two → length two ≡ 2 → 2 ≤ k → long ≡ from_be_bytes w16 two → (name_length stream ≡ long) × (2 ≤ length stream)
revealed_length s0 s1 stream two k long is first wide full number =
    let some = revealed_full s0 s1 stream two k is first (omega (arith, wide, full)) in
    (name_length_is stream two some.0 wide some.2 ∙ sym number, omega (arith, ap length some.2, length-append two some.0, wide))

pub revealed_none : (s0 s1 : Option (List ℕ)) (stream two : List ℕ) (k long : ℕ) → s0 ≡ Some stream → TakesFirst s0 s1 k two → length two ≡ 2 → 2 ≤ k → long ≡ from_be_bytes w16 two → (long ≡ 0) ⊎ (255 < long) → HasNoName stream
revealed_none s0 s1 stream two k long is first wide full number none =
    let l = revealed_length s0 s1 stream two k long is first wide full number in
    record { there = l.1; none = ⊎_elim (λ zero. inl (l.0 ∙ zero)) (λ more. inr (omega (arith, l.0, more))) none }

-- the name and the eight bytes after it are the two parts of what was read at once, also at the front of a longer buffer
pub halves : (more rest : List ℕ) (long : ℕ) → length more ≡ long + 8
    → (take long more ++ drop long more ≡ more) × (length (take long more) ≡ long) × (length (drop long more) ≡ 8) × (take long (more ++ rest) ≡ take long more) × (take 8 (drop long (more ++ rest)) ≡ drop long more)
halves more rest long wide =
    let both : take long more ++ drop long more ≡ more = take-append-drop long more in
    let name : length (take long more) ≡ long = omega (arith, length-take long more, wide) in
    let eight : length (drop long more) ≡ 8 = omega (arith, ap length both, length-append (take long more) (drop long more), name, wide) in
    let all : more ++ rest ≡ take long more ++ (drop long more ++ rest) = ap (λ (l : List ℕ). l ++ rest) (sym both) ∙ append_assoc (take long more) (drop long more) rest in (
      both,
      name,
      eight,
      ap (take long) all ∙ take_at (take long more) (drop long more ++ rest) long name,
      ap (λ (l : List ℕ). take 8 (drop long l)) all ∙ ap (take 8) (drop_at (take long more) (drop long more ++ rest) long name) ∙ take_at (drop long more) rest 8 eight,
    )

-- the source ended in the name, or in the length of the object after it
pub revealed_cut : (s0 s1 s2 : Option (List ℕ)) (stream two more : List ℕ) (k j long : ℕ) → s0 ≡ Some stream → TakesFirst s0 s1 k two → length two ≡ 2 → 2 ≤ k → long ≡ from_be_bytes w16 two → 1 ≤ long → long ≤ 255
    → TakesFirst s1 s2 j more → length more ≡ long + 8 → j < long + 8 → EndsInHead stream
revealed_cut s0 s1 s2 stream two more k j long is first wide full number least most second size short =
    let l = revealed_length s0 s1 stream two k long is first wide full number in
    let some = revealed_full s0 s1 stream two k is first (omega (arith, wide, full)) in
    let rest = revealed_short s1 s2 some.0 more j some.1 second (omega (arith, short, size)) in
    inr (has_name stream long l.1 l.0 least most, omega (arith, ap length some.2, length-append two some.0, wide, rest, short, l.0))

-- the whole head was read
pub revealed_whole : (s0 s1 s2 : Option (List ℕ)) (stream two name eight : List ℕ) (k j long size : ℕ) → s0 ≡ Some stream → TakesFirst s0 s1 k two → length two ≡ 2 → 2 ≤ k → long ≡ from_be_bytes w16 two → 1 ≤ long → long ≤ 255
    → TakesFirst s1 s2 j (name ++ eight) → length name ≡ long → length eight ≡ 8 → long + 8 ≤ j → size ≡ from_be_bytes w64 eight
    → HasHead stream × (name ≡ frame_name stream) × (size ≡ object_length stream) × (long ≡ name_length stream)
revealed_whole s0 s1 s2 stream two name eight k j long size is first wide full number least most second width eight_wide whole value =
    let l = revealed_length s0 s1 stream two k long is first wide full number in
    let some = revealed_full s0 s1 stream two k is first (omega (arith, wide, full)) in
    let rest = revealed_full s1 s2 some.0 (name ++ eight) j some.1 second (omega (arith, length-append name eight, width, eight_wide, whole)) in
    let more : some.0 ≡ name ++ (eight ++ rest.0) = rest.2 ∙ append_assoc name eight rest.0 in
    let all : stream ≡ two ++ (name ++ (eight ++ rest.0)) = some.2 ∙ ap (λ (l : List ℕ). two ++ l) more in
    let named : from_be_bytes w16 two ≡ length name = sym number ∙ sym width in
    let there : length stream ≡ 10 + name_length stream + length rest.0 = omega (arith, ap length some.2, length-append two some.0, wide, ap length more, length-append name (eight ++ rest.0), width, length-append eight rest.0, eight_wide, l.0) in (
      record { name = has_name stream long l.1 l.0 least most; there = omega (arith, there) },
      frame_name_is stream two name (eight ++ rest.0) wide named all,
      value ∙ object_length_is stream two name eight rest.0 wide named eight_wide all,
      sym l.0,
    )

-- and taken
pub taken_whole : (s0 s1 s2 : Option (List ℕ)) (two name eight : List ℕ) (k j long size : ℕ) → TakesFirst s0 s1 k two → length two ≡ 2 → ((n : ℕ) → get_or two n 0 < 256) → 2 ≤ k → long ≡ from_be_bytes w16 two
    → TakesFirst s1 s2 j (name ++ eight) → length name ≡ long → length eight ≡ 8 → long + 8 ≤ j → ((n : ℕ) → get_or eight n 0 < 256) → size ≡ from_be_bytes w64 eight
    → Consumes s0 s2 (frame_head name size)
taken_whole s0 s1 s2 two name eight k j long size first wide bytes full number second width eight_wide whole more value =
    let one : Consumes s0 s1 two = subst (Consumes s0 s1) (take_all k two (omega (arith, wide, full))) first.taken in
    let rest : Consumes s1 s2 (name ++ eight) = subst (Consumes s1 s2) (take_all j (name ++ eight) (omega (arith, length-append name eight, width, eight_wide, whole))) second.taken in
    subst (Consumes s0 s2) (head_is two name eight size wide bytes (width ∙ number) eight_wide more value)
    (subst (Consumes s0 s2) (sym (append_assoc two name eight)) (Consumes-trans s0 s1 s2 two (name ++ eight) one rest))

-- ---- what a stream begins with is one thing alone

pub head_not_end : (stream : List ℕ) → length stream ≡ 0 → HasHead stream → ⊥
head_not_end stream none head = (let there = head.there in omega (arith, none, there))

pub head_not_cut : (stream : List ℕ) → EndsInHead stream → HasHead stream → ⊥
head_not_cut stream cut head = ⊎_elim {C = ⊥} (λ one. (let there = head.there in omega (arith, one, there))) (λ more. (let there = head.there in let less = more.1 in omega (arith, less, there))) cut

pub length_not_none : (stream : List ℕ) → HasNoName stream → HasNameLength stream → ⊥
length_not_none stream none name = ⊎_elim {C = ⊥} (λ zero. (let least = name.least in omega (arith, zero, least))) (λ more. (let most = name.most in omega (arith, more, most))) none.none

pub head_not_none : (stream : List ℕ) → HasNoName stream → HasHead stream → ⊥
head_not_none stream none head = length_not_none stream none head.name

pub cut_not_none : (stream : List ℕ) → HasNoName stream → EndsInHead stream → ⊥
cut_not_none stream none cut = ⊎_elim {C = ⊥} (λ one. (let there = none.there in omega (arith, one, there))) (λ more. length_not_none stream none more.0) cut

pub cut_not_end : (stream : List ℕ) → length stream ≡ 0 → EndsInHead stream → ⊥
cut_not_end stream end cut = ⊎_elim {C = ⊥} (λ one. omega (arith, one, end)) (λ more. (let name = more.0 in let there = name.there in omega (arith, there, end))) cut

pub bad_not_end : (stream : List ℕ) → length stream ≡ 0 → HasBadName stream → ⊥
bad_not_end stream end bad = ⊎_elim {C = ⊥} (λ none. (let there = none.there in omega (arith, there, end))) (λ head. head_not_end stream end head.0) bad

pub bad_not_cut : (stream : List ℕ) → EndsInHead stream → HasBadName stream → ⊥
bad_not_cut stream cut bad = ⊎_elim {C = ⊥} (λ none. cut_not_none stream none cut) (λ head. head_not_cut stream cut head.0) bad

pub inside_not_end : (v : Opened) (stream : List ℕ) → length stream ≡ 0 → EndsInside v stream → ⊥
inside_not_end v stream end inside = ⊎_elim {C = ⊥} (λ cut. cut_not_end stream end cut) (λ more. (let entry = more.0 in head_not_end stream end entry.head)) inside

pub inside_not_none : (v : Opened) (stream : List ℕ) → HasNoName stream → EndsInside v stream → ⊥
inside_not_none v stream none inside = ⊎_elim {C = ⊥} (λ cut. cut_not_none stream none cut) (λ more. (let entry = more.0 in head_not_none stream none entry.head)) inside

-- a list of bytes has no number above 255, also past its end
pub byte_below : (bytes : List ℕ) → AreBytes bytes → (i : ℕ) → get_or bytes i 0 < 256
byte_below bytes fits i =
    elim (cases_lt i (length bytes)) [
      | inl lt ↦ All-get_or (λ b. b < 2 ^ 8) bytes i 0 lt fits
      | inr le ↦ rw (get_or_past bytes i 0 le) (omega arith)
    ]

-- ---- heads that are the same

abbrev head_in : Result Head ReadFault → Head
head_in (Ok head) = head
head_in (Err fault) = Cut

abbrev long_in : Head → ℕ
long_in (Whole long size) = long
long_in head = 0

abbrev size_in : Head → ℕ
size_in (Whole long size) = size
size_in head = 0

pub same_long : (a b x y : ℕ) → ◌≡◌ {A = Result Head ReadFault} (Ok (Whole a x)) (Ok (Whole b y)) → a ≡ b
same_long a b x y e = ap (λ (r : Result Head ReadFault). long_in (head_in r)) e

pub same_size : (a b x y : ℕ) → ◌≡◌ {A = Result Head ReadFault} (Ok (Whole a x)) (Ok (Whole b y)) → x ≡ y
same_size a b x y e = ap (λ (r : Result Head ReadFault). size_in (head_in r)) e
