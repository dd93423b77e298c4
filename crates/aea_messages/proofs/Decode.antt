-- A plain reading of a stream, which each of the facts on what it begins with determines: so each stream has one.
use Rattle.std.proofs.Common.{◌≡◌, ◌≢◌, ◌⊎◌, inl, inr, ⊎_elim, ℕ, ◌+◌, ◌<◌, ◌≤◌, ◌^◌, Bool, true, false, cond, List, [], ◌∷◌, ◌++◌, length, take, drop, refl, sym, ◌∙◌, ap, arith, length-append, append_assoc}
use Rattle.std.specs.Prelude.{◌==◌, nat_le, slice_index_or}
use Rattle.std.specs.Int.{w16, w32, from_be_bytes, to_be_bytes}
use Rattle.std.proofs.lemmas.Bool.{cases_lt, le-leb, lt-leb, ne_eqb}
use Rattle.std.proofs.lemmas.List.{append-nil, take_at, drop_at}
use Rattle.std.proofs.lemmas.Nat.{from_be_bytes-to_be_bytes_2, from_be_bytes-to_be_bytes_4}
use Rattle.aea_messages.specs.declared.message.Message.{Message}
use Rattle.aea_messages.specs.declared.message.Message.TheVariants.{Open, Chunk, Close, Abort, Read, Patrol}
use Rattle.aea_messages.specs.Messages.{greatest_chunk, spelled, spelled_all, IsMessage, IsBad, Begins, IsCut, HasFields, IsShort}
use Rattle.aea_messages.specs.Readings.{MessagesHaveOneReading, MessagesAreNotBad, MessagesAreNotCut, BadAreNotCut, BadAtOnePlace, BeginsNone, StreamsHaveOneReading}

-- what a stream begins with
data Reading : Type 0 where
  End : Reading
  Whole : Message → List ℕ → Reading
  Bad : ℕ → Reading
  Cut : Reading

-- k bytes, and what is read behind them
taking : ℕ → List ℕ → (List ℕ → List ℕ → Reading) → Reading
taking k s go = cond (nat_le k (length s)) (go (take k s) (drop k s)) Cut

-- the only byte of a list
abbrev only : List ℕ → ℕ
only s = slice_index_or s 0 0

-- the bytes of a chunk
abbrev chunk_by : ℕ → ℕ → List ℕ → Reading
chunk_by slot long s = cond (nat_le long greatest_chunk) (taking long s (λ bytes t. Whole (Chunk slot bytes) t)) (Bad 2)

abbrev decode_kind : ℕ → List ℕ → Reading
decode_kind kind s =
    cond (kind == 1) (taking 1 s (λ slot t. taking 2 t (λ two u. taking (from_be_bytes w16 two) u (λ name v. Whole (Open (only slot) name) v))))
    (cond (kind == 2) (taking 1 s (λ slot t. taking 4 t (λ four u. chunk_by (only slot) (from_be_bytes w32 four) u)))
    (cond (kind == 3) (taking 1 s (λ slot t. Whole (Close (only slot)) t))
    (cond (kind == 4) (taking 1 s (λ slot t. Whole (Abort (only slot)) t))
    (cond (kind == 5) (taking 2 s (λ two t. taking (from_be_bytes w16 two) t (λ name u. Whole (Read name) u)))
    (cond (kind == 6) (taking 4 s (λ first t. taking 4 t (λ count u. Whole (Patrol (from_be_bytes w32 first) (from_be_bytes w32 count)) u)))
    (Bad 0))))))

abbrev decode : List ℕ → Reading
decode [] = End
decode (kind ∷ s) = decode_kind kind s

-- ---- fields

is_yes : {A : Type 0} {b : Bool} {x : A} (y : A) → b ≡ true → cond b x y ≡ x
is_yes {b = b} {x = x} y e = ap (λ (t : Bool). cond t x y) e

is_no : {A : Type 0} {b : Bool} (x : A) {y : A} → b ≡ false → cond b x y ≡ y
is_no {b = b} x {y = y} e = ap (λ (t : Bool). cond t x y) e

taking_at : (f t : List ℕ) (k : ℕ) (go : List ℕ → List ℕ → Reading) → length f ≡ k → taking k (f ++ t) go ≡ go f t
unfolding taking
taking_at f t k go long =
    is_yes _ (le-leb k (length (f ++ t)) (omega (arith, length-append f t, long)))
    ∙ ap (λ (l : List ℕ). go l (drop k (f ++ t))) (take_at f t k long)
    ∙ ap (go f) (drop_at f t k long)

taking_short : (s : List ℕ) (k : ℕ) (go : List ℕ → List ℕ → Reading) → length s < k → taking k s go ≡ Cut
unfolding taking
taking_short s k go short = is_no _ (lt-leb k (length s) short)

-- a list that goes on to a field and more begins with the field, where it is as long
split : (s more f t : List ℕ) → s ++ more ≡ f ++ t → length f ≤ length s → (rest : List ℕ) × (s ≡ f ++ rest) × (rest ++ more ≡ t)
split s more [] t is long = (s, refl, is)
split [] more (x ∷ f) t is long = absurd (omega (arith, long))
split (y ∷ s) more (x ∷ f) t is long =
    let tail : s ++ more ≡ f ++ t = ap (drop 1) is in
    let head : y ≡ x = ap (λ (l : List ℕ). slice_index_or l 0 0) is in
    let r = split s more f t tail (omega (arith, long)) in
    (r.0, (λ i. head i ∷ r.1 i), r.2)

-- it is cut, if it is so behind the field
cut_at : (s more f t : List ℕ) (k : ℕ) (go : List ℕ → List ℕ → Reading) → s ++ more ≡ f ++ t → length f ≡ k
    → ((rest : List ℕ) → s ≡ f ++ rest → rest ++ more ≡ t → go f rest ≡ Cut) → taking k s go ≡ Cut
cut_at s more f t k go is long onward =
    elim (cases_lt (length s) k) [
      | inl short ↦ taking_short s k go short
      | inr full ↦
          let r = split s more f t is (omega (arith, full, long)) in
          ap (λ (l : List ℕ). taking k l go) r.1 ∙ taking_at f r.0 k go long ∙ onward r.0 r.1 r.2
    ]

-- nothing is cut behind the last field
none_left : (rest more : List ℕ) (r : Reading) → more ≢ [] → rest ++ more ≡ [] → r ≡ Cut
none_left rest [] r some is = absurd (some refl)
none_left rest (x ∷ more) r some is = absurd (omega (arith, ap length is, length-append rest (x ∷ more)))

short_of : (n : ℕ) → n < 2 ^ 16 → from_be_bytes w16 (to_be_bytes w16 n) ≡ n
short_of n fits = from_be_bytes-to_be_bytes_2 n fits

long_of : (n : ℕ) → n < 2 ^ 32 → from_be_bytes w32 (to_be_bytes w32 n) ≡ n
long_of n fits = from_be_bytes-to_be_bytes_4 n fits

-- ---- a message

whole : (message : Message) (rest : List ℕ) → IsMessage message → decode (spelled message ++ rest) ≡ Whole message rest
whole (Open slot name) rest is =
    ap (λ (l : List ℕ). decode (1 ∷ slot ∷ l)) (append_assoc (to_be_bytes w16 (length name)) name rest)
    ∙ taking_at (slot ∷ []) (to_be_bytes w16 (length name) ++ (name ++ rest)) 1 (λ slot t. taking 2 t (λ two u. taking (from_be_bytes w16 two) u (λ name v. Whole (Open (only slot) name) v))) refl
    ∙ taking_at (to_be_bytes w16 (length name)) (name ++ rest) 2 (λ two u. taking (from_be_bytes w16 two) u (λ name v. Whole (Open slot name) v)) refl
    ∙ ap (λ (k : ℕ). taking k (name ++ rest) (λ name v. Whole (Open slot name) v)) (short_of (length name) is.fields.2)
    ∙ taking_at name rest (length name) (λ name v. Whole (Open slot name) v) refl
whole (Chunk slot bytes) rest is =
    ap (λ (l : List ℕ). decode (2 ∷ slot ∷ l)) (append_assoc (to_be_bytes w32 (length bytes)) bytes rest)
    ∙ taking_at (slot ∷ []) (to_be_bytes w32 (length bytes) ++ (bytes ++ rest)) 1 (λ slot t. taking 4 t (λ four u. chunk_by (only slot) (from_be_bytes w32 four) u)) refl
    ∙ taking_at (to_be_bytes w32 (length bytes)) (bytes ++ rest) 4 (λ four u. chunk_by slot (from_be_bytes w32 four) u) refl
    ∙ ap (λ (k : ℕ). chunk_by slot k (bytes ++ rest)) (long_of (length bytes) is.fields.2)
    ∙ is_yes _ (le-leb (length bytes) greatest_chunk is.short)
    ∙ taking_at bytes rest (length bytes) (λ bytes t. Whole (Chunk slot bytes) t) refl
whole (Close slot) rest is = taking_at (slot ∷ []) rest 1 (λ slot t. Whole (Close (only slot)) t) refl
whole (Abort slot) rest is = taking_at (slot ∷ []) rest 1 (λ slot t. Whole (Abort (only slot)) t) refl
whole (Read name) rest is =
    ap (λ (l : List ℕ). decode (5 ∷ l)) (append_assoc (to_be_bytes w16 (length name)) name rest)
    ∙ taking_at (to_be_bytes w16 (length name)) (name ++ rest) 2 (λ two u. taking (from_be_bytes w16 two) u (λ name v. Whole (Read name) v)) refl
    ∙ ap (λ (k : ℕ). taking k (name ++ rest) (λ name v. Whole (Read name) v)) (short_of (length name) is.fields.1)
    ∙ taking_at name rest (length name) (λ name v. Whole (Read name) v) refl
whole (Patrol first count) rest is =
    ap (λ (l : List ℕ). decode (6 ∷ l)) (append_assoc (to_be_bytes w32 first) (to_be_bytes w32 count) rest)
    ∙ taking_at (to_be_bytes w32 first) (to_be_bytes w32 count ++ rest) 4 (λ first t. taking 4 t (λ count u. Whole (Patrol (from_be_bytes w32 first) (from_be_bytes w32 count)) u)) refl
    ∙ taking_at (to_be_bytes w32 count) rest 4 (λ count u. Whole (Patrol (from_be_bytes w32 (to_be_bytes w32 first)) (from_be_bytes w32 count)) u) refl
    ∙ ap (λ (k : ℕ). Whole (Patrol k (from_be_bytes w32 (to_be_bytes w32 count))) rest) (long_of first is.fields.0)
    ∙ ap (λ (k : ℕ). Whole (Patrol first k) rest) (long_of count is.fields.1)

-- ---- what is none

no_kind : (kind : ℕ) (s : List ℕ) → (kind ≡ 0) ⊎ (6 < kind) → (n : ℕ) → 1 ≤ n → n ≤ 6 → (kind == n) ≡ false
no_kind kind s none n least most = ne_eqb kind n (λ e. ⊎_elim (λ zero. omega (arith, e, zero, least)) (λ more. omega (arith, e, more, most)) none)

bad_first : (kind : ℕ) (s : List ℕ) → (kind ≡ 0) ⊎ (6 < kind) → decode_kind kind s ≡ Bad 0
bad_first kind s none =
    is_no _ (no_kind kind s none 1 (omega arith) (omega arith)) ∙ is_no _ (no_kind kind s none 2 (omega arith) (omega arith))
    ∙ is_no _ (no_kind kind s none 3 (omega arith) (omega arith)) ∙ is_no _ (no_kind kind s none 4 (omega arith) (omega arith))
    ∙ is_no _ (no_kind kind s none 5 (omega arith) (omega arith)) ∙ is_no _ (no_kind kind s none 6 (omega arith) (omega arith))

bad : (bytes rest : List ℕ) (place : ℕ) → IsBad bytes place → decode (bytes ++ rest) ≡ Bad place
bad bytes rest place is =
    ⊎_elim
    (λ first. ap (λ (l : List ℕ). decode (l ++ rest)) first.1 ∙ bad_first first.0 rest first.2 ∙ ap Bad (sym first.3))
    (λ chunk.
    ap (λ (l : List ℕ). decode (l ++ rest)) chunk.2
    ∙ taking_at (chunk.0 ∷ []) (to_be_bytes w32 chunk.1 ++ rest) 1 (λ slot t. taking 4 t (λ four u. chunk_by (only slot) (from_be_bytes w32 four) u)) refl
    ∙ taking_at (to_be_bytes w32 chunk.1) rest 4 (λ four u. chunk_by chunk.0 (from_be_bytes w32 four) u) refl
    ∙ ap (λ (k : ℕ). chunk_by chunk.0 k rest) (long_of chunk.1 chunk.4)
    ∙ is_no _ (lt-leb chunk.1 greatest_chunk chunk.3)
    ∙ ap Bad (sym chunk.5))
    is

-- ---- what is cut

cut_rest : (message : Message) (s more : List ℕ) → HasFields message → IsShort message ⊎ (length s < 5) → more ≢ [] → spelled message ≡ (slice_index_or (spelled message) 0 0 ∷ s) ++ more
    → decode (slice_index_or (spelled message) 0 0 ∷ s) ≡ Cut
cut_rest (Open slot name) s more fields well some is =
    let e : s ++ more ≡ (slot ∷ []) ++ (to_be_bytes w16 (length name) ++ name) = sym (ap (drop 1) is) in
    cut_at s more (slot ∷ []) (to_be_bytes w16 (length name) ++ name) 1 (λ slot t. taking 2 t (λ two u. taking (from_be_bytes w16 two) u (λ name v. Whole (Open (only slot) name) v))) e refl
    (λ t one f. cut_at t more (to_be_bytes w16 (length name)) name 2 (λ two u. taking (from_be_bytes w16 two) u (λ name v. Whole (Open slot name) v)) f refl
    (λ u two h.
    ap (λ (k : ℕ). taking k u (λ name v. Whole (Open slot name) v)) (short_of (length name) fields.2)
    ∙ cut_at u more name [] (length name) (λ name v. Whole (Open slot name) v) (h ∙ sym (append-nil name)) refl (λ v three j. none_left v more (Whole (Open slot name) v) some j)))
cut_rest (Chunk slot bytes) s more fields well some is =
    let e : s ++ more ≡ (slot ∷ []) ++ (to_be_bytes w32 (length bytes) ++ bytes) = sym (ap (drop 1) is) in
    cut_at s more (slot ∷ []) (to_be_bytes w32 (length bytes) ++ bytes) 1 (λ slot t. taking 4 t (λ four u. chunk_by (only slot) (from_be_bytes w32 four) u)) e refl
    (λ t one f. cut_at t more (to_be_bytes w32 (length bytes)) bytes 4 (λ four u. chunk_by slot (from_be_bytes w32 four) u) f refl
    (λ u two h.
    let long : length s ≡ 5 + length u = omega (arith, ap length one, ap length two, length-append (to_be_bytes w32 (length bytes)) u) in
    let short : length bytes ≤ greatest_chunk = ⊎_elim (λ yes. yes) (λ no. absurd (omega (arith, no, long))) well in
    ap (λ (k : ℕ). chunk_by slot k u) (long_of (length bytes) fields.2)
    ∙ is_yes _ (le-leb (length bytes) greatest_chunk short)
    ∙ cut_at u more bytes [] (length bytes) (λ bytes v. Whole (Chunk slot bytes) v) (h ∙ sym (append-nil bytes)) refl (λ v three j. none_left v more (Whole (Chunk slot bytes) v) some j)))
cut_rest (Close slot) s more fields well some is =
    cut_at s more (slot ∷ []) [] 1 (λ slot t. Whole (Close (only slot)) t) (sym (ap (drop 1) is)) refl (λ t one f. none_left t more (Whole (Close slot) t) some f)
cut_rest (Abort slot) s more fields well some is =
    cut_at s more (slot ∷ []) [] 1 (λ slot t. Whole (Abort (only slot)) t) (sym (ap (drop 1) is)) refl (λ t one f. none_left t more (Whole (Abort slot) t) some f)
cut_rest (Read name) s more fields well some is =
    let e : s ++ more ≡ to_be_bytes w16 (length name) ++ name = sym (ap (drop 1) is) in
    cut_at s more (to_be_bytes w16 (length name)) name 2 (λ two u. taking (from_be_bytes w16 two) u (λ name v. Whole (Read name) v)) e refl
    (λ u two h.
    ap (λ (k : ℕ). taking k u (λ name v. Whole (Read name) v)) (short_of (length name) fields.1)
    ∙ cut_at u more name [] (length name) (λ name v. Whole (Read name) v) (h ∙ sym (append-nil name)) refl (λ v three j. none_left v more (Whole (Read name) v) some j))
cut_rest (Patrol first count) s more fields well some is =
    let e : s ++ more ≡ to_be_bytes w32 first ++ to_be_bytes w32 count = sym (ap (drop 1) is) in
    cut_at s more (to_be_bytes w32 first) (to_be_bytes w32 count) 4 (λ first t. taking 4 t (λ count u. Whole (Patrol (from_be_bytes w32 first) (from_be_bytes w32 count)) u)) e refl
    (λ t one f. cut_at t more (to_be_bytes w32 count) [] 4 (λ count u. Whole (Patrol (from_be_bytes w32 (to_be_bytes w32 first)) (from_be_bytes w32 count)) u) (f ∙ sym (append-nil (to_be_bytes w32 count))) refl
    (λ u two h. none_left u more (Whole (Patrol (from_be_bytes w32 (to_be_bytes w32 first)) (from_be_bytes w32 (to_be_bytes w32 count))) u) some h))

cut_first : (x : ℕ) (s more : List ℕ) → more ≢ [] → (b : Begins (x ∷ s) more) → decode (x ∷ s) ≡ Cut
cut_first x s more some b =
    let head : slice_index_or (spelled b.message) 0 0 ≡ x = ap (λ (l : List ℕ). slice_index_or l 0 0) b.spells in
    let is : spelled b.message ≡ (slice_index_or (spelled b.message) 0 0 ∷ s) ++ more = b.spells ∙ ap (λ (k : ℕ). (k ∷ s) ++ more) (sym head) in
    ap (λ (k : ℕ). decode (k ∷ s)) (sym head) ∙ cut_rest b.message s more b.fields (⊎_elim (λ yes. inl yes) (λ few. inr (omega (arith, few))) b.well) some is

cut : (bytes : List ℕ) → IsCut bytes → decode bytes ≡ Cut
cut [] is = absurd (is.0 refl)
cut (x ∷ s) is = cut_first x s is.1.0 is.1.1 is.1.2

-- ---- the laws

message_in : Reading → Message
message_in End = Close 0
message_in (Whole message rest) = message
message_in (Bad place) = Close 0
message_in Cut = Close 0

rest_in : Reading → List ℕ
rest_in End = []
rest_in (Whole message rest) = rest
rest_in (Bad place) = []
rest_in Cut = []

place_in : Reading → ℕ
place_in End = 0
place_in (Whole message rest) = 0
place_in (Bad place) = place
place_in Cut = 0

-- a number for each kind of reading
number_of : Reading → ℕ
number_of End = 0
number_of (Whole message rest) = 1
number_of (Bad place) = 2
number_of Cut = 3

pub one-reading : MessagesHaveOneReading
unfolding message_in rest_in
one-reading m n xs ys mis nis same =
    let e : Whole m xs ≡ Whole n ys = sym (whole m xs mis) ∙ ap decode same ∙ whole n ys nis in
    (ap message_in e, ap rest_in e)

pub not-bad : MessagesAreNotBad
unfolding number_of
not-bad m xs bytes rest place is none same =
    let e : Whole m xs ≡ Bad place = sym (whole m xs is) ∙ ap decode same ∙ bad bytes rest place none in
    omega (arith, ap number_of e)

pub not-cut : MessagesAreNotCut
unfolding number_of
not-cut m xs bytes is none same =
    let e : Whole m xs ≡ Cut = sym (whole m xs is) ∙ ap decode same ∙ cut bytes none in
    omega (arith, ap number_of e)

pub bad-not-cut : BadAreNotCut
unfolding number_of
bad-not-cut bytes rest place cuts none is same =
    let e : Bad place ≡ Cut = sym (bad bytes rest place none) ∙ ap decode same ∙ cut cuts is in
    omega (arith, ap number_of e)

pub one-place : BadAtOnePlace
unfolding place_in
one-place a b xs ys p q is other same =
    let e : Bad p ≡ Bad q = sym (bad a xs p is) ∙ ap decode same ∙ bad b ys q other in
    ap place_in e

-- ---- whole streams

none_begins : (n : Message) (xs rest : List ℕ) → BeginsNone xs → IsMessage n → xs ≡ spelled n ++ rest → ⊥
none_begins n xs rest none is same =
    ⊎_elim
    (λ empty. omega (arith, ap length empty, ap length same, length-append (spelled n) rest))
    (λ some. ⊎_elim
    (λ cuts. not-cut n rest xs is cuts (sym same))
    (λ bads. not-bad n rest bads.0 bads.1 bads.2 is bads.4 (sym same ∙ bads.3))
    some)
    none

pub one-stream : StreamsHaveOneReading
one-stream [] [] xs ys mare nare xnone ynone same = (refl, same)
one-stream [] (n ∷ ns) xs ys mare nare xnone ynone same =
    absurd (none_begins n xs (spelled_all ns ++ ys) xnone nare.0 (same ∙ append_assoc (spelled n) (spelled_all ns) ys))
one-stream (m ∷ ms) [] xs ys mare nare xnone ynone same =
    absurd (none_begins m ys (spelled_all ms ++ xs) ynone mare.0 (sym same ∙ append_assoc (spelled m) (spelled_all ms) xs))
one-stream (m ∷ ms) (n ∷ ns) xs ys mare nare xnone ynone same =
    let e = one-reading m n (spelled_all ms ++ xs) (spelled_all ns ++ ys) mare.0 nare.0 (sym (append_assoc (spelled m) (spelled_all ms) xs) ∙ same ∙ append_assoc (spelled n) (spelled_all ns) ys) in
    let r = one-stream ms ns xs ys mare.1 nare.1 xnone ynone e.1 in
    ((λ i. e.0 i ∷ r.0 i), r.1)
