-- Each stream begins with a message, or begins none.
use Rattle.std.proofs.Common.{◌≡◌, ◌⊎◌, inl, inr, ℕ, zero, suc, ◌<◌, ◌≤◌, ◌^◌, List, [], ◌∷◌, ◌++◌, length, take, drop, refl, sym, ◌∙◌, ap, subst, arith, length-append, append_assoc}
use Rattle.std.specs.Int.{w16, w32, from_be_bytes, to_be_bytes}
use Rattle.std.proofs.lemmas.Bool.{cases_lt}
use Rattle.std.proofs.lemmas.List.{drop_at, take-append-drop, length-take-le}
use Rattle.std.proofs.lemmas.List.Elements.{All-take, All-drop, All-tail, All-nil}
use Rattle.std.proofs.lemmas.Nat.{be_bytes_2, be_bytes_4}
use Rattle.aea_records.specs.TableLaws.{AreBytes}
use Rattle.aea_messages.specs.declared.message.Message.{Message}
use Rattle.aea_messages.specs.declared.message.Message.TheVariants.{Open, Chunk, Close, Abort, Read, Patrol}
use Rattle.aea_messages.specs.Messages.{greatest_chunk, spelled, spelled_all, AreMessages}
use Rattle.aea_messages.specs.Readings.{BeginsNone, BeginsOne, EachStreamBegins, EachStreamIsRead}
use Rattle.aea_messages.proofs.Parts.{Goes, some_list, byte_below, goes_open, goes_chunk, goes_close, goes_abort, goes_open_length, goes_read_length, goes_open_name, goes_read_name, goes_chunk_length, goes_chunk_bytes, goes_patrol_first, goes_patrol_count}

-- it begins with a message, or begins none
abbrev Starts : List ℕ → Type 0
Starts stream = BeginsOne stream ⊎ BeginsNone stream

-- ---- fields

-- The first k bytes of a list, and those behind them.
record Splits (k : ℕ) (s : List ℕ) : Type 0 where
  front : List ℕ
  rest : List ℕ
  is : s ≡ front ++ rest
  long : length front ≡ k
  fronts : AreBytes front
  rests : AreBytes rest

splits : (k : ℕ) (s : List ℕ) → AreBytes s → k ≤ length s → Splits k s
splits k s are long = record {
  front = take k s;
  rest = drop k s;
  is = sym (take-append-drop k s);
  long = length-take-le k s long;
  fronts = All-take (λ (b : ℕ). b < 2 ^ 8) k s are;
  rests = All-drop (λ (b : ℕ). b < 2 ^ 8) k s are;
}

-- it is cut where it has too few bytes of a field
cut_start : (x : ℕ) (front s : List ℕ) (k : ℕ) → Goes (x ∷ front) k → AreBytes s → length s < k → Starts ((x ∷ front) ++ s)
cut_start x front s k goes are short =
    let g = goes s are (omega (arith, short)) in
    inr (inr (inl (some_list ((x ∷ front) ++ s) (omega (arith, length-append (x ∷ front) s)), (g.0, g.1 short, g.2))))

none : AreBytes []
none = All-nil (λ (b : ℕ). b < 2 ^ 8)

behind : (x : ℕ) (s : List ℕ) → AreBytes (x ∷ s) → AreBytes s
behind x s are = All-tail (λ (b : ℕ). b < 2 ^ 8) x s are

-- the number that two bytes spell, or four
two_spell : (f : List ℕ) → AreBytes f → length f ≡ 2 → to_be_bytes w16 (from_be_bytes w16 f) ≡ f
two_spell f are long = be_bytes_2 f (from_be_bytes w16 f) long (byte_below f are) refl

two_fit : (f : List ℕ) → AreBytes f → from_be_bytes w16 f < 2 ^ 16
two_fit f are = omega (arith, byte_below f are 0, byte_below f are 1)

four_spell : (f : List ℕ) → AreBytes f → length f ≡ 4 → to_be_bytes w32 (from_be_bytes w32 f) ≡ f
four_spell f are long = be_bytes_4 f (from_be_bytes w32 f) long (byte_below f are) refl

four_fit : (f : List ℕ) → AreBytes f → from_be_bytes w32 f < 2 ^ 32
four_fit f are = omega (arith, byte_below f are 0, byte_below f are 1, byte_below f are 2, byte_below f are 3)

-- ---- an open

open_name : (slot long : ℕ) (s : List ℕ) → slot < 2 ^ 8 → long < 2 ^ 16 → AreBytes s → Starts ((1 ∷ slot ∷ to_be_bytes w16 long) ++ s)
open_name slot long s fits most are =
    elim (cases_lt (length s) long) [
      | inl short ↦ cut_start 1 (slot ∷ to_be_bytes w16 long) s long (goes_open_name slot long fits most) are short
      | inr full ↦
          let f = splits long s are full in
          inl (
            Open slot f.front,
            f.rest,
            record { fields = (fits, f.fronts, subst (λ (n : ℕ). n < 2 ^ 16) (sym f.long) most); short = tt },
            ap (λ (l : List ℕ). (1 ∷ slot ∷ to_be_bytes w16 long) ++ l) f.is
                ∙ ap (λ (n : ℕ). 1 ∷ slot ∷ to_be_bytes w16 n ++ (f.front ++ f.rest)) (sym f.long)
                ∙ ap (λ (l : List ℕ). 1 ∷ slot ∷ l) (sym (append_assoc (to_be_bytes w16 (length f.front)) f.front f.rest)),
          )
    ]

open_length : (slot : ℕ) (s : List ℕ) → slot < 2 ^ 8 → AreBytes s → Starts ((1 ∷ slot ∷ []) ++ s)
open_length slot s fits are =
    elim (cases_lt (length s) 2) [
      | inl short ↦ cut_start 1 (slot ∷ []) s 2 (goes_open_length slot fits) are short
      | inr full ↦
          let f = splits 2 s are full in
          subst Starts (ap (λ (l : List ℕ). (1 ∷ slot ∷ l) ++ f.rest) (two_spell f.front f.fronts f.long) ∙ ap (λ (l : List ℕ). 1 ∷ slot ∷ l) (sym f.is))
          (open_name slot (from_be_bytes w16 f.front) f.rest fits (two_fit f.front f.fronts) f.rests)
    ]

open_starts : (s : List ℕ) → AreBytes s → Starts (1 ∷ s)
open_starts [] are = cut_start 1 [] [] 1 goes_open none (omega arith)
open_starts (slot ∷ s) are = open_length slot s (are 0 0 (omega arith)) (behind slot s are)

-- ---- a chunk

chunk_long : (slot long : ℕ) (s : List ℕ) → greatest_chunk < long → long < 2 ^ 32 → Starts ((2 ∷ slot ∷ to_be_bytes w32 long) ++ s)
chunk_long slot long s many fits = inr (inr (inr (2 ∷ slot ∷ to_be_bytes w32 long, s, 2, refl, inr (slot, long, refl, many, fits, refl))))

chunk_bytes : (slot long : ℕ) (s : List ℕ) → slot < 2 ^ 8 → long ≤ greatest_chunk → AreBytes s → Starts ((2 ∷ slot ∷ to_be_bytes w32 long) ++ s)
chunk_bytes slot long s fits most are =
    elim (cases_lt (length s) long) [
      | inl short ↦ cut_start 2 (slot ∷ to_be_bytes w32 long) s long (goes_chunk_bytes slot long fits most) are short
      | inr full ↦
          let f = splits long s are full in
          inl (
            Chunk slot f.front,
            f.rest,
            record { fields = (fits, f.fronts, (let e : length f.front < 2 ^ 32 = omega (arith, f.long, most) in e)); short = subst (λ (n : ℕ). n ≤ greatest_chunk) (sym f.long) most },
            ap (λ (l : List ℕ). (2 ∷ slot ∷ to_be_bytes w32 long) ++ l) f.is
                ∙ ap (λ (n : ℕ). 2 ∷ slot ∷ to_be_bytes w32 n ++ (f.front ++ f.rest)) (sym f.long)
                ∙ ap (λ (l : List ℕ). 2 ∷ slot ∷ l) (sym (append_assoc (to_be_bytes w32 (length f.front)) f.front f.rest)),
          )
    ]

chunk_by : (slot long : ℕ) (s : List ℕ) → slot < 2 ^ 8 → long < 2 ^ 32 → AreBytes s → Starts ((2 ∷ slot ∷ to_be_bytes w32 long) ++ s)
chunk_by slot long s fits most are =
    elim (cases_lt greatest_chunk long) [
      | inl many ↦ chunk_long slot long s many most
      | inr few ↦ chunk_bytes slot long s fits few are
    ]

chunk_length : (slot : ℕ) (s : List ℕ) → slot < 2 ^ 8 → AreBytes s → Starts ((2 ∷ slot ∷ []) ++ s)
chunk_length slot s fits are =
    elim (cases_lt (length s) 4) [
      | inl short ↦
          inr (inr (inl (some_list ((2 ∷ slot ∷ []) ++ s) (omega (arith, length-append (2 ∷ slot ∷ []) s)), goes_chunk_length slot fits s are short)))
      | inr full ↦
          let f = splits 4 s are full in
          subst Starts (ap (λ (l : List ℕ). (2 ∷ slot ∷ l) ++ f.rest) (four_spell f.front f.fronts f.long) ∙ ap (λ (l : List ℕ). 2 ∷ slot ∷ l) (sym f.is))
          (chunk_by slot (from_be_bytes w32 f.front) f.rest fits (four_fit f.front f.fronts) f.rests)
    ]

chunk_starts : (s : List ℕ) → AreBytes s → Starts (2 ∷ s)
chunk_starts [] are = cut_start 2 [] [] 1 goes_chunk none (omega arith)
chunk_starts (slot ∷ s) are = chunk_length slot s (are 0 0 (omega arith)) (behind slot s are)

-- ---- a close, an abort

close_starts : (s : List ℕ) → AreBytes s → Starts (3 ∷ s)
close_starts [] are = cut_start 3 [] [] 1 goes_close none (omega arith)
close_starts (slot ∷ s) are = inl (Close slot, s, record { fields = are 0 0 (omega arith); short = tt }, refl)

abort_starts : (s : List ℕ) → AreBytes s → Starts (4 ∷ s)
abort_starts [] are = cut_start 4 [] [] 1 goes_abort none (omega arith)
abort_starts (slot ∷ s) are = inl (Abort slot, s, record { fields = are 0 0 (omega arith); short = tt }, refl)

-- ---- a read

read_name : (long : ℕ) (s : List ℕ) → long < 2 ^ 16 → AreBytes s → Starts ((5 ∷ to_be_bytes w16 long) ++ s)
read_name long s most are =
    elim (cases_lt (length s) long) [
      | inl short ↦ cut_start 5 (to_be_bytes w16 long) s long (goes_read_name long most) are short
      | inr full ↦
          let f = splits long s are full in
          inl (
            Read f.front,
            f.rest,
            record { fields = (f.fronts, subst (λ (n : ℕ). n < 2 ^ 16) (sym f.long) most); short = tt },
            ap (λ (l : List ℕ). (5 ∷ to_be_bytes w16 long) ++ l) f.is
                ∙ ap (λ (n : ℕ). 5 ∷ to_be_bytes w16 n ++ (f.front ++ f.rest)) (sym f.long)
                ∙ ap (λ (l : List ℕ). 5 ∷ l) (sym (append_assoc (to_be_bytes w16 (length f.front)) f.front f.rest)),
          )
    ]

read_starts : (s : List ℕ) → AreBytes s → Starts (5 ∷ s)
read_starts s are =
    elim (cases_lt (length s) 2) [
      | inl short ↦ cut_start 5 [] s 2 goes_read_length are short
      | inr full ↦
          let f = splits 2 s are full in
          subst Starts (ap (λ (l : List ℕ). (5 ∷ l) ++ f.rest) (two_spell f.front f.fronts f.long) ∙ ap (λ (l : List ℕ). 5 ∷ l) (sym f.is))
          (read_name (from_be_bytes w16 f.front) f.rest (two_fit f.front f.fronts) f.rests)
    ]

-- ---- a patrol

patrol_of : (first count : ℕ) (s : List ℕ) → first < 2 ^ 32 → count < 2 ^ 32 → Starts ((6 ∷ to_be_bytes w32 first) ++ (to_be_bytes w32 count ++ s))
patrol_of first count s fits more =
    inl (Patrol first count, s, record { fields = (fits, more); short = tt }, ap (λ (l : List ℕ). 6 ∷ l) (sym (append_assoc (to_be_bytes w32 first) (to_be_bytes w32 count) s)))

patrol_count : (first : ℕ) (s : List ℕ) → first < 2 ^ 32 → AreBytes s → Starts ((6 ∷ to_be_bytes w32 first) ++ s)
patrol_count first s fits are =
    elim (cases_lt (length s) 4) [
      | inl short ↦ cut_start 6 (to_be_bytes w32 first) s 4 (goes_patrol_count first fits) are short
      | inr full ↦
          let f = splits 4 s are full in
          subst (λ (l : List ℕ). Starts ((6 ∷ to_be_bytes w32 first) ++ l)) (ap (λ (l : List ℕ). l ++ f.rest) (four_spell f.front f.fronts f.long) ∙ sym f.is)
          (patrol_of first (from_be_bytes w32 f.front) f.rest fits (four_fit f.front f.fronts))
    ]

patrol_starts : (s : List ℕ) → AreBytes s → Starts (6 ∷ s)
patrol_starts s are =
    elim (cases_lt (length s) 4) [
      | inl short ↦ cut_start 6 [] s 4 goes_patrol_first are short
      | inr full ↦
          let f = splits 4 s are full in
          subst Starts (ap (λ (l : List ℕ). (6 ∷ l) ++ f.rest) (four_spell f.front f.fronts f.long) ∙ ap (λ (l : List ℕ). 6 ∷ l) (sym f.is))
          (patrol_count (from_be_bytes w32 f.front) f.rest (four_fit f.front f.fronts) f.rests)
    ]

-- ---- whichever byte is first

no_kind_starts : (kind : ℕ) (s : List ℕ) → (kind ≡ 0) ⊎ (6 < kind) → Starts (kind ∷ s)
no_kind_starts kind s is = inr (inr (inr (kind ∷ [], s, 0, refl, inl (kind, refl, is, refl))))

kind_starts : (kind : ℕ) (s : List ℕ) → AreBytes s → Starts (kind ∷ s)
kind_starts zero s are = no_kind_starts 0 s (inl refl)
kind_starts (suc zero) s are = open_starts s are
kind_starts (suc (suc zero)) s are = chunk_starts s are
kind_starts (suc (suc (suc zero))) s are = close_starts s are
kind_starts (suc (suc (suc (suc zero)))) s are = abort_starts s are
kind_starts (suc (suc (suc (suc (suc zero))))) s are = read_starts s are
kind_starts (suc (suc (suc (suc (suc (suc zero)))))) s are = patrol_starts s are
kind_starts (suc (suc (suc (suc (suc (suc (suc k))))))) s are = no_kind_starts (suc (suc (suc (suc (suc (suc (suc k))))))) s (inr (omega arith))

pub each-begins : EachStreamBegins
each-begins [] are = inr (inl refl)
each-begins (kind ∷ s) are = kind_starts kind s (behind kind s are)

-- ---- whole streams

no_list : (xs : List ℕ) → length xs ≤ 0 → xs ≡ []
no_list [] few = refl
no_list (x ∷ xs) few = absurd (omega (arith, few))

-- A stream of at most so many bytes is messages and a tail.
read_by : (most : ℕ) (stream : List ℕ) → length stream ≤ most → AreBytes stream
    → (messages : List Message) × (tail : List ℕ) × AreMessages messages × BeginsNone tail × (stream ≡ spelled_all messages ++ tail)
read_by zero stream few are = ([], stream, tt, inl (no_list stream few), refl)
read_by (suc most) stream few are =
    elim (each-begins stream are) [
      | inl one ↦
          let shorter : length one.1 ≤ most = omega (arith, few, ap length one.3, length-append (spelled one.0) one.1) in
          let rests : AreBytes one.1 = subst AreBytes (ap (drop (length (spelled one.0))) one.3 ∙ drop_at (spelled one.0) one.1 (length (spelled one.0)) refl) (All-drop (λ (b : ℕ). b < 2 ^ 8) (length (spelled one.0)) stream are) in
          let r = read_by most one.1 shorter rests in (
            one.0 ∷ r.0,
            r.1,
            (one.2, r.2),
            r.3,
            one.3 ∙ ap (λ (l : List ℕ). spelled one.0 ++ l) r.4 ∙ sym (append_assoc (spelled one.0) (spelled_all r.0) r.1),
          )
      | inr none ↦ ([], stream, tt, none, refl)
    ]

pub each-read : EachStreamIsRead
each-read stream are = read_by (length stream) stream (omega arith) are
