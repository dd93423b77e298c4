-- Messages that begin, and how they can go on.
use Rattle.std.proofs.Common.{◌≡◌, ◌≢◌, inl, inr, ℕ, ◌-◌, ◌<◌, ◌≤◌, ◌^◌, List, [], ◌∷◌, ◌++◌, length, replicate, get_or, refl, sym, ◌∙◌, ap, subst, arith, length-append, append_assoc}
use Rattle.std.specs.Int.{w16, w32, from_be_bytes, to_be_bytes}
use Rattle.std.proofs.lemmas.Bool.{cases_lt}
use Rattle.std.proofs.lemmas.List.{get_or_past, length-replicate}
use Rattle.std.proofs.lemmas.List.Elements.{All-get_or, All-append, All-replicate, All-nil}
use Rattle.std.proofs.lemmas.Nat.{be_bytes_2, be_bytes_4}
use Rattle.aea_messages.specs.declared.message.Message.TheVariants.{Open, Chunk, Close, Abort, Read, Patrol}
use Rattle.aea_records.specs.TableLaws.{AreBytes}
use Rattle.aea_messages.specs.Messages.{greatest_chunk, Begins}

-- a list with an element is not empty
pub some_list : {X : Type 0} (xs : List X) → 1 ≤ length xs → xs ≢ []
some_list xs long e = omega (arith, ap length e, long)

-- a number below 256 is a byte
pub one_byte : (b : ℕ) → b < 2 ^ 8 → AreBytes (b ∷ [])
one_byte b fits k d inside = subst (λ (i : ℕ). get_or (b ∷ []) i d < 2 ^ 8) (let e : 0 ≡ k = omega (arith, inside) in e) fits

pub byte_below : (bytes : List ℕ) → AreBytes bytes → (i : ℕ) → get_or bytes i 0 < 256
byte_below bytes fits i =
    elim (cases_lt i (length bytes)) [
      | inl lt ↦ All-get_or (λ (b : ℕ). b < 2 ^ 8) bytes i 0 lt fits
      | inr le ↦ rw (get_or_past bytes i 0 le) (omega arith)
    ]

-- so many zeros
pub zeros_of : ℕ → List ℕ
zeros_of n = replicate n 0

zeros_long : (n : ℕ) → length (zeros_of n) ≡ n
unfolding zeros_of
zeros_long n = length-replicate {A = ℕ} n 0

zeros : (n : ℕ) → AreBytes (zeros_of n)
unfolding zeros_of
zeros n = All-replicate (λ (b : ℕ). b < 2 ^ 8) n 0 (omega arith)

-- bytes filled up with zeros
filled : ℕ → List ℕ → List ℕ
filled k t = t ++ zeros_of (k - length t)

filled_long : (k : ℕ) (t : List ℕ) → length t ≤ k → length (filled k t) ≡ k
unfolding filled
filled_long k t few = omega (arith, length-append t (zeros_of (k - length t)), zeros_long (k - length t), few)

filled_bytes : (k : ℕ) (t : List ℕ) → AreBytes t → AreBytes (filled k t)
unfolding filled
filled_bytes k t are = All-append (λ (b : ℕ). b < 2 ^ 8) t (zeros_of (k - length t)) are (zeros (k - length t))

filled_are : (k : ℕ) (t : List ℕ) → filled k t ≡ t ++ zeros_of (k - length t)
unfolding filled
filled_are k t = refl

-- the zeros behind them are some where there were too few
pub zeros_some : (k : ℕ) (t : List ℕ) → length t < k → zeros_of (k - length t) ≢ []
zeros_some k t few = some_list (zeros_of (k - length t)) (omega (arith, zeros_long (k - length t), few))

-- two bytes, and four, spell a number
short_is : (t : List ℕ) → AreBytes t → length t ≤ 2 → to_be_bytes w16 (from_be_bytes w16 (filled 2 t)) ≡ t ++ zeros_of (2 - length t)
short_is t are few = be_bytes_2 (filled 2 t) (from_be_bytes w16 (filled 2 t)) (filled_long 2 t few) (byte_below (filled 2 t) (filled_bytes 2 t are)) refl ∙ filled_are 2 t

short_fits : (t : List ℕ) → AreBytes t → from_be_bytes w16 (filled 2 t) < 2 ^ 16
short_fits t are = omega (arith, byte_below (filled 2 t) (filled_bytes 2 t are) 0, byte_below (filled 2 t) (filled_bytes 2 t are) 1)

long_is : (t : List ℕ) → AreBytes t → length t ≤ 4 → to_be_bytes w32 (from_be_bytes w32 (filled 4 t)) ≡ t ++ zeros_of (4 - length t)
long_is t are few = be_bytes_4 (filled 4 t) (from_be_bytes w32 (filled 4 t)) (filled_long 4 t few) (byte_below (filled 4 t) (filled_bytes 4 t are)) refl ∙ filled_are 4 t

long_fits : (t : List ℕ) → AreBytes t → from_be_bytes w32 (filled 4 t) < 2 ^ 32
long_fits t are = omega (arith, byte_below (filled 4 t) (filled_bytes 4 t are) 0, byte_below (filled 4 t) (filled_bytes 4 t are) 1, byte_below (filled 4 t) (filled_bytes 4 t are) 2, byte_below (filled 4 t) (filled_bytes 4 t are) 3)

-- a message that has begun with these bytes can go on with any k bytes
abbrev pub Goes : List ℕ → ℕ → Type 0
Goes front k = (t : List ℕ) → AreBytes t → length t ≤ k → (more : List ℕ) × (length t < k → more ≢ []) × Begins (front ++ t) more

-- ---- a slot

slot_open : (t : List ℕ) → AreBytes t → length t ≤ 1 → (more : List ℕ) × (length t < 1 → more ≢ []) × Begins (1 ∷ t) more
slot_open [] are few = (0 ∷ 0 ∷ 0 ∷ [], (λ h. some_list (0 ∷ 0 ∷ 0 ∷ []) (omega arith)), record { message = Open 0 []; fields = (omega arith, (All-nil (λ (b : ℕ). b < 2 ^ 8)), omega arith); spells = refl; well = inl tt })
slot_open (x ∷ []) are few = (0 ∷ 0 ∷ [], (λ h. some_list (0 ∷ 0 ∷ []) (omega arith)), record { message = Open x []; fields = (are 0 0 (omega arith), (All-nil (λ (b : ℕ). b < 2 ^ 8)), omega arith); spells = refl; well = inl tt })
slot_open (x ∷ y ∷ t) are few = absurd (omega (arith, few))

slot_chunk : (t : List ℕ) → AreBytes t → length t ≤ 1 → (more : List ℕ) × (length t < 1 → more ≢ []) × Begins (2 ∷ t) more
slot_chunk [] are few = (0 ∷ 0 ∷ 0 ∷ 0 ∷ 0 ∷ [], (λ h. some_list (0 ∷ 0 ∷ 0 ∷ 0 ∷ 0 ∷ []) (omega arith)), record { message = Chunk 0 []; fields = (omega arith, (All-nil (λ (b : ℕ). b < 2 ^ 8)), omega arith); spells = refl; well = inr (omega arith) })
slot_chunk (x ∷ []) are few = (0 ∷ 0 ∷ 0 ∷ 0 ∷ [], (λ h. some_list (0 ∷ 0 ∷ 0 ∷ 0 ∷ []) (omega arith)), record { message = Chunk x []; fields = (are 0 0 (omega arith), (All-nil (λ (b : ℕ). b < 2 ^ 8)), omega arith); spells = refl; well = inr (omega arith) })
slot_chunk (x ∷ y ∷ t) are few = absurd (omega (arith, few))

slot_close : (t : List ℕ) → AreBytes t → length t ≤ 1 → (more : List ℕ) × (length t < 1 → more ≢ []) × Begins (3 ∷ t) more
slot_close [] are few = (0 ∷ [], (λ h. some_list (0 ∷ []) (omega arith)), record { message = Close 0; fields = omega arith; spells = refl; well = inl tt })
slot_close (x ∷ []) are few = ([], (λ h. absurd (omega (arith, h))), record { message = Close x; fields = are 0 0 (omega arith); spells = refl; well = inl tt })
slot_close (x ∷ y ∷ t) are few = absurd (omega (arith, few))

slot_abort : (t : List ℕ) → AreBytes t → length t ≤ 1 → (more : List ℕ) × (length t < 1 → more ≢ []) × Begins (4 ∷ t) more
slot_abort [] are few = (0 ∷ [], (λ h. some_list (0 ∷ []) (omega arith)), record { message = Abort 0; fields = omega arith; spells = refl; well = inl tt })
slot_abort (x ∷ []) are few = ([], (λ h. absurd (omega (arith, h))), record { message = Abort x; fields = are 0 0 (omega arith); spells = refl; well = inl tt })
slot_abort (x ∷ y ∷ t) are few = absurd (omega (arith, few))

pub goes_open : Goes (1 ∷ []) 1
goes_open t are few = slot_open t are few

pub goes_chunk : Goes (2 ∷ []) 1
goes_chunk t are few = slot_chunk t are few

pub goes_close : Goes (3 ∷ []) 1
goes_close t are few = slot_close t are few

pub goes_abort : Goes (4 ∷ []) 1
goes_abort t are few = slot_abort t are few

-- ---- the length of a name, and the name

-- how the length of a name goes on
length_more : List ℕ → List ℕ
length_more t = zeros_of (2 - length t) ++ zeros_of (from_be_bytes w16 (filled 2 t))

length_spells : (t : List ℕ) → AreBytes t → length t ≤ 2
    → to_be_bytes w16 (length (zeros_of (from_be_bytes w16 (filled 2 t)))) ++ zeros_of (from_be_bytes w16 (filled 2 t)) ≡ t ++ length_more t
unfolding length_more
length_spells t are few =
    ap (λ (n : ℕ). to_be_bytes w16 n ++ zeros_of (from_be_bytes w16 (filled 2 t))) (zeros_long (from_be_bytes w16 (filled 2 t)))
    ∙ ap (λ (l : List ℕ). l ++ zeros_of (from_be_bytes w16 (filled 2 t))) (short_is t are few)
    ∙ append_assoc t (zeros_of (2 - length t)) (zeros_of (from_be_bytes w16 (filled 2 t)))

length_some : (t : List ℕ) → length t < 2 → length_more t ≢ []
unfolding length_more
length_some t few = some_list (zeros_of (2 - length t) ++ zeros_of (from_be_bytes w16 (filled 2 t)))
    (omega (arith, length-append (zeros_of (2 - length t)) (zeros_of (from_be_bytes w16 (filled 2 t))), zeros_long (2 - length t), few))

name_fits : (t : List ℕ) → AreBytes t → length (zeros_of (from_be_bytes w16 (filled 2 t))) < 2 ^ 16
name_fits t are = subst (λ (n : ℕ). n < 2 ^ 16) (sym (zeros_long (from_be_bytes w16 (filled 2 t)))) (short_fits t are)

pub goes_open_length : (slot : ℕ) → slot < 2 ^ 8 → Goes (1 ∷ slot ∷ []) 2
goes_open_length slot fits t are few = (
  length_more t,
  length_some t,
  record {
    message = Open slot (zeros_of (from_be_bytes w16 (filled 2 t)));
    fields = (fits, zeros (from_be_bytes w16 (filled 2 t)), name_fits t are);
    spells = ap (λ (l : List ℕ). 1 ∷ slot ∷ l) (length_spells t are few);
    well = inl tt;
  },
)

pub goes_read_length : Goes (5 ∷ []) 2
goes_read_length t are few = (
  length_more t,
  length_some t,
  record {
    message = Read (zeros_of (from_be_bytes w16 (filled 2 t)));
    fields = (zeros (from_be_bytes w16 (filled 2 t)), name_fits t are);
    spells = ap (λ (l : List ℕ). 5 ∷ l) (length_spells t are few);
    well = inl tt;
  },
)

-- the bytes behind a length
behind : (spell : ℕ → List ℕ) (long : ℕ) (t : List ℕ) → length t ≤ long → spell (length (filled long t)) ++ filled long t ≡ (spell long ++ t) ++ zeros_of (long - length t)
behind spell long t few =
    ap (λ (n : ℕ). spell n ++ filled long t) (filled_long long t few)
    ∙ ap (λ (l : List ℕ). spell long ++ l) (filled_are long t)
    ∙ sym (append_assoc (spell long) t (zeros_of (long - length t)))

filled_fits : (long most : ℕ) (t : List ℕ) → length t ≤ long → long < most → length (filled long t) < most
filled_fits long most t few fits = subst (λ (n : ℕ). n < most) (sym (filled_long long t few)) fits

pub goes_open_name : (slot long : ℕ) → slot < 2 ^ 8 → long < 2 ^ 16 → Goes (1 ∷ slot ∷ to_be_bytes w16 long) long
goes_open_name slot long fits most t are few = (
  zeros_of (long - length t),
  zeros_some long t,
  record {
    message = Open slot (filled long t);
    fields = (fits, filled_bytes long t are, filled_fits long (2 ^ 16) t few most);
    spells = ap (λ (l : List ℕ). 1 ∷ slot ∷ l) (behind (to_be_bytes w16) long t few);
    well = inl tt;
  },
)

pub goes_read_name : (long : ℕ) → long < 2 ^ 16 → Goes (5 ∷ to_be_bytes w16 long) long
goes_read_name long most t are few = (
  zeros_of (long - length t),
  zeros_some long t,
  record {
    message = Read (filled long t);
    fields = (filled_bytes long t are, filled_fits long (2 ^ 16) t few most);
    spells = ap (λ (l : List ℕ). 5 ∷ l) (behind (to_be_bytes w16) long t few);
    well = inl tt;
  },
)

-- ---- a chunk

chunk_more : List ℕ → List ℕ
chunk_more t = zeros_of (4 - length t) ++ zeros_of (from_be_bytes w32 (filled 4 t))

chunk_spells : (t : List ℕ) → AreBytes t → length t ≤ 4
    → to_be_bytes w32 (length (zeros_of (from_be_bytes w32 (filled 4 t)))) ++ zeros_of (from_be_bytes w32 (filled 4 t)) ≡ t ++ chunk_more t
unfolding chunk_more
chunk_spells t are few =
    ap (λ (n : ℕ). to_be_bytes w32 n ++ zeros_of (from_be_bytes w32 (filled 4 t))) (zeros_long (from_be_bytes w32 (filled 4 t)))
    ∙ ap (λ (l : List ℕ). l ++ zeros_of (from_be_bytes w32 (filled 4 t))) (long_is t are few)
    ∙ append_assoc t (zeros_of (4 - length t)) (zeros_of (from_be_bytes w32 (filled 4 t)))

chunk_some : (t : List ℕ) → length t < 4 → chunk_more t ≢ []
unfolding chunk_more
chunk_some t few = some_list (zeros_of (4 - length t) ++ zeros_of (from_be_bytes w32 (filled 4 t)))
    (omega (arith, length-append (zeros_of (4 - length t)) (zeros_of (from_be_bytes w32 (filled 4 t))), zeros_long (4 - length t), few))

-- Where less than the length of a chunk was taken it may be any; so this says nothing of four whole bytes.
pub goes_chunk_length : (slot : ℕ) → slot < 2 ^ 8 → (t : List ℕ) → AreBytes t → length t < 4 → (more : List ℕ) × (more ≢ []) × Begins ((2 ∷ slot ∷ []) ++ t) more
goes_chunk_length slot fits t are few = (
  chunk_more t,
  chunk_some t few,
  record {
    message = Chunk slot (zeros_of (from_be_bytes w32 (filled 4 t)));
    fields = (fits, zeros (from_be_bytes w32 (filled 4 t)), subst (λ (n : ℕ). n < 2 ^ 32) (sym (zeros_long (from_be_bytes w32 (filled 4 t)))) (long_fits t are));
    spells = ap (λ (l : List ℕ). 2 ∷ slot ∷ l) (chunk_spells t are (omega (arith, few)));
    well = inr (omega (arith, few));
  },
)

pub goes_chunk_bytes : (slot long : ℕ) → slot < 2 ^ 8 → long ≤ greatest_chunk → Goes (2 ∷ slot ∷ to_be_bytes w32 long) long
goes_chunk_bytes slot long fits most t are few = (
  zeros_of (long - length t),
  zeros_some long t,
  record {
    message = Chunk slot (filled long t);
    fields = (fits, filled_bytes long t are, filled_fits long (2 ^ 32) t few (omega (arith, most)));
    spells = ap (λ (l : List ℕ). 2 ∷ slot ∷ l) (behind (to_be_bytes w32) long t few);
    well = inl (subst (λ (n : ℕ). n ≤ greatest_chunk) (sym (filled_long long t few)) most);
  },
)

-- ---- a range

range_more : List ℕ → List ℕ
range_more t = zeros_of (4 - length t) ++ 0 ∷ 0 ∷ 0 ∷ 0 ∷ []

range_spells : (t : List ℕ) → AreBytes t → length t ≤ 4 → to_be_bytes w32 (from_be_bytes w32 (filled 4 t)) ++ to_be_bytes w32 0 ≡ t ++ range_more t
unfolding range_more
range_spells t are few = ap (λ (l : List ℕ). l ++ to_be_bytes w32 0) (long_is t are few) ∙ append_assoc t (zeros_of (4 - length t)) (to_be_bytes w32 0)

range_some : (t : List ℕ) → range_more t ≢ []
unfolding range_more
range_some t = some_list (zeros_of (4 - length t) ++ 0 ∷ 0 ∷ 0 ∷ 0 ∷ []) (omega (arith, length-append (zeros_of (4 - length t)) (0 ∷ 0 ∷ 0 ∷ 0 ∷ [])))

pub goes_patrol_first : Goes (6 ∷ []) 4
goes_patrol_first t are few = (
  range_more t,
  (λ h. range_some t),
  record {
    message = Patrol (from_be_bytes w32 (filled 4 t)) 0;
    fields = (long_fits t are, omega arith);
    spells = ap (λ (l : List ℕ). 6 ∷ l) (range_spells t are few);
    well = inl tt;
  },
)

pub goes_patrol_count : (first : ℕ) → first < 2 ^ 32 → Goes (6 ∷ to_be_bytes w32 first) 4
goes_patrol_count first fits t are few = (
  zeros_of (4 - length t),
  zeros_some 4 t,
  record {
    message = Patrol first (from_be_bytes w32 (filled 4 t));
    fields = (fits, long_fits t are);
    spells = ap (λ (l : List ℕ). 6 ∷ (to_be_bytes w32 first ++ l)) (long_is t are few) ∙ ap (λ (l : List ℕ). 6 ∷ l) (sym (append_assoc (to_be_bytes w32 first) t (zeros_of (4 - length t))));
    well = inl tt;
  },
)
