-- Tables of fields: what lies one after another in some bytes, and which of it is valid.
use Rattle.std.specs.Prelude.{◌≡◌, ℕ, ◌+◌, ◌≤◌, Bool, true, ◌&&◌, nat_le, if◌then◌else◌, List, [], ◌++◌, length, take, drop, Result, Ok, Err}
use Rattle.std.specs.Int.{Width, byte_len, from_be_bytes}

-- A table of fields. Part: a field of so many bytes, a test that they must pass, and the fields after it, which may depend
-- on these bytes. Late: a test of a field that lies at an earlier place and is judged only here. End: what the fields
-- say.
pub data Table (A : Type 0) : Type 0 where
  Part : ℕ → (List ℕ → Bool) → (List ℕ → Table A) → Table A
  Late : ℕ → Bool → Table A → Table A
  End : A → Table A

-- a field that is a number of this width, high byte first
abbrev pub number : {A : Type 0} → Width → (ℕ → Bool) → (ℕ → Table A) → Table A
number w test next = Part (byte_len w) (λ b. test (from_be_bytes w b)) (λ b. next (from_be_bytes w b))

-- any value is valid
abbrev pub any : {V : Type 0} → V → Bool
any v = true

-- the fields of a table, and then those of another one, which may depend on what the first say
abbrev pub and_then : {A B : Type 0} → Table A → (A → Table B) → Table B
and_then (Part n test next) more = Part n test (λ b. and_then (next b) more)
and_then (Late place good next) more = Late place good (and_then next more)
and_then (End a) more = more a

-- the bytes have the first n
abbrev pub has : List ℕ → ℕ → Bool
has bytes n = nat_le n (length bytes)

-- the bytes from this place on, so many of them
abbrev pub bytes_at : ℕ → ℕ → List ℕ → List ℕ
bytes_at n at bytes = take n (drop at bytes)

-- The text is that of the fields, all of them valid, and says this.
abbrev pub Spells : {A : Type 0} → Table A → List ℕ → A → Type 0
Spells (Part n test next) text v =
    (part : List ℕ) × (rest : List ℕ) × (text ≡ part ++ rest) × (length part ≡ n) × (test part ≡ true) × Spells (next part) rest v
Spells (Late place good next) text v = (good ≡ true) × Spells next text v
Spells (End a) text v = (text ≡ []) × (v ≡ a)

-- The fields that lie in the bytes from this place on, judged in their order: what they say, and the place after them;
-- or the place of the first that the bytes do not have whole or that is not valid.
abbrev pub judge : {A : Type 0} → Table A → ℕ → List ℕ → Result (A × ℕ) ℕ
judge (Part n test next) at bytes =
    if has bytes (at + n) && test (bytes_at n at bytes) then judge (next (bytes_at n at bytes)) (at + n) bytes else Err at
judge (Late place good next) at bytes = if good then judge next at bytes else Err place
judge (End a) at bytes = Ok (a, at)

-- No field from this place on ends past the end, whichever valid bytes are in those before it.
abbrev pub IsWithin : {A : Type 0} → Table A → ℕ → ℕ → Type 0
IsWithin (Part n test next) at end = (at + n ≤ end) × ((part : List ℕ) → test part ≡ true → IsWithin (next part) (at + n) end)
IsWithin (Late place good next) at end = IsWithin next at end
IsWithin (End a) at end = Unit {0}

-- what is judged after what was judged before: nothing where that was bad
abbrev pub judge_then : {A B : Type 0} → Result (A × ℕ) ℕ → (A → ℕ → Result (B × ℕ) ℕ) → Result (B × ℕ) ℕ
judge_then (Ok p) more = more p.0 p.1
judge_then (Err place) more = Err place
