-- One field judged after another.
use Rattle.std.proofs.Common.{◌≡◌, ℕ, ◌+◌, ◌<◌, ◌≤◌, Bool, true, false, ◌&&◌, ◌==◌, List, [], ◌∷◌, length, take, Ok, Err, refl, sym, ap, ◌∙◌, arith, inl, inr}
use Rattle.std.specs.Prelude.{if◌then◌else◌, nat_le, slice_index}
use Rattle.std.specs.Int.{w8, w16, w32, w64, from_be_bytes}
use Rattle.std.proofs.lemmas.Bool.{cases_lt, le-leb}
use Rattle.std.proofs.lemmas.Bool.Decides.{nat_tests}
use Rattle.std.proofs.lemmas.List.{drop_more}
use Rattle.aea_lattice.specs.declared.shape.Shape.{Shape}
use Rattle.aea_records.specs.Tables.{Table, Part, End, number, any, judge, has, bytes_at}
use Rattle.aea_records.specs.Format.{Stored, raised_limit, nodes_for}
use Rattle.aea_records.specs.Known.{Known}
use Rattle.aea_records.specs.Fields.{Head, ObjectHead, JoinedHead, is_kind, is_within, object_fields, joined_fields, kind_fields, head_fields, is_length, is_new_name, is_next_node, stored_with, front_fields}

-- a byte is the number that it spells
one_at : (w : List ℕ) (at : ℕ) → at + 1 ≤ length w → slice_index w at ≡ from_be_bytes w8 (bytes_at 1 at w)
one_at w at there = one (slice_index w at) ∙ ap (λ (l : List ℕ). from_be_bytes w8 (take 1 l)) (sym (drop_more w at 0 (omega (arith, there))))
  where
    one : (x : ℕ) → x ≡ from_be_bytes w8 (x ∷ [])
    one x = omega arith

-- a number is not at most a lesser one
pub lt-leb : (a b : ℕ) → b < a → nat_le a b ≡ false
lt-leb a b lt = grind (arith, nat_tests)

chosen : {X : Type 0} (a b : Bool) (x y : X) → a ≡ true → b ≡ true → (if a && b then x else y) ≡ x
chosen true true x y p q = refl
chosen true false x y p q = absurd (let f : false ≡ true = q in cc)
chosen false b x y p q = absurd (let f : false ≡ true = p in cc)

missed : {X : Type 0} (a b : Bool) (x y : X) → a ≡ false → (if a && b then x else y) ≡ y
missed false b x y p = refl
missed true b x y p = absurd (let f : true ≡ false = p in cc)

failed : {X : Type 0} (a b : Bool) (x y : X) → b ≡ false → (if a && b then x else y) ≡ y
failed true false x y q = refl
failed false false x y q = refl
failed a true x y q = absurd (let f : true ≡ false = q in cc)

-- a field that is there and valid
pub passes : {A : Type 0} (n : ℕ) (test : List ℕ → Bool) (next : List ℕ → Table A) (at : ℕ) (bytes : List ℕ) → has bytes (at + n) ≡ true → test (bytes_at n at bytes) ≡ true
    → judge (Part n test next) at bytes ≡ judge (next (bytes_at n at bytes)) (at + n) bytes
passes n test next at bytes there good = chosen (has bytes (at + n)) (test (bytes_at n at bytes)) _ _ there good

-- one that is not there
pub is_missing : {A : Type 0} (n : ℕ) (test : List ℕ → Bool) (next : List ℕ → Table A) (at : ℕ) (bytes : List ℕ) → has bytes (at + n) ≡ false → judge (Part n test next) at bytes ≡ Err at
is_missing n test next at bytes none = missed (has bytes (at + n)) (test (bytes_at n at bytes)) _ _ none

-- one that is not valid
pub is_invalid : {A : Type 0} (n : ℕ) (test : List ℕ → Bool) (next : List ℕ → Table A) (at : ℕ) (bytes : List ℕ) → test (bytes_at n at bytes) ≡ false → judge (Part n test next) at bytes ≡ Err at
is_invalid n test next at bytes bad = failed (has bytes (at + n)) (test (bytes_at n at bytes)) _ _ bad

-- a number of 4 bytes that is there and valid, one that is not there, and one that is not valid
pub to_number32 : {A : Type 0} (test : ℕ → Bool) (next : ℕ → Table A) (at n : ℕ) (w : List ℕ) → has w (at + 4) ≡ true → n ≡ from_be_bytes w32 (bytes_at 4 at w) → test n ≡ true
    → judge (number w32 test next) at w ≡ judge (next n) (at + 4) w
to_number32 test next at n w there is good =
    passes 4 (λ b. test (from_be_bytes w32 b)) (λ b. next (from_be_bytes w32 b)) at w there (ap test (sym is) ∙ good) ∙ ap (λ (k : ℕ). judge (next k) (at + 4) w) (sym is)

pub no_number32 : {A : Type 0} (test : ℕ → Bool) (next : ℕ → Table A) (at : ℕ) (w : List ℕ) → has w (at + 4) ≡ false → judge (number w32 test next) at w ≡ Err at
no_number32 test next at w none = is_missing 4 (λ b. test (from_be_bytes w32 b)) (λ b. next (from_be_bytes w32 b)) at w none

pub bad_number32 : {A : Type 0} (test : ℕ → Bool) (next : ℕ → Table A) (at n : ℕ) (w : List ℕ) → n ≡ from_be_bytes w32 (bytes_at 4 at w) → test n ≡ false
    → judge (number w32 test next) at w ≡ Err at
bad_number32 test next at n w is bad = is_invalid 4 (λ b. test (from_be_bytes w32 b)) (λ b. next (from_be_bytes w32 b)) at w (ap test (sym is) ∙ bad)

-- the kind
pub to_kind : {A : Type 0} (test : ℕ → Bool) (next : ℕ → Table A) (kind : ℕ) (w : List ℕ) → 2 ≤ length w → kind ≡ slice_index w 1 → test kind ≡ true
    → judge (number w8 test next) 1 w ≡ judge (next kind) 2 w
to_kind test next kind w there is good =
    passes 1 (λ b. test (from_be_bytes w8 b)) (λ b. next (from_be_bytes w8 b)) 1 w (le-leb 2 (length w) there) (ap test (sym (is ∙ one_at w 1 there)) ∙ good)
    ∙ ap (λ (k : ℕ). judge (next k) 2 w) (sym (is ∙ one_at w 1 there))

pub no_kind : {A : Type 0} (test : ℕ → Bool) (next : ℕ → Table A) (w : List ℕ) → (2 ≤ length w → test (slice_index w 1) ≡ false) → judge (number w8 test next) 1 w ≡ Err 1
no_kind test next w bad =
    elim (cases_lt (length w) 2) [
      | inl short ↦ is_missing 1 (λ b. test (from_be_bytes w8 b)) (λ b. next (from_be_bytes w8 b)) 1 w (lt-leb 2 (length w) short)
      | inr there ↦ is_invalid 1 (λ b. test (from_be_bytes w8 b)) (λ b. next (from_be_bytes w8 b)) 1 w (ap test (sym (one_at w 1 there)) ∙ bad there)
    ]

-- ---- the first fields of an object, one after another

abbrev pub first_part : Known → (Stored → Table (ℕ × Head)) → List ℕ → ℕ → List ℕ → Table (ℕ × Head)
first_part known next name size digest = number w32 (is_next_node known) (λ first. next (stored_with name size digest first))

abbrev pub digest_part : Known → (Stored → Table (ℕ × Head)) → List ℕ → ℕ → Table (ℕ × Head)
digest_part known next name size = Part 32 any (λ digest. first_part known next name size digest)

abbrev pub size_part : Known → (Stored → Table (ℕ × Head)) → List ℕ → Table (ℕ × Head)
size_part known next name = number w64 any (λ size. digest_part known next name size)

abbrev pub name_part : Known → (Stored → Table (ℕ × Head)) → ℕ → Table (ℕ × Head)
name_part known next long = Part long (is_new_name known) (λ name. size_part known next name)

pub to_name : (known : Known) (next : Stored → Table (ℕ × Head)) (w : List ℕ) (long : ℕ) → has w 8 ≡ true → long ≡ from_be_bytes w16 (bytes_at 2 6 w) → is_length long ≡ true
    → judge (front_fields known next) 6 w ≡ judge (name_part known next long) 8 w
to_name known next w long there is good =
    passes 2 (λ b. is_length (from_be_bytes w16 b)) (λ b. name_part known next (from_be_bytes w16 b)) 6 w there (ap is_length (sym is) ∙ good)
    ∙ ap (λ (n : ℕ). judge (name_part known next n) 8 w) (sym is)

-- where the length of the name and the name are there and valid, what is judged from the first of an object's
-- fields on is what is judged from the object's length on
pub to_size : (known : Known) (next : Stored → Table (ℕ × Head)) (w : List ℕ) (long : ℕ) → has w 8 ≡ true → long ≡ from_be_bytes w16 (bytes_at 2 6 w) → is_length long ≡ true
    → has w (8 + long) ≡ true → is_new_name known (bytes_at long 8 w) ≡ true
    → judge (front_fields known next) 6 w ≡ judge (size_part known next (bytes_at long 8 w)) (8 + long) w
to_size known next w long there is good name_there new =
    to_name known next w long there is good ∙ passes long (is_new_name known) (λ name. size_part known next name) 8 w name_there new

-- where the object's length is there, what is judged from it on is what is judged from its digest on
pub to_digest : (known : Known) (next : Stored → Table (ℕ × Head)) (name : List ℕ) (w : List ℕ) (at size : ℕ) → has w (at + 8) ≡ true → size ≡ from_be_bytes w64 (bytes_at 8 at w)
    → judge (size_part known next name) at w ≡ judge (digest_part known next name size) (at + 8) w
to_digest known next name w at size there is =
    passes 8 (λ b. any (from_be_bytes w64 b)) (λ b. digest_part known next name (from_be_bytes w64 b)) at w there refl
    ∙ ap (λ (n : ℕ). judge (digest_part known next name n) (at + 8) w) (sym is)

-- where its digest is there, what is judged from it on is what is judged from its first new node on
pub to_first : (known : Known) (next : Stored → Table (ℕ × Head)) (name : List ℕ) (size : ℕ) (w : List ℕ) (at : ℕ) (digest : List ℕ) → has w (at + 32) ≡ true → digest ≡ bytes_at 32 at w
    → judge (digest_part known next name size) at w ≡ judge (first_part known next name size digest) (at + 32) w
to_first known next name size w at digest there is =
    passes 32 any (λ d. first_part known next name size d) at w there refl ∙ ap (λ (d : List ℕ). judge (first_part known next name size d) (at + 32) w) (sym is)

-- where its first new node is there and valid, what is judged from it on is what is judged of the fields after it
pub to_next : (known : Known) (next : Stored → Table (ℕ × Head)) (name : List ℕ) (size : ℕ) (digest : List ℕ) (w : List ℕ) (at first : ℕ) → has w (at + 4) ≡ true
    → first ≡ from_be_bytes w32 (bytes_at 4 at w) → is_next_node known first ≡ true
    → judge (first_part known next name size digest) at w ≡ judge (next (stored_with name size digest first)) (at + 4) w
to_next known next name size digest w at first there is good =
    passes 4 (λ b. is_next_node known (from_be_bytes w32 b)) (λ b. next (stored_with name size digest (from_be_bytes w32 b))) at w there (ap (is_next_node known) (sym is) ∙ good)
    ∙ ap (λ (n : ℕ). judge (next (stored_with name size digest n)) (at + 4) w) (sym is)

-- a field whose test fails
pub bad_name : (known : Known) (next : Stored → Table (ℕ × Head)) (w : List ℕ) (long : ℕ) → has w 8 ≡ true → long ≡ from_be_bytes w16 (bytes_at 2 6 w) → is_length long ≡ true
    → (has w (8 + long) && is_new_name known (bytes_at long 8 w)) ≡ false → judge (front_fields known next) 6 w ≡ Err 8
bad_name known next w long there is good bad =
    to_name known next w long there is good
    ∙ ap (λ (b : Bool). if b then judge (size_part known next (bytes_at long 8 w)) (8 + long) w else Err 8) bad

-- two tests do not both hold where the second fails
pub none_of : (a b : Bool) → b ≡ false → (a && b) ≡ false
none_of true false e = refl
none_of false b e = refl
none_of true true e = absurd (let f : true ≡ false = e in cc)

pub first_none : (a b : Bool) → a ≡ false → (a && b) ≡ false
first_none false b e = refl
first_none true b e = absurd (let f : true ≡ false = e in cc)

-- where the 8 bytes of an object's length are not there, what is bad is this field
pub missing_size : (known : Known) (next : Stored → Table (ℕ × Head)) (name w : List ℕ) (at : ℕ) → has w (at + 8) ≡ false → judge (size_part known next name) at w ≡ Err at
missing_size known next name w at none = is_missing 8 (λ b. any (from_be_bytes w64 b)) (λ b. digest_part known next name (from_be_bytes w64 b)) at w none

-- where the 32 bytes of an object's digest are not there, what is bad is this field
pub missing_digest : (known : Known) (next : Stored → Table (ℕ × Head)) (name : List ℕ) (size : ℕ) (w : List ℕ) (at : ℕ) → has w (at + 32) ≡ false → judge (digest_part known next name size) at w ≡ Err at
missing_digest known next name size w at none = is_missing 32 any (λ d. first_part known next name size d) at w none

-- where the 4 bytes of an object's first new node are not there, what is bad is this field
pub missing_first : (known : Known) (next : Stored → Table (ℕ × Head)) (name : List ℕ) (size : ℕ) (digest w : List ℕ) (at : ℕ) → has w (at + 4) ≡ false → judge (first_part known next name size digest) at w ≡ Err at
missing_first known next name size digest w at none = is_missing 4 (λ b. is_next_node known (from_be_bytes w32 b)) (λ b. next (stored_with name size digest (from_be_bytes w32 b))) at w none

-- where an object's first new node is not the next one, what is bad is this field
pub invalid_first : (known : Known) (next : Stored → Table (ℕ × Head)) (name : List ℕ) (size : ℕ) (digest w : List ℕ) (at : ℕ) → is_next_node known (from_be_bytes w32 (bytes_at 4 at w)) ≡ false → judge (first_part known next name size digest) at w ≡ Err at
invalid_first known next name size digest w at bad = is_invalid 4 (λ b. is_next_node known (from_be_bytes w32 b)) (λ b. next (stored_with name size digest (from_be_bytes w32 b))) at w bad

-- ---- the fields of an object after its first

abbrev pub is_count : Shape → Known → ℕ → ℕ → Bool
is_count shape known size count = count == nodes_for shape size && is_within known count

abbrev pub object_next : ℕ → Stored → ℕ → Table (ℕ × Head)
object_next bytes o count = End (bytes, ObjectHead (record o { count = count }))

-- where the number of new nodes of an object with these alone is there and valid, the object is judged valid with
-- it
pub to_object : (shape : Shape) (known : Known) (bytes : ℕ) (o : Stored) (w : List ℕ) (at n : ℕ) → has w (at + 4) ≡ true → n ≡ from_be_bytes w32 (bytes_at 4 at w) → is_count shape known o.size n ≡ true
    → judge (object_fields shape known bytes o) at w ≡ Ok ((bytes, ObjectHead (record o { count = n })), at + 4)
to_object shape known bytes o w at n there is good = to_number32 (is_count shape known o.size) (object_next bytes o) at n w there is good

-- where it is not there, what is bad is this number
pub no_object : (shape : Shape) (known : Known) (bytes : ℕ) (o : Stored) (w : List ℕ) (at : ℕ) → has w (at + 4) ≡ false → judge (object_fields shape known bytes o) at w ≡ Err at
no_object shape known bytes o w at none = no_number32 (is_count shape known o.size) (object_next bytes o) at w none

-- where it is not as many as the length takes, or not within the limit, what is bad is this number
pub bad_object : (shape : Shape) (known : Known) (bytes : ℕ) (o : Stored) (w : List ℕ) (at n : ℕ) → n ≡ from_be_bytes w32 (bytes_at 4 at w) → is_count shape known o.size n ≡ false
    → judge (object_fields shape known bytes o) at w ≡ Err at
bad_object shape known bytes o w at n is bad = bad_number32 (is_count shape known o.size) (object_next bytes o) at n w is bad

abbrev pub is_few : ℕ → Bool
is_few parts = nat_le parts raised_limit

abbrev pub parts_next : ℕ → Stored → ℕ → ℕ → Table (ℕ × Head)
parts_next bytes o count parts = End (bytes, JoinedHead (record o { count = count }) parts)

abbrev pub joined_next : ℕ → Stored → ℕ → Table (ℕ × Head)
joined_next bytes o count = number w32 is_few (parts_next bytes o count)

-- where the number of new nodes of an object in parts is there and within the limit, what is judged from it on is
-- what is judged from its number of parts on
pub to_count : (known : Known) (bytes : ℕ) (o : Stored) (w : List ℕ) (at n : ℕ) → has w (at + 4) ≡ true → n ≡ from_be_bytes w32 (bytes_at 4 at w) → is_within known n ≡ true
    → judge (joined_fields known bytes o) at w ≡ judge (joined_next bytes o n) (at + 4) w
to_count known bytes o w at n there is good = to_number32 (is_within known) (joined_next bytes o) at n w there is good

-- where it is not there, what is bad is this number
pub no_count : (known : Known) (bytes : ℕ) (o : Stored) (w : List ℕ) (at : ℕ) → has w (at + 4) ≡ false → judge (joined_fields known bytes o) at w ≡ Err at
no_count known bytes o w at none = no_number32 (is_within known) (joined_next bytes o) at w none

-- where it is not within the limit, what is bad is this number
pub bad_count : (known : Known) (bytes : ℕ) (o : Stored) (w : List ℕ) (at n : ℕ) → n ≡ from_be_bytes w32 (bytes_at 4 at w) → is_within known n ≡ false
    → judge (joined_fields known bytes o) at w ≡ Err at
bad_count known bytes o w at n is bad = bad_number32 (is_within known) (joined_next bytes o) at n w is bad

-- where the number of parts is there and at most the raised limit, the object is judged valid with it, up to here
pub to_parts : (bytes : ℕ) (o : Stored) (count : ℕ) (w : List ℕ) (at n : ℕ) → has w (at + 4) ≡ true → n ≡ from_be_bytes w32 (bytes_at 4 at w) → is_few n ≡ true
    → judge (joined_next bytes o count) at w ≡ Ok ((bytes, JoinedHead (record o { count = count }) n), at + 4)
to_parts bytes o count w at n there is good = to_number32 is_few (parts_next bytes o count) at n w there is good

-- where it is not there, what is bad is this number
pub no_parts : (bytes : ℕ) (o : Stored) (count : ℕ) (w : List ℕ) (at : ℕ) → has w (at + 4) ≡ false → judge (joined_next bytes o count) at w ≡ Err at
no_parts bytes o count w at none = no_number32 is_few (parts_next bytes o count) at w none

-- where it is more than the raised limit, what is bad is this number
pub bad_parts : (bytes : ℕ) (o : Stored) (count : ℕ) (w : List ℕ) (at n : ℕ) → n ≡ from_be_bytes w32 (bytes_at 4 at w) → is_few n ≡ false → judge (joined_next bytes o count) at w ≡ Err at
bad_parts bytes o count w at n is bad = bad_number32 is_few (parts_next bytes o count) at n w is bad

-- ---- the kind and the number of bytes

abbrev pub bytes_next : Shape → Known → ℕ → ℕ → Table (ℕ × Head)
bytes_next shape known kind bytes = kind_fields shape known bytes kind

abbrev pub kind_next : Shape → Known → ℕ → Table (ℕ × Head)
kind_next shape known kind = number w32 any (bytes_next shape known kind)

-- where the kind is there and may come, what is judged from it on is what is judged from the number of bytes on
pub to_bytes : (shape : Shape) (known : Known) (w : List ℕ) (kind : ℕ) → 2 ≤ length w → kind ≡ slice_index w 1 → is_kind known kind ≡ true
    → judge (head_fields shape known) 1 w ≡ judge (kind_next shape known kind) 2 w
to_bytes shape known w kind there is good = to_kind (is_kind known) (kind_next shape known) kind w there is good

-- where the number of bytes is there, whatever it is, what is judged from it on is what is judged of the kind's
-- fields
pub to_fields : (shape : Shape) (known : Known) (w : List ℕ) (kind n : ℕ) → has w 6 ≡ true → n ≡ from_be_bytes w32 (bytes_at 4 2 w)
    → judge (kind_next shape known kind) 2 w ≡ judge (kind_fields shape known n kind) 6 w
to_fields shape known w kind n there is = to_number32 any (bytes_next shape known kind) 2 n w there is refl

-- where the number of bytes is not there, what is bad is this number
pub no_bytes : (shape : Shape) (known : Known) (w : List ℕ) (kind : ℕ) → has w 6 ≡ false → judge (kind_next shape known kind) 2 w ≡ Err 2
no_bytes shape known w kind none = no_number32 any (bytes_next shape known kind) 2 w none

-- where the kind is not there, or may not come, what is bad is the kind
pub bad_kind : (shape : Shape) (known : Known) (w : List ℕ) → (2 ≤ length w → is_kind known (slice_index w 1) ≡ false) → judge (head_fields shape known) 1 w ≡ Err 1
bad_kind shape known w bad = no_kind (is_kind known) (kind_next shape known) w bad
