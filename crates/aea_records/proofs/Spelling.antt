-- Numbers that are fields, and tables one after the other.
use Rattle.std.proofs.Common.{◌≡◌, ℕ, ◌^◌, ◌<◌, Bool, true, List, [], ◌++◌, length, refl, sym, ap, subst, ◌∙◌, append_assoc}
use Rattle.std.specs.Int.{Width, from_be_bytes, to_be_bytes}
use Rattle.std.proofs.lemmas.List.{take_at, drop_at}
use Rattle.std.proofs.lemmas.List.Elements.{All-take, All-drop}
use Rattle.aea_records.specs.TableLaws.{AreBytes}
use Rattle.aea_records.specs.Tables.{Table, Part, Late, End, Spells, number, and_then}
use Rattle.aea_records.proofs.Numbers.{IsWide}

-- a number that passes, and the fields after it
pub spell_number : {A : Type 0} (w : Width) (limit : ℕ) (wide : IsWide w limit) (test : ℕ → Bool) (next : ℕ → Table A) (n : ℕ) (rest : List ℕ) (v : A)
    → n < limit → test n ≡ true → Spells (next n) rest v → Spells (number w test next) (to_be_bytes w n ++ rest) v
spell_number {A = A} w limit wide test next n rest v small passes more = (
  to_be_bytes w n,
  rest,
  refl,
  wide.len n,
  ap test (wide.again n small) ∙ passes,
  subst (λ (k : ℕ). Spells (next k) rest v) (sym (wide.again n small)) more,
)

-- what a number is that is spelled
pub record IsNumber {A : Type 0} (w : Width) (limit : ℕ) (test : ℕ → Bool) (next : ℕ → Table A) (text : List ℕ) (v : A) : Type 0 where
  pub n : ℕ
  pub rest : List ℕ
  pub spelling : text ≡ to_be_bytes w n ++ rest
  pub small : n < limit
  pub passes : test n ≡ true
  pub are : AreBytes rest
  pub more : Spells (next n) rest v

-- bytes that a number and the fields after it spell begin with a number below the limit that passes its test
pub number_spelled : {A : Type 0} (w : Width) (limit : ℕ) (wide : IsWide w limit) (test : ℕ → Bool) (next : ℕ → Table A) (text : List ℕ) (v : A)
    → AreBytes text → Spells (number w test next) text v → IsNumber w limit test next text v
number_spelled w limit wide test next text v are spells =
    let both : AreBytes (spells.0 ++ spells.1) = subst AreBytes spells.2 are in
    let mine : AreBytes spells.0 = subst AreBytes (take_at spells.0 spells.1 (length spells.0) refl) (All-take (λ b. b < 2 ^ 8) (length spells.0) (spells.0 ++ spells.1) both) in
    record {
      n = from_be_bytes w spells.0;
      rest = spells.1;
      spelling = spells.2 ∙ ap (λ (l : List ℕ). l ++ spells.1) (sym (wide.back spells.0 spells.3 mine));
      small = wide.below spells.0 mine;
      passes = spells.4;
      are = subst AreBytes (drop_at spells.0 spells.1 (length spells.0) refl) (All-drop (λ b. b < 2 ^ 8) (length spells.0) (spells.0 ++ spells.1) both);
      more = spells.5;
    }

-- a text of the first, and one of the second
pub spell_then : {A B : Type 0} (table : Table A) (more : A → Table B) (text other : List ℕ) (v : A) (w : B)
    → Spells table text v → Spells (more v) other w → Spells (and_then table more) (text ++ other) w
spell_then (Part n test next) more text other v w mine theirs = (
  mine.0,
  mine.1 ++ other,
  ap (λ (l : List ℕ). l ++ other) mine.2 ∙ append_assoc mine.0 mine.1 other,
  mine.3,
  mine.4,
  spell_then (next mine.0) more mine.1 other v w mine.5 theirs,
)
spell_then (Late place good next) more text other v w mine theirs = (mine.0, spell_then next more text other v w mine.1 theirs)
spell_then {A = A} {B = B} (End a) more text other v w mine theirs =
    subst (λ (l : List ℕ). Spells (more a) (l ++ other) w) (sym mine.0) (subst (λ (u : A). Spells (more u) other w) mine.1 theirs)

-- what is spelled by both is a text of the first and one of the second
pub record AreTwo {A B : Type 0} (table : Table A) (more : A → Table B) (text : List ℕ) (w : B) : Type 0 where
  pub v : A
  pub front : List ℕ
  pub back : List ℕ
  pub spelling : text ≡ front ++ back
  pub first : Spells table front v
  pub second : Spells (more v) back w

-- what two tables one after the other spell is a text of the first, and after it one of the second
pub then_spelled : {A B : Type 0} (table : Table A) (more : A → Table B) (text : List ℕ) (w : B) → Spells (and_then table more) text w → AreTwo table more text w
then_spelled (Part n test next) more text w spells =
    let two = then_spelled (next spells.0) more spells.1 w spells.5 in
    record {
      v = two.v;
      front = spells.0 ++ two.front;
      back = two.back;
      spelling = spells.2 ∙ ap (λ (l : List ℕ). spells.0 ++ l) two.spelling ∙ sym (append_assoc spells.0 two.front two.back);
      first = (spells.0, two.front, refl, spells.3, spells.4, two.first);
      second = two.second;
    }
then_spelled (Late place good next) more text w spells =
    let two = then_spelled next more text w spells.1 in
    record { v = two.v; front = two.front; back = two.back; spelling = two.spelling; first = (spells.0, two.first); second = two.second }
then_spelled (End a) more text w spells = record { v = a; front = []; back = text; spelling = refl; first = (refl, refl); second = spells }
