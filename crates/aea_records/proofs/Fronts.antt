-- What is spelled at the head of a record.
use Rattle.std.proofs.Common.{◌≡◌, ℕ, ◌^◌, ◌<◌, Bool, true, false, ◌&&◌, ◌||◌, ◌==◌, List, ◌++◌, length, refl, sym, ap, subst, ◌∙◌, inl, inr}
use Rattle.std.specs.Prelude.{◌⊎◌}
use Rattle.std.specs.Int.{w16, w32, w64, to_be_bytes}
use Rattle.std.proofs.lemmas.List.{take_at, drop_at}
use Rattle.std.proofs.lemmas.List.Elements.{All-take, All-drop}
use Rattle.std.proofs.lemmas.Bool.{eqb-true}
use Rattle.aea_lattice.specs.Data.{IsBytes}
use Rattle.aea_records.specs.Tables.{Table, Part, Spells, number, any}
use Rattle.aea_records.specs.TableLaws.{AreBytes}
use Rattle.aea_records.proofs.Numbers.{wide16, wide32, wide64}
use Rattle.aea_records.proofs.Spelling.{number_spelled}
use Rattle.aea_records.specs.Format.{Stored}
use Rattle.aea_records.specs.Known.{Known}
use Rattle.aea_records.specs.Fields.{Head, is_kind, is_length, is_new_name, is_next_node, stored_with, front_fields}

-- bytes in two parts
pub are_front : (a b : List ℕ) → AreBytes (a ++ b) → AreBytes a
are_front a b are = subst AreBytes (take_at a b (length a) refl) (All-take (λ x. x < 2 ^ 8) (length a) (a ++ b) are)

-- where two lists one after the other are of bytes, the second is
pub are_back : (a b : List ℕ) → AreBytes (a ++ b) → AreBytes b
are_back a b are = subst AreBytes (drop_at a b (length a) refl) (All-drop (λ x. x < 2 ^ 8) (length a) (a ++ b) are)

-- the first fields of an object that are spelled
pub record IsFront (known : Known) (next : Stored → Table (ℕ × Head)) (text : List ℕ) (v : ℕ × Head) : Type 0 where
  pub name : List ℕ
  pub size : ℕ
  pub digest : List ℕ
  pub first : ℕ
  pub rest : List ℕ
  pub spelling : text ≡ to_be_bytes w16 (length name) ++ (name ++ (to_be_bytes w64 size ++ (digest ++ (to_be_bytes w32 first ++ rest))))
  pub long : is_length (length name) ≡ true
  pub named : is_new_name known name ≡ true
  pub small : size < 2 ^ 64
  pub bytes : IsBytes 32 digest
  pub next_node : is_next_node known first ≡ true
  pub are : AreBytes rest
  pub more : Spells (next (stored_with name size digest first)) rest v

-- bytes that the first fields of an object and what follows them spell begin with these fields, all of them
-- valid
pub front_spelled : (known : Known) (next : Stored → Table (ℕ × Head)) (text : List ℕ) (v : ℕ × Head) → AreBytes text → Spells (front_fields known next) text v → IsFront known next text v
front_spelled known next text v are spells =
    let a = number_spelled {A = ℕ × Head} w16 (2 ^ 16) wide16 is_length
    (λ long. Part long (is_new_name known) (λ name. number w64 any (λ size. Part 32 any (λ digest. number w32 (is_next_node known) (λ first. next (stored_with name size digest first))))))
    text v are spells in
    let name : List ℕ = a.more.0 in
    let are1 : AreBytes (a.more.0 ++ a.more.1) = subst AreBytes a.more.2 a.are in
    let b = number_spelled {A = ℕ × Head} w64 (2 ^ 64) wide64 any
    (λ size. Part 32 any (λ digest. number w32 (is_next_node known) (λ first. next (stored_with a.more.0 size digest first))))
    a.more.1 v (are_back a.more.0 a.more.1 are1) a.more.5 in
    let are2 : AreBytes (b.more.0 ++ b.more.1) = subst AreBytes b.more.2 b.are in
    let c = number_spelled {A = ℕ × Head} w32 (2 ^ 32) wide32 (is_next_node known) (λ first. next (stored_with a.more.0 b.n b.more.0 first))
    b.more.1 v (are_back b.more.0 b.more.1 are2) b.more.5 in
    record {
      name = a.more.0;
      size = b.n;
      digest = b.more.0;
      first = c.n;
      rest = c.rest;
      spelling = a.spelling ∙ ap (λ (l : List ℕ). to_be_bytes w16 a.n ++ l) (a.more.2 ∙ ap (λ (l : List ℕ). a.more.0 ++ l) (b.spelling ∙ ap (λ (l : List ℕ). to_be_bytes w64 b.n ++ l) (b.more.2 ∙ ap (λ (l : List ℕ). b.more.0 ++ l) c.spelling)))
          ∙ ap (λ (n : ℕ). to_be_bytes w16 n ++ (a.more.0 ++ (to_be_bytes w64 b.n ++ (b.more.0 ++ (to_be_bytes w32 c.n ++ c.rest))))) (sym a.more.3);
      long = ap is_length a.more.3 ∙ a.passes;
      named = a.more.4;
      small = b.small;
      bytes = record { wide = b.more.3; each = are_front b.more.0 b.more.1 are2 };
      next_node = c.passes;
      are = c.are;
      more = c.more;
    }

-- which kinds there are
pub kinds : (known : Known) (kind : ℕ) → is_kind known kind ≡ true → (kind ≡ 1) ⊎ ((kind ≡ 2) ⊎ (((kind ≡ 3) × (known.raised ≡ true)) ⊎ (kind ≡ 4)))
kinds known kind is = split (kind == 1) (kind == 2) (kind == 4) (kind == 3) known.raised (eqb-true kind 1) (eqb-true kind 2) (eqb-true kind 4) (eqb-true kind 3) is
  where
    split : (a b c d e : Bool) → (a ≡ true → kind ≡ 1) → (b ≡ true → kind ≡ 2) → (c ≡ true → kind ≡ 4) → (d ≡ true → kind ≡ 3) → (a || b || c || (d && e)) ≡ true
        → (kind ≡ 1) ⊎ ((kind ≡ 2) ⊎ (((kind ≡ 3) × (e ≡ true)) ⊎ (kind ≡ 4)))
    split true b c d e p q r s h = inl (p refl)
    split false true c d e p q r s h = inr (inl (q refl))
    split false false true d e p q r s h = inr (inr (inr (r refl)))
    split false false false true true p q r s h = inr (inr (inl (s refl, refl)))
    split false false false true false p q r s h = absurd (let f : false ≡ true = h in cc)
    split false false false false e p q r s h = absurd (let f : false ≡ true = h in cc)
