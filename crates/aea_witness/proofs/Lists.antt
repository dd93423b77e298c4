-- The records of objects that were put: how many, and their names.
use Rattle.std.proofs.Common.{◌≡◌, ◌≢◌, ℕ, suc, List, [], ◌∷◌, length, get_or, refl, sym, ◌∙◌, ap, subst, arith}
use Rattle.std.specs.Prelude.{All, codes}
use Rattle.std.proofs.lemmas.Str.{is_utf8-from_IsUtf8, IsUtf8-from_ascii}
use Rattle.std.proofs.lemmas.List.Elements.{All-cons, All-nil}
use Rattle.aea_records.specs.Format.{Record, Object, Joined, Fence, Raise, stored_of}
use Rattle.aea_archive.specs.Next.{NewObject}
use Rattle.aea_fetch.specs.Puts.{AreOfPuts}
use Rattle.aea_rehearse.proofs.Built.{below_all}
use Rattle.aea_witness.specs.Objects.{IsNewName, IsSmall, first_object, second_object, third_object, fourth_object}

-- there is a record of an object for each
pub stored_count : (records : List Record) (puts : List NewObject) → AreOfPuts records puts → length (stored_of records) ≡ length puts
stored_count [] [] are = refl
stored_count [] (o ∷ puts) are = absurd are
stored_count (Object r ∷ records) [] are = absurd are
stored_count (Object r ∷ records) (o ∷ puts) are = ap suc (stored_count records puts are.2)
stored_count (Joined r parts ∷ records) puts are = absurd are
stored_count (Fence node ∷ records) puts are = stored_count records puts are
stored_count (Raise ∷ records) puts are = stored_count records puts are

-- the first object's name, and the others
name_here : (name : List ℕ) (o : NewObject) (puts : List NewObject) → IsNewName name (o ∷ puts) → o.name ≢ name
name_here name o puts new = new 0 o (omega arith)

name_later : (name : List ℕ) (o : NewObject) (puts : List NewObject) → IsNewName name (o ∷ puts) → IsNewName name puts
name_later name o puts new k d below = new (suc k) d (omega (arith, below))

-- a name that none of the objects has, no record has
pub stored_names : (records : List Record) (puts : List NewObject) (name : List ℕ) → AreOfPuts records puts → IsNewName name puts → All (λ r. r.name ≢ name) (stored_of records)
stored_names [] [] name are new = All-nil (λ r. r.name ≢ name)
stored_names [] (o ∷ puts) name are new = absurd are
stored_names (Object r ∷ records) [] name are new = absurd are
stored_names (Object r ∷ records) (o ∷ puts) name are new =
    All-cons (λ q. q.name ≢ name) r (stored_of records) (subst (λ (n : List ℕ). n ≢ name) (sym are.0) (name_here name o puts new))
    (stored_names records puts name are.2 (name_later name o puts new))
stored_names (Joined r parts ∷ records) puts name are new = absurd are
stored_names (Fence node ∷ records) puts name are new = stored_names records puts name are new
stored_names (Raise ∷ records) puts name are new = stored_names records puts name are new

-- the objects of the witness are small, and their names differ
pub first_small : IsSmall first_object
first_small = record {
  name = is_utf8-from_IsUtf8 (codes "first") (IsUtf8-from_ascii (codes "first") (below_all (codes "first") refl));
  named = omega arith;
  short = omega arith;
  some = omega arith;
  block = omega arith;
}

pub second_small : IsSmall second_object
second_small = record {
  name = is_utf8-from_IsUtf8 (codes "second") (IsUtf8-from_ascii (codes "second") (below_all (codes "second") refl));
  named = omega arith;
  short = omega arith;
  some = omega arith;
  block = omega arith;
}

pub first_new : IsNewName first_object.name []
first_new = All-nil (λ o. o.name ≢ first_object.name)

pub second_new : IsNewName second_object.name (first_object ∷ [])
second_new = All-cons (λ o. o.name ≢ second_object.name) first_object [] (λ same. absurd (omega (arith, ap length same))) (All-nil (λ o. o.name ≢ second_object.name))

pub third_small : IsSmall third_object
third_small = record {
  name = is_utf8-from_IsUtf8 (codes "third") (IsUtf8-from_ascii (codes "third") (below_all (codes "third") refl));
  named = omega arith;
  short = omega arith;
  some = omega arith;
  block = omega arith;
}

pub fourth_small : IsSmall fourth_object
fourth_small = record {
  name = is_utf8-from_IsUtf8 (codes "fourth") (IsUtf8-from_ascii (codes "fourth") (below_all (codes "fourth") refl));
  named = omega arith;
  short = omega arith;
  some = omega arith;
  block = omega arith;
}

-- texts that differ at a place
differ_at : (k : ℕ) (xs ys : List ℕ) (m n : ℕ) → get_or xs k 0 ≡ m → get_or ys k 0 ≡ n → m ≢ n → xs ≢ ys
differ_at k xs ys m n is_m is_n other same = other (sym is_m ∙ ap (λ (zs : List ℕ). get_or zs k 0) same ∙ is_n)

pub third_new : IsNewName third_object.name (first_object ∷ second_object ∷ [])
third_new =
    All-cons (λ o. o.name ≢ third_object.name) first_object (second_object ∷ []) (differ_at 0 first_object.name third_object.name 102 116 refl refl (λ same. absurd (omega (arith, same))))
    (All-cons (λ o. o.name ≢ third_object.name) second_object [] (λ same. absurd (omega (arith, ap length same))) (All-nil (λ o. o.name ≢ third_object.name)))

pub fourth_new : IsNewName fourth_object.name (first_object ∷ second_object ∷ third_object ∷ [])
fourth_new =
    All-cons (λ o. o.name ≢ fourth_object.name) first_object (second_object ∷ third_object ∷ []) (λ same. absurd (omega (arith, ap length same)))
    (All-cons (λ o. o.name ≢ fourth_object.name) second_object (third_object ∷ []) (differ_at 0 second_object.name fourth_object.name 115 102 refl refl (λ same. absurd (omega (arith, same))))
    (All-cons (λ o. o.name ≢ fourth_object.name) third_object [] (λ same. absurd (omega (arith, ap length same))) (All-nil (λ o. o.name ≢ fourth_object.name))))
