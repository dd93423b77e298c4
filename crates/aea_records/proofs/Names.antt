-- Names that are taken, and fences that are there.
use Rattle.std.proofs.Common.{◌≡◌, ◌≢◌, ℕ, true, false, ◌&&◌, ◌==◌, List, [], ◌∷◌, length, All, get_or, sym, ◌∙◌}
use Rattle.std.specs.Prelude.{nat_le}
use Rattle.std.specs.List.{list_any, list_all}
use Rattle.std.specs.Str.{bytes_eq, is_utf8}
use Rattle.std.proofs.lemmas.Bool.{or_parts, and_parts, false≢true, false_from_ne_true, eqb-true, eq-eqb}
use Rattle.std.proofs.lemmas.List.Elements.{All-nil, All-cons}
use Rattle.std.proofs.lemmas.List.Folds.{list_any_none}
use Rattle.std.proofs.lemmas.Slice.Eq.{bytes_eq-Decides}
use Rattle.aea_catalog.specs.Names.{is_plain_byte, IsName}
use Rattle.aea_records.specs.Format.{Stored}

-- where the test finds no object with the name, all of them have other names
pub new-free : (earlier : List Stored) (name : List ℕ) → list_any (λ o. bytes_eq o.name name) earlier ≡ false → All (λ e. e.name ≢ name) earlier
new-free [] name e = All-nil (λ (r : Stored). r.name ≢ name)
new-free (r ∷ earlier) name e =
    let parts : (bytes_eq r.name name ≡ false) × (list_any (λ o. bytes_eq o.name name) earlier ≡ false) = or_parts (bytes_eq r.name name) (list_any (λ (o : Stored). bytes_eq o.name name) earlier) e in
    All-cons (λ (q : Stored). q.name ≢ name) r earlier
    (λ same. false≢true (sym parts.0 ∙ (bytes_eq-Decides r.name name).1 same))
    (new-free earlier name parts.1)

-- and the other way round: where all have other names, the test finds none
pub free-new : (earlier : List Stored) (name : List ℕ) → All (λ e. e.name ≢ name) earlier → list_any (λ o. bytes_eq o.name name) earlier ≡ false
free-new earlier name h =
    list_any_none (λ (r : Stored). bytes_eq r.name name) earlier
    (λ k d lt. false_from_ne_true (bytes_eq (get_or earlier k d).name name) (λ e. h k d lt ((bytes_eq-Decides (get_or earlier k d).name name).0 e)))

-- where the test finds no fence at the node, all of them are elsewhere
pub new-fence : (fences : List ℕ) (node : ℕ) → list_any (λ f. f == node) fences ≡ false → All (λ f. f ≢ node) fences
new-fence [] node e = All-nil (λ (f : ℕ). f ≢ node)
new-fence (f ∷ fences) node e =
    let parts : (f == node ≡ false) × (list_any (λ g. g == node) fences ≡ false) = or_parts (f == node) (list_any (λ (g : ℕ). g == node) fences) e in
    All-cons (λ (g : ℕ). g ≢ node) f fences
    (λ same. false≢true (sym parts.0 ∙ eq-eqb f node same))
    (new-fence fences node parts.1)

-- and the other way round: where all are elsewhere, the test finds none
pub fence-new : (fences : List ℕ) (node : ℕ) → All (λ f. f ≢ node) fences → list_any (λ f. f == node) fences ≡ false
fence-new fences node h =
    list_any_none (λ (f : ℕ). f == node) fences
    (λ k d lt. false_from_ne_true (get_or fences k d == node) (λ e. h k d lt (eqb-true (get_or fences k d) node e)))

-- a name has 1 to 255 bytes
pub name-length : (name : List ℕ) → IsName name → (nat_le 1 (length name) && nat_le (length name) 255) ≡ true
name-length name h =
    let a = and_parts (nat_le 1 (length name) && nat_le (length name) 255 && list_all is_plain_byte name) (is_utf8 name) h in
    (and_parts (nat_le 1 (length name) && nat_le (length name) 255) (list_all is_plain_byte name) a.0).0
