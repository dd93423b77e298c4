-- The lines of a list of objects, one by one.
use Rattle.std.proofs.Common.{◌≡◌, ℕ, zero, suc, ◌+◌, ◌≤◌, List, [], ◌∷◌, ◌++◌, length, take, drop, refl, sym, ◌∙◌, ap, arith, append_assoc, Some, None}
use Rattle.std.specs.Prelude.{option_map, slice_get}
use Rattle.std.specs.List.{flat_map}
use Rattle.std.proofs.lemmas.List.{append-nil, take-append-drop}
use Rattle.std.proofs.lemmas.List.Concat.{flat_map-append}
use Rattle.aea_catalog.specs.declared.objects.ObjectRef.{ObjectRef}
use Rattle.aea_catalog.specs.Catalogs.{Placed, named_object}
use Rattle.aea_command_read.specs.List.{object_line}

-- the lines of some entries of a catalogue
abbrev pub lines_for : List (List ℕ × Placed) → List ℕ
lines_for xs = flat_map (λ e. object_line (named_object e)) xs

-- one entry more
lines-suc : (xs : List (List ℕ × Placed)) (k : ℕ) (e : List ℕ × ObjectRef) → Some e ≡ option_map named_object (slice_get xs k) → lines_for (take (suc k) xs) ≡ lines_for (take k xs) ++ object_line e
lines-suc [] k e is = let h : Some e ≡ None = is in cc
lines-suc (x ∷ xs) zero e is =
    let h : Some e ≡ Some (named_object x) = is in
    let same : e ≡ named_object x = cc in
    append-nil (object_line (named_object x)) ∙ ap object_line (sym same)
lines-suc (x ∷ xs) (suc k) e is =
    ap (λ (l : List ℕ). object_line (named_object x) ++ l) (lines-suc xs k e is) ∙ sym (append_assoc (object_line (named_object x)) (lines_for (take k xs)) (object_line e))

pub lines_next : (xs : List (List ℕ × Placed)) (k : ℕ) (e : List ℕ × ObjectRef) → Some e ≡ option_map named_object (slice_get xs k) → lines_for (take (k + 1) xs) ≡ lines_for (take k xs) ++ object_line e
lines_next xs k e is = ap (λ (n : ℕ). lines_for (take n xs)) (let next : k + 1 ≡ suc k = omega arith in next) ∙ lines-suc xs k e is

-- those before an entry, its own, and those after it
pub lines_around : (xs : List (List ℕ × Placed)) (k : ℕ) (e : List ℕ × ObjectRef) → Some e ≡ option_map named_object (slice_get xs k) → lines_for xs ≡ (lines_for (take k xs) ++ object_line e) ++ lines_for (drop (k + 1) xs)
lines_around xs k e is =
    ap lines_for (sym (take-append-drop (k + 1) xs)) ∙ flat_map-append (λ (x : List ℕ × Placed). object_line (named_object x)) (take (k + 1) xs) (drop (k + 1) xs)
    ∙ ap (λ (l : List ℕ). l ++ lines_for (drop (k + 1) xs)) (lines_next xs k e is)

-- the lines of all of them
pub lines_all : (xs : List (List ℕ × Placed)) (k : ℕ) → length xs ≤ k → lines_for (take k xs) ≡ lines_for xs
lines_all [] zero most = refl
lines_all [] (suc k) most = refl
lines_all (x ∷ xs) zero most = absurd (omega (arith, most))
lines_all (x ∷ xs) (suc k) most = ap (λ (l : List ℕ). object_line (named_object x) ++ l) (lines_all xs k (omega (arith, most)))
