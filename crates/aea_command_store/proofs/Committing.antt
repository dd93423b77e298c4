-- Records that are committed to a ledger one after the other: some, and then others; and how long its file is then.
use Rattle.std.proofs.Common.{◌≡◌, ◌≤◌, ℕ, ◌+◌, max, List, [], ◌∷◌, ◌++◌, length, sym, ◌∙◌, ap, subst, arith, append_assoc, length-append}
use Rattle.std.specs.List.{flat_map, sum_by}
use Rattle.std.proofs.lemmas.List.{append-nil}
use Rattle.std.proofs.lemmas.List.Concat.{length-flat_map}
use Rattle.aea_lattice.specs.declared.shape.Shape.{Shape}
use Rattle.aea_disk.specs.Files.{overwritten}
use Rattle.aea_disk.specs.Steps.{length-overwritten}
use Rattle.aea_records.specs.Format.{Record, open_gate, body, entry, spelled}
use Rattle.aea_ledger.specs.Stops.{committed}
use Rattle.aea_command_store.specs.Growing.{committed_all}
use Rattle.aea_command_store.proofs.IngestLemmas.Rooming.{spelled_long}

-- all of them are committed as the first, and then the others
pub committed_both : (shape : Shape) (records : List Record) (bytes : List ℕ) (xs ys : List Record) → committed_all shape records bytes (xs ++ ys) ≡ committed_all shape (records ++ xs) (committed_all shape records bytes xs) ys
committed_both shape records bytes [] ys = ap (λ (rs : List Record). committed_all shape rs bytes ys) (sym (append-nil records))
committed_both shape records bytes (x ∷ xs) ys =
    let next = committed bytes (length (spelled shape records)) (body x ++ 0 ∷ []) in
    committed_both shape (records ++ x ∷ []) next xs ys
    ∙ ap (λ (rs : List Record). committed_all shape rs (committed_all shape (records ++ x ∷ []) next xs) ys) (append_assoc records (x ∷ []) xs)

-- ---- how long the file is

-- no write went past the gate that ends a ledger with these records: of a file so long before and after
abbrev IsNotPast : Shape → List Record → ℕ → ℕ → Type 0
IsNotPast shape records old new = new ≤ max old (length (spelled shape records) + 1)

-- with the entries of the records after the ledger's end
pub long_behind : (shape : Shape) (records added : List Record) (end old new : ℕ) → end ≡ length (spelled shape records) → new ≤ max old (end + sum_by (λ r. length (entry r)) added + 1) → IsNotPast shape (records ++ added) old new
long_behind shape records added end old new is few = omega (arith, is, few, spelled_long shape records added, length-flat_map entry added)

-- some writes, and others after them
pub long_both : (shape : Shape) (records xs ys : List Record) (old mid new : List ℕ) → IsNotPast shape (records ++ xs) (length old) (length mid) → IsNotPast shape ((records ++ xs) ++ ys) (length mid) (length new) → IsNotPast shape (records ++ (xs ++ ys)) (length old) (length new)
long_both shape records xs ys old mid new first second =
    let all = ap (λ (l : List Record). length (spelled shape l)) (append_assoc records xs ys) in
    omega (arith, first, second, all, spelled_long shape (records ++ xs) ys)

-- the writes of commits
committed_long : (shape : Shape) (records : List Record) (bytes : List ℕ) (added : List Record) → IsNotPast shape (records ++ added) (length bytes) (length (committed_all shape records bytes added))
committed_long shape records bytes [] = omega arith
committed_long shape records bytes (r ∷ added) =
    let end = length (spelled shape records) in
    let behind = body r ++ 0 ∷ [] in
    let one = length-overwritten bytes (end + 1) behind in
    let two = length-overwritten (overwritten bytes (end + 1) behind) end (open_gate ∷ []) in
    let size : length (flat_map entry (r ∷ [])) ≡ 1 + length (body r) = omega (arith, length-append (entry r) []) in
    let first : IsNotPast shape (records ++ r ∷ []) (length bytes) (length (committed bytes end behind)) =
    omega (arith, one, two, length-append (body r) (0 ∷ []), spelled_long shape records (r ∷ []), size) in
    long_both shape records (r ∷ []) added bytes (committed bytes end behind) (committed_all shape (records ++ r ∷ []) (committed bytes end behind) added) first
    (committed_long shape (records ++ r ∷ []) (committed bytes end behind) added)

pub long_exactly : (shape : Shape) (records added : List Record) (old new : List ℕ) → new ≡ committed_all shape records old added → IsNotPast shape (records ++ added) (length old) (length new)
long_exactly shape records added old new is = subst (λ (l : List ℕ). IsNotPast shape (records ++ added) (length old) (length l)) (sym is) (committed_long shape records old added)
