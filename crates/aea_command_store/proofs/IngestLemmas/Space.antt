-- The space for the record of one more object, once some were stored, as a part of that for all.
use Rattle.std.proofs.Common.{◌≡◌, ◌≢◌, ℕ, ◌+◌, ◌*◌, ◌<◌, ◌≤◌, ◌^◌, Bool, true, false, List, [], ◌∷◌, ◌++◌, length, refl, sym, ◌∙◌, ap, subst, arith, Option, append_assoc, length-append}
use Rattle.std.specs.Io.KnownBytes.{Consumes}
use Rattle.std.proofs.lemmas.Bool.Decides.{nat_tests}
use Rattle.std.proofs.lemmas.List.{append-nil}
use Rattle.std.proofs.Math.Nat.{mul-le-mul_right}
use Rattle.aea_lattice.specs.declared.shape.Shape.{Shape}
use Rattle.aea_disk.specs.State.{State}
use Rattle.aea_records.specs.Format.{Record, nodes_for, limit_when, spelled}
use Rattle.aea_records.specs.Grammar.{IsNext, MayFollow, MayBeStored}
use Rattle.aea_records.specs.Laws.{ObjectsAreCounted, NewNamesAreFree}
use Rattle.aea_ledger.specs.Next.{AreItsRecords}
use Rattle.aea_ledger.specs.Taking.{FitsAdding}
use Rattle.aea_ledger.specs.Values.{Opened, HasRecords}
use Rattle.aea_archive.specs.Lasts.{AreLastsIntact}
use Rattle.aea_archive.specs.Next.{NewObject}
use Rattle.aea_append.specs.Causes.{MayEnter, next_end}
use Rattle.aea_command_store.specs.Ingest.{Filled, filled_by, filled_more, filled_all, MayBeTaken, MayAllBeTaken, AreOfObjects, FitsFrames, frames_of, end_with}
use Rattle.aea_command_store.proofs.Agreeing.{follow_behind}
use Rattle.aea_command_store.proofs.IngestLemmas.Causing.{enters, entered, limit_is}
use Rattle.aea_command_store.proofs.IngestLemmas.Filling.{filled_is, taken_all}
use Rattle.aea_command_store.proofs.IngestLemmas.Rooming.{spelled_next}

-- ---- where the ledger ends

-- after objects, and one more
end_more : (shape : Shape) (end : ℕ) (xs : List NewObject) (o : NewObject) → end_with shape end (xs ++ o ∷ []) ≡ next_end (end_with shape end xs) (length o.name) (nodes_for shape (length o.bytes) * (1 + shape.alpha))
end_more shape end [] o = refl
end_more shape end (x ∷ xs) o = end_more shape (next_end end (length x.name) (nodes_for shape (length x.bytes) * (1 + shape.alpha))) xs o

-- it is there that its records end
end_spelled : (shape : Shape) (records : List Record) (objects : List NewObject) (added : List Record) → AreOfObjects shape objects added → MayFollow shape records added
    → length (spelled shape (records ++ added)) ≡ end_with shape (length (spelled shape records)) objects
end_spelled shape records [] [] are follow = ap (λ (rs : List Record). length (spelled shape rs)) (append-nil records)
end_spelled shape records [] (q ∷ added) none follow = absurd none
end_spelled shape records (x ∷ objects) [] none follow = absurd none
end_spelled shape records (x ∷ objects) (q ∷ added) are follow =
    let is = are.0 in
    let may : MayBeStored shape records is.0 = (subst (IsNext shape records) is.1 follow.0).stored in
    let end = length (spelled shape records) in
    let one : length (spelled shape (records ++ q ∷ [])) ≡ next_end end (length x.name) (nodes_for shape (length x.bytes) * (1 + shape.alpha)) =
    ap (λ (r : Record). length (spelled shape (records ++ r ∷ []))) is.1
    ∙ spelled_next shape records is.0 may
    ∙ ap (λ (n : List ℕ). next_end end (length n) (is.0.count * (1 + shape.alpha))) is.2
    ∙ ap (λ (k : ℕ). next_end end (length x.name) (k * (1 + shape.alpha))) is.4 in
    ap (λ (rs : List Record). length (spelled shape rs)) (sym (append_assoc records (q ∷ []) added))
    ∙ end_spelled shape (records ++ q ∷ []) objects added are.1 follow.1
    ∙ ap (λ (n : ℕ). end_with shape n objects) one

-- ---- objects that may be stored, and one more

taken_more : (shape : Shape) (f : Filled) (xs : List NewObject) (o : NewObject) → MayAllBeTaken shape f xs → MayBeTaken shape (filled_all shape f xs) o → MayAllBeTaken shape f (xs ++ o ∷ [])
taken_more shape f [] o all may = (may, tt)
taken_more shape f (x ∷ xs) o all may = (all.0, taken_more shape (filled_more shape f x) xs o all.1 may)

-- so many nodes hold the bytes
nodes_hold : (shape : Shape) (k : ℕ) → k ≤ nodes_for shape k * shape.block
nodes_hold shape k = let h = shape.in_profile in grind (arith, nat_tests)

block_few : (shape : Shape) → shape.block ≤ 65536
block_few shape = let h = shape.in_profile in grind (arith, nat_tests)

limit_few : (raised : Bool) → limit_when raised ≤ 1048576
limit_few true = omega arith
limit_few false = omega arith

-- what fits a limit is no great number
bytes_few : (shape : Shape) (k : ℕ) (raised : Bool) → nodes_for shape k ≤ limit_when raised → k < 2 ^ 64
bytes_few shape k raised fits =
    let limit = limit_few raised in
    let nodes : nodes_for shape k ≤ 1048576 = omega (arith, fits, limit) in
    let bytes : nodes_for shape k * shape.block ≤ 1048576 * shape.block = mul-le-mul_right shape.block nodes in
    let hold = nodes_hold shape k in
    let wide = block_few shape in
    let less : k ≤ 68719476736 = omega (arith, hold, bytes, wide) in
    omega (arith, less)

-- an object may be stored that may enter the opened ledger, and fits it
taken_next : ObjectsAreCounted → NewNamesAreFree → (w : Opened) (records : List Record) (has : HasRecords w records) (o : NewObject) → MayEnter w o.name → w.lattice.n + nodes_for w.shape (length o.bytes) ≤ limit_when w.raised
    → MayBeTaken w.shape (filled_by records) o
taken_next count free w records has o may fits = record {
  name = entered count free w records has o.name may;
  fits = omega (arith, fits, limit_is count free w records has, has.lattice.n);
  size = bytes_few w.shape (length o.bytes) w.raised (omega (arith, fits));
}

-- one that was stored might enter
pub entered_next : ObjectsAreCounted → NewNamesAreFree → (w : Opened) (records : List Record) (has : HasRecords w records) (o : NewObject) (r : Record) → AreOfObjects w.shape (o ∷ []) (r ∷ []) → IsNext w.shape records r → MayEnter w o.name
entered_next count free w records has o r are next = enters count free w records has o.name (taken_all w.shape records (o ∷ []) (r ∷ []) are (next, tt)).0.name

-- ---- the space

-- objects with one more are some
pub some_more : (xs : List NewObject) (o : NewObject) → xs ++ o ∷ [] ≢ []
some_more [] o e = let h : o ∷ [] ≡ [] = e in cc
some_more (x ∷ xs) o e = let h : x ∷ (xs ++ o ∷ []) ≡ [] = e in cc

-- that for all frames has that for the next one
pub space_of_next : ObjectsAreCounted → NewNamesAreFree → (v w : Opened) → w.shape ≡ v.shape → (s : State) (records added : List Record) → AreItsRecords v records (s.files 0) → AreLastsIntact v.shape v.lattice v.digests s.files → HasRecords w (records ++ added)
    → (objects : List NewObject) → AreOfObjects v.shape objects added → length added ≡ length objects → (left rest : Option (List ℕ)) → FitsFrames v left s
    → (o : NewObject) → Consumes left rest (frames_of (objects ++ o ∷ [])) → MayEnter w o.name → w.lattice.n + nodes_for w.shape (length o.bytes) ≤ limit_when w.raised
    → FitsAdding s (length added + 1) (next_end w.end (length o.name) (nodes_for w.shape (length o.bytes) * (1 + w.shape.alpha)))
space_of_next count free v w same s records added its intact has objects are long left rest fits o framed may few =
    let follow : MayFollow v.shape records added = subst (λ (shape : Shape). MayFollow shape records added) same (follow_behind w.shape [] records added has.valid) in
    let first = taken_all v.shape records objects added are follow in
    let next : MayBeTaken v.shape (filled_by (records ++ added)) o = subst (λ (shape : Shape). MayBeTaken shape (filled_by (records ++ added)) o) same (taken_next count free w (records ++ added) has o may few) in
    let after : MayBeTaken v.shape (filled_all v.shape (filled_by records) objects) o = subst (λ (f : Filled). MayBeTaken v.shape f o) (sym (filled_is v.shape records objects added are)) next in
    let all = taken_more v.shape (filled_by records) objects o first after in
    let fit : FitsAdding s (length (objects ++ o ∷ [])) (end_with v.shape v.end (objects ++ o ∷ [])) = fits.ledger records its intact (objects ++ o ∷ []) rest (some_more objects o) framed all in
    let many : length (objects ++ o ∷ []) ≡ length added + 1 = omega (arith, length-append objects (o ∷ []), long) in
    let ends : w.end ≡ end_with v.shape v.end objects =
    has.end ∙ ap (λ (shape : Shape). length (spelled shape (records ++ added))) same ∙ end_spelled v.shape records objects added are follow ∙ ap (λ (n : ℕ). end_with v.shape n objects) (sym its.has.end) in
    let place : end_with v.shape v.end (objects ++ o ∷ []) ≡ next_end w.end (length o.name) (nodes_for w.shape (length o.bytes) * (1 + w.shape.alpha)) =
    end_more v.shape v.end objects o
    ∙ ap (λ (n : ℕ). next_end n (length o.name) (nodes_for v.shape (length o.bytes) * (1 + v.shape.alpha))) (sym ends)
    ∙ ap (λ (shape : Shape). next_end w.end (length o.name) (nodes_for shape (length o.bytes) * (1 + shape.alpha))) (sym same) in
    subst (λ (n : ℕ). FitsAdding s n (next_end w.end (length o.name) (nodes_for w.shape (length o.bytes) * (1 + w.shape.alpha)))) many
    (subst (FitsAdding s (length (objects ++ o ∷ []))) place fit)
