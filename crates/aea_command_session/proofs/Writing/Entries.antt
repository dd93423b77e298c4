-- Where a ledger ends once closes are recorded: how long the entry of a close is, and of several one after the other.
use Rattle.std.proofs.Common.{◌≡◌, ℕ, suc, ◌+◌, ◌*◌, List, [], ◌∷◌, ◌++◌, length, refl, sym, ◌∙◌, ap, subst, arith, append_assoc, length-append}
use Rattle.std.specs.Int.{w32, to_be_bytes}
use Rattle.std.proofs.lemmas.List.{append-nil}
use Rattle.aea_lattice.specs.declared.shape.Shape.{Shape}
use Rattle.aea_catalog.specs.declared.objects.Extent.{Extent}
use Rattle.aea_records.specs.Format.{Stored, Record, Joined, rest_of, entry, spelled}
use Rattle.aea_records.specs.Grammar.{IsNext, MayFollow, MayBeStored}
use Rattle.aea_records.proofs.OneMore.{spelled-push}
use Rattle.aea_records.proofs.Sizes.{length-parted}
use Rattle.aea_ledger.specs.Next.{AreItsRecords}
use Rattle.aea_ledger.specs.Values.{Opened}
use Rattle.aea_machine.specs.Closings.{Closing}
use Rattle.aea_machine.specs.Machine.{runs_of}
use Rattle.aea_session.specs.Closes.{IsRecordOfClose, AreRecordsOfCloses, close_entry}
use Rattle.aea_command_store.proofs.Agreeing.{follow_behind}
use Rattle.aea_command_session.specs.Space.{end_with_closes}

-- ---- one record

-- an object in parts that may be stored
joined_long : (shape : Shape) (earlier : List Record) (o : Stored) (parts : List Extent) → MayBeStored shape earlier o
    → length (entry (Joined o parts)) ≡ 60 + length o.name + 8 * length parts + 32 * (o.count * (1 + shape.alpha))
joined_long shape earlier o parts may =
    let size : length (entry (Joined o parts)) ≡ 6 + length (rest_of (Joined o parts)) = omega (arith, length-append (to_be_bytes w32 (length (rest_of (Joined o parts)))) (rest_of (Joined o parts))) in
    omega (arith, size, length-parted shape earlier o parts may)

-- the record of a close that may follow
close_long : (shape : Shape) (earlier : List Record) (c : Closing) (r : Record) → IsRecordOfClose c r → IsNext shape earlier r → length (entry r) ≡ close_entry shape c
close_long shape earlier c r is next =
    let o : Stored = is.0 in
    let may : MayBeStored shape earlier o = (subst (IsNext shape earlier) is.1 next).stored in
    ap (λ (q : Record). length (entry q)) is.1
    ∙ joined_long shape earlier o (runs_of c.nodes) may
    ∙ ap (λ (l : List ℕ). 60 + length l + 8 * length (runs_of c.nodes) + 32 * (o.count * (1 + shape.alpha))) is.2
    ∙ ap (λ (k : ℕ). 60 + length c.name + 8 * length (runs_of c.nodes) + 32 * (k * (1 + shape.alpha))) is.5

-- ---- several

-- the ledger ends where the closes say
spelled_closes : (shape : Shape) (records : List Record) (closings : List Closing) (added : List Record) → AreRecordsOfCloses closings added → MayFollow shape records added
    → length (spelled shape (records ++ added)) ≡ end_with_closes shape (length (spelled shape records)) closings
spelled_closes shape records [] [] are follow = ap (λ (rs : List Record). length (spelled shape rs)) (append-nil records)
spelled_closes shape records [] (r ∷ added) none follow = absurd none
spelled_closes shape records (c ∷ closings) [] none follow = absurd none
spelled_closes shape records (c ∷ closings) (r ∷ added) are follow =
    let one : length (spelled shape (records ++ r ∷ [])) ≡ length (spelled shape records) + close_entry shape c =
    ap length (spelled-push shape records r) ∙ length-append (spelled shape records) (entry r) ∙ ap (λ (n : ℕ). length (spelled shape records) + n) (close_long shape records c r are.0 follow.0) in
    ap (λ (rs : List Record). length (spelled shape rs)) (sym (append_assoc records (r ∷ []) added))
    ∙ spelled_closes shape (records ++ r ∷ []) closings added are.1 follow.1
    ∙ ap (λ (n : ℕ). end_with_closes shape n closings) one

-- there is one record for each close
pub closes_many : (closings : List Closing) (added : List Record) → AreRecordsOfCloses closings added → length added ≡ length closings
closes_many [] [] are = refl
closes_many [] (r ∷ added) none = absurd none
closes_many (c ∷ closings) [] none = absurd none
closes_many (c ∷ closings) (r ∷ added) are = ap suc (closes_many closings added are.1)

-- the records of closes, and of one more
pub closes_more : (closings : List Closing) (added : List Record) (c : Closing) (r : Record) → AreRecordsOfCloses closings added → IsRecordOfClose c r → AreRecordsOfCloses (closings ++ c ∷ []) (added ++ r ∷ [])
closes_more [] [] c r are is = (is, tt)
closes_more [] (q ∷ added) c r none is = absurd none
closes_more (b ∷ closings) [] c r none is = absurd none
closes_more (b ∷ closings) (q ∷ added) c r are is = (are.0, closes_more closings added c r are.1 is)

-- the place with one more
pub end_more : (shape : Shape) (end : ℕ) (closings : List Closing) (c : Closing) → end_with_closes shape end (closings ++ c ∷ []) ≡ end_with_closes shape end closings + close_entry shape c
end_more shape end [] c = refl
end_more shape end (b ∷ closings) c = end_more shape (end + close_entry shape b) closings c

-- no closes have no records
pub closes_none : (added : List Record) → AreRecordsOfCloses [] added → added ≡ []
closes_none [] are = refl
closes_none (r ∷ added) none = absurd none

-- An opened ledger with the records of one before it, and of closes after these, ends where the closes say.
pub end_now : (v u : Opened) (records added : List Record) (first bytes : List ℕ) (closings : List Closing) → u.shape ≡ v.shape → AreItsRecords v records first → AreItsRecords u (records ++ added) bytes
    → AreRecordsOfCloses closings added → u.end ≡ end_with_closes v.shape v.end closings
end_now v u records added first bytes closings same its now are =
    let follow : MayFollow v.shape records added = subst (λ (s : Shape). MayFollow s records added) same (follow_behind u.shape [] records added now.has.valid) in
    now.has.end
    ∙ ap (λ (s : Shape). length (spelled s (records ++ added))) same
    ∙ spelled_closes v.shape records closings added are follow
    ∙ ap (λ (n : ℕ). end_with_closes v.shape n closings) (sym its.has.end)
