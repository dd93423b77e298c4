-- The space for one more message, once some were taken, as a part of that for all.
use Rattle.std.proofs.Common.{◌≡◌, ◌≢◌, ℕ, ◌+◌, List, [], ◌∷◌, ◌++◌, length, Option, true, sym, ◌∙◌, ap, subst, arith, length-append}
use Rattle.std.proofs.lemmas.List.{append-nil}
use Rattle.aea_lattice.specs.declared.shape.Shape.{Shape}
use Rattle.aea_disk.specs.Ends.{EndsAt}
use Rattle.aea_disk.specs.State.{State, Passes}
use Rattle.aea_records.specs.Format.{Record, raised_limit}
use Rattle.aea_ledger.specs.Next.{AreItsRecords}
use Rattle.aea_ledger.specs.Taking.{FitsAdding, LedgerEnds}
use Rattle.aea_ledger.specs.Values.{Opened}
use Rattle.aea_ledger.proofs.Ends.{ledger_ends}
use Rattle.aea_archive.specs.Cells.{HaveSitesRoom}
use Rattle.aea_messages.specs.declared.message.Message.{Message}
use Rattle.aea_messages.specs.declared.message.Message.TheVariants.{Open, Chunk, Close, Abort, Read, Patrol}
use Rattle.aea_machine.specs.Closings.{Closing, closing_in}
use Rattle.aea_machine.specs.Machine.{Machine}
use Rattle.aea_uploads.specs.Laws.{AreWide}
use Rattle.aea_session.specs.declared.work.Work.{Work}
use Rattle.aea_session.specs.Closes.{AreRecordsOfCloses, close_entry}
use Rattle.aea_session.specs.Stands.{KeepsMachine}
use Rattle.aea_session.specs.Takes.{HasTakeRoom}
use Rattle.aea_command_store.proofs.IngestLemmas.Rooming.{adding_after}
use Rattle.aea_command_session.specs.Closes.{closes_of}
use Rattle.aea_command_session.specs.Space.{BeginsWith, FitsMessages, end_with_closes}
use Rattle.aea_command_session.proofs.Writing.Entries.{closes_none, closes_many, end_more, end_now}

-- ---- of a message

-- The disk has space for a message where it has that for all rows, to sync the ledger that is there, and, if the message is a
-- close, for the record of that of one state that the session keeps.
pub room_of : (u : Work) (m : Machine) (now : State) (message : Message) → HaveSitesRoom u.ledger.shape raised_limit now → now.keeps (now.files 0) → KeepsMachine u m
    → ((c : Closing) → closing_in u.ledger.shape m message ≡ c ∷ [] → FitsAdding now 1 (u.ledger.end + close_entry u.ledger.shape c)) → HasTakeRoom u message now
room_of u m now (Open slot name) sites sync keeps ledger = (sites, sync)
room_of u m now (Chunk slot bytes) sites sync keeps ledger = (sites, sync)
room_of u m now (Close slot) sites sync keeps ledger = record { sites = sites; sync = sync; machine = m; keeps = keeps; ledger = ledger }
room_of u m now (Abort slot) sites sync keeps ledger = (sites, sync)
room_of u m now (Read name) sites sync keeps ledger = (sites, sync)
room_of u m now (Patrol first count) sites sync keeps ledger = (sites, sync)

-- ---- of the ledger

some_closes : (c : Closing) (closings : List Closing) → c ∷ closings ≢ []
some_closes c closings e = let h : c ∷ closings ≡ [] = e in cc

some_more : (closings : List Closing) (c : Closing) → closings ++ c ∷ [] ≢ []
some_more [] c e = some_closes c [] e
some_more (b ∷ closings) c e = some_closes b (closings ++ c ∷ []) e

-- where a ledger ends, by its gates and lengths alone, that an opened ledger is
ends_there : (u : Opened) (records : List Record) (bytes : List ℕ) (end : ℕ) → u.end ≡ end → AreItsRecords u records bytes → LedgerEnds bytes records end
ends_there u records bytes end is its = subst (LedgerEnds bytes records) is (ledger_ends bytes u.shape records u.end its.ledger)

module _ (v : Opened) (datas : List (List ℕ)) (long : length datas ≡ v.lattice.n) (wide : AreWide v.shape datas) (left : Option (List ℕ)) (old : State) (raised : v.raised ≡ true)
    (fits : FitsMessages v left old) where
  -- for the records of the closes of some first messages
  fits_closes : (messages : List Message) (closings : List Closing) → BeginsWith left messages → closes_of v datas messages ≡ closings → closings ≢ []
      → FitsAdding old (length closings) (end_with_closes v.shape v.end closings)
  fits_closes messages closings begins are some =
      subst (λ (cs : List Closing). FitsAdding old (length cs) (end_with_closes v.shape v.end cs)) are (fits.ledger raised datas long wide messages begins (λ none. some (sym are ∙ none)))

  module _ (now : State) (time : Passes old now) (u : Opened) (same : u.shape ≡ v.shape) (records added : List Record) (early : List Message)
      (its : AreItsRecords v records (old.files 0)) (its_now : AreItsRecords u (records ++ added) (now.files 0)) (begins : BeginsWith left early) where
    -- there is space to sync the ledger that is there once these messages were taken
    pub kept_now : ((b c : List ℕ) (n : ℕ) → (one : EndsAt b n) (two : EndsAt c n) → one.records ≡ two.records → now.keeps b → now.keeps c)
        → (closings : List Closing) → closes_of v datas early ≡ closings → AreRecordsOfCloses closings added → now.keeps (now.files 0)
    kept_now alike [] closes are =
        let first = ledger_ends (old.files 0) v.shape records v.end its.ledger in
        let here = ends_there u (records ++ added) (now.files 0) v.end (end_now v u records added (old.files 0) (now.files 0) [] same its its_now are) its_now in
        let all : length (records ++ added) ≡ length records = ap length (ap (λ (l : List Record). records ++ l) (closes_none added are) ∙ append-nil records) in
        alike (old.files 0) (now.files 0) v.end first.ends here.ends (omega (arith, first.count, here.count, all)) (time.syncs (old.files 0) fits.some.sync)
    kept_now alike (c ∷ closings) closes are =
        let first = ledger_ends (old.files 0) v.shape records v.end its.ledger in
        let place = end_with_closes v.shape v.end (c ∷ closings) in
        let here = ends_there u (records ++ added) (now.files 0) place (end_now v u records added (old.files 0) (now.files 0) (c ∷ closings) same its its_now are) its_now in
        let fit = fits_closes early (c ∷ closings) begins closes (some_closes c closings) in
        time.syncs (now.files 0) (fit.then (now.files 0) v.end first.ends here.ends (omega (arith, first.count, here.count, length-append records added, closes_many (c ∷ closings) added are)))

    -- and to add the record of one close more
    pub adding_now : now.keeps (now.files 0) → (closings : List Closing) → AreRecordsOfCloses closings added → (message : Message) → BeginsWith left (early ++ message ∷ []) → (c : Closing)
        → closes_of v datas (early ++ message ∷ []) ≡ closings ++ c ∷ [] → FitsAdding now 1 (u.end + close_entry u.shape c)
    adding_now kept closings are message begins_more c closes =
        let fit = fits_closes (early ++ message ∷ []) (closings ++ c ∷ []) begins_more closes (some_more closings c) in
        let many : length (closings ++ c ∷ []) ≡ length added + 1 = omega (arith, length-append closings (c ∷ []), closes_many closings added are) in
        let place : end_with_closes v.shape v.end (closings ++ c ∷ []) ≡ u.end + close_entry u.shape c =
        end_more v.shape v.end closings c
        ∙ ap (λ (n : ℕ). n + close_entry v.shape c) (sym (end_now v u records added (old.files 0) (now.files 0) closings same its its_now are))
        ∙ ap (λ (s : Shape). u.end + close_entry s c) (sym same) in
        adding_after old now v.shape u.shape records v.end u.end its.ledger time added its_now.ledger kept (u.end + close_entry u.shape c)
        (subst (FitsAdding old (length added + 1)) place (subst (λ (k : ℕ). FitsAdding old k (end_with_closes v.shape v.end (closings ++ c ∷ []))) many fit))
