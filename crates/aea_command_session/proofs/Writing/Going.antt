-- Messages that were taken one after the other: what they wrote, and what one more writes.
use Rattle.std.proofs.Common.{◌≡◌, ⊎_elim, ℕ, ◌≤◌, Bool, true, List, [], ◌∷◌, ◌++◌, length, Option, refl, sym, ◌∙◌, ap, subst, arith, append_assoc}
use Rattle.std.proofs.lemmas.List.{append-nil}
use Rattle.aea_lattice.specs.declared.shape.Shape.{Shape}
use Rattle.aea_disk.specs.Ends.{EndsAt}
use Rattle.aea_disk.specs.Files.{Files}
use Rattle.aea_disk.specs.Frames.{OnlyWrites}
use Rattle.aea_disk.specs.State.{State, IsReady}
use Rattle.aea_disk.proofs.Frames.{reads_writes, writes_both}
use Rattle.aea_records.specs.Format.{Record, limit_when, raised_limit}
use Rattle.aea_records.proofs.OneMore.{nodes_of-append}
use Rattle.aea_ledger.specs.Next.{AreItsRecords}
use Rattle.aea_ledger.specs.Values.{Opened, HasSomeRecords, IsThisOne}
use Rattle.aea_ledger.proofs.Readying.{ready_after}
use Rattle.aea_archive.specs.Blocks.{IsBlockIn}
use Rattle.aea_archive.specs.Cells.{IsBesides, ChangesArchive, HaveSitesRoom}
use Rattle.aea_archive.proofs.Cells.{changes_none, changes_both, changes_less, room_later}
use Rattle.aea_messages.specs.declared.message.Message.{Message}
use Rattle.aea_machine.specs.Closings.{Closing, closing_in, closings_of}
use Rattle.aea_machine.specs.Machine.{Machine, begun, step}
use Rattle.aea_uploads.specs.Laws.{AreWide}
use Rattle.aea_session.specs.declared.work.Work.{Work}
use Rattle.aea_session.specs.Closes.{AreRecordsOfCloses}
use Rattle.aea_session.specs.Serving.{Answers}
use Rattle.aea_session.specs.Stands.{KeepsMachine}
use Rattle.aea_session.specs.Takes.{HasTakeRoom}
use Rattle.aea_command_store.proofs.PutLemmas.Opening.{changes}
use Rattle.aea_command_session.specs.Closes.{closes_of}
use Rattle.aea_command_session.specs.Space.{BeginsWith, FitsMessages}
use Rattle.aea_command_session.proofs.Began.{Began}
use Rattle.aea_command_session.proofs.Writing.Entries.{closes_more}
use Rattle.aea_command_session.proofs.Writing.Rooming.{room_of, kept_now, adding_now}
use Rattle.aea_command_session.proofs.Writing.Steps.{closing_few, its_none, its_one}

-- The ledger has records of these closes after those that it had, as it is opened and as its file reads.
pub record HasGoneOn (u : Opened) (bytes : List ℕ) (closings : List Closing) (records : List Record) : Type 0 where
  pub added : List Record
  pub are : AreRecordsOfCloses closings added
  pub its : AreItsRecords u (records ++ added) bytes

-- Of messages that were taken, one after the other, over an opened ledger, with a data list of as many blocks as it has nodes: the
-- session after them, which keeps the state m of the machine; their closes, whose records the ledger has; and all that was written.
pub record HasWritten (reveals : Type 0) (v : Opened) (datas : List (List ℕ)) (left : Option (List ℕ)) (old now : State) (u : Work) (early : List Message) (m : Machine) : Type 0 where
  pub keeps : KeepsMachine u m
  pub shape : u.ledger.shape ≡ v.shape
  pub some : HasSomeRecords u.ledger
  pub nodes : v.lattice.n ≤ u.ledger.lattice.n
  pub closings : List Closing
  pub closes : (late : List Message) → closes_of v datas (early ++ late) ≡ closings ++ closings_of v.shape m late
  pub ledger : reveals → (records : List Record) → AreItsRecords v records (old.files 0) → HasGoneOn u.ledger (now.files 0) closings records
  pub writes : OnlyWrites reveals (IsReady old) (FitsMessages v left old) ⊥ (changes v) old now

-- before the first message
pub written_none : (reveals : Type 0) (v : Opened) (datas : List (List ℕ)) (left : Option (List ℕ)) (old now : State) (w : Work) → length datas ≡ v.lattice.n → AreWide v.shape datas → HasSomeRecords v
    → Began reveals v w old now → HasWritten reveals v datas left old now w [] (begun datas v.objects)
written_none reveals v datas left old now w long wide some began = record {
  keeps = began.keeps datas long wide;
  shape = ap (λ (l : Opened). l.shape) began.ledger;
  some = subst HasSomeRecords (sym began.ledger) some;
  nodes = (let same = ap (λ (l : Opened). l.lattice.n) began.ledger in omega (arith, same));
  closings = [];
  closes = λ late. refl;
  ledger = λ revealed records its. record {
    added = [];
    are = tt;
    its = subst (λ (rs : List Record). AreItsRecords w.ledger rs (now.files 0)) (sym (append-nil records))
        (subst (λ (l : Opened). AreItsRecords l records (now.files 0)) (sym began.ledger)
        (subst (λ (c : Files). AreItsRecords v records (c 0)) (sym (began.reads.contents revealed)) its));
  };
  writes = reads_writes reveals (IsReady old) (FitsMessages v left old) ⊥ (changes v) old now (λ is. is) (λ fits. fits.some)
      (changes_none v.shape (limit_when v.raised) (IsBlockIn v.shape v.lattice.n) (IsBesides v.shape)) began.reads;
}

-- the change that a message makes
abbrev pub MessageChanges : Work → Files → Files → Type 0
MessageChanges u = ChangesArchive u.ledger.shape raised_limit (IsBlockIn u.ledger.shape u.heads.lattice.n) (IsBesides u.ledger.shape)

module _ (reveals : Type 0) (v : Opened) (datas : List (List ℕ)) (long : length datas ≡ v.lattice.n) (wide : AreWide v.shape datas) (left : Option (List ℕ)) (old now : State) (raised : v.raised ≡ true)
    (this : reveals → IsThisOne v (old.files 0)) (u : Work) (early : List Message) (m : Machine) (gone : HasWritten reveals v datas left old now u early m) (message : Message) where
  -- it leaves what there was at the beginning
  narrow : (c d : Files) → MessageChanges u c d → changes v c d
  narrow c d change =
      let as_shape = subst (λ (s : Shape). ChangesArchive s raised_limit (IsBlockIn s u.heads.lattice.n) (IsBesides s) c d) gone.shape change in
      let as_limit = subst (λ (b : Bool). ChangesArchive v.shape (limit_when b) (IsBlockIn v.shape u.heads.lattice.n) (IsBesides v.shape) c d) (sym raised) as_shape in
      changes_less v.shape (limit_when v.raised) (IsBlockIn v.shape u.heads.lattice.n) (IsBlockIn v.shape v.lattice.n) (IsBesides v.shape) (IsBesides v.shape) c d
      (λ a on. record { after = on.after; most = (let most = on.most in let grown = gone.keeps.grown.nodes in let nodes = gone.nodes in omega (arith, most, grown, nodes)); used = on.used })
      (λ f past. past) as_limit

  -- the closes with one message more
  closes_next : (late : List Message) → closes_of v datas ((early ++ message ∷ []) ++ late) ≡ (gone.closings ++ closing_in u.ledger.shape m message) ++ closings_of v.shape (step u.ledger.shape m message).state late
  closes_next late =
      ap (closes_of v datas) (append_assoc early (message ∷ []) late)
      ∙ gone.closes (message ∷ late)
      ∙ sym (append_assoc gone.closings (closing_in v.shape m message) (closings_of v.shape (step v.shape m message).state late))
      ∙ ap (λ (s : Shape). (gone.closings ++ closing_in s m message) ++ closings_of v.shape (step s m message).state late) (sym gone.shape)

  its_start : (revealed : reveals) → AreItsRecords v (this revealed).records (old.files 0)
  its_start revealed = let one = this revealed in record { has = one.has; ledger = one.ledger }

  -- the space for it
  room_now : reveals → ((b c : List ℕ) (n : ℕ) → (one : EndsAt b n) (two : EndsAt c n) → one.records ≡ two.records → now.keeps b → now.keeps c) → BeginsWith left early
      → ((c : Closing) → closing_in u.ledger.shape m message ≡ c ∷ [] → BeginsWith left (early ++ message ∷ [])) → FitsMessages v left old → HasTakeRoom u message now
  room_now revealed alike begins beyond fits =
      let records = (this revealed).records in
      let its = its_start revealed in
      let g = gone.ledger revealed records its in
      let time = gone.writes.time in
      let closes : closes_of v datas early ≡ gone.closings = ap (closes_of v datas) (sym (append-nil early)) ∙ gone.closes [] ∙ append-nil gone.closings in
      let kept : now.keeps (now.files 0) = kept_now v datas long wide left old raised fits now time u.ledger gone.shape records g.added early its g.its begins alike gone.closings closes g.are in
      room_of u m now message
      (subst (λ (s : Shape). HaveSitesRoom s raised_limit now) (sym gone.shape) (room_later v.shape raised_limit old now time (fits.sites raised)))
      kept gone.keeps
      (λ c is. adding_now v datas long wide left old raised fits now time u.ledger gone.shape records g.added early its g.its begins kept gone.closings g.are message (beyond c is) c
      (ap (closes_of v datas) (sym (append-nil (early ++ message ∷ []))) ∙ closes_next [] ∙ append-nil (gone.closings ++ closing_in u.ledger.shape m message) ∙ ap (λ (l : List Closing). gone.closings ++ l) is))

  -- all the writes up to its end
  pub writes_next : ((b c : List ℕ) (k n : ℕ) → EndsAt c n → now.takes 0 b k → now.takes 0 c n)
      → ((b c : List ℕ) (n : ℕ) → (one : EndsAt b n) (two : EndsAt c n) → one.records ≡ two.records → now.keeps b → now.keeps c) → BeginsWith left early
      → ((c : Closing) → closing_in u.ledger.shape m message ≡ c ∷ [] → BeginsWith left (early ++ message ∷ [])) → (fault : Type 0) (next : State)
      → OnlyWrites reveals (IsReady now) (HasTakeRoom u message now) fault (MessageChanges u) now next → OnlyWrites reveals (IsReady old) (FitsMessages v left old) fault (changes v) old next
  writes_next ended alike begins beyond fault next writes =
      writes_both reveals (IsReady old) (IsReady old) (IsReady now) (FitsMessages v left old) (FitsMessages v left old) (HasTakeRoom u message now) ⊥ fault (changes v) (MessageChanges u) (changes v) old now next (λ none. none)
      (λ c d change. change)
      (λ c d e one two. changes_both v.shape (limit_when v.raised) (IsBlockIn v.shape v.lattice.n) (IsBesides v.shape) c d e one (narrow d e two))
      (λ revealed ready. ready)
      (λ revealed ready change goes. let g = gone.ledger revealed (this revealed).records (its_start revealed) in ready_after old now u.ledger.shape ((this revealed).records ++ g.added) u.ledger.end ended g.its.ledger goes ready)
      (λ revealed fits. fits) (λ revealed fits change time. room_now revealed alike begins beyond fits) gone.writes writes

  -- and what there is after it
  pub written_more : ((b c : List ℕ) (k n : ℕ) → EndsAt c n → now.takes 0 b k → now.takes 0 c n)
      → ((b c : List ℕ) (n : ℕ) → (one : EndsAt b n) (two : EndsAt c n) → one.records ≡ two.records → now.keeps b → now.keeps c) → BeginsWith left (early ++ message ∷ []) → BeginsWith left early
      → (w : Work) (next : State) (code : ℕ) (reply : List ℕ) → Answers reveals m u w message now next code reply → HasWritten reveals v datas left old next w (early ++ message ∷ []) (step u.ledger.shape m message).state
  written_more ended alike beyond begins w next code reply answers =
      let moves = answers.moves in
      let leaves = answers.leaves in
      let keeps = gone.keeps in
      let goes = moves.goes m keeps gone.some.0 gone.some.1 in
      record {
        keeps = moves.keeps m keeps;
        shape = moves.shape ∙ gone.shape;
        some = (gone.some.0 ++ goes.added, goes.has);
        nodes = (let fewer = gone.nodes in omega (arith, fewer, gone.some.1.lattice.n, goes.has.lattice.n, nodes_of-append gone.some.0 goes.added));
        closings = gone.closings ++ closing_in u.ledger.shape m message;
        closes = closes_next;
        ledger = λ revealed records its.
            let g = gone.ledger revealed records its in
            ⊎_elim
            (λ (none : closing_in u.ledger.shape m message ≡ []). record {
              added = g.added;
              are = subst (λ (cs : List Closing). AreRecordsOfCloses cs g.added) (sym (ap (λ (l : List Closing). gone.closings ++ l) none ∙ append-nil gone.closings)) g.are;
              its = its_none reveals revealed u w m message now next keeps moves leaves (records ++ g.added) g.its none;
            })
            (λ (one : (c : Closing) × (closing_in u.ledger.shape m message ≡ c ∷ [])).
            let last = its_one reveals revealed u w m message now next keeps moves leaves (records ++ g.added) g.its one.0 one.1 in
            record {
              added = g.added ++ last.0 ∷ [];
              are = subst (λ (cs : List Closing). AreRecordsOfCloses cs (g.added ++ last.0 ∷ [])) (sym (ap (λ (l : List Closing). gone.closings ++ l) one.1)) (closes_more gone.closings g.added one.0 last.0 g.are last.1);
              its = subst (λ (rs : List Record). AreItsRecords w.ledger rs (next.files 0)) (append_assoc records g.added (last.0 ∷ [])) last.2;
            })
            (closing_few u.ledger.shape m message);
        writes = writes_next ended alike begins (λ c is. beyond) ⊥ next leaves.writes;
      }
