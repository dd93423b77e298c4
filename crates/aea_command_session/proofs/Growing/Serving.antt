-- A run from its beginning on: where it stands before the first message, and what each message that is taken leaves.
use Rattle.std.proofs.Common.{◌≡◌, ⊎_elim, ℕ, ◌≤◌, List, [], ◌∷◌, ◌++◌, length, refl, sym, ◌∙◌, ap, subst, arith, append_assoc}
use Rattle.std.proofs.lemmas.List.{append-nil}
use Rattle.std.proofs.lemmas.List.Concat.{flat_map-append}
use Rattle.aea_lattice.specs.declared.blocks.BlockId.{BlockId}
use Rattle.aea_lattice.specs.declared.grid.Lattice.{Lattice}
use Rattle.aea_lattice.specs.declared.shape.Shape.{Shape}
use Rattle.aea_envelope.specs.Facts.{CellsHaveLengths}
use Rattle.aea_disk.specs.Files.{Files}
use Rattle.aea_disk.specs.State.{State, EveryImage, IsSynced, IsReady}
use Rattle.aea_disk.proofs.Frames.{reads_synced, reads_writes}
use Rattle.aea_disk.proofs.Moments.{during_kept, synced_fixed}
use Rattle.aea_shelf.proofs.Runs.{padded_kept, padded_both, padded_less}
use Rattle.aea_records.specs.Format.{Record}
use Rattle.aea_records.specs.Laws.{HasOneReading}
use Rattle.aea_ledger.specs.Next.{AreItsRecords}
use Rattle.aea_ledger.specs.Recorded.{AreRecordsOf}
use Rattle.aea_ledger.specs.Stops.{HasLedger}
use Rattle.aea_ledger.specs.Values.{Opened, IsThisOne}
use Rattle.aea_archive.specs.Blocks.{IsBlockIn}
use Rattle.aea_archive.specs.Cells.{IsBesides}
use Rattle.aea_archive.specs.Lasts.{AreLastsHonest}
use Rattle.aea_archive.proofs.Cells.{changes_none}
use Rattle.aea_archive.proofs.Stretches.{has_ledger, adds_nothing, all_at}
use Rattle.aea_messages.specs.declared.message.Message.{Message}
use Rattle.aea_machine.specs.Closings.{Closing, closing_in, closings_of, ClosedRecordsJoin}
use Rattle.aea_machine.specs.Machine.{Machine, begun, step, after}
use Rattle.aea_records.specs.Format.{raised_limit}
use Rattle.aea_uploads.specs.Laws.{AreWide}
use Rattle.aea_session.specs.declared.work.Work.{Work}
use Rattle.aea_session.specs.Closes.{AddsCloses, HasClosed, MayHaveClosed}
use Rattle.aea_session.specs.Serving.{Answers, HasServed}
use Rattle.aea_session.specs.Takes.{HasTakeRoom}
use Rattle.aea_command_session.proofs.Began.{Began}
use Rattle.aea_command_session.proofs.Growing.Going.{Changes, blocks_of, Added, HasGone, among_all, joins}
use Rattle.aea_command_session.proofs.Growing.Stepping.{closing_one, step_datas}

-- ---- what a message leaves that was made

-- Records were added by these closes, and all of them are there.
pub record IsDone (v : Work) (m : Machine) (closings : List Closing) (records : List Record) (now next : State) : Type 0 where
  pub added : List Record
  pub closes : AddsCloses v m closings added now next
  pub ledger : HasLedger v.ledger.shape (records ++ added) (next.files 0)
  pub images : EveryImage next (λ c. HasLedger v.ledger.shape (records ++ added) (c 0))

module _ (v u : Work) (m : Machine) (records : List Record) (now next : State) (its : AreItsRecords v.ledger records (now.files 0)) (later : now.moment ≤ next.moment) where
  -- where none is closed, none was added
  done_none : MayHaveClosed v m [] now next → IsDone v m [] records now next
  done_none may = ⊎_elim
      (λ closes. record {
        added = [];
        closes = closes;
        ledger = all_at v.ledger.shape records [] 0 (next.files 0) refl (closes.adds records its).reads;
        images = λ c here. all_at v.ledger.shape records [] 0 (c 0) refl ((closes.adds records its).prefix next.moment c later (omega arith) here);
      })
      (λ one. absurd one.1.are)
      may

  -- and where one is, its record was
  done_one : (c : Closing) → HasClosed v u m (c ∷ []) now next → IsDone v m (c ∷ []) records now next
  done_one c has =
      let all = has.added records its in
      record {
        added = has.r ∷ [];
        closes = has.adds;
        ledger = all.ledger;
        images = λ d here. subst (HasLedger v.ledger.shape (records ++ has.r ∷ [])) (sym (all.synced d here 0)) all.ledger;
      }

  pub done_all : (message : Message) → MayHaveClosed v m (closing_in v.ledger.shape m message) now next
      → ((c : Closing) → closing_in v.ledger.shape m message ≡ c ∷ [] → HasClosed v u m (c ∷ []) now next) → IsDone v m (closing_in v.ledger.shape m message) records now next
  done_all message may closed = ⊎_elim
      (λ none.
      subst (λ (closings : List Closing). IsDone v m closings records now next) (sym none)
      (done_none (subst (λ (closings : List Closing). MayHaveClosed v m closings now next) none may)))
      (λ one. subst (λ (closings : List Closing). IsDone v m closings records now next) (sym one.1) (done_one one.0 (closed one.0 one.1)))
      (closing_one v.ledger.shape m message)

-- the records of a file are those of the ledger that is the file's
its_by : HasOneReading → (v : Opened) (shape : Shape) (records : List Record) (bytes : List ℕ) → IsThisOne v bytes → HasLedger shape records bytes → AreItsRecords v records bytes
its_by reading v shape records bytes this has =
    let same : this.records ≡ records = (reading bytes v.shape shape this.records records v.end _ this.ledger has).1.0 in
    subst (λ (rs : List Record). AreItsRecords v rs bytes) same (record { has = this.has; ledger = this.ledger })

-- ---- a message that was taken

module _ (reading : HasOneReading) (lengths : CellsHaveLengths) (join : ClosedRecordsJoin)
    (reveals : Type 0) (revealed : reveals) (first : Lattice) (records : List Record) (datas : List (List ℕ)) (old : State) where
  -- with the records of its close
  gone_more : (closings : List Closing) (m : Machine) (v u : Work) (now next : State) (message : Message) (code : ℕ) (reply : List ℕ) → Answers reveals m v u message now next code reply
      → HasGone reveals v.ledger.shape first records datas closings m v old now
      → HasGone reveals v.ledger.shape first records datas (closings ++ closing_in v.ledger.shape m message) (step v.ledger.shape m message).state u old next
  unfolding joins
  gone_more closings m v u now next message code reply answers gone =
      let all : List Record = records ++ gone.so.added in
      let moves = answers.moves in
      let leaves = answers.leaves in
      let done = done_all v u m all now next gone.its leaves.writes.time.later message (leaves.ledger revealed m gone.keeps) (λ c is. leaves.closed tt revealed m c gone.keeps is) in
      let nest : all ++ done.added ≡ records ++ (gone.so.added ++ done.added) = append_assoc records gone.so.added done.added in
      record {
        so = joins reveals first records datas closings m v old now gone reading lengths join (closing_in v.ledger.shape m message) done.added next done.closes
            (IsReady now) (HasTakeRoom v message now) ⊥ leaves.writes;
        is_first = gone.is_first;
        same = moves.shape;
        keeps = moves.keeps m gone.keeps;
        its = subst (λ (rs : List Record). AreItsRecords u.ledger rs (next.files 0)) nest
            (its_by reading u.ledger v.ledger.shape (all ++ done.added) (next.files 0) (moves.this revealed).ledger done.ledger);
        fixed = moves.fixed revealed;
        stands = λ is. moves.stands m gone.keeps (gone.stands is);
        follows =
            step_datas v.ledger.shape m message
            ∙ ap (λ (l : List (List ℕ)). l ++ blocks_of (closing_in v.ledger.shape m message)) gone.follows
            ∙ append_assoc datas (blocks_of closings) (blocks_of (closing_in v.ledger.shape m message))
            ∙ ap (λ (l : List (List ℕ)). datas ++ l) (sym (flat_map-append (λ (c : Closing). c.blocks) closings (closing_in v.ledger.shape m message)));
        padded = padded_both v.ledger.shape (IsBlockIn v.ledger.shape first.n) old.files now.files next.files gone.padded
            (padded_less v.ledger.shape (IsBlockIn v.ledger.shape v.heads.lattice.n) (IsBlockIn v.ledger.shape first.n) now.files next.files
            (among_all reveals first records datas closings m v old now gone) (leaves.padded (λ none. none) revealed));
      }

  -- by the shape at the beginning
  gone_step : (shape : Shape) (closings : List Closing) (m : Machine) (v u : Work) (now next : State) (message : Message) (code : ℕ) (reply : List ℕ) → Answers reveals m v u message now next code reply
      → v.ledger.shape ≡ shape → HasGone reveals shape first records datas closings m v old now → HasGone reveals shape first records datas (closings ++ closing_in shape m message) (step shape m message).state u old next
  gone_step shape closings m v u now next message code reply answers same =
      subst (λ (s : Shape). HasGone reveals s first records datas closings m v old now → HasGone reveals s first records datas (closings ++ closing_in s m message) (step s m message).state u old next) same
      (gone_more closings m v u now next message code reply answers)

  module _ {D : Type 0} (state : D → State) (shape : Shape) where
    -- after messages that were taken one after the other
    pub gone_all : (m : Machine) (v w : Work) (d e : D) (messages : List Message) (closings : List Closing) (bytes : List ℕ) → HasGone reveals shape first records datas closings m v old (state d)
        → HasServed reveals state m v d messages bytes w e → HasGone reveals shape first records datas (closings ++ closings_of shape m messages) (after shape m messages) w old (state e)
    gone_all m v w d e [] closings bytes gone served =
        subst (λ (cs : List Closing). HasGone reveals shape first records datas cs m w old (state e)) (sym (append-nil closings))
        (subst (λ (x : D). HasGone reveals shape first records datas closings m w old (state x)) (sym served.1)
        (subst (λ (x : Work). HasGone reveals shape first records datas closings m x old (state d)) (sym served.0) gone))
    gone_all m v w d e (message ∷ messages) closings bytes gone served =
        let u : Work = served.0 in
        let f : D = served.1 in
        let n : Machine = (step shape m message).state in
        let then = gone_step shape closings m v u (state d) (state f) message served.2 served.3 served.5 gone.same gone in
        subst (λ (cs : List Closing). HasGone reveals shape first records datas cs (after shape n messages) w old (state e)) (append_assoc closings (closing_in shape m message) (closings_of shape n messages))
        (gone_all n u w f e messages (closings ++ closing_in shape m message) served.4 then
        (subst (λ (s : Shape). HasServed reveals state (step s m message).state u f messages served.4 w e) gone.same served.7))

-- a block of the first nodes is one of X and W
pub among_first : (reveals : Type 0) (shape : Shape) (first : Lattice) (records : List Record) (datas : List (List ℕ)) (closings : List Closing) (m : Machine) (v : Work) (old now : State)
    → HasGone reveals shape first records datas closings m v old now → (b : BlockId) → IsBlockIn shape first.n b → IsBlockIn shape v.heads.lattice.n b
among_first reveals shape first records datas closings m v old now gone =
    subst (λ (s : Shape). HasGone reveals s first records datas closings m v old now → (b : BlockId) → IsBlockIn s first.n b → IsBlockIn s v.heads.lattice.n b) gone.same
    (λ here. among_all reveals first records datas closings m v old now here) gone

-- ---- before the first message

module _ (reading : HasOneReading) (reveals : Type 0) (revealed : reveals) (v : Opened) (w : Work) (old now : State) (began : Began reveals v w old now) (synced : IsSynced old)
    (records : List Record) (its : AreItsRecords v records (old.files 0)) (datas : List (List ℕ)) where
  start_is : HasLedger v.shape records (old.files 0)
  start_is = has_ledger v records (old.files 0) its

  no_more : records ≡ records ++ []
  no_more = sym (append-nil records)

  -- the session began, and only read
  added_none : Added reveals ⊥ v.shape v.lattice records datas [] old now
  added_none = record {
    added = [];
    longer = v.lattice;
    payload = λ b. [];
    are = refl;
    wide = λ b on. absurd (let a = on.after in let m = on.most in omega (arith, a, m));
    adds = adds_nothing reading v.shape records [] (λ b. []) old now began.reads.earlier
        (during_kept old now (λ c. HasLedger v.shape records (c 0)) began.reads.crash (λ c here. subst (HasLedger v.shape records) (sym (synced c here 0)) start_is))
        (subst (λ (c : Files). HasLedger v.shape records (c 0)) (sym (began.reads.contents revealed)) start_is);
    long = (let same = ap (λ (c : Files). length (c 0)) (began.reads.contents revealed) in omega (arith, same));
    writes = reads_writes reveals ⊥ ⊥ ⊥ (Changes v.shape v.lattice.n) old now (λ none. absurd none) (λ none. absurd none)
        (λ c. changes_none v.shape raised_limit (IsBlockIn v.shape v.lattice.n) (IsBesides v.shape) c) began.reads;
    more = λ is valid.
        subst (λ (ds : List (List ℕ)). AreRecordsOf v.shape (records ++ []) ds) (sym (append-nil datas))
        (subst (λ (rs : List Record). AreRecordsOf v.shape rs datas) no_more is.0);
  }

  pub gone_none : length datas ≡ v.lattice.n → AreWide v.shape datas → HasGone reveals v.shape v.lattice records datas [] (begun datas v.objects) w old now
  unfolding added_none
  gone_none long wide = record {
    so = added_none;
    is_first = its.has.lattice;
    same = ap (λ (o : Opened). o.shape) began.ledger;
    keeps = began.keeps datas long wide;
    its = subst (λ (o : Opened). AreItsRecords o (records ++ []) (now.files 0)) (sym began.ledger)
        (subst (λ (rs : List Record). AreItsRecords v rs (now.files 0)) no_more (subst (λ (c : Files). AreItsRecords v records (c 0)) (sym (began.reads.contents revealed)) its));
    fixed = synced_fixed now 0 (reads_synced reveals ⊥ old now revealed began.reads synced);
    stands = λ is. began.stands revealed records datas its.has is.0 (subst (λ (ds : List (List ℕ)). AreLastsHonest v.shape v.lattice ds datas old.files) (sym its.has.digests) is.1);
    follows = sym (append-nil datas);
    padded = padded_kept v.shape (IsBlockIn v.shape v.lattice.n) old.files now.files (began.reads.contents revealed);
  }
