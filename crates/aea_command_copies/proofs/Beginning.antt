-- An archive is opened over a disk that keeps copies up, and copies are begun.
use Rattle.std.proofs.Common.{◌≡◌, ◌⊎◌, inl, inr, ⊎_elim, ℕ, ◌-◌, ◌^◌, ◌<◌, ◌≤◌, Bool, true, false, List, length, get_or, Result, Ok, Err, refl, sym, ◌∙◌, ap, subst, arith}
use Rattle.std.proofs.lemmas.Bool.{cases_lt, false≢true}
use Rattle.aea_faults.specs.Faults.{Rose}
use Rattle.aea_disk.specs.Count.{one_more}
use Rattle.aea_disk.specs.Ends.{EndsAt, Reaches}
use Rattle.aea_disk.specs.Files.{KeepsFiles}
use Rattle.aea_disk.specs.Frames.{OnlyReads}
use Rattle.aea_disk.specs.State.{State, KeepsLent, Passes, Follows, During, KeepsImages, IsSynced, IsReady}
use Rattle.aea_disk.proofs.Moments.{lasts_lent, goes_passes, goes_lent, goes_both}
use Rattle.aea_copies.specs.Format.{whole_copy}
use Rattle.aea_copies.specs.Kept.{IsCopyFile}
use Rattle.aea_ledger.specs.Values.{Opened}
use Rattle.aea_ledger.proofs.Ends.{ledger_ends}
use Rattle.aea_mirror.specs.declared.tail.Tail.{Tail}
use Rattle.aea_mirror.specs.Guarding.{Guards}
use Rattle.aea_mirror.specs.Mirrored.{Kept, mirror_state}
use Rattle.aea_mirror.specs.Shown.{AreAs}
use Rattle.aea_mirror.specs.Starting.{ArePiecesOf, MayBeStarted, FitsStart}
use Rattle.aea_mirror.specs.States.{outer_all}
use Rattle.aea_command.specs.declared.refusal.Failure.{Failure}
use Rattle.aea_command.specs.declared.refusal.Failure.TheVariants as failure
use Rattle.aea_command.specs.Openings.{Opens}
use Rattle.aea_command_copies.specs.Copies.{FitsBeginning, BeginsOver}
use Rattle.aea_command_copies.proofs.Over.{shown_near, stays_over, copies_over, during_over, near_over, images_over, opening_over}

-- What is known of the calls that begin copies, where they are off: over the lent disk from mid to new, of a Mirror that keeps j before
-- and l after them.
pub record Starts (reveals fault begun : Type 0) (mid new : State) (j l : Kept) : Type 1 where
  pub off : j.on ≡ false
  pub either : begun ⊎ fault
  pub others : reveals → KeepsFiles (λ f. f ≤ 64) mid.files new.files
  pub crash : Follows (KeepsFiles (λ f. f ≤ 64)) mid new
  pub shown : KeepsImages (mirror_state reveals mid j) (mirror_state reveals new l)
  pub time : Passes mid new
  -- each fault is counted once
  pub kept : mid.faults ≤ new.faults
  pub counted : ((l.own ≡ j.own) × (fault → Rose mid.faults new.faults) × ((fault → ⊥) → new.faults ≡ mid.faults)) ⊎ (fault × (l.own ≡ one_more j.own) × (new.faults ≡ mid.faults))
  -- a dead one does nothing
  pub dead : j.dead ≡ true → new ≡ mid
  pub any_moment : reveals → j.dead ≡ false → (pieces : List (List ℕ)) → ArePiecesOf (mid.files 0) pieces → During mid new (MayBeStarted pieces)
  pub handed : reveals → j.dead ≡ false → (last : ℕ) → EndsAt (mid.files 0) last → fault → Rose mid.faults new.faults
  pub sure : reveals → j.dead ≡ false → mid.free → FitsStart mid → fault → ⊥
  pub set : begun → l.on ≡ true
  pub made : begun → reveals → (pieces : List (List ℕ)) × ArePiecesOf (mid.files 0) pieces × ((f : ℕ) → IsCopyFile f → new.files f ≡ whole_copy pieces)
  pub synced : begun → reveals → IsSynced new

module _ (reveals : Type 0) (old mid : State) (k j : Kept) (first second : Tail) (synced : reveals → IsSynced (mirror_state reveals old k)) (guards : reveals → ∥ Guards old k.on k.end first second ∥₁) where
  -- the archive was not opened, or nothing was done then
  pub unbegun_over : (opening : Result Opened Failure) → Opens reveals (mirror_state reveals old k) (mirror_state reveals mid j) opening → (fault begun : Type 0) → (fault → opening ≡ Err failure.Disk) → (opening ≡ Err failure.Disk → fault) → (begun → ⊥)
      → BeginsOver reveals k.on fault begun old mid (mirror_state reveals old k) (mirror_state reveals mid j)
  unbegun_over opening opens fault begun from to none =
      let reads = opens.reads in
      let held : reveals → During old mid (AreAs k.on) = copies_over reveals old mid k j k.end first second guards reads.time in
      record {
        makes = record {
          none = λ no fine revealed off t c after before here. subst (λ (b : Bool). AreAs b c) off (held revealed t c after before here);
          made = λ is. absurd (none is);
          synced = λ is. absurd (none is);
          others = λ revealed. shown_near mid.files old.files (reads.contents revealed);
          stays = stays_over reveals old mid k j synced reads.crash;
          any_moment = λ revealed off pieces are t c after before here. inl (subst (λ (b : Bool). AreAs b c) off (held revealed t c after before here));
          good = λ revealed on t c after before here. subst (λ (b : Bool). AreAs b c) on (held revealed t c after before here);
        };
        goes = goes_lent _ _ _ _ _ _ old mid (lasts_lent _ _ reads.time.lasts);
        set = λ is. absurd (none is);
        contents = reads.contents;
        images = reads.crash;
        stops = opens.stops;
        kept = reads.kept;
        cause = λ f. reads.cause (from f);
        still = λ no. reads.still (λ is. no (to is));
        beneath = λ revealed ready f. reads.beneath revealed ready (from f);
        in_room = λ revealed ready fits f. (reads.sure revealed ready fits.some).0 (from f);
      }

  -- or copies were begun
  module _ (v : Opened) (opens : Opens reveals (mirror_state reveals old k) (mirror_state reveals mid j) (Ok v)) (new : State) (l : Kept) (fault begun : Type 0) (none : k.own ≡ 0) (starts : Starts reveals fault begun mid new j l) where
    reads : OnlyReads reveals (let r : Result Opened Failure = Ok v in r ≡ Err failure.Disk) (mirror_state reveals old k) (mirror_state reveals mid j)
    reads = opens.reads

    lent : KeepsLent (mirror_state reveals old k).lent (mirror_state reveals mid j).lent
    lent = lasts_lent _ _ reads.time.lasts

    ok_disk : (let r : Result Opened Failure = Ok v in r ≡ Err failure.Disk) → ⊥
    ok_disk e = cc

    ledger : reveals → mid.files 0 ≡ old.files 0
    ledger revealed = shown_near mid.files old.files (reads.contents revealed) 0 (omega arith)

    near : reveals → (f : ℕ) → f ≤ 64 → new.files f ≡ old.files f
    near revealed f le = starts.others revealed f le ∙ shown_near mid.files old.files (reads.contents revealed) f le

    held : reveals → During old mid (AreAs k.on)
    held = copies_over reveals old mid k j k.end first second guards reads.time

    was_off : k.on ≡ false
    was_off = sym lent.set ∙ starts.off

    late : (b : Bool) → j.dead ≡ b → reveals → (pieces : List (List ℕ)) → ArePiecesOf (mid.files 0) pieces → During mid new (MayBeStarted pieces)
    late true dead revealed pieces are =
        let later = reads.time.later in
        subst (λ (u : State). During mid u (MayBeStarted pieces)) (sym (starts.dead dead))
        (λ t c from to here. inl (subst (λ (b : Bool). AreAs b c) was_off (held revealed t c (omega (arith, later, from)) to here)))
    late false alive revealed pieces are = starts.any_moment revealed alive pieces are

    -- the records of the archive that was opened end
    ends : reveals → EndsAt (old.files 0) v.end
    ends revealed = let one = opens.this_one revealed in (ledger_ends (old.files 0) v.shape one.records v.end one.ledger).ends

    ends_then : reveals → EndsAt (mid.files 0) v.end
    ends_then revealed =
        let e = ends revealed in
        let same = ledger revealed in
        record {
          header = ap (λ (b : List ℕ). get_or b 0 0) same ∙ e.header;
          records = e.records;
          reaches = subst (λ (b : List ℕ). Reaches b 0 e.records 17 v.end) (sym same) e.reaches;
          there = subst (λ (b : List ℕ). v.end < length b) (sym same) e.there;
          shut = λ is. e.shut (ap (λ (b : List ℕ). get_or b v.end 0) (sym same) ∙ is);
        }

    fits_then : reveals → FitsBeginning (mirror_state reveals old k) → FitsStart mid
    unfolding ends_then ends
    fits_then revealed fits =
        let e = ends revealed in
        record {
          last = v.end;
          ends = ends_then revealed;
          copies = record { first = lent.room 65 _ (fits.first v.end e); second = lent.room 66 _ (fits.second v.end e) };
          sync = subst mid.keeps (sym (ledger revealed)) (lent.syncs _ fits.sync);
        }

    pub begun_over : BeginsOver reveals k.on fault begun old new (mirror_state reveals old k) (mirror_state reveals new l)
    begun_over = record {
      makes = record {
        none = λ no fine. absurd (⊎_elim no fine starts.either);
        made = λ is revealed. let m = starts.made is revealed in (m.0, subst (λ (b : List ℕ). ArePiecesOf b m.0) (ledger revealed) m.1, m.2);
        synced = starts.synced;
        others = near;
        stays = λ revealed. near_over reveals old mid new k j reads.time starts.time (stays_over reveals old mid k j synced reads.crash revealed) starts.crash;
        any_moment = λ revealed off pieces are.
            during_over reveals old mid new k j (MayBeStarted pieces) reads.time starts.time
            (λ t c after before here. inl (subst (λ (b : Bool). AreAs b c) off (held revealed t c after before here)))
            (late j.dead refl revealed pieces (subst (λ (b : List ℕ). ArePiecesOf b pieces) (sym (ledger revealed)) are));
        good = λ revealed on. absurd (false≢true (sym was_off ∙ on));
      };
      goes = goes_both old mid new (goes_lent _ _ _ _ _ _ old mid (lasts_lent _ _ reads.time.lasts)) (goes_passes mid new starts.kept starts.time);
      set = starts.set;
      contents = λ revealed. outer_all new.files old.files (near revealed);
      images = images_over reveals old mid new k j l reads.time starts.time reads.crash starts.shown;
      stops = λ revealed. opening_over reveals old mid new k j l reads.time starts.time starts.shown (opens.stops revealed);
      kept = kept_on;
      cause = caused;
      still = λ no. stays no;
      beneath = fails;
      in_room = λ revealed ready fits f.
          let alive = (reads.goes revealed ready (inl fits.some) 0 _ ready.0 ready.1).sound.alive in
          starts.sure revealed alive (lent.free fits.free) (fits_then revealed fits) f;
    }
      where
        same_count : (mirror_state reveals mid j).faults ≡ (mirror_state reveals old k).faults
        same_count = reads.still ok_disk

        kept_on : (mirror_state reveals old k).faults ≤ (mirror_state reveals new l).faults
        kept_on =
            let more = starts.kept in
            ⊎_elim
            (λ (own : (l.own ≡ j.own) × (fault → Rose mid.faults new.faults) × ((fault → ⊥) → new.faults ≡ mid.faults)). omega (arith, same_count, more, own.0))
            (λ (one : fault × (l.own ≡ one_more j.own) × (new.faults ≡ mid.faults)). omega (arith, same_count, one.1, one.2))
            starts.counted

        caused : fault → Rose (mirror_state reveals old k).faults (mirror_state reveals new l).faults
        caused f =
            ⊎_elim
            (λ (own : (l.own ≡ j.own) × (fault → Rose mid.faults new.faults) × ((fault → ⊥) → new.faults ≡ mid.faults)). let rose : Rose mid.faults new.faults = own.1 f in omega (arith, same_count, own.0, rose))
            (λ (one : fault × (l.own ≡ one_more j.own) × (new.faults ≡ mid.faults)). omega (arith, same_count, one.1, one.2))
            starts.counted

        stays : (fault → ⊥) → (mirror_state reveals new l).faults ≡ (mirror_state reveals old k).faults
        stays never =
            ⊎_elim
            (λ (own : (l.own ≡ j.own) × (fault → Rose mid.faults new.faults) × ((fault → ⊥) → new.faults ≡ mid.faults)). let same = own.2 never in omega (arith, same_count, own.0, same))
            (λ (one : fault × (l.own ≡ one_more j.own) × (new.faults ≡ mid.faults)). absurd (never one.0))
            starts.counted

        fails : reveals → IsReady (mirror_state reveals old k) → fault → Rose old.faults new.faults
        fails revealed ready f =
            let counts = lent.counts in
            let more = starts.kept in
            ⊎_elim
            (λ (few : old.faults < 2 ^ 64 - 1).
            let same : mid.faults ≡ old.faults = omega (arith, few, counts, same_count, none) in
            let alive = (reads.goes revealed ready (inr (λ rose. let r : Rose old.faults mid.faults = rose in omega (arith, r, same, few))) 0 _ ready.0 ready.1).sound.alive in
            let rose : Rose mid.faults new.faults = starts.handed revealed alive v.end (ends_then revealed) f in
            omega (arith, rose, same))
            (λ (all : 2 ^ 64 - 1 ≤ old.faults). omega (arith, all, counts, more))
            (cases_lt old.faults (2 ^ 64 - 1))
