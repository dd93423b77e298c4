-- What holds of a run of `put`, from what its calls ensure.
use Rattle.std.proofs.Common.{◌≡◌, ◌≢◌, ◌⊎◌, inl, inr, List, [], ◌++◌, refl, sym, ◌∙◌, ap, Option, Some, Result, Ok, Err, None, append-nil, arith, false, true, ℕ, ◌≤◌}
use Rattle.aea_io.specs.Streams.{SinkState}
use Rattle.aea_disk.specs.State.{State}
use Rattle.aea_command.specs.Openings.{greatest_sites, Opens, OpensThen}
use Rattle.aea_command_store.specs.Growing.{StaysGrown}
use Rattle.aea_lattice.specs.declared.shape.Shape.{Shape}
use Rattle.aea_records.specs.Format.{Record}
use Rattle.aea_archive.specs.Next.{NewObject}
use Rattle.aea_command_store.specs.Put.{EndsStored, MayHavePut, IsOutOfMemory, Stores, IsStoredLine, KeepsOtherFiles, Puts}
use Rattle.aea_command_store.proofs.Adding.{Agrees, agrees_failed}
use Rattle.aea_command_store.proofs.Adding.Running.{agrees_printed}
use Rattle.aea_command.specs.Failures.{Answer}
use Rattle.std.proofs.KnownBytes.{Consumes-nil}
use Rattle.std.specs.Io.KnownBytes.{Consumes, IsAtEnd}
use Rattle.aea_command.specs.declared.refusal.Failure.{Failure}
use Rattle.aea_command.specs.declared.refusal.Failure.TheVariants as failure
use Rattle.aea_disk.specs.Files.{Files, KeepsFiles}
use Rattle.aea_ledger.specs.Stops.{HasLedger, StaysAll}
use Rattle.aea_ledger.specs.Values.{Opened}
use Rattle.aea_command_store.proofs.CreateLemmas.{IsPrinting, printing_done}
use Rattle.std.specs.Prelude.{IsSome, unwrap_or}
use Rattle.aea_command.specs.Printed.{PrintsText}
use Rattle.std.proofs.lemmas.Bool.{false≢true}
use Rattle.aea_command.proofs.OpeningCases.{opened_more, opening_more, images_same, opening_not_output, opening_not_input}
use Rattle.aea_command.proofs.Behind.{some_ledger}
use Rattle.aea_shelf.specs.Places.{padded_home}
use Rattle.aea_disk.proofs.Moments.{passes_none, where_kept, where_none}
use Rattle.aea_command.proofs.Texts.{text_unused}

-- a failure is no object that is stored, but for one of the output
pub never_stored : {T : Type 0} (f : Failure) → f ≢ failure.Output → EndsStored {T = T} (Err f) → ⊥
never_stored f output (inl ok) = false≢true ok
never_stored {T} f output (inr e) = let h : (let one : Result T Failure = Err f in one ≡ Err failure.Output) = e in output cc

-- ---- the archive was not opened

pub unopened_not_output : (reveals : Type 0) (old new : State) (f : Failure) → Opens reveals old new (Err f) → f ≢ failure.Output
unopened_not_output reveals old new f opens e = let kind = opens.kinds in opening_not_output kind.0 (sym kind.1 ∙ e)

opening_same : (f g : Failure) → (let one : Result Opened Failure = Err f in one ≡ Err g) → f ≡ g
opening_same f g e = cc

module _ {T : Type 0} (name : List ℕ) (reveals : Type 0) (old new : State) (left : Option (List ℕ)) (f : Failure) (opens : Opens reveals old new (Err f)) where
  same_failure : (g : Failure) → (let one : Result T Failure = Err f in one ≡ Err g) → f ≡ g
  same_failure g e = cc

  not_stored : EndsStored {T = T} (Err f) → ⊥
  not_stored = never_stored f (unopened_not_output reveals old new f opens)

  -- only a fault of the disk or lack of memory keeps a ledger from being opened
  out_of_memory : (let one : Result T Failure = Err f in one ≢ Err failure.Disk) → reveals → (shape : Shape) (records : List Record) → HasLedger shape records (old.files 0) → (let one : Result T Failure = Err f in one ≡ Err failure.Memory)
  out_of_memory differs revealed shape records ledger = elim (opens.complete revealed (some_ledger (old.files 0) shape records ledger)) [
    | inl ok ↦ absurd (false≢true ok)
    | inr (inl e) ↦ absurd (differs (ap Err (opening_same f failure.Disk e)))
    | inr (inr (inl e)) ↦ absurd (let kind = opens.kinds in opening_not_input kind.0 (sym kind.1 ∙ opening_same f failure.Input e))
    | inr (inr (inr e)) ↦ ap Err (opening_same f failure.Memory e)
  ]

  pub unopened_stores : Stores {T = T} name reveals old new left left (Err f)
  unopened_stores = record {
    archive = λ stored. absurd (not_stored stored);
    stands = λ stored. absurd (not_stored stored);
    stops = λ revealed shape records ledger. ([], inl refl, inl (opens.reads.crash, opens.reads.contents revealed));
    stays = λ differs revealed shape records ledger.
        ([], inl refl, inl (record { by = out_of_memory differs revealed shape records ledger; images = opens.reads.crash; reads = opens.reads.contents revealed }));
    untouched = λ why early is.
        let differs : f ≢ failure.Disk = λ d. (let h : failure.Refused why ≡ failure.Disk = sym (same_failure (failure.Refused why) is) ∙ d in cc) in (
          record {
            images = opens.reads.crash;
            files = opens.reads.contents;
            synced = opens.synced (λ e. differs (let h : Err f ≡ Err failure.Disk = e in cc));
            sure = opens.opened (λ e. differs (let h : Err f ≡ Err failure.Disk = e in cc));
          },
          refl,
        );
    leaves = λ g disk output is revealed. (inl opens.reads.crash, ap (λ (c : Files). c 0) (opens.reads.contents revealed));
    sure = λ g disk output memory is revealed.
        opened_more old new (StaysAll old.files) (λ c. c 0 ≡ old.files 0) (λ c stays. stays 0)
        (opens.opened (λ e. disk (sym (same_failure g is) ∙ opening_same f failure.Disk e)) revealed);
    none = λ revealed never. (opens.reads.crash, opens.reads.contents revealed);
    padded = λ differs revealed shape records ledger a on keep. ap (λ (c : Files). padded_home shape a c) (opens.reads.contents revealed);
    takes = λ revealed shape records ledger. ([], Consumes-nil left, omega arith);
    in_room = λ revealed ready fits. let sure = opens.reads.sure revealed ready fits.some in (λ is. sure.0 (let same = same_failure failure.Disk is in ap Err same), sure.1);
    refused_in_room = λ revealed why early cause ready roomy. let sure = opens.reads.sure revealed ready roomy in (λ is. sure.0 (let same = same_failure failure.Disk is in ap Err same), sure.1);
  }

  pub unopened_rest : KeepsOtherFiles reveals (let answer : Result T Failure = Err f in answer ≡ Err failure.Disk) old new
  unopened_rest = record {
    others = where_kept reveals _ old old new (passes_none old) opens.reads.time opens.reads.crash opens.reads.contents (where_none reveals _ old);
    opens = λ revealed. opening_more old new (StaysAll old.files) (KeepsFiles (λ file. file ≤ greatest_sites → ⊥) old.files) (λ c stays g keep. stays g) (opens.stops revealed);
    time = opens.reads.time;
    kept = opens.reads.kept;
    cause = λ is. opens.reads.cause (ap Err (same_failure failure.Disk is));
    still = λ fine. opens.reads.still (λ is. fine (let same : f ≡ failure.Disk = opening_same f failure.Disk is in ap Err same));
    beneath = λ revealed ready is. opens.reads.beneath revealed ready (ap Err (same_failure failure.Disk is));
  }

-- ---- another answer to what is left

pub stores_as : {T U : Type 0} (name : List ℕ) (reveals : Type 0) (old new : State) (left rest : Option (List ℕ)) (gave : Result T Failure) (answer : Result U Failure) → Agrees gave answer → Stores name reveals old new left rest gave → Stores name reveals old new left rest answer
stores_as {T} {U} name reveals old new left rest gave answer agrees does = record {
  archive = λ stored. does.archive (agrees.well stored);
  stands = λ stored. does.stands (agrees.well stored);
  stops = λ revealed shape records ledger.
      let was = does.stops revealed shape records ledger in
      (was.0, may_as was.0 was.1, was.2);
  stays = λ differs revealed shape records ledger.
      let was = does.stays (λ is. differs (agrees.back failure.Disk (λ d. cc) is)) revealed shape records ledger in
      let may : MayHavePut name left rest answer was.0 = may_as was.0 was.1 in
      let there : IsOutOfMemory old new answer ⊎ OpensThen old new (StaysGrown shape records was.0) = elim was.2 [
        | inl w ↦ inl (record { by = agrees.back failure.Memory (λ d. cc) w.by; images = w.images; reads = w.reads })
        | inr opened ↦ inr opened
      ] in
      (was.0, may, there);
  untouched = λ why early is. does.untouched why early (agrees.there (failure.Refused why) (λ d. cc) is);
  leaves = λ f disk output is. does.leaves f disk output (agrees.there f output is);
  sure = λ f disk output memory is. does.sure f disk output memory (agrees.there f output is);
  none = does.none;
  padded = λ differs. does.padded (λ is. differs (agrees.back failure.Disk (λ d. cc) is));
  takes = does.takes;
  in_room = λ revealed ready fits. (λ is. (does.in_room revealed ready fits).0 (agrees.there failure.Disk (λ d. cc) is), (does.in_room revealed ready fits).1);
  refused_in_room = λ revealed why early cause ready roomy.
      let sure = does.refused_in_room revealed why early cause ready roomy in (λ is. sure.0 (agrees.there failure.Disk (λ d. cc) is), sure.1);
}
  where
    may_as : (objects : List NewObject) → MayHavePut name left rest gave objects → MayHavePut name left rest answer objects
    may_as objects (inl none) = inl none
    may_as objects (inr (inl stored, some)) = inr (inl (agrees.done stored), some)
    may_as objects (inr (inr disk, some)) = inr (inr (agrees.back failure.Disk (λ d. cc) disk), some)

-- nothing was stored
pub puts_failed : {T : Type 0} (name : List ℕ) (reveals : Type 0) (old new : State) (left rest : Option (List ℕ)) (out : SinkState) (f : Failure) → f ≢ failure.Output → Stores {T = T} name reveals old new left rest (Err f) → Puts name reveals old new left rest out out (Err f)
puts_failed {T} name reveals old new left rest out f output stores = record {
  done = tt;
  stores = stores_as name reveals old new left rest (Err f) (Err f) (agrees_failed f) stores;
  text = [];
  line = λ stored. absurd (never_stored f output stored);
  prints = text_unused out f [] output;
}

-- the object was stored, and then its line was printed, or the output failed
pub puts_stored : {T : Type 0} (name : List ℕ) (reveals : Type 0) (old new : State) (left rest : Option (List ℕ)) (before after : SinkState) (value : T) (answer : Answer) (text : List ℕ) → IsPrinting answer
    → Stores name reveals old new left rest (Ok value) → IsStoredLine name reveals (old.files 0) left rest text → PrintsText before after answer text → Puts name reveals old new left rest before after answer
puts_stored name reveals old new left rest before after value answer text printing stores line prints = record {
  done = printing_done answer printing;
  stores = stores_as name reveals old new left rest (Ok value) answer (agrees_printed value answer printing) stores;
  text = text;
  line = λ _. line;
  prints = prints;
}

-- ---- the run

-- the input of which all was taken is the object's bytes
pub whole_input : (left rest : Option (List ℕ)) (bytes : List ℕ) → IsSome left → Consumes left rest bytes → IsAtEnd rest → unwrap_or left [] ≡ bytes
whole_input None rest bytes some taken end = let h : false ≡ true = some in cc
whole_input (Some xs) None bytes some taken end = absurd taken
whole_input (Some xs) (Some ys) bytes some taken end = taken ∙ ap (λ (l : List ℕ). bytes ++ l) end ∙ append-nil bytes

-- nothing was stored, and no call was made
pub nothing_stores : (name : List ℕ) (reveals : Type 0) (s : State) (left : Option (List ℕ)) → Stores name reveals s s left left (let answer : Answer = Err failure.Memory in answer)
nothing_stores name reveals s left = record {
  archive = λ stored. absurd (never_stored failure.Memory (λ e. cc) stored);
  stands = λ stored. absurd (never_stored failure.Memory (λ e. cc) stored);
  stops = λ revealed shape records ledger. ([], inl refl, inl (images_same s, refl));
  stays = λ differs revealed shape records ledger. ([], inl refl, inl (record { by = refl; images = images_same s; reads = refl }));
  untouched = λ why early is. let h : Err failure.Memory ≡ Err (failure.Refused why) = is in cc;
  leaves = λ f disk output is revealed. (inl (images_same s), refl);
  sure = λ f disk output memory is revealed. absurd (memory (let h : Err failure.Memory ≡ Err f = is in let same : f ≡ failure.Memory = cc in same));
  none = λ revealed never. (images_same s, refl);
  padded = λ differs revealed shape records ledger a on keep. refl;
  takes = λ revealed shape records ledger. ([], Consumes-nil left, omega arith);
  in_room = λ revealed ready fits. (λ is. let h : Err failure.Memory ≡ Err failure.Disk = is in cc, refl);
  refused_in_room = λ revealed why early cause ready roomy. (λ is. let h : Err failure.Memory ≡ Err failure.Disk = is in cc, refl);
}
