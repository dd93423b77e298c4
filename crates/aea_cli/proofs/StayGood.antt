-- What runs leave of the copies, and what a run finds of files of which pieces are kept.
use Rattle.std.proofs.Common.{◌≡◌, ◌⊎◌, inl, inr, ⊎_elim, ℕ, Bool, List, [], length, get_or, Result, Err, refl, sym, ◌∙◌, ap, subst}
use Rattle.std.proofs.Math.Logic.{∥∥₁_elim}
use Rattle.std.proofs.lemmas.Bool.{false≢true}
use Rattle.std.proofs.lemmas.List.{append-nil}
use Rattle.aea_faults.specs.Faults.{Rose}
use Rattle.aea_io.specs.Streams.{SourceState, SinkState}
use Rattle.aea_disk.specs.Files.{Files}
use Rattle.aea_disk.specs.State.{State, IsSynced}
use Rattle.aea_disk.proofs.Moments.{lasts_lent}
use Rattle.aea_copies.specs.Format.{copied, text_of, whole_copy}
use Rattle.aea_copies.specs.Kept.{IsCopyFile, IsGood}
use Rattle.aea_copies.proofs.Judged.{has_one_pieces}
use Rattle.aea_adopt.specs.Adopting.{IsTrueOf}
use Rattle.aea_adopt.specs.Adopts.{Adopts}
use Rattle.aea_adopt.specs.declared.answers.Adopted.{Adopted}
use Rattle.aea_adopt.specs.declared.answers.AdoptFault.{AdoptFault}
use Rattle.aea_adopt.specs.declared.answers.AdoptFault.TheVariants as adopting
use Rattle.aea_adopt.proofs.Faultless.{adopted_not}
use Rattle.aea_mirror.specs.declared.tail.Tail.{Tail}
use Rattle.aea_mirror.specs.Mirrored.{mirror_state, fresh}
use Rattle.aea_mirror.specs.Shown.{AreGood, AreAs}
use Rattle.aea_mirror.specs.Starting.{ArePiecesOf}
use Rattle.aea_mirror.proofs.Adopting.{guards_true}
use Rattle.aea_mirror.proofs.Seeing.{guarded_as}
use Rattle.aea_mirror.proofs.Wholes.{whole_copies_are_good}
use Rattle.aea_survival.specs.Surviving.{HasKept}
use Rattle.aea_command.specs.declared.refusal.Failure.TheVariants as failure
use Rattle.aea_command.specs.Failures.{Answer}
use Rattle.aea_dispatch.specs.declared.command.Command.{Command}
use Rattle.aea_dispatch.specs.declared.command.Command.TheVariants as command
use Rattle.aea_dispatch.specs.declared.command.Command.TheVariants.{Drill, Create, Stat, Put, Ingest, Get, Fetch, Fence, Upgrade, Scrub, Repair, Explain, Verify, Rehearse, Sites, Session, Copies}
use Rattle.aea_cli.specs.Beneath.{adopting_failure, RunsAdopted, RunsBeneath}
use Rattle.aea_cli.specs.Keeping.{StayGood}

-- right after adopting each image has copies as is said of them
adopted_as : (s : State) (a : Adopted) → IsSynced s → IsTrueOf s.files a → (c : Files) → s.image s.moment c → AreAs a.on c
adopted_as s a synced is =
    let first : Tail = record { gate = get_or a.gates 0 0; link = get_or a.links 0 [] } in
    let second : Tail = record { gate = get_or a.gates 1 0; link = get_or a.links 1 [] } in
    guarded_as s a.on a.end first second ∣ guards_true s a first second synced is refl refl refl refl ∣₁

-- two whole copies of the same pieces are good, and these are kept
whole_are_good : (pieces : List (List ℕ)) (bytes : List ℕ) → ArePiecesOf bytes pieces → (c : Files) → ((f : ℕ) → IsCopyFile f → c f ≡ whole_copy pieces) → AreGood c
whole_are_good pieces bytes are c whole =
    let good : (f : ℕ) → IsCopyFile f → IsGood pieces (c f) = λ f copy. subst (IsGood pieces) (sym (whole f copy)) (whole_copies_are_good pieces are.can) in
    record {
      good = λ f copy. ∣ (pieces, good f copy) ∣₁;
      kept = ∣ (
        pieces,
        record {
          file = 65;
          is = inl refl;
          good = good 65 (inl refl);
          longest = λ f others copy there.
              let same : others ≡ pieces = (has_one_pieces (c f) others pieces (length (copied others)) (length (copied pieces)) there (good f copy)).0 in
              ([], ap text_of (sym same) ∙ sym (append-nil (text_of others)));
        },
      ) ∣₁;
    }

-- a command is `copies` or not
is_copies : (c : Command) → (c ≡ Copies) ⊎ (c ≡ Copies → ⊥)
is_copies Copies = inl refl
is_copies (Drill l) = inr (λ e. let h : Drill l ≡ Copies = e in cc)
is_copies (Create shape) = inr (λ e. let h : Create shape ≡ Copies = e in cc)
is_copies Stat = inr (λ e. let h : Stat ≡ Copies = e in cc)
is_copies command.List = inr (λ e. let h : command.List ≡ Copies = e in cc)
is_copies (Put name) = inr (λ e. let h : Put name ≡ Copies = e in cc)
is_copies Ingest = inr (λ e. let h : Ingest ≡ Copies = e in cc)
is_copies (Get name) = inr (λ e. let h : Get name ≡ Copies = e in cc)
is_copies (Fetch name) = inr (λ e. let h : Fetch name ≡ Copies = e in cc)
is_copies Fence = inr (λ e. let h : Fence ≡ Copies = e in cc)
is_copies Upgrade = inr (λ e. let h : Upgrade ≡ Copies = e in cc)
is_copies Scrub = inr (λ e. let h : Scrub ≡ Copies = e in cc)
is_copies Repair = inr (λ e. let h : Repair ≡ Copies = e in cc)
is_copies (Explain word) = inr (λ e. let h : Explain word ≡ Copies = e in cc)
is_copies Verify = inr (λ e. let h : Verify ≡ Copies = e in cc)
is_copies (Rehearse number nodes permille) = inr (λ e. let h : Rehearse number nodes permille ≡ Copies = e in cc)
is_copies Sites = inr (λ e. let h : Sites ≡ Copies = e in cc)
is_copies Session = inr (λ e. let h : Session ≡ Copies = e in cc)

module _ (D reveals : Type 0) (state : D → State) (revealed : reveals) (command : Command) (old new : D) (i j : SourceState) (o p : SinkState) (answer : Answer) where
  pub stay_good : (run : RunsAdopted D reveals state command old new i j o p answer) → StayGood D reveals state command old new i j o p answer run
  stay_good run =
      let mid = state run.mid in
      let a = run.adopted in
      let first : (c : Files) → mid.image mid.moment c → AreAs a.on c = adopted_as mid a (run.adopts.synced (adopted_not a) revealed) (run.adopts.revealed revealed) in
      record {
        on = λ on. ⊎_elim
            (λ (is : command ≡ Copies). (run.makes is).good revealed on)
            (λ (not : command ≡ Copies → ⊥). λ t c from to here.
            subst (λ (b : Bool). AreAs b c) on ((lasts_lent (mirror_state reveals mid (fresh run.name a)) (mirror_state reveals (state new) run.kept) (run.time not).lasts).holds (λ d there revealed_. first d there) t c from to here revealed))
            (is_copies command);
        begun = λ is begun c here.
            let made = (run.makes is).made begun revealed in
            whole_are_good made.0 (mid.files 0) made.1 c (λ f copy. (run.makes is).synced begun revealed c here f ∙ made.2 f copy);
      }

  fault_of_kept : (fault : AdoptFault) → Adopts reveals (state old) (state new) (Err fault) → HasKept (state old).files → fault ≡ adopting.DiskFault
  fault_of_kept (adopting.CopiesBad first second) adopts kept = absurd (∥∥₁_elim kept (λ a b. absurd a) (λ some. ⊎_elim
      (λ ok. false≢true ok)
      (λ (e : (let r : Result Adopted AdoptFault = Err (adopting.CopiesBad first second) in r ≡ Err adopting.DiskFault)). cc)
      ((adopts.exactly revealed).kept some.0 some.1)))
  fault_of_kept (adopting.CopiesDiffer at) adopts kept = absurd (∥∥₁_elim kept (λ a b. absurd a) (λ some. ⊎_elim
      (λ ok. false≢true ok)
      (λ (e : (let r : Result Adopted AdoptFault = Err (adopting.CopiesDiffer at) in r ≡ Err adopting.DiskFault)). cc)
      ((adopts.exactly revealed).kept some.0 some.1)))
  fault_of_kept adopting.DiskFault adopts kept = refl

  pub kept_adopted : RunsBeneath D reveals state command old new i j o p answer → HasKept (state old).files
      → (answer ≡ Err failure.Memory) ⊎ (((answer ≡ Err failure.Disk) × Rose (state old).faults (state new).faults) ⊎ RunsAdopted D reveals state command old new i j o p answer)
  kept_adopted (inl un) kept = inl un.is
  kept_adopted (inr (inl un)) kept =
      let is = fault_of_kept un.fault un.adopts kept in
      inr (inl (un.is ∙ ap (λ (f : AdoptFault). Err (adopting_failure f)) is, un.adopts.writes.cause (ap Err is)))
  kept_adopted (inr (inr run)) kept = inr (inr run)
