-- How a run ends of a command that uses the disk: by what it did beneath (`RunsBeneath`), when it is refused, and that nothing fails
-- where there is space.
use Rattle.std.proofs.Common.{◌≡◌, ◌≢◌, ◌⊎◌, inl, inr, ⊎_elim, ℕ, Result, Err, refl, sym, ◌∙◌, ap, subst, arith}
use Rattle.aea_io.specs.Streams.{SourceState, SinkState}
use Rattle.aea_disk.specs.State.{State, IsReady}
use Rattle.aea_adopt.specs.Adopts.{Adopts}
use Rattle.aea_adopt.specs.Choosing.{AreBad, AreDifferent}
use Rattle.aea_adopt.specs.declared.answers.Adopted.{Adopted}
use Rattle.aea_adopt.specs.declared.answers.AdoptFault.{AdoptFault}
use Rattle.aea_adopt.specs.declared.answers.AdoptFault.TheVariants as adopting
use Rattle.aea_adopt.proofs.Left.{adopted_leaves, adopted_on}
use Rattle.aea_adopt.proofs.Faultless.{adopted_not}
use Rattle.aea_mirror.specs.Mirrored.{mirror_state, fresh}
use Rattle.aea_mirror.proofs.Ready.{made_ready}
use Rattle.aea_command.specs.declared.refusal.Failure.TheVariants as failure
use Rattle.aea_command.specs.declared.refusal.Refusal.{Refusal}
use Rattle.aea_command.specs.declared.refusal.Refusal.TheVariants.{CopiesBad, CopiesDiffer}
use Rattle.aea_command.specs.Causes.{IsFirst}
use Rattle.aea_command.specs.Failures.{Answer, NeverClashes}
use Rattle.aea_command.specs.declared.status.Status.{Status}
use Rattle.aea_command.specs.Worlds.{World, world}
use Rattle.aea_dispatch.specs.declared.command.Command.{Command}
use Rattle.aea_dispatch.specs.declared.command.Command.TheVariants as command
use Rattle.aea_dispatch.specs.declared.command.Command.TheVariants.{Drill, Create, Stat, Put, Ingest, Get, Fetch, Fence, Upgrade, Scrub, Repair, Explain, Verify, Rehearse, Sites, Session, Copies}
use Rattle.aea_dispatch.specs.Does.{UsesDisk, Causes, FitsOutput, IsHonest, IsRevealed, IsRevealedFor, PrintsEarly}
use Rattle.aea_cli.specs.Beneath.{adopting_failure, met_world, HasNotBegun, IsUnadopted, RunsAdopted, RunsBeneath, RunCauses, IsHonestRun, FitsRun, FitsOutputRun}
use Rattle.aea_cli.specs.Ends.{IsSoundRun}
use Rattle.aea_cli.proofs.Refusing.{first_met, met_first, first_bad, first_differ}
use Rattle.aea_cli.proofs.Sounds.{sound_unbegun, sound_unadopted, sound_adopted}

-- memory ran out, and nothing else
memory_not_refused : (why : Refusal) → (let a : Answer = Err failure.Memory in a ≡ Err (failure.Refused why)) → ⊥
memory_not_refused why e = cc

memory_not_disk : (let a : Answer = Err failure.Memory in a ≡ Err failure.Disk) → ⊥
memory_not_disk e = cc

memory_not_input : (let a : Answer = Err failure.Memory in a ≡ Err failure.Input) → ⊥
memory_not_input e = cc

memory_not_output : (let a : Answer = Err failure.Memory in a ≡ Err failure.Output) → ⊥
memory_not_output e = cc

memory_never_clashes : NeverClashes {T = Status} (Err failure.Memory)
memory_never_clashes b revealed computed e = let h : (let a : Answer = Err failure.Memory in a ≡ Err (failure.Clash b revealed computed)) = e in cc

-- copies that were not adopted are no other failure
unadopted_not_output : (fault : AdoptFault) → (let a : Answer = Err (adopting_failure fault) in a ≡ Err failure.Output) → ⊥
unadopted_not_output (adopting.CopiesBad first second) e = let h : (let a : Answer = Err (failure.Refused (CopiesBad first second)) in a ≡ Err failure.Output) = e in cc
unadopted_not_output (adopting.CopiesDiffer at) e = let h : (let a : Answer = Err (failure.Refused (CopiesDiffer at)) in a ≡ Err failure.Output) = e in cc
unadopted_not_output adopting.DiskFault e = let h : (let a : Answer = Err failure.Disk in a ≡ Err failure.Output) = e in cc

unadopted_never_clashes : (fault : AdoptFault) → NeverClashes {T = Status} (Err (adopting_failure fault))
unadopted_never_clashes (adopting.CopiesBad first second) b revealed computed e = let h : (let a : Answer = Err (failure.Refused (CopiesBad first second)) in a ≡ Err (failure.Clash b revealed computed)) = e in cc
unadopted_never_clashes (adopting.CopiesDiffer at) b revealed computed e = let h : (let a : Answer = Err (failure.Refused (CopiesDiffer at)) in a ≡ Err (failure.Clash b revealed computed)) = e in cc
unadopted_never_clashes adopting.DiskFault b revealed computed e = let h : (let a : Answer = Err failure.Disk in a ≡ Err (failure.Clash b revealed computed)) = e in cc

unadopted_disk : (fault : AdoptFault) → (let a : Answer = Err (adopting_failure fault) in a ≡ Err failure.Disk) → (let r : Result Adopted AdoptFault = Err fault in r ≡ Err adopting.DiskFault)
unadopted_disk (adopting.CopiesBad first second) e = let h : (let a : Answer = Err (failure.Refused (CopiesBad first second)) in a ≡ Err failure.Disk) = e in absurd (cc)
unadopted_disk (adopting.CopiesDiffer at) e = let h : (let a : Answer = Err (failure.Refused (CopiesDiffer at)) in a ≡ Err failure.Disk) = e in absurd (cc)
unadopted_disk adopting.DiskFault e = refl

-- what a command meets over a Mirror that was just made is told by the files, whether copies are on, and the streams
honest_met : (c : Command) (reveals : Type 0) (old mid : State) (i : SourceState) (o : SinkState) (a : Adopted) (name : ℕ) → IsHonest c (met_world (world reveals old i o) mid.files a.on) → IsHonest c (world reveals (mirror_state reveals mid (fresh name a)) i o)
honest_met (Fetch word) reveals old mid i o a name honest = honest
honest_met Repair reveals old mid i o a name honest = honest
honest_met c reveals old mid i o a name honest = honest

output_met : (c : Command) (reveals : Type 0) (old mid : State) (i : SourceState) (o : SinkState) (a : Adopted) (name : ℕ) → FitsOutput c (met_world (world reveals old i o) mid.files a.on) → FitsOutput c (world reveals (mirror_state reveals mid (fresh name a)) i o)
output_met (Drill l) reveals old mid i o a name fits = fits
output_met (Create shape) reveals old mid i o a name fits = fits
output_met Stat reveals old mid i o a name fits = fits
output_met command.List reveals old mid i o a name fits = fits
output_met (Put word) reveals old mid i o a name fits = fits
output_met Ingest reveals old mid i o a name fits = fits
output_met (Get word) reveals old mid i o a name fits = fits
output_met (Fetch word) reveals old mid i o a name fits = fits
output_met Fence reveals old mid i o a name fits = fits
output_met Upgrade reveals old mid i o a name fits = fits
output_met Scrub reveals old mid i o a name fits = fits
output_met Repair reveals old mid i o a name fits = fits
output_met (Explain word) reveals old mid i o a name fits = fits
output_met Verify reveals old mid i o a name fits = fits
output_met (Rehearse number nodes permille) reveals old mid i o a name fits = fits
output_met Sites reveals old mid i o a name fits = fits
output_met Session reveals old mid i o a name fits = fits
output_met Copies reveals old mid i o a name fits = fits

module _ (D reveals : Type 0) (state : D → State) (command : Command) (old new : D) (i j : SourceState) (o p : SinkState) (answer : Answer) where
  -- a Mirror that was just made is ready
  ready_then : (run : RunsAdopted D reveals state command old new i j o p answer) → reveals → IsReady (mirror_state reveals (state run.mid) (fresh run.name run.adopted))
  ready_then run revealed = made_ready reveals (state run.mid) run.adopted run.name revealed (run.adopts.synced (adopted_not run.adopted) revealed) (run.adopts.revealed revealed)

  pub sound_beneath : RunsBeneath D reveals state command old new i j o p answer → IsSoundRun reveals (state old) (state new) i j o p answer
  sound_beneath (inl un) = rw (un.is, un.disk, un.input, un.out) (sound_unbegun reveals (state old) i o failure.Memory memory_not_disk memory_not_input memory_not_output)
  sound_beneath (inr (inl un)) = rw (un.is, un.input, un.out) (sound_unadopted reveals (state old) (state new) i o un.fault un.adopts)
  sound_beneath (inr (inr run)) = sound_adopted reveals (state old) (state run.mid) (state new) (fresh run.name run.adopted) run.kept i j o p run.adopted answer run.adopts refl (ready_then run) run.sound run.goes

  module _ (revealed : reveals) (uses : UsesDisk command) (beneath : RunsBeneath D reveals state command old new i j o p answer) where
    abbrev before : World
    before = world reveals (state old) i o

    by_fault : (fault : AdoptFault) → Adopts reveals (state old) (state new) (Err fault) → (why : Refusal) → (let a : Answer = Err (adopting_failure fault) in a ≡ Err (failure.Refused why)) → IsFirst (RunCauses command before) why
    by_fault (adopting.CopiesBad first second) adopts why e =
        let h : (let a : Answer = Err (failure.Refused (CopiesBad first second)) in a ≡ Err (failure.Refused why)) = e in
        let is : CopiesBad first second ≡ why = cc in
        subst (λ (r : Refusal). IsFirst (RunCauses command before) r) is (first_bad command before uses first second (adopts.answers revealed).0)
    by_fault (adopting.CopiesDiffer at) adopts why e =
        let h : (let a : Answer = Err (failure.Refused (CopiesDiffer at)) in a ≡ Err (failure.Refused why)) = e in
        let is : CopiesDiffer at ≡ why = cc in
        subst (λ (r : Refusal). IsFirst (RunCauses command before) r) is (first_differ command before uses at (adopts.answers revealed).0)
    by_fault adopting.DiskFault adopts why e = let h : (let a : Answer = Err failure.Disk in a ≡ Err (failure.Refused why)) = e in absurd (cc)

    -- a refusal is the first reason that holds
    pub beneath_only : (PrintsEarly command → answer ≢ Err failure.Output) → (why : Refusal) → answer ≡ Err (failure.Refused why) → IsRevealedFor command before why → IsFirst (RunCauses command before) why
    beneath_only early why is known = ⊎_elim
        (λ (un : HasNotBegun old new i j o p answer). absurd (memory_not_refused why (sym un.is ∙ is)))
        (λ (more : IsUnadopted D reveals state old new i j o p answer ⊎ RunsAdopted D reveals state command old new i j o p answer). ⊎_elim
        (λ (un : IsUnadopted D reveals state old new i j o p answer). by_fault un.fault un.adopts why (sym un.is ∙ is))
        (λ (run : RunsAdopted D reveals state command old new i j o p answer). first_met reveals revealed command uses (state old) (state run.mid) i o run.adopted run.name run.adopts why ((run.runs.refuses early).only why is known))
        more)
        beneath

    -- nothing fails where there is space
    pub beneath_disk : FitsRun D reveals state command old i o → answer ≢ Err failure.Disk
    beneath_disk fits is = ⊎_elim
        (λ (un : HasNotBegun old new i j o p answer). memory_not_disk (sym un.is ∙ is))
        (λ (more : IsUnadopted D reveals state old new i j o p answer ⊎ RunsAdopted D reveals state command old new i j o p answer). ⊎_elim
        (λ (un : IsUnadopted D reveals state old new i j o p answer). (un.adopts.writes.sure revealed (fits.free uses) (fits.adopting uses)).0 (unadopted_disk un.fault (sym un.is ∙ is)))
        (λ (run : RunsAdopted D reveals state command old new i j o p answer). run.runs.disk_fits revealed (ready_then run revealed) (fits.over uses run.mid run.adopted run.name run.adopts) is)
        more)
        beneath

    pub beneath_output : IsRevealed command before → FitsOutputRun command before → answer ≢ Err failure.Output
    beneath_output known fits is = ⊎_elim
        (λ (un : HasNotBegun old new i j o p answer). memory_not_output (sym un.is ∙ is))
        (λ (more : IsUnadopted D reveals state old new i j o p answer ⊎ RunsAdopted D reveals state command old new i j o p answer). ⊎_elim
        (λ (un : IsUnadopted D reveals state old new i j o p answer). unadopted_not_output un.fault (sym un.is ∙ is))
        (λ (run : RunsAdopted D reveals state command old new i j o p answer).
        let mid = (state run.mid).files in
        let says = run.adopts.answers revealed in
        run.runs.output_fits (record { disk = known.disk; input = known.input })
        (output_met command reveals (state old) (state run.mid) i o run.adopted run.name (fits.over uses mid run.adopted.on (adopted_leaves (state old).files mid run.adopted says) (adopted_on (state old).files mid run.adopted says))) is)
        more)
        beneath

    pub beneath_honest : IsHonestRun command before → NeverClashes answer
    beneath_honest honest b recorded computed is = ⊎_elim
        (λ (un : HasNotBegun old new i j o p answer). memory_never_clashes b recorded computed (sym un.is ∙ is))
        (λ (more : IsUnadopted D reveals state old new i j o p answer ⊎ RunsAdopted D reveals state command old new i j o p answer). ⊎_elim
        (λ (un : IsUnadopted D reveals state old new i j o p answer). unadopted_never_clashes un.fault b recorded computed (sym un.is ∙ is))
        (λ (run : RunsAdopted D reveals state command old new i j o p answer).
        let mid = (state run.mid).files in
        run.runs.honest (λ _. revealed) (honest_met command reveals (state old) (state run.mid) i o run.adopted run.name (honest mid run.adopted.on (adopted_leaves (state old).files mid run.adopted (run.adopts.answers revealed)))) b recorded computed is)
        more)
        beneath

    -- a fault of the disk is none of a disk with space
    never_fault : (fault : AdoptFault) → Adopts reveals (state old) (state new) (Err fault) → FitsRun D reveals state command old i o → (let r : Result Adopted AdoptFault = Err fault in r ≡ Err adopting.DiskFault) → ⊥
    never_fault fault adopts fits is = (adopts.writes.sure revealed (fits.free uses) (fits.adopting uses)).0 is

    as_refused : (fault other : AdoptFault) → answer ≡ Err (adopting_failure fault) → (let r : Result Adopted AdoptFault = Err fault in r ≡ Err other) → answer ≡ Err (adopting_failure other)
    as_refused fault other is e = let same : fault ≡ other = cc in is ∙ ap (λ (f : AdoptFault). Err (adopting_failure f)) same

    by_unadopted : (fault : AdoptFault) → Adopts reveals (state old) (state new) (Err fault) → answer ≡ Err (adopting_failure fault) → FitsRun D reveals state command old i o → (why : Refusal) → IsFirst (RunCauses command before) why → answer ≡ Err (failure.Refused why)
    by_unadopted fault adopts is fits (CopiesBad first second) cause = ⊎_elim
        (λ (here : UsesDisk command × AreBad (state old).files first second). ⊎_elim
        (λ (e : (let r : Result Adopted AdoptFault = Err fault in r ≡ Err (adopting.CopiesBad first second))). as_refused fault (adopting.CopiesBad first second) is e)
        (λ (e : (let r : Result Adopted AdoptFault = Err fault in r ≡ Err adopting.DiskFault)). absurd (never_fault fault adopts fits e))
        ((adopts.exactly revealed).bad first second here.1))
        (λ (not : (UsesDisk command → ⊥) × Causes command before (CopiesBad first second)). absurd (not.0 uses))
        cause.stands
    by_unadopted fault adopts is fits (CopiesDiffer at) cause = ⊎_elim
        (λ (here : UsesDisk command × AreDifferent (state old).files at). ⊎_elim
        (λ (e : (let r : Result Adopted AdoptFault = Err fault in r ≡ Err (adopting.CopiesDiffer at))). as_refused fault (adopting.CopiesDiffer at) is e)
        (λ (e : (let r : Result Adopted AdoptFault = Err fault in r ≡ Err adopting.DiskFault)). absurd (never_fault fault adopts fits e))
        ((adopts.exactly revealed).differ at here.1))
        (λ (not : (UsesDisk command → ⊥) × Causes command before (CopiesDiffer at)). absurd (not.0 uses))
        cause.stands
    by_unadopted (adopting.CopiesBad first second) adopts is fits why cause = absurd (cause.none (CopiesBad first second) (omega arith) (inl (uses, (adopts.answers revealed).0)))
    by_unadopted (adopting.CopiesDiffer at) adopts is fits why cause = absurd (cause.none (CopiesDiffer at) (omega arith) (inl (uses, (adopts.answers revealed).0)))
    by_unadopted adopting.DiskFault adopts is fits why cause = absurd (never_fault adopting.DiskFault adopts fits refl)

    -- where a reason is the first the run is refused for it, but that the input fails or memory runs out
    pub beneath_always : (why : Refusal) → IsRevealedFor command before why → IsFirst (RunCauses command before) why → FitsRun D reveals state command old i o → (PrintsEarly command → answer ≢ Err failure.Output)
        → (answer ≡ Err (failure.Refused why)) ⊎ ((answer ≡ Err failure.Input) ⊎ (answer ≡ Err failure.Memory))
    beneath_always why known first fits early = ⊎_elim
        (λ (un : HasNotBegun old new i j o p answer). inr (inr un.is))
        (λ (more : IsUnadopted D reveals state old new i j o p answer ⊎ RunsAdopted D reveals state command old new i j o p answer). ⊎_elim
        (λ (un : IsUnadopted D reveals state old new i j o p answer). inl (by_unadopted un.fault un.adopts un.is fits why first))
        (λ (run : RunsAdopted D reveals state command old new i j o p answer).
        elim ((run.runs.refuses early).always why known (met_first reveals revealed command uses (state old) (state run.mid) i o run.adopted run.name run.adopts why first)) [
          | inl e ↦ inl e
          | inr (inl e) ↦ absurd (run.runs.disk_fits revealed (ready_then run revealed) (fits.over uses run.mid run.adopted run.name run.adopts) e)
          | inr (inr (inl e)) ↦ inr (inl e)
          | inr (inr (inr e)) ↦ inr (inr e)
        ])
        more)
        beneath
