-- What a refusal's cause depends on: the files, the input, and how the disk is set; and that no command has a cause of its own for the
-- refusals of copies that could not be adopted.
use Rattle.std.proofs.Common.{◌≡◌, ℕ, Bool, [], subst}
use Rattle.std.specs.Prelude.{unwrap_or}
use Rattle.aea_io.specs.Streams.{SourceState}
use Rattle.aea_disk.specs.Files.{Files}
use Rattle.aea_dispatch.specs.declared.command.Command.{Command}
use Rattle.aea_dispatch.specs.declared.command.Command.TheVariants as command
use Rattle.aea_dispatch.specs.declared.command.Command.TheVariants.{Drill, Create, Stat, Put, Ingest, Get, Fetch, Fence, Upgrade, Scrub, Repair, Explain, Verify, Rehearse, Sites, Session, Copies}
use Rattle.aea_dispatch.specs.Does.{Causes}
use Rattle.aea_command.specs.declared.refusal.Refusal.{Refusal}
use Rattle.aea_command.specs.declared.refusal.Refusal.TheVariants.{CopiesBad, CopiesDiffer}
use Rattle.aea_command.specs.Openings.{OpeningCauses}
use Rattle.aea_command.specs.Worlds.{World}
use Rattle.aea_command_store.specs.Create.{CreateCauses}
use Rattle.aea_command_store.specs.Fence.{FenceCauses}
use Rattle.aea_command_store.specs.Ingest.{IngestCauses}
use Rattle.aea_command_store.specs.Put.{PutCauses}
use Rattle.aea_command_store.specs.Upgrade.{UpgradeCauses}
use Rattle.aea_command_read.specs.Fetch.{FetchCauses}
use Rattle.aea_command_read.specs.Get.{GetCauses}
use Rattle.aea_command_loss.specs.Drill.{DamageCauses}
use Rattle.aea_command_loss.specs.Explain.{ExplainCauses}
use Rattle.aea_command_loss.specs.Verify.{VerifyCauses}
use Rattle.aea_command_session.specs.Causes.{SessionCauses}
use Rattle.aea_command_copies.specs.Copies.{CopiesCauses}

-- two worlds that are alike in these have the same causes
pub causes_alike : (c : Command) (v w : World) → v.disk.files ≡ w.disk.files → v.disk.lent.set ≡ w.disk.lent.set → v.input ≡ w.input → (why : Refusal) → Causes c v why → Causes c w why
causes_alike (Drill l) v w files set input why causes = subst (λ (s : SourceState). DamageCauses l (unwrap_or s.left []) why) input causes
causes_alike (Create shape) v w files set input why causes = subst (λ (d : Files). CreateCauses (d 0) why) files causes
causes_alike Stat v w files set input why causes = subst (λ (d : Files). OpeningCauses (d 0) why) files causes
causes_alike command.List v w files set input why causes = subst (λ (d : Files). OpeningCauses (d 0) why) files causes
causes_alike (Put name) v w files set input why causes = subst (λ (d : Files). PutCauses name d (unwrap_or w.input.left []) why) files (subst (λ (s : SourceState). PutCauses name v.disk.files (unwrap_or s.left []) why) input causes)
causes_alike Ingest v w files set input why causes = subst (λ (d : Files). IngestCauses d (unwrap_or w.input.left []) why) files (subst (λ (s : SourceState). IngestCauses v.disk.files (unwrap_or s.left []) why) input causes)
causes_alike (Get name) v w files set input why causes = subst (λ (d : Files). GetCauses name d why) files causes
causes_alike (Fetch name) v w files set input why causes = subst (λ (d : Files). FetchCauses name d why) files causes
causes_alike Fence v w files set input why causes = subst (λ (d : Files). FenceCauses (d 0) why) files causes
causes_alike Upgrade v w files set input why causes = subst (λ (d : Files). UpgradeCauses (d 0) why) files causes
causes_alike Scrub v w files set input why causes = subst (λ (d : Files). OpeningCauses (d 0) why) files causes
causes_alike Repair v w files set input why causes = subst (λ (d : Files). OpeningCauses (d 0) why) files causes
causes_alike (Explain word) v w files set input why causes = subst (λ (d : Files). ExplainCauses word (d 0) why) files causes
causes_alike Verify v w files set input why causes = subst (λ (d : Files). VerifyCauses (d 0) (unwrap_or w.input.left []) why) files (subst (λ (s : SourceState). VerifyCauses (v.disk.files 0) (unwrap_or s.left []) why) input causes)
causes_alike (Rehearse number nodes permille) v w files set input why causes = causes
causes_alike Sites v w files set input why causes = subst (λ (d : Files). OpeningCauses (d 0) why) files causes
causes_alike Session v w files set input why causes = subst (λ (d : Files). SessionCauses d (unwrap_or w.input.left []) why) files (subst (λ (s : SourceState). SessionCauses v.disk.files (unwrap_or s.left []) why) input causes)
causes_alike Copies v w files set input why causes = subst (λ (d : Files). CopiesCauses (d 0) w.disk.lent.set why) files (subst (λ (on : Bool). CopiesCauses (v.disk.files 0) on why) set causes)

-- no command is refused so by itself
pub never_bad : (c : Command) (w : World) → (first second : ℕ) → Causes c w (CopiesBad first second) → ⊥
never_bad (Drill l) w first second causes = causes
never_bad (Create shape) w first second causes = causes
never_bad Stat w first second causes = causes
never_bad command.List w first second causes = causes
never_bad (Put name) w first second causes = causes
never_bad Ingest w first second causes = causes.1.cause
never_bad (Get name) w first second causes = causes
never_bad (Fetch name) w first second causes = causes
never_bad Fence w first second causes = causes
never_bad Upgrade w first second causes = causes
never_bad Scrub w first second causes = causes
never_bad Repair w first second causes = causes
never_bad (Explain word) w first second causes = causes
never_bad Verify w first second causes = causes
never_bad (Rehearse number nodes permille) w first second causes = causes
never_bad Sites w first second causes = causes
never_bad Session w first second causes = causes
never_bad Copies w first second causes = causes

-- no command is refused so by itself
pub never_differ : (c : Command) (w : World) → (at : ℕ) → Causes c w (CopiesDiffer at) → ⊥
never_differ (Drill l) w at causes = causes
never_differ (Create shape) w at causes = causes
never_differ Stat w at causes = causes
never_differ command.List w at causes = causes
never_differ (Put name) w at causes = causes
never_differ Ingest w at causes = causes.1.cause
never_differ (Get name) w at causes = causes
never_differ (Fetch name) w at causes = causes
never_differ Fence w at causes = causes
never_differ Upgrade w at causes = causes
never_differ Scrub w at causes = causes
never_differ Repair w at causes = causes
never_differ (Explain word) w at causes = causes
never_differ Verify w at causes = causes
never_differ (Rehearse number nodes permille) w at causes = causes
never_differ Sites w at causes = causes
never_differ Session w at causes = causes
never_differ Copies w at causes = causes
