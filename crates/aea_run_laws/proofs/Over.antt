-- A run over a disk in memory: what has to be so of the disk, that a run meets all that is asked where its command does over the files that
-- it sees; and that it is so where there are no copies of the ledger.
use Rattle.std.proofs.Common.{◌≡◌, inl, ⊎_elim, ℕ, ◌+◌, ◌<◌, ◌≤◌, Bool, false, List, [], length, Ok, refl, sym, ◌∙◌, ap, arith}
use Rattle.std.proofs.lemmas.Bool.{cases_lt}
use Rattle.aea_disk.specs.Files.{Files, KeepsFiles}
use Rattle.aea_disk.specs.Spaces.{Memory, files_of, room_of, sure_state}
use Rattle.aea_disk.specs.State.{IsRoomy}
use Rattle.aea_io.specs.declared.sure.SureSink.{SureSink}
use Rattle.aea_io.specs.Sure.{sure_sink_state}
use Rattle.aea_copies.specs.Grammar.{IsBegun}
use Rattle.aea_copies.specs.Kept.{AreOn, AreKept, LeavesAdopted}
use Rattle.aea_adopt.specs.Adopting.{IsOff, RevealsKept}
use Rattle.aea_adopt.specs.Adopts.{Adopts}
use Rattle.aea_adopt.specs.Choosing.{AreBad, AreDifferent}
use Rattle.aea_ledger.specs.Taking.{FitsAdding}
use Rattle.aea_adopt.specs.Mending.{FitsAdopting}
use Rattle.aea_adopt.specs.declared.answers.Adopted.{Adopted}
use Rattle.aea_adopt.proofs.Answered.{good_on}
use Rattle.aea_adopt.proofs.Left.{kept_on, adopted_leaves}
use Rattle.aea_mirror.specs.Mirrored.{mirror_state, fresh, outer}
use Rattle.aea_mirror.specs.States.{outer_near, outer_far}
use Rattle.aea_command.specs.declared.refusal.Refusal.{Refusal}
use Rattle.aea_command.specs.declared.refusal.Refusal.TheVariants.{CopiesBad, CopiesDiffer}
use Rattle.aea_command.specs.Worlds.{world}
use Rattle.aea_dispatch.specs.declared.command.Command.{Command}
use Rattle.aea_dispatch.specs.Does.{UsesDisk, Causes, FitsDisk, FitsOutput, IsHonest}
use Rattle.aea_cli.specs.Beneath.{met_world, CausesAdopted, CausesBeneath}
use Rattle.aea_cli.specs.Surely.{sure_world, sure_source}
use Rattle.aea_run_laws.specs.Meeting.{HasFiles, IsMet}

-- Over this disk no refusal comes of copies; a command sees these files; there is space to adopt copies; and over the Mirror of whatever disk
-- that leaves, to sync, for so many bytes of the ledger and of each site, and for one record more, where that ends so much before.
pub record IsGround (x : Files) (room spare : ℕ) (m : Memory) : Type 0 where
  pub good : (first second : ℕ) → AreBad (files_of m.spaces) first second → ⊥
  pub alike : (at : ℕ) → AreDifferent (files_of m.spaces) at → ⊥
  pub seen : (files : Files) → LeavesAdopted (files_of m.spaces) files → outer files ≡ x
  pub adopting : FitsAdopting (sure_state m)
  pub rooms : (f : ℕ) → f ≤ 64 → room_of m.spaces f ≡ room
  pub roomy : (mid : Memory) (a : Adopted) (name : ℕ) → Adopts (Unit {0}) (sure_state m) (sure_state mid) (Ok a) → IsRoomy (mirror_state (Unit {0}) (sure_state mid) (fresh name a))
  pub adding : (mid : Memory) (a : Adopted) (name : ℕ) → Adopts (Unit {0}) (sure_state m) (sure_state mid) (Ok a)
      → (end : ℕ) → end + 1 + spare ≤ room → FitsAdding (mirror_state (Unit {0}) (sure_state mid) (fresh name a)) 1 end

module _ (x : Files) (room spare : ℕ) (m : Memory) (ground : IsGround x room spare m) where
  -- the command sees the same on the disk that the adopting leaves
  pub seen_then : (mid : Memory) (a : Adopted) → Adopts (Unit {0}) (sure_state m) (sure_state mid) (Ok a) → outer (files_of mid.spaces) ≡ x
  seen_then mid a adopts = ground.seen (files_of mid.spaces) (adopted_leaves (files_of m.spaces) (files_of mid.spaces) a (adopts.answers tt))

  -- there is the space of each file of the ledger and of the sites
  pub spacious : (mid : Memory) (a : Adopted) (name : ℕ) → Adopts (Unit {0}) (sure_state m) (sure_state mid) (Ok a)
      → (f n : ℕ) → f ≤ 64 → n ≤ room → (mirror_state (Unit {0}) (sure_state mid) (fresh name a)).room f n
  spacious mid a name adopts f n near few = (near, (tt, adopts.writes.time.room f n (let is = ground.rooms f near in omega (arith, is, few))))

  -- so a run meets what the command asks over these files
  pub meets : (command : Command) (input : List ℕ) (out : SureSink) → UsesDisk command
      → ((mid : Memory) (a : Adopted) (name : ℕ) → Adopts (Unit {0}) (sure_state m) (sure_state mid) (Ok a)
      → FitsDisk command (world (Unit {0}) (mirror_state (Unit {0}) (sure_state mid) (fresh name a)) (sure_source input) (sure_sink_state out)))
      → ((files : Files) (on : Bool) → outer files ≡ x → FitsOutput command (met_world (sure_world m input out) files on))
      → ((files : Files) (on : Bool) → outer files ≡ x → IsHonest command (met_world (sure_world m input out) files on))
      → ((files : Files) (on : Bool) (why : Refusal) → outer files ≡ x → Causes command (met_world (sure_world m input out) files on) why → ⊥)
      → IsMet command m input out
  meets command input out uses fits prints honest refused = record {
    fits = record {
      free = λ u. tt;
      adopting = λ u. ground.adopting;
      over = λ u mid a name adopts. fits mid a name adopts;
    };
    prints = record {
      idle = λ idle. absurd (idle uses);
      over = λ u files on leaves are. prints files on (ground.seen files leaves);
    };
    honest = λ files on leaves. honest files on (ground.seen files leaves);
    unrefused = λ why cause. ⊎_elim (λ here. beneath why here.1) (λ idle. absurd (idle.0 uses)) cause;
  }
    where
      beneath : (why : Refusal) → CausesBeneath command (sure_world m input out) why → ⊥
      beneath (CopiesBad first second) cause = ground.good first second cause
      beneath (CopiesDiffer at) cause = ground.alike at cause
      beneath why cause =
          let here : CausesAdopted command (sure_world m input out) why = cause in
          refused here.files here.on why (ground.seen here.files here.leaves) here.causes

-- ---- no copies

module _ (x : Files) (bare : (f : ℕ) → 64 < f → x f ≡ []) (room : ℕ) (m : Memory) (has : HasFiles x room m) where
  off : AreOn (files_of m.spaces) → ⊥
  off on = ⊎_elim (none 65 (omega arith)) (none 66 (omega arith)) on
    where
      none : (f : ℕ) → 64 < f → IsBegun (files_of m.spaces f) → ⊥
      none f far begun =
          let long = begun.long in
          let empty = ap length (has.files f ∙ bare f far) in
          omega (arith, long, empty)

  never_kept : (pieces : List (List ℕ)) → AreKept (files_of m.spaces) pieces → ⊥
  never_kept pieces kept = off (kept_on (files_of m.spaces) pieces kept)

  -- it is said that copies are off
  stays_off : (mid : Memory) (a : Adopted) → Adopts (Unit {0}) (sure_state m) (sure_state mid) (Ok a) → a.on ≡ false
  stays_off mid a adopts =
      ⊎_elim
      (λ (none : (AreOn (files_of m.spaces) → ⊥) × IsOff a × KeepsFiles (λ f. Unit {0}) (files_of m.spaces) (files_of mid.spaces)). none.1.on)
      (λ (kept : (pieces : List (List ℕ)) × AreKept (files_of m.spaces) pieces × RevealsKept pieces a × LeavesAdopted (files_of m.spaces) (files_of mid.spaces)). absurd (never_kept kept.0 kept.1))
      (adopts.answers tt)

  pub no_copies : IsGround x room 0 m
  no_copies = record {
    good = λ first second bad. off bad.on;
    alike = λ at differ. off (good_on (files_of m.spaces) 65 differ.pieces (inl refl) differ.one);
    seen = λ files leaves. λ i f. (at files leaves f) i;
    adopting = record { some = (0, 0, omega arith); sync = λ bytes. tt; ledger = λ pieces kept. absurd (never_kept pieces kept); copies = λ pieces f kept copy. absurd (never_kept pieces kept) };
    rooms = λ f near. has.rooms f (omega (arith, near));
    roomy = λ mid a name adopts. record { some = (0, 0, (omega arith, (tt, omega arith))); sync = (tt, tt, inl (stays_off mid a adopts)) };
    adding = λ mid a name adopts end large. record {
      room = (omega arith, (tt, adopts.writes.time.room 0 (end + 1) (let is = has.rooms 0 (omega arith) in omega (arith, is, large))));
      now = (tt, tt, inl (stays_off mid a adopts));
      then = λ bytes last one two count. (tt, tt, inl (stays_off mid a adopts));
    };
  }
    where
      at : (files : Files) → LeavesAdopted (files_of m.spaces) files → (f : ℕ) → outer files f ≡ x f
      at files leaves f = ⊎_elim
          (λ (far : 64 < f). outer_far files f far ∙ sym (bare f far))
          (λ (near : f ≤ 64). outer_near files f near ∙ leaves.off off f ∙ has.files f)
          (cases_lt 64 f)
