-- A session as contracts see it.
use Rattle.std.specs.Prelude.{◌≡◌, Bool, true, refl}
use Rattle.std.specs.Coded.{Coded, code_by, coded×, coded_bool}
use Rattle.aea_session.specs.contracts.work.Work as works
use Rattle.aea_session.specs.declared.work.Work.{Work}
use Rattle.aea_session.specs.Stands.{KeepsSomeMachine}

-- what a session works with, and whether it may be used
pub record SessionValue : Type 0 where
  pub work : Work
  pub live : Bool

-- it as the pair of these
abbrev pub session_code : Coded SessionValue
session_code = code_by (Work × Bool) (coded× works.the_row.coded coded_bool) (λ s. (s.work, s.live)) (λ p. record { work = p.0; live = p.1 }) (λ _. refl)

-- a session that may be used keeps a state of the machine, and its ledger may be appended to
abbrev pub IsUsable : Work → Bool → Type 0
IsUsable work live = live ≡ true → KeepsSomeMachine work × (work.ledger.live ≡ true)
