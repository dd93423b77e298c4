-- Where a run stands after messages that were taken one after the other, and the replies to them.
use Rattle.std.proofs.Common.{◌≡◌, ⊎_elim, ℕ, ◌+◌, ◌≤◌, List, [], ◌∷◌, ◌++◌, length, refl, sym, ◌∙◌, ap, subst, arith, length-append}
use Rattle.std.specs.List.{flat_map}
use Rattle.std.proofs.lemmas.List.{append-nil}
use Rattle.aea_lattice.specs.declared.blocks.BlockId.{BlockId}
use Rattle.aea_lattice.specs.declared.shape.Shape.{Shape}
use Rattle.aea_disk.specs.Files.{Files}
use Rattle.aea_disk.specs.State.{State}
use Rattle.aea_records.specs.Format.{raised_limit}
use Rattle.aea_ledger.specs.Values.{IsThisOne}
use Rattle.aea_archive.specs.Blocks.{IsBlockOn, IsBlockIn, IsIntactBy}
use Rattle.aea_archive.specs.Cells.{IsBesides, ChangesArchive}
use Rattle.aea_archive.proofs.Cells.{changes_less}
use Rattle.aea_messages.specs.declared.message.Message.{Message}
use Rattle.aea_machine.specs.Closings.{Closing, closing_in}
use Rattle.aea_machine.specs.Machine.{Machine, step, after}
use Rattle.aea_session.specs.declared.work.Work.{Work}
use Rattle.aea_session.specs.Looks.{greatest_reply}
use Rattle.aea_session.specs.Serving.{Answers, HasServed}
use Rattle.aea_session.specs.Stands.{KeepsMachine, StandsFor}
use Rattle.aea_session.proofs.Lengths.{reply_long}
use Rattle.aea_command_session.specs.Space.{greatest_replies}
use Rattle.aea_command_session.specs.Standing.{Standing, RecordsX, LeavesXW, MovesTo, HasReplied}
use Rattle.aea_command_session.proofs.Growing.Stepping.{closing_one, step_datas}

-- a session that keeps this state of the machine stands there, over these files
abbrev pub stands_at : Machine → Work → Files → Standing
stands_at m v c = record { machine = m; ledger = v.ledger; files = c }

-- ---- one message

-- the blocks of X and W of the machine are those of the session
among : (v : Work) (m : Machine) → KeepsMachine v m → (b : BlockId) → IsBlockIn v.ledger.shape (length m.datas + length m.woven) b → IsBlockIn v.ledger.shape v.heads.lattice.n b
among v m keeps b on = record {
  after = on.after;
  most = (let most = on.most in let long = keeps.datas in let grown = keeps.grown.nodes in omega (arith, most, long, grown));
  used = on.used;
}

-- the changes that leave the blocks of X and W leave those of X and W of the machine
pub leaves_xw : (v : Work) (m : Machine) (c d : Files) → KeepsMachine v m → ChangesArchive v.ledger.shape raised_limit (IsBlockIn v.ledger.shape v.heads.lattice.n) (IsBesides v.ledger.shape) c d → LeavesXW (stands_at m v c) d
leaves_xw v m c d keeps changes =
    changes_less v.ledger.shape raised_limit (IsBlockIn v.ledger.shape v.heads.lattice.n) (IsBlockIn v.ledger.shape (length m.datas + length m.woven)) (IsBesides v.ledger.shape) (IsBesides v.ledger.shape)
    c d (among v m keeps) (λ f past. past) changes

-- a session that stands for X and W keeps the ledger that records X
stood_for : (v : Work) (m : Machine) (c : Files) → StandsFor v m → RecordsX (stands_at m v c)
stood_for v m c stands = (stands.records, stands.has, stands.recorded)

module _ (reveals : Type 0) (m : Machine) (v u : Work) (message : Message) (now next : State) (code : ℕ) (reply : List ℕ)
    (keeps : KeepsMachine v m) (answers : Answers reveals m v u message now next code reply) where
  abbrev then_is : Machine
  then_is = (step v.ledger.shape m message).state

  -- a message that closes nothing adds no block to X
  none_added : closing_in v.ledger.shape m message ≡ [] → (b : BlockId) → IsBlockOn v.ledger.shape (length m.datas) (length then_is.datas) b → ⊥
  none_added none b on =
      let same : then_is.datas ≡ m.datas =
      step_datas v.ledger.shape m message ∙ ap (λ (cs : List Closing). m.datas ++ flat_map (λ c. c.blocks) cs) none ∙ append-nil m.datas in
      let long = ap length same in
      let after = on.after in
      let most = on.most in
      omega (arith, long, after, most)

  -- and one that does adds blocks that are intact
  one_added : reveals → IsThisOne v.ledger (now.files 0) → (c : Closing) → closing_in v.ledger.shape m message ≡ c ∷ []
      → (b : BlockId) → IsBlockOn v.ledger.shape (length m.datas) (length then_is.datas) b → IsIntactBy v.ledger.shape u.ledger.digests next.files b
  one_added revealed this c is b on =
      let closed = answers.leaves.closed tt revealed m c keeps is in
      let has = this.has in
      let value = closed.value this.records has in
      let then = answers.moves.keeps m keeps in
      let all = closed.added this.records (record { has = has; ledger = this.ledger }) in
      let before = keeps.datas in
      let after = then.datas in
      let first = has.lattice.n in
      let last = value.lattice.n in
      let low = on.after in
      let high = on.most in
      let held = all.blocks b (record { after = omega (arith, before, first, low); most = omega (arith, after, last, high); used = on.used }) in
      subst (λ (ds : List (List ℕ)). IsIntactBy v.ledger.shape ds next.files b) (sym value.digests) held.intact

  all_added : reveals → IsThisOne v.ledger (now.files 0) → (b : BlockId) → IsBlockOn v.ledger.shape (length m.datas) (length then_is.datas) b → IsIntactBy v.ledger.shape u.ledger.digests next.files b
  all_added revealed this b on = ⊎_elim
      (λ none. absurd (none_added none b on))
      (λ one. one_added revealed this one.0 one.1 b on)
      (closing_one v.ledger.shape m message)

-- where a message was taken, the run moved by it
moves_to : (reveals honest : Type 0) (m : Machine) (v u : Work) (message : Message) (now next : State) (code : ℕ) (reply : List ℕ) → KeepsMachine v m → (reveals → IsThisOne v.ledger (now.files 0)) → (honest → StandsFor v m)
    → Answers reveals m v u message now next code reply → MovesTo reveals honest (stands_at m v now.files) (stands_at (step v.ledger.shape m message).state u next.files) message
moves_to reveals honest m v u message now next code reply keeps this stands answers = record {
  machine = refl;
  shape = answers.moves.shape;
  ledger = answers.moves.goes m keeps;
  this = λ revealed. (answers.moves.this revealed).ledger;
  files = λ revealed. leaves_xw v m now.files next.files keeps (answers.leaves.writes.contents revealed);
  added = λ revealed.
      subst (λ (s : Shape). (b : BlockId) → IsBlockOn s (length m.datas) (length (step v.ledger.shape m message).state.datas) b → IsIntactBy s u.ledger.digests next.files b) (sym answers.moves.shape)
      (all_added reveals m v u message now next code reply keeps answers revealed (this revealed));
  recorded = λ is. stood_for u (step v.ledger.shape m message).state next.files (answers.moves.stands m keeps (stands is));
}

-- ---- all of them

module _ (reveals : Type 0) {D : Type 0} (state : D → State) where
  -- the session keeps this state of the machine, in an archive of the same shape
  abbrev pub KeepsTo : Work → Work → Machine → Type 0
  KeepsTo v w k = KeepsMachine w k × (w.ledger.shape ≡ v.ledger.shape)

  pub kept_all : (m : Machine) (v w : Work) (d e : D) (messages : List Message) (bytes : List ℕ) → KeepsMachine v m → HasServed reveals state m v d messages bytes w e → KeepsTo v w (after v.ledger.shape m messages)
  kept_all m v w d e [] bytes keeps served = (subst (λ (x : Work). KeepsMachine x m) (sym served.0) keeps, ap (λ (x : Work). x.ledger.shape) served.0)
  kept_all m v w d e (message ∷ messages) bytes keeps served =
      let moves = served.5.moves in
      let n : Machine = (step v.ledger.shape m message).state in
      let rest = subst (λ (s : Shape). KeepsTo served.0 w (after s n messages)) moves.shape (kept_all n served.0 w served.1 e messages served.4 (moves.keeps m keeps) served.7) in
      (rest.0, rest.1 ∙ moves.shape)

  -- what was served are the replies
  pub replied_all : (honest : Type 0) (m : Machine) (v w : Work) (d e : D) (messages : List Message) (bytes : List ℕ) → KeepsMachine v m → (reveals → IsThisOne v.ledger ((state d).files 0)) → (honest → StandsFor v m)
      → HasServed reveals state m v d messages bytes w e → HasReplied reveals honest (stands_at m v (state d).files) messages bytes (stands_at (after v.ledger.shape m messages) w (state e).files)
  replied_all honest m v w d e [] bytes keeps this stands served = (
    ap (λ (x : Work). stands_at m x (state e).files) served.0 ∙ ap (λ (y : D). stands_at m v (state y).files) served.1,
    served.2,
  )
  replied_all honest m v w d e (message ∷ messages) bytes keeps this stands served =
      let u : Work = served.0 in
      let f : D = served.1 in
      let n : Machine = (step v.ledger.shape m message).state in
      let moves = served.5.moves in
      let rest = replied_all honest n u w f e messages served.4 (moves.keeps m keeps) (λ revealed. (moves.this revealed).ledger) (λ is. moves.stands m keeps (stands is)) served.7 in (
        stands_at n u (state f).files,
        served.2,
        served.3,
        served.4,
        served.5.is_reply,
        moves_to reveals honest m v u message (state d) (state f) served.2 served.3 keeps this stands served.5,
        served.6,
        subst (λ (s : Shape). HasReplied reveals honest (stands_at n u (state f).files) messages served.4 (stands_at (after s n messages) w (state e).files)) moves.shape rest,
      )

  -- and they are no longer than the greatest ones
  pub long_all : (m : Machine) (v w : Work) (d e : D) (messages : List Message) (bytes : List ℕ) → HasServed reveals state m v d messages bytes w e → length bytes ≤ greatest_replies v.ledger.shape m messages
  long_all m v w d e [] bytes served = (let none = ap length served.2 in omega (arith, none))
  long_all m v w d e (message ∷ messages) bytes served =
      let n : Machine = (step v.ledger.shape m message).state in
      let first = reply_long reveals v.ledger m (state d).files message served.2 served.3 served.5.is_reply in
      let rest = subst (λ (s : Shape). length served.4 ≤ greatest_replies s n messages) served.5.moves.shape (long_all n served.0 w served.1 e messages served.4 served.7) in
      let both = ap length served.6 ∙ length-append served.3 served.4 in
      omega (arith, first, rest, both)

-- the greatest replies with one message more
pub greatest_more : (shape : Shape) (m : Machine) (messages : List Message) (message : Message)
    → greatest_replies shape m (messages ++ message ∷ []) ≡ greatest_replies shape m messages + greatest_reply (step shape (after shape m messages) message).answer
greatest_more shape m [] message = omega arith
greatest_more shape m (first ∷ messages) message =
    let rest = greatest_more shape (step shape m first).state messages message in
    omega (arith, rest)
