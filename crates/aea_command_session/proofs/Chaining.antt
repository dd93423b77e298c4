-- From each step on the blocks of X stay.
use Rattle.std.proofs.Common.{◌≡◌, ◌≤◌, [], ◌∷◌, length, refl, sym, ◌∙◌, ap, subst, arith, length-append}
use Rattle.std.specs.List.{flat_map}
use Rattle.aea_lattice.specs.declared.shape.Shape.{Shape}
use Rattle.aea_shelf.specs.Writes.{KeepsHomes}
use Rattle.aea_shelf.proofs.Cells.{keeps_intact}
use Rattle.aea_archive.specs.Blocks.{IsBlockIn}
use Rattle.aea_messages.specs.declared.message.Message.{Message}
use Rattle.aea_machine.specs.Closings.{closing_in}
use Rattle.aea_command_session.specs.Standing.{Standing, IsHonestFor, MovesTo}
use Rattle.aea_command_session.specs.Chains.{StaysTo, RepliesStay}
use Rattle.aea_command_session.proofs.Growing.Stepping.{step_datas}

-- homes that stay, and the intact blocks at them
stays_by : (w u : Standing) → u.ledger.shape ≡ w.ledger.shape → length w.machine.datas ≤ length u.machine.datas → KeepsHomes w.ledger.shape (IsBlockIn w.ledger.shape (length w.machine.datas)) w.files u.files → StaysTo w u
stays_by w u shape nodes homes = record {
  shape = shape;
  nodes = nodes;
  homes = homes;
  intact = keeps_intact w.ledger.shape (IsBlockIn w.ledger.shape (length w.machine.datas)) w.files u.files homes;
}

stays_none : (w : Standing) → StaysTo w w
stays_none w = stays_by w w refl (omega arith) (λ a bytes of keep few here. here)

-- one message leaves them
stays_step : (reveals honest : Type 0) (w next : Standing) (message : Message) → reveals → MovesTo reveals honest w next message → StaysTo w next
stays_step reveals honest w next message revealed moves =
    let datas = ap (λ (m : _). m.datas) moves.machine ∙ step_datas w.ledger.shape w.machine message in
    let long = ap length datas ∙ length-append w.machine.datas (flat_map (λ c. c.blocks) (closing_in w.ledger.shape w.machine message)) in
    let changes = moves.files revealed in
    stays_by w next moves.shape (omega (arith, long))
    (λ a bytes of keep few here. changes.homes a bytes of (record { after = keep.after; most = (let most = keep.most in omega (arith, most)); used = keep.used }) few here)

stays_both : (w next u : Standing) → StaysTo w next → StaysTo next u → StaysTo w u
stays_both w next u one two =
    let homes : KeepsHomes w.ledger.shape (IsBlockIn w.ledger.shape (length next.machine.datas)) next.files u.files =
    subst (λ (s : Shape). KeepsHomes s (IsBlockIn s (length next.machine.datas)) next.files u.files) one.shape two.homes in
    let first = one.nodes in
    let second = two.nodes in
    stays_by w u (two.shape ∙ one.shape) (omega (arith, first, second))
    (λ a bytes of keep few here.
    homes a bytes of (record { after = keep.after; most = (let most = keep.most in omega (arith, most, first)); used = keep.used }) few (one.homes a bytes of keep few here))

pub replies_stay : (reveals : Type 0) → RepliesStay reveals
replies_stay reveals first w u [] bytes revealed replied = subst (StaysTo w) (sym replied.0) (stays_none w)
replies_stay reveals first w u (message ∷ messages) bytes revealed replied =
    stays_both w replied.0 u (stays_step reveals (reveals × IsHonestFor first) w replied.0 message revealed replied.5)
    (replies_stay reveals first replied.0 u messages replied.3 revealed replied.7)
