use Rattle.std.proofs.Common.{◌≡◌, ◌+◌, ◌-◌, ◌++◌, ◌∷◌, [], ℕ, Bool, true, false, List, length, take, refl, ap, ◌∙◌}
use Rattle.aea_copy_writer.specs.Parts.{gate_byte}
use Rattle.aea_copy_writer.proofs.Buffers.{end_put}
use Rattle.aea_copy_writer.proofs.entry.finish.Goals as goal
use mir.Val.{bool_byte}

byte_gate : (b : Bool) → bool_byte b ≡ gate_byte b
byte_gate true = refl
byte_gate false = refl

pub returns : goal.returns
returns c =
    let n = length c.args.buffer.now - 33 in
    let e = c.copy_from_slice.ensures in
    end_put c.args.buffer.now c.copy_from_slice.new.self (n + 32 - n) c.from.result c.requires (ap length e.after ∙ c.told-link) e.len
    ∙ ap (λ (l : List ℕ). take n c.args.buffer.now ++ (l ++ c.from.result ∷ [])) e.after
    ∙ ap (λ (b : ℕ). take n c.args.buffer.now ++ (c.args.link.now ++ b ∷ [])) (c.from.ensures ∙ byte_gate c.args.more)
