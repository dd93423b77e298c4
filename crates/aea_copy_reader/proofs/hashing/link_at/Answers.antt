use Rattle.std.proofs.Common.{◌≡◌, ◌+◌, ◌≤◌, ℕ, List, [], ◌++◌, length, take, drop, sym, ap, ◌∙◌, arith}
use Rattle.std.specs.Int.{w32, to_be_bytes}
use Rattle.std.proofs.lemmas.List.{length-take, length-drop, append_assoc}
use Rattle.sha2.specs.Sha256.{sha256}
use Rattle.aea_copy_reader.proofs.hashing.link_at.Goals as goal

pub returns-clause-link : goal.returns-clause-link
returns-clause-link g c = λ reveals.
    let file = (g.D.Disk.state c.args.disk.now).files c.args.range.file in
    let count = c.args.range.count in
    let link = c.args.link.now in
    let piece = take count (drop c.args.range.at file) in
    let taken = c.in_ok-hash_range.ensures.whole c.if-not-branch.false reveals in
    let there : c.args.range.at + count ≤ length file = omega (arith, taken.there, c.requires.some.0) in
    let long : length piece ≡ count = omega (arith, length-take count (drop c.args.range.at file), length-drop c.args.range.at file, there) in
    let number : c.to_be_bytes.result ≡ to_be_bytes w32 count = c.to_be_bytes.ensures in
    let held = taken.holds (link ++ c.to_be_bytes.result) (c.update-2.ensures link (c.update.ensures [] c.new-hasher.ensures)) in
    record {
      bytes = taken.bytes;
      there = there;
      linked =
          c.finalize.ensures ((link ++ c.to_be_bytes.result) ++ piece) held
          ∙ ap sha256 (append_assoc link c.to_be_bytes.result piece ∙ ap (λ (l : List ℕ). link ++ (l ++ piece)) (number ∙ ap (to_be_bytes w32) (sym long)));
    }
