use Rattle.std.proofs.Common.{◌≡◌, true, false, arith, sym, ◌∙◌, ap}
use Rattle.std.specs.Prelude.{is_err}
use Rattle.std.proofs.lemmas.Bool.{true≢false}
use Rattle.hex.specs.Hex.{encode_lower}
use Rattle.aea_reader.proofs.Seals.{seal_read, seal_bytes}
use Rattle.aea_reader.proofs.heads.digits_in.Goals as goal

pub returns-then-is_err-clause-none : goal.returns-then-is_err-clause-none
returns-then-is_err-clause-none c seal valid digits =
    let read = seal_read c.args.text.now seal c.decode_to_slice.new.out _ c.decode_to_slice.result c.decode_to_slice.ensures.value (omega arith) valid digits in
    true≢false (sym c.if-is_err.true ∙ c.is_err.ensures.value ∙ ap is_err read.0)

pub returns-then-are_digits_of-clause-bytes : goal.returns-then-are_digits_of-clause-bytes
returns-then-are_digits_of-clause-bytes c = record {
  wide = omega arith;
  each = seal_bytes c.args.text.now c.decode_to_slice.new.out _ c.decode_to_slice.result c.decode_to_slice.ensures.value (sym c.is_err.ensures.value ∙ c.if-is_err.false);
}

pub returns-else-are_digits_of-clause-none : goal.returns-else-are_digits_of-clause-none
returns-else-are_digits_of-clause-none c seal valid digits =
    let read = seal_read c.args.text.now seal c.decode_to_slice.new.out _ c.decode_to_slice.result c.decode_to_slice.ensures.value (omega arith) valid digits in
    let same : c.args.text.now ≡ encode_lower c.decode_to_slice.new.out = digits ∙ ap encode_lower (sym read.1) in
    let are : c.are_digits_of.result ≡ true = c.are_digits_of.ensures.1 same in
    let not : c.are_digits_of.result ≡ false = c.if-are_digits_of.false in
    cc
