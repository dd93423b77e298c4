use Rattle.std.proofs.Common.{◌∙◌, ap}
use Rattle.std.proofs.lemmas.Result.{IfOk-weaker}
use Rattle.serde_json.specs.Written.{compact_text, has_float}
use Rattle.aea_command_read.proofs.StatLemmas.StatTexts.{text_is, no_float}
use Rattle.aea_command_read.proofs.stat.text_of.Goals as goal

pub returns : goal.returns
returns c =
    let shape = c.args.shape.now in
    let e = text_is shape.alpha shape.block c.args.nodes c.args.objects shape.p shape.s shape.sites in
    let f = no_float shape.alpha shape.block c.args.nodes c.args.objects shape.p shape.s shape.sites in
    let built = c.in_ok-value.ensures in
    IfOk-weaker c.to_string.result _ _ (λ s h. h (ap has_float built ∙ f) ∙ ap compact_text built ∙ e) c.to_string.ensures.text
