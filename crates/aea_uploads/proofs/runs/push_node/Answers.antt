use Rattle.std.proofs.Common.{◌≡◌, ◌≢◌, ℕ, ◌+◌, ◌-◌, ◌≤◌, List, [], ◌∷◌, ◌++◌, length, slice_set, slice_index_or, sym, ◌∙◌, ap, subst, arith}
use Rattle.std.proofs.lemmas.Bool.Decides.{nat_tests}
use Rattle.aea_catalog.specs.declared.objects.Extent.{Extent}
use Rattle.aea_uploads.proofs.Pushes.{push_run, runs-push, set-push, snoc-push}
use Rattle.aea_uploads.proofs.runs.push_node.Goals.{then-count-gt0+else-last-node, else-count-gt0}
use Rattle.aea_uploads.proofs.runs.push_node.Goals as goal

pub returns-then-last-node : goal.returns-then-last-node
returns-then-last-node c nodes is =
    let items = c.args.parts.now.items in
    let d = c.index-last.result.now in
    let count : length c.as_slice-count.result.now ≡ length c.args.parts.now.items = ap length c.as_slice-count.ensures.value in
    let some : 1 ≤ length c.as_slice-count.result.now = grind (arith, nat_tests, c.if-count-gt0.true) in
    let get : slice_index_or c.args.parts.now.items (length c.args.parts.now.items - 1) c.index-last.result.now ≡ c.index-last.result.now =
    sym (subst (λ (k : ℕ). c.index-last.result.now ≡ slice_index_or c.args.parts.now.items (k - 1) c.index-last.result.now) count c.index-last.ensures) in
    let ends : c.index-last.result.now.first + c.index-last.result.now.count ≡ c.args.node = grind (arith, nat_tests, c.if-last-node.true) in
    subst (λ (k : ℕ). slice_set items (k - 1) (record { first = d.first; count = d.count + 1 }) ≡ push_run items c.args.node) (sym count)
    (subst (λ (x : Extent). slice_set items (length items - 1) (record { first = x.first; count = x.count + 1 }) ≡ push_run items c.args.node) get
    (set-push items c.args.node d (omega (arith, some, count)) (subst (λ (x : Extent). x.first + x.count ≡ c.args.node) (sym get) ends)))
    ∙ ap (λ (l : List Extent). push_run l c.args.node) is ∙ sym (runs-push nodes c.args.node)

pub returns : goal.returns
returns c nodes is =
    let items = c.args.parts.now.items in
    let count : length c.as_slice-count.result.now ≡ length c.args.parts.now.items = ap length c.as_slice-count.ensures.value in
    let snoc : c.args.parts.now.items ++ record { first = c.args.node; count = 1 } ∷ [] ≡ push_run c.args.parts.now.items c.args.node = elim c.if-count-gt0.branch [
      | then-count-gt0+else-last-node w ↦
          let get : slice_index_or c.args.parts.now.items (length c.args.parts.now.items - 1) w.index-last.result.now ≡ w.index-last.result.now =
          sym (subst (λ (k : ℕ). w.index-last.result.now ≡ slice_index_or c.args.parts.now.items (k - 1) w.index-last.result.now) count w.index-last.ensures) in
          let away : w.index-last.result.now.first + w.index-last.result.now.count ≢ c.args.node = λ e. grind (arith, nat_tests, w.if-last-node.false, e) in
          snoc-push items c.args.node w.index-last.result.now (λ some h. away (subst (λ (x : Extent). x.first + x.count ≡ c.args.node) get h))
      | else-count-gt0 w ↦ snoc-push items c.args.node (record { first = 0; count = 0 }) (λ some h. grind (arith, nat_tests, w.if-count-gt0.false, some, count))
    ] in
    c.in_ok-push.ensures.items ∙ snoc ∙ ap (λ (l : List Extent). push_run l c.args.node) is ∙ sym (runs-push nodes c.args.node)
