use Rattle.std.proofs.Common.{◌≡◌, ◌≤◌, ◌++◌, ◌∷◌, [], ℕ, List, length, sym, ◌∙◌, ap, subst, arith}
use Rattle.std.proofs.lemmas.List.{length-append}
use Rattle.aea_sweep.specs.Cuts.{lists_of, AreCuts}
use Rattle.aea_sweep.proofs.Cutting.{cuts-more, cuts-longer, lists-more}
use Rattle.aea_sweep.proofs.word_list.WordList.push.Goals as goal

-- the starts with one more, where all nodes end
started : (starts new nodes : List ℕ) (n len : ℕ) → n ≡ len → len ≡ length nodes → new ≡ starts ++ n ∷ [] → new ≡ starts ++ length nodes ∷ []
started starts new nodes n len read long pushed = pushed ∙ ap (λ (k : ℕ). starts ++ k ∷ []) (read ∙ long)

pub invariant_of-self-in_err-extend_from_slice : goal.invariant_of-self-in_err-extend_from_slice
invariant_of-self-in_err-extend_from_slice c =
    let starts = c.self.inside.starts.items in
    let nodes = c.self.inside.nodes.items in
    let pushed = started starts c.push.new.self.items nodes c.len.result _ c.len.ensures c.self.inside.nodes.ok.0 c.in_ok-push.ensures.items in
    subst (λ (xs : List ℕ). AreCuts 0 c.push.new.self.items (length xs)) (sym c.in_err-extend_from_slice.ensures.items)
    (subst (λ (xs : List ℕ). AreCuts 0 xs (length nodes)) (sym pushed) (cuts-more 0 starts (length nodes) c.self.invariant))

pub invariant_of-self-2 : goal.invariant_of-self-2
invariant_of-self-2 c =
    let starts = c.self.inside.starts.items in
    let nodes = c.self.inside.nodes.items in
    let pushed = started starts c.push.new.self.items nodes c.len.result _ c.len.ensures c.self.inside.nodes.ok.0 c.in_ok-push.ensures.items in
    let up : length nodes ≤ length c.extend_from_slice.new.self.items =
    (let a = length-append nodes c.args.nodes.now in let b = ap (λ (xs : List ℕ). length xs) c.in_ok-extend_from_slice.ensures.items in omega arith) in
    subst (λ (xs : List ℕ). AreCuts 0 xs (length c.extend_from_slice.new.self.items)) (sym pushed)
    (cuts-longer 0 (starts ++ length nodes ∷ []) (length nodes) (length c.extend_from_slice.new.self.items) up (cuts-more 0 starts (length nodes) c.self.invariant))

pub returns : goal.returns
returns c =
    let starts = c.self.inside.starts.items in
    let nodes = c.self.inside.nodes.items in
    let pushed = started starts c.push.new.self.items nodes c.len.result _ c.len.ensures c.self.inside.nodes.ok.0 c.in_ok-push.ensures.items in
    ap (λ (xs : List ℕ). lists_of xs c.extend_from_slice.new.self.items) pushed
    ∙ ap (λ (xs : List ℕ). lists_of (starts ++ length nodes ∷ []) xs) c.in_ok-extend_from_slice.ensures.items
    ∙ lists-more 0 starts nodes c.args.nodes.now c.self.invariant
    ∙ ap (λ (xs : List (List ℕ)). xs ++ c.args.nodes.now ∷ []) c.self.view_is
