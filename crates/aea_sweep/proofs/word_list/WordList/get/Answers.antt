use Rattle.std.proofs.Common.{◌≡◌, ◌<◌, ◌≤◌, ◌+◌, ◌-◌, [], ℕ, List, suc, length, get_or, take, drop, sym, ◌∙◌, ap, subst, arith}
use Rattle.std.proofs.lemmas.List.{take_rest}
use Rattle.std.proofs.lemmas.Grind.{get_or_default_zero}
use Rattle.aea_sweep.specs.Cuts.{lists_of, AreCuts}
use Rattle.aea_sweep.proofs.Cutting.{lists-length, cut-within, cuts-rise, list-middle, list-last}
use Rattle.aea_sweep.proofs.word_list.WordList.get.Goals as goal

inside : (starts nodes : List ℕ) (now : List (List ℕ)) (r : ℕ) → lists_of starts nodes ≡ now → r < length now → r < length starts
inside starts nodes now r is less =
    let a = lists-length starts nodes in let b = ap (λ (xs : List (List ℕ)). length xs) is in omega arith

-- an element that was read
read : (xs : List ℕ) (i x : ℕ) → i < length xs → x ≡ get_or xs i x → x ≡ get_or xs i 0
read xs i x less is = is ∙ get_or_default_zero xs i x less

-- where a list starts
start_within : (starts nodes : List ℕ) (now : List (List ℕ)) (r a : ℕ) → lists_of starts nodes ≡ now → r < length now → AreCuts 0 starts (length nodes)
    → a ≡ get_or starts r a → a ≤ length nodes
start_within starts nodes now r a is less cuts was =
    let h = inside starts nodes now r is less in
    let e = read starts r a h was in
    let w = cut-within 0 starts (length nodes) r cuts h in
    omega arith

-- a list that is not the last one, by what was read
cut_of : (starts nodes : List ℕ) (now : List (List ℕ)) (r a b : ℕ) → lists_of starts nodes ≡ now → r < length now → AreCuts 0 starts (length nodes)
    → a ≡ get_or starts r a → b ≡ get_or starts (r + 1) b → r + 1 < length starts
    → (a ≤ b) × (b ≤ length nodes) × (take (b - a) (drop a nodes) ≡ get_or now r [])
cut_of starts nodes now r a b is less cuts was ends more =
    let next : r + 1 ≡ suc r = omega arith in
    let a_is = read starts r a (inside starts nodes now r is less) was in
    let b_is = read starts (r + 1) b more ends ∙ ap (λ (k : ℕ). get_or starts k 0) next in
    let up = cuts-rise 0 starts (length nodes) r cuts (omega arith) in
    let w = cut-within 0 starts (length nodes) (suc r) cuts (omega arith) in (
      omega arith,
      omega arith,
      ap (λ (k : ℕ). take (k - a) (drop a nodes)) b_is
          ∙ ap (λ (k : ℕ). take (get_or starts (suc r) 0 - k) (drop k nodes)) a_is
          ∙ sym (list-middle starts nodes r (omega arith))
          ∙ ap (λ (xs : List (List ℕ)). get_or xs r []) is,
    )

-- the last list, by what was read
last_of : (starts nodes : List ℕ) (now : List (List ℕ)) (r a : ℕ) → lists_of starts nodes ≡ now → r < length now
    → a ≡ get_or starts r a → length starts ≤ r + 1 → take (length nodes - a) (drop a nodes) ≡ get_or now r []
last_of starts nodes now r a is less was none =
    let h = inside starts nodes now r is less in
    let a_is = read starts r a h was in
    take_rest nodes a
    ∙ ap (λ (k : ℕ). drop k nodes) a_is
    ∙ sym (list-last starts nodes r (omega arith))
    ∙ ap (λ (xs : List (List ℕ)). get_or xs r []) is

pub index-start-requires : goal.index-start-requires
index-start-requires c =
    let h = inside c.self.inside.starts.items c.self.inside.nodes.items c.args.self.now c.args.r c.self.view_is c.requires in
    let long = c.self.inside.starts.ok.0 in
    omega arith

pub overflow_add-r : goal.overflow_add-r
overflow_add-r c =
    let h = inside c.self.inside.starts.items c.self.inside.nodes.items c.args.self.now c.args.r c.self.view_is c.requires in
    let long = c.self.inside.starts.ok.0 in
    let small = c.self.inside.starts.small in
    omega arith

pub offset_bounds-deref-start : goal.offset_bounds-deref-start
offset_bounds-deref-start c =
    let h = start_within c.self.inside.starts.items c.self.inside.nodes.items c.args.self.now c.args.r c.index-start.result.now c.self.view_is c.requires c.self.invariant c.index-start.ensures in
    let long = c.self.inside.nodes.ok.0 in
    let small = c.self.inside.nodes.small in
    omega arith

pub slice_bounds-result-count : goal.slice_bounds-result-count
slice_bounds-result-count c =
    (cut_of c.self.inside.starts.items c.self.inside.nodes.items c.args.self.now c.args.r c.index-start.result.now c.index.result.now c.self.view_is c.requires c.self.invariant
    c.index-start.ensures c.index.ensures (let long = c.self.inside.starts.ok.0 in let e = c.len.ensures in let h = c.if-r-len.true in omega arith)).0

pub slice_bounds-result-start : goal.slice_bounds-result-start
slice_bounds-result-start c = slice_bounds-result-count c

pub slice_bounds-result-end : goal.slice_bounds-result-end
slice_bounds-result-end c =
    let w =
    (cut_of c.self.inside.starts.items c.self.inside.nodes.items c.args.self.now c.args.r c.index-start.result.now c.index.result.now c.self.view_is c.requires c.self.invariant
    c.index-start.ensures c.index.ensures (let long = c.self.inside.starts.ok.0 in let e = c.len.ensures in let h = c.if-r-len.true in omega arith)).1 in
    subst (λ (xs : List ℕ). c.index.result.now ≤ length xs) (sym c.deref.ensures.value) w

pub offset_bounds-deref-start-else-r-len : goal.offset_bounds-deref-start-else-r-len
offset_bounds-deref-start-else-r-len c =
    let h = start_within c.self.inside.starts.items c.self.inside.nodes.items c.args.self.now c.args.r c.index-start.result.now c.self.view_is c.requires c.self.invariant c.index-start.ensures in
    let long = c.self.inside.nodes.ok.0 in
    let small = c.self.inside.nodes.small in
    omega arith

pub slice_bounds-result-count-else-r-len : goal.slice_bounds-result-count-else-r-len
slice_bounds-result-count-else-r-len c =
    subst (λ (xs : List ℕ). c.index-start.result.now ≤ length xs) (sym c.deref-else-r-len.ensures.value)
    (start_within c.self.inside.starts.items c.self.inside.nodes.items c.args.self.now c.args.r c.index-start.result.now c.self.view_is c.requires c.self.invariant c.index-start.ensures)

pub slice_bounds-result-start-else-r-len : goal.slice_bounds-result-start-else-r-len
slice_bounds-result-start-else-r-len c =
    subst (λ (xs : List ℕ). c.index-start.result.now ≤ length xs) (sym c.deref-else-r-len.ensures.value)
    (start_within c.self.inside.starts.items c.self.inside.nodes.items c.args.self.now c.args.r c.index-start.result.now c.self.view_is c.requires c.self.invariant c.index-start.ensures)

pub returns-then-r-len : goal.returns-then-r-len
returns-then-r-len c =
    ap (λ (xs : List ℕ). take (c.index.result.now - c.index-start.result.now) (drop c.index-start.result.now xs)) c.deref.ensures.value
    ∙ (cut_of c.self.inside.starts.items c.self.inside.nodes.items c.args.self.now c.args.r c.index-start.result.now c.index.result.now c.self.view_is c.requires c.self.invariant
    c.index-start.ensures c.index.ensures (let long = c.self.inside.starts.ok.0 in let e = c.len.ensures in let h = c.if-r-len.true in omega arith)).2

pub returns-else-r-len : goal.returns-else-r-len
returns-else-r-len c =
    ap (λ (xs : List ℕ). take (length xs - c.index-start.result.now) (drop c.index-start.result.now xs)) c.deref-else-r-len.ensures.value
    ∙ last_of c.self.inside.starts.items c.self.inside.nodes.items c.args.self.now c.args.r c.index-start.result.now c.self.view_is c.requires c.index-start.ensures
    (let long = c.self.inside.starts.ok.0 in let e = c.len.ensures in let h = c.if-r-len.false in omega arith)
