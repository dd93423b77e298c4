-- What a slot keeps, with more bytes.
use Rattle.std.proofs.Common.{◌≡◌, ℕ, suc, ◌-◌, ◌≤◌, List, [], ◌∷◌, ◌++◌, length, get_or, refl, sym, ◌∙◌, ap, arith, append_assoc}
use Rattle.std.specs.List.{flat_map}
use Rattle.std.proofs.lemmas.List.{append-nil, map-append, get_or_append_left}
use Rattle.std.proofs.lemmas.List.Concat.{flat_map-append}
use Rattle.std.proofs.Math.Seq.{get_or-append_seam}
use Rattle.aea_machine.specs.Holding.{blocks_at}
use Rattle.aea_uploads.specs.Slots.{Rise}

-- ---- nodes that rise

pub rise-more : (after last more : ℕ) (nodes : List ℕ) → last ≤ more → Rise after last nodes → Rise after more nodes
rise-more after last more [] le rise = tt
rise-more after last more (i ∷ nodes) le rise = (rise.0, (let m = rise.1 in omega (arith, m, le)), rise-more i last more nodes le rise.2)

pub rise-push : (after last : ℕ) (nodes : List ℕ) → after ≤ last → Rise after last nodes → Rise after (suc last) (nodes ++ suc last ∷ [])
rise-push after last [] le rise = (omega (arith, le), omega arith, tt)
rise-push after last (i ∷ nodes) le rise = (rise.0, (let m = rise.1 in omega (arith, m)), rise-push i last nodes rise.1 rise.2)

-- ---- the blocks at nodes

pub blocks-more : (datas more : List (List ℕ)) (after : ℕ) (nodes : List ℕ) → Rise after (length datas) nodes → blocks_at nodes (datas ++ more) ≡ blocks_at nodes datas
blocks-more datas more after [] rise = refl
blocks-more datas more after (i ∷ nodes) rise =
    ap (λ (d : List ℕ). d ∷ blocks_at nodes (datas ++ more)) (get_or_append_left datas more [] (i - 1) (let a = rise.0 in let m = rise.1 in omega (arith, a, m)))
    ∙ ap (λ (l : List (List ℕ)). get_or datas (i - 1) [] ∷ l) (blocks-more datas more i nodes rise.2)

-- the nodes, and the last one, whose block is put behind the list
pub blocks-push : (datas : List (List ℕ)) (x : List ℕ) (nodes : List ℕ) → Rise 0 (length datas) nodes → blocks_at (nodes ++ suc (length datas) ∷ []) (datas ++ x ∷ []) ≡ blocks_at nodes datas ++ x ∷ []
blocks-push datas x nodes rise =
    let place : suc (length datas) - 1 ≡ length datas = omega arith in
    map-append (λ (i : ℕ). get_or (datas ++ x ∷ []) (i - 1) []) nodes (suc (length datas) ∷ [])
    ∙ ap (λ (l : List (List ℕ)). l ++ get_or (datas ++ x ∷ []) (suc (length datas) - 1) [] ∷ []) (blocks-more datas (x ∷ []) 0 nodes rise)
    ∙ ap (λ (d : List ℕ). blocks_at nodes datas ++ d ∷ []) (ap (λ (k : ℕ). get_or (datas ++ x ∷ []) k []) place ∙ get_or-append_seam datas x [] [])

-- a rest that fills a block
pub joined-push : (blocks : List (List ℕ)) (x bytes piece rest : List ℕ) → bytes ≡ flat_map (λ d. d) blocks ++ rest → x ≡ rest ++ piece → bytes ++ piece ≡ flat_map (λ d. d) (blocks ++ x ∷ []) ++ []
joined-push blocks x bytes piece rest are is =
    ap (λ (l : List ℕ). l ++ piece) are
    ∙ append_assoc (flat_map (λ (d : List ℕ). d) blocks) rest piece
    ∙ ap (λ (l : List ℕ). flat_map (λ (d : List ℕ). d) blocks ++ l) (sym is)
    ∙ sym (append-nil (flat_map (λ (d : List ℕ). d) (blocks ++ x ∷ [])) ∙ flat_map-append (λ (d : List ℕ). d) blocks (x ∷ []) ∙ ap (λ (l : List ℕ). flat_map (λ (d : List ℕ). d) blocks ++ l) (append-nil x))
