use Rattle.std.proofs.Common.{◌≡◌, ℕ, List, ap, ◌∙◌, subst}
use Rattle.std.specs.FinMap as map
use Rattle.aea_catalog.specs.Pieces.{joined, place_in}
use Rattle.aea_catalog.specs.Kept.{Pair, listed, IsAt, IsGapFor}
use Rattle.aea_catalog.proofs.Catalogues.{found, more_kept, more_objects}
use Rattle.aea_catalog.proofs.catalog.Catalog.insert_entry.Goals as goal

pub unreachable-requires : goal.unreachable-requires
unreachable-requires c =
    let name : c.entry.inside.name.items ≡ c.args.entry.0 = ap (λ (p : Pair). p.0) c.entry.view_is in
    let has = rw (c.deref.ensures.value, c.pieces.ensures.pieces, c.deref-2.ensures.value) at c.in_default.ensures.found in
    let there = found c.self.inside.entries.items (joined c.self.inside.order.pieces) c.self.invariant c.args.entry.0 _
    (subst (λ (n : List ℕ). IsAt (listed c.self.inside.entries.items (joined c.self.inside.order.pieces)) n (place_in c.self.inside.order.pieces c.in_default.field-0)) name has.is_at) in
    let here = ap (λ v. map.get v.objects c.args.entry.0) c.self.view_is in
    cc (there, c.requires.absent)

pub invariant_of-self : goal.invariant_of-self
invariant_of-self c =
    let name : c.entry.inside.name.items ≡ c.args.entry.0 = ap (λ (p : Pair). p.0) c.entry.view_is in
    let has = rw (c.deref.ensures.value, c.pieces.ensures.pieces, c.deref-2.ensures.value) at c.in-Err.ensures.absent in
    more_kept c.self.inside.entries.items (joined c.self.inside.order.pieces) c.self.invariant c.args.entry (place_in c.self.inside.order.pieces c.in-Err.place) c.len-index.result c.requires.name
    (subst (λ (n : List ℕ). IsGapFor (listed c.self.inside.entries.items (joined c.self.inside.order.pieces)) n (place_in c.self.inside.order.pieces c.in-Err.place)) name has.is_gap)
    (c.len-index.ensures ∙ c.self.inside.entries.ok.0) _ _ c.push_reserved.ensures.items c.insert.ensures

pub returns : goal.returns
returns c =
    let name : c.entry.inside.name.items ≡ c.args.entry.0 = ap (λ (p : Pair). p.0) c.entry.view_is in
    let has = rw (c.deref.ensures.value, c.pieces.ensures.pieces, c.deref-2.ensures.value) at c.in-Err.ensures.absent in
    record {
      objects = more_objects c.self.inside.entries.items (joined c.self.inside.order.pieces) c.self.invariant c.args.entry (place_in c.self.inside.order.pieces c.in-Err.place) c.len-index.result c.requires.name
          (subst (λ (n : List ℕ). IsGapFor (listed c.self.inside.entries.items (joined c.self.inside.order.pieces)) n (place_in c.self.inside.order.pieces c.in-Err.place)) name has.is_gap)
          (c.len-index.ensures ∙ c.self.inside.entries.ok.0) _ _ c.push_reserved.ensures.items c.insert.ensures
          ∙ ap (λ v. map.insert v.objects c.args.entry.0 c.args.entry.1) c.self.view_is;
    }
