use Rattle.std.proofs.Common.{◌<◌, List, length, ap, ◌∙◌, arith}
use Rattle.std.specs.Vec.{with_item}
use Rattle.aea_disk.specs.Space.{Extent}
use Rattle.aea_disk.specs.Spaces.{Memory, room_of}
use Rattle.aea_disk.proofs.Lending.{room_at, room_set, sure_time}
use Rattle.aea_disk.proofs.sure.SureDiskDisk.write.Goals as goal

pub returns-then-at-bytes-clause-time : goal.returns-then-at-bytes-clause-time
returns-then-at-bytes-clause-time c =
    let i = c.self.inside in
    let count = ap (λ (m : Memory). m.faults) c.self.view_is in
    let spaces = ap (λ (m : Memory). m.spaces) c.self.view_is in
    let there : c.args.file < length i.spaces.items = omega (arith, c.self.invariant, c.requires.file, i.spaces.ok.0) in
    sure_time c.args.self.now (record { spaces = (with_item i.spaces c.args.file c.index_mut-space.result.now).items; faults = c.risen-self-inside.result })
    (λ f. room_set i.spaces.items c.args.file c.index_mut-space.result.now there (room_at i.spaces.items c.args.file c.index_mut-space.result.now there c.index_mut-space.ensures.value) f ∙ ap (λ (l : List Extent). room_of l f) spaces)
    (let k = c.risen-self-inside.ensures.kept in omega (arith, count, k)) (let v = c.risen-self-inside.ensures.value in omega (arith, count, v))

pub returns-clause-time : goal.returns-clause-time
returns-clause-time c =
    let i = c.self.inside in
    let count = ap (λ (m : Memory). m.faults) c.self.view_is in
    let spaces = ap (λ (m : Memory). m.spaces) c.self.view_is in
    let there : c.args.file < length i.spaces.items = omega (arith, c.self.invariant, c.requires.file, i.spaces.ok.0) in
    sure_time c.args.self.now (record { spaces = (with_item i.spaces c.args.file c.write.new.self).items; faults = i.faults })
    (λ f. room_set i.spaces.items c.args.file c.write.new.self there (c.write.ensures.room ∙ room_at i.spaces.items c.args.file c.index_mut-space.result.now there c.index_mut-space.ensures.value) f ∙ ap (λ (l : List Extent). room_of l f) spaces)
    (omega (arith, count)) (omega (arith, count))
