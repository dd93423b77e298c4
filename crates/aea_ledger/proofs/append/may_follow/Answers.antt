use Rattle.std.proofs.Common.{option_map, length}
use Rattle.aea_records.specs.Objects.{stored_as}
use Rattle.aea_ledger.proofs.Small.{few_digests}
use Rattle.aea_ledger.proofs.Appends.{made_next, made_few}
use Rattle.aea_ledger.proofs.append.may_follow.Goals as goal

pub returns-clause-next : goal.returns-clause-next
returns-clause-next c =
    made_next c.args.ledger.now (stored_as c.args.name.now c.args.object.now c.args.digests.now) (option_map (λ e. e.now) c.args.parts) c.objects_are_counted.ensures c.new_names_are_free.ensures
    (record {
      few = c.requires.few;
      named = c.requires.name;
      absent = c.requires.absent;
      size = c.requires.size;
      digest = c.is_digest.ensures;
      first = c.requires.first;
      fits = c.requires.fits;
      long = c.requires.digests;
      each = c.are_digests.ensures;
    })
    c.requires.nodes

pub returns-clause-few : goal.returns-clause-few
returns-clause-few c = few_digests c.args.ledger.now.shape c.args.ledger.now.raised c.args.ledger.now.lattice.n c.args.object.now.count (length c.args.digests.now) c.requires.fits c.requires.digests

pub returns-clause-parts : goal.returns-clause-parts
returns-clause-parts c = made_few c.args.ledger.now c.args.object.now.size c.args.object.now.count c.args.parts c.requires.fits c.requires.nodes
