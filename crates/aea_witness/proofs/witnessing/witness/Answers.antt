use Rattle.std.proofs.Common.{◌∙◌, arith}
use Rattle.aea_rehearse.proofs.Fresh.{fresh_site}
use Rattle.aea_witness.proofs.witnessing.witness.Goals as goal

pub witness_on-requires-clause-empty : goal.witness_on-requires-clause-empty
witness_on-requires-clause-empty c = c.in_ok-disk.ensures.empty 0

pub witness_on-requires-clause-room : goal.witness_on-requires-clause-room
witness_on-requires-clause-room c = record {
  cells = record {
    sites = λ f n first last small. (let room = c.in_ok-disk.ensures.rooms f (omega (arith, last)) ∙ fresh_site 1000 14680400 f first last in omega (arith, small, room));
    free = tt;
    syncs = λ bytes. tt;
    count = (let none = c.in_ok-disk.ensures.count in omega (arith, none));
  };
  ledger = λ n small. (let room = c.in_ok-disk.ensures.rooms 0 (omega arith) in omega (arith, small, room));
}
