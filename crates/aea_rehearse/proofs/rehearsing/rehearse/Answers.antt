use Rattle.std.proofs.Common.{le_trans, arith}
use Rattle.aea_disk.specs.Spaces.{room_of}
use Rattle.aea_rehearse.proofs.rehearsing.rehearse.Goals as goal

pub rehearse_on-requires-clause-room : goal.rehearse_on-requires-clause-room
rehearse_on-requires-clause-room c = record {
  cells = record {
    sites = λ f n first last small. le_trans small (c.requires.site_rooms f first last);
    free = tt;
    syncs = λ bytes. tt;
    count = c.requires.count;
  };
  ledger = λ n small. le_trans small c.requires.ledger_room;
}

pub returns-clause-rooms : goal.returns-clause-rooms
returns-clause-rooms c f = c.rehearse_on.ensures.time.room f (room_of c.args.disk.now.spaces f) (omega arith)
