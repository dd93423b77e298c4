-- What holds of a run of `sites`.
use Rattle.aea_io.specs.Streams.{SourceState, SinkState}
use Rattle.aea_disk.specs.State.{State}
use Rattle.aea_disk.proofs.Moments.{where_none, where_kept, passes_none}
use Rattle.aea_dispatch.specs.declared.command.Command.TheVariants.{Sites}
use Rattle.aea_dispatch.specs.Does.{Runs}
use Rattle.aea_command.specs.Causes.{Refuses}
use Rattle.aea_command.specs.Failures.{Answer, NeverClashes}
use Rattle.aea_command.specs.Openings.{OpeningCauses}
use Rattle.aea_command.specs.Worlds.{world}
use Rattle.aea_command.proofs.OpeningCases.{opening_more}
use Rattle.aea_command.proofs.Refusing.{refuses_by_revealed}
use Rattle.aea_command_loss.specs.Sites.{SumsUpSites}
use Rattle.aea_command_loss.proofs.SitesLemmas.{sites_fit, sites_disk}

-- what `sites` did and when it is refused give what holds of its run
pub sites_runs : (reveals : Type 0) (old new : State) (input : SourceState) (before after : SinkState) (answer : Answer)
    → SumsUpSites reveals old new before after answer → Refuses reveals (OpeningCauses (old.files 0)) answer
    → NeverClashes answer
    → Runs Sites (world reveals old input before) (world reveals new input after) answer
sites_runs reveals old new input before after answer sums refuses honest =
    let opens = sums.opens in
    record {
      does = sums;
      refuses = λ early. refuses_by_revealed _ _ _ _ (λ why revealed. revealed.0 tt) refuses;
      disk_fits = λ revealed ready room. sites_disk answer before after sums.opening (opens.reads.sure revealed ready room).0 sums.unopened sums.kinds;
      output_fits = λ revealed fits. sites_fit reveals (old.files 0) before after answer sums.opening (revealed.disk tt) opens.this_one opens.kinds sums.unopened sums.prints fits;
      honest = λ revealed is. honest;
      stays = where_kept reveals _ old old new (passes_none old) opens.reads.time opens.reads.crash opens.reads.contents (where_none reveals _ old);
      opens = λ revealed. opening_more old new _ _ (λ c stays f keep. stays f) (opens.stops revealed);
    }
