use Rattle.aea_disk.proofs.Moments.{passes_none}
use Rattle.aea_dispatch.proofs.Runs.Drill.{drill_runs}
use Rattle.aea_dispatch.proofs.Runs.Create.{create_runs}
use Rattle.aea_dispatch.proofs.Runs.Stat.{stat_runs}
use Rattle.aea_dispatch.proofs.Runs.Put.{put_runs}
use Rattle.aea_dispatch.proofs.Runs.Ingest.{ingest_runs}
use Rattle.aea_dispatch.proofs.Runs.Get.{get_runs}
use Rattle.aea_dispatch.proofs.Runs.Fetch.{fetch_runs}
use Rattle.aea_dispatch.proofs.Runs.List.{list_runs}
use Rattle.aea_dispatch.proofs.Runs.Fence.{fence_runs}
use Rattle.aea_dispatch.proofs.Runs.Upgrade.{upgrade_runs}
use Rattle.aea_dispatch.proofs.Runs.Scrub.{scrub_runs}
use Rattle.aea_dispatch.proofs.Runs.Repair.{repair_runs}
use Rattle.aea_dispatch.proofs.Runs.Explain.{explain_runs}
use Rattle.aea_dispatch.proofs.Runs.Verify.{verify_runs}
use Rattle.aea_dispatch.proofs.Runs.Rehearse.{rehearse_runs}
use Rattle.aea_dispatch.proofs.Runs.Sites.{sites_runs}
use Rattle.aea_dispatch.proofs.Runs.Session.{session_runs}
use Rattle.aea_dispatch.proofs.dispatch.carry_out.Goals as goal

pub returns-in-Drill-clause-runs : goal.returns-in-Drill-clause-runs
returns-in-Drill-clause-runs g c = rw c.in-Drill.is (drill_runs _ _ _ _ _ _ _ _ c.drill.ensures.drills c.drill.ensures.refuses c.drill.ensures.disk c.drill.ensures.clash)

pub returns-in-Create-clause-runs : goal.returns-in-Create-clause-runs
returns-in-Create-clause-runs g c = rw c.in-Create.is (create_runs _ _ _ _ _ _ _ _ c.create.ensures.creates c.create.ensures.refuses c.create.ensures.writes c.create.ensures.clash)

pub returns-in-Stat-clause-runs : goal.returns-in-Stat-clause-runs
returns-in-Stat-clause-runs g c = rw c.in-Stat.is (stat_runs _ _ _ _ _ _ _ c.stat.ensures.stats c.stat.ensures.refuses c.stat.ensures.clash)

pub returns-in-List-clause-runs : goal.returns-in-List-clause-runs
returns-in-List-clause-runs g c = rw c.in-List.is (list_runs _ _ _ _ _ _ _ c.list.ensures.lists c.list.ensures.refuses c.list.ensures.clash)

pub returns-in-Put-clause-runs : goal.returns-in-Put-clause-runs
returns-in-Put-clause-runs g c =
    rw (c.in-Put.is, ← c.bytes.ensures) (put_runs _ _ _ _ _ _ _ _ _ c.put_input.ensures.puts c.put_input.ensures.refuses c.put_input.ensures.rest c.put_input.ensures.clash)

pub returns-in-Get-clause-runs : goal.returns-in-Get-clause-runs
returns-in-Get-clause-runs g c =
    rw (c.in-Get.is, ← c.bytes-in-Get.ensures) (get_runs c.ledgers_have_one_reading.ensures _ _ _ _ _ _ _ _ c.get_object.ensures.gets c.get_object.ensures.refuses c.get_object.ensures.clash)

pub returns-in-Fetch-clause-runs : goal.returns-in-Fetch-clause-runs
returns-in-Fetch-clause-runs g c =
    rw (c.in-Fetch.is, ← c.bytes-in-Fetch.ensures) (fetch_runs c.ledgers_have_one_reading.ensures _ _ _ _ _ _ _ _ c.fetch_object.ensures.fetches c.fetch_object.ensures.refuses)

pub returns-in-Fence-clause-runs : goal.returns-in-Fence-clause-runs
returns-in-Fence-clause-runs g c = rw c.in-Fence.is (fence_runs _ _ _ _ _ _ _ c.fence.ensures.fences c.fence.ensures.refuses c.fence.ensures.rest c.fence.ensures.clash)

pub returns-in-Upgrade-clause-runs : goal.returns-in-Upgrade-clause-runs
returns-in-Upgrade-clause-runs g c = rw c.in-Upgrade.is (upgrade_runs _ _ _ _ _ _ _ c.upgrade.ensures.upgrades c.upgrade.ensures.refuses c.upgrade.ensures.rest c.upgrade.ensures.clash)

pub returns-in-Scrub-clause-runs : goal.returns-in-Scrub-clause-runs
returns-in-Scrub-clause-runs g c = rw c.in-Scrub.is (scrub_runs _ _ _ _ _ _ _ c.scrub.ensures.scrubs c.scrub.ensures.refuses c.scrub.ensures.clash)

pub returns-in-Repair-clause-runs : goal.returns-in-Repair-clause-runs
returns-in-Repair-clause-runs g c =
    rw c.in-Repair.is (repair_runs c.ledgers_have_one_reading.ensures _ _ _ _ _ _ _ c.repair_archive.ensures.repairs c.repair_archive.ensures.refuses c.repair_archive.ensures.rest)

pub returns-in-Explain-clause-runs : goal.returns-in-Explain-clause-runs
returns-in-Explain-clause-runs g c =
    rw (c.in-Explain.is, ← c.bytes-in-Explain.ensures) (explain_runs c.ledgers_have_one_reading.ensures _ _ _ _ _ _ _ _ c.explain_word.ensures.explains c.explain_word.ensures.refuses c.explain_word.ensures.clash)

pub returns-in-Verify-clause-runs : goal.returns-in-Verify-clause-runs
returns-in-Verify-clause-runs g c =
    rw c.in-Verify.is (verify_runs c.ledgers_have_one_reading.ensures _ _ _ _ _ _ _ _ c.verify_report.ensures.verifies c.verify_report.ensures.refuses c.verify_report.ensures.clash)

pub returns-in-Rehearse-clause-runs : goal.returns-in-Rehearse-clause-runs
returns-in-Rehearse-clause-runs g c = rw c.in-Rehearse.is (rehearse_runs _ _ _ _ _ _ _ _ _ c.rehearse_line.ensures.rehearses c.rehearse_line.ensures.refused c.rehearse_line.ensures.disk c.rehearse_line.ensures.clash)

pub returns-in-Ingest-clause-runs : goal.returns-in-Ingest-clause-runs
returns-in-Ingest-clause-runs g c = rw c.in-Ingest.is (ingest_runs _ _ _ _ _ _ _ _ c.ingest.ensures.ingests c.ingest.ensures.refuses c.ingest.ensures.rest c.ingest.ensures.clash)

pub returns-in-Sites-clause-runs : goal.returns-in-Sites-clause-runs
returns-in-Sites-clause-runs g c = rw c.in-Sites.is (sites_runs _ _ _ _ _ _ _ c.sum_up_sites.ensures.sums_up c.sum_up_sites.ensures.refuses c.sum_up_sites.ensures.clash)

pub returns-in-Session-clause-runs : goal.returns-in-Session-clause-runs
returns-in-Session-clause-runs g c = rw c.in-Session.is (session_runs _ _ _ _ _ _ _ _ c.session.ensures.sessions c.session.ensures.refuses c.session.ensures.rest c.session.ensures.clash)

pub returns-in-Drill-clause-time : goal.returns-in-Drill-clause-time
returns-in-Drill-clause-time g c = passes_none (g.D.Disk.state c.args.disk.now)

pub returns-in-Rehearse-clause-time : goal.returns-in-Rehearse-clause-time
returns-in-Rehearse-clause-time g c = passes_none (g.D.Disk.state c.args.disk.now)
